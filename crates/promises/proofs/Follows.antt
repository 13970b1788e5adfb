-- A plain machine that follows a board, call by call: what holds of one call holds of a list of calls.
-- Stands on Runs, and on Apart for what is held at some moment.
use Prim.Native.Nat.{ℕ, ◌+◌, ◌*◌}
use mathlib.Core.Path.{◌≡◌, refl, sym, ap, ◌∙◌}
use mathlib.Core.Bool.{Bool}
use mathlib.Core.List.{List, [], ◌∷◌}
use Rattle.address.specs.Layout.{page_lines}
use Rattle.pages.specs.Pages.{mapped_to}
use Rattle.board.specs.declared.Shape.{Shape}
use Rattle.machine.specs.Boards.{Board}
use Rattle.machine.specs.Calls.{found_frame}
use Rattle.machine.specs.Looks.{look_number, look}
use Rattle.promises.specs.Plain.{Plain, Given, given, plain_look_number, plain_look}
use Rattle.promises.specs.Runs.{Supervisor, Call, user, supervisor, reply, step, next, after, replies, plain_reply, plain_step, plain_next, plain_after, plain_replies, plain_of}
use Rattle.promises.specs.Demand2.{Alike}
use Rattle.promises.specs.Demand3.{at_some_moment, replies_to, plain_replies_to, segment_of_page, Moves, moves, nothing, moves_of, handed_by, handed_lines}
use Rattle.promises.proofs.Views.{plain_handed}
use Rattle.promises.proofs.Apart.{plain_ever, plain_handed_lines}
use Rattle.promises.proofs.Runs.{ran-both, gained-both, moment-both}

-- the plain machine is the board with some memory, and R relates that memory to the board
pub record Follows (R : Board → List ℕ → Type 0) (b : Board) (p : Plain) : Type 0 where
  pub memory : List ℕ
  pub plain_is : p ≡ plain_of b memory
  pub related : R b memory

-- one call: the plain machine gives the board's number and value, and is the board after it with some memory, again related
pub record Stepped (R : Board → List ℕ → Type 0) (s : Shape) (b : Board) (m : List ℕ) (k : Call) : Type 0 where
  pub memory : List ℕ
  pub given_is : plain_step s (plain_of b m) k ≡ given (step s b k).answer.number (step s b k).answer.value (plain_of (step s b k).after memory)
  pub related : R (step s b k).after memory

-- so it still follows, and gives the same
module _ (R : Board → List ℕ → Type 0) (s : Shape) (b : Board) (p : Plain) (k : Call) (f : Follows R b p) (r : Stepped R s b f.memory k) where
  given-same : plain_step s p k ≡ given (step s b k).answer.number (step s b k).answer.value (plain_of (step s b k).after r.memory)
  given-same = ap (λ (q : Plain). plain_step s q k) f.plain_is ∙ r.given_is

  pub follows-step : Follows R (step s b k).after (plain_step s p k).after
  follows-step = record { memory = r.memory; plain_is = ap (λ (g : Given). g.after) given-same; related = r.related }

  pub follows-reply : reply (step s b k).answer ≡ plain_reply (plain_step s p k)
  follows-reply = sym (ap plain_reply given-same)

  pub follows-number : (plain_step s p k).number ≡ (step s b k).answer.number
  follows-number = ap (λ (g : Given). g.number) given-same

pub follows-now : (R : Board → List ℕ → Type 0) (b : Board) (m : List ℕ) → R b m → Follows R b (plain_of b m)
follows-now R b m x = record { memory = m; plain_is = refl; related = x }

-- a list of calls
module _ (R : Board → List ℕ → Type 0) (s : Shape) (stepped : (b : Board) (m : List ℕ) (k : Call) → R b m → Stepped R s b m k) where
  abbrev one-call : (b : Board) (p : Plain) (k : Call) (f : Follows R b p) → Stepped R s b f.memory k
  one-call b p k f = stepped b f.memory k f.related

  abbrev Followed : Board → Plain → List Call → Type 0
  Followed b p ks = Follows R b p

  still : (b : Board) (p : Plain) (k : Call) (ks : List Call) → Followed b p (k ∷ ks) → Followed (next s b k) (plain_next s p k) ks
  still b p k ks f = follows-step R s b p k f (one-call b p k f)

  module _ (b : Board) (m : List ℕ) (ks : List Call) (x : R b m) where
    pub follows-after : Follows R (after s b ks) (plain_after s (plain_of b m) ks)
    follows-after = ran-both (next s) (plain_next s) Followed still b (plain_of b m) ks (follows-now R b m x)

    replies_same : replies s b ks ≡ plain_replies s (plain_of b m) ks
    replies_same =
        gained-both (next s) (plain_next s) Followed still (λ c k. reply (step s c k).answer) (λ q k. plain_reply (plain_step s q k))
        (λ c q k js f. follows-reply R s c q k f (one-call c q k f)) b (plain_of b m) ks (follows-now R b m x)

    -- what the slots are at some moment
    pub ever-plain : (test : List ℕ → Bool) → at_some_moment test s b ks ≡ plain_ever test s (plain_of b m) ks
    ever-plain test =
        moment-both (next s) (plain_next s) Followed still (λ c. test c.slots) (λ q. test q.slots)
        (λ c q js f. ap (λ (z : Plain). test z.slots) (sym f.plain_is)) b (plain_of b m) ks (follows-now R b m x)

  -- the replies to one process
  pub replies-to : (process : ℕ) (b : Board) (m : List ℕ) (ks : List Call) → R b m → replies_to process s b ks ≡ plain_replies_to process s (plain_of b m) ks
  unfolding replies_to plain_replies_to
  replies-to process b m [] x = refl
  replies-to process b m (user q a e ∷ ks) x =
      let r = stepped b m (user q a e) x in
      let z = r.given_is in
      let i = replies-to process (step s b (user q a e)).after r.memory ks r.related in
      rw (z, i)
  replies-to process b m (supervisor c ∷ ks) x =
      let r = stepped b m (supervisor c) x in
      let z = r.given_is in
      rw z (replies-to process (step s b (supervisor c)).after r.memory ks r.related)

  -- what the pages that are moved in show, into the segments of S, which are those of T
  module _ (shown : (b : Board) (m : List ℕ) (line : ℕ) → R b m → look s b line ≡ plain_look s (plain_of b m) line)
      (S T : ℕ → Bool) (same : (segment : ℕ) → S segment ≡ T segment) (i : ℕ) where
    handed-call : (b : Board) (m : List ℕ) (c : Supervisor) → R b m → (o : Moves) → handed_by S i s b c o ≡ plain_handed T i s (plain_of b m) c o
    unfolding handed_by plain_handed step plain_step
    handed-call b m c x nothing = refl
    handed-call b m c x (moves page new) =
        let z = ap (λ (g : Given). g.number) (stepped b m (supervisor c) x).given_is in
        rw (z, same (segment_of_page new), same (segment_of_page page), shown b m (found_frame (mapped_to s b.words page) * page_lines + i) x)

    pub handed-plain : (b : Board) (m : List ℕ) (ks : List Call) → R b m → handed_lines S i s b ks ≡ plain_handed_lines T i s (plain_of b m) ks
    unfolding handed_lines plain_handed_lines
    handed-plain b m [] x = refl
    handed-plain b m (user q a e ∷ ks) x =
        let r = stepped b m (user q a e) x in
        let z = r.given_is in
        rw z (handed-plain (step s b (user q a e)).after r.memory ks r.related)
    handed-plain b m (supervisor c ∷ ks) x =
        let r = stepped b m (supervisor c) x in
        let z = r.given_is in
        let e = handed-call b m c x (moves_of c) in
        let later = handed-plain (step s b (supervisor c)).after r.memory ks r.related in
        rw (z, e, later)

  module _ (shown : (b : Board) (m : List ℕ) (line : ℕ) → R b m → look s b line ≡ plain_look s (plain_of b m) line)
      (asked : (b : Board) (m : List ℕ) (line : ℕ) → R b m → look_number s b line ≡ plain_look_number s (plain_of b m) line) where
    pub look-after : (b : Board) (m : List ℕ) (ks : List Call) (line : ℕ) → R b m → look s (after s b ks) line ≡ plain_look s (plain_after s (plain_of b m) ks) line
    look-after b m ks line x = let r = follows-after b m ks x in rw r.plain_is (shown (after s b ks) r.memory line r.related)

    pub alike : (b : Board) (m : List ℕ) (ks : List Call) → R b m → Alike s b m ks
    alike b m ks x =
        let r = follows-after b m ks x in
        record {
          same_replies = replies_same b m ks x;
          same_bytes = λ line. look-after b m ks line x;
          same_look_number = λ line. rw r.plain_is (asked (after s b ks) r.memory line r.related);
          done_at_once = λ k h. sym (follows-number R s (after s b ks) (plain_after s (plain_of b m) ks) k r (one-call (after s b ks) _ k r)) ∙ h;
        }
