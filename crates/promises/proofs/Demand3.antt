-- Demand 3: carried from the plain machine (Apart) by demand 2 (Follows).
use Prim.Native.Nat.{ℕ, ◌/◌}
use mathlib.Core.Path.{◌≡◌, refl, sym, ap, ◌∙◌}
use mathlib.Core.Bool.{Bool, true, false, ◌&&◌, cond}
use mathlib.Core.List.{List, [], ◌∷◌}
use lib.Dec.{eqb}
use Rattle.board.specs.declared.Shape.{Shape}
use Rattle.board.proofs.Bools.{clash, and_left, and_right}
use Rattle.machine.specs.Boards.{Board, Outcome, fits_board, Fresh}
use Rattle.machine.specs.Looks.{look_number, look}
use Rattle.promises.specs.Plain.{Plain, plain_look_number, plain_look}
use Rattle.promises.specs.Runs.{Supervisor, Call, user, supervisor, step, next, after, plain_after, plain_of}
use Rattle.promises.specs.Sound.{LinesOnce}
use Rattle.promises.specs.Demand3.{holds, holds_for_writing, ever_holds, Apart, without_others, SameFor, segment_of_page, Moves, moves, nothing, moves_of, is_nothing, no_move, handed_by, handed_lines, MovesAlike, SameForProcess, OneCopy, EveryValidHolds, OneCopyValid, Demand3, Demand3Sound}
use Rattle.promises.proofs.Soundness.{Stands, stands_of, fresh-empty, stands-fresh}
use Rattle.promises.proofs.Shown.{shows-some}
use Rattle.promises.proofs.Apart.{plain_ever, PlainApart, Handed, plain-apart}
use Rattle.promises.proofs.Holding.{ever-same, apart_either}
use Rattle.promises.proofs.Runs.{ran-keeps}
use Rattle.promises.proofs.Valid.{valid-holds-stays}
use Rattle.promises.proofs.Follows.{Stepped, follows-after, replies-to, ever-plain, handed-plain, look-after}
use Rattle.promises.proofs.Demand2.{stepped, look-plain, look-number-plain, Unfit, unfit-call, unfit-stepped, look-unfit, look-number-unfit}

-- from any board that a plain machine follows
module _ (R : Board → List ℕ → Type 0) (s : Shape) (stepped : (b : Board) (m : List ℕ) (k : Call) → R b m → Stepped R s b m k)
    (shown : (b : Board) (m : List ℕ) (line : ℕ) → R b m → look s b line ≡ plain_look s (plain_of b m) line)
    (asked : (b : Board) (m : List ℕ) (line : ℕ) → R b m → look_number s b line ≡ plain_look_number s (plain_of b m) line) (b : Board) (m : List ℕ) (x : R b m) where
  plain-premise : (ks : List Call) (process : ℕ) → Apart s b ks process → PlainApart s (plain_of b m) ks process
  plain-premise ks process h segment other l n a w =
      h segment other l n
      (ever-plain R s stepped b m ks x (λ slots. holds slots process segment) ∙ a)
      (ever-plain R s stepped b m ks x (λ slots. holds_for_writing slots other segment) ∙ w)

  plain-ever-same : (ks ls : List Call) (process : ℕ) → SameFor process ks ls → (test : List ℕ → Bool)
      → plain_ever test s (plain_of b m) ks ≡ plain_ever test s (plain_of b m) ls
  plain-ever-same ks ls process f test =
      sym (ever-plain R s stepped b m ks x test) ∙ ever-same test s process b ks ls f ∙ ever-plain R s stepped b m ls x test

  abbrev Held : List Call → ℕ → ℕ → Bool
  Held ks process segment = plain_ever (λ slots. holds slots process segment) s (plain_of b m) ks

  plain-moves : (ks ls : List Call) (process : ℕ) → MovesAlike s b ks ls process → Handed (Held ks process) s (plain_of b m) (plain_of b m) ks ls
  plain-moves ks ls process h i l =
      let e : (segment : ℕ) → ever_holds s b ks process segment ≡ Held ks process segment = λ segment. ever-plain R s stepped b m ks x (λ slots. holds slots process segment) in
      sym (handed-plain R s stepped shown (ever_holds s b ks process) (Held ks process) e i b m ks x)
      ∙ h i l
      ∙ handed-plain R s stepped shown (ever_holds s b ks process) (Held ks process) e i b m ls x

  same-process : (ks ls : List Call) (process : ℕ) → SameFor process ks ls → Apart s b ks process → MovesAlike s b ks ls process → SameForProcess s b m ks ls process
  same-process ks ls process f h v =
      let q = plain-apart s (plain_of b m) ks ls process f (plain-ever-same ks ls process f) (plain-premise ks process h) (plain-moves ks ls process v) in
      let k = follows-after R s stepped b m ks x in
      let l = follows-after R s stepped b m ls x in
      let words-k : (plain_after s (plain_of b m) ks).words ≡ (after s b ks).words = ap (λ (p : Plain). p.words) k.plain_is in
      let words-l : (plain_after s (plain_of b m) ls).words ≡ (after s b ls).words = ap (λ (p : Plain). p.words) l.plain_is in
      record {
        same_replies = replies-to R s stepped process b m ks x ∙ q.same_replies ∙ sym (replies-to R s stepped process b m ls x);
        plain_replies_lem = replies-to R s stepped process b m ks x;
        plain_replies_second = replies-to R s stepped process b m ls x;
        same_map = sym words-k ∙ q.same_words ∙ words-l;
        same_bytes = λ page frame line e g d.
            look-after R s stepped shown asked b m ks line x
            ∙ q.same_bytes page frame line (sym (ever-plain R s stepped b m ks x (λ slots. holds slots process (page / 1024))) ∙ e) (rw words-k g) d
            ∙ sym (look-after R s stepped shown asked b m ls line x);
      }

-- ---- runs without moves

-- an empty entry for each of the supervisor's calls
unfoldable pub quiet : List Call → List (List ℕ)
quiet [] = []
quiet (user q a e ∷ ks) = quiet ks
quiet (supervisor c ∷ ks) = [] ∷ quiet ks

pub handed-none : (S : ℕ → Bool) (i : ℕ) (s : Shape) (b : Board) (c : Supervisor) (o : Moves) → is_nothing o ≡ true → handed_by S i s b c o ≡ []
unfolding handed_by is_nothing
handed-none S i s b c nothing h = refl
handed-none S i s b c (moves page new) h = clash false h refl

handed-quiet : (S : ℕ → Bool) (i : ℕ) (s : Shape) (b : Board) (ks : List Call) → no_move ks ≡ true → handed_lines S i s b ks ≡ quiet ks
unfolding handed_lines no_move quiet
handed-quiet S i s b [] h = refl
handed-quiet S i s b (user q a e ∷ ks) h = handed-quiet S i s (step s b (user q a e)).after ks h
handed-quiet S i s b (supervisor c ∷ ks) h =
    let e = handed-none S i s b c (moves_of c) (and_left (is_nothing (moves_of c)) (no_move ks) h) in
    let later = handed-quiet S i s (step s b (supervisor c)).after ks (and_right (is_nothing (moves_of c)) (no_move ks) h) in
    rw (e, later)

-- the accesses of the others make none of either
pub quiet-without : (process : ℕ) (ks : List Call) → (quiet ks ≡ quiet (without_others process ks)) × (no_move ks ≡ no_move (without_others process ks))
unfolding quiet no_move without_others
quiet-without process [] = (refl, refl)
quiet-without process (supervisor c ∷ ks) = let r = quiet-without process ks in (ap (λ (l : List (List ℕ)). [] ∷ l) r.0, ap (λ (t : Bool). is_nothing (moves_of c) && t) r.1)
quiet-without process (user q a e ∷ ks) = go (eqb q process) (quiet-without process ks)
  where
    go : (t : Bool) → (quiet ks ≡ quiet (without_others process ks)) × (no_move ks ≡ no_move (without_others process ks))
        → (quiet ks ≡ quiet (cond t (user q a e ∷ without_others process ks) (without_others process ks)))
        × (no_move ks ≡ no_move (cond t (user q a e ∷ without_others process ks) (without_others process ks)))
    go true r = r
    go false r = r

without_moves : (s : Shape) (b : Board) (ks ls : List Call) (process : ℕ) → SameFor process ks ls → no_move ks ≡ true → MovesAlike s b ks ls process
without_moves s b ks ls process same h i l =
    let k = quiet-without process ks in
    let o = quiet-without process ls in
    handed-quiet (ever_holds s b ks process) i s b ks h ∙ k.0 ∙ ap quiet same ∙ sym o.0
    ∙ sym (handed-quiet (ever_holds s b ks process) i s b ls (o.1 ∙ ap no_move (sym same) ∙ sym k.1 ∙ h))

-- ---- the premise on moves, read off the other run

-- two tests that say the same of every segment
pub handed-by-same : (S T : ℕ → Bool) → ((segment : ℕ) → S segment ≡ T segment) → (i : ℕ) (s : Shape) (b : Board) (c : Supervisor) (o : Moves)
    → handed_by S i s b c o ≡ handed_by T i s b c o
unfolding handed_by
handed-by-same S T same i s b c nothing = refl
handed-by-same S T same i s b c (moves page new) = let x = same (segment_of_page new) in let y = same (segment_of_page page) in rw (x, y)

handed-same : (S T : ℕ → Bool) → ((segment : ℕ) → S segment ≡ T segment) → (i : ℕ) (s : Shape) (b : Board) (ks : List Call)
    → handed_lines S i s b ks ≡ handed_lines T i s b ks
unfolding handed_lines
handed-same S T same i s b [] = refl
handed-same S T same i s b (user q a e ∷ ks) = handed-same S T same i s (step s b (user q a e)).after ks
handed-same S T same i s b (supervisor c ∷ ks) =
    let e = handed-by-same S T same i s b c (moves_of c) in
    let later = handed-same S T same i s (step s b (supervisor c)).after ks in
    rw (e, later)

moves_either : (s : Shape) (b : Board) (ks ls : List Call) (process : ℕ) → SameFor process ks ls → MovesAlike s b ks ls process → MovesAlike s b ls ks process
moves_either s b ks ls process f h i l =
    let e : (segment : ℕ) → ever_holds s b ls process segment ≡ ever_holds s b ks process segment =
    λ segment. sym (ever-same (λ slots. holds slots process segment) s process b ks ls f) in
    handed-same (ever_holds s b ls process) (ever_holds s b ks process) e i s b ls ∙ sym (h i l)
    ∙ sym (handed-same (ever_holds s b ls process) (ever_holds s b ks process) e i s b ks)

-- ---- one copy

-- a board that doesn't fit stays as it is
pub unfit-after : (s : Shape) (b : Board) → fits_board s b ≡ false → (ks : List Call) → after s b ks ≡ b
unfit-after s b h ks =
    ran-keeps (next s) (λ c. c ≡ b)
    (λ c k e. rw e (ap (λ (o : Outcome). o.after) (unfit-call s b b.store.memory (record { no = h; same_length = refl }) k).0)) b ks refl

pub one_copy : OneCopy
one_copy s b x ks = go (fits_board s b) refl
  where
    go : (t : Bool) → fits_board s b ≡ t → LinesOnce s (after s b ks).store
    go true t = (follows-after (Stands s) s (stepped s) b b.store.memory ks (stands-fresh s b x t)).related.sim.once
    go false t = λ i j a c q. absurd (fresh-empty s b x i (rw (unfit-after s b t ks) at a))

pub every_valid_holds : EveryValidHolds
every_valid_holds s b x ks = valid-holds-stays s b (λ i v. clash _ v (x.no_line i)) ks

pub one_copy_valid : OneCopyValid
one_copy_valid s b x ks i j v w = let h = every_valid_holds s b x ks in one_copy s b x ks i j (h i v) (h j w)

pub demand3 : Demand3
demand3 = record {
  apart = λ s b x ks ls process f h v. go s b x ks ls process f h v (fits_board s b) refl;
  without_moves = without_moves;
  apart_either = apart_either;
  moves_either = moves_either;
  one_copy = one_copy;
  every_valid_holds = every_valid_holds;
  one_copy_valid = one_copy_valid;
}
  where
    go : (s : Shape) (b : Board) → Fresh b → (ks ls : List Call) (process : ℕ) → SameFor process ks ls → Apart s b ks process → MovesAlike s b ks ls process
        → (t : Bool) → fits_board s b ≡ t → SameForProcess s b b.store.memory ks ls process
    go s b x ks ls process f h v true t = same-process (Stands s) s (stepped s) (look-plain s) (look-number-plain s) b b.store.memory (stands-fresh s b x t) ks ls process f h v
    go s b x ks ls process f h v false t =
        same-process (Unfit s) s (unfit-stepped s) (look-unfit s) (look-number-unfit s) b b.store.memory (record { no = t; same_length = refl }) ks ls process f h v

-- a sound board stands for what it shows
pub demand3-sound : Demand3Sound
demand3-sound = record {
  apart = λ s b m x y ks ls process f h v.
      same-process (Stands s) s (stepped s) (look-plain s) (look-number-plain s) b m (stands_of s b m x y) ks ls process f h v;
  one_copy = λ s b x ks. (follows-after (Stands s) s (stepped s) b _ ks (stands_of s b _ x (shows-some s b x.shape_holds))).related.sim.once;
}
