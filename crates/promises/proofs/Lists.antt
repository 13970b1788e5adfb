-- A list is its accesses as calls: by the accesses one by one, then turn by turn. Stands on Lengths, Runs and Brought.
use Prim.Native.Nat.{ℕ, zero, suc, ◌+◌, ◌*◌, ◌<◌}
use mathlib.Core.Path.{◌≡◌, ◌∙◌, refl, sym, ap, ap₂}
use mathlib.Core.Bool.{Bool, true, false, ◌&&◌, cond}
use mathlib.Core.List.{List, [], ◌∷◌, ◌++◌, map}
use native.Mathlib.Nat.{add-zero}
use native.Mathlib.Omega.{arith}
use lib.Dec.{eqb}
use lib.ListN.{length, get_or}
use borrow.Author.Tests.{eqb-true, eq-eqb}
use Rattle.board.specs.declared.Shape.{Shape}
use Rattle.board.specs.declared.Answer.{Answer}
use Rattle.board.proofs.Bools.{and_left, and_right}
use Rattle.machine.specs.Boards.{Board, fits_board}
use Rattle.machine.specs.Looks.{look}
use Rattle.machine.specs.Refusals.{by_table}
use Rattle.machine.specs.Lists.{Asked, access_words, ask_at, asks_from, access_on, one_by_one, Listed, taken, list_refused, list_done, user_accesses}
use Rattle.promises.specs.Runs.{ran, gained, user, supervisor, step, after, Reply, reply, plain_of}
use Rattle.promises.specs.Sound.{LinesOnce}
use Rattle.promises.specs.Brought.{Brought, bring, brought_next, brought_reply, brought_after, brought_replies, plain_brought_replies, brought_replies_to, EachBrings, TwoRuns, BroughtApart, BroughtMovesAlike, BroughtSameForProcess}
use Rattle.promises.specs.Lists.{as_call, first_calls, IsCalls, Turn, single, list, turn_after, turn_replies, turn_calls, after_turns, replies_of, calls_of, replies_among, ListRuns, ListsAreCalls}
use Rattle.promises.proofs.Lengths.{fits-same}
use Rattle.promises.proofs.Runs.{ran-more, gained-more, ran-keeps}
use Rattle.promises.proofs.Brought.{brought-demand2, brought-demand2-sound, brought-demand3, brought-demand3-sound}

-- ---- accesses one by one

abbrev bring_all : Shape → List Asked → List Brought
bring_all s ks = map (bring s) (map as_call ks)

calls-after : (s : Shape) (b : Board) (ks : List Asked) → (one_by_one s b ks).after ≡ after s b (map as_call ks)
unfolding one_by_one ran step
calls-after s b [] = refl
calls-after s b (k ∷ ks) = calls-after s (access_on s b k).after ks

brings-after : (s : Shape) (b : Board) (ks : List Asked) → (one_by_one s b ks).after ≡ brought_after b (bring_all s ks)
unfolding one_by_one ran brought_next step
brings-after s b [] = refl
brings-after s b (k ∷ ks) = brings-after s (access_on s b k).after ks

brings-replies : (s : Shape) (b : Board) (ks : List Asked) → map reply (one_by_one s b ks).answers ≡ brought_replies b (bring_all s ks)
unfolding one_by_one gained brought_next brought_reply step
brings-replies s b [] = refl
brings-replies s b (k ∷ ks) = ap (λ (l : List Reply). reply (access_on s b k).answer ∷ l) (brings-replies s (access_on s b k).after ks)

module _ (s : Shape) (accesses : List ℕ) where
  calls-many : (b : Board) (i n : ℕ) → length (one_by_one s b (asks_from accesses i n)).answers ≡ n
  unfolding one_by_one asks_from
  calls-many b i zero = refl
  calls-many b i (suc n) = ap suc (calls-many (access_on s b (ask_at accesses i)).after (suc i) n)

  calls-each : (b : Board) (j n i : ℕ) (other : Answer) → i < n
      → get_or (one_by_one s b (asks_from accesses j n)).answers i other ≡ (step s (after s b (map as_call (asks_from accesses j i))) (as_call (ask_at accesses (j + i)))).answer
  unfolding one_by_one asks_from ran step
  calls-each b j zero i other h = absurd (omega arith)
  calls-each b j (suc n) zero other h = rw (add-zero j) refl
  calls-each b j (suc n) (suc i) other h =
      let z : j + suc i ≡ suc j + i = omega arith in
      rw z (calls-each (access_on s b (ask_at accesses j)).after (suc j) n i other (omega arith))

-- ---- one list

module _ (s : Shape) (b : Board) (accesses : List ℕ) (answers : List Answer) where
  list-taken : taken s b accesses answers ≡ true → user_accesses s b accesses answers ≡ list_done (one_by_one s b (asks_from accesses 0 (length answers)))
  unfolding user_accesses by_table
  list-taken h = rw h

  list-refused : taken s b accesses answers ≡ false → user_accesses s b accesses answers ≡ list_refused answers b 1
  unfolding user_accesses by_table
  list-refused h = rw h

  calls-of-list : fits_board s b ≡ true → length accesses ≡ access_words * length answers → IsCalls s b accesses answers
  calls-of-list f l =
      let e = list-taken (rw (f, eq-eqb (length accesses) (access_words * length answers) l)) in
      record {
        done = ap (λ (x : Listed). x.answer) e;
        as_many = ap (λ (x : Listed). length x.left.answers) e ∙ calls-many s accesses b 0 (length answers);
        each = λ i other h. ap (λ (x : Listed). get_or x.left.answers i other) e ∙ each_at i other h;
        board_after = ap (λ (x : Listed). x.left.after) e ∙ calls-after s b (asks_from accesses 0 (length answers));
      }
    where
      each_at : (i : ℕ) (other : Answer) → i < length answers
          → get_or (one_by_one s b (asks_from accesses 0 (length answers))).answers i other ≡ (step s (after s b (first_calls accesses i)) (as_call (ask_at accesses i))).answer
      each_at i other h =
          let z : 0 + i ≡ i = omega arith in
          rw z at (calls-each s accesses b 0 (length answers) i other h)

  other-refused : (fits_board s b ≡ true → length accesses ≡ access_words * length answers → ⊥) → user_accesses s b accesses answers ≡ list_refused answers b 1
  other-refused n = go (taken s b accesses answers) refl
    where
      go : (t : Bool) → taken s b accesses answers ≡ t → user_accesses s b accesses answers ≡ list_refused answers b 1
      go true e =
          absurd (n (and_left (fits_board s b) _ e) (eqb-true (length accesses) (access_words * length answers) (and_right (fits_board s b) _ e)))
      go false e = list-refused e

-- ---- turns

-- a turn is its calls
record Same (b : Board) (t : Turn) : Type 0 where
  board_same : turn_after b t ≡ brought_after b (turn_calls b t)
  replies_same : turn_replies b t ≡ brought_replies b (turn_calls b t)

module _ (s : Shape) (b : Board) (accesses : List ℕ) (answers : List Answer) where
  -- the calls and the replies of a list, by whether it is taken
  by-calls : Bool → List Brought
  by-calls t = cond t (map (bring s) (first_calls accesses (length answers))) []

  by-replies : Bool → List Reply
  by-replies t = cond t (map reply (user_accesses s b accesses answers).left.answers) []

  same_list : (t : Bool) → taken s b accesses answers ≡ t → Same b (list s accesses answers)
  unfolding turn_after turn_replies turn_calls ran gained by-calls by-replies
  same_list true h =
      let e = list-taken s b accesses answers h in
      record {
        board_same =
            ap (λ (x : Listed). x.left.after) e ∙ brings-after s b (asks_from accesses 0 (length answers))
            ∙ ap (λ (t : Bool). brought_after b (by-calls t)) (sym h);
        replies_same =
            ap by-replies h ∙ ap (λ (x : Listed). map reply x.left.answers) e ∙ brings-replies s b (asks_from accesses 0 (length answers))
            ∙ ap (λ (t : Bool). brought_replies b (by-calls t)) (sym h);
      }
  same_list false h =
      let e = list-refused s b accesses answers h in
      record {
        board_same = ap (λ (x : Listed). x.left.after) e ∙ ap (λ (t : Bool). brought_after b (by-calls t)) (sym h);
        replies_same = ap by-replies h ∙ ap (λ (t : Bool). brought_replies b (by-calls t)) (sym h);
      }

same_turn : (b : Board) (t : Turn) → Same b t
unfolding turn_after turn_replies turn_calls ran gained brought_next brought_reply
same_turn b (single s k) = record { board_same = refl; replies_same = refl }
same_turn b (list s accesses answers) = same_list s b accesses answers (taken s b accesses answers) refl

-- what fits a board fits it after any calls, so a turn stands for the same calls then
fits-brought : (u : Shape) (b : Board) (k : Brought) → fits_board u (brought_next b k) ≡ fits_board u b
unfolding brought_next
fits-brought u b (bring s k) = fits-same u s b k

pub fits_after : (u : Shape) (b : Board) (ks : List Brought) → fits_board u (brought_after b ks) ≡ fits_board u b
fits_after u b ks = ran-keeps brought_next (λ c. fits_board u c ≡ fits_board u b) (λ c k e. fits-brought u c k ∙ e) b ks refl

pub calls-kept : (b c : Board) (ts : List Turn) → ((u : Shape) → fits_board u c ≡ fits_board u b) → calls_of c ts ≡ calls_of b ts
unfolding calls_of turn_calls
calls-kept b c [] h = refl
calls-kept b c (single s k ∷ ts) h = ap (λ (l : List Brought). bring s k ∷ l) (calls-kept b c ts h)
calls-kept b c (list s accesses answers ∷ ts) h =
    ap₂ (λ (x : Bool) (l : List Brought). cond (x && eqb (length accesses) (access_words * length answers)) (map (bring s) (first_calls accesses (length answers))) [] ++ l)
    (h s) (calls-kept b c ts h)

-- ---- runs

-- the calls of the turns that follow, by the board that they come to
rest-calls : (b : Board) (t : Turn) (ts : List Turn) → calls_of (turn_after b t) ts ≡ calls_of b ts
rest-calls b t ts = calls-kept b (turn_after b t) ts (λ u. ap (fits_board u) (same_turn b t).board_same ∙ fits_after u b (turn_calls b t))

turns-after : (b : Board) (ts : List Turn) → after_turns b ts ≡ brought_after b (calls_of b ts)
unfolding ran calls_of
turns-after b [] = refl
turns-after b (t ∷ ts) =
    turns-after (turn_after b t) ts
    ∙ ap₂ brought_after (same_turn b t).board_same (rest-calls b t ts)
    ∙ sym (ran-more brought_next b (turn_calls b t) (calls_of b ts))

turns-replies : (b : Board) (ts : List Turn) → replies_of b ts ≡ brought_replies b (calls_of b ts)
unfolding replies_of calls_of gained
turns-replies b [] = refl
turns-replies b (t ∷ ts) =
    ap₂ (λ (x y : List Reply). x ++ y) (same_turn b t).replies_same
    (turns-replies (turn_after b t) ts ∙ ap₂ brought_replies (same_turn b t).board_same (rest-calls b t ts))
    ∙ sym (gained-more brought_next brought_reply b (turn_calls b t) (calls_of b ts))

-- the replies to a process, picked out
among : (process : ℕ) (b : Board) (ks : List Brought) → replies_among process ks (brought_replies b ks) ≡ brought_replies_to process b ks
unfolding replies_among gained brought_next brought_reply brought_replies_to
among process b [] = refl
among process b (bring s (user q a e) ∷ ks) =
    ap (λ (l : List Reply). cond (eqb q process) (reply (step s b (user q a e)).answer ∷ l) l) (among process (step s b (user q a e)).after ks)
among process b (bring s (supervisor c) ∷ ks) = among process (step s b (supervisor c)).after ks

pub got : (process : ℕ) (b : Board) (ts : List Turn) → replies_among process (calls_of b ts) (replies_of b ts) ≡ brought_replies_to process b (calls_of b ts)
got process b ts = ap (replies_among process (calls_of b ts)) (turns-replies b ts) ∙ among process b (calls_of b ts)

-- what is promised of brought runs from a board is promised of those in which lists come
list-runs : (s : Shape) (b : Board) (m : List ℕ)
    → ((ks : List Brought) → EachBrings s b ks → brought_replies b ks ≡ plain_brought_replies (plain_of b m) ks)
    → ((ks ls : List Brought) (process : ℕ) → TwoRuns s b ks ls process → BroughtApart s b ks process → BroughtMovesAlike b ks ls process
    → BroughtSameForProcess s b m ks ls process)
    → ((ks : List Brought) → EachBrings s b ks → LinesOnce s (brought_after b ks).store) → ListRuns s b m
list-runs s b m plain apart once = record {
  plain = λ ts h. turns-replies b ts ∙ plain (calls_of b ts) h;
  apart = λ ts us process h p v. got process b ts ∙ (apart (calls_of b ts) (calls_of b us) process h p v).same_replies ∙ sym (got process b us);
  bytes = λ ts us process h p v page frame line held at in_frame.
      ap (λ (c : Board). look s c line) (turns-after b ts)
      ∙ (apart (calls_of b ts) (calls_of b us) process h p v).same_bytes page frame line held (rw (turns-after b ts) at at) in_frame
      ∙ sym (ap (λ (c : Board). look s c line) (turns-after b us));
  one_copy = λ ts h. rw (turns-after b ts) (once (calls_of b ts) h);
}

pub lists-are-calls : ListsAreCalls
lists-are-calls = record {
  is_calls = calls-of-list;
  refused_else = other-refused;
  runs_after = turns-after;
  runs_replies = turns-replies;
  runs_fresh = λ s b f.
      list-runs s b b.store.memory (λ ks h. (brought-demand2 s b f ks h).same_replies) (λ ks ls process h p v. brought-demand3.apart s b f ks ls process h p v)
      (λ ks h. brought-demand3.one_copy s b f ks h);
  runs_sound = λ s b m x y.
      list-runs s b m (λ ks h. (brought-demand2-sound s b m x y ks h).alike.same_replies)
      (λ ks ls process h p v. brought-demand3-sound.apart s b m x y ks ls process h p v) (λ ks h. brought-demand3-sound.one_copy s b x ks h);
}
