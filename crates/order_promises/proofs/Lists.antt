-- Runs in which lists of accesses come are the runs of the calls that they stand for, so the order of those calls may change likewise.
-- Stands on Slots, and on Lists of `promises`.
use Prim.Native.Nat.{ℕ, suc, ◌<◌}
use mathlib.Core.Path.{◌≡◌, refl, sym, ap, ap₂, ◌∙◌}
use mathlib.Core.Bool.{Bool, true, false, not, cond}
use mathlib.Core.List.{List, [], ◌∷◌, ◌++◌, append_assoc}
use native.Mathlib.Omega.{arith}
use lib.ListN.{length, get_or, take, length-append}
use lib.Seq.{take-suc, take-append_seam, get_or-append_seam}
use Rattle.board.specs.declared.Shape.{Shape}
use Rattle.board.specs.declared.Answer.{Answer}
use Rattle.machine.specs.Boards.{Board, fits_board}
use Rattle.machine.specs.Refusals.{by_table}
use Rattle.machine.specs.Lists.{asks_from, one_by_one, taken, list_refused, list_done, user_accesses}
use Rattle.promises.specs.Runs.{supervisor, Supervisor, flush_all, Reply}
use Rattle.promises.specs.Brought.{Brought, bring, brought_after, brought_replies, EachBrings}
use Rattle.promises.specs.Lists.{Turn, single, turn_calls, after_turns, replies_of, calls_of}
use Rattle.promises.proofs.Lists.{fits_after, calls-kept, lists-are-calls}
use Rattle.order_promises.specs.Strangers.{is_supervisors, call_of, broughts, call_at, reply_at}
use Rattle.order_promises.specs.Reorderings.{Reordering}
use Rattle.order_promises.specs.Order.{SameShown, SameReordered, OrderOf, OrderOfLists}
use Rattle.order_promises.proofs.Reorderings.{call-at}
use Rattle.order_promises.proofs.Slots.{reorderings_brought}

-- ---- the calls of turns

calls-more : (b : Board) (xs ys : List Turn) → calls_of b (xs ++ ys) ≡ calls_of b xs ++ calls_of b ys
unfolding calls_of
calls-more b [] ys = refl
calls-more b (t ∷ xs) ys = ap (λ (l : List Brought). turn_calls b t ++ l) (calls-more b xs ys) ∙ sym (append_assoc (turn_calls b t) (calls_of b xs) (calls_of b ys))

-- a single call behind the turns xs
calls-single : (b : Board) (xs : List Turn) (t : Shape) (c : Supervisor) (behind : List Turn)
    → calls_of b (xs ++ single t (supervisor c) ∷ behind) ≡ calls_of b xs ++ bring t (supervisor c) ∷ calls_of b behind
unfolding calls_of turn_calls
calls-single b xs t c behind = calls-more b xs (single t (supervisor c) ∷ behind)

-- what fits the board fits it after any turns, so turns stand for the same calls then
fits-turns : (b : Board) (ts : List Turn) (u : Shape) → fits_board u (after_turns b ts) ≡ fits_board u b
fits-turns b ts u = ap (fits_board u) (lists-are-calls.runs_after b ts) ∙ fits_after u b (calls_of b ts)

calls-after : (b : Board) (ts later : List Turn) → calls_of (after_turns b ts) later ≡ calls_of b later
calls-after b ts later = calls-kept b (after_turns b ts) later (fits-turns b ts)

-- the board after later turns, and what they get, by their calls
later-after : (b : Board) (ts later : List Turn) → after_turns (after_turns b ts) later ≡ brought_after (brought_after b (calls_of b ts)) (calls_of b later)
later-after b ts later =
    lists-are-calls.runs_after (after_turns b ts) later ∙ ap₂ brought_after (lists-are-calls.runs_after b ts) (calls-after b ts later)

later-gets : (b : Board) (ts later : List Turn) → replies_of (after_turns b ts) later ≡ brought_replies (brought_after b (calls_of b ts)) (calls_of b later)
later-gets b ts later =
    lists-are-calls.runs_replies (after_turns b ts) later ∙ ap₂ brought_replies (lists-are-calls.runs_after b ts) (calls-after b ts later)

-- ---- what a list gets itself: by whether it is taken

list_same : (t : Shape) (c d : Board) (accesses : List ℕ) (answers : List Answer) → fits_board t c ≡ fits_board t d
    → (user_accesses t c accesses answers).answer ≡ (user_accesses t d accesses answers).answer
unfolding user_accesses by_table
list_same t c d accesses answers e = rw e (go (taken t d accesses answers))
  where
    go : (x : Bool) → (cond (not x) (list_refused answers c 1) (list_done (one_by_one t c (asks_from accesses 0 (length answers))))).answer
        ≡ (cond (not x) (list_refused answers d 1) (list_done (one_by_one t d (asks_from accesses 0 (length answers))))).answer
    go true = refl
    go false = refl

fits-later : (b : Board) (ts us later : List Turn) (t : Shape) → fits_board t (after_turns (after_turns b ts) later) ≡ fits_board t (after_turns (after_turns b us) later)
fits-later b ts us later t =
    fits-turns (after_turns b ts) later t ∙ fits-turns b ts t ∙ sym (fits-turns (after_turns b us) later t ∙ fits-turns b us t)

-- ---- a list and a turn in it

module _ (ks xs : List Brought) (k : Brought) (behind : List Brought) (e : ks ≡ xs ++ k ∷ behind) where
  seam-inside : length xs < length ks
  seam-inside = let z = ap length e ∙ length-append xs (k ∷ behind) in omega arith

  seam-turn : (other : Brought) → get_or ks (length xs) other ≡ k
  seam-turn other = rw e (get_or-append_seam xs k behind other)

  seam-before : take (length xs) ks ≡ xs
  seam-before = rw e (take-append_seam xs (k ∷ behind))

  seam-after : take (suc (length xs)) ks ≡ xs ++ k ∷ []
  seam-after = take-suc ks (length xs) k seam-inside ∙ ap₂ (λ (l : List Brought) (x : Brought). l ++ x ∷ []) seam-before (seam-turn k)

-- ---- the runs

module _ (s : Shape) (b : Board) (o : OrderOf (broughts s) s b) (ts us : List Turn) (h : EachBrings s b (calls_of b ts))
    (r : Reordering (broughts s) b (calls_of b ts) (calls_of b us)) where
  abbrev alike : SameReordered (broughts s) s b (calls_of b ts) (calls_of b us) r.places.to
  alike = o.reorder (calls_of b ts) (calls_of b us) h r

  told : (xs : List Turn) (i : ℕ) → reply_at (replies_of b xs) i ≡ reply_at (brought_replies b (calls_of b xs)) i
  told xs i = ap (λ (l : List Reply). reply_at l i) (lists-are-calls.runs_replies b xs)

  module _ (xs xs' ys ys' : List Turn) (t : Shape) (c : Supervisor) (e : ts ≡ xs ++ single t (supervisor c) ∷ xs') (f : us ≡ ys ++ single t (supervisor c) ∷ ys')
      (g : length (calls_of b xs) ≡ length (calls_of b ys)) where
    abbrev n : ℕ
    n = length (calls_of b xs)

    abbrev k : Brought
    k = bring t (supervisor c)

    first-seam : calls_of b ts ≡ calls_of b xs ++ k ∷ calls_of b xs'
    first-seam = ap (calls_of b) e ∙ calls-single b xs t c xs'

    second-seam : calls_of b us ≡ calls_of b ys ++ k ∷ calls_of b ys'
    second-seam = ap (calls_of b) f ∙ calls-single b ys t c ys'

    inside : n < length (calls_of b ts)
    inside = seam-inside (calls_of b ts) (calls_of b xs) k (calls_of b xs') first-seam

    supervisors : is_supervisors (call_at (broughts s) (calls_of b ts) n) ≡ true
    unfolding is_supervisors call_of
    supervisors =
        ap is_supervisors (call-at (broughts s) (bring s (supervisor flush_all)) refl (calls_of b ts) n
        ∙ ap call_of (seam-turn (calls_of b ts) (calls_of b xs) k (calls_of b xs') first-seam (bring s (supervisor flush_all))))

    there : r.places.to n ≡ length (calls_of b ys)
    there = (reorderings_brought b s).supervisors_stay (calls_of b ts) (calls_of b us) r n inside supervisors ∙ g

    lists-before : SameShown s (after_turns b xs) (after_turns b ys)
    lists-before =
        rw (lists-are-calls.runs_after b xs, lists-are-calls.runs_after b ys)
        (rw (there, seam-before (calls_of b us) (calls_of b ys) k (calls_of b ys') second-seam, seam-before (calls_of b ts) (calls_of b xs) k (calls_of b xs') first-seam) at
        (alike.shown_before n inside supervisors))

    lists-behind : SameShown s (after_turns b (xs ++ single t (supervisor c) ∷ [])) (after_turns b (ys ++ single t (supervisor c) ∷ []))
    unfolding calls_of
    lists-behind =
        rw (
          lists-are-calls.runs_after b (xs ++ single t (supervisor c) ∷ []),
          lists-are-calls.runs_after b (ys ++ single t (supervisor c) ∷ []),
          calls-single b xs t c [],
          calls-single b ys t c [],
        )
        (rw (there, seam-after (calls_of b us) (calls_of b ys) k (calls_of b ys') second-seam, seam-after (calls_of b ts) (calls_of b xs) k (calls_of b xs') first-seam) at
        (alike.shown_after n inside supervisors))

  -- later turns
  module _ (later : List Turn) (j : EachBrings s (after_turns b ts) (calls_of b later)) where
    brings-after : EachBrings s (brought_after b (calls_of b ts)) (calls_of b later)
    brings-after = rw (lists-are-calls.runs_after b ts) at j

    lists-shown : SameShown s (after_turns (after_turns b ts) later) (after_turns (after_turns b us) later)
    lists-shown = rw (later-after b ts later, later-after b us later) (alike.onward.shown (calls_of b later) brings-after)

    lists-later : replies_of (after_turns b ts) later ≡ replies_of (after_turns b us) later
    lists-later = later-gets b ts later ∙ alike.onward.later_replies (calls_of b later) brings-after ∙ sym (later-gets b us later)

pub lists-ordered : (s : Shape) (b : Board) → OrderOf (broughts s) s b → OrderOfLists s b
lists-ordered s b o ts us h r = record {
  same_replies = λ i l. told s b o ts us h r ts i ∙ (alike s b o ts us h r).same_replies i l ∙ sym (told s b o ts us h r us (r.places.to i));
  shown_before = lists-before s b o ts us h r;
  shown_after = lists-behind s b o ts us h r;
  shown = lists-shown s b o ts us h r;
  later_replies = lists-later s b o ts us h r;
  later_list = λ later t accesses answers. list_same t (after_turns (after_turns b ts) later) (after_turns (after_turns b us) later) accesses answers (fits-later b ts us later t);
}
