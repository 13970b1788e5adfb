-- The slots of a run are a machine of their own: what a turn makes of them hangs on them alone. So what a reordering comes to is shown on any board.
-- Stands on Reorderings, Holding and Lengths.
use Prim.{Unit, tt}
use Prim.Native.Nat.{ℕ, zero, suc, ◌+◌, ◌-◌, ◌≤◌, ◌<◌}
use mathlib.Core.Path.{◌≡◌, refl, sym, ap, ◌∙◌}
use mathlib.Core.Bool.{Bool, true, false, true≢false}
use mathlib.Core.List.{List, [], ◌∷◌, ◌++◌, append_assoc}
use native.Mathlib.Omega.{arith}
use lib.Dec.{eqb}
use lib.ListN.{length, get_or, take}
use borrow.Author.Tests.{eqb-true, eqb-false}
use Rattle.board.specs.declared.Shape.{Shape}
use Rattle.machine.specs.Boards.{Board, fits_board}
use Rattle.promises.specs.Runs.{ran, Call, user, supervisor, flush_all}
use Rattle.promises.specs.Brought.{Brought, bring, brought_next}
use Rattle.promises.proofs.Lengths.{fits-same}
use Rattle.promises.proofs.Runs.{ran-more, ran-both}
use Rattle.promises.proofs.Holding.{slots_by, slots-step}
use Rattle.order_promises.specs.Strangers.{is_supervisors, Kind, calls, call_of, broughts, board_after, board_at, call_at}
use Rattle.order_promises.specs.Reorderings.{Reordering, BySwaps, none, one_more, ReorderingsAre}
use Rattle.order_promises.proofs.Turns.{ran-one, ran-place}
use Rattle.order_promises.proofs.Reorder.{Swaps, Moves, Same, same, Reached, same_list, swap_front, after_first, one_then, reached}
use Rattle.order_promises.proofs.Crossings.{cross-other}
use Rattle.order_promises.proofs.Reorderings.{Cross, Stays, cross-first, cross-second, call-at, moves, reordering-none, reordering-at}

module _ {T : Type 0} (w : Kind T) (filler : T) (filler-call : w.call filler ≡ supervisor flush_all) (b : Board) (next : List ℕ → T → List ℕ)
    (keeps : (slots : List ℕ) (k : T) → is_supervisors (w.call k) ≡ false → next slots k ≡ slots)
    (run-slots : (ks : List T) → (board_after w b ks).slots ≡ ran next b.slots ks) where
  abbrev nothing : List ℕ → T → Unit {0}
  nothing slots k = tt

  abbrev all : List ℕ → List ℕ
  all slots = slots

  keeps-first : (slots : List ℕ) (k l : T) → Cross w slots k l → next slots k ≡ slots
  keeps-first slots k l x = keeps slots k (cross-first slots (w.call k) (w.call l) x)

  keeps-second : (slots : List ℕ) (k l : T) → Cross w slots k l → next slots l ≡ slots
  keeps-second slots k l x = keeps slots l (cross-second slots (w.call k) (w.call l) x)

  laws : Swaps next nothing all (Cross w) (Stays w)
  laws = record {
    commute = λ slots k l x. let e = keeps-first slots k l x in let f = keeps-second slots k l x in rw (e, f, e);
    first_gets = λ slots k l x. refl;
    second_gets = λ slots k l x. refl;
    first_keeps = keeps-first;
    second_keeps = keeps-second;
    first_moves = λ slots k l x h. true≢false (sym h ∙ cross-first slots (w.call k) (w.call l) x);
    second_moves = λ slots k l x h. true≢false (sym h ∙ cross-second slots (w.call k) (w.call l) x);
  }

  module _ (ks ls : List T) (r : Reordering w b ks ls) where
    abbrev moved : Moves next nothing all (Cross w) (Stays w) laws filler tt b.slots ks ls
    moved = moves w filler filler-call next nothing all laws tt b b.slots ks ls r (λ i. run-slots (take i ks))

    abbrev kept : Same next nothing all (Cross w) (Stays w) laws filler tt b.slots ks ls r.places.to
    kept = same next nothing all (Cross w) (Stays w) laws filler tt ls b.slots ks moved

    same_slots : (i : ℕ) → i < length ks → (board_at w b ks i).slots ≡ (board_at w b ls (r.places.to i)).slots
    same_slots i h = run-slots (take i ks) ∙ sym (kept.seen_same i h) ∙ sym (run-slots (take (r.places.to i) ls))

    supervisors_stay : (i : ℕ) → i < length ks → is_supervisors (call_at w ks i) ≡ true → r.places.to i ≡ i
    supervisors_stay i h y = (kept.stays i h (rw (call-at w filler filler-call ks i) at y)).0

    -- between two that change their order stands no supervisor call
    module _ (i j : ℕ) (h : i < j) (g : j < length ks) (t : r.places.to j < r.places.to i) where
      no-supervisor : (x : ℕ) → i ≤ x → x < j → is_supervisors (call_at w ks x) ≡ true → ⊥
      no-supervisor x a c e = go (eqb i x) refl
        where
          before : r.places.to x < r.places.to j
          before = r.keeps_order x j c g (λ y. true≢false (sym e ∙ cross-first _ (call_at w ks x) (call_at w ks j) y))

          go : (u : Bool) → eqb i x ≡ u → ⊥
          go true u = let q : i ≡ x = eqb-true i x u in let z = rw (← q) at before in omega arith
          go false u =
              let q = eqb-false i x u in
              let y = before in
              let z = r.keeps_order i x (omega arith) (omega arith) (λ y. true≢false (sym e ∙ cross-second _ (call_at w ks i) (call_at w ks x) y)) in
              omega arith

      slots-between : (n : ℕ) → i + n ≤ j → (board_at w b ks i).slots ≡ (board_at w b ks (i + n)).slots
      slots-between zero d = let z : i + 0 ≡ i = omega arith in rw z refl
      slots-between (suc n) d = slots-between n (omega arith) ∙ one-turn (i + n) (i + suc n) (omega arith) (omega arith) (omega arith)
        where
          one-turn : (x y : ℕ) → i ≤ x → x < j → y ≡ suc x → (board_at w b ks x).slots ≡ (board_at w b ks y).slots
          one-turn x y a c e =
              let f : is_supervisors (w.call (get_or ks x filler)) ≡ false = user-there (is_supervisors (w.call (get_or ks x filler))) refl in
              run-slots (take x ks) ∙ sym (keeps (ran next b.slots (take x ks)) (get_or ks x filler) f)
              ∙ sym (ran-place next b.slots ks x filler (omega arith)) ∙ sym (run-slots (take (suc x) ks)) ∙ ap (λ (n : ℕ). (board_at w b ks n).slots) (sym e)
            where
              user-there : (u : Bool) → is_supervisors (w.call (get_or ks x filler)) ≡ u → u ≡ false
              user-there true u = absurd (no-supervisor x a c (ap is_supervisors (call-at w filler filler-call ks x) ∙ u))
              user-there false u = refl

      one_moment : (board_at w b ks i).slots ≡ (board_at w b ks j).slots
      one_moment = go (j - i) (omega arith)
        where
          go : (n : ℕ) → i + n ≡ j → (board_at w b ks i).slots ≡ (board_at w b ks j).slots
          go n e = rw e at (slots-between n (omega arith))

  -- ---- swaps of neighbours

  by-swaps : (slots : List ℕ) (ks ls : List T) → Reached next nothing all (Cross w) (Stays w) laws filler tt slots ks ls → (js before : List T)
      → (board_after w b before).slots ≡ slots → BySwaps w b js (before ++ ks) → BySwaps w b js (before ++ ls)
  by-swaps slots ks ls same_list js before e x = x
  by-swaps slots ks ls (swap_front {k = k} {l = l} {ks = behind} c) js before e x = one_more before k l behind x (rw e c)
  by-swaps slots ks ls (after_first {k = k} {ks = ks'} {ls = ls'} r) js before e x =
      rw (append_assoc before (k ∷ []) ls') at
      (by-swaps (next slots k) ks' ls' r js (before ++ k ∷ []) (run-slots (before ++ k ∷ []) ∙ ran-more next b.slots before (k ∷ []) ∙ stepped)
      (rw (append_assoc before (k ∷ []) ks') x))
    where
      stepped : ran next (ran next b.slots before) (k ∷ []) ≡ next slots k
      stepped = ran-one next (ran next b.slots before) k ∙ ap (λ (o : List ℕ). next o k) (sym (run-slots before) ∙ e)
  by-swaps slots ks ls (one_then {ls = ms} q r) js before e x = by-swaps slots ms ls r js before e (by-swaps slots ks ms q js before e x)

  reached-all : (ks ls : List T) → Reordering w b ks ls → BySwaps w b ks ls
  unfolding ran
  reached-all ks ls r =
      by-swaps b.slots ks ls (reached next nothing all (Cross w) (Stays w) laws filler tt ls b.slots ks (moved ks ls r)) ks [] refl none

  -- one after another
  module _ (ks ls ms : List T) (r : Reordering w b ks ls) (q : Reordering w b ls ms) where
    in-second : (i : ℕ) → i < length ks → i < length ls
    in-second i h = omega (arith, r.places.same_length)

    in-first : (i : ℕ) → i < length ls → i < length ks
    in-first i h = omega (arith, r.places.same_length)

    to-second : (i : ℕ) → i < length ks → r.places.to i < length ls
    to-second i h = in-second (r.places.to i) (r.places.to_inside i h)

    from_second : (j : ℕ) → j < length ks → q.places.from j < length ks
    from_second j h = in-first (q.places.from j) (q.places.from_inside j (in-second j h))

    call_kept : (i : ℕ) → i < length ks → call_at w ls (r.places.to i) ≡ call_at w ks i
    call_kept i h = call-at w filler filler-call ls (r.places.to i) ∙ ap w.call (r.places.same_turns i filler h) ∙ sym (call-at w filler filler-call ks i)

    again : Reordering w b ks ms
    again = record {
      places = record {
        to = λ i. q.places.to (r.places.to i);
        from = λ j. r.places.from (q.places.from j);
        same_length = q.places.same_length ∙ r.places.same_length;
        to_inside = λ i h. in-first (q.places.to (r.places.to i)) (q.places.to_inside (r.places.to i) (to-second i h));
        from_inside = λ j h. r.places.from_inside (q.places.from j) (from_second j h);
        from_to = λ i h. ap r.places.from (q.places.from_to (r.places.to i) (to-second i h)) ∙ r.places.from_to i h;
        to_from = λ j h. ap q.places.to (r.places.to_from (q.places.from j) (from_second j h)) ∙ q.places.to_from j (in-second j h);
        same_turns = λ i other h. q.places.same_turns (r.places.to i) other (to-second i h) ∙ r.places.same_turns i other h;
      };
      keeps_order = λ i j h g never.
          let low : i < length ks = omega arith in
          q.keeps_order (r.places.to i) (r.places.to j) (r.keeps_order i j h g never) (to-second j g)
          (λ z. never (rw (← same_slots ks ls r i low, call_kept i low, call_kept j g) at z));
    }

  nothing_else : (ks ls : List T) → BySwaps w b ks ls → Reordering w b ks ls
  nothing_else ks ls none = reordering-none w b ks
  nothing_else ks ls (one_more before k l behind x c) =
      again ks (before ++ k ∷ l ∷ behind) (before ++ l ∷ k ∷ behind) (nothing_else ks (before ++ k ∷ l ∷ behind) x) (reordering-at w b before k l behind c)

  swapped-back : (ks ls : List T) → BySwaps w b ks ls → Reordering w b ls ks
  swapped-back ks ls none = reordering-none w b ks
  swapped-back ks ls (one_more before k l behind x c) =
      again (before ++ l ∷ k ∷ behind) (before ++ k ∷ l ∷ behind) ks
      (reordering-at w b before l k behind (cross-other (board_after w b before).slots (w.call k) (w.call l) c)) (swapped-back ks (before ++ k ∷ l ∷ behind) x)

  reorderings-are : ReorderingsAre w b
  reorderings-are = record {
    one_moment = one_moment;
    same_slots = same_slots;
    supervisors_stay = supervisors_stay;
    reached = reached-all;
    nothing_else = nothing_else;
    itself = reordering-none w b;
    again = again;
    back = λ ks ls r. swapped-back ks ls (reached-all ks ls r);
  }

-- ---- calls, and calls that bring their numbers

module _ (b : Board) where
  -- what they make of the slots; whether numbers fit hangs on lengths, which no call changes
  unfoldable slots_next : List ℕ → Brought → List ℕ
  slots_next slots (bring t k) = slots_by t (fits_board t b) slots k

  abbrev Slots : Board → List ℕ → List Brought → Type 0
  Slots c slots js = ((t : Shape) → fits_board t c ≡ fits_board t b) × (c.slots ≡ slots)

  slots-still : (c : Board) (slots : List ℕ) (k : Brought) (js : List Brought) → Slots c slots (k ∷ js) → Slots (brought_next c k) (slots_next slots k) js
  unfolding brought_next slots_next
  slots-still c slots (bring t k) js e = ((λ u. fits-same u t c k ∙ e.0 u), slots-step t c k ∙ rw (e.0 t, e.1))

  slots-run : (ks : List Brought) → (ran brought_next b ks).slots ≡ ran slots_next b.slots ks
  slots-run ks = (ran-both brought_next slots_next Slots slots-still b b.slots ks ((λ t. refl), refl)).1

  user-keeps : (slots : List ℕ) (t : Shape) (k : Call) → is_supervisors k ≡ false → slots_next slots (bring t k) ≡ slots
  unfolding is_supervisors slots_by slots_next
  user-keeps slots t (user p a e) h = refl
  user-keeps slots t (supervisor c) h = absurd (true≢false h)

  brought-keeps : (slots : List ℕ) (k : Brought) → is_supervisors (call_of k) ≡ false → slots_next slots k ≡ slots
  unfolding call_of
  brought-keeps slots (bring t k) h = user-keeps slots t k h

  pub reorderings_brought : (s : Shape) → ReorderingsAre (broughts s) b
  unfolding call_of
  reorderings_brought s = reorderings-are (broughts s) (bring s (supervisor flush_all)) refl b slots_next brought-keeps slots-run

  pub reorderings-calls : (s : Shape) → ReorderingsAre (calls s) b
  unfolding brought_next
  reorderings-calls s =
      reorderings-are (calls s) (supervisor flush_all) refl b (λ slots k. slots_next slots (bring s k)) (λ slots k h. user-keeps slots s k h)
      (λ ks. (ran-both (λ c k. brought_next c (bring s k)) (λ slots k. slots_next slots (bring s k)) (λ c slots js. Slots c slots [])
      (λ c slots k js e. slots-still c slots (bring s k) [] e) b b.slots ks ((λ t. refl), refl)).1)
