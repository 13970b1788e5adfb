-- Who may cross; lists that are reorderings of others; and a reordering as the moves of a machine that sees the slots (Reorder).
use Prim.Native.Nat.{ℕ, zero, suc, ◌<◌}
use mathlib.Core.Path.{◌≡◌, refl, sym, ap, ◌∙◌}
use mathlib.Core.Bool.{true, false}
use mathlib.Core.List.{List, [], ◌∷◌, ◌++◌, map}
use native.Mathlib.Omega.{arith}
use lib.ListN.{length, get_or, take, get_or-map}
use Rattle.machine.specs.Boards.{Board}
use Rattle.promises.specs.Runs.{ran, Call, user, supervisor, flush_all}
use Rattle.order_promises.specs.Strangers.{MayCross, is_supervisors, Kind, board_after, board_at, call_at}
use Rattle.order_promises.specs.Reorderings.{Reordering}
use Rattle.order_promises.proofs.Crossings.{cross-stable, cross-other}
use Rattle.order_promises.proofs.Reorder.{Swaps, Moves}

-- ---- who may cross

-- neither of them is a supervisor's
pub cross-first : (slots : List ℕ) (k l : Call) → MayCross slots k l → is_supervisors k ≡ false
unfolding is_supervisors
cross-first slots (user p a e) l x = refl
cross-first slots (supervisor c) (user q d f) x = absurd x
cross-first slots (supervisor c) (supervisor d) x = absurd x

pub cross-second : (slots : List ℕ) (k l : Call) → MayCross slots k l → is_supervisors l ≡ false
cross-second slots k l x = cross-first slots l k (cross-other slots k l x)

module _ {T : Type 0} (w : Kind T) where
  -- the same of turns, and turns that stay where they are
  abbrev pub Cross : List ℕ → T → T → Type 0
  Cross slots k l = MayCross slots (w.call k) (w.call l)

  abbrev pub Stays : T → Type 0
  Stays k = is_supervisors (w.call k) ≡ true

  -- ---- beside a machine that sees the slots

  -- `filler` stands where a list has no turn
  module _ (filler : T) (filler-call : w.call filler ≡ supervisor flush_all) where
    pub call-at : (ks : List T) (i : ℕ) → call_at w ks i ≡ w.call (get_or ks i filler)
    call-at ks i = ap (λ (c : Call). get_or (map w.call ks) i c) (sym filler-call) ∙ get_or-map w.call ks i filler

    module _ {P A : Type 0} (next : P → T → P) (gives : P → T → A) (seen : P → List ℕ) (laws : Swaps next gives seen Cross Stays) (answer : A)
        (b : Board) (p : P) (ks ls : List T) (r : Reordering w b ks ls)
        (slots_at : (i : ℕ) → (board_at w b ks i).slots ≡ seen (ran next p (take i ks))) where
      -- two that changed their order may cross
      pub crosses : (i j : ℕ) → i < j → j < length ks → r.places.to j < r.places.to i → Cross (seen (ran next p (take i ks))) (get_or ks i filler) (get_or ks j filler)
      crosses i j h g t =
          cross-stable (seen (ran next p (take i ks))) (w.call (get_or ks i filler)) (w.call (get_or ks j filler))
          (λ never. let z = r.keeps_order i j h g (λ x. never (rw (← slots_at i, ← call-at ks i, ← call-at ks j) x)) in omega arith)

      abbrev pub moves : Moves next gives seen Cross Stays laws filler answer p ks ls
      moves = record { places = r.places; crosses = crosses }

  -- ---- lists that are a reordering by themselves

  pub reordering-none : (b : Board) (ks : List T) → Reordering w b ks ks
  reordering-none b ks = record {
    places = record {
      to = λ i. i;
      from = λ j. j;
      same_length = refl;
      to_inside = λ i h. h;
      from_inside = λ j h. h;
      from_to = λ i h. refl;
      to_from = λ j h. refl;
      same_turns = λ i other h. refl;
    };
    keeps_order = λ i j h g never. h;
  }

  -- after the same first turn

  abbrev onward : (ℕ → ℕ) → ℕ → ℕ
  onward f zero = zero
  onward f (suc i) = suc (f i)

  module _ (b : Board) (k : T) (ks ls : List T) (r : Reordering w (w.leaves b k) ks ls) where
    inside : (f : ℕ → ℕ) → ((i : ℕ) → i < length ks → f i < length ks) → (i : ℕ) → i < suc (length ks) → onward f i < suc (length ks)
    inside f h zero g = omega arith
    inside f h (suc i) g = let z = h i (omega arith) in omega arith

    returns : (f g : ℕ → ℕ) → ((i : ℕ) → i < length ks → f (g i) ≡ i) → (i : ℕ) → i < suc (length ks) → onward f (onward g i) ≡ i
    returns f g h zero d = refl
    returns f g h (suc i) d = ap suc (h i (omega arith))

    turns : (i : ℕ) (other : T) → i < suc (length ks) → get_or (k ∷ ls) (onward r.places.to i) other ≡ get_or (k ∷ ks) i other
    turns zero other h = refl
    turns (suc i) other h = r.places.same_turns i other (omega arith)

    order : (i j : ℕ) → i < j → j < suc (length ks) → (MayCross (board_at w b (k ∷ ks) i).slots (call_at w (k ∷ ks) i) (call_at w (k ∷ ks) j) → ⊥)
        → onward r.places.to i < onward r.places.to j
    unfolding ran
    order zero zero h g never = absurd (omega arith)
    order zero (suc j) h g never = omega arith
    order (suc i) zero h g never = absurd (omega arith)
    order (suc i) (suc j) h g never = let z = r.keeps_order i j (omega arith) (omega arith) never in omega arith

    pub reordering-later : Reordering w b (k ∷ ks) (k ∷ ls)
    reordering-later = record {
      places = record {
        to = onward r.places.to;
        from = onward r.places.from;
        same_length = ap suc r.places.same_length;
        to_inside = inside r.places.to r.places.to_inside;
        from_inside = inside r.places.from r.places.from_inside;
        from_to = returns r.places.from r.places.to r.places.from_to;
        to_from = returns r.places.to r.places.from r.places.to_from;
        same_turns = turns;
      };
      keeps_order = order;
    }

  -- the first two swapped

  abbrev other_place : ℕ → ℕ
  other_place zero = suc zero
  other_place (suc zero) = zero
  other_place (suc (suc i)) = suc (suc i)

  module _ (b : Board) (k l : T) (ks : List T) (x : Cross b.slots k l) where
    other-inside : (i : ℕ) → i < suc (suc (length ks)) → other_place i < suc (suc (length ks))
    other-inside zero h = omega arith
    other-inside (suc zero) h = omega arith
    other-inside (suc (suc i)) h = h

    other-returns : (i : ℕ) → i < suc (suc (length ks)) → other_place (other_place i) ≡ i
    other-returns zero h = refl
    other-returns (suc zero) h = refl
    other-returns (suc (suc i)) h = refl

    other-turns : (i : ℕ) (other : T) → i < suc (suc (length ks)) → get_or (l ∷ k ∷ ks) (other_place i) other ≡ get_or (k ∷ l ∷ ks) i other
    other-turns zero other h = refl
    other-turns (suc zero) other h = refl
    other-turns (suc (suc i)) other h = refl

    other-order : (i j : ℕ) → i < j → j < suc (suc (length ks))
        → (MayCross (board_at w b (k ∷ l ∷ ks) i).slots (call_at w (k ∷ l ∷ ks) i) (call_at w (k ∷ l ∷ ks) j) → ⊥) → other_place i < other_place j
    unfolding ran
    other-order zero zero h g never = absurd (omega arith)
    other-order zero (suc zero) h g never = absurd (never x)
    other-order zero (suc (suc j)) h g never = omega arith
    other-order (suc zero) zero h g never = absurd (omega arith)
    other-order (suc zero) (suc zero) h g never = absurd (omega arith)
    other-order (suc zero) (suc (suc j)) h g never = omega arith
    other-order (suc (suc i)) zero h g never = absurd (omega arith)
    other-order (suc (suc i)) (suc zero) h g never = absurd (omega arith)
    other-order (suc (suc i)) (suc (suc j)) h g never = h

    reordering-swap : Reordering w b (k ∷ l ∷ ks) (l ∷ k ∷ ks)
    reordering-swap = record {
      places = record {
        to = other_place;
        from = other_place;
        same_length = refl;
        to_inside = other-inside;
        from_inside = other-inside;
        from_to = other-returns;
        to_from = other-returns;
        same_turns = other-turns;
      };
      keeps_order = other-order;
    }

  -- two neighbours swapped anywhere in a list
  pub reordering-at : (b : Board) (before : List T) (k l : T) (behind : List T) → Cross (board_after w b before).slots k l
      → Reordering w b (before ++ k ∷ l ∷ behind) (before ++ l ∷ k ∷ behind)
  unfolding ran
  reordering-at b [] k l behind x = reordering-swap b k l behind x
  reordering-at b (c ∷ before) k l behind x =
      reordering-later b c (before ++ k ∷ l ∷ behind) (before ++ l ∷ k ∷ behind) (reordering-at (w.leaves b c) before k l behind x)
