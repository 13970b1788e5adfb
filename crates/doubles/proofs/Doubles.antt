-- The lowest place whose key a higher place has too: what a walk over the places knows of it.
use Rattle.std.specs.Prelude.{Some, None, min}
use Prim.Native.Nat.{ℕ, zero, suc, ◌+◌, ◌-◌, ◌≤◌, ◌<◌}
use mathlib.Core.Path.{◌≡◌, ◌∙◌, sym, refl}
use mathlib.Core.Bool.{Bool, true, false, not, ◌||◌}
use mathlib.Core.Logic.{⊎_elim}
use mathlib.Core.List.{List}
use native.Mathlib.Omega.{arith}
use lib.Dec.{eqb}
use lib.ListN.{length, get_or}
use borrow.Author.Tests.{eq-eqb, ne_eqb, eqb-true, eqb-false, not-true}
use Rattle.board.proofs.Bools.{clash, and_left, and_right, or_right}
use Rattle.board.specs.Searches.{first}
use Rattle.board.proofs.Searches.{first-is, first-none}
use Rattle.doubles.specs.Doubles.{stands, repeats}
use Rattle.doubles.specs.Trees.{Placed}
use Rattle.doubles.proofs.Lists.{lt-or-le, eq-or-not}

module _ (keys : List ℕ) (key : ℕ) where
  stands-true : (i n g : ℕ) → i ≤ g → g < i + n → get_or keys g 0 ≡ key → stands keys key i n ≡ true
  unfolding stands
  stands-true i zero g low high e = absurd (omega arith)
  stands-true i (suc n) g low high e = ⊎_elim
      (λ q. let z : eqb (get_or keys i 0) key ≡ true = eq-eqb (get_or keys i 0) key (rw q e) in rw z)
      (λ q. or_right (eqb (get_or keys i 0) key) _ (stands-true (suc i) n g (omega arith) (omega arith) e))
      (eq-or-not i g)

  stands-false : (i n : ℕ) → ((g : ℕ) → i ≤ g → g < i + n → get_or keys g 0 ≡ key → ⊥) → stands keys key i n ≡ false
  unfolding stands
  stands-false i zero none = refl
  stands-false i (suc n) none =
      let z : eqb (get_or keys i 0) key ≡ false = ne_eqb _ _ (none i (omega arith) (omega arith)) in
      rw z (stands-false (suc i) n (λ g l h. none g (omega arith) (omega arith)))

module _ (keys : List ℕ) (i : ℕ) where
  pub repeats-true : (g : ℕ) → i < g → g < length keys → get_or keys g 0 ≡ get_or keys i 0 → (get_or keys i 0 ≡ 0 → ⊥) → repeats keys i ≡ true
  unfolding repeats
  repeats-true g l h e n =
      let z : eqb (get_or keys i 0) 0 ≡ false = ne_eqb _ _ n in
      rw z (stands-true keys (get_or keys i 0) (suc i) (length keys - suc i) g (omega arith) (omega arith) e)

  pub repeats-false : ((g : ℕ) → i < g → g < length keys → get_or keys g 0 ≡ get_or keys i 0 → get_or keys i 0 ≡ 0) → repeats keys i ≡ false
  unfolding repeats
  repeats-false none = ⊎_elim
      (λ q. let z : eqb (get_or keys i 0) 0 ≡ true = eq-eqb _ _ q in rw z)
      (λ n. let z : eqb (get_or keys i 0) 0 ≡ false = ne_eqb _ _ n in
      rw z (stands-false keys (get_or keys i 0) (suc i) (length keys - suc i) (λ g l h e. n (none g (omega arith) (omega arith) e))))
      (eq-or-not (get_or keys i 0) 0)

-- a higher place with the key of place i
pub record Higher (keys : List ℕ) (i : ℕ) : Type 0 where
  pub place : ℕ
  pub higher : i < place
  pub inside : place < length keys
  pub same_key : get_or keys place 0 ≡ get_or keys i 0
  pub some_key : get_or keys i 0 ≡ 0 → ⊥

module _ (keys : List ℕ) (key : ℕ) where
  stands_at : (i n : ℕ) → stands keys key i n ≡ true → (g : ℕ) × (i ≤ g) × (g < i + n) × (get_or keys g 0 ≡ key)
  unfolding stands
  stands_at i zero e = clash false e refl
  stands_at i (suc n) e = go (eqb (get_or keys i 0) key) refl e (stands_at (suc i) n)
    where
      go : (t : Bool) → eqb (get_or keys i 0) key ≡ t → (t || stands keys key (suc i) n) ≡ true
          → (stands keys key (suc i) n ≡ true → (g : ℕ) × (suc i ≤ g) × (g < suc i + n) × (get_or keys g 0 ≡ key))
          → (g : ℕ) × (i ≤ g) × (g < i + suc n) × (get_or keys g 0 ≡ key)
      go true t h later = (i, omega arith, omega arith, eqb-true _ _ t)
      go false t h later = let r = later h in (r.0, omega (arith, r.1), omega (arith, r.2), r.3)

pub repeats-is : (keys : List ℕ) (i : ℕ) → repeats keys i ≡ true → Higher keys i
unfolding repeats
repeats-is keys i e =
    let n : eqb (get_or keys i 0) 0 ≡ false = not-true _ (and_left (not (eqb (get_or keys i 0) 0)) _ e) in
    let r = stands_at keys (get_or keys i 0) (suc i) (length keys - suc i) (and_right (not (eqb (get_or keys i 0) 0)) _ e) in
    record { place = r.0; higher = omega (arith, r.1); inside = omega (arith, r.1, r.2); same_key = r.3; some_key = eqb-false _ _ n }

-- among the places below i, no place below `best` stands again, and `best` does, if it is a place
pub record Best (keys : List ℕ) (best i : ℕ) : Type 0 where
  pub none_lower : (f g : ℕ) → f < best → f < g → g < i → get_or keys g 0 ≡ get_or keys f 0 → get_or keys f 0 ≡ 0
  pub again : best < length keys → repeats keys best ≡ true

pub best-start : (keys : List ℕ) → Best keys (length keys) 0
best-start keys = record { none_lower = λ f g h l k. absurd (omega arith); again = λ h. absurd (omega arith) }

module _ (keys before after : List ℕ) (best i at : ℕ) (b : Best keys best i) (p : Placed keys before after i at) (h : i < length keys) where
  lower-found : at < i → at < best → Best keys at (i + 1)
  lower-found l m = record {
    none_lower = λ f g x y z e. ⊎_elim
        (λ q. b.none_lower f at (omega arith) (omega arith) (omega arith) ((p.lower l).0 ∙ (rw q at e)))
        (λ q. b.none_lower f g (omega arith) y (omega arith) e)
        (eq-or-not g i);
    again = λ k. repeats-true keys at i l h (sym (p.lower l).0) (λ z. (p.lower l).1 (sym (p.lower l).0 ∙ z));
  }

  higher-found : at < i → best ≤ at → Best keys best (i + 1)
  higher-found l m = record {
    none_lower = λ f g x y z e. ⊎_elim
        (λ q. b.none_lower f at (omega arith) (omega arith) (omega arith) ((p.lower l).0 ∙ (rw q at e)))
        (λ q. b.none_lower f g x y (omega arith) e)
        (eq-or-not g i);
    again = b.again;
  }

  none_found : i ≤ at → Best keys best (i + 1)
  none_found m = record {
    none_lower = λ f g x y z e. ⊎_elim
        (λ q. let s : get_or keys f 0 ≡ get_or keys i 0 = sym (rw q at e) in s ∙ p.first (omega (arith, p.at_most)) f (omega arith) s)
        (λ q. b.none_lower f g x y (omega arith) e)
        (eq-or-not g i);
    again = b.again;
  }

  -- a lower place has the key, or none has it
  pub best-lower : (next : ℕ) → at < i → next ≡ min best at → Best keys next (i + 1)
  best-lower next l e = ⊎_elim
      (λ m. let q : next ≡ at = omega arith in rw q (lower-found l m))
      (λ m. let q : next ≡ best = omega arith in rw q (higher-found l m))
      (lt-or-le at best)

  pub best-same : (next : ℕ) → i ≤ at → next ≡ best → Best keys next (i + 1)
  best-same next l e = rw e (none_found l)

module _ (keys : List ℕ) (best i : ℕ) (b : Best keys best i) (h : length keys ≤ i) where
  below-best : (k : ℕ) → k < best → repeats keys k ≡ false
  below-best k l = repeats-false keys k (λ g x y e. b.none_lower k g l x (omega arith) e)

  pub best-at : best < length keys → Some best ≡ first (repeats keys) 0 (length keys)
  best-at l = sym (first-is (repeats keys) 0 (length keys) best (omega arith) (omega arith) (λ k x y. below-best k y) (b.again l))

  pub best_none : length keys ≤ best → None ≡ first (repeats keys) 0 (length keys)
  best_none l = sym (first-none (repeats keys) 0 (length keys) (λ k x y. below-best k (omega arith)))
