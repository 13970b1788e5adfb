-- The keys of places: put into a list one by one, and searched; no key stands twice exactly if the search finds nothing.
use Rattle.std.specs.Prelude.{Option, Some, None}
use Prim.Native.Nat.{ℕ, zero, suc, ◌+◌, ◌≤◌, ◌<◌}
use mathlib.Core.Path.{◌≡◌, ◌∙◌, sym, refl, ap}
use mathlib.Core.Logic.{⊎_elim, ◌≢◌}
use mathlib.Core.Bool.{true}
use mathlib.Core.List.{List}
use native.Mathlib.Omega.{arith}
use borrow.Author.Count.{below_more}
use lib.ListN.{length, get_or, set, get_or-eq_default}
use lib.Seq.{get_or-set_same, get_or-set_other, ext_get_or}
use Rattle.board.specs.Searches.{first}
use Rattle.board.proofs.Bools.{clash}
use Rattle.board.proofs.Searches.{first-at, first-nothing, first-none}
use Rattle.doubles.specs.Doubles.{repeats, keys_from, keys_of, first_double}
use Rattle.doubles.proofs.Lists.{lt-or-le, eq-or-not}
use Rattle.doubles.proofs.Doubles.{repeats-true, repeats-false, repeats-is}

module _ (key : ℕ → ℕ) where
  pub length-keys : (i n : ℕ) → length (keys_from key i n) ≡ n
  unfolding keys_from
  length-keys i zero = refl
  length-keys i (suc n) = ap suc (length-keys (suc i) n)

  keys_from_lem : (i n k : ℕ) → k < n → get_or (keys_from key i n) k 0 ≡ key (i + k)
  unfolding keys_from
  keys_from_lem i zero k h = absurd (omega arith)
  keys_from_lem i (suc n) zero h = ap key (omega arith)
  keys_from_lem i (suc n) (suc k) h = keys_from_lem (suc i) n k (omega arith) ∙ ap key (omega arith)

  pub keys-at : (n k : ℕ) → k < n → get_or (keys_of key n) k 0 ≡ key k
  keys-at n k h = keys_from_lem 0 n k h ∙ ap key (omega arith)

  pub keys-more : (keys : List ℕ) (i v : ℕ) → v ≡ key i → i < length keys → ((k : ℕ) → k < i → get_or keys k 0 ≡ key k)
      → (k : ℕ) → k < i + 1 → get_or (set keys i v) k 0 ≡ key k
  keys-more keys i v e h before =
      below_more (λ (k : ℕ). get_or (set keys i v) k 0 ≡ key k) i
      (λ k lt. get_or-set_other keys i k v 0 (λ q. omega arith) ∙ before k lt) (get_or-set_same keys i v 0 h ∙ e)

  pub keys-all : (keys : List ℕ) (i n : ℕ) → length keys ≡ n → length keys ≤ i → ((k : ℕ) → k < i → get_or keys k 0 ≡ key k) → keys ≡ keys_of key n
  keys-all keys i n e h all = ext_get_or 0 _ _ (e ∙ sym (length-keys 0 n)) (λ k lt. all k (omega arith) ∙ sym (keys-at n k (omega arith)))

  -- keys that are all below a limit
  pub keys_below : (n limit : ℕ) → 0 < limit → ((k : ℕ) → key k < limit) → (g : ℕ) → get_or (keys_of key n) g 0 < limit
  keys_below n limit pos low g = ⊎_elim
      (λ l. rw (keys-at n g l) (low g))
      (λ l. rw (get_or-eq_default (keys_of key n) 0 {n = g} (rw (length-keys 0 n) l)) pos)
      (lt-or-le g n)

  -- a list of these keys searched
  pub searched : (keys : List ℕ) (n m : ℕ) (r : Option ℕ) → keys ≡ keys_of key n → n ≡ m → r ≡ first (repeats keys) 0 (length keys) → r ≡ first_double key m
  searched keys n m r e q h =
      let z : length keys ≡ m = ap length e ∙ length-keys 0 n ∙ q in
      let y : keys ≡ keys_of key m = rw (← q) e in
      h ∙ rw (z, y)

  module _ (n : ℕ) where
    key-repeats : (f g : ℕ) → f < n → g < n → f < g → key f ≢ 0 → key f ≡ key g → repeats (keys_of key n) f ≡ true
    key-repeats f g a b l z q =
        repeats-true (keys_of key n) f g l (rw (length-keys 0 n) b) (keys-at n g b ∙ sym q ∙ sym (keys-at n f a)) (λ y. z (sym (keys-at n f a) ∙ y))

    pub none-twice : first_double key n ≡ None → (f g : ℕ) → f < n → g < n → key f ≢ 0 → key f ≡ key g → f ≡ g
    none-twice e f g a b z q = ⊎_elim
        (λ l. clash _ (key-repeats f g a b l z q) (first-nothing (repeats (keys_of key n)) 0 n f e (omega arith) (omega arith)))
        (λ l. ⊎_elim
        (λ m. clash _ (key-repeats g f b a m (λ y. z (q ∙ y)) (sym q)) (first-nothing (repeats (keys_of key n)) 0 n g e (omega arith) (omega arith)))
        (λ m. omega arith) (lt-or-le g f))
        (lt-or-le f g)

    pub twice-none : ((f g : ℕ) → f < n → g < n → key f ≢ 0 → key f ≡ key g → f ≡ g) → first_double key n ≡ None
    twice-none once =
        first-none (repeats (keys_of key n)) 0 n (λ k l h. repeats-false (keys_of key n) k (λ g x y e. no_key k g (omega arith) x (rw (length-keys 0 n) at y) e))
      where
        no_key : (k g : ℕ) → k < n → k < g → g < n → get_or (keys_of key n) g 0 ≡ get_or (keys_of key n) k 0 → get_or (keys_of key n) k 0 ≡ 0
        no_key k g a l b e = ⊎_elim (λ z. keys-at n k a ∙ z)
            (λ z. absurd (let q : k ≡ g = once k g a b z (sym (keys-at n k a) ∙ sym e ∙ keys-at n g b) in omega arith)) (eq-or-not (key k) 0)

    -- the place that is found has the key of a higher one; and of two places with one key neither is below it
    pub record Double (f : ℕ) : Type 0 where
      pub inside : f < n
      pub again : ℕ
      pub higher : f < again
      pub again_inside : again < n
      pub some_key : key f ≢ 0
      pub same_key : key f ≡ key again
      pub lowest : (k g : ℕ) → k < f → g < n → k ≢ g → key k ≢ 0 → key k ≡ key g → ⊥

    pub double-at : (f : ℕ) → first_double key n ≡ Some f → Double f
    double-at f e =
        let a = first-at (repeats (keys_of key n)) 0 n f e in
        let b = repeats-is (keys_of key n) f a.passes in
        let g = b.place in
        let f-in : f < n = omega (arith, a.to) in
        let g-in : g < n = rw (length-keys 0 n) at b.inside in
        record {
          inside = f-in;
          again = g;
          higher = b.higher;
          again_inside = g-in;
          some_key = λ z. b.some_key (keys-at n f f-in ∙ z);
          same_key = sym (keys-at n f f-in) ∙ sym b.same_key ∙ keys-at n g g-in;
          lowest = λ k h l m d z q. ⊎_elim
              (λ o. absurd (omega (arith, a.lowest k (omega arith) (key-repeats k h (omega arith) m o z q))))
              (λ o. absurd (omega (arith, a.lowest h (omega arith) (key-repeats h k m (omega arith) (below h k o d) (λ y. z (q ∙ y)) (sym q)))))
              (lt-or-le k h);
        }
      where
        below : (h k : ℕ) → h ≤ k → k ≢ h → h < k
        below h k o d = ⊎_elim (λ (e : k ≡ h). absurd (d e)) (λ e. omega arith) (eq-or-not k h)
