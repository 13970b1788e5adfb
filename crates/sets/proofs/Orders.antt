-- The matrix of a set and the order of the last uses of its lines.
use Prim.Native.Nat.{ℕ, zero, suc, ◌+◌, ◌≤◌, ◌<◌}
use mathlib.Core.Path.{◌≡◌, refl, ◌∙◌}
use mathlib.Core.Logic.{◌≢◌}
use mathlib.Core.Bool.{Bool, true, false, cond}
use mathlib.Core.List.{List, []}
use native.Mathlib.Nat.{le_refl}
use native.Mathlib.Omega.{arith}
use lib.Dec.{eqb, leb, ltb}
use lib.ListN.{length, get_or, set, length-set}
use lib.Seq.{get_or-set_same, get_or-set_other}
use borrow.Author.Tests.{eqb-true, eqb-false, ne_eqb, ltb-true, ltb-false, leb-true, leb-false, lt-ltb, le-ltb}
use Rattle.sets.specs.Matrices.{Matrix, row_of, entry_at, Square, all_ones, cleared, used, one, ones_of, fewer, fewest}

-- ---- what a use makes of the entries

-- a row of a matrix with one row changed
module _ (m : Matrix) (n : ℕ) (row : List ℕ) (h : n < length m) where
  row-set : (a : ℕ) (P : List ℕ → Type 0) → (a ≡ n → P row) → (a ≢ n → P (row_of m a)) → P (row_of (set m n row) a)
  row-set a P same other = go (eqb a n) refl
    where
      go : (t : Bool) → eqb a n ≡ t → P (row_of (set m n row) a)
      go true t = let q : a ≡ n = eqb-true a n t in rw (q, get_or-set_same m n row [] h) (same q)
      go false t = let q = eqb-false a n t in rw (get_or-set_other m n a row [] q) (other q)

  square-set : Square m → length row ≡ 4 → Square (set m n row)
  square-set s l = record {
    rows = length-set m n row ∙ s.rows;
    columns = λ a b. row-set a (λ (x : List ℕ). length x ≡ 4) (λ q. l) (λ q. s.columns a b);
  }

module _ (r : ℕ) (low : r < 4) (m : Matrix) (s : Square m) where
  cleared-square : (n : ℕ) → n ≤ 4 → Square (cleared n r m)
  unfolding cleared
  cleared-square zero h = s
  cleared-square (suc n) h =
      let c = cleared-square n (omega arith) in
      square-set (cleared n r m) n (set (row_of (cleared n r m) n) r 0) (omega (arith, c.rows)) c (length-set (row_of (cleared n r m) n) r 0 ∙ c.columns n (omega arith))

  cleared-other : (n a b : ℕ) → n ≤ 4 → b ≢ r → entry_at (cleared n r m) a b ≡ entry_at m a b
  unfolding cleared
  cleared-other zero a b h d = refl
  cleared-other (suc n) a b h d =
      let c = cleared-square n (omega arith) in
      row-set (cleared n r m) n (set (row_of (cleared n r m) n) r 0) (omega (arith, c.rows)) a (λ (x : List ℕ). get_or x b 0 ≡ entry_at m a b)
      (λ q. get_or-set_other (row_of (cleared n r m) n) r b 0 0 d ∙ rw q (cleared-other n n b (omega arith) d))
      (λ q. cleared-other n a b (omega arith) d)

  cleared-here : (n a : ℕ) → n ≤ 4 → a < n → entry_at (cleared n r m) a r ≡ 0
  unfolding cleared
  cleared-here zero a h l = absurd (omega arith)
  cleared-here (suc n) a h l =
      let c = cleared-square n (omega arith) in
      row-set (cleared n r m) n (set (row_of (cleared n r m) n) r 0) (omega (arith, c.rows)) a (λ (x : List ℕ). get_or x r 0 ≡ 0)
      (λ q. get_or-set_same (row_of (cleared n r m) n) r 0 0 (omega (arith, c.columns n (omega arith))))
      (λ q. cleared-here n a (omega arith) (omega arith))

four-ones : (b : ℕ) → b < 4 → get_or all_ones b 0 ≡ 1
four-ones zero h = refl
four-ones (suc zero) h = refl
four-ones (suc (suc zero)) h = refl
four-ones (suc (suc (suc zero))) h = refl
four-ones (suc (suc (suc (suc b)))) h = absurd (omega arith)

module _ (m : Matrix) (s : Square m) (r : ℕ) (low : r < 4) where
  abbrev noted : Matrix
  noted = set m r all_ones

  noted-square : Square noted
  noted-square = square-set m r all_ones (omega (arith, s.rows)) s refl

  pub used-square : Square (used m r)
  unfolding used
  used-square = cleared-square r low noted noted-square 4 (omega arith)

  -- the line's column is 0, the rest of its row 1, and other entries stay
  pub used-entry : (a b : ℕ) → a < 4 → b < 4 → entry_at (used m r) a b ≡ cond (eqb b r) 0 (cond (eqb a r) 1 (entry_at m a b))
  unfolding used
  used-entry a b h k = go (eqb a r) (eqb b r) refl refl
    where
      go : (u v : Bool) → eqb a r ≡ u → eqb b r ≡ v → entry_at (cleared 4 r noted) a b ≡ cond v 0 (cond u 1 (entry_at m a b))
      go u true e f = let q : b ≡ r = eqb-true b r f in rw q (cleared-here r low noted noted-square 4 a (omega arith) h)
      go true false e f =
          let q : a ≡ r = eqb-true a r e in
          rw (cleared-other r low noted noted-square 4 a b (omega arith) (eqb-false b r f)) (rw (q, get_or-set_same m r all_ones [] (omega (arith, s.rows)), four-ones b k))
      go false false e f =
          rw (cleared-other r low noted noted-square 4 a b (omega arith) (eqb-false b r f), get_or-set_other m r a all_ones [] (eqb-false a r e))

-- ---- the order of last uses

-- m is what uses made of the matrix start: row a, column b is as it was if neither line was used, else 1 exactly if a was used after b
pub record Since (start : Matrix) (last : ℕ → ℕ) (m : Matrix) : Type 0 where
  pub square : Square m
  pub entries : (a b : ℕ) → a < 4 → b < 4 → entry_at m a b ≡ cond (eqb (last a + last b) 0) (entry_at start a b) (cond (ltb (last b) (last a)) 1 0)

-- the last uses after one of line r at time t
unfoldable pub used_at : ℕ → ℕ → (ℕ → ℕ) → ℕ → ℕ
used_at r t last a = cond (eqb a r) t (last a)

module _ (start : Matrix) (last : ℕ → ℕ) (m : Matrix) (x : Since start last m) (r t : ℕ) (low : r < 4) (later : (a : ℕ) → a < 4 → last a < t) where
  pub used-since : Since start (used_at r t last) (used m r)
  unfolding used_at
  used-since = record { square = used-square m x.square r low; entries = λ a b h k. rw (used-entry m x.square r low a b h k) (go a b h k (eqb a r) (eqb b r)) }
    where
      go : (a b : ℕ) → a < 4 → b < 4 → (u v : Bool)
          → cond v 0 (cond u 1 (entry_at m a b))
          ≡ cond (eqb (cond u t (last a) + cond v t (last b)) 0) (entry_at start a b) (cond (ltb (cond v t (last b)) (cond u t (last a))) 1 0)
      go a b h k true true = let l = later a h in rw (ne_eqb (t + t) 0 (omega arith), le-ltb t t (omega arith))
      go a b h k false true = let l = later a h in rw (ne_eqb (last a + t) 0 (omega arith), le-ltb t (last a) (omega arith))
      go a b h k true false = let l = later b k in rw (ne_eqb (t + last b) 0 (omega arith), lt-ltb (last b) t l)
      go a b h k false false = x.entries a b h k

-- row a, column b is a one exactly if a was used after b
abbrev pub Ordered : (ℕ → ℕ) → Matrix → Type 0
Ordered last m = (a b : ℕ) → a < 4 → b < 4 → entry_at m a b ≡ cond (ltb (last b) (last a)) 1 0

-- so it is where every line was used
pub all_used : (start : Matrix) (last : ℕ → ℕ) (m : Matrix) → Since start last m → ((a : ℕ) → a < 4 → 0 < last a) → Ordered last m
all_used start last m x h a b i j = let l = h a i in rw (x.entries a b i j, ne_eqb (last a + last b) 0 (omega arith))

one_bit : (t : Bool) → one (cond t 1 0) ≡ cond t 1 0
one_bit true = refl
one_bit false = refl

module _ (last : ℕ → ℕ) (m : Matrix) (o : Ordered last m) where
  -- a line used before another has fewer ones
  mono : (x y c : ℕ) → x ≤ y → cond (ltb c x) 1 0 ≤ cond (ltb c y) 1 0
  mono x y c h = go (ltb c x) (ltb c y) refl refl
    where
      go : (u v : Bool) → ltb c x ≡ u → ltb c y ≡ v → cond u 1 0 ≤ cond v 1 0
      go true true p q = omega arith
      go true false p q = let a = ltb-true c x p in let b = ltb-false c y q in absurd (omega arith)
      go false v p q = omega arith

  count : (a : ℕ) → a < 4
      → ones_of (row_of m a) ≡ cond (ltb (last 0) (last a)) 1 0 + cond (ltb (last 1) (last a)) 1 0 + cond (ltb (last 2) (last a)) 1 0 + cond (ltb (last 3) (last a)) 1 0
  unfolding ones_of
  count a h = rw (entry 0 (omega arith), entry 1 (omega arith), entry 2 (omega arith), entry 3 (omega arith))
    where
      entry : (b : ℕ) → b < 4 → one (entry_at m a b) ≡ cond (ltb (last b) (last a)) 1 0
      entry b k = rw (o a b h k) (one_bit (ltb (last b) (last a)))

  fewer-ones : (a b : ℕ) → a < 4 → b < 4 → last a < last b → ones_of (row_of m a) < ones_of (row_of m b)
  fewer-ones a b h k l = go a h (lt-ltb (last a) (last b) l) (le-ltb (last a) (last a) (omega arith))
    where
      up : (c : ℕ) → cond (ltb (last c) (last a)) 1 0 ≤ cond (ltb (last c) (last b)) 1 0
      up c = mono (last a) (last b) (last c) (omega arith)

      go : (c : ℕ) → c < 4 → ltb (last c) (last b) ≡ true → ltb (last c) (last a) ≡ false → ones_of (row_of m a) < ones_of (row_of m b)
      go zero i p q = rw (count a h, count b k, p, q) (omega (arith, up 1, up 2, up 3))
      go (suc zero) i p q = rw (count a h, count b k, p, q) (omega (arith, up 0, up 2, up 3))
      go (suc (suc zero)) i p q = rw (count a h, count b k, p, q) (omega (arith, up 0, up 1, up 3))
      go (suc (suc (suc zero))) i p q = rw (count a h, count b k, p, q) (omega (arith, up 0, up 1, up 2))
      go (suc (suc (suc (suc c)))) i p q = absurd (omega arith)

-- ---- the victim of a full set

module _ (m : Matrix) where
  -- of the first n lines, v is the lowest of those with the fewest ones
  pub record Fewest (n v : ℕ) : Type 0 where
    pub low : v < n
    pub least : (a : ℕ) → a < n → ones_of (row_of m v) ≤ ones_of (row_of m a)
    pub lowest : (a : ℕ) → a < v → ones_of (row_of m v) < ones_of (row_of m a)

  -- one more line
  least_more : (n k : ℕ) → k ≤ ones_of (row_of m n) → ((a : ℕ) → a < n → k ≤ ones_of (row_of m a)) → (a : ℕ) → a < suc n → k ≤ ones_of (row_of m a)
  least_more n k here below a h = go (eqb a n) refl
    where
      go : (t : Bool) → eqb a n ≡ t → k ≤ ones_of (row_of m a)
      go true t = let q : a ≡ n = eqb-true a n t in rw q here
      go false t = let q = eqb-false a n t in below a (omega arith)

  fewest-more : (n v : ℕ) → Fewest n v → Fewest (suc n) (fewer m v n)
  unfolding fewer
  fewest-more n v x = go (leb (ones_of (row_of m v)) (ones_of (row_of m n))) refl
    where
      go : (t : Bool) → leb (ones_of (row_of m v)) (ones_of (row_of m n)) ≡ t → Fewest (suc n) (cond t v n)
      go true t = record { low = omega (arith, x.low); least = least_more n _ (leb-true _ _ t) x.least; lowest = x.lowest }
      go false t =
          let l : ones_of (row_of m n) < ones_of (row_of m v) = leb-false _ _ t in
          record { low = omega arith; least = least_more n _ (le_refl _) (λ a h. omega (arith, x.least a h)); lowest = λ a h. omega (arith, x.least a h) }

  pub fewest-is : Fewest 4 (fewest m)
  unfolding fewest
  fewest-is = fewest-more 3 _ (fewest-more 2 _ (fewest-more 1 0 (record { low = omega arith; least = first; lowest = λ a h. absurd (omega arith) })))
    where
      first : (a : ℕ) → a < 1 → ones_of (row_of m 0) ≤ ones_of (row_of m a)
      first a h = let q : a ≡ 0 = omega arith in rw q (le_refl _)

-- the line with the fewest ones is the one whose last use is oldest
pub oldest : (last : ℕ → ℕ) (m : Matrix) → Ordered last m → (b : ℕ) → b < 4 → last (fewest m) ≤ last b
oldest last m o b h = go (ltb (last b) (last (fewest m))) refl
  where
    go : (t : Bool) → ltb (last b) (last (fewest m)) ≡ t → last (fewest m) ≤ last b
    go true t =
        let f = fewest-is m in
        let g = fewer-ones last m o b (fewest m) h f.low (ltb-true _ _ t) in
        absurd (omega (arith, f.least b h))
    go false t = ltb-false _ _ t
