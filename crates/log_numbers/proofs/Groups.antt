-- Groups of a number: what they are worth, that they fit, and the bytes that are written one by one.
use Prim.Native.Nat.{ℕ, zero, suc, ◌+◌, ◌*◌, ◌-◌, ◌/◌, ◌%◌, ◌^◌, ◌<◌, ◌≤◌}
use mathlib.Core.Path.{◌≡◌, ◌∙◌, refl, sym, ap}
use mathlib.Core.Bool.{Bool, true, false, not, ◌&&◌}
use mathlib.Core.List.{List, [], ◌∷◌}
use native.Mathlib.Nat.{pow-suc, suc-mul, mul-le-mul_right, pow-le-pow_right, mod-lt}
use native.Mathlib.Omega.{arith}
use lib.Dec.{eqb, ltb}
use lib.ListN.{length, set}
use lib.Pow.{pow-add}
use borrow.Author.Tests.{lt-ltb, le-ltb, le-leb, lt-leb, eq-eqb, ne_eqb, eqb-true, eqb-false, ltb-false}
use Rattle.board.specs.Lists.{splice}
use Rattle.board.proofs.Bools.{clash, cond_both}
use Rattle.log_numbers.specs.Reasons.{reason_padded, reason_tenth}
use Rattle.log_numbers.specs.Numbers.{group_size, groups_before, groups_from, groups_of, take_byte, More, Whole, Wrong, value_of}

-- ---- what groups are worth

-- a weight by its bits
weight-bits : (g : ℕ) → 2 ^ (7 * g) ≡ group_size ^ g
weight-bits zero = refl
weight-bits (suc g) = let d : 7 * suc g ≡ 7 * g + 7 = omega arith in rw d (pow-add 2 (7 * g) 7 ∙ ap (λ (p : ℕ). p * 128) (weight-bits g) ∙ sym (pow-suc 128 g))

-- one more group stays below the next weight
pub below_next : (g b s : ℕ) → s < group_size ^ g → b < group_size → s + b * group_size ^ g < group_size ^ suc g
below_next g b s h l =
    let p = group_size ^ g in
    let m : suc b * p ≤ 128 * p = mul-le-mul_right p l in
    omega (arith, suc-mul b p, m, h, pow-suc 128 g)

-- no weight is above the tenth byte's
pub weight-top : (g : ℕ) → g ≤ groups_before → group_size ^ g ≤ group_size ^ groups_before
weight-top g h = pow-le-pow_right (omega arith) h

-- so it is a shift
pub weight-shift : (g : ℕ) → g ≤ groups_before → 1 * 2 ^ (7 * g) % 2 ^ 64 ≡ group_size ^ g
weight-shift g h = ap (λ (p : ℕ). 1 * p % 2 ^ 64) (weight-bits g) ∙ omega (arith, weight-top g h)

-- a byte that isn't refused as a tenth one: the groups and it stay below 2^64
pub sum_fits : (g b s : ℕ) → g ≤ groups_before → s < group_size ^ g → b < group_size → (g ≡ groups_before → b ≤ 1) → s + b * group_size ^ g < 2 ^ 64
sum_fits g b s h l small tenth = go (eqb g groups_before) refl
  where
    go : (t : Bool) → eqb g groups_before ≡ t → s + b * group_size ^ g < 2 ^ 64
    go true e =
        let q = eqb-true g groups_before e in
        let m : b * group_size ^ g ≤ 1 * group_size ^ g = mul-le-mul_right (group_size ^ g) (tenth q) in
        omega (arith, m, l, weight-top g h)
    go false e =
        let n : suc g ≤ groups_before = omega (arith, h, eqb-false g groups_before e) in
        omega (arith, below_next g b s l small, weight-top (suc g) n)

-- ---- a byte that is taken

-- not a tenth byte above 1
tenth-small : (g b : ℕ) → (eqb g groups_before && ltb 1 b) ≡ false → g ≡ groups_before → b ≤ 1
tenth-small g b e q = ltb-false 1 b (rest (eqb g groups_before) (eq-eqb g groups_before q) e)
  where
    rest : (t : Bool) → t ≡ true → (t && ltb 1 b) ≡ false → ltb 1 b ≡ false
    rest true f h = h
    rest false f h = clash false f refl

-- the byte, and the weight of its group, as code has them
module _ (g b s x w : ℕ) (byte : x ≡ b) (first : (eqb g groups_before && ltb 1 x) ≡ false) where
  pub more-fits : g ≤ groups_before → s < group_size ^ g → group_size ≤ x → w ≡ group_size ^ g → s + x % group_size * w < 2 ^ 64
  more-fits h l m e =
      rw e (sum_fits g (x % group_size) s h l (mod-lt x (omega arith)) (λ q. small (omega (arith, tenth-small g x first q, m))))
    where
      small : ⊥ → x % group_size ≤ 1
      small z = absurd z

  pub whole-fits : g ≤ groups_before → s < group_size ^ g → x < group_size → w ≡ group_size ^ g → s + x * w < 2 ^ 64
  whole-fits h l m e = rw e (sum_fits g x s h l m (tenth-small g x first))

  pub taken_more : group_size ≤ x → w ≡ group_size ^ g → More (s + x % group_size * w) ≡ take_byte g s b
  unfolding take_byte
  taken_more h e = rw (sym byte, first, le-leb group_size x h, e)

  pub taken-padded : x < group_size → (not (eqb g 0) && eqb x 0) ≡ true → Wrong reason_padded ≡ take_byte g s b
  unfolding take_byte
  taken-padded h p = rw (sym byte, first, lt-leb group_size x h, p)

  pub taken-whole : x < group_size → (not (eqb g 0) && eqb x 0) ≡ false → w ≡ group_size ^ g → Whole (s + x * w) ≡ take_byte g s b
  unfolding take_byte
  taken-whole h p e = rw (sym byte, first, lt-leb group_size x h, p, e)

-- a product is no larger than a sum with it
pub part-fits : (x s e : ℕ) → s + x < e → x < e
part-fits x s e h = omega (arith, h)

pub taken-tenth : (g s b x : ℕ) → x ≡ b → (eqb g groups_before && ltb 1 x) ≡ true → Wrong reason_tenth ≡ take_byte g s b
unfolding take_byte
taken-tenth g s b x byte e = rw (sym byte, e)

-- ---- bytes that are written

-- a number from a group up is written as a group and the rest
pub groups-more : (k n : ℕ) → group_size ≤ n → n < 2 * group_size ^ k → groups_from k n ≡ (group_size + n % group_size) ∷ groups_from (k - 1) (n / group_size)
unfolding groups_from
groups-more zero n h l = absurd (omega (arith, h, l))
groups-more (suc k) n h l = let d : suc k - 1 ≡ k = omega arith in rw (le-ltb n group_size h, d)

-- a number below a group is written as it is
pub groups-last : (k n : ℕ) → n < group_size → groups_from k n ≡ n ∷ []
unfolding groups_from
groups-last zero n h = refl
groups-last (suc k) n h = rw (lt-ltb n group_size h)

-- a number that fits is written in at most ten groups
pub written_start : (n at : ℕ) → n < 2 ^ 64 → n < 2 * group_size ^ (at + groups_before - at)
written_start n at h = let d : at + 9 - at ≡ 9 = omega arith in rw d (omega (arith, h))

pub groups-start : (n at : ℕ) → groups_of n ≡ groups_from (at + groups_before - at) n
groups-start n at = let d : at + 9 - at ≡ 9 = omega arith in ap (λ (k : ℕ). groups_from k n) (sym d)

module _ (k k' n : ℕ) (next : k' ≡ k - 1) (h : group_size ≤ n) (l : n < 2 * group_size ^ k) where
  -- there are groups left for the rest
  pub written-room : 1 ≤ k
  written-room = go k l
    where
      go : (j : ℕ) → n < 2 * group_size ^ j → 1 ≤ j
      go zero m = absurd (omega (arith, h, m))
      go (suc j) m = omega arith

  pub written-rest : n / group_size < 2 * group_size ^ k'
  written-rest = rw next (go k l written-room)
    where
      go : (j : ℕ) → n < 2 * group_size ^ j → 1 ≤ j → n / group_size < 2 * group_size ^ (j - 1)
      go zero m p = absurd (omega (arith, p))
      go (suc j) m p = let d : suc j - 1 ≡ j = omega arith in rw d (omega (arith, m, pow-suc 128 j))

  -- a group is put, and the rest of the bytes after it
  pub written-more : (l₀ bytes : List ℕ) (at : ℕ) → l₀ ≡ splice bytes at (groups_from k n) → l₀ ≡ splice (set bytes at (group_size + n % group_size)) (at + 1) (groups_from k' (n / group_size))
  unfolding splice
  written-more l₀ bytes at e = let a : at + 1 ≡ suc at = omega arith in rw (next, a) (e ∙ ap (splice bytes at) (groups-more k n h l))

  pub written_count : (end at : ℕ) → end ≡ at + length (groups_from k n) → end ≡ at + 1 + length (groups_from k' (n / group_size))
  written_count end at e = rw next (e ∙ ap (λ (x : List ℕ). at + length x) (groups-more k n h l) ∙ omega arith)

-- the last group is put
pub written_last : (k n : ℕ) (l₀ bytes : List ℕ) (at : ℕ) → n < group_size → l₀ ≡ splice bytes at (groups_from k n) → set bytes at n ≡ l₀
unfolding splice
written_last k n l₀ bytes at h e = sym (e ∙ ap (splice bytes at) (groups-last k n h))

pub counted-last : (k n end at : ℕ) → n < group_size → end ≡ at + length (groups_from k n) → at + 1 ≡ end
counted-last k n end at h e = sym (e ∙ ap (λ (x : List ℕ). at + length x) (groups-last k n h))

-- a number has one group more than may stand before the last, at most
pub groups-room : (more n : ℕ) → length (groups_from more n) ≤ suc more
unfolding groups_from
groups-room zero n = omega arith
groups-room (suc more) n =
    cond_both (λ (l : List ℕ). length l ≤ suc (suc more)) (ltb n group_size) _ _ (omega arith) (omega (arith, groups-room more (n / group_size)))

-- ---- bytes of a number that are taken

-- the byte's part of it
pub value-last : (gs : List ℕ) (b : ℕ) → value_of gs 0 + b * group_size ^ length gs ≡ value_of gs b
value-last [] b = omega arith
value-last (g ∷ gs) b = rw (pow-suc group_size (length gs)) (omega (arith, value-last gs b))

-- a last byte that isn't refused after these groups, if at most so many may stand before it
pub record Last (most : ℕ) (gs : List ℕ) (b : ℕ) : Type 0 where
  pub small : b < group_size
  pub few : length gs ≤ most
  pub low : length gs ≡ most → b ≤ 1
  pub proper : 1 ≤ length gs → 1 ≤ b

-- one more group
pub take_more : (g s b : ℕ) → g < groups_before → group_size ≤ b → take_byte g s b ≡ More (s + b % group_size * group_size ^ g)
unfolding take_byte
take_more g s b h m = let n : g ≡ groups_before → ⊥ = omega arith in rw (ne_eqb g groups_before n, le-leb group_size b m)

-- a last byte
pub take_last : (gs : List ℕ) (b : ℕ) → Last groups_before gs b → take_byte (length gs) (value_of gs 0) b ≡ Whole (value_of gs b)
unfolding take_byte
take_last gs b l = rw (low (eqb (length gs) groups_before) refl, lt-leb group_size b l.small, proper (eqb (length gs) 0) refl) (ap Whole (value-last gs b))
  where
    low : (t : Bool) → eqb (length gs) groups_before ≡ t → (t && ltb 1 b) ≡ false
    low true e = le-ltb 1 b (l.low (eqb-true (length gs) groups_before e))
    low false e = refl

    proper : (t : Bool) → eqb (length gs) 0 ≡ t → (not t && eqb b 0) ≡ false
    proper true e = refl
    proper false e = let p : 1 ≤ b = l.proper (omega (arith, eqb-false (length gs) 0 e)) in ne_eqb b 0 (omega arith)
