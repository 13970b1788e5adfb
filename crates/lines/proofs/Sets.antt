-- Sets and their records: how many sets there are, where their records stand, and that a victim is one of its set.
use Rattle.std.specs.Prelude.{Option, Some, None}
use Prim.Native.Nat.{ℕ, suc, ◌+◌, ◌*◌, ◌-◌, ◌/◌, ◌%◌, ◌^◌, ◌≤◌, ◌<◌}
use mathlib.Core.Path.{◌≡◌, refl, sym, ◌∙◌}
use mathlib.Core.Logic.{⊎_elim}
use mathlib.Core.Bool.{Bool, true, false, cond}
use mathlib.Core.List.{List}
use native.Mathlib.Nat.{div-one, mul-one, mul-add-div_right, div-eq_of_lt, div-mul-le_self, mul-le-mul_right, mod-lt, suc-mul}
use native.Mathlib.Omega.{arith}
use lib.Count.{ones, ones_step}
use lib.Dec.{eqb}
use borrow.Author.Tests.{eqb-true}
use Rattle.board.specs.Searches.{first}
use Rattle.board.specs.Shapes.{set_lines}
use Rattle.board.specs.declared.Shape.{Shape}
use Rattle.board.proofs.Searches.{first-at}
use Rattle.board.proofs.Shapes.{Edition, one_line, four_lines, edition-is}
use Rattle.sets.specs.Matrices.{fewest}
use Rattle.sets.proofs.Orders.{fewest-is}
use Rattle.lines.specs.Holds.{sets_of, place_of, set_at, first_at, holds_name, holder_of}
use Rattle.lines.specs.Victims.{Uses, matrix_of, is_empty, empty_at, victim_by, victim_at, victim_of}
use Rattle.lines.specs.Premises.{Lined}
use Rattle.lines.proofs.OneBit.{digit, none-set, one-pos}

-- ---- half and a quarter of a number with one bit set

half-one : (n : ℕ) → n < 2 ^ 64 → 2 ≤ n → ones n ≡ 1 → ones (n / 2) ≡ 1
half-one n h l e =
    ⊎_elim (λ z. omega (arith, ones_step n))
    (λ z. let r : n / 2 ≡ 0 = none-set 64 (n / 2) (omega arith) (omega (arith, ones_step n)) in absurd (omega arith)) (digit n)

quarter-one : (n : ℕ) → n < 2 ^ 64 → 4 ≤ n → ones n ≡ 1 → ones (n / 4) ≡ 1
quarter-one n h l e =
    let z : n / 2 / 2 ≡ n / 4 = omega arith in
    rw (← z) (half-one (n / 2) (omega arith) (omega arith) (half-one n h (omega arith) e))

quarter-whole : (n : ℕ) → n < 2 ^ 64 → 4 ≤ n → ones n ≡ 1 → n % 4 ≡ 0
quarter-whole n h l e =
    let a = half-one n h (omega arith) e in
    let b = half-one (n / 2) (omega arith) (omega arith) a in
    omega (arith, ones_step n, ones_step (n / 2))

-- ---- the records of a set, over the number of lines in a set

-- record k of set q stands in set q, and is one of the n records
module _ (w q k : ℕ) (h : k < w) where
  pub in_set : (q * w + k) / w ≡ q
  in_set = mul-add-div_right (omega arith) q k ∙ rw (div-eq_of_lt h) (omega arith)

  pub in_lines : (n : ℕ) → q < n / w → q * w + k < n
  in_lines n l =
      let a : suc q * w ≤ n / w * w = mul-le-mul_right w l in
      let b = div-mul-le_self n w in
      let c : suc q * w ≡ q * w + w = suc-mul q w in
      omega (arith, a, b, c)

-- ---- an accepted shape

module _ (s : Shape) (l : Lined s) where
  below : s.lines < 2 ^ 64
  below = omega (arith, l.lines_max)

  pub ways_pos : 0 < s.ways
  ways_pos = go (edition-is s l.edition)
    where
      go : Edition s → 0 < s.ways
      go (one_line e) = omega (arith, e)
      go (four_lines e h) = omega (arith, e)

  pub sets-one : ones (sets_of s) ≡ 1
  sets-one = go (edition-is s l.edition)
    where
      go : Edition s → ones (sets_of s) ≡ 1
      go (one_line e) = rw (e, div-one s.lines) l.one
      go (four_lines e h) = rw e (quarter-one s.lines below h l.one)

  pub sets-low : sets_of s ≤ s.lines
  sets-low = go (edition-is s l.edition)
    where
      go : Edition s → sets_of s ≤ s.lines
      go (one_line e) = rw (e, div-one s.lines) (omega arith)
      go (four_lines e h) = rw e (omega arith)

  pub sets_pos : 0 < sets_of s
  sets_pos = one-pos (sets_of s) (omega (arith, below, sets-low)) sets-one

  -- sets of four: no lines are left over
  pub lines-whole : s.ways ≡ set_lines → s.lines % set_lines ≡ 0
  lines-whole e = go (edition-is s l.edition)
    where
      go : Edition s → s.lines % set_lines ≡ 0
      go (one_line f) = absurd (omega (arith, e, f))
      go (four_lines f h) = quarter-whole s.lines below h l.one

  -- the sets have every record
  pub sets-all : first_at s (sets_of s) ≡ s.lines
  sets-all = go (edition-is s l.edition)
    where
      go : Edition s → first_at s (sets_of s) ≡ s.lines
      go (one_line e) = rw (e, div-one s.lines, mul-one s.lines) refl
      go (four_lines e h) = rw e (omega (arith, quarter-whole s.lines below h l.one))

  -- the sets of one line: a place is a record
  module _ (n : s.ways ≡ set_lines → ⊥) where
    pub ways-one : s.ways ≡ 1
    ways-one = go (edition-is s l.edition)
      where
        go : Edition s → s.ways ≡ 1
        go (one_line e) = e
        go (four_lines e h) = absurd (n e)

-- ---- a record of a set

pub record InSet (s : Shape) (place i : ℕ) : Type 0 where
  pub offset : ℕ
  pub low : offset < s.ways
  pub is : i ≡ first_at s place + offset

module _ (s : Shape) (place i : ℕ) where
  pub between : first_at s place ≤ i → i < first_at s place + s.ways → InSet s place i
  between h k = record { offset = i - first_at s place; low = omega arith; is = omega arith }

  module _ (r : InSet s place i) where
    pub set_is : set_at s i ≡ place
    set_is = rw r.is (in_set s.ways place r.offset r.low)

    pub set-inside : place < sets_of s → i < s.lines
    set-inside h = rw r.is (in_lines s.ways place r.offset r.low s.lines h)

-- what a search in a set finds is one of the set
pub found_in : (s : Shape) (test : ℕ → Bool) (place i : ℕ) → first test (first_at s place) s.ways ≡ Some i → InSet s place i
found_in s test place i h = let f = first-at test (first_at s place) s.ways i h in between s place i f.from f.to

-- the victim is one of its set
module _ (s : Shape) (uses : Uses) (records : List ℕ) (place : ℕ) (pos : 0 < s.ways) where
  given-in : InSet s place (first_at s place + cond (eqb s.ways set_lines) (fewest (matrix_of uses place)) 0)
  given-in = go (eqb s.ways set_lines) refl
    where
      go : (t : Bool) → eqb s.ways set_lines ≡ t → InSet s place (first_at s place + cond t (fewest (matrix_of uses place)) 0)
      go true e =
          let w : s.ways ≡ set_lines = eqb-true _ _ e in
          record { offset = fewest (matrix_of uses place); low = omega (arith, w, (fewest-is (matrix_of uses place)).low); is = refl }
      go false e = record { offset = 0; low = pos; is = refl }

  victim-by : (f : Option ℕ) → empty_at s records place ≡ f → InSet s place (victim_by s uses place f)
  unfolding victim_by
  victim-by (Some i) h = found_in s (is_empty s records) place i h
  victim-by None h = given-in

  pub victim-in : InSet s place (victim_at s uses records place)
  unfolding victim_at
  victim-in = victim-by (empty_at s records place) refl

-- the victim of a name's set stands in it, and is a record
module _ (s : Shape) (uses : Uses) (records : List ℕ) (name : ℕ) (w : 0 < s.ways) where
  pub victim-set : set_at s (victim_of s uses records name) ≡ place_of s name
  victim-set = set_is s (place_of s name) (victim_at s uses records (place_of s name)) (victim-in s uses records (place_of s name) w)

  pub victim-inside : 0 < sets_of s → victim_of s uses records name < s.lines
  victim-inside p = set-inside s (place_of s name) (victim_at s uses records (place_of s name)) (victim-in s uses records (place_of s name) w) (mod-lt name p)

-- what holds a name is one of its set, and a record
module _ (s : Shape) (records : List ℕ) (name i : ℕ) (found : Option ℕ) (e : found ≡ holder_of s records name) (k : found ≡ Some i) where
  pub holder_in : InSet s (place_of s name) i
  unfolding holder_of
  holder_in = found_in s (holds_name s records name) (place_of s name) i (sym e ∙ k)

  pub holder-below : 0 < sets_of s → i < s.lines
  holder-below p = set-inside s (place_of s name) i holder_in (mod-lt name p)

  pub holder-inside : Lined s → i < s.lines
  holder-inside l = holder-below (sets_pos s l)
