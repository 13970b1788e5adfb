-- The place of a line, the record that holds it, the record that a new line takes, and uses of records: return by return.
use Rattle.std.specs.Prelude.{Option, Some, None}
use Prim.Native.Nat.{ℕ, zero, suc, ◌+◌, ◌*◌, ◌-◌, ◌/◌, ◌%◌, ◌≤◌, ◌<◌}
use mathlib.Core.Path.{◌≡◌, ◌∙◌, refl, sym, ap}
use mathlib.Core.Bool.{Bool, true, false, not, ◌&&◌, cond}
use mathlib.Core.List.{List}
use native.Mathlib.Nat.{div-one, mul-one}
use native.Mathlib.Omega.{arith}
use lib.Count.{ones}
use lib.Dec.{eqb, ltb}
use lib.ListN.{set}
use borrow.Author.Tests.{ltb-true, eq-eqb, ne_eqb}
use Rattle.board.specs.Searches.{first}
use Rattle.board.specs.Shapes.{max_lines, set_lines, matrices_of}
use Rattle.board.specs.declared.Shape.{Shape}
use Rattle.board.proofs.Bools.{and_right}
use Rattle.board.proofs.Searches.{first_one, first-here, first_more}
use Rattle.sets.specs.Matrices.{used, fewest}
use Rattle.lines.specs.Records.{line_at}
use Rattle.lines.specs.Holds.{sets_of, place_of, set_at, first_at, holds_line, holds_at, holds_name, holder_of, keeps_line}
use Rattle.lines.specs.Victims.{Uses, matrix_of, is_empty, victim_by, victim_at, victim_of, room_by, room_for, used_in}
use Rattle.lines.specs.Premises.{Lined, has_name, first_or}
use Rattle.lines.specs.declared.Line.{Line}
use Rattle.lines.proofs.Sets.{in_lines, lines-whole, ways-one, ways_pos, sets-one, sets-low, sets_pos, victim-inside}

-- ---- sets of four, and of one

module _ (s : Shape) (l : Lined s) where
  module _ (e : s.ways ≡ set_lines) where
    pub sets-four : (s.lines / set_lines ≡ sets_of s) × (ones (s.lines / set_lines) ≡ 1) × (s.lines / set_lines ≤ s.lines)
    sets-four = (rw e, rw e at (sets-one s l), omega arith)

    pub set-four : (i : ℕ) → i / set_lines ≡ set_at s i
    set-four i = rw e

    pub first-four : (place : ℕ) → place ≤ sets_of s → (set_lines * place ≡ first_at s place) × (set_lines * place ≤ s.lines)
    first-four place h =
        let k : place ≤ s.lines / set_lines = rw e at h in
        (rw e (omega arith), omega arith)

  module _ (n : s.ways ≡ set_lines → ⊥) where
    pub sets-single : (s.lines ≡ sets_of s) × (ones s.lines ≡ 1) × (s.lines ≤ s.lines)
    sets-single = (rw (ways-one s l n, div-one s.lines), l.one, omega arith)

    pub set_single : (i : ℕ) → i ≡ set_at s i
    set_single i = rw (ways-one s l n, div-one i)

    pub first-single : (place : ℕ) → place ≤ sets_of s → (place ≡ first_at s place) × (place ≤ s.lines)
    first-single place h = (rw (ways-one s l n, mul-one place), omega (arith, sets-low s l))

-- a place is below the most lines
pub place-few : (s : Shape) (place : ℕ) → Lined s → place < sets_of s → place < max_lines
place-few s place l p = omega (arith, sets-low s l, l.lines_max)

-- the records of a place
module _ (s : Shape) (place at : ℕ) (l : Lined s) (p : place < sets_of s) (f : at ≡ first_at s place) where
  pub first-inside : at < s.lines
  first-inside = rw f (omega (arith, in_lines s.ways place 0 (ways_pos s l) s.lines p))

  pub four-inside : s.ways ≡ set_lines → at + set_lines ≤ s.lines
  four-inside e = let z = in_lines s.ways place 3 (omega (arith, e)) s.lines p in omega (arith, rw e at z, rw e at f)

-- the place of a name, by the number of sets
pub name-placed : (s : Shape) (name sets r : ℕ) → sets ≡ sets_of s → r ≡ name % sets → r < sets → (r ≡ place_of s name) × (r < sets_of s)
name-placed s name sets r e f h = rw (← e) (f, h)

-- ---- what holds a line

pub holds_by : (s : Shape) (i : ℕ) (l : Line) (place own : ℕ) → place ≡ place_of s l.name → own ≡ set_at s i
    → (l.valid && (eqb own place && ltb l.physical (256 * s.frames))) ≡ holds_line s i l
unfolding holds_line
holds_by s i l place own e f = rw (e, f)

-- the physical line of a held line is inside memory
pub holds-inside : (s : Shape) (i : ℕ) (l : Line) (t : Bool) → t ≡ holds_line s i l → t ≡ true → l.physical < 256 * s.frames
unfolding holds_line
holds-inside s i l t e h = ltb-true _ _ (and_right (eqb (set_at s i) (place_of s l.name)) _ (and_right l.valid _ (sym e ∙ h)))

module _ (s : Shape) (records : List ℕ) (i : ℕ) (l : Line) (e : l ≡ line_at records i) where
  pub holds-other : (name : ℕ) → (l.name ≡ name → ⊥) → false ≡ holds_name s records name i
  unfolding holds_name
  holds-other name n = rw (← e, ne_eqb _ _ n)

  module _ (t : Bool) (h : t ≡ holds_line s i l) where
    pub holds_named : (name : ℕ) → l.name ≡ name → t ≡ holds_name s records name i
    unfolding holds_name holds_at
    holds_named name n = rw (← e, eq-eqb _ _ n, h)

    pub keeps-by : (line : ℕ) → (t && eqb l.physical line) ≡ keeps_line s records line i
    unfolding keeps_line holds_at
    keeps-by line = rw (h, e)

    empty-by : not t ≡ is_empty s records i
    unfolding is_empty holds_at
    empty-by = rw (h, e)

    pub empty-here : (end : ℕ) → t ≡ false → i < end → first (is_empty s records) i (end - i) ≡ Some i
    empty-here end q k = first-here (is_empty s records) end i (not t) empty-by (rw q) k

    pub empty-more : (end : ℕ) → t ≡ true → i < end → first (is_empty s records) i (end - i) ≡ first (is_empty s records) (i + 1) (end - (i + 1))
    empty-more end q k = first_more (is_empty s records) end i (not t) empty-by (rw q) k

-- ---- the record that holds a name

module _ (records : List ℕ) (name i later : ℕ) where
  pub named_here : (line_at records i).name ≡ name → i ≡ cond (has_name records name i) i later
  unfolding has_name
  named_here e = rw (eq-eqb _ _ e)

  pub named-later : ((line_at records i).name ≡ name → ⊥) → later ≡ cond (has_name records name i) i later
  unfolding has_name
  named-later n = rw (ne_eqb _ _ n)

pub named-four : (test : ℕ → Bool) (i a b c d : ℕ) → d ≡ cond (test (i + 3)) (i + 3) (i + set_lines) → c ≡ cond (test (i + 2)) (i + 2) d
    → b ≡ cond (test (i + 1)) (i + 1) c → a ≡ cond (test i) i b → a ≡ first_or test i set_lines
unfolding first_or
named-four test i a b c d p q r s =
    let x : suc i ≡ i + 1 = omega arith in
    let y : suc (i + 1) ≡ i + 2 = omega arith in
    let z : suc (i + 2) ≡ i + 3 = omega arith in
    let w : suc (i + 3) ≡ i + set_lines = omega arith in
    rw (x, y, z, w) (rw (← p, ← q, ← r) s)

-- a search may begin at the first record that has the name: those before it don't hold it
module _ (s : Shape) (records : List ℕ) (name : ℕ) where
  unnamed-not : (k : ℕ) → has_name records name k ≡ false → holds_name s records name k ≡ false
  unfolding has_name holds_name
  unnamed-not k e = rw e

  pub named_start : (n i r end : ℕ) → end ≡ i + n → r ≡ first_or (has_name records name) i n
      → first (holds_name s records name) i n ≡ first (holds_name s records name) r (end - r)
  unfolding first_or first
  named_start zero i r end e f = let z : end - i ≡ zero = omega arith in rw (f, z)
  named_start (suc n) i r end e f = go (has_name records name i) refl f (named_start n (suc i) r end (omega arith))
    where
      go : (t : Bool) → has_name records name i ≡ t → r ≡ cond t i (first_or (has_name records name) (suc i) n)
          → (r ≡ first_or (has_name records name) (suc i) n
          → first (holds_name s records name) (suc i) n ≡ first (holds_name s records name) r (end - r))
          → cond (holds_name s records name i) (Some i) (first (holds_name s records name) (suc i) n) ≡ first (holds_name s records name) r (end - r)
      go true q g later = let z : end - i ≡ suc n = omega arith in rw (g, z) refl
      go false q g later = rw (unnamed-not i q) (later g)

module _ (s : Shape) (records : List ℕ) (name place at : ℕ) (p : place ≡ place_of s name) (f : at ≡ first_at s place) where
  first-is : at ≡ first_at s (place_of s name)
  first-is = f ∙ ap (first_at s) p

  pub holder-four : (found : Option ℕ) → s.ways ≡ set_lines → found ≡ first (holds_name s records name) at set_lines → found ≡ holder_of s records name
  unfolding holder_of
  holder-four found e h =
      h ∙ (ap (first (holds_name s records name) at) (sym e) ∙ ap (λ (k : ℕ). first (holds_name s records name) k s.ways) first-is)

  module _ (l : Lined s) (n : s.ways ≡ set_lines → ⊥) (t : Bool) (h : t ≡ holds_name s records name at) where
    holder-one : cond t (Some at) None ≡ holder_of s records name
    unfolding holder_of
    holder-one =
        ap (λ (b : Bool). cond b (Some at) None) h
        ∙ (sym (first_one (holds_name s records name) at)
        ∙ (ap (first (holds_name s records name) at) (sym (ways-one s l n)) ∙ ap (λ (k : ℕ). first (holds_name s records name) k s.ways) first-is))

    pub holder-at : t ≡ true → Some at ≡ holder_of s records name
    holder-at q = rw q at holder-one

    pub holder-none : t ≡ false → None ≡ holder_of s records name
    holder-none q = rw q at holder-one

-- ---- the record that a new line takes

module _ (s : Shape) (uses : Uses) (records : List ℕ) (place at : ℕ) (f : at ≡ first_at s place) where
  victim-by : (found : Option ℕ) → found ≡ first (is_empty s records) at s.ways → victim_by s uses place found ≡ victim_at s uses records place
  unfolding victim_at
  victim-by found h = ap (victim_by s uses place) (h ∙ ap (λ (k : ℕ). first (is_empty s records) k s.ways) f)

  module _ (found : Option ℕ) (e : s.ways ≡ set_lines) (h : found ≡ first (is_empty s records) at set_lines) where
    found-four : found ≡ first (is_empty s records) at s.ways
    found-four = h ∙ ap (first (is_empty s records) at) (sym e)

    pub victim_empty : (i : ℕ) → found ≡ Some i → i ≡ victim_at s uses records place
    unfolding victim_by
    victim_empty i k = ap (victim_by s uses place) (sym k) ∙ victim-by found found-four

    pub victim_full : (r : ℕ) → found ≡ None → r ≡ fewest (matrix_of uses place) → at + r ≡ victim_at s uses records place
    unfolding victim_by
    victim_full r k g =
        let z : at + r ≡ victim_by s uses place None = rw (f, g, eq-eqb _ _ e) in
        z ∙ (ap (victim_by s uses place) (sym k) ∙ victim-by found found-four)

  module _ (name : ℕ) (p : place ≡ place_of s name) where
    pub victim-four : (r : ℕ) → r ≡ victim_at s uses records place → r ≡ victim_of s uses records name
    victim-four r e = e ∙ ap (victim_at s uses records) p

    pub victim-single : Lined s → (s.ways ≡ set_lines → ⊥) → at ≡ victim_of s uses records name
    unfolding victim_by
    victim-single l n = victim-four at (go (is_empty s records at) refl ∙ victim-by (first (is_empty s records) at s.ways) refl)
      where
        found-one : first (is_empty s records) at s.ways ≡ cond (is_empty s records at) (Some at) None
        found-one = ap (first (is_empty s records) at) (ways-one s l n) ∙ first_one (is_empty s records) at

        go : (t : Bool) → is_empty s records at ≡ t → at ≡ victim_by s uses place (first (is_empty s records) at s.ways)
        go true z = rw (found-one, z)
        go false z = rw (found-one, z, f, ne_eqb _ _ n) (omega arith)

-- what a new line takes is a record
pub victim-low : (s : Shape) (uses : Uses) (records : List ℕ) (name r : ℕ) → Lined s → r ≡ victim_of s uses records name → r < s.lines
victim-low s uses records name r l e = rw e (victim-inside s uses records name (ways_pos s l) (sets_pos s l))

-- ---- where a line is to be inserted

module _ (s : Shape) (uses : Uses) (records : List ℕ) (name place at : ℕ) (p : place ≡ place_of s name) (f : at ≡ first_at s place) where
  room-is : (found : Option ℕ) → found ≡ holder_of s records name → room_by (victim_of s uses records name) found ≡ room_for s uses records name
  room-is found e = ap (room_by (victim_of s uses records name)) e

  module _ (found : Option ℕ) (e : s.ways ≡ set_lines) (h : found ≡ first (holds_name s records name) at set_lines) where
    room_by_lem : room_by (victim_of s uses records name) found ≡ room_for s uses records name
    room_by_lem = room-is found (holder-four s records name place at p f found e h)

    pub room-held : (i : ℕ) → found ≡ Some i → None ≡ room_for s uses records name
    unfolding room_by
    room-held i k = ap (room_by (victim_of s uses records name)) (sym k) ∙ room_by_lem

    pub room-new : (r : ℕ) → found ≡ None → r ≡ victim_at s uses records place → Some r ≡ room_for s uses records name
    unfolding room_by
    room-new r k v = ap Some (victim-four s uses records place at f name p r v) ∙ (ap (room_by (victim_of s uses records name)) (sym k) ∙ room_by_lem)

  module _ (l : Lined s) (n : s.ways ≡ set_lines → ⊥) (t : Bool) (h : t ≡ holds_name s records name at) where
    pub room-held-one : t ≡ true → None ≡ room_for s uses records name
    unfolding room_by
    room-held-one q = room-is (Some at) (holder-at s records name place at p f l n t h q)

    pub room-new-one : t ≡ false → Some at ≡ room_for s uses records name
    unfolding room_by
    room-new-one q = ap Some (victim-single s uses records place at f name p l n) ∙ room-is None (holder-none s records name place at p f l n t h q)

-- what is to be filled is a record
module _ (s : Shape) (uses : Uses) (records : List ℕ) (name to : ℕ) where
  room-victim : (found : Option ℕ) → room_by (victim_of s uses records name) found ≡ Some to → to ≡ victim_of s uses records name
  unfolding room_by
  room-victim (Some i) e = absurd (let z : ◌≡◌ {A = ℕ} 0 1 = cc in omega arith)
  room-victim None e = cc

  pub room-low : (room : Option ℕ) → Lined s → room ≡ room_for s uses records name → room ≡ Some to → to < s.lines
  room-low room l e k = victim-low s uses records name to l (room-victim (holder_of s records name) (sym e ∙ k))

-- ---- uses

module _ (s : Shape) (uses uses₁ : Uses) (i : ℕ) where
  pub use-four : s.ways ≡ set_lines → uses₁ ≡ set uses (i / set_lines) (used (matrix_of uses (i / set_lines)) (i % set_lines)) → uses₁ ≡ used_in s uses i
  unfolding used_in
  use-four e h = rw (h, eq-eqb _ _ e)

  pub use-none : (s.ways ≡ set_lines → ⊥) → uses ≡ used_in s uses i
  unfolding used_in
  use-none n = rw (ne_eqb _ _ n)

-- a place has a matrix
pub place-noted : (s : Shape) (place n : ℕ) → s.ways ≡ set_lines → place < sets_of s → n ≡ matrices_of s → place < n
unfolding matrices_of
place-noted s place n e h k = rw (k, eq-eqb _ _ e) (rw e at h)

-- the set of a record has a matrix
pub set-noted : (s : Shape) (i n : ℕ) → Lined s → s.ways ≡ set_lines → i < s.lines → n ≡ matrices_of s → i / set_lines < n
unfolding matrices_of
set-noted s i n l e h k =
    let z : n ≡ s.lines / set_lines = rw (eq-eqb _ _ e) at k in
    omega (arith, lines-whole s l e)
