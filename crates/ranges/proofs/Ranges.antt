-- Names in ranges, and the range of a page.
use Prim.Native.Nat.{ℕ, ◌+◌, ◌-◌, ◌/◌, ◌≤◌, ◌<◌}
use mathlib.Core.Path.{◌≡◌, refl, sym}
use mathlib.Core.Bool.{Bool, true, false, ◌||◌}
use native.Mathlib.Omega.{arith}
use lib.Dec.{leb, ltb, eqb}
use borrow.Author.Tests.{ltb-true, ltb-false, leb-true, lt-ltb, le-ltb, le-leb, lt-leb, eqb-true, eqb-false}
use Rattle.address.specs.Layout.{page_lines}
use Rattle.board.proofs.Bools.{and_left, and_right}
use Rattle.ranges.specs.Ranges.{in_range, named, page_names, PageNames}
use Rattle.ranges.specs.declared.Range.{Range}
use Rattle.ranges.specs.declared.Names.{Names}
use Rattle.ranges.specs.declared.Names.TheVariants.{One, Two, All}

module _ (r : Range) (name : ℕ) where
  pub in-below : name < r.first → false ≡ in_range r name
  unfolding in_range
  in-below h = rw (lt-leb _ _ h)

  pub in-from : r.first ≤ name → ltb (name - r.first) r.count ≡ in_range r name
  unfolding in_range
  in-from h = rw (le-leb _ _ h) (go (ltb (name - r.first) r.count) refl)
    where
      go : (t : Bool) → ltb (name - r.first) r.count ≡ t → t ≡ ltb name (r.first + r.count)
      go true e = let a = ltb-true (name - r.first) r.count e in sym (lt-ltb name (r.first + r.count) (omega arith))
      go false e = let a = ltb-false (name - r.first) r.count e in sym (le-ltb name (r.first + r.count) (omega arith))

  -- a name in a range is from its first on and before its end, and one there is in it
  pub in-least : in_range r name ≡ true → r.first ≤ name
  unfolding in_range
  in-least h = leb-true _ _ (and_left (leb r.first name) _ h)

  pub in-most : in_range r name ≡ true → name < r.first + r.count
  unfolding in_range
  in-most h = ltb-true _ _ (and_right (leb r.first name) _ h)

  pub in_between : r.first ≤ name → name < r.first + r.count → in_range r name ≡ true
  unfolding in_range
  in_between a b = rw (le-leb _ _ a, lt-ltb _ _ b)

module _ (names : Names) (name : ℕ) (t : Bool) (r : Range) (e : t ≡ in_range r name) where
  pub named-one : names ≡ One r → t ≡ named names name
  unfolding named
  named-one k = rw k e

  pub named-two : (u : Bool) (q : Range) → u ≡ in_range q name → names ≡ Two r q → (t || u) ≡ named names name
  unfolding named
  named-two u q f k = rw (k, e, f)

pub named-all : (names : Names) (name : ℕ) → names ≡ All → true ≡ named names name
unfolding named
named-all names name k = rw k

module _ (page name : ℕ) where
  page-out : (name / page_lines ≡ page → ⊥) → (t : Bool) → in_range (page_names page) name ≡ t → t ≡ false
  page-out n true k = absurd (n (omega (arith, in-least (page_names page) name k, in-most (page_names page) name k)))
  page-out n false k = refl

  page-in : (t : Bool) → eqb (name / page_lines) page ≡ t → in_range (page_names page) name ≡ t
  page-in true e = let a : name / page_lines ≡ page = eqb-true _ _ e in in_between (page_names page) name (omega arith) (omega arith)
  page-in false e = page-out (eqb-false (name / page_lines) page e) _ refl

pub page-names : PageNames
page-names page name = page-in page name _ refl
