-- The visit of a record, and sweeps from a record on.
use Prim.Native.Nat.{ℕ, zero, suc, ◌+◌, ◌-◌, ◌≤◌, ◌<◌}
use mathlib.Core.Path.{◌≡◌, ◌∙◌}
use mathlib.Core.Bool.{Bool, true, false}
use mathlib.Core.List.{List}
use native.Mathlib.Numerals.{add-one}
use native.Mathlib.Omega.{arith}
use Rattle.board.specs.declared.Shape.{Shape}
use Rattle.board.proofs.Bools.{and-false}
use Rattle.lines.specs.Records.{line_at, put_line, no_line, permitted_line}
use Rattle.stores.specs.Stores.{Store, store, written_back, noted, dropped}
use Rattle.lines.specs.Holds.{holds_line, holds_at}
use Rattle.ranges.specs.Ranges.{page_names}
use Rattle.ranges.specs.declared.Range.{Range}
use Rattle.ranges.specs.declared.Names.TheVariants.{One, Two}
use Rattle.visits.specs.Visits.{visit, selects, treated, visited, sweep}
use Rattle.lines.specs.declared.Line.{Line}
use Rattle.visits.specs.declared.Deed.{Deed}
use Rattle.visits.specs.declared.Deed.TheVariants.{Drop, Retire, Permit}
use Rattle.visits.specs.declared.Visit.{Visit}

-- the visits of the calls, by the ranges of their pages
module _ (page : ℕ) (r : Range) (e : r ≡ page_names page) where
  pub pages-are : (d : Deed) (page' : ℕ) (q : Range) → q ≡ page_names page' → (v : Visit) → v ≡ visit d (Two r q) → v ≡ visit d (Two (page_names page) (page_names page'))
  pages-are d page' q f v g = g ∙ rw (e, f)

  pub page_is : (d : Deed) → visit d (One r) ≡ visit d (One (page_names page))
  page_is d = rw e

module _ (s : Shape) (d : Deed) (i : ℕ) (r c m r₁ : List ℕ) where
  pub treated-drop : d ≡ Drop → r₁ ≡ put_line r i no_line → store r₁ c m ≡ treated s d i (store r c m)
  unfolding treated dropped noted
  treated-drop k f = rw (k, f)

  pub treated-permit : (write : Bool) → d ≡ Permit write → r₁ ≡ put_line r i (permitted_line (line_at r i) write) → store r₁ c m ≡ treated s d i (store r c m)
  unfolding treated noted
  treated-permit write k f = rw (k, f)

  pub treated-retire : (m₁ : List ℕ) → store r c m₁ ≡ written_back s i (store r c m) → r₁ ≡ put_line r i no_line → d ≡ Retire
      → store r₁ c m₁ ≡ treated s d i (store r c m)
  unfolding treated dropped noted
  treated-retire m₁ w f k = rw (k, f, ← w)

module _ (s : Shape) (v : Visit) (i : ℕ) (r c m : List ℕ) (l : Line) (u : Bool) (e : l ≡ line_at r i) (k : u ≡ selects v l) where
  pub visited-other : u ≡ false → store r c m ≡ visited s v i (store r c m)
  unfolding visited
  visited-other f = rw (← e, ← k, f, and-false (holds_at s r i))

  module _ (t : Bool) (h : t ≡ holds_line s i l) (n : u ≡ true) where
    pub visited-none : t ≡ false → store r c m ≡ visited s v i (store r c m)
    unfolding visited holds_at
    visited-none f = rw (← e, ← h, f)

    pub visited-treated : (b : Store) → t ≡ true → b ≡ treated s v.deed i (store r c m) → b ≡ visited s v i (store r c m)
    unfolding visited holds_at
    visited-treated b f g = rw (← e, ← h, ← k, f, n) g

-- the sweep from record i on
pub sweep-more : (f : ℕ → Store → Store) (n i : ℕ) (b b₁ : Store) → b₁ ≡ f i b → i < n → sweep f (n - i) i b ≡ sweep f (n - (i + 1)) (i + 1) b₁
unfolding sweep
sweep-more f n i b b₁ e h =
    let z : n - i ≡ suc (n - (i + 1)) = omega arith in
    rw (z, e, add-one)

pub sweep-end : (f : ℕ → Store → Store) (n i : ℕ) (b : Store) → n ≤ i → sweep f (n - i) i b ≡ b
unfolding sweep
sweep-end f n i b h =
    let z : n - i ≡ zero = omega arith in
    rw z
