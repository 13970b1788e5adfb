-- Ranges of line names: which names are in one, in one of two, or among all; and the names of a page.
use Rattle.std.specs.Prelude.{ℕ, ◌+◌, ◌*◌, ◌≡◌, Bool, true, ◌&&◌, ◌||◌, eqb, leb, ltb}
use Rattle.address.specs.Layout.{page_lines}
use Rattle.address.specs.Addresses.{page_of_name}
use Rattle.ranges.specs.declared.Range.{Range}
use Rattle.ranges.specs.declared.Names.{Names}
use Rattle.ranges.specs.declared.Names.TheVariants.{One, Two, All}

-- a name is in a range: one of its `count` names from `first` on
unfoldable pub in_range : Range → ℕ → Bool
in_range r name = leb r.first name && ltb name (r.first + r.count)

-- a name is one of these
unfoldable pub named : Names → ℕ → Bool
named (One r) name = in_range r name
named (Two r q) name = in_range r name || in_range q name
named All name = true

-- the names of a page: page_lines of them, from page × page_lines on
abbrev pub page_names : ℕ → Range
page_names page = record { first = page * page_lines; count = page_lines }

-- they are exactly the names whose page it is
abbrev pub PageNames : Type 0
PageNames = (page name : ℕ) → in_range (page_names page) name ≡ eqb (page_of_name name) page
