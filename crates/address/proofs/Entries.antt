-- The entry of a page: what is known of an entry that is given.
use Rattle.std.specs.Prelude.{Some, None}
use Prim.Native.Nat.{ℕ, ◌<◌}
use mathlib.Core.Path.{◌≡◌, refl, ◌∙◌, sym, ap}
use mathlib.Core.Bool.{Bool, true, false, ◌&&◌, cond}
use native.Mathlib.Omega.{arith}
use lib.Dec.{leb, ltb}
use borrow.Author.Tests.{ltb-true}
use Rattle.address.specs.Layout.{first_page, page_end}
use Rattle.address.specs.Addresses.{entry_of}
use Rattle.address.specs.Entries.{has_entry, asked_entry, entry_number, entry_value, OneEntryAsked}
use Rattle.address.specs.declared.Global.{Global}

second : (a b : Bool) → (a && b) ≡ true → b ≡ true
second true b e = e
second false true e = refl
second false false e = e

-- a page that has an entry has 32 bits
pub entry-page : (page : ℕ) (t : Bool) → t ≡ has_entry page → t ≡ true → page < page_end
entry-page page t e h = ltb-true page page_end (second (leb first_page page) (ltb page page_end) (sym e ∙ h))

not-refused : (g : Global) → Some g ≡ None → ⊥
unfolding entry_number
not-refused g k = let n : entry_number (Some g) ≡ entry_number None = ap entry_number k in omega (arith, n)

-- an entry that is given is that of the page, which has 32 bits
is-by : (page : ℕ) (g : Global) (t u : Bool) → ltb page page_end ≡ u → Some g ≡ cond (t && u) (Some (entry_of page)) None
    → (g.0 ≡ (entry_of page).0) × (page < page_end)
unfolding entry_value
is-by page g true true e k = (ap entry_value k, ltb-true page page_end e)
is-by page g true false e k = absurd (not-refused g k)
is-by page g false u e k = absurd (not-refused g k)

pub asked_is : (page : ℕ) (g : Global) → Some g ≡ asked_entry page → (g.0 ≡ (entry_of page).0) × (page < page_end)
unfolding asked_entry
asked_is page g k = is-by page g (leb first_page page) (ltb page page_end) refl k

pub one-entry-asked : OneEntryAsked
one-entry-asked page r q p h = p ∙ sym h
