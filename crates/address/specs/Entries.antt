-- CR 5: asking for the page table entry of a page gives the entry or a refusal, for any number. It asks no board.
use Rattle.std.specs.Prelude.{ℕ, ◌≡◌, Bool, ◌&&◌, cond, leb, ltb, Option, Some, None}
use Rattle.address.specs.declared.Global.{Global}
use Rattle.address.specs.Layout.{first_page, page_end}
use Rattle.address.specs.Addresses.{entry_of}

-- pages below 0x200000 lie under prefixes 0 and 1 and are never translated: they have no entry; and a page has 32 bits
abbrev pub has_entry : ℕ → Bool
has_entry page = leb first_page page && ltb page page_end

-- what asking gives: the entry of a page that has one, else a refusal
unfoldable pub asked_entry : ℕ → Option Global
asked_entry page = cond (has_entry page) (Some (entry_of page)) None

-- 01's number of each case, and the value: the entry's global address, or 0
unfoldable pub entry_number : Option Global → ℕ
entry_number (Some g) = 0
entry_number None = 2

unfoldable pub entry_value : Option Global → ℕ
entry_value (Some g) = g.0
entry_value None = 0

-- the contract
abbrev pub AskedEntry : ℕ → Option Global → Type 0
AskedEntry page r = r ≡ asked_entry page

-- no second answer meets it
abbrev pub OneEntryAsked : Type 0
OneEntryAsked = (page : ℕ) (r q : Option Global) → AskedEntry page r → AskedEntry page q → r ≡ q
