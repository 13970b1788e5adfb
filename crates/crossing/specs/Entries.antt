-- How the entry of a page crosses to C and Rust: as one number of 64 bits, number × 2^44 + value. A global address is below 2^44.
use Rattle.std.specs.Prelude.{ℕ, ◌/◌, ◌%◌, ◌≡◌}
use Rattle.address.specs.Layout.{global_end}
use Rattle.address.specs.Entries.{asked_entry, entry_number, entry_value}

-- the contract of the call for C and Rust: number and value are read off the returned number
abbrev pub EntryReturned : ℕ → ℕ → Type 0
EntryReturned page r = (r / global_end ≡ entry_number (asked_entry page)) × (r % global_end ≡ entry_value (asked_entry page))

-- no second number meets it
abbrev pub OneEntryReturned : Type 0
OneEntryReturned = (page r q : ℕ) → EntryReturned page r → EntryReturned page q → r ≡ q
