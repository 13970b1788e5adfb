-- How an answer crosses to C and Rust: as one number of 64 bits, number × 2^56 + mark × 2^32 + value.
-- Number and mark have a byte each; a caller reads the mark as r / 2^32 % 2^8. The sixteen bits between them are 0, and kept for a cost of an access
-- in an edition that gives one.
-- A contract reads the answer off that number: it cites the call's own with `unpacked r` for the answer.
use Rattle.std.specs.Prelude.{ℕ, ◌+◌, ◌*◌, ◌/◌, ◌%◌, ◌<◌, ◌^◌, ◌≡◌, Bool, cond, List, map}
use Rattle.board.specs.Lists.{is_yes}
use Rattle.board.specs.declared.Answer.{Answer}
use Rattle.board.specs.declared.Pending.{Pending}
use Rattle.stores.specs.declared.Access.{Access}

-- where the mark stands, the room above it, and the number
abbrev pub mark_unit : ℕ
mark_unit = 2 ^ 32

abbrev pub room_unit : ℕ
room_unit = 2 ^ 40

abbrev pub number_unit : ℕ
number_unit = 2 ^ 56

-- what fits a byte is below this
abbrev pub byte_end : ℕ
byte_end = 2 ^ 8

unfoldable pub packed : Answer → ℕ
packed a = a.number * number_unit + a.mark * mark_unit + a.value

-- the mark is read together with the room above it, so that a contract on `unpacked r` says of the room too that it is 0. Callers read the byte
-- (`mark_byte`)
unfoldable pub unpacked : ℕ → Answer
unpacked r = record { number = r / number_unit; value = r % mark_unit; mark = r / mark_unit % (number_unit / mark_unit) }

-- the answers of a list, read off their numbers. (Nothing is lost, so equal answers are equal numbers)
abbrev pub unpacked_all : List ℕ → List Answer
unpacked_all = map unpacked

-- an answer that fits: number and mark in a byte each
pub record Small (a : Answer) : Type 0 where
  pub number_below : a.number < byte_end
  pub mark_below : a.mark < byte_end

-- nothing is lost: unpacking gives back what was packed, and what was unpacked packs to the same number;
-- the mark is its byte, and the room above it is 0
pub record NothingLost : Type 0 where
  pub answers : (a : Answer) → Small a → a.value < mark_unit → unpacked (packed a) ≡ a
  pub numbers : (r : ℕ) → packed (unpacked r) ≡ r
  pub mark_byte : (r : ℕ) → Small (unpacked r) → r / mark_unit % byte_end ≡ (unpacked r).mark
  pub room : (r : ℕ) → Small (unpacked r) → r / room_unit % (number_unit / room_unit) ≡ 0

-- the word of a flag after a call: the caller's own while it says the same, else 1 or 0
unfoldable pub word_after : ℕ → Bool → ℕ
word_after before set = cond set (cond (is_yes before) before 1) 0

-- a pending tag and an access by their numbers
abbrev pub tag_of : ℕ → ℕ → Pending
tag_of set name = record { set = is_yes set; name = name }

abbrev pub access : ℕ → ℕ → ℕ → Access
access store width value = record { store = is_yes store; width = width; value = value }
