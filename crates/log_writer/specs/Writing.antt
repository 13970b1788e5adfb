-- CR 1: an entry is written as the bytes of its numbers. One that a log can't hold is refused with the field that is wrong, and nothing is written.
use Rattle.std.specs.Prelude.{ℕ, zero, suc, ◌≤◌, ◌≡◌, cond, Option, MatchOption, Result, Ok, Err, List, [], ◌∷◌, ◌++◌, length, take, eqb, ltb, leb}
use Rattle.board.specs.Lists.{splice}
use Rattle.log_numbers.specs.Numbers.{bytes_of}
use Rattle.log_numbers.specs.Reasons.{reason_none, reason_misfit, reason_kind, reason_field}
use Rattle.log_entries.specs.Entries.{fields_by_kind, fields_of, most, five_of}
use Rattle.log_entries.specs.declared.Entry.{Entry}
use Rattle.log_writer.specs.declared.Refused.{Refused}
use Rattle.log_writer.specs.declared.Refused.TheVariants.{Short, Kind, Field}

-- the number, from 1, of the first field that is too large; 0 if none is. A field that the kind doesn't have is too large unless it is 0
unfoldable pub first_wrong : ℕ → List ℕ → List ℕ → ℕ
first_wrong kind before [] = 0
first_wrong kind before (n ∷ ns) = cond (leb n (most kind before)) (first_wrong kind (before ++ n ∷ []) ns) (suc (length before))

-- the numbers of an entry with these words, as they stand in a log: the kind but for the header, and the fields that the kind has
unfoldable pub numbers_of : ℕ → List ℕ → List ℕ
numbers_of kind five = cond (eqb kind 0) (take (length (fields_of kind)) five) (kind ∷ take (length (fields_of kind)) five)

-- a buffer of this many bytes has room for any entry
abbrev pub entry_bytes : ℕ
entry_bytes = 60

-- why it is refused, and the field that is wrong; or 0, and how many bytes were written
pub record Wrote : Type 0 where
  pub reason : ℕ
  pub amount : ℕ

abbrev pub wrote : ℕ → ℕ → Wrote
wrote reason amount = record { reason = reason; amount = amount }

-- what a call leaves
pub record Written : Type 0 where
  pub wrote : Wrote
  pub bytes : List ℕ

abbrev pub written : Wrote → List ℕ → Written
written w bytes = record { wrote = w; bytes = bytes }

-- by the first field that is too large
unfoldable pub by_field : ℕ → ℕ → List ℕ → List ℕ → Written
by_field zero kind five bytes = written (wrote reason_none (length (bytes_of (numbers_of kind five)))) (splice bytes 0 (bytes_of (numbers_of kind five)))
by_field (suc i) kind five bytes = written (wrote reason_field (suc i)) bytes

-- an entry, at the front of these bytes
unfoldable pub write_entry : Entry → List ℕ → Written
write_entry e bytes =
    cond (ltb (length bytes) entry_bytes) (written (wrote reason_misfit 0) bytes)
    (cond (ltb e.kind (length fields_by_kind)) (by_field (first_wrong e.kind [] (five_of e)) e.kind (five_of e) bytes)
    (written (wrote reason_kind 0) bytes))

-- ---- as code has it

-- the first field that is too large, if one is
abbrev pub FirstWrong : Entry → Option ℕ → Type 0
FirstWrong e r = MatchOption r (first_wrong e.kind [] (five_of e) ≡ 0) (λ i. (i ≡ first_wrong e.kind [] (five_of e)) × (1 ≤ i) × (i ≤ 5))

-- what a call gives
abbrev pub wrote_of : Result ℕ Refused → Wrote
wrote_of (Ok amount) = wrote reason_none amount
wrote_of (Err Short) = wrote reason_misfit 0
wrote_of (Err Kind) = wrote reason_kind 0
wrote_of (Err (Field i)) = wrote reason_field i
