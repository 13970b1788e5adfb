-- 01, "The board": the slot words of the processes.
use Rattle.std.specs.Prelude.{ℕ, ◌+◌, ◌*◌, ◌/◌, ◌%◌, Bool, not, eqb}
use Rattle.address.specs.Layout.{process_slots}
use Rattle.address.specs.Addresses.{attachable}
use Rattle.board.specs.Lists.{bit}

-- where a slot of a process stands among all slot words
abbrev pub slot_index : ℕ → ℕ → ℕ
slot_index process slot = process * process_slots + slot

-- a slot word is 0, or segment × 2 + write bit
abbrev pub slot_word : ℕ → Bool → ℕ
slot_word segment write = segment * 2 + bit write

abbrev pub slot_segment : ℕ → ℕ
slot_segment word = word / 2

abbrev pub slot_writes : ℕ → Bool
slot_writes word = eqb (word % 2) 1

-- a word with a segment that may not be attached counts as empty
abbrev pub slot_empty : ℕ → Bool
slot_empty word = not (attachable (slot_segment word))
