-- CR 1: "The log opens with F, U, P, L. Entries: kind 1 user access, 2 supervisor access, 3 attach, 4 detach, 5 map, 6 unmap, 7 protect, 8 flush all,
-- 9 tag, 10 load-and-map, 11 drop tag, then the fields in the order of 01; load is 0 and store 1." CR 9: "Log kind 12", move.
use Rattle.std.specs.Prelude.{ℕ, ◌+◌, ◌-◌, ◌^◌, Bool, not, ◌&&◌, cond, List, [], ◌∷◌, ◌++◌, length, get_or, eqb, ltb, leb}
use Rattle.log_numbers.specs.Numbers.{number_end}
use Rattle.log_numbers.specs.Reasons.{reason_kind, reason_field}
use Rattle.log_entries.specs.declared.Entry.{Entry}

-- ---- kinds and fields

-- what a field may be
pub data Field : Type 0 where
  any_number : Field  -- any number of a log
  flag : Field  -- 0 or 1
  word : Field  -- below 2^32
  value : ℕ → Field  -- below 2^32 if the field with this index is 1, a store; 0 if it is 0, a load
  none : Field  -- the kind has no such field

-- the fields of each kind, by rising kind from 0. The header counts as a kind 0, whose number isn't written
abbrev pub fields_by_kind : List (List Field)
fields_by_kind =
    (any_number ∷ any_number ∷ any_number ∷ any_number ∷ [])  -- the header: F, U, P, L
    ∷ (any_number ∷ flag ∷ word ∷ word ∷ value 1 ∷ [])  -- user access: process, load or store, width, effective address, value
    ∷ (flag ∷ word ∷ any_number ∷ value 0 ∷ [])  -- supervisor access: load or store, width, global address, value
    ∷ (any_number ∷ any_number ∷ any_number ∷ flag ∷ [])  -- attach: process, slot, segment, write bit
    ∷ (any_number ∷ any_number ∷ [])  -- detach: process, slot
    ∷ (any_number ∷ any_number ∷ flag ∷ [])  -- map: page, frame, write bit
    ∷ (any_number ∷ [])  -- unmap: page
    ∷ (any_number ∷ flag ∷ [])  -- protect: page, write bit
    ∷ []  -- flush all
    ∷ (any_number ∷ [])  -- tag: line name
    ∷ (any_number ∷ [])  -- load-and-map: physical line
    ∷ []  -- drop tag
    ∷ (any_number ∷ any_number ∷ [])  -- move: page, new page
    ∷ []

unfoldable pub fields_of : ℕ → List Field
fields_of kind = get_or fields_by_kind kind []

-- the kinds of calls that are known
unfoldable pub is_kind : ℕ → Bool
is_kind n = not (eqb n 0) && ltb n (length fields_by_kind)

-- ---- limits

-- the most that a field may be, after these fields
unfoldable pub most_of : List ℕ → Field → ℕ
most_of fields any_number = number_end - 1
most_of fields flag = 1
most_of fields word = 2 ^ 32 - 1
most_of fields (value i) = cond (eqb (get_or fields i 0) 0) 0 (2 ^ 32 - 1)
most_of fields none = 0

-- the most that the next field may be in an entry of this kind with these fields so far
unfoldable pub most : ℕ → List ℕ → ℕ
most kind fields = most_of fields (get_or (fields_of kind) (length fields) none)

-- ---- an entry, number by number: its kind, then its fields

-- all its fields are there
unfoldable pub is_whole : ℕ → List ℕ → Bool
is_whole kind fields = eqb (length fields) (length (fields_of kind))

-- what a number makes of an entry: it grows, it is whole, or the number is refused (why)
pub data Entered : Type 0 where
  growing : List ℕ → Entered
  whole : List ℕ → Entered
  improper : ℕ → Entered

abbrev pub entered_as : ℕ → List ℕ → Entered
entered_as kind fields = cond (is_whole kind fields) (whole (kind ∷ fields)) (growing (kind ∷ fields))

-- a number after those of an entry so far; after none of them it is a kind
unfoldable pub number_in : List ℕ → ℕ → Entered
number_in [] n = cond (is_kind n) (entered_as n []) (improper reason_kind)
number_in (kind ∷ fields) n = cond (leb n (most kind fields)) (entered_as kind (fields ++ n ∷ [])) (improper reason_field)

-- ---- as six words: the kind, and five fields of which those that it doesn't have are 0

abbrev pub entry_words : ℕ
entry_words = 6

-- the fields, and all the words, as code has them
abbrev pub five_of : Entry → List ℕ
five_of e = get_or e.fields 0 0 ∷ get_or e.fields 1 0 ∷ get_or e.fields 2 0 ∷ get_or e.fields 3 0 ∷ get_or e.fields 4 0 ∷ []

abbrev pub words_of : Entry → List ℕ
words_of e = e.kind ∷ five_of e

-- the entry whose six words stand from i on
abbrev pub entry_from : List ℕ → ℕ → Entry
entry_from words i = record {
  kind = get_or words i 0;
  fields =
      get_or words (i + 1) 0 ∷ get_or words (i + 2) 0 ∷ get_or words (i + 3) 0 ∷ get_or words (i + 4) 0 ∷ get_or words (i + 5) 0 ∷ [];
}

-- the words of a whole entry
abbrev pub six_of : List ℕ → List ℕ
six_of e = get_or e 0 0 ∷ get_or e 1 0 ∷ get_or e 2 0 ∷ get_or e 3 0 ∷ get_or e 4 0 ∷ get_or e 5 0 ∷ []
