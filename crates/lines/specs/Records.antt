-- 01, "The board": a line's record, in two words of a list.
-- The first word is the name, the second physical line × 8 + changed × 4 + write × 2 + valid (ours).
use Rattle.std.specs.Prelude.{ℕ, ◌+◌, ◌*◌, ◌/◌, ◌%◌, Bool, true, false, List, get_or, set, eqb}
use Rattle.board.specs.Lists.{bit}
use Rattle.board.specs.Shapes.{record_words}
use Rattle.lines.specs.declared.Line.{Line}

-- the record that two words say
abbrev pub line_from : ℕ → ℕ → Line
line_from name word = record {
  valid = eqb (word % 2) 1;
  name = name;
  physical = word / 8;
  changed = eqb (word / 4 % 2) 1;
  write = eqb (word / 2 % 2) 1;
}

-- the second word of a record
abbrev pub word_of : Line → ℕ
word_of l = l.physical * 8 + bit l.changed * 4 + bit l.write * 2 + bit l.valid

-- record i
unfoldable pub line_at : List ℕ → ℕ → Line
line_at records i = line_from (get_or records (record_words * i) 0) (get_or records (record_words * i + 1) 0)

-- the records with l as record i
unfoldable pub put_line : List ℕ → ℕ → Line → List ℕ
put_line records i l = set (set records (record_words * i) l.name) (record_words * i + 1) (word_of l)

-- not valid, and all fields 0
abbrev pub no_line : Line
no_line = record { valid = false; name = 0; physical = 0; changed = false; write = false }

-- a line just filled: not changed
abbrev pub new_line : ℕ → ℕ → Bool → Line
new_line name physical write = record { valid = true; name = name; physical = physical; changed = false; write = write }

-- a line marked changed
abbrev pub changed_line : Line → Line
changed_line l = record { valid = l.valid; name = l.name; physical = l.physical; changed = true; write = l.write }

-- a line with another permission
abbrev pub permitted_line : Line → Bool → Line
permitted_line l write = record { valid = l.valid; name = l.name; physical = l.physical; changed = l.changed; write = write }
