-- CR 1: why a log is refused, or an entry that is to be written. A log is refused for the first thing that is wrong in it; of an entry the lowest that
-- applies is given.
use Rattle.std.specs.Prelude.{ℕ}

abbrev pub reason_none : ℕ
reason_none = 0

-- the buffers don't fit the call, or the words are no reader's
abbrev pub reason_misfit : ℕ
reason_misfit = 1

-- a last group of 0 after others
abbrev pub reason_padded : ℕ
reason_padded = 2

-- a tenth byte above 1
abbrev pub reason_tenth : ℕ
reason_tenth = 3

-- a cut log
abbrev pub reason_cut : ℕ
reason_cut = 4

-- an unknown kind
abbrev pub reason_kind : ℕ
reason_kind = 5

-- a field too large
abbrev pub reason_field : ℕ
reason_field = 6
