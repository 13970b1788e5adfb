-- `read`: what is left to be read and laid out is the same after every turn.
use Prim.Native.Nat.{◌+◌, ◌-◌, ◌/◌, ◌≤◌}
use mathlib.Core.Path.{◌≡◌}
use lib.ListN.{length, drop}
use Rattle.log_entries.specs.Entries.{entry_words}
use Rattle.log_reader.specs.Reading.{read_into}
use Rattle.log_reader.specs.Readers.{state_of, Readable, laid_from, laid_left}
use Rattle.log_reader.proofs.read.Given as goal

abbrev pub invariant-loop-x : goal.invariant-loop-x
invariant-loop-x l =
    Readable l.x.reader × (l.x.from ≤ length l.piece) × (length l.entries ≡ length l.initial.entries) × (l.x.reader.at ≤ l.initial.x.reader.at + l.x.from) × (l.room ≡ length l.initial.entries / entry_words)
    × (laid_left l.entries l.x.given (state_of l.x.reader) (drop l.x.from l.piece) ≡ laid_from l.initial.entries 0 (read_into (length l.initial.entries / entry_words) (state_of l.initial.x.reader) l.piece))

abbrev pub decreases-loop-x : goal.decreases-loop-x
decreases-loop-x l = length l.piece - l.x.from
