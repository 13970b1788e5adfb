-- `replay`: from piece to piece the reader may read on.
use Rattle.log_reader.specs.Readers.{Readable}
use Rattle.replay.proofs.replay.Given as goal

abbrev pub invariant-loop : goal.invariant-loop
invariant-loop g l = Readable l.reader
