-- `put_line` writes the two words of a record.
use native.Mathlib.Omega.{arith}
use lib.ListN.{length-set}
use Rattle.lines.specs.Records.{put_line}
use borrow.Author.Rules.{rules}
use Rattle.lines.proofs.put_line.Goals as goal

pub bounds-records-i-2 : goal.bounds-records-i-2
bounds-records-i-2 c = simp length-set (omega arith)

pub returns : goal.returns
unfolding put_line
returns c = search rules
