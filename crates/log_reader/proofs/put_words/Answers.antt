-- `put_words` puts word after word.
use Prim.Native.Nat.{◌*◌}
use native.Mathlib.Omega.{arith}
use lib.ListN.{length-set}
use mathlib.Core.Path.{◌∙◌, ap}
use Rattle.board.specs.Lists.{splice}
use Rattle.log_reader.proofs.Laid.{six-put, six-all}
use Rattle.log_reader.proofs.put_words.Goals as goal

pub bounds-entries-at-2 : goal.bounds-entries-at-2
bounds-entries-at-2 c = simp length-set (omega arith)

pub bounds-entries-at-3 : goal.bounds-entries-at-3
bounds-entries-at-3 c = simp length-set (omega arith)

pub bounds-entries-at-4 : goal.bounds-entries-at-4
bounds-entries-at-4 c = simp length-set (omega arith)

pub bounds-entries-at-5 : goal.bounds-entries-at-5
bounds-entries-at-5 c = simp length-set (omega arith)

pub bounds-entries-at-6 : goal.bounds-entries-at-6
bounds-entries-at-6 c = simp length-set (omega arith)

pub returns : goal.returns
returns c = let a = c.args in six-put a.entries.now (6 * a.i) _ _ _ _ _ _ ∙ ap (splice a.entries.now (6 * a.i)) (six-all _ c.told-words)
