-- `Mark::by_cache` tests what the mark comes from. The laws are applied by name, so that a wrong mark is told by its number.
use Rattle.board.proofs.Marks.{mark-held, mark-back, mark-clean}
use Rattle.board.proofs.Mark.by_cache.Goals as goal

pub returns-then-held : goal.returns-then-held
returns-then-held c = mark-held _ _ c.if-held.true

pub returns-then-back : goal.returns-then-back
returns-then-back c = mark-back _ _ c.if-held.false c.if-back.true

pub returns : goal.returns
returns c = mark-clean _ _ c.if-held.false c.if-back.false
