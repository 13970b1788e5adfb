-- `check`, packed.
use mathlib.Core.Path.{◌∙◌}
use Rattle.machine.specs.Boards.{no_tag}
use Rattle.oaledva_dump.proofs.Reports.{small-check, crosses-check}
use Rattle.oaledva_dump.proofs.oaledva_check.Goals as goal

pub packed_report-requires : goal.packed_report-requires
packed_report-requires c = rw c.from.ensures (small-check _ _ _ _ _ (c.check-found.ensures no_tag))

pub returns : goal.returns
returns c = λ tag. crosses-check _ _ _ _ _ _ (rw c.one_line-s.ensures at (c.check-found.ensures tag)) (c.packed_report.ensures ∙ c.from.ensures)
