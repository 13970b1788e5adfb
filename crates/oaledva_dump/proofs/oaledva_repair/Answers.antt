-- `repair`, packed.
use mathlib.Core.Path.{◌∙◌}
use Rattle.machine.specs.Boards.{no_tag}
use Rattle.oaledva_dump.proofs.Reports.{small-repair, crosses-repair}
use Rattle.oaledva_dump.proofs.oaledva_repair.Goals as goal

pub packed_report-requires : goal.packed_report-requires
packed_report-requires c = rw c.from.ensures (small-repair _ _ _ _ _ _ _ (c.repair-mended.ensures no_tag))

pub returns : goal.returns
returns c = λ tag. crosses-repair _ _ _ _ _ _ _ _ (rw c.one_line-s.ensures at (c.repair-mended.ensures tag)) (c.packed_report.ensures ∙ c.from.ensures)
