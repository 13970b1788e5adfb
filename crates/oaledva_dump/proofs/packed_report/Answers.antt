-- `packed_report` loses nothing.
use Rattle.oaledva_dump.proofs.Reports.{packs}
use borrow.Author.Rules.{rules}
use Rattle.oaledva_dump.proofs.packed_report.Goals as goal

pub returns : goal.returns
returns c = search (rules, packs)
