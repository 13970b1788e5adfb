-- `fields_of` reads the table.
use Rattle.log_entries.proofs.Tables.{counts-right, counts_past}
use Rattle.log_entries.proofs.fields_of.Goals as goal

pub returns-then-kind-lt-KINDS : goal.returns-then-kind-lt-KINDS
returns-then-kind-lt-KINDS c = counts-right c.args.kind

pub returns : goal.returns
returns c = counts_past _ c.if-kind-lt-KINDS.false
