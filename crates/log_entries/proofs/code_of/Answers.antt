-- `code_of` reads the table.
use Rattle.log_entries.proofs.Tables.{code_at}
use Rattle.log_entries.proofs.code_of.Goals as goal

pub returns : goal.returns
returns c = code_at c.args.kind c.args.i c.requires.0 c.requires.1 c.requires.2
