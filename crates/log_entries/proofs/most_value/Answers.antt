-- `most_value` asks for a load.
use Rattle.log_entries.proofs.Entries.{value-load, value-store}
use Rattle.log_entries.proofs.most_value.Goals as goal

pub returns-then-store-eq0 : goal.returns-then-store-eq0
returns-then-store-eq0 c = value-load _ _ c.if-store-eq0.true

pub returns-else-store-eq0 : goal.returns-else-store-eq0
returns-else-store-eq0 c = value-store _ _ c.if-store-eq0.false
