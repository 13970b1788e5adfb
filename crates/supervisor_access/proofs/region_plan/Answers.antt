-- `region_plan` goes by the region: one law a return.
use Rattle.supervisor_access.proofs.Plans.{plan-ordinary, plan-cached, plan-above, plan-memory, plan-table}
use borrow.Author.Rules.{rules}
use Rattle.supervisor_access.proofs.region_plan.Goals as goal

pub returns-then-map-frame : goal.returns-then-map-frame
returns-then-map-frame c = search (rules, plan-above)

pub returns-in-Ordinary : goal.returns-in-Ordinary
returns-in-Ordinary c = search (rules, plan-ordinary)

pub returns-in-Cached : goal.returns-in-Cached
returns-in-Cached c = search (rules, plan-cached)

pub returns-else-map-frame : goal.returns-else-map-frame
returns-else-map-frame c = search (rules, plan-memory)

pub returns-in-PageTable : goal.returns-in-PageTable
returns-in-PageTable c = search (rules, plan-table)
