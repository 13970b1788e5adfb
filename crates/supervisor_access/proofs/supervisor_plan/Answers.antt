-- `supervisor_plan` is rows 2, 3 and 4, then `region_plan`.
use Rattle.supervisor_access.proofs.Plans.{plan-beyond, plan-value, plan-waits, plan-unaligned, plan-region}
use borrow.Author.Rules.{rules}
use Rattle.supervisor_access.proofs.supervisor_plan.Goals as goal

pub returns-then-g-ge-GLOBAL_END : goal.returns-then-g-ge-GLOBAL_END
returns-then-g-ge-GLOBAL_END c = search (rules, plan-beyond)

pub returns-then-too_large : goal.returns-then-too_large
returns-then-too_large c = search (rules, plan-value)

pub returns-then-must_wait : goal.returns-then-must_wait
returns-then-must_wait c = search (rules, plan-waits)

pub returns-then-too_large-2 : goal.returns-then-too_large-2
returns-then-too_large-2 c = search (rules, plan-value)

pub returns-then-not-aligned : goal.returns-then-not-aligned
returns-then-not-aligned c = search (rules, plan-unaligned)

pub returns : goal.returns
returns c = search (rules, plan-region)
