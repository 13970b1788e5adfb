-- `region` goes by the prefix: one law a return.
use Rattle.address.proofs.Regions.{region-uncached, region-cached, region-table, region-ordinary}
use borrow.Author.Rules.{rules}
use Rattle.address.proofs.Global.region.Goals as goal

pub returns-then-prefix-eq0 : goal.returns-then-prefix-eq0
returns-then-prefix-eq0 c = search (rules, region-uncached)

pub returns-then-prefix-eq1 : goal.returns-then-prefix-eq1
returns-then-prefix-eq1 c = search (rules, region-cached)

pub returns-then-self-eq-TABLE_INDEX : goal.returns-then-self-eq-TABLE_INDEX
returns-then-self-eq-TABLE_INDEX c = search (rules, region-table)

pub returns : goal.returns
returns c = search (rules, region-ordinary)
