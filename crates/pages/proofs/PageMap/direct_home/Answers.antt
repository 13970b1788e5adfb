-- `direct_home` gives the home under prefix 1: one law a return.
use Rattle.pages.proofs.Frames.{address-direct-free, address-direct-used, address-direct-other}
use borrow.Author.Rules.{rules}
use Rattle.pages.proofs.PageMap.direct_home.Goals as goal

pub returns-then-free_frame : goal.returns-then-free_frame
returns-then-free_frame c = search (rules, address-direct-free)

pub returns-else-free_frame : goal.returns-else-free_frame
returns-else-free_frame c = search (rules, address-direct-used)

pub returns-else-prefix-eq1 : goal.returns-else-prefix-eq1
returns-else-prefix-eq1 c = search (rules, address-direct-other)
