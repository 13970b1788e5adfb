-- `cached_plan` asks whether a frame is free: one law a return.
use Rattle.supervisor_access.proofs.Plans.{cached-beyond, cached-used, cached-below, cached-free}
use borrow.Author.Rules.{rules}
use Rattle.supervisor_access.proofs.cached_plan.Goals as goal

pub returns-then-map-frame : goal.returns-then-map-frame
returns-then-map-frame c = search (rules, cached-beyond)

pub returns-then-map-frame-ne0 : goal.returns-then-map-frame-ne0
returns-then-map-frame-ne0 c = search (rules, cached-used)

pub returns-then-frame-map : goal.returns-then-frame-map
returns-then-frame-map c = search (rules, cached-below)

pub returns : goal.returns
returns c = search (rules, cached-free)
