-- `supervisor_access` is the shape check, `supervisor_plan`, and an access to a line or to memory.
use Rattle.std.specs.Prelude.{Ok}
use mathlib.Core.Path.{◌∙◌, ap}
use Rattle.board.proofs.Refusals.{passed}
use Rattle.machine.proofs.Fits.{fitted-sized, fitted-words, fitted-frames, fitted-uses}
use Rattle.supervisor_access.proofs.Plans.{line-wide, line-inside, memory-wide, memory-in-word, memory-inside}
use Rattle.supervisor_access.proofs.Supervisors.{supervisor-unfit, supervisor-stopped, supervisor-line, supervisor-memory}
use borrow.Author.Rules.{rules}
use Rattle.supervisor_access.proofs.supervisor_access.Goals as goal

pub invariant_of-supervisor_plan : goal.invariant_of-supervisor_plan
invariant_of-supervisor_plan c = record { words_are = fitted-words _ _ _ _ _ _ _ _ c.fit.ensures c.in_ok-fit.was; frames_max = fitted-frames _ _ _ _ _ _ _ _ c.fit.ensures c.in_ok-fit.was }

pub invariant_of-map : goal.invariant_of-map
invariant_of-map c = record { words_are = fitted-words _ _ _ _ _ _ _ _ c.fit.ensures c.in_ok-fit.was; frames_max = fitted-frames _ _ _ _ _ _ _ _ c.fit.ensures c.in_ok-fit.was }

pub line_access-requires : goal.line_access-requires
line_access-requires c =
    let k = c.in_ok-h.was ∙ ap Ok c.in-Line.is in
    (search (rules, fitted-sized), search (rules, fitted-uses), line-wide _ _ _ _ _ _ c.supervisor_plan.ensures _ k, line-inside _ _ _ _ _ _ c.supervisor_plan.ensures _ k)

pub memory_access-requires : goal.memory_access-requires
memory_access-requires c =
    let k = c.in_ok-h.was ∙ ap Ok c.in-Memory.is in
    (memory-inside _ _ _ _ _ _ c.supervisor_plan.ensures _ k _ _ _ _ _ _ c.fit.ensures c.in_ok-fit.was, memory-in-word _ _ _ _ _ _ c.supervisor_plan.ensures _ k, memory-wide _ _ _ _ _ _ c.supervisor_plan.ensures _ k)

pub returns-in_err-fit : goal.returns-in_err-fit
returns-in_err-fit c = supervisor-unfit _ _ _ _ _ _ _ _ _ _ _ c.fit.ensures _ _ c.in_err-fit.was (passed c.from_residual.ensures.1)

pub returns-in_err-h : goal.returns-in_err-h
returns-in_err-h c =
    supervisor-stopped _ _ _ _ _ _ _ _ _ _ _ c.fit.ensures c.in_ok-fit.was _ c.supervisor_plan.ensures _ _ c.in_err-h.was
    (passed c.from_residual-in_err-h.ensures.1)

pub returns-in-Line : goal.returns-in-Line
returns-in-Line c =
    supervisor-line _ _ _ _ _ _ _ _ _ _ _ c.fit.ensures c.in_ok-fit.was _ c.supervisor_plan.ensures _ _ _ _ _ _ (c.in_ok-h.was ∙ ap Ok c.in-Line.is)
    c.line_access.ensures

pub returns-in-Memory : goal.returns-in-Memory
returns-in-Memory c =
    supervisor-memory _ _ _ _ _ _ _ _ _ _ _ c.fit.ensures c.in_ok-fit.was _ c.supervisor_plan.ensures _ _ _ (c.in_ok-h.was ∙ ap Ok c.in-Memory.is)
    c.memory_access.ensures
