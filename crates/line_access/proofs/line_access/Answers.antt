-- `line_access` goes by the way to the line: one law a return.
use Rattle.board.proofs.Refusals.{passed}
use Rattle.line_access.proofs.Lines.{held-inside, held-record, held_bytes, memory-inside, line-unmapped, line-reads, held-performed, memory-refilled}
use borrow.Author.Rules.{rules}
use Rattle.line_access.proofs.line_access.Goals as goal

pub note_use-requires : goal.note_use-requires
note_use-requires c = (search rules, held-inside _ _ _ _ _ c.way_to.ensures _ c.ok_or.ensures.value _ c.in_ok-way.was _ _ c.in-Held.is _ _ c.requires.0, search rules)

pub perform_on-requires : goal.perform_on-requires
perform_on-requires c = (held-record _ _ _ _ _ c.way_to.ensures _ c.ok_or.ensures.value _ c.in_ok-way.was _ _ c.in-Held.is _ _ c.requires.0, held_bytes _ _ _ _ _ c.way_to.ensures _ c.ok_or.ensures.value _ c.in_ok-way.was _ _ c.in-Held.is _ _ c.requires.0, search rules, search rules, search rules)

pub refill_access-requires : goal.refill_access-requires
refill_access-requires c = (search rules, search rules, memory-inside _ _ _ _ _ c.way_to.ensures _ c.ok_or.ensures.value _ c.in_ok-way.was _ _ c.in-InMemory.is c.args.map.now.words_are, search rules, search rules, search rules)

pub returns-in_err-way : goal.returns-in_err-way
returns-in_err-way c =
    line-unmapped _ _ _ _ _ _ _ _ _ _ c.way_to.ensures _ c.ok_or.ensures.value _ _ c.in_err-way.was (passed c.from_residual.ensures.1)

pub returns-then-user-a : goal.returns-then-user-a
returns-then-user-a c =
    line-reads _ _ _ _ _ _ _ _ _ _ c.way_to.ensures _ c.ok_or.ensures.value _ c.in_ok-way.was _ c.may_write.ensures c.if-user-a.true

pub returns-in-Held : goal.returns-in-Held
returns-in-Held c =
    held-performed _ _ _ _ _ _ _ _ _ _ c.way_to.ensures _ c.ok_or.ensures.value _ c.in_ok-way.was _ c.may_write.ensures c.if-user-a.false _ _ c.in-Held.is
    _ _ _ _ c.note_use.ensures c.perform_on.ensures

pub returns-in-InMemory : goal.returns-in-InMemory
returns-in-InMemory c =
    memory-refilled _ _ _ _ _ _ _ _ _ _ c.way_to.ensures _ c.ok_or.ensures.value _ c.in_ok-way.was _ c.may_write.ensures c.if-user-a.false _ _ c.in-InMemory.is
    _ _ _ _ _ _ c.name-name.ensures c.refill_access.ensures
