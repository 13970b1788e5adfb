-- `oaledva_log_write`: an entry that has six words, written or refused; or none.
use Rattle.std.proofs.Common.{arith, refl}
use Rattle.oaledva_log.proofs.States.{write-misfit, write-told}
use Rattle.oaledva_log.proofs.oaledva_log_write.Goals as goal

pub returns-then-entry-ne-ENTRY_WORDS : goal.returns-then-entry-ne-ENTRY_WORDS
returns-then-entry-ne-ENTRY_WORDS c = write-misfit c.args.entry.now c.args.bytes.now c.if-entry-ne-ENTRY_WORDS.true

pub returns-in-Ok : goal.returns-in-Ok
returns-in-Ok c = let a = c.args in let w = c.in-Ok.ensures in
    write-told a.entry.now a.bytes.now c.of_words.result 0 c.in-Ok.amount _ _ c.if-entry-ne-ENTRY_WORDS.false c.of_words.ensures w.0 w.1 w.2 (omega arith)

pub returns-in-Err-Short : goal.returns-in-Err-Short
returns-in-Err-Short c = let a = c.args in let w = rw c.in-Err-Short.field-0-is at c.in-Err-Short.ensures in
    write-told a.entry.now a.bytes.now c.of_words.result 1 0 _ _ c.if-entry-ne-ENTRY_WORDS.false c.of_words.ensures w.0 w.1 w.2 (omega arith)

pub returns-in-Err-Kind : goal.returns-in-Err-Kind
returns-in-Err-Kind c = let a = c.args in let w = rw c.in-Err-Kind.field-0-is at c.in-Err-Kind.ensures in
    write-told a.entry.now a.bytes.now c.of_words.result 5 0 _ _ c.if-entry-ne-ENTRY_WORDS.false c.of_words.ensures w.0 w.1 w.2 (omega arith)

pub returns-in-Err-Field : goal.returns-in-Err-Field
returns-in-Err-Field c = let a = c.args in let w = rw c.in-Err-Field.field-0-is at c.in-Err-Field.ensures in
    write-told a.entry.now a.bytes.now c.of_words.result 6 c.in-Err-Field.i _ _ c.if-entry-ne-ENTRY_WORDS.false c.of_words.ensures w.0 w.1 w.2 (omega arith)
