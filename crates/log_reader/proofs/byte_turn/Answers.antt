-- `byte_turn` takes a byte, and puts the entry that it gives.
use mathlib.Core.Path.{refl}
use borrow.Author.Rules.{rules}
use Rattle.log_reader.proofs.Laid.{turned}
use Rattle.log_reader.proofs.byte_turn.Goals as goal

pub returns-in-Ok-On : goal.returns-in-Ok-On
returns-in-Ok-On c = let x = c.args.x in let s = rw c.in-Ok-On.field-0-is at c.in-Ok-On.ensures in
    turned _ _ x.given _ x.reader c.in-Ok-On.reader c.args.piece.now x.from _ c.requires.0 c.requires.3 c.requires.4 s.0 refl s.1.0 s.1.1 refl refl

pub returns-in-Ok-Gives : goal.returns-in-Ok-Gives
returns-in-Ok-Gives c = let x = c.args.x in let s = rw c.in-Ok-Gives.field-0-is at c.in-Ok-Gives.ensures in
    turned c.args.entries.now _ x.given _ x.reader c.in-Ok-Gives.reader c.args.piece.now x.from _ c.requires.0 c.requires.3 c.requires.4 s.0 refl s.1.0 s.1.1
    c.put_entry.ensures refl

pub returns-in-Err : goal.returns-in-Err
returns-in-Err c = let x = c.args.x in let h = c.requires.0 in
    turned _ _ x.given _ x.reader _ c.args.piece.now x.from _ h c.requires.3 c.requires.4 c.in-Err.ensures.0 (rw c.number.ensures refl)
    (record { few = h.few; within = h.within; small = h.small; fields = h.fields }) (search rules) refl refl
