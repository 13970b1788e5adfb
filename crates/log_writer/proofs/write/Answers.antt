-- `write`: the room, the kind, the fields, then the bytes.
use Rattle.std.proofs.Common.{arith}
use Rattle.log_entries.proofs.Entries.{kind-below}
use Rattle.log_writer.proofs.Writing.{entry-short, entry-unknown, entry-wrong, entry-written}
use Rattle.log_writer.proofs.write.Goals as goal

pub returns-then-bytes-lt-ENTRY_BYTES : goal.returns-then-bytes-lt-ENTRY_BYTES
returns-then-bytes-lt-ENTRY_BYTES c = (entry-short c.args.e c.args.bytes.now c.if-bytes-lt-ENTRY_BYTES.true, omega arith, omega arith)

pub returns-in_default : goal.returns-in_default
returns-in_default c = (entry-unknown c.args.e c.args.bytes.now c.if-bytes-lt-ENTRY_BYTES.false c.in_default.ensures.1, omega arith, omega arith)

pub returns-in-Some : goal.returns-in-Some
returns-in-Some c = let a = c.args in let w = c.in-Some.ensures in
    (entry-wrong a.e a.bytes.now c.if-bytes-lt-ENTRY_BYTES.false (kind-below _ _ c.in-Ok.ensures) c.in-Some.i w.0 w.1, omega arith, omega (arith, w.2))

pub returns-in-None : goal.returns-in-None
returns-in-None c = let a = c.args in let p = c.put_numbers.ensures in
    (entry-written a.e a.bytes.now c.if-bytes-lt-ENTRY_BYTES.false (kind-below _ _ c.in-Ok.ensures) _ _ c.in-None.ensures (p.0, p.1), omega arith, p.2)
