-- `oaledva_log_read`: words that are no reader's, buffers that don't fit; else the reader's reading.
use Rattle.std.proofs.Common.{arith, rules}
use Rattle.log_entries.proofs.Tables.{kind-few}
use Rattle.oaledva_log.proofs.States.{eleven, not-reader, read-long, read-uneven, read_done}
use Rattle.oaledva_log.proofs.oaledva_log_read.Goals as goal

pub returns-in_default : goal.returns-in_default
returns-in_default c = let a = c.args in not-reader a.state.now a.piece.now a.entries.now c.in_default.ensures.1

pub returns-then-r-piece : goal.returns-then-r-piece
returns-then-r-piece c = let a = c.args in let h = c.in-Ok.ensures in
    read-long a.state.now a.piece.now a.entries.now c.in-Ok.r h.0 h.1 (search rules) c.if-r-piece.true

pub returns-then-entries-ne0 : goal.returns-then-entries-ne0
returns-then-entries-ne0 c = let a = c.args in let h = c.in-Ok.ensures in
    read-uneven a.state.now a.piece.now a.entries.now c.in-Ok.r h.0 h.1 (search rules) c.if-entries-ne0.true

pub put_reader-requires : goal.put_reader-requires
put_reader-requires c = (eleven c.args.state.now c.in-Ok.ensures.0, omega (arith, kind-few _ _ c.read-x.ensures.1.fields))

pub returns : goal.returns
returns c = let a = c.args in let h = c.in-Ok.ensures in
    read_done a.state.now a.piece.now a.entries.now c.in-Ok.r h.0 h.1 (search rules) _ _ _ c.read-x.result.reader c.if-r-piece.false c.if-entries-ne0.false
    c.read-x.ensures.0 c.put_reader.ensures
