-- `place_keys` puts the key of each place: those below `i` stand.
use native.Mathlib.Omega.{arith}
use lib.ListN.{length}
use Rattle.dump_lines.specs.Dumped.{homes_in, store_in}
use Rattle.doubles.proofs.Keys.{keys-more, keys-all}
use Rattle.dump_lines.specs.Tests.{place_key}
use Rattle.dump_lines.proofs.Dump.place_keys.Goals as goal

pub loop-i-preserved : goal.loop-i-preserved
loop-i-preserved c =
    let a = c.args in
    let d = a.self.now in
    keys-more (place_key a.fine d.shape (homes_in d) (store_in d)) c.loop-i.keys c.loop-i.i c.place_key.result c.place_key.ensures (omega arith) c.loop-i.invariant

pub returns : goal.returns
returns c =
    let a = c.args in
    let d = a.self.now in
    keys-all (place_key a.fine d.shape (homes_in d) (store_in d)) c.loop-i.keys c.loop-i.i (length a.keys.now) (omega arith) (omega arith) c.loop-i.invariant
