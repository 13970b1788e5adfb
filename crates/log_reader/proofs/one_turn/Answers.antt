-- `one_turn`: a plain user access, or a byte.
use Prim.Native.Nat.{◌-◌}
use native.Mathlib.Omega.{arith}
use lib.ListN.{length}
use mathlib.Core.Path.{refl}
use borrow.Author.Rules.{rules}
use Rattle.log_reader.proofs.Quick.{quick-test, turned-user}
use Rattle.log_reader.proofs.one_turn.Goals as goal

pub returns-in-Some : goal.returns-in-Some
returns-in-Some c = let x = c.args.x in
    let q = quick-test x.reader _ (length c.args.piece.now - x.from) c.is_between.ensures c.if-is_between-piece.true in
    let n = c.in-Some.ensures in
    turned-user c.args.piece.now x.from c.in-Some.u n.1 (search rules) c.args.entries.now _ x.given _ x.reader refl c.requires.0 q.0 q.1
    c.requires.1 c.requires.4 n.0 (omega (arith, q.2, c.requires.3)) c.put_words.ensures
