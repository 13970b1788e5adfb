-- `first_wrong` asks field after field.
use Rattle.std.proofs.Common.{◌≡◌, refl, sym, rules}
use Rattle.log_writer.proofs.Writing.{wrong-here, wrong-later, wrong-none}
use Rattle.log_writer.proofs.first_wrong.Goals as goal

pub returns-then-most_of-e : goal.returns-then-most_of-e
returns-then-most_of-e c = let l = c.loop-i in
    (wrong-here c.args.e l.i _ _ l.invariant.0 c.loop-i-test.true c.most_of.ensures (search rules) _ l.invariant.2 c.if-most_of-e.true, l.invariant.0, c.loop-i-test.true)

pub loop-i-preserved : goal.loop-i-preserved
loop-i-preserved c = let l = c.loop-i in
    (search rules, search rules, wrong-later c.args.e l.i _ _ l.invariant.0 c.loop-i-test.true c.most_of.ensures (search rules) _ l.invariant.2 c.if-most_of-e.false)

pub returns : goal.returns
returns c = let l = c.loop-i in sym (wrong-none c.args.e l.i _ c.loop-i-test.false l.invariant.1 l.invariant.2)
