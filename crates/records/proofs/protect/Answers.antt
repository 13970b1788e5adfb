-- `protect` decides, and walks all lines if nothing refuses.
use Rattle.std.proofs.Common.{◌≡◌, length, sym, arith}
use Rattle.board.proofs.Refusals.{passed}
use Rattle.visits.specs.Visits.{protect_visit}
use Rattle.record_steps.proofs.Decided.{word-placed, protect-refused, protect-done}
use Rattle.records.proofs.Upto.{upto-none, walked-more, walked-all}
use Rattle.records.proofs.protect.Goals as goal

pub returns-in_err-protect_word : goal.returns-in_err-protect_word
returns-in_err-protect_word c = protect-refused _ _ _ _ _ _ _ _ _ _ c.protect_word.ensures _ _ c.in_err-protect_word.was (passed c.from_residual.ensures.1)

pub loop-i-init : goal.loop-i-init
loop-i-init c = record { walked = sym (upto-none c.args.s (protect_visit c.args.page c.args.write) 0 c.args.lines.now) }

pub protect_line-requires : goal.protect_line-requires
protect_line-requires c =
    (word-placed _ _ _ _ _ _ _ _ _ _ c.protect_word.ensures c.in_ok-protect_word.was c.loop-i.i (omega arith)).lined

pub loop-i-preserved : goal.loop-i-preserved
loop-i-preserved c = record {
  walked = walked-more c.args.s (protect_visit c.args.page c.args.write) _ _ _ _ _ c.loop-i.invariant.walked (omega arith) c.protect_line.ensures;
}

pub returns : goal.returns
returns c =
    let all : c.loop-i.i ≡ length c.args.lines.now = omega arith in
    protect-done _ _ _ _ _ _ _ _ _ _ c.protect_word.ensures _ c.in_ok-protect_word.was
    (walked-all c.args.s (protect_visit c.args.page c.args.write) _ _ _ c.loop-i.invariant.walked all)
