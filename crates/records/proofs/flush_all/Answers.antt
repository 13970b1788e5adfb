-- `flush_all` decides, and walks all lines if nothing refuses.
use Rattle.std.proofs.Common.{◌<◌, ◌≡◌, length, sym, arith, ◌∙◌, ap}
use Rattle.board.proofs.Refusals.{passed}
use Rattle.visits.specs.Visits.{flush_visit}
use Rattle.record_steps.proofs.Decided.{lines-placed, flush-refused, flush-done}
use Rattle.records.proofs.Upto.{upto-none, walked-more, walked-all, memory_length, memory-none, flushed-more, flushed-all}
use Rattle.records.proofs.flush_all.Goals as goal

pub returns-in_err-fit_lines : goal.returns-in_err-fit_lines
returns-in_err-fit_lines c = flush-refused _ _ _ _ _ _ _ c.fit_lines.ensures.1 _ _ c.in_err-fit_lines.was (passed c.from_residual.ensures.1)

pub loop-i-init : goal.loop-i-init
loop-i-init c = record {
  walked = sym (upto-none c.args.s flush_visit 0 c.args.lines.now);
  flushed = sym (memory-none c.args.s c.args.cache.now 0 c.args.lines.now c.args.memory.now);
}

pub flush_line-requires : goal.flush_line-requires
flush_line-requires c =
    let a = c.args in
    let long : length c.loop-i.memory ≡ length a.memory.now =
    ap length c.loop-i.invariant.flushed ∙ memory_length a.s a.cache.now 0 c.loop-i.i a.lines.now a.memory.now in
    rw long (lines-placed _ _ _ _ _ _ _ c.fit_lines.ensures.0 c.in_ok-fit_lines.was c.loop-i.i (omega arith))

pub loop-i-preserved : goal.loop-i-preserved
loop-i-preserved c =
    let w = c.loop-i.invariant in
    let inside : c.loop-i.i < length c.args.lines.now = omega arith in
    record {
      walked = walked-more c.args.s flush_visit _ _ _ _ _ w.walked inside c.flush_line.ensures.0;
      flushed = c.flush_line.ensures.1 ∙ flushed-more c.args.s c.args.cache.now flush_visit _ _ _ _ _ _ w.walked w.flushed inside;
    }

pub returns : goal.returns
returns c =
    let all : c.loop-i.i ≡ length c.args.lines.now = omega arith in
    flush-done _ _ _ _ _ _ _ c.fit_lines.ensures.1 _ _ c.in_ok-fit_lines.was
    (walked-all c.args.s flush_visit _ _ _ c.loop-i.invariant.walked all) (flushed-all c.args.s c.args.cache.now _ _ _ _ c.loop-i.invariant.flushed all)
