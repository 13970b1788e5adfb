-- `put_all`: after each number, the bytes are those put so far and those of the numbers left.
use Rattle.std.proofs.Common.{ℕ, List, ◌+◌, ◌∙◌, ap, sym, arith, length, get_or, drop}
use Rattle.board.specs.Lists.{splice}
use Rattle.log_numbers.specs.Numbers.{bytes_of}
use Rattle.log_writer.proofs.Writing.{bytes-more, count-more, number-room, numbers-here, numbers-end, bytes-end, count-end}
use Rattle.log_writer.proofs.put_all.Goals as goal

pub loop-number-preserved : goal.loop-number-preserved
loop-number-preserved c = let l = c.loop-number in let p = c.put_number-next.ensures in let ns = c.args.numbers.now in
    let h = numbers-here ns l.number-index c.loop-number-test.true in (
      omega (arith, number-room _ _ _ _ _ ns p, l.invariant.0),
      l.invariant.1 ∙ ap (λ (ns : List ℕ). splice l.bytes l.next (bytes_of ns)) h ∙ bytes-more _ _ _ _ _ _ p,
      l.invariant.2 ∙ ap (λ (ns : List ℕ). l.next + length (bytes_of ns)) h ∙ count-more _ _ _ _ _ _ p,
    )

pub returns : goal.returns
returns c = let l = c.loop-number in let z = numbers-end c.args.numbers.now l.number-index c.loop-number-test.false in
    (sym (l.invariant.1 ∙ bytes-end _ _ _ z), sym (l.invariant.2 ∙ count-end l.bytes _ _ z), omega (arith, l.invariant.0, c.loop-number.auto.number-index-end))
