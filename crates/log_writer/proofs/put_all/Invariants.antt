-- `put_all`: after each number, the bytes are those put so far and those of the numbers left.
use Rattle.std.proofs.Common.{◌≡◌, ◌+◌, ◌*◌, ◌≤◌, length, drop}
use Rattle.board.specs.Lists.{splice}
use Rattle.log_numbers.specs.Numbers.{bytes_of}
use Rattle.log_writer.proofs.put_all.Given as goal

abbrev pub invariant-loop-number : goal.invariant-loop-number
invariant-loop-number l =
    (l.next ≤ l.at + 10 * l.number-index)
    × (splice l.initial.bytes l.at (bytes_of l.numbers) ≡ splice l.bytes l.next (bytes_of (drop l.number-index l.numbers)))
    × (l.at + length (bytes_of l.numbers) ≡ l.next + length (bytes_of (drop l.number-index l.numbers)))
