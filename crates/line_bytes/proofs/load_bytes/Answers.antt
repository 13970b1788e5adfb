-- `load_bytes` reads the aligned word and shifts away what stands before and after the number.
use Rattle.line_bytes.proofs.Bytes.{number-in-word}
use Rattle.line_bytes.proofs.load_bytes.Goals as goal

pub returns : goal.returns
returns c = number-in-word c.args.bytes.now c.args.at c.args.width c.from_be_bytes-word.result c.from_be_bytes-word.ensures (λ k. (c.type_inv.bytes k).fits) c.requires.1 c.requires.2
