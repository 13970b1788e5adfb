-- `store_bytes` stores the bytes of a number, width by width.
use mathlib.Core.Path.{◌∙◌}
use native.Mathlib.Omega.{arith}
use Rattle.line_bytes.proofs.Bytes.{stored_one, stored-two, stored-four}
use borrow.Author.Rules.{rules}
use Rattle.line_bytes.proofs.store_bytes.Goals as goal

pub returns-then-width-eq1 : goal.returns-then-width-eq1
returns-then-width-eq1 c = search (rules, stored_one)

pub returns-then-width-eq2 : goal.returns-then-width-eq2
returns-then-width-eq2 c =
    stored-two c.args.bytes.now c.args.at c.args.width c.args.value c.copy_from_slice.new.self _ c.if-width-eq2.true (search rules)
    (c.copy_from_slice.ensures.after ∙ c.to_be_bytes.ensures) (omega arith)

pub returns-else-width-eq2 : goal.returns-else-width-eq2
returns-else-width-eq2 c =
    stored-four c.args.bytes.now c.args.at c.args.width c.args.value c.copy_from_slice-else-width-eq2.new.self _ c.requires.1 c.if-width-eq1.false c.if-width-eq2.false
    c.requires.0 (c.copy_from_slice-else-width-eq2.ensures.after ∙ c.to_be_bytes-else-width-eq2.ensures) (omega arith)
