-- `returned_entry` gives number and value in one: one law a case.
use mathlib.Core.Path.{◌≡◌, ◌∙◌}
use native.Mathlib.Omega.{arith}
use Rattle.crossing.proofs.Entries.{returned-at, returned-refused}
use borrow.Author.Rules.{rules}
use Rattle.crossing.proofs.returned_entry.Goals as goal

pub returns-in-Some : goal.returns-in-Some
returns-in-Some c = search (rules, returned-at)

pub returns-in-None : goal.returns-in-None
returns-in-None c =
    let n : c.from.result ≡ 2 = c.from.ensures ∙ c.number.ensures in
    returned-refused _ _ c.asked_entry.ensures c.in-None.is _ (omega (arith, n)) (omega (arith, n))
