-- `treat` does what is to be done.
use Rattle.visits.proofs.Visits.{treated-drop, treated-retire, treated-permit}
use borrow.Author.Rules.{rules}
use Rattle.visits.proofs.Lines.treat.Goals as goal

pub returns-in-Drop-clause-treated : goal.returns-in-Drop-clause-treated
returns-in-Drop-clause-treated c = search (rules, treated-drop)

pub returns-in-Retire-clause-treated : goal.returns-in-Retire-clause-treated
returns-in-Retire-clause-treated c = search (rules, treated-retire)

pub returns-in-Permit-clause-treated : goal.returns-in-Permit-clause-treated
returns-in-Permit-clause-treated c = search (rules, treated-permit)
