-- No second outcome meets the contract of protect or of flush all over lines.
use mathlib.Core.Path.{◌≡◌, ◌∙◌, sym, ap}
use Rattle.machine.specs.Clauses.{Determines}
use Rattle.record_steps.specs.Lent.{LentOutcome, lent_outcome}
use Rattle.record_steps.specs.Clauses.{NoSecondOutcome}

-- a contract that says the whole outcome
whole : (o : LentOutcome) → Determines (λ r c. lent_outcome r c ≡ o)
whole o r q c d p h = (ap (λ (x : LentOutcome). x.answer) (p ∙ sym h), ap (λ (x : LentOutcome). x.after) (p ∙ sym h))

pub no-second-outcome : NoSecondOutcome
no-second-outcome = record {
  protect = λ s b page write. whole _;
  flush_all = λ s b. whole _;
}
