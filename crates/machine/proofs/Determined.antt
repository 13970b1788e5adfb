-- No second outcome meets a call's contract.
use mathlib.Core.Path.{◌≡◌, ◌∙◌, sym, ap}
use Rattle.machine.specs.Boards.{Outcome, outcome}
use Rattle.machine.specs.Lists.{Listed, listed}
use Rattle.machine.specs.Clauses.{Determines, NoSecondOutcome}

-- a contract that says the whole outcome
whole : (o : Outcome) → Determines (λ r c. outcome r c ≡ o)
whole o r q c d p h = (ap (λ (x : Outcome). x.answer) (p ∙ sym h), ap (λ (x : Outcome). x.after) (p ∙ sym h))

whole-list : (o : Listed) → Determines (λ r x. listed r x ≡ o)
whole-list o r q c d p h = (ap (λ (x : Listed). x.answer) (p ∙ sym h), ap (λ (x : Listed). x.left) (p ∙ sym h))

pub no-second-outcome : NoSecondOutcome
no-second-outcome = record {
  user_access = λ s b process a e. whole _;
  user_accesses = λ s b accesses answers. whole-list _;
  supervisor_access = λ s b a g. whole _;
  attach = λ s b process slot segment write. whole _;
  detach = λ s b process slot. whole _;
  map = λ s b page frame write. whole _;
  unmap = λ s b page. whole _;
  protect = λ s b page write. whole _;
  move = λ s b page new. whole _;
  flush_all = λ s b. whole _;
  tag = λ s b name. whole _;
  load_and_map = λ s b line. whole _;
  drop_tag = λ s b. whole _;
  look_number = λ s b line n m p q. p ∙ sym q;
  look = λ s b line cache memory x y p q. (p.0 ∙ sym q.0, p.1 ∙ sym q.1);
}
