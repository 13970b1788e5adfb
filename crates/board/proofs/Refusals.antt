-- A refusal that a `?` passes on.
use Rattle.std.specs.Prelude.{◌≡◌, Result, Err}
use Rattle.std.specs.Result.{IsErrAnd}
use Rattle.std.proofs.lemmas.Result.{err_from_is_err_and}
use mathlib.Core.Path.{◌∙◌, ap}
use Rattle.board.specs.declared.Refusal.{Refusal}

pub passed : {A : Type 0} {q : Result A Refusal} {why : Refusal} → IsErrAnd q (λ x. x ≡ why) → q ≡ Err why
passed {A} {q} e = let p = err_from_is_err_and q e in p.1 ∙ ap Err p.2
