-- `enter_kind`: a kind that isn't known, or the header's; else one with fields, or without.
use Rattle.std.proofs.Common.{◌∙◌, sym, ap, arith, refl, length}
use Rattle.std.proofs.lemmas.Result.{err_from_is_err_and}
use Rattle.log_entries.specs.Entries.{fields_of}
use Rattle.log_entries.specs.Enters.{number_of}
use Rattle.log_entries.proofs.Entries.{kind-fields, kind-known, kind-past, kind-header, kind-whole, kind-growing}
use Rattle.log_entries.proofs.enter_kind.Goals as goal

pub returns-in_err-kind : goal.returns-in_err-kind
returns-in_err-kind c = let p = err_from_is_err_and c.from_residual.result c.from_residual.ensures.1 in
    rw (p.1, p.2, c.in_err-kind.ensures.0) (kind-past c.args.n c.in_err-kind.ensures.1, tt {0})

pub returns-in-Header : goal.returns-in-Header
returns-in-Header c = (kind-header c.args.n (ap number_of (sym c.in-Header.is) ∙ c.in_ok-kind.ensures), tt {0})

pub returns-then-fields_of-eq0 : goal.returns-then-fields_of-eq0
returns-then-fields_of-eq0 c = let n = c.args.n in
    let many = c.fields_of.ensures ∙ ap (λ k. length (fields_of k)) (c.number.ensures ∙ c.in_ok-kind.ensures) in
    let z = c.if-fields_of-eq0.true in (
      kind-whole n (kind-known n c.in_ok-kind.kind c.in_default.not-Header c.in_ok-kind.ensures) _ c.of_kind-e.ensures _ many z,
      sym z ∙ many ∙ kind-fields n c.of_kind-e.result c.of_kind-e.ensures,
    )

pub returns-else-fields_of-eq0 : goal.returns-else-fields_of-eq0
returns-else-fields_of-eq0 c = let n = c.args.n in
    let many = c.fields_of.ensures ∙ ap (λ k. length (fields_of k)) (c.number.ensures ∙ c.in_ok-kind.ensures) in
    let z = c.if-fields_of-eq0.false in (
      kind-growing n (kind-known n c.in_ok-kind.kind c.in_default.not-Header c.in_ok-kind.ensures) _ c.of_kind-e.ensures _ many z,
      omega (arith, z, many, kind-fields n c.of_kind-e.result c.of_kind-e.ensures),
    )
