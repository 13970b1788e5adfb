-- `enter`: a kind where there is none yet; else a field, which may be too large or the last.
use Prim.Native.Nat.{ℕ, ◌≤◌}
use mathlib.Core.Path.{◌≡◌, ◌∙◌}
use lib.ListN.{length}
use borrow.Author.Rules.{rules}
use Rattle.log_entries.specs.Entries.{fields_of}
use native.Mathlib.Omega.{arith}
use Rattle.log_entries.proofs.Tables.{kind-has, kind-few}
use Rattle.log_entries.proofs.Entries.{no-numbers, with_field, field_put, field-large, field-whole, field-growing}
use Rattle.log_entries.proofs.enter.Goals as goal

pub returns-then-count-eq0 : goal.returns-then-count-eq0
returns-then-count-eq0 c = let a = c.args in no-numbers a.e a.count a.n c.enter_kind.result c.if-count-eq0.true c.enter_kind.ensures

pub most_of-requires : goal.most_of-requires
most_of-requires c = let p : 1 ≤ c.args.count = omega (arith, c.if-count-eq0.false) in (kind-has _ _ p c.requires, p, kind-few _ _ c.requires)

pub with_field-requires : goal.with_field-requires
with_field-requires c = (omega (arith, c.if-count-eq0.false), kind-few _ _ c.requires)

pub returns-then-most_of-n : goal.returns-then-most_of-n
returns-then-most_of-n c = let p : 1 ≤ c.args.count = omega (arith, c.if-count-eq0.false) in
    (field-large c.args.e c.args.count _ _ p (kind-few _ _ c.requires) c.most_of.ensures c.if-most_of-n.true, tt {0})

pub returns-then-count-fields_of : goal.returns-then-count-fields_of
returns-then-count-fields_of c = let p : 1 ≤ c.args.count = omega (arith, c.if-count-eq0.false) in
    let q = kind-few _ _ c.requires in
    let five : length c.args.e.fields ≡ 5 = search rules in rw c.with_field.ensures (
      field-whole c.args.e c.args.count _ _ p q c.most_of.ensures c.if-most_of-n.false (with_field c.args.e c.args.count c.args.n) (field_put c.args.e c.args.n c.args.count p q five) _
          c.fields_of.ensures c.if-count-fields_of.true,
      c.if-count-fields_of.true ∙ c.fields_of.ensures,
    )

pub returns : goal.returns
returns c = let p : 1 ≤ c.args.count = omega (arith, c.if-count-eq0.false) in
    let q = kind-few _ _ c.requires in
    let five : length c.args.e.fields ≡ 5 = search rules in rw c.with_field.ensures (
      field-growing c.args.e c.args.count _ _ p q c.most_of.ensures c.if-most_of-n.false (with_field c.args.e c.args.count c.args.n) (field_put c.args.e c.args.n c.args.count p q five) _
          c.fields_of.ensures c.if-count-fields_of.false,
      omega (arith, c.if-count-fields_of.false, c.fields_of.ensures, c.requires),
    )
