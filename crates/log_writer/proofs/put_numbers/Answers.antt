-- `put_numbers`: the fields of a header; the kind and the fields of a call.
use Rattle.std.proofs.Common.{◌≡◌, ◌≤◌, arith, length, take, rules, length-take}
use Rattle.log_entries.proofs.Tables.{fields-few}
use Rattle.log_writer.proofs.Writing.{number-room, kind-room, numbers-header, numbers-call}
use Rattle.log_writer.proofs.put_numbers.Goals as goal

pub shared_ref_as_front-fields : goal.shared_ref_as_front-fields
shared_ref_as_front-fields c = omega (arith, c.fields_of.ensures, fields-few c.args.e.kind)

pub returns-then-e : goal.returns-then-e
returns-then-e c = let e = c.args.e in let p = c.put_all.ensures in
    let five : length e.fields ≡ 5 = search rules in
    let z = numbers-header e.kind _ e.fields five c.fields_of.ensures c.args.bytes.now _ _ c.if-e.true (p.0, p.1) in
    (z.0, z.1, omega (arith, p.2, fields-few e.kind, c.fields_of.ensures, length-take c.fields_of.result e.fields))

pub put_all-requires-2 : goal.put_all-requires-2
put_all-requires-2 c = let e = c.args.e in
    let room = kind-room c.args.bytes.now _ _ _ c.put_number-at.ensures c.requires.1 in
    omega (arith, room, fields-few e.kind, c.fields_of.ensures, length-take c.fields_of.result e.fields)

pub returns : goal.returns
returns c = let e = c.args.e in let q = c.put_all-2.ensures in
    let five : length e.fields ≡ 5 = search rules in
    let z = numbers-call e.kind _ e.fields five c.fields_of.ensures c.args.bytes.now _ _ _ _ c.if-e.false c.put_number-at.ensures (q.0, q.1) in
    (z.0, z.1, omega (arith, q.2, number-room _ _ _ _ _ e.fields c.put_number-at.ensures, fields-few e.kind, c.fields_of.ensures, length-take c.fields_of.result e.fields))
