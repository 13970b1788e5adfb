-- `take_byte`: the tests in their order; sums and products stay below 2^64.
use native.Mathlib.Omega.{arith}
use Rattle.log_numbers.proofs.Groups.{more-fits, whole-fits, part-fits, taken-tenth, taken_more, taken-padded, taken-whole}
use Rattle.log_numbers.proofs.take_byte.Goals as goal

pub returns-then-groups-byte : goal.returns-then-groups-byte
returns-then-groups-byte c = taken-tenth _ _ _ _ c.from-byte.ensures c.if-groups-byte.true

pub overflow_mul-result : goal.overflow_mul-result
overflow_mul-result c = omega (arith, part-fits _ _ _ (more-fits _ _ _ _ _ c.from-byte.ensures c.if-groups-byte.false c.requires.0 c.requires.1 c.if-byte-ge-GROUP.true c.weight.ensures))

pub overflow_add-result : goal.overflow_add-result
overflow_add-result c = omega (arith, more-fits _ _ _ _ _ c.from-byte.ensures c.if-groups-byte.false c.requires.0 c.requires.1 c.if-byte-ge-GROUP.true c.weight.ensures)

pub returns-then-byte-ge-GROUP : goal.returns-then-byte-ge-GROUP
returns-then-byte-ge-GROUP c = taken_more _ _ _ _ _ c.from-byte.ensures c.if-groups-byte.false c.if-byte-ge-GROUP.true c.weight.ensures

pub returns-then-groups-byte-2 : goal.returns-then-groups-byte-2
returns-then-groups-byte-2 c = taken-padded _ _ _ _ 0 c.from-byte.ensures c.if-groups-byte.false c.if-byte-ge-GROUP.false c.if-groups-byte-2.true

pub overflow_mul-result-2 : goal.overflow_mul-result-2
overflow_mul-result-2 c = omega (arith, part-fits _ _ _ (whole-fits _ _ _ _ _ c.from-byte.ensures c.if-groups-byte.false c.requires.0 c.requires.1 c.if-byte-ge-GROUP.false c.weight-2.ensures))

pub overflow_add-result-2 : goal.overflow_add-result-2
overflow_add-result-2 c = omega (arith, whole-fits _ _ _ _ _ c.from-byte.ensures c.if-groups-byte.false c.requires.0 c.requires.1 c.if-byte-ge-GROUP.false c.weight-2.ensures)

pub returns : goal.returns
returns c = taken-whole _ _ _ _ _ c.from-byte.ensures c.if-groups-byte.false c.if-byte-ge-GROUP.false c.if-groups-byte-2.false c.weight-2.ensures
