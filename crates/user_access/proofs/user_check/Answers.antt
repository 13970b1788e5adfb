-- `user_check` is rows 2 to 5, then `slot_check`: one law a return.
use Prim.Native.Nat.{◌<◌}
use native.Mathlib.Omega.{arith}
use Rattle.user_access.proofs.Checks.{process-below, aligned-wide, slot-inside, check-process, check-tag, check-aligned, check-value, check-kernels, check-slot}
use borrow.Author.Rules.{rules}
use Rattle.user_access.proofs.user_check.Goals as goal

pub returns-then-process-s-2 : goal.returns-then-process-s-2
returns-then-process-s-2 c = search (rules, check-process)

pub returns-then-process-s : goal.returns-then-process-s
returns-then-process-s c = search (rules, check-tag)

pub overflows-requires : goal.overflows-requires
overflows-requires c = search (rules, aligned-wide)

pub returns-then-overflows : goal.returns-then-overflows
returns-then-overflows c = search (rules, check-value)

pub returns-then-is_kernels : goal.returns-then-is_kernels
returns-then-is_kernels c = search (rules, check-kernels)

pub overflow_mul-process : goal.overflow_mul-process
overflow_mul-process c = let x = c.args in let z : x.process < x.s.processes = search (rules, process-below) in omega arith

pub overflow_add-process : goal.overflow_add-process
overflow_add-process c = let x = c.args in let z : x.process < x.s.processes = search (rules, process-below) in omega arith

pub offset_bounds-slots-process : goal.offset_bounds-slots-process
offset_bounds-slots-process c = let x = c.args in let z : x.process < x.s.processes = search (rules, process-below) in omega arith

pub bounds-slots-process : goal.bounds-slots-process
bounds-slots-process c = search (rules, slot-inside)

pub returns-then-not-aligned : goal.returns-then-not-aligned
returns-then-not-aligned c = search (rules, check-aligned)

pub returns : goal.returns
returns c = search (rules, check-slot)
