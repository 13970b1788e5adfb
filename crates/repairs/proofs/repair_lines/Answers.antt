-- `repair_lines` mends place by place.
use native.Mathlib.Omega.{arith}
use Rattle.repairs.proofs.Walk.{from-bit, bit_low, going_start, going-record, going-count, going_more, going-store, going-flags, going-total}
use borrow.Author.Rules.{rules}
use Rattle.repairs.proofs.repair_lines.Goals as goal

pub loop-i-init : goal.loop-i-init
loop-i-init c = let p = c.requires in going_start _ _ _ _ _ _ _ _ _ c.plant.ensures.1 (search rules) (search rules) (search rules) p.0.records_are c.place_keys.ensures (search rules)

pub place-at-requires : goal.place-at-requires
place-at-requires c = let g = c.loop-i.invariant in (g.tree, omega (arith, g.keys_length, c.loop-i-test.true), g.links_room)

pub mend_line-gone-requires : goal.mend_line-gone-requires
mend_line-gone-requires c = (c.requires.0.lined, going-record _ _ _ _ _ _ _ _ _ _ _ _ c.loop-i.invariant c.loop-i-test.true)

pub bounds-dropped-i : goal.bounds-dropped-i
bounds-dropped-i c = omega (arith, c.loop-i.invariant.flags_length, c.loop-i-test.true)

pub overflow_add-count : goal.overflow_add-count
overflow_add-count c = omega (arith, going-count _ _ _ _ _ _ _ _ _ _ _ _ c.loop-i.invariant, bit_low _ _ c.from-count.ensures, c.loop-i-test.true, c.requires.0.lined.lines_max)

pub loop-i-preserved : goal.loop-i-preserved
loop-i-preserved c = going_more _ _ _ _ _ _ _ _ _ _ _ _ c.loop-i.invariant _ _ _ _ _ _ _ c.loop-i-test.true c.place-at.ensures c.is_kept-keep.ensures c.mend_line-gone.ensures.0 c.mend_line-gone.ensures.1 (from-bit _ _ c.from.ensures) (from-bit _ _ c.from-count.ensures)

pub returns : goal.returns
returns c = let g = c.loop-i.invariant in let h = c.loop-i-test.false in (going-store _ _ _ _ _ _ _ _ _ _ _ _ g h, going-flags _ _ _ _ _ _ _ _ _ _ _ _ g h, going-total _ _ _ _ _ _ _ _ _ _ _ _ g h)
