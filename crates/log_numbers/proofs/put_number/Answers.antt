-- `put_number`: after each group, the number's bytes are those put so far and those of the rest.
use Prim.Native.Nat.{ℕ, ◌+◌, ◌-◌}
use mathlib.Core.Path.{◌≡◌, ◌∙◌, refl, ap}
use mathlib.Core.List.{List}
use native.Mathlib.Omega.{arith}
use lib.ListN.{length, length-set}
use borrow.Author.Rules.{rules}
use Rattle.board.specs.Lists.{splice}
use Rattle.log_numbers.specs.Numbers.{groups_before}
use Rattle.log_numbers.proofs.Groups.{groups-start, written_start, written-room, written-rest, written-more, written_count, written_last, counted-last}
use Rattle.log_numbers.proofs.put_number.Goals as goal

pub loop-rest-init : goal.loop-rest-init
loop-rest-init c = let g = groups-start c.args.n c.args.at in
    (search rules, search rules, refl, written_start _ _ c.ranges.n.fits, ap (splice c.args.bytes.now c.args.at) g, ap (λ (x : List ℕ). c.args.at + length x) g)

pub loop-rest-smaller : goal.loop-rest-smaller
loop-rest-smaller c = let l = c.loop-rest.invariant in let r = written-room _ _ _ refl c.loop-rest-test.true l.3 in omega (arith, r)

pub loop-rest-preserved : goal.loop-rest-preserved
loop-rest-preserved c = let l = c.loop-rest.invariant in
    let t = c.loop-rest-test.true in
    let d : c.args.at + groups_before - (c.loop-rest.next + 1) ≡ c.args.at + groups_before - c.loop-rest.next - 1 = omega arith in (
      search rules,
      omega (arith, written-room _ _ _ d t l.3),
      search rules,
      written-rest _ _ _ d t l.3,
      written-more _ _ _ d t l.3 _ _ _ l.4,
      written_count _ _ _ d t l.3 _ _ l.5,
    )

pub shape_of-bytes : goal.shape_of-bytes
shape_of-bytes c = let l = c.loop-rest in length-set l.bytes l.next l.rest ∙ l.invariant.2

pub returns : goal.returns
returns c = let l = c.loop-rest.invariant in (written_last _ _ _ _ _ c.loop-rest-test.false l.4, counted-last _ _ _ _ c.loop-rest-test.false l.5)
