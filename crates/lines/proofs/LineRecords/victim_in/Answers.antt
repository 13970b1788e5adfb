-- `victim_in` takes an empty record of the set, else the one with the fewest ones.
use native.Mathlib.Omega.{arith}
use Rattle.lines.proofs.Holders.{place-few, four-inside, place-noted, victim_empty, victim_full}
use borrow.Author.Rules.{rules}
use Rattle.lines.proofs.LineRecords.victim_in.Goals as goal

pub empty_in-requires : goal.empty_in-requires
empty_in-requires c = search (rules, four-inside)

pub offset_bounds-uses-place : goal.offset_bounds-uses-place
offset_bounds-uses-place c = let p = c.requires in omega (arith, place-few c.args.self.now.shape _ c.args.self.now.lined p.1)

pub bounds-uses-place : goal.bounds-uses-place
bounds-uses-place c = search (rules, place-noted)

pub overflow_add-result : goal.overflow_add-result
overflow_add-result c = let p = c.requires in let d = c.args.self.now in omega (arith, d.lined.lines_max, four-inside d.shape _ _ d.lined p.1 p.2 p.0, c.fewest_of.ensures.1)

pub returns-in-Some : goal.returns-in-Some
returns-in-Some c = search (rules, victim_empty)

pub returns-in-None : goal.returns-in-None
returns-in-None c = search (rules, victim_full)
