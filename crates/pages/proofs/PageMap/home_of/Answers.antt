-- `home_of` gives the home of an address: by its frame, which is inside memory, or under prefix 1.
use native.Mathlib.Omega.{arith}
use Rattle.pages.proofs.Frames.{mapped-inside, address-home-at, address-home-direct}
use borrow.Author.Rules.{rules}
use Rattle.pages.proofs.PageMap.home_of.Goals as goal

pub returns-in-Some : goal.returns-in-Some
returns-in-Some c = search (rules, address-home-at)

pub returns-in-None : goal.returns-in-None
returns-in-None c = search (rules, address-home-direct)

pub offset_bounds-self-f : goal.offset_bounds-self-f
offset_bounds-self-f c = omega (arith, mapped-inside _ _ _ _ _ c.mapped_to.ensures c.in-Some.is)

pub bounds-self-f : goal.bounds-self-f
bounds-self-f c = omega (arith, mapped-inside _ _ _ _ _ c.mapped_to.ensures c.in-Some.is)

pub in_frame-requires : goal.in_frame-requires
in_frame-requires c = omega (arith, mapped-inside _ _ _ _ _ c.mapped_to.ensures c.in-Some.is)
