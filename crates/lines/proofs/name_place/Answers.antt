-- `name_place` takes the low bits of a name, as many as the sets need.
use Rattle.lines.proofs.Holders.{name-placed}
use Rattle.lines.proofs.name_place.Goals as goal

pub sets_of-requires : goal.sets_of-requires
sets_of-requires c = c.requires

pub returns : goal.returns
returns c = name-placed c.args.s _ _ _ c.sets_of.ensures.0 c.place_of.ensures.0 c.place_of.ensures.1
