-- `map_check` asks the rows of map in their order.
use Rattle.map_call.proofs.Maps.{check-ranges, check-frame, check-used, check-mapped, check-none}
use Rattle.map_call.proofs.map_check.Goals as goal

pub bounds-map-frame : goal.bounds-map-frame
bounds-map-frame c = check-frame c.args.map.now.shape _ c.args.page _ _ c.map_fits.ensures c.if-not-map_fits.false c.args.map.now.words_are

pub returns-then-not-map_fits : goal.returns-then-not-map_fits
returns-then-not-map_fits c = check-ranges _ _ _ _ _ c.map_fits.ensures c.if-not-map_fits.true

pub returns-then-map-frame-ne0 : goal.returns-then-map-frame-ne0
returns-then-map-frame-ne0 c = check-used _ _ _ _ _ c.map_fits.ensures c.if-not-map_fits.false c.if-map-frame-ne0.true

pub returns-then-is_some : goal.returns-then-is_some
returns-then-is_some c = check-mapped _ _ _ _ _ c.map_fits.ensures c.if-not-map_fits.false c.if-map-frame-ne0.false _ c.mapped_to.ensures _ c.is_some.ensures c.if-is_some.true

pub returns : goal.returns
returns c = check-none _ _ _ _ _ c.map_fits.ensures c.if-not-map_fits.false c.if-map-frame-ne0.false _ c.mapped_to.ensures _ c.is_some.ensures c.if-is_some.false
