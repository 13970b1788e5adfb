-- `page_names` gives the range as it is defined.
use mathlib.Core.Path.{refl}
use Rattle.ranges.proofs.page_names.Goals as goal

pub returns : goal.returns
returns c = refl
