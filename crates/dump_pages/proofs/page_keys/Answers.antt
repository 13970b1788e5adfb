-- `page_keys` puts the key of each frame: those below `f` stand.
use lib.ListN.{length}
use native.Mathlib.Omega.{arith}
use Rattle.dump_pages.specs.Pages.{page_at}
use Rattle.doubles.proofs.Keys.{keys-more, keys-all}
use Rattle.dump_pages.proofs.page_keys.Goals as goal

pub loop-f-preserved : goal.loop-f-preserved
loop-f-preserved c = let a = c.args in keys-more (page_at a.s a.words.now) c.loop-f.keys c.loop-f.f c.page_at.result c.page_at.ensures (omega arith) c.loop-f.invariant

pub returns : goal.returns
returns c = let a = c.args in keys-all (page_at a.s a.words.now) c.loop-f.keys c.loop-f.f (length a.keys.now) (omega arith) (omega arith) c.loop-f.invariant
