-- What is promised from a sound board holds from any board that the checker accepts.
use Prim.Native.Nat.{ℕ, ◌*◌, ◌<◌}
use mathlib.Core.Path.{◌≡◌, ◌∙◌, sym}
use mathlib.Core.Bool.{true}
use borrow.Author.Tests.{lt-ltb}
use Rattle.address.specs.Layout.{page_lines}
use Rattle.board.specs.declared.Shape.{Shape}
use Rattle.stores.specs.Stores.{current}
use Rattle.machine.specs.Boards.{Board, fits_board}
use Rattle.machine.specs.Refusals.{by_table}
use Rattle.machine.specs.Looks.{look}
use Rattle.promises.specs.Sound.{Sound}
use Rattle.promises.specs.Runs.{after}
use Rattle.promises.specs.Brought.{brought_after}
use Rattle.promises.proofs.Soundness.{fresh-sound}
use Rattle.promises.proofs.Shown.{shows-some}
use Rattle.promises.proofs.Demand2.{demand2-sound}
use Rattle.promises.proofs.Demand3.{demand3-sound}
use Rattle.promises.proofs.Brought.{brought-demand2-sound, brought-demand3-sound}
use Rattle.promises.proofs.Lists.{lists-are-calls}
use Rattle.dump_promises.specs.Accepted.{shown_memory, Runs, FromAccepted, FromYes, RunsAccepted}
use Rattle.dump_promises.proofs.Checker.{checker-is-right}
use Rattle.dump_promises.proofs.Calls.{checks-alike}

-- look gives the current bytes, inside memory
look-inside : (s : Shape) (b : Board) (line : ℕ) → fits_board s b ≡ true → line < page_lines * s.frames → look s b line ≡ current s b.store line
unfolding look by_table
look-inside s b line f h = rw (f, lt-ltb line (page_lines * s.frames) h)

pub from_sound : (s : Shape) (b : Board) → Sound s b → Runs s b (shown_memory s b)
from_sound s b x =
    let m = shown_memory s b in
    let y = shows-some s b x.shape_holds in
    record {
      shown = y;
      looks = λ line h. look-inside s b line x.shape_holds h ∙ y.same_lines line h;
      plain = λ ks. (demand2-sound s b m x y ks).alike;
      stays = λ ks. checker-is-right.accepted s (after s b ks) (demand2-sound s b m x y ks).sound;
      apart = λ ks ls process. demand3-sound.apart s b m x y ks ls process;
      one_copy = λ ks. demand3-sound.one_copy s b x ks;
      brought_plain = λ ks h. (brought-demand2-sound s b m x y ks h).alike;
      brought_stays = λ ks h. checker-is-right.accepted s (brought_after b ks) (brought-demand2-sound s b m x y ks h).sound;
      brought_apart = λ ks ls process. brought-demand3-sound.apart s b m x y ks ls process;
      brought_one_copy = λ ks h. brought-demand3-sound.one_copy s b x ks h;
      listed = lists-are-calls.runs_sound s b m x y;
    }

pub from-accepted : FromAccepted
from-accepted s b e = from_sound s b (checker-is-right.accepts s b e)

pub from-yes : FromYes
from-yes s b keys links r x e = from-accepted s b (sym (checks-alike.says s b keys links r x (rw e)) ∙ e)

pub runs-accepted : RunsAccepted
runs-accepted s b x h ks = (from_sound s b (fresh-sound s b x h)).stays ks
