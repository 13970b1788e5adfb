-- Calls that bring their own numbers. U belongs to the board, though no buffer's length tells it: a run whose last call brings another U, which fits
-- the buffers as well. The two machines part there, so the promises of `promises/specs/Brought.antt` need their premise. And a run that meets it.
use Rattle.std.specs.Prelude.{ℕ, ◌≡◌, true, false, List, [], ◌∷◌, ◌++◌}
use Rattle.address.specs.Addresses.{effective}
use Rattle.board.specs.declared.Shape.{Shape}
use Rattle.line_bytes.specs.Bytes.{zeros}
use Rattle.machine.specs.Boards.{Board, fits_board, fresh, refused}
use Rattle.promises.specs.Plain.{Plain}
use Rattle.promises.specs.Runs.{attach, map, Call, user, supervisor, step, plain_step, plain_of}
use Rattle.promises.specs.Brought.{Brought, bring, EachBrings, brought_after, brought_replies, plain_brought_after, plain_brought_replies}

-- one frame, one process, one line, and U
abbrev pub with_uncached : ℕ → Shape
with_uncached u = record { frames = 1; uncached = u; processes = 1; lines = 1; ways = 1 }

-- the board's own U is 0, so its frame may be mapped; the last call brings 1
abbrev pub own_shape : Shape
own_shape = with_uncached 0

abbrev pub other_shape : Shape
other_shape = with_uncached 1

-- a fresh board, its cache and memory zeros, and the plain machine
abbrev pub start : Board
start = fresh own_shape (zeros 16) (zeros 4096)

abbrev pub plain_start : Plain
plain_start = plain_of start (zeros 4096)

-- the process loads its byte 0
abbrev pub load : Call
load = user 0 (record { store = false; width = 1; value = 0 }) (effective 0)

-- page 0x200000 is mapped to frame 0, the process attaches its segment and loads, so that the line is held
abbrev pub opening : List Brought
opening = bring own_shape (supervisor (map 0x200000 0 true)) ∷ bring own_shape (supervisor (attach 0 0 2048 true)) ∷ bring own_shape load ∷ []

-- then it loads again, with the other U
abbrev pub run : List Brought
run = opening ++ (bring other_shape load ∷ [])

pub record UncachedIsTheBoards : Type 0 where
  -- both fit the buffers as they stand at that load
  pub own_fits : fits_board own_shape (brought_after start opening) ≡ true
  pub other_fits : fits_board other_shape (brought_after start opening) ≡ true
  -- the board holds the line and gives it; the plain machine finds the page mapped to no frame from 1 up
  pub board_number : (step other_shape (brought_after start opening) load).answer.number ≡ 0
  pub plain_number : (plain_step other_shape (plain_brought_after plain_start opening) load).number ≡ 8
  pub replies_differ : brought_replies start run ≡ plain_brought_replies plain_start run → ⊥

-- ---- numbers that don't fit

-- two frames, where the board has one
abbrev pub unfit_shape : Shape
unfit_shape = record { frames = 2; uncached = 0; processes = 1; lines = 1; ways = 1 }

-- after the opening a load with these, and the load again with the board's own: a run that meets the premise of the promises
abbrev pub mixed : List Brought
mixed = opening ++ (bring unfit_shape load ∷ bring own_shape load ∷ [])

pub record UnfitRefused : Type 0 where
  pub premise_met : EachBrings own_shape start mixed
  -- the call that brings them is refused by 1, and the board stays as it is
  pub refused_by_1 : step unfit_shape (brought_after start opening) load ≡ refused (brought_after start opening) 1
