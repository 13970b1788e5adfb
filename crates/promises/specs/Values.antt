-- CR 2: a store whose value doesn't fit its width is refused with 2, and a value that was stored is read back whole: of user and supervisor accesses,
-- wherever they go. (That the plain machine refuses likewise is demand 2.)
use Rattle.std.specs.Prelude.{ℕ, ◌^◌, ◌≤◌, ◌≡◌, Bool, true, false, not}
use Rattle.address.specs.declared.Effective.{Effective}
use Rattle.address.specs.declared.Global.{Global}
use Rattle.board.specs.declared.Shape.{Shape}
use Rattle.stores.specs.declared.Access.{Access}
use Rattle.machine.specs.Boards.{Board, fits_board, refused}
use Rattle.machine.specs.Refusals.{is_process, is_global, is_width}
use Rattle.promises.specs.Runs.{access, Call, user, supervisor, step, reply}

-- who asks, and where: a process by effective address, or the supervisor by global address
pub data Asker : Type 0 where
  as_user : ℕ → Effective → Asker
  as_supervisor : Global → Asker

-- its access
unfoldable pub asks : Asker → Access → Call
asks (as_user process e) a = user process a e
asks (as_supervisor g) a = supervisor (access a g)

-- a store and a load (width, value)
abbrev pub storing : ℕ → ℕ → Access
storing width value = record { store = true; width = width; value = value }

abbrev pub loading : ℕ → ℕ → Access
loading width value = record { store = false; width = width; value = value }

-- the other reason for number 2: the process, or the global address, is out of its range
unfoldable pub out_of_range : Shape → Asker → Bool
out_of_range s (as_user process e) = not (is_process s process)
out_of_range s (as_supervisor g) = not (is_global g)

pub record ValuesFit : Type 0 where
  -- on any board that fits: a store whose value is 256^width or more is refused with 2 and changes nothing, whatever else could refuse it
  pub too_large : (s : Shape) (b : Board) (x : Asker) (width value : ℕ) → fits_board s b ≡ true → is_width width ≡ true → 256 ^ width ≤ value
      → step s b (asks x (storing width value)) ≡ refused b 2
  -- on any board: any other store, one with a bad width too, gets 2 for its process or its global address only
  pub no_other_2 : (s : Shape) (b : Board) (x : Asker) (width value : ℕ) → (is_width width ≡ true → 256 ^ width ≤ value → ⊥)
      → (step s b (asks x (storing width value))).answer.number ≡ 2 → out_of_range s x ≡ true
  -- for a bad width 4 stands, whatever the value, unless a lower number applies
  pub bad_width_4 : (s : Shape) (b : Board) (x : Asker) (width value : ℕ) → fits_board s b ≡ true → out_of_range s x ≡ false → b.tag.set ≡ false
      → is_width width ≡ false → step s b (asks x (storing width value)) ≡ refused b 4
  -- and the value isn't asked: on any board the outcome is the same for every value
  pub bad_width : (s : Shape) (b : Board) (x : Asker) (width v w : ℕ) → is_width width ≡ false
      → step s b (asks x (storing width v)) ≡ step s b (asks x (storing width w))
  -- a load's value is never asked
  pub loads : (s : Shape) (b : Board) (x : Asker) (width v w : ℕ) → step s b (asks x (loading width v)) ≡ step s b (asks x (loading width w))
  -- on any board: a value that was stored is loaded whole by the next call, of the same asker, address and width
  pub whole : (s : Shape) (b : Board) (x : Asker) (width value v : ℕ) → (step s b (asks x (storing width value))).answer.number ≡ 0
      → reply (step s (step s b (asks x (storing width value))).after (asks x (loading width v))).answer ≡ record { number = 0; value = value }
