-- What a process holds at some moment of a run hangs on the attaches and detaches alone, whatever the board and whatever the accesses.
-- Stands on Lengths, Runs and the table laws of `machine`.
use Prim.Native.Nat.{ℕ}
use mathlib.Core.Path.{◌≡◌, refl, sym, ap, ◌∙◌}
use mathlib.Core.Bool.{Bool, true, false, not, ◌&&◌, ◌||◌, cond}
use mathlib.Core.List.{List, [], ◌∷◌}
use lib.ListN.{set}
use lib.Dec.{eqb}
use Rattle.address.specs.Addresses.{attachable}
use Rattle.slots.specs.Slots.{slot_index, slot_word}
use Rattle.board.specs.declared.Shape.{Shape}
use Rattle.machine.specs.Boards.{Board, Outcome, fits_board, refused}
use Rattle.machine.specs.Refusals.{Row, row, by_table, is_process, is_slot}
use Rattle.machine.specs.Accesses.{user_access, supervisor_access}
use Rattle.machine.specs.Calls as board
use Rattle.machine.proofs.Tables.{table-both}
use Rattle.promises.specs.Runs.{some_moment, access, attach, detach, map, unmap, protect, move, flush_all, tag, load_and_map, drop_tag, Call, user, supervisor, supervise, step, next}
use Rattle.promises.specs.Demand3.{at_some_moment, without_others, SameFor, ApartEither}
use Rattle.promises.proofs.Lengths.{fits-same}
use Rattle.promises.proofs.Runs.{moment-again, moment-both}

-- what a call makes of the slots; `fits` says whether the board fits
unfoldable pub slots_by : Shape → Bool → List ℕ → Call → List ℕ
slots_by s fits slots (user process a e) = slots
slots_by s fits slots (supervisor (access a g)) = slots
slots_by s fits slots (supervisor (attach process slot segment write)) =
    by_table (λ n. slots) (row 1 (not fits) ∷ row 2 (not (is_process s process && (is_slot slot && attachable segment))) ∷ [])
    (set slots (slot_index process slot) (slot_word segment write))
slots_by s fits slots (supervisor (detach process slot)) =
    by_table (λ n. slots) (row 1 (not fits) ∷ row 2 (not (is_process s process && is_slot slot)) ∷ []) (set slots (slot_index process slot) 0)
slots_by s fits slots (supervisor (map page frame write)) = slots
slots_by s fits slots (supervisor (unmap page)) = slots
slots_by s fits slots (supervisor (protect page write)) = slots
slots_by s fits slots (supervisor (move page new)) = slots
slots_by s fits slots (supervisor flush_all) = slots
slots_by s fits slots (supervisor (tag name)) = slots
slots_by s fits slots (supervisor (load_and_map line)) = slots
slots_by s fits slots (supervisor drop_tag) = slots

module _ (s : Shape) (b : Board) where
  -- a table leaves the slots of what is done, or the board's
  slots-table : (rows : List Row) (d : Outcome) → (by_table (refused b) rows d).after.slots ≡ by_table (λ n. b.slots) rows d.after.slots
  slots-table rows d = table-both (λ (o : Outcome) slots. o.after.slots ≡ slots) (refused b) (λ n. b.slots) (λ n. refl) rows d d.after.slots (λ p. refl)

  -- a call that is neither attach nor detach keeps them
  slots_kept : (rows : List Row) (d : Outcome) → d.after.slots ≡ b.slots → (by_table (refused b) rows d).after.slots ≡ b.slots
  slots_kept rows d e = table-both (λ (o : Outcome) slots. o.after.slots ≡ b.slots) (refused b) (λ n. b.slots) (λ n. refl) rows d b.slots (λ p. e)

  pub slots-step : (k : Call) → (step s b k).after.slots ≡ slots_by s (fits_board s b) b.slots k
  unfolding step slots_by user_access supervise supervisor_access board.attach board.detach board.map_page board.unmap board.protect board.move_page board.flush_all board.tag board.load_and_map board.drop_tag
  slots-step (user process a e) = slots_kept _ _ refl
  slots-step (supervisor (access a g)) = slots_kept _ _ refl
  slots-step (supervisor (attach process slot segment write)) = slots-table _ _
  slots-step (supervisor (detach process slot)) = slots-table _ _
  slots-step (supervisor (map page frame write)) = slots_kept _ _ refl
  slots-step (supervisor (unmap page)) = slots_kept _ _ refl
  slots-step (supervisor (protect page write)) = slots_kept _ _ refl
  slots-step (supervisor (move page new)) = slots_kept _ _ refl
  slots-step (supervisor flush_all) = slots_kept _ _ refl
  slots-step (supervisor (tag name)) = slots_kept _ _ refl
  slots-step (supervisor (load_and_map line)) = slots_kept _ _ refl
  slots-step (supervisor drop_tag) = slots_kept _ _ refl

-- ---- at some moment

module _ (test : List ℕ → Bool) (s : Shape) where
  abbrev slots_ever : Bool → List ℕ → List Call → Bool
  slots_ever fits slots ks = some_moment test (slots_by s fits) slots ks

  -- read off the slots alone
  ever-slots : (b : Board) (ks : List Call) → at_some_moment test s b ks ≡ slots_ever (fits_board s b) b.slots ks
  ever-slots b ks =
      moment-both (next s) (slots_by s (fits_board s b)) (λ c slots js. (fits_board s c ≡ fits_board s b) × (c.slots ≡ slots))
      (λ c slots k js e. (fits-same s s c k ∙ e.0, slots-step s c k ∙ rw (e.0, e.1)))
      (λ c. test c.slots) test (λ c slots js e. ap test e.1) b b.slots ks (refl, refl)

  -- the accesses of others make no moment
  slots-without : (process : ℕ) (fits : Bool) (slots : List ℕ) (ks : List Call) → slots_ever fits slots ks ≡ slots_ever fits slots (without_others process ks)
  unfolding some_moment without_others slots_by
  slots-without process fits slots [] = refl
  slots-without process fits slots (supervisor c ∷ ks) = ap (λ (t : Bool). test slots || t) (slots-without process fits (slots_by s fits slots (supervisor c)) ks)
  slots-without process fits slots (user q a e ∷ ks) = go (eqb q process) (slots-without process fits slots ks)
    where
      go : (t : Bool) → slots_ever fits slots ks ≡ slots_ever fits slots (without_others process ks)
          → (test slots || slots_ever fits slots ks) ≡ slots_ever fits slots (cond t (user q a e ∷ without_others process ks) (without_others process ks))
      go true later = rw later
      go false later = rw later (moment-again (slots_by s fits) test slots (without_others process ks))

  -- two runs with the same calls of our process and of the supervisor
  pub ever-same : (process : ℕ) (b : Board) (ks ls : List Call) → SameFor process ks ls → at_some_moment test s b ks ≡ at_some_moment test s b ls
  ever-same process b ks ls same =
      ever-slots b ks ∙ slots-without process (fits_board s b) b.slots ks ∙ ap (slots_ever (fits_board s b) b.slots) same
      ∙ sym (ever-slots b ls ∙ slots-without process (fits_board s b) b.slots ls)

pub apart_either : ApartEither
apart_either s b ks ls process same apart segment other low differs h w =
    apart segment other low differs (ever-same _ s process b ks ls same ∙ h) (ever-same _ s process b ks ls same ∙ w)
