-- CR 2's run, call by call. What is refused leaves the board; what is kept is read from the held line.
use Prim.Native.Nat.{ℕ, ◌+◌, ◌*◌, ◌-◌, ◌^◌, ◌≤◌}
use mathlib.Core.Path.{◌≡◌, ◌∙◌, refl}
use mathlib.Core.Bool.{true, false}
use mathlib.Core.List.{List, [], ◌∷◌, ◌++◌}
use native.Mathlib.Nat.{zero-add}
use native.Mathlib.Omega.{arith}
use lib.Count.{ones, ones_in}
use lib.ListN.{length}
use Rattle.address.specs.Layout.{page_bytes}
use Rattle.address.specs.Addresses.{effective, global, region_of}
use Rattle.board.specs.Answers.{answer, mark_of}
use Rattle.board.specs.Lists.{splice}
use Rattle.board.specs.Searches.{first}
use Rattle.board.specs.Shapes.{edition_holds, matrices_of, fits_shape}
use Rattle.line_bytes.specs.Bytes.{number, digits, stored}
use Rattle.line_bytes.proofs.Bytes.{length-stored}
use Rattle.lines.specs.Records.{line_at, put_line, word_of, changed_line}
use Rattle.lines.specs.Holds.{holds_line, holds_at, holds_name, holder_of}
use Rattle.lines.specs.Victims.{used_in}
use Rattle.stores.specs.Stores.{performed_at}
use Rattle.reach.specs.Reach.{way_by, way_of, unreached, may_write}
use Rattle.machine.specs.Boards.{Board, board, tagged, fits_board}
use Rattle.machine.specs.Refusals.{by_table, is_width, too_large, is_ordinary, is_cached, aligned_to, outside}
use Rattle.machine.specs.Accesses.{performed_on, accessed_by, uses_by, accessed, memory_access, user_table, user_access, supervisor_table, supervisor_done, supervisor_access}
use Rattle.machine.specs.Calls as calls
use Rattle.promises.specs.Runs.{tag, user, supervisor, supervise, step}
use Rattle.promises.specs.Demand1.{rows_of, applies_in}
use Rattle.promises.specs.Values.{Asker, as_user, as_supervisor, asks, storing, loading}
use Rattle.promises.proofs.Values.{values-fit}
use Rattle.example_runs.specs.Examples.{shape, start, save, line_with, LowerGiven}
use Rattle.example_runs.specs.Values.{save_byte, run, ValuesExample}
use Rattle.example_runs.proofs.Chains.{Does, Ran, ended, ◌then◌, ran-answers, ran-after}
use Rattle.example_runs.proofs.Examples.{slots3, words2, ours, untagged, memory2, memory2-fits, six, ran-opening, after-opening}

-- process 0's line held, changed; its first four bytes are these
abbrev pub holding_four : List ℕ → ℕ → ℕ → ℕ → ℕ → Board
holding_four m a b c d =
    untagged (slots3 false) words2 (ours.name ∷ word_of (changed_line ours) ∷ 0 ∷ 0 ∷ [])
    ((a ∷ b ∷ c ∷ d ∷ 0 ∷ 0 ∷ 0 ∷ 0 ∷ 0 ∷ 0 ∷ 0 ∷ 0 ∷ 0 ∷ 0 ∷ 0 ∷ 0 ∷ []) ++ line_with 0) m

-- the same with a tag pending
abbrev waiting : List ℕ → Board
waiting m = board (slots3 false) words2 (ours.name ∷ word_of (changed_line ours) ∷ 0 ∷ 0 ∷ []) (line_with 50 ++ line_with 0) m (tagged 0x20000000)

-- what is too large is refused on any board that fits
pub refuses : (b : Board) (x : Asker) (width value : ℕ) → fits_board shape b ≡ true → is_width width ≡ true → 256 ^ width ≤ value
    → Does shape b (asks x (storing width value)) (answer 2 0 0) b
refuses b x width value f w h = record { does = values-fit.too_large shape b x width value f w h }

module _ (m : List ℕ) (length-is : length m ≡ 16384) where
  pub fits-here : (a b c d : ℕ) → fits_board shape (holding_four m a b c d) ≡ true
  unfolding ones ones_in edition_holds matrices_of fits_shape
  fits-here a b c d = rw length-is

  does-width-0 : Does shape (holding_four m 0 0 0 50) (save 0 0 3 1) (answer 4 0 0) (holding_four m 0 0 0 50)
  unfolding ones ones_in edition_holds matrices_of fits_shape by_table too_large aligned_to user_table user_access step
  does-width-0 = record { does = rw length-is }

  does-width-3 : Does shape (holding_four m 0 0 0 50) (save 0 3 3 300) (answer 4 0 0) (holding_four m 0 0 0 50)
  unfolding ones ones_in edition_holds matrices_of fits_shape by_table too_large aligned_to user_table user_access step
  does-width-3 = record { does = rw length-is }

  -- loads of a held line, and stores to it
  pub does-load-byte : (d v : ℕ) → Does shape (holding_four m 0 0 0 d) (user 0 (loading 1 v) (effective 3)) (answer 0 d 1) (holding_four m 0 0 0 d)
  unfolding ones ones_in edition_holds matrices_of fits_shape number line_at holds_line holds_at first holds_name holder_of used_in performed_at way_by way_of unreached may_write by_table too_large aligned_to mark_of performed_on accessed_by uses_by accessed user_table user_access step
  does-load-byte d v = record { does = rw (length-is, zero-add) }

  does-load-pair : Does shape (holding_four m 0 0 255 255) (user 0 (loading 2 0) (effective 2)) (answer 0 65535 1) (holding_four m 0 0 255 255)
  unfolding ones ones_in edition_holds matrices_of fits_shape number line_at holds_line holds_at first holds_name holder_of used_in performed_at way_by way_of unreached may_write by_table too_large aligned_to mark_of performed_on accessed_by uses_by accessed user_table user_access step
  does-load-pair = record { does = rw length-is }

  does-load-four : Does shape (holding_four m 255 255 255 255) (user 0 (loading 4 0) (effective 0)) (answer 0 (2 ^ 32 - 1) 1) (holding_four m 255 255 255 255)
  unfolding ones ones_in edition_holds matrices_of fits_shape number line_at holds_line holds_at first holds_name holder_of used_in performed_at way_by way_of unreached may_write by_table too_large aligned_to mark_of performed_on accessed_by uses_by accessed user_table user_access step
  does-load-four = record { does = rw length-is }

  pub does-save-byte : Does shape (holding_four m 0 0 0 50) (save 0 1 3 255) (answer 0 0 1) (holding_four m 0 0 0 255)
  unfolding ones ones_in splice edition_holds matrices_of fits_shape digits stored line_at put_line holds_line holds_at first holds_name holder_of used_in performed_at way_by way_of unreached may_write by_table too_large aligned_to mark_of performed_on accessed_by uses_by accessed user_table user_access step
  does-save-byte = record { does = rw length-is }

  does-save-pair : Does shape (holding_four m 0 0 0 255) (save 0 2 2 65535) (answer 0 0 1) (holding_four m 0 0 255 255)
  unfolding ones ones_in splice edition_holds matrices_of fits_shape digits stored line_at put_line holds_line holds_at first holds_name holder_of used_in performed_at way_by way_of unreached may_write by_table too_large aligned_to mark_of performed_on accessed_by uses_by accessed user_table user_access step
  does-save-pair = record { does = rw length-is }

  does-save-four : Does shape (holding_four m 0 0 255 255) (save 0 4 0 (2 ^ 32 - 1)) (answer 0 0 1) (holding_four m 255 255 255 255)
  unfolding ones ones_in splice edition_holds matrices_of fits_shape digits stored line_at put_line holds_line holds_at first holds_name holder_of used_in performed_at way_by way_of unreached may_write by_table too_large aligned_to mark_of performed_on accessed_by uses_by accessed user_table user_access step
  does-save-four = record { does = rw length-is }

  -- the supervisor's, to the held line and past the cache
  does-save-held : Does shape (holding_four m 255 255 255 255) (save_byte 0x200000003 255) (answer 0 0 1) (holding_four m 255 255 255 255)
  unfolding ones ones_in splice edition_holds matrices_of fits_shape region_of digits stored line_at put_line holds_line holds_at first holds_name holder_of used_in performed_at way_by way_of unreached may_write by_table too_large aligned_to is_ordinary is_cached outside mark_of performed_on accessed_by uses_by accessed supervisor_table supervisor_done supervisor_access supervise step
  does-save-held = record { does = rw length-is }

  does-save-past : Does shape (holding_four m 255 255 255 255) (save_byte 0 255) (answer 0 0 4) (holding_four (stored m 0 1 255) 255 255 255 255)
  unfolding ones ones_in edition_holds matrices_of fits_shape region_of by_table too_large aligned_to is_ordinary is_cached outside memory_access supervisor_table supervisor_done supervisor_access supervise step
  does-save-past = record { does = rw length-is }

  does-tag : Does shape (holding_four m 0 0 0 50) (supervisor (tag 0x20000000)) (answer 0 0 0) (waiting m)
  unfolding ones ones_in edition_holds matrices_of fits_shape by_table calls.tag supervise step
  does-tag = record { does = rw length-is }

  lower-4 : LowerGiven (holding_four m 0 0 0 50) (save 0 2 1 65536) 2 4
  unfolding ones ones_in edition_holds matrices_of fits_shape by_table too_large aligned_to user_table user_access step rows_of applies_in
  lower-4 = record { low_applies = rw length-is; high_applies = rw length-is; in_order = omega arith; low_given = rw length-is }

  lower-3 : LowerGiven (waiting m) (save 0 1 3 256) 2 3
  unfolding ones ones_in edition_holds matrices_of fits_shape by_table too_large aligned_to user_table user_access step rows_of applies_in
  lower-3 = record { low_applies = rw length-is; high_applies = rw length-is; in_order = omega arith; low_given = rw length-is }

pub fifty : fits_board shape (holding_four memory2 0 0 0 50) ≡ true
fifty = fits-here memory2 memory2-fits 0 0 0 50

ran-values : Ran shape start run
    (six (answer 2 0 0 ∷ answer 2 0 0 ∷ answer 2 0 0 ∷ answer 2 0 0 ∷ answer 4 0 0 ∷ answer 4 0 0 ∷ answer 0 50 1 ∷ answer 0 0 1 ∷ answer 0 255 1 ∷ answer 0 0 1
    ∷ answer 0 65535 1 ∷ answer 0 0 1 ∷ answer 0 (2 ^ 32 - 1) 1 ∷ answer 0 0 1 ∷ answer 0 0 4 ∷ answer 2 0 0 ∷ answer 2 0 0 ∷ answer 2 0 0 ∷ answer 2 0 0 ∷ []))
    (holding_four (stored memory2 0 1 255) 255 255 255 255)
unfolding asks
ran-values =
    ran-opening false (
    refuses _ (as_user 0 (effective 3)) 1 300 fifty refl (omega arith)
    then refuses _ (as_user 0 (effective 3)) 1 256 fifty refl (omega arith)
    then refuses _ (as_user 0 (effective 2)) 2 65536 fifty refl (omega arith)
    then refuses _ (as_user 0 (effective 1)) 2 65536 fifty refl (omega arith)
    then does-width-3 memory2 memory2-fits then does-width-0 memory2 memory2-fits then does-load-byte memory2 memory2-fits 50 300
    then does-save-byte memory2 memory2-fits then does-load-byte memory2 memory2-fits 255 0
    then does-save-pair memory2 memory2-fits then does-load-pair memory2 memory2-fits
    then does-save-four memory2 memory2-fits then does-load-four memory2 memory2-fits
    then does-save-held memory2 memory2-fits then does-save-past memory2 memory2-fits
    then refuses _ (as_supervisor (global 0x200000003)) 1 256 full refl (omega arith)
    then refuses _ (as_supervisor (global 0)) 1 256 full refl (omega arith)
    then refuses _ (as_supervisor (global (2 ^ 32 + page_bytes * 3))) 1 256 full refl (omega arith)
    then refuses _ (as_supervisor (global 0xFFC00000000)) 1 256 full refl (omega arith)
    then ended)
  where
    full : fits_board shape (holding_four (stored memory2 0 1 255) 255 255 255 255) ≡ true
    full = fits-here (stored memory2 0 1 255) (length-stored memory2 0 1 255 ∙ memory2-fits) 255 255 255 255

pub values-example : ValuesExample
unfolding asks
values-example = record {
  answers_are = ran-answers ran-values;
  before_4 = rw after-opening (lower-4 memory2 memory2-fits);
  before_3 = rw (ran-after (ran-opening false (does-tag memory2 memory2-fits then ended))) (lower-3 memory2 memory2-fits);
  fits = rw after-opening fifty;
  stores = let e = (does-save-byte memory2 memory2-fits).does in rw (after-opening, e);
}
