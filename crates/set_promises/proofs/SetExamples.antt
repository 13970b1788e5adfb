-- The computed examples of sets of four.
use Prim.Native.Nat.{ℕ, ◌+◌, ◌*◌, ◌/◌, ◌%◌, ◌<◌}
use mathlib.Core.Path.{◌≡◌, refl}
use mathlib.Core.List.{[], ◌∷◌}
use mathlib.Core.Bool.{Bool, true}
use native.Mathlib.Omega.{arith}
use lib.Count.{ones}
use lib.Dec.{ltb}
use borrow.Author.Tests.{ltb-true}
use Rattle.address.specs.Layout.{line_bytes, page_bytes, prefix_lines}
use Rattle.address.specs.Addresses.{region_of}
use Rattle.board.specs.Answers.{mark_of}
use Rattle.board.specs.Lists.{part, splice}
use Rattle.board.specs.Searches.{first}
use Rattle.board.specs.Shapes.{one_line, edition_holds, matrices_of, fits_shape}
use Rattle.board.proofs.Tables.{every_below, every-below}
use Rattle.pages.specs.Pages.{lowest_from, lowest_frame, mapped_to, free_frame, direct_home, home_by, home_of}
use Rattle.line_bytes.specs.Bytes.{number, digits, stored, line_of, with_line, zeros}
use Rattle.sets.specs.Matrices.{cleared, used, ones_of, fewer, fewest}
use Rattle.lines.specs.Records.{line_at, put_line}
use Rattle.lines.specs.Holds.{set_at, holds_line, holds_at, holds_name, holder_of}
use Rattle.lines.specs.Victims.{is_empty, victim_by, victim_at, used_in, record_by}
use Rattle.stores.specs.Stores.{written_back, filled, noted, dropped, inserted, performed_at}
use Rattle.ranges.specs.Ranges.{in_range, named}
use Rattle.visits.specs.Visits.{treated, visited, sweep, visited_all}
use Rattle.reach.specs.Reach.{way_by_home, way_by, way_of, unreached, may_write}
use Rattle.machine.specs.Calls.{found_frame, moved, move_page}
use Rattle.machine.specs.Refusals.{by_table, too_large, is_ordinary, is_cached, is_mapped, aligned_to, outside}
use Rattle.machine.specs.Accesses.{performed_on, accessed_by, uses_by, accessed, user_table, user_access, supervisor_table, supervisor_done, supervisor_access}
use Rattle.promises.specs.Runs.{ran, gained, after, supervise, step}
use Rattle.promises.proofs.Soundness.{fresh-zeros}
use Rattle.set_promises.specs.LastUses.{reached_in, would_use, used_by, is_record, last_from, last_use, Squares, Full}
use Rattle.set_promises.specs.SetExamples.{load, shape, start, run, small, wild, each, SetExamples}
use Rattle.set_promises.proofs.LastUses.{square-is, oldest-once-used, victim-is-oldest}

-- a test of the four records of a set, computed
in_set : (place : ℕ) (test : ℕ → Bool) → every_below 4 (λ a. test (place * 4 + a)) ≡ true → (i : ℕ) → i / 4 ≡ place → test i ≡ true
in_set place test h i e =
    let z : i ≡ place * 4 + i % 4 = omega arith in
    rw z (every-below 4 (λ a. test (place * 4 + a)) h (i % 4) (omega arith))

pub set-examples : SetExamples
unfolding every_below ones region_of number dropped named in_range treated visited sweep visited_all is_mapped found_frame moved move_page mark_of part splice first edition_holds matrices_of fits_shape lowest_from lowest_frame mapped_to free_frame direct_home home_by home_of digits stored line_of with_line zeros cleared used ones_of fewer fewest line_at put_line holds_line holds_at holds_name holder_of is_empty victim_by victim_at used_in record_by written_back filled noted inserted performed_at way_by_home way_by way_of unreached may_write by_table too_large is_ordinary is_cached aligned_to outside performed_on accessed_by uses_by accessed user_table user_access supervisor_table supervisor_done supervisor_access ran gained supervise step reached_in would_use used_by is_record last_from
set-examples =
    let zeroed = fresh-zeros shape (zeros (line_bytes * 8)) (zeros page_bytes) in
    let full : Full shape (after shape start run) 1 = in_set 1 (holds_at shape (after shape start run).store.records) refl in
    let squares : Squares wild = λ place h. let z : place ≡ 0 = omega arith in rw z (square-is _ refl refl) in
    let full-each : Full small (after small wild each) 0 = in_set 0 (holds_at small (after small wild each).store.records) refl in
    let all_used : (i : ℕ) → set_at small i ≡ 0 → 0 < last_use small wild each i = λ i e. ltb-true _ _ (in_set 0 (λ (j : ℕ). ltb 0 (last_use small wild each j)) refl i e) in
    record {
      full_set = record {
        fresh_start = zeroed;
        place_of_9 = refl;
        full = full;
        last_uses = refl;
        victim_of_9 = refl;
        promised = victim-is-oldest shape start refl zeroed run (prefix_lines + 9) full;
        marks_are = refl;
      };
      wild_matrix = record {
        full = in_set 0 (holds_at small (after small wild (load 0 ∷ [])).store.records) refl;
        last_uses = refl;
        victim_of_4 = refl;
        not_oldest = λ x. omega (arith, x.others_later 1 refl (omega arith));
      };
      each_used = record {
        squares = squares;
        full = full-each;
        last_uses = refl;
        all_used = all_used;
        victim_of_4 = refl;
        promised = oldest-once-used small wild refl squares each (prefix_lines + 4) full-each all_used;
      };
      busy_pages = record { pushing = refl; staying = refl };
      page_handed = record { by_one = refl; by_four = refl; held_before = refl; none_after = refl; same_uses = refl };
      two_lines_lem = record { taken = refl; refused_by_1 = refl };
      twin_boards = record {
        fresh_one = fresh-zeros (one_line 1 0 1 8) (zeros (line_bytes * 8)) (zeros page_bytes);
        fresh_four = zeroed;
        fits_one = refl;
        fits_four = refl;
        same_slots = refl;
        same_words = refl;
        same_memory = refl;
        same_tag = refl;
      };
    }
