-- The small runs beside the demands, call by call.
use Prim.Native.Nat.{ℕ, ◌+◌, ◌*◌, ◌/◌, ◌<◌}
use mathlib.Core.Logic.{◌≢◌}
use mathlib.Core.Path.{◌≡◌, refl, sym, ap, ◌∙◌}
use mathlib.Core.Bool.{Bool, true, false}
use mathlib.Core.List.{List, [], ◌∷◌, ◌++◌}
use native.Mathlib.Omega.{arith}
use native.Mathlib.Nat.{zero-add}
use lib.ListN.{length, get_or, set, replicate, length-replicate}
use lib.Seq.{take_all}
use lib.Count.{ones, ones_in}
use lib.Dec.{eqb}
use borrow.Author.Tests.{eqb-true}
use Rattle.board.specs.Answers.{answer, mark_of}
use Rattle.board.specs.Lists.{part, splice}
use Rattle.board.specs.Searches.{first}
use Rattle.board.specs.Shapes.{edition_holds, matrices_of, fits_shape}
use Rattle.board.specs.declared.Answer.{Answer}
use Rattle.board.proofs.Bools.{clash}
use Rattle.slots.specs.Slots.{slot_word}
use Rattle.pages.specs.Pages.{frame_word, lowest_from, lowest_frame, mapped_to, home_by, home_of}
use Rattle.line_bytes.specs.Bytes.{number, digits, stored, line_of, with_line, zeros, zeroed_frame}
use Rattle.line_bytes.proofs.Bytes.{length-line}
use Rattle.lines.specs.Records.{word_of, line_at, put_line, new_line, changed_line}
use Rattle.lines.specs.declared.Line.{Line}
use Rattle.lines.specs.Holds.{holds_line, holds_at, holds_name, holder_of, keeps_line, keeper_of}
use Rattle.lines.specs.Victims.{is_empty, victim_by, victim_at, used_in}
use Rattle.stores.specs.Stores.{written_back, filled, noted, inserted, performed_at, current_by, current}
use Rattle.reach.specs.Reach.{way_by_home, way_by, way_of, unreached, may_write}
use Rattle.visits.specs.Visits.{visited, sweep, visited_all}
use Rattle.machine.specs.Boards.{Board, board, no_tag, Fresh}
use Rattle.machine.specs.Refusals.{by_table, too_large, aligned_to, is_mapped}
use Rattle.machine.specs.Accesses.{performed_on, accessed_by, uses_by, accessed, user_table, user_access}
use Rattle.machine.specs.Calls as calls
use Rattle.machine.specs.Calls.{map_page, mapped}
use Rattle.machine.specs.Looks.{look}
use Rattle.store_laws.proofs.Bytes.{splice-in, line-ext, line_same, line-with-other}
use Rattle.store_laws.proofs.Zeroed.{zeros-at, length-zeroed, zeroed-line-in, zeroed-line-out}
use Rattle.promises.specs.Runs.{attach, map, Call, supervisor, supervise, step, after, Reply}
use Rattle.promises.specs.Demand1.{supervisor_rows, rows_of, applies_in}
use Rattle.promises.specs.Demand3.{word_holds, word_writes_to, holds, holds_for_writing, at_some_moment, ever_holds, ever_writes, Apart, without_others, moves_of, MovesAlike, is_nothing, no_move}
use Rattle.promises.proofs.Soundness.{fresh-zeros}
use Rattle.promises.proofs.Demand2.{demand2}
use Rattle.promises.proofs.Demand3.{demand3}
use Rattle.example_runs.specs.Examples.{shape, memory, start, load, save, opening, pushing, run_a, run_b, run_c, run_d, gets, line_with, LowerGiven, Example1, Example2, Example3, Broken3}
use Rattle.example_runs.proofs.Chains.{Does, Ran, ended, ◌then◌, kept, ran-answers, ran-after, ran-replies, ran-replies-to, Throughout, never, finally, some-slot, some-fresh, some-failing, some-outside}

-- ---- the memory of the runs

pub length-memory : length memory ≡ 16384
unfolding memory
length-memory = length-replicate {A = ℕ} 16384 255

module _ (m : List ℕ) (fits : length m ≡ 16384) (p : ℕ) (inside : p < 1024) where
  -- a line of a frame that was filled with zeros, and of another frame
  pub zeroed-here : (f : ℕ) → p / 256 ≡ f → line_of (zeroed_frame m f) p ≡ line_with 0
  unfolding line_of part
  zeroed-here f h =
      line-ext (zeroed_frame m f) (line_with 0) p 0 (omega (arith, length-zeroed m f)) (omega arith)
      (λ k g. zeroed-line-in m f p k h g (omega arith) ∙ sym (zeros-at 16 (0 + k)))

  zeroed-elsewhere : (f : ℕ) → p / 256 ≢ f → line_of (zeroed_frame m f) p ≡ line_of m p
  zeroed-elsewhere f h = line_same (zeroed_frame m f) m p (length-zeroed m f) (λ k g. zeroed-line-out m f p k h g)

  -- a line that was written back, and another line
  pub written-here : (line : List ℕ) → length line ≡ 16 → line_of (with_line m p line) p ≡ line
  unfolding line_of with_line part
  written-here line n =
      line-ext (with_line m p line) line p 0 (omega (arith, length-line m p line)) (omega arith)
      (λ k g. splice-in m (16 * p) line (0 + k) (16 * p + k) (omega arith) (omega arith) (omega arith))
      ∙ take_all 16 line (omega arith)

  written-elsewhere : (value q : ℕ) → p ≢ q → line_of (with_line m q (line_with value)) p ≡ line_of m p
  unfolding line_of part
  written-elsewhere value q h = line-with-other m (line_with value) q 0 p h

-- ---- the boards of the runs

-- slots, frame words, records, cache and memory, nothing pending
abbrev pub untagged : List ℕ → List ℕ → List ℕ → List ℕ → List ℕ → Board
untagged slots words records cache m = board slots words records cache m no_tag

-- the slots: nothing attached; segment 2048 by process 0; by process 1 too; and segment 2049 by process 1
abbrev pub slots0 : List ℕ
slots0 = replicate 1024 0

abbrev pub slots1 : List ℕ
slots1 = set slots0 0 (slot_word 2048 true)

abbrev slots2 : Bool → List ℕ
slots2 write = set slots1 512 (slot_word 2048 write)

abbrev pub slots3 : Bool → List ℕ
slots3 write = set (slots2 write) 513 (slot_word 2049 true)

-- the frame words: one page mapped, and both
abbrev pub words1 : List ℕ
words1 = 0 ∷ frame_word 0x200000 true ∷ 0 ∷ 0 ∷ []

abbrev pub words2 : List ℕ
words2 = 0 ∷ frame_word 0x200000 true ∷ frame_word 0x200400 true ∷ 0 ∷ []

-- no line held
abbrev pub empty : List ℕ → List ℕ → List ℕ → Board
empty slots words m = untagged slots words (0 ∷ 0 ∷ 0 ∷ 0 ∷ []) (line_with 0 ++ line_with 0) m

-- memory with one frame filled with zeros, and with both
abbrev pub memory1 : List ℕ
memory1 = zeroed_frame memory 1

abbrev pub memory2 : List ℕ
memory2 = zeroed_frame memory1 2

-- the line of process 0 with the 50, the line of process 1 with the 7, and the one with the 9
abbrev pub ours : Line
ours = new_line 0x20000000 256 true

abbrev others : Line
others = new_line 0x20040000 512 true

abbrev others_next : Line
others_next = new_line 0x20040001 513 true

-- record 0 holds a line with this value in it; record 1 none
abbrev holding : Bool → Line → ℕ → List ℕ → Board
holding write l value m = untagged (slots3 write) words2 (l.name ∷ word_of l ∷ 0 ∷ 0 ∷ []) (line_with value ++ line_with 0) m

-- run B: record 0 holds the 50, and record 1 the 9
abbrev apart : List ℕ → Board
apart m = untagged (slots3 false) words2
    (ours.name ∷ word_of (changed_line ours) ∷ others_next.name ∷ word_of (changed_line others_next) ∷ []) (line_with 50 ++ line_with 9) m

-- the end of run A: the 7 is held, not changed
abbrev pub last : List ℕ → Board
last m = holding false others 7 m

-- ---- the calls of the runs

pub does-map-first : Does shape start (supervisor (map 0x200000 1 true)) (answer 0 0 0) (empty slots0 words1 memory1)
unfolding ones ones_in edition_holds matrices_of fits_shape lowest_from lowest_frame mapped_to zeros line_at holds_line holds_at visited sweep visited_all by_table is_mapped map_page mapped supervise step
does-map-first = record { does = rw length-memory }

module _ (m : List ℕ) (fits : length m ≡ 16384) where
  does-map-second : Does shape (empty slots0 words1 m) (supervisor (map 0x200400 2 true)) (answer 0 0 0) (empty slots0 words2 (zeroed_frame m 2))
  unfolding ones ones_in edition_holds matrices_of fits_shape lowest_from lowest_frame mapped_to line_at holds_line holds_at visited sweep visited_all by_table is_mapped map_page mapped supervise step
  does-map-second = record { does = rw fits }

  does-attach-own : Does shape (empty slots0 words2 m) (supervisor (attach 0 0 2048 true)) (answer 0 0 0) (empty slots1 words2 m)
  unfolding ones ones_in edition_holds matrices_of fits_shape by_table calls.attach supervise step
  does-attach-own = record { does = rw fits }

  module _ (write : Bool) where
    does-attach-shared : Does shape (empty slots1 words2 m) (supervisor (attach 1 0 2048 write)) (answer 0 0 0) (empty (slots2 write) words2 m)
    unfolding ones ones_in edition_holds matrices_of fits_shape by_table calls.attach supervise step
    does-attach-shared = record { does = rw fits }

    does-attach-other : Does shape (empty (slots2 write) words2 m) (supervisor (attach 1 1 2049 true)) (answer 0 0 0) (empty (slots3 write) words2 m)
    unfolding ones ones_in edition_holds matrices_of fits_shape by_table calls.attach supervise step
    does-attach-other = record { does = rw fits }

    does-save-fifty : line_of m 256 ≡ line_with 0 → Does shape (empty (slots3 write) words2 m) (save 0 4 0 50) (answer 0 0 2) (holding write (changed_line ours) 50 m)
    unfolding ones ones_in part splice edition_holds matrices_of fits_shape lowest_from lowest_frame mapped_to home_by home_of digits stored with_line line_at put_line holds_line holds_at first holds_name holder_of is_empty victim_by victim_at used_in written_back filled noted inserted performed_at way_by_home way_by way_of unreached may_write by_table too_large aligned_to mark_of performed_on accessed_by uses_by accessed user_table user_access step
    does-save-fifty h = record { does = rw (fits, h) }

    -- the line of process 0 is held, changed
    does-hit : (value : ℕ) → Does shape (holding write (changed_line ours) value m) (load 0 3) (answer 0 value 1) (holding write (changed_line ours) value m)
    unfolding ones ones_in edition_holds matrices_of fits_shape number line_at holds_line holds_at first holds_name holder_of used_in performed_at way_by way_of unreached may_write by_table too_large aligned_to mark_of performed_on accessed_by uses_by accessed user_table user_access step
    does-hit value = record { does = rw (fits, zero-add) }

  -- run A: process 1 loads the 50
  pub does-hit-shared : Does shape (holding false (changed_line ours) 50 m) (load 1 3) (answer 0 50 1) (holding false (changed_line ours) 50 m)
  unfolding ones ones_in edition_holds matrices_of fits_shape number line_at holds_line holds_at first holds_name holder_of used_in performed_at way_by way_of unreached may_write by_table too_large aligned_to mark_of performed_on accessed_by uses_by accessed user_table user_access step
  does-hit-shared = record { does = rw fits }

  -- its store of 7 pushes the 50 out
  pub does-push : line_of (with_line m 256 (line_with 50)) 512 ≡ line_with 0
      → Does shape (holding false (changed_line ours) 50 m) (save 1 4 0x400000 7) (answer 0 0 3) (holding false (changed_line others) 7 (with_line m 256 (line_with 50)))
  unfolding ones ones_in part splice edition_holds matrices_of fits_shape lowest_from lowest_frame mapped_to home_by home_of digits stored line_of with_line line_at put_line holds_line holds_at first holds_name holder_of is_empty victim_by victim_at used_in written_back filled noted inserted performed_at way_by_home way_by way_of unreached may_write by_table too_large aligned_to mark_of performed_on accessed_by uses_by accessed user_table user_access step
  does-push h = record { does = rw (fits, h) }

  -- process 0 loads its 50 from memory, which pushes the 7 out
  pub does-load-fifty : line_of (with_line m 512 (line_with 7)) 256 ≡ line_with 50
      → Does shape (holding false (changed_line others) 7 m) (load 0 3) (answer 0 50 3) (holding false ours 50 (with_line m 512 (line_with 7)))
  unfolding ones ones_in part splice edition_holds matrices_of fits_shape lowest_from lowest_frame mapped_to home_by home_of number line_of with_line line_at put_line holds_line holds_at first holds_name holder_of is_empty victim_by victim_at used_in written_back filled noted inserted performed_at way_by_home way_by way_of unreached may_write by_table too_large aligned_to mark_of performed_on accessed_by uses_by accessed user_table user_access step
  does-load-fifty h = record { does = rw (fits, h) }

  -- process 1 loads its 7 from memory; the 50 that leaves is not changed
  pub does-load-seven : line_of m 512 ≡ line_with 7 → Does shape (holding false ours 50 m) (load 1 0x400003) (answer 0 7 2) (last m)
  unfolding ones ones_in part splice edition_holds matrices_of fits_shape lowest_from lowest_frame mapped_to home_by home_of number line_of with_line line_at put_line holds_line holds_at first holds_name holder_of is_empty victim_by victim_at used_in written_back filled noted inserted performed_at way_by_home way_by way_of unreached may_write by_table too_large aligned_to mark_of performed_on accessed_by uses_by accessed user_table user_access step
  does-load-seven h = record { does = rw (fits, h) }

  -- run B: the 9 goes to record 1, the 8 is refused, and the 50 is still held
  does-save-nine : line_of m 513 ≡ line_with 0 → Does shape (holding false (changed_line ours) 50 m) (save 1 4 0x400010 9) (answer 0 0 2) (apart m)
  unfolding ones ones_in part splice edition_holds matrices_of fits_shape lowest_from lowest_frame mapped_to home_by home_of digits stored line_of with_line line_at put_line holds_line holds_at first holds_name holder_of is_empty victim_by victim_at used_in written_back filled noted inserted performed_at way_by_home way_by way_of unreached may_write by_table too_large aligned_to mark_of performed_on accessed_by uses_by accessed user_table user_access step
  does-save-nine h = record { does = rw (fits, h) }

  does-refuse : Does shape (apart m) (save 1 1 3 8) (answer 7 0 0) (apart m)
  unfolding ones ones_in edition_holds matrices_of fits_shape by_table too_large aligned_to user_table user_access step
  does-refuse = record { does = rw fits }

  does-hit-apart : Does shape (apart m) (load 0 3) (answer 0 50 1) (apart m)
  unfolding ones ones_in edition_holds matrices_of fits_shape number line_at holds_line holds_at first holds_name holder_of used_in performed_at way_by way_of unreached may_write by_table too_large aligned_to mark_of performed_on accessed_by uses_by accessed user_table user_access step
  does-hit-apart = record { does = rw fits }

  -- run C: process 1 stores over the 50
  does-over : Does shape (holding true (changed_line ours) 50 m) (save 1 1 3 7) (answer 0 0 1) (holding true (changed_line ours) 7 m)
  unfolding ones ones_in splice edition_holds matrices_of fits_shape digits stored line_at put_line holds_line holds_at first holds_name holder_of used_in performed_at way_by way_of unreached may_write by_table too_large aligned_to mark_of performed_on accessed_by uses_by accessed user_table user_access step
  does-over = record { does = rw fits }

  -- after run A: two refusals, and what look shows
  refuse-user : LowerGiven (last m) (save 1 4 2 8) 4 7
  unfolding ones ones_in edition_holds matrices_of fits_shape by_table too_large aligned_to user_table user_access step rows_of applies_in
  refuse-user = record { low_applies = rw fits; high_applies = rw fits; in_order = omega arith; low_given = rw fits }

  refuse-map : LowerGiven (last m) (supervisor (map 0x200000 1 true)) 10 11
  unfolding ones ones_in edition_holds matrices_of fits_shape lowest_from lowest_frame mapped_to by_table is_mapped map_page supervise step supervisor_rows rows_of applies_in
  refuse-map = record { low_applies = rw fits; high_applies = rw fits; in_order = omega arith; low_given = rw fits }

  look-last : look shape (last m) 256 ≡ line_of m 256
  unfolding ones ones_in edition_holds matrices_of fits_shape line_at holds_line holds_at keeps_line first keeper_of current_by current by_table look
  look-last = rw fits

  look-apart : look shape (apart m) 256 ≡ line_with 50
  unfolding ones ones_in part edition_holds matrices_of fits_shape line_of line_at holds_line holds_at keeps_line first keeper_of current_by current by_table look
  look-apart = rw fits

-- ---- the runs

-- the memory of run A: the zeros of the maps, then the 50, then the 7
pub memory1-fits : length memory1 ≡ 16384
memory1-fits = length-zeroed memory 1 ∙ length-memory

pub memory2-fits : length memory2 ≡ 16384
memory2-fits = length-zeroed memory1 2 ∙ memory1-fits

abbrev pub memory3 : List ℕ
memory3 = with_line memory2 256 (line_with 50)

pub memory3-fits : length memory3 ≡ 16384
memory3-fits = length-line memory2 256 (line_with 50) ∙ memory2-fits

abbrev pub memory4 : List ℕ
memory4 = with_line memory3 512 (line_with 7)

pub memory4-fits : length memory4 ≡ 16384
memory4-fits = length-line memory3 512 (line_with 7) ∙ memory3-fits

pub memory2-first : line_of memory2 256 ≡ line_with 0
memory2-first = zeroed-elsewhere memory1 memory1-fits 256 (omega arith) 2 (omega arith) ∙ zeroed-here memory length-memory 256 (omega arith) 1 refl

memory2-other : (p : ℕ) → p < 1024 → p / 256 ≡ 2 → line_of memory2 p ≡ line_with 0
memory2-other p b h = zeroed-here memory1 memory1-fits p b 2 h

pub memory3-first : line_of memory3 256 ≡ line_with 50
memory3-first = written-here memory2 memory2-fits 256 (omega arith) (line_with 50) refl

pub memory3-other : line_of memory3 512 ≡ line_with 0
memory3-other = written-elsewhere memory2 memory2-fits 512 (omega arith) 50 256 (omega arith) ∙ memory2-other 512 (omega arith) refl

pub memory4-first : line_of memory4 256 ≡ line_with 50
memory4-first = written-elsewhere memory3 memory3-fits 256 (omega arith) 7 512 (omega arith) ∙ memory3-first

pub memory4-other : line_of memory4 512 ≡ line_with 7
memory4-other = written-here memory3 memory3-fits 512 (omega arith) (line_with 7) refl

-- the opening
abbrev pub six : List Answer → List Answer
six l = answer 0 0 0 ∷ answer 0 0 0 ∷ answer 0 0 0 ∷ answer 0 0 0 ∷ answer 0 0 0 ∷ answer 0 0 2 ∷ l

pub ran-opening : (write : Bool) {ks : List Call} {l : List Answer} {c : Board} → Ran shape (holding write (changed_line ours) 50 memory2) ks l c → Ran shape start (opening write ks) (six l) c
ran-opening write r =
    does-map-first then does-map-second memory1 memory1-fits then does-attach-own memory2 memory2-fits then does-attach-shared memory2 memory2-fits write
    then does-attach-other memory2 memory2-fits write then does-save-fifty memory2 memory2-fits write memory2-first then r

pub ran-pushing : {ks : List Call} {l : List Answer} {c : Board} → Ran shape (holding false (changed_line others) 7 memory3) ks l c
    → Ran shape start (pushing ks) (six (answer 0 50 1 ∷ answer 0 0 3 ∷ l)) c
ran-pushing r = ran-opening false (does-hit-shared memory2 memory2-fits then does-push memory2 memory2-fits memory3-other then r)

pub ran_a : Ran shape start run_a (six (answer 0 50 1 ∷ answer 0 0 3 ∷ answer 0 50 3 ∷ answer 0 7 2 ∷ [])) (last memory4)
ran_a = ran-pushing (does-load-fifty memory3 memory3-fits memory4-first then does-load-seven memory4 memory4-fits memory4-other then ended)

ran_b : Ran shape start run_b (six (answer 0 0 2 ∷ answer 7 0 0 ∷ answer 0 50 1 ∷ [])) (apart memory2)
ran_b =
    ran-opening false (does-save-nine memory2 memory2-fits (memory2-other 513 (omega arith) refl) then does-refuse memory2 memory2-fits
    then does-hit-apart memory2 memory2-fits then ended)

ran_c : Ran shape start run_c (six (answer 0 0 1 ∷ answer 0 7 1 ∷ [])) (holding true (changed_line ours) 7 memory2)
ran_c = ran-opening true (does-over memory2 memory2-fits then does-hit memory2 memory2-fits true 7 then ended)

ran_d : Ran shape start run_d (six (answer 0 50 1 ∷ [])) (holding true (changed_line ours) 50 memory2)
ran_d = ran-opening true (does-hit memory2 memory2-fits true 50 then ended)

-- ---- the slots of the runs

-- what the slots of the opening don't pass, those of run A never pass
module _ (test : List ℕ → Bool) (none : test slots0 ≡ false) (own : test slots1 ≡ false) (shared : test (slots2 false) ≡ false) (all : test (slots3 false) ≡ false) where
  never-A : at_some_moment test shape start run_a ≡ false
  unfolding Throughout ran-opening ran-pushing ran_a
  never-A = never test ran_a (none, (none, (none, (own, (shared, (all, (all, (all, (all, (all, all))))))))))

-- process 0 holds no segment but 2048
module _ (segment : ℕ) (other : eqb 2048 segment ≡ false) where
  abbrev mine : List ℕ → Bool
  mine slots = holds slots 0 segment

  mine-none : mine slots0 ≡ false
  mine-none = some-fresh (word_holds segment) 1024 0 512 refl

  mine-own : mine slots1 ≡ false
  mine-own = some-failing (word_holds segment) slots0 0 0 (slot_word 2048 true) 512 other mine-none

  mine-shared : mine (slots2 false) ≡ false
  mine-shared = some-outside (word_holds segment) slots1 0 512 (slot_word 2048 false) 512 (λ k b. omega arith) ∙ mine-own

  mine-all : mine (slots3 false) ≡ false
  mine-all = some-outside (word_holds segment) (slots2 false) 0 513 (slot_word 2049 true) 512 (λ k b. omega arith) ∙ mine-shared

  never-holds : ever_holds shape start run_a 0 segment ≡ false
  never-holds = never-A mine mine-none mine-own mine-shared mine-all

-- process 1 holds 2048, but not for writing
abbrev theirs : List ℕ → Bool
theirs slots = holds_for_writing slots 1 2048

theirs-none : theirs slots0 ≡ false
theirs-none = some-fresh (word_writes_to 2048) 1024 1 512 refl

theirs-own : theirs slots1 ≡ false
theirs-own = some-outside (word_writes_to 2048) slots0 1 0 (slot_word 2048 true) 512 (λ k b. omega arith) ∙ theirs-none

theirs-shared : theirs (slots2 false) ≡ false
theirs-shared = some-failing (word_writes_to 2048) slots1 1 512 (slot_word 2048 false) 512 refl theirs-own

theirs-all : theirs (slots3 false) ≡ false
theirs-all = some-failing (word_writes_to 2048) (slots2 false) 1 513 (slot_word 2049 true) 512 refl theirs-shared

never-writes : ever_writes shape start run_a 1 2048 ≡ false
never-writes = never-A theirs theirs-none theirs-own theirs-shared theirs-all

-- at the end
holds-own : (write : Bool) → holds (slots3 write) 0 2048 ≡ true
holds-own write = some-slot (word_holds 2048) (slots3 write) 0 0 512 (omega arith) refl

holds-shared : holds (slots3 false) 1 2048 ≡ true
holds-shared = some-slot (word_holds 2048) (slots3 false) 1 0 512 (omega arith) refl

writes-shared : holds_for_writing (slots3 true) 1 2048 ≡ true
writes-shared = some-slot (word_writes_to 2048) (slots3 true) 1 0 512 (omega arith) refl

writes-other : holds_for_writing (slots3 false) 1 2049 ≡ true
writes-other = some-slot (word_writes_to 2049) (slots3 false) 1 1 512 (omega arith) refl

-- ---- the examples

pub fresh_start : Fresh start
fresh_start = fresh-zeros shape (zeros 32) memory

pub example1 : Example1
example1 = record {
  user_refused = rw (ran-after ran_a) (refuse-user memory4 memory4-fits);
  supervisor_refused = rw (ran-after ran_a) (refuse-map memory4 memory4-fits);
}

-- the board at the end of run A's first parts
pub after-opening : after shape start (opening false []) ≡ holding false (changed_line ours) 50 memory2
after-opening = ran-after (ran-opening false ended)

after-pushing : after shape start (pushing []) ≡ holding false (changed_line others) 7 memory3
after-pushing = ran-after (ran-pushing ended)

look_A : look shape (after shape start run_a) 256 ≡ line_with 50
look_A = rw (ran-after ran_a) (look-last memory4 memory4-fits ∙ memory4-first)

pub example2 : Example2
unfolding line_at
example2 = record {
  answers_are = ran-answers ran_a;
  record_before = rw after-opening;
  memory_before = rw after-opening memory2-first;
  record_after = rw after-pushing;
  memory_after = rw after-pushing memory3-first;
  plain_replies_lem = sym (demand2 shape start fresh_start run_a).same_replies ∙ ran-replies ran_a;
  plain_bytes = sym ((demand2 shape start fresh_start run_a).same_bytes 256) ∙ look_A;
}

apart-A : Apart shape start run_a 0
apart-A segment other b d e f = go (eqb 2048 segment) refl
  where
    go : (t : Bool) → eqb 2048 segment ≡ t → ⊥
    go true t =
        let y : 2048 ≡ segment = eqb-true 2048 segment t in
        let z : other ≡ 1 = omega arith in
        clash (ever_writes shape start run_a 1 2048) (rw (z, ← y) at f) never-writes
    go false t = clash (ever_holds shape start run_a 0 segment) e (never-holds segment t)

pub example3 : Example3
unfolding kept without_others moves_of is_nothing no_move lowest_from lowest_frame mapped_to
example3 = record {
  premise_met = apart-A;
  same_calls = refl;
  moves_alike = alike-AB;
  held = held-A;
  held_by_other = finally (λ slots. holds slots 1 2048) ran_a holds-shared;
  written_by_other = finally (λ slots. holds_for_writing slots 1 2049) ran_a writes-other;
  others_own = never-holds 2049 refl;
  promised = demand3.apart shape start fresh_start run_a run_b 0 refl apart-A alike-AB;
  replies_A = ran-replies-to 0 ran_a;
  replies_B = ran-replies-to 0 ran_b;
  answers_B = ran-answers ran_b;
  page_held = held-A;
  page_mapped = rw (ran-after ran_a);
  line_in_frame = refl;
  look_A = look_A;
  look_B = rw (ran-after ran_b) (look-apart memory2 memory2-fits);
  memory_A = rw (ran-after ran_a) memory4-first;
  memory_B = rw (ran-after ran_b) memory2-first;
}
  where
    held-A : ever_holds shape start run_a 0 2048 ≡ true
    held-A = finally (λ slots. holds slots 0 2048) ran_a (holds-own false)

    alike-AB : MovesAlike shape start run_a run_b 0
    alike-AB = demand3.without_moves shape start run_a run_b 0 refl refl

values-apart : ◌≡◌ {A = List Reply} (gets 0 0 ∷ gets 0 7 ∷ []) (gets 0 0 ∷ gets 0 50 ∷ []) → ⊥
values-apart e = let z : ◌≡◌ {A = ℕ} 7 50 = ap (λ (l : List Reply). (get_or l 1 (gets 0 0)).value) e in omega arith

pub broken3 : Broken3
unfolding kept without_others moves_of is_nothing no_move
broken3 = record {
  premise_broken = λ apart.
      apart 2048 1 (omega arith) (λ e. omega arith) (finally (λ slots. holds slots 0 2048) ran_c (holds-own true))
      (finally (λ slots. holds_for_writing slots 1 2048) ran_c writes-shared);
  same_calls = refl;
  moves_alike = demand3.without_moves shape start run_c run_d 0 refl refl;
  replies_with = ran-replies-to 0 ran_c;
  replies_without = ran-replies-to 0 ran_d;
  replies_differ = λ e. values-apart (sym (ran-replies-to 0 ran_c) ∙ e ∙ ran-replies-to 0 ran_d);
}
