-- The runs in which a page is handed over, call by call.
use Rattle.std.proofs.lemmas.Option.{none-some}
use Prim.Native.Nat.{ℕ}
use mathlib.Core.Path.{◌≡◌, refl, sym, ap, ◌∙◌}
use mathlib.Core.Bool.{Bool, true, false}
use mathlib.Core.List.{List, [], ◌∷◌, ◌++◌}
use native.Mathlib.Omega.{arith}
use native.Mathlib.Nat.{zero-add}
use lib.ListN.{length, get_or, set}
use lib.Count.{ones, ones_in}
use lib.Dec.{eqb}
use borrow.Author.Tests.{eqb-true}
use Rattle.board.specs.Answers.{answer, mark_of}
use Rattle.board.specs.Lists.{part, splice}
use Rattle.board.specs.Searches.{first}
use Rattle.board.specs.Shapes.{edition_holds, matrices_of, fits_shape}
use Rattle.board.specs.declared.Answer.{Answer}
use Rattle.board.proofs.Bools.{clash}
use Rattle.slots.specs.Slots.{slot_word}
use Rattle.pages.specs.Pages.{frame_word, lowest_from, lowest_frame, mapped_to, direct_home, home_by, home_of}
use Rattle.line_bytes.specs.Bytes.{number, digits, stored, line_of, with_line, zeros, zeroed_frame}
use Rattle.line_bytes.proofs.Bytes.{length-line}
use Rattle.lines.specs.Records.{word_of, line_at, put_line, new_line, changed_line}
use Rattle.lines.specs.declared.Line.{Line}
use Rattle.lines.specs.Holds.{holds_line, holds_at, holds_name, holder_of, keeps_line, keeper_of}
use Rattle.lines.specs.Victims.{is_empty, victim_by, victim_at, used_in}
use Rattle.stores.specs.Stores.{written_back, filled, noted, dropped, inserted, performed_at, current_by, current}
use Rattle.reach.specs.Reach.{way_by_home, way_by, way_of, unreached, may_write}
use Rattle.ranges.specs.Ranges.{in_range, named}
use Rattle.visits.specs.Visits.{treated, visited, sweep, visited_all}
use Rattle.machine.specs.Boards.{Board, Fresh, fits_board}
use Rattle.machine.specs.Refusals.{by_table, too_large, aligned_to, is_mapped}
use Rattle.machine.specs.Accesses.{performed_on, accessed_by, uses_by, accessed, user_table, user_access}
use Rattle.machine.specs.Calls as calls
use Rattle.machine.specs.Looks.{look}
use Rattle.store_laws.proofs.Zeroed.{length-zeroed}
use Rattle.promises.specs.Runs.{attach, map, move, Call, supervisor, supervise, step, after, Reply}
use Rattle.promises.specs.Demand3.{word_holds, word_writes_to, holds, holds_for_writing, at_some_moment, ever_holds, ever_writes, Apart, without_others, replies_to, moves_of, page_line, handed_by, handed_line, handed_lines, MovesAlike}
use Rattle.promises.specs.Sound.{Sound}
use Rattle.promises.proofs.Soundness.{Stands, sound-of, stands-fresh}
use Rattle.promises.proofs.Follows.{follows-after}
use Rattle.promises.proofs.Demand2.{stepped}
use Rattle.promises.proofs.Demand3.{unfit-after, demand3}
use Rattle.example_runs.specs.Examples.{shape, memory, start, load, save, gets, line_with}
use Rattle.example_runs.specs.Moves.{importing, handing, stores50, run_h, run_i, run_j, imports, attaches_later, run_k, run_l, HandOver, MovesMet, MovesNeeded, handed_now, MovesAlikeNow, LaterNeeded, Wild, wild_line, new_then_old, old_then_new, WildMoves}
use Rattle.example_runs.proofs.Examples.{length-memory, zeroed-here, written-here, untagged, slots0, empty, fresh_start}
use Rattle.example_runs.proofs.Chains.{Does, Ran, ended, ◌then◌, kept, ran-answers, ran-after, ran-replies-to, handed, ran-handed, Throughout, never, finally, some-slot, some-fresh, some-failing, some-outside}

-- ---- the boards of the runs

-- the slots: segment 2049 by the importer; and segment 2048 by the recorder, read-only
abbrev slots1 : List ℕ
slots1 = set slots0 513 (slot_word 2049 true)

abbrev slots2 : List ℕ
slots2 = set slots1 0 (slot_word 2048 false)

-- the frame words, by the page in frame 2
abbrev words_with : ℕ → List ℕ
words_with page = 0 ∷ 0 ∷ frame_word page true ∷ 0 ∷ []

-- by the slots, that page and the words of record 0: the first line of the cache has this value in it; record 1 holds nothing
abbrev filling : List ℕ → ℕ → ℕ → ℕ → ℕ → List ℕ → Board
filling slots page name word value m = untagged slots (words_with page) (name ∷ word ∷ 0 ∷ 0 ∷ []) (line_with value ++ line_with 0) m

-- the first line of the page: the importer's, and the recorder's after the move
abbrev importers : Line
importers = new_line 0x20040000 512 true

abbrev recorders : Line
recorders = new_line 0x20000000 512 true

-- the importer's line is held, changed
abbrev imported : List ℕ → ℕ → List ℕ → Board
imported slots value m = filling slots 0x200400 importers.name (word_of (changed_line importers)) value m

-- the page is moved: no line is held, and the value is in memory
abbrev moved : List ℕ → ℕ → List ℕ → Board
moved slots value m = filling slots 0x200000 0 0 value (with_line m 512 (line_with value))

-- the recorder's line is held
abbrev recorded : ℕ → List ℕ → Board
recorded value m = filling slots2 0x200000 recorders.name (word_of recorders) value m

-- ---- the calls of the runs

does-map : Does shape start (supervisor (map 0x200400 2 true)) (answer 0 0 0) (empty slots0 (words_with 0x200400) (zeroed_frame memory 2))
unfolding ones ones_in edition_holds matrices_of fits_shape lowest_from lowest_frame mapped_to zeros line_at holds_line holds_at visited sweep visited_all by_table is_mapped calls.map_page calls.mapped supervise step
does-map = record { does = rw length-memory }

module _ (m : List ℕ) (fits : length m ≡ 16384) where
  does-attach-importer : Does shape (empty slots0 (words_with 0x200400) m) (supervisor (attach 1 1 2049 true)) (answer 0 0 0) (empty slots1 (words_with 0x200400) m)
  unfolding ones ones_in edition_holds matrices_of fits_shape by_table calls.attach supervise step
  does-attach-importer = record { does = rw fits }

  does-attach-recorder : Does shape (empty slots1 (words_with 0x200400) m) (supervisor (attach 0 0 2048 false)) (answer 0 0 0) (empty slots2 (words_with 0x200400) m)
  unfolding ones ones_in edition_holds matrices_of fits_shape by_table calls.attach supervise step
  does-attach-recorder = record { does = rw fits }

  -- also after the move
  does-attach-later : (value : ℕ) → Does shape (filling slots1 0x200000 0 0 value m) (supervisor (attach 0 0 2048 false)) (answer 0 0 0)
      (filling slots2 0x200000 0 0 value m)
  unfolding ones ones_in edition_holds matrices_of fits_shape by_table calls.attach supervise step
  does-attach-later value = record { does = rw fits }

  -- the recorder loads the value from memory, and the importer's load is refused
  module _ (value : ℕ) where
    does-load : line_of m 512 ≡ line_with value → Does shape (filling slots2 0x200000 0 0 value m) (load 0 3) (answer 0 value 2) (recorded value m)
    unfolding ones ones_in part splice edition_holds matrices_of fits_shape lowest_from lowest_frame mapped_to home_by home_of number line_of with_line line_at put_line holds_line holds_at first holds_name holder_of is_empty victim_by victim_at used_in written_back filled noted inserted performed_at way_by_home way_by way_of unreached may_write by_table too_large aligned_to mark_of performed_on accessed_by uses_by accessed user_table user_access step
    does-load h = record { does = rw (fits, h, zero-add) }

    does-refuse : Does shape (recorded value m) (load 1 0x400003) (answer 8 0 0) (recorded value m)
    unfolding ones ones_in edition_holds matrices_of fits_shape lowest_from lowest_frame mapped_to direct_home home_by home_of line_at holds_line holds_at first holds_name holder_of way_by_home way_by way_of unreached by_table too_large aligned_to user_table user_access step
    does-refuse = record { does = rw fits }

-- slots in which the importer has its segment
module _ (slots : List ℕ) (sized : length slots ≡ 1024) (importer : get_or slots 513 0 ≡ slot_word 2049 true) (m : List ℕ) (fits : length m ≡ 16384) where
  -- a store of a value of one byte: the line is filled from memory, or it is held
  module _ (value : ℕ) (small : too_large (record { store = true; width = 4; value = value }) ≡ false) (bytes : digits 4 value ≡ 0 ∷ 0 ∷ 0 ∷ value ∷ []) where
    does-save : line_of m 512 ≡ line_with 0 → Does shape (empty slots (words_with 0x200400) m) (save 1 4 0x400000 value) (answer 0 0 2) (imported slots value m)
    unfolding ones ones_in part splice edition_holds matrices_of fits_shape lowest_from lowest_frame mapped_to home_by home_of stored with_line line_at put_line holds_line holds_at first holds_name holder_of is_empty victim_by victim_at used_in written_back filled noted inserted performed_at way_by_home way_by way_of unreached may_write by_table aligned_to mark_of performed_on accessed_by uses_by accessed user_table user_access step
    does-save h = record { does = rw (sized, importer, fits, h, small, bytes) }

    does-over : (old : ℕ) → Does shape (imported slots old m) (save 1 4 0x400000 value) (answer 0 0 1) (imported slots value m)
    unfolding ones ones_in splice edition_holds matrices_of fits_shape stored line_at put_line holds_line holds_at first holds_name holder_of used_in performed_at way_by way_of unreached may_write by_table aligned_to mark_of performed_on accessed_by uses_by accessed user_table user_access step
    does-over old = record { does = rw (sized, importer, fits, small, bytes) }

  module _ (value : ℕ) where
    -- the importer loads what it stored
    does-hit : Does shape (imported slots value m) (load 1 0x400003) (answer 0 value 1) (imported slots value m)
    unfolding ones ones_in edition_holds matrices_of fits_shape number line_at holds_line holds_at first holds_name holder_of used_in performed_at way_by way_of unreached may_write by_table too_large aligned_to mark_of performed_on accessed_by uses_by accessed user_table user_access step
    does-hit = record { does = rw (sized, importer, fits, zero-add) }

    does_move : Does shape (imported slots value m) (supervisor (move 0x200400 0x200000)) (answer 0 0 0) (moved slots value m)
    unfolding ones ones_in part edition_holds matrices_of fits_shape lowest_from lowest_frame mapped_to line_of line_at put_line holds_line holds_at written_back noted dropped named in_range treated visited sweep visited_all by_table is_mapped calls.found_frame calls.moved calls.move_page supervise step
    does_move = record { does = rw (sized, fits) }

    -- before the move the page's first line shows the value, and that is what the move hands over into a segment of S
    page-shows : page_line shape (imported slots value m) 0x200400 0 ≡ line_with value
    unfolding ones ones_in part edition_holds matrices_of fits_shape lowest_from lowest_frame mapped_to line_of line_at holds_line holds_at keeps_line first keeper_of current_by current by_table calls.found_frame look
    page-shows = rw (sized, fits)

    move-hands : (S : ℕ → Bool) → S 2048 ≡ true → S 2049 ≡ false → handed_line S 0 shape (imported slots value m) (move 0x200400 0x200000) ≡ line_with value
    unfolding step moves_of handed_by
    move-hands S held other = let e = does_move.does in rw (e, held, other) page-shows

-- ---- the runs

-- the zeros of the map
abbrev memory1 : List ℕ
memory1 = zeroed_frame memory 2

memory1-fits : length memory1 ≡ 16384
memory1-fits = length-zeroed memory 2 ∙ length-memory

memory1-first : line_of memory1 512 ≡ line_with 0
memory1-first = zeroed-here memory length-memory 512 (omega arith) 2 refl

-- and the value
abbrev memory2 : ℕ → List ℕ
memory2 value = with_line memory1 512 (line_with value)

memory2-fits : (value : ℕ) → length (memory2 value) ≡ 16384
memory2-fits value = length-line memory1 512 (line_with value) ∙ memory1-fits

memory2-first : (value : ℕ) → line_of (memory2 value) 512 ≡ line_with value
memory2-first value = written-here memory1 memory1-fits 512 (omega arith) (line_with value) refl

-- the opening
abbrev three : List Answer → List Answer
three l = answer 0 0 0 ∷ answer 0 0 0 ∷ answer 0 0 0 ∷ l

ran-importing : {ks : List Call} {l : List Answer} {c : Board} → Ran shape (empty slots2 (words_with 0x200400) memory1) ks l c → Ran shape start (importing ks) (three l) c
ran-importing r = does-map then does-attach-importer memory1 memory1-fits then does-attach-recorder memory1 memory1-fits then r

-- the stores, the importer's load and the move, where the importer has its segment
module _ (slots : List ℕ) (sized : length slots ≡ 1024) (importer : get_or slots 513 0 ≡ slot_word 2049 true) where
  saves-seven : Does shape (empty slots (words_with 0x200400) memory1) (save 1 4 0x400000 7) (answer 0 0 2) (imported slots 7 memory1)
  unfolding digits too_large
  saves-seven = does-save slots sized importer memory1 memory1-fits 7 refl refl memory1-first

  saves-fifty : Does shape (empty slots (words_with 0x200400) memory1) (save 1 4 0x400000 50) (answer 0 0 2) (imported slots 50 memory1)
  unfolding digits too_large
  saves-fifty = does-save slots sized importer memory1 memory1-fits 50 refl refl memory1-first

  saves-over : Does shape (imported slots 7 memory1) (save 1 4 0x400000 50) (answer 0 0 1) (imported slots 50 memory1)
  unfolding digits too_large
  saves-over = does-over slots sized importer memory1 memory1-fits 50 refl refl 7

  loads-fifty : Does shape (imported slots 50 memory1) (load 1 0x400003) (answer 0 50 1) (imported slots 50 memory1)
  loads-fifty = does-hit slots sized importer memory1 memory1-fits 50

  moves-page : (value : ℕ) → Does shape (imported slots value memory1) (supervisor (move 0x200400 0x200000)) (answer 0 0 0) (moved slots value memory1)
  moves-page value = does_move slots sized importer memory1 memory1-fits value

-- the page is handed over, and the recorder loads
ran-handing : (value : ℕ) {ks : List Call} {l : List Answer} {c : Board} → Ran shape (recorded value (memory2 value)) ks l c
    → Ran shape (imported slots2 value memory1) (handing (load 0 3 ∷ ks)) (answer 0 0 0 ∷ answer 0 value 2 ∷ l) c
ran-handing value r = moves-page slots2 refl refl value then does-load (memory2 value) (memory2-fits value) value (memory2-first value) then r

ran_h : Ran shape start run_h (three (answer 0 0 2 ∷ answer 0 0 0 ∷ answer 0 50 2 ∷ answer 8 0 0 ∷ [])) (recorded 50 (memory2 50))
ran_h = ran-importing (saves-fifty slots2 refl refl then ran-handing 50 (does-refuse (memory2 50) (memory2-fits 50) 50 then ended))

ran_i : Ran shape start run_i (three (answer 0 0 2 ∷ answer 0 0 1 ∷ answer 0 50 1 ∷ answer 0 0 0 ∷ answer 0 50 2 ∷ [])) (recorded 50 (memory2 50))
ran_i = ran-importing (saves-seven slots2 refl refl then saves-over slots2 refl refl then loads-fifty slots2 refl refl then ran-handing 50 ended)

ran_j : Ran shape start run_j (three (answer 0 0 2 ∷ answer 0 0 0 ∷ answer 0 7 2 ∷ [])) (recorded 7 (memory2 7))
ran_j = ran-importing (saves-seven slots2 refl refl then ran-handing 7 ended)

-- the recorder attaches its segment after the move
ran-imports : (value : ℕ) → Does shape (empty slots1 (words_with 0x200400) memory1) (save 1 4 0x400000 value) (answer 0 0 2) (imported slots1 value memory1)
    → {ks : List Call} {l : List Answer} {c : Board} → Ran shape (imported slots1 value memory1) ks l c
    → Ran shape start (imports value ks) (answer 0 0 0 ∷ answer 0 0 0 ∷ answer 0 0 2 ∷ l) c
ran-imports value saves r = does-map then does-attach-importer memory1 memory1-fits then saves then r

ran-later : (value : ℕ) → Does shape (empty slots1 (words_with 0x200400) memory1) (save 1 4 0x400000 value) (answer 0 0 2) (imported slots1 value memory1)
    → Ran shape start (attaches_later value)
    (answer 0 0 0 ∷ answer 0 0 0 ∷ answer 0 0 2 ∷ answer 0 0 0 ∷ answer 0 0 0 ∷ answer 0 value 2 ∷ []) (recorded value (memory2 value))
ran-later value saves =
    ran-imports value saves (moves-page slots1 refl refl value then does-attach-later (memory2 value) (memory2-fits value) value
    then does-load (memory2 value) (memory2-fits value) value (memory2-first value) then ended)

ran_k : Ran shape start run_k (answer 0 0 0 ∷ answer 0 0 0 ∷ answer 0 0 2 ∷ answer 0 0 0 ∷ answer 0 0 0 ∷ answer 0 50 2 ∷ []) (recorded 50 (memory2 50))
ran_k = ran-later 50 (saves-fifty slots1 refl refl)

ran_l : Ran shape start run_l (answer 0 0 0 ∷ answer 0 0 0 ∷ answer 0 0 2 ∷ answer 0 0 0 ∷ answer 0 0 0 ∷ answer 0 7 2 ∷ []) (recorded 7 (memory2 7))
ran_l = ran-later 7 (saves-seven slots1 refl refl)

-- ---- the slots of the runs

-- a run whose slots never pass what slots0, slots1 and slots2 don't pass
abbrev OnlyThese : List Call → Type 0
OnlyThese ks = (test : List ℕ → Bool) → test slots0 ≡ false → test slots1 ≡ false → test slots2 ≡ false → at_some_moment test shape start ks ≡ false

only-H : OnlyThese run_h
unfolding Throughout ran-importing ran-handing ran_h
only-H test none one both = never test ran_h (none, (none, (one, (both, (both, (both, (both, both)))))))

only-K : OnlyThese run_k
unfolding Throughout ran-imports ran-later ran_k
only-K test none one both = never test ran_k (none, (none, (one, (one, (one, (both, both))))))

-- the recorder holds nothing at first, and then no segment but 2048
module _ (segment : ℕ) where
  abbrev mine : List ℕ → Bool
  mine slots = holds slots 0 segment

  mine-none : mine slots0 ≡ false
  mine-none = some-fresh (word_holds segment) 1024 0 512 refl

  mine-one : mine slots1 ≡ false
  mine-one = some-outside (word_holds segment) slots0 0 513 (slot_word 2049 true) 512 (λ k b. omega arith) ∙ mine-none

  mine-both : eqb 2048 segment ≡ false → mine slots2 ≡ false
  mine-both other = some-failing (word_holds segment) slots1 0 0 (slot_word 2048 false) 512 other mine-one

-- the importer doesn't hold it
abbrev theirs : List ℕ → Bool
theirs slots = holds_for_writing slots 1 2048

theirs-none : theirs slots0 ≡ false
theirs-none = some-fresh (word_writes_to 2048) 1024 1 512 refl

theirs-one : theirs slots1 ≡ false
theirs-one = some-failing (word_writes_to 2048) slots0 1 513 (slot_word 2049 true) 512 refl theirs-none

theirs-both : theirs slots2 ≡ false
theirs-both = some-outside (word_writes_to 2048) slots1 1 0 (slot_word 2048 false) 512 (λ k b. omega arith) ∙ theirs-one

module _ (ks : List Call) (only : OnlyThese ks) where
  never-holds : (segment : ℕ) → eqb 2048 segment ≡ false → ever_holds shape start ks 0 segment ≡ false
  never-holds segment other = only (mine segment) (mine-none segment) (mine-one segment) (mine-both segment other)

  never-writes : ever_writes shape start ks 1 2048 ≡ false
  never-writes = only theirs theirs-none theirs-one theirs-both

  keeps-apart : Apart shape start ks 0
  keeps-apart segment other b d e f = go (eqb 2048 segment) refl
    where
      go : (t : Bool) → eqb 2048 segment ≡ t → ⊥
      go true t =
          let y : 2048 ≡ segment = eqb-true 2048 segment t in
          let z : other ≡ 1 = omega arith in
          clash (ever_writes shape start ks 1 2048) (rw (z, ← y) at f) never-writes
      go false t = clash (ever_holds shape start ks 0 segment) e (never-holds segment t)

apart-H : Apart shape start run_h 0
apart-H = keeps-apart run_h only-H

apart-K : Apart shape start run_k 0
apart-K = keeps-apart run_k only-K

held-at-end : holds slots2 0 2048 ≡ true
held-at-end = some-slot (word_holds 2048) slots2 0 0 512 (omega arith) refl

held-H : ever_holds shape start run_h 0 2048 ≡ true
held-H = finally (λ slots. holds slots 0 2048) ran_h held-at-end

held-K : ever_holds shape start run_k 0 2048 ≡ true
held-K = finally (λ slots. holds slots 0 2048) ran_k held-at-end

-- ---- what is handed over

-- in runs H and I the board at the move is the same
alike-HI : MovesAlike shape start run_h run_i 0
unfolding handed ran-importing ran-handing ran_h ran_i
alike-HI i b = ran-handed (ever_holds shape start run_h 0) i ran_h ∙ sym (ran-handed (ever_holds shape start run_h 0) i ran_i)

-- line 0 of each
abbrev hands : ℕ → List (List ℕ)
hands value = [] ∷ [] ∷ [] ∷ line_with value ∷ []

handed-H : handed_lines (ever_holds shape start run_h 0) 0 shape start run_h ≡ hands 50
unfolding moves_of handed_by handed ran-importing ran-handing ran_h
handed-H =
    let e = move-hands slots2 refl refl memory1 memory1-fits 50 (ever_holds shape start run_h 0) held-H (never-holds run_h only-H 2049 refl) in
    ran-handed (ever_holds shape start run_h 0) 0 ran_h ∙ rw e

handed-J : handed_lines (ever_holds shape start run_h 0) 0 shape start run_j ≡ hands 7
unfolding moves_of handed_by handed ran-importing ran-handing ran_j
handed-J =
    let e = move-hands slots2 refl refl memory1 memory1-fits 7 (ever_holds shape start run_h 0) held-H (never-holds run_h only-H 2049 refl) in
    ran-handed (ever_holds shape start run_h 0) 0 ran_j ∙ rw e

-- in runs K and L the move comes before the recorder's attach
abbrev hands_first : ℕ → List (List ℕ)
hands_first value = [] ∷ [] ∷ line_with value ∷ [] ∷ []

module _ (value : ℕ) (saves : Does shape (empty slots1 (words_with 0x200400) memory1) (save 1 4 0x400000 value) (answer 0 0 2) (imported slots1 value memory1)) where
  handed-later : handed_lines (ever_holds shape start run_k 0) 0 shape start (attaches_later value) ≡ hands_first value
  unfolding moves_of handed_by handed ran-imports ran-later
  handed-later =
      let e = move-hands slots1 refl refl memory1 memory1-fits value (ever_holds shape start run_k 0) held-K (never-holds run_k only-K 2049 refl) in
      ran-handed (ever_holds shape start run_k 0) 0 (ran-later value saves) ∙ rw e

  -- and by what it holds at the move nothing is handed over
  now-none : (i : ℕ) → handed_now 0 i shape start (attaches_later value) ≡ [] ∷ [] ∷ [] ∷ [] ∷ []
  unfolding step moves_of handed_by handed_now
  now-none i =
      let e = does-map.does in
      let f = (does-attach-importer memory1 memory1-fits).does in
      let g = saves.does in
      let h = (moves-page slots1 refl refl value).does in
      rw (e, f, g, h, mine-one 2048)

-- ---- the examples

after-saved : after shape start (stores50 []) ≡ imported slots2 50 memory1
after-saved = ran-after (ran-importing (saves-fifty slots2 refl refl then ended))

after-moved : after shape start (stores50 (handing [])) ≡ moved slots2 50 memory1
after-moved = ran-after (ran-importing (saves-fifty slots2 refl refl then moves-page slots2 refl refl 50 then ended))

after-imports : after shape start (imports 50 []) ≡ imported slots1 50 memory1
after-imports = ran-after (ran-imports 50 (saves-fifty slots1 refl refl) ended)

pub hand-over : HandOver
unfolding line_at lowest_from lowest_frame mapped_to
hand-over = record {
  answers_H = ran-answers ran_h;
  record_before = rw after-saved;
  memory_before = rw after-saved memory1-first;
  record_after = rw after-moved;
  memory_after = rw after-moved (memory2-first 50);
  new_mapped = rw after-moved;
  old_unmapped = rw after-moved;
}

pub moves-met : MovesMet
unfolding kept without_others
moves-met = record {
  same_calls = refl;
  premise_met = apart-H;
  moves_alike = alike-HI;
  held = held-H;
  not_held = never-holds run_h only-H 2049 refl;
  handed = handed-H;
  promised = demand3.apart shape start fresh_start run_h run_i 0 refl apart-H alike-HI;
  replies_H = ran-replies-to 0 ran_h;
  replies_I = ran-replies-to 0 ran_i;
}

lines-apart : hands 50 ≡ hands 7 → ⊥
lines-apart e = let z : ◌≡◌ {A = ℕ} 50 7 = ap (λ (l : List (List ℕ)). get_or (get_or l 3 []) 3 0) e in omega arith

values-apart : ◌≡◌ {A = List Reply} (gets 0 50 ∷ []) (gets 0 7 ∷ []) → ⊥
values-apart e = let z : ◌≡◌ {A = ℕ} 50 7 = ap (λ (l : List Reply). (get_or l 0 (gets 0 0)).value) e in omega arith

pub moves-needed : MovesNeeded
unfolding kept without_others
moves-needed = record {
  fresh_start = fresh_start;
  same_calls = refl;
  premise_met = apart-H;
  moves_differ = λ alike. lines-apart (sym handed-H ∙ alike 0 (omega arith) ∙ handed-J);
  replies_H = ran-replies-to 0 ran_h;
  replies_J = ran-replies-to 0 ran_j;
  replies_differ = replies-HJ;
  fails = λ promise. replies-HJ (promise shape start fresh_start run_h run_j 0 refl apart-H).same_replies;
}
  where
    replies-HJ : replies_to 0 shape start run_h ≡ replies_to 0 shape start run_j → ⊥
    replies-HJ e = values-apart (sym (ran-replies-to 0 ran_h) ∙ e ∙ ran-replies-to 0 ran_j)

lines-apart-first : hands_first 50 ≡ hands_first 7 → ⊥
lines-apart-first e = let z : ◌≡◌ {A = ℕ} 50 7 = ap (λ (l : List (List ℕ)). get_or (get_or l 2 []) 3 0) e in omega arith

pub later-needed : LaterNeeded
unfolding kept without_others
later-needed = record {
  fresh_start = fresh_start;
  same_calls = refl;
  premise_met = apart-K;
  none_held = λ segment. rw after-imports (mine-one segment);
  held_later = held-K;
  other_met = now-KL;
  moves_differ = λ alike.
      lines-apart-first (sym (handed-later 50 (saves-fifty slots1 refl refl)) ∙ alike 0 (omega arith) ∙ handed-later 7 (saves-seven slots1 refl refl));
  replies_K = ran-replies-to 0 ran_k;
  replies_L = ran-replies-to 0 ran_l;
  replies_differ = replies-KL;
  fails = λ promise. replies-KL (promise shape start fresh_start run_k run_l 0 refl apart-K now-KL).same_replies;
}
  where
    now-KL : MovesAlikeNow shape start run_k run_l 0
    now-KL i b = now-none 50 (saves-fifty slots1 refl refl) i ∙ sym (now-none 7 (saves-seven slots1 refl refl) i)

    replies-KL : replies_to 0 shape start run_k ≡ replies_to 0 shape start run_l → ⊥
    replies-KL e = values-apart (sym (ran-replies-to 0 ran_k) ∙ e ∙ ran-replies-to 0 ran_l)

-- ---- boards that no calls reach

-- a board that is not sound and has a valid record: one that fits stays sound, and one that doesn't fit stays as it is
is-wild : (c : Board) (i : ℕ) → (line_at c.store.records i).valid ≡ true → (Sound shape c → ⊥) → Wild c
is-wild c i valid unsound = record { unsound = unsound; unreached = λ b x ks e. go b x ks e (fits_board shape b) refl }
  where
    go : (b : Board) → Fresh b → (ks : List Call) → after shape b ks ≡ c → (t : Bool) → fits_board shape b ≡ t → ⊥
    go b x ks e true t =
        let r = follows-after (Stands shape) shape (stepped shape) b b.store.memory ks (stands-fresh shape b x t) in
        unsound (rw e at (sound-of shape (after shape b ks) r.memory r.related))
    go b x ks e false t =
        let z : b ≡ c = sym (unfit-after shape b t ks) ∙ e in
        clash _ valid (rw z at (x.no_line i))

-- the move on each, by the words of record 1 after it: record 0 is empty
abbrev cleared : ℕ → ℕ → List ℕ → Board
cleared name word m = untagged slots0 (words_with 0x200000) (0 ∷ 0 ∷ name ∷ word ∷ []) (line_with 50 ++ line_with 7) m

-- the line beside
abbrev beside : Line
beside = changed_line (new_line 0x20080001 769 true)

-- memory after both lines are written back, the higher place's last
abbrev written : List ℕ
written = with_line (with_line memory 513 (line_with 50)) 513 (line_with 7)

written-line : line_of written 513 ≡ line_with 7
written-line = written-here (with_line memory 513 (line_with 50)) (length-line memory 513 (line_with 50) ∙ length-memory) 513 (omega arith) (line_with 7) refl

does-line : Does shape wild_line (supervisor (move 0x200400 0x200000)) (answer 0 0 0) (cleared beside.name (word_of beside) (with_line memory 768 (line_with 50)))
unfolding ones ones_in part edition_holds matrices_of fits_shape lowest_from lowest_frame mapped_to line_of line_at put_line holds_line holds_at written_back noted dropped named in_range treated visited sweep visited_all by_table is_mapped calls.found_frame calls.moved calls.move_page supervise step
does-line = record { does = rw length-memory }

does-new-then-old : Does shape new_then_old (supervisor (move 0x200400 0x200000)) (answer 0 0 0) (cleared 0 0 written)
unfolding ones ones_in part edition_holds matrices_of fits_shape lowest_from lowest_frame mapped_to line_of line_at put_line holds_line holds_at written_back noted dropped named in_range treated visited sweep visited_all by_table is_mapped calls.found_frame calls.moved calls.move_page supervise step
does-new-then-old = record { does = rw length-memory }

does-old-then-new : Does shape old_then_new (supervisor (move 0x200400 0x200000)) (answer 0 0 0) (cleared 0 0 written)
unfolding ones ones_in part edition_holds matrices_of fits_shape lowest_from lowest_frame mapped_to line_of line_at put_line holds_line holds_at written_back noted dropped named in_range treated visited sweep visited_all by_table is_mapped calls.found_frame calls.moved calls.move_page supervise step
does-old-then-new = record { does = rw length-memory }

pub wild-moves : WildMoves
unfolding lowest_from lowest_frame mapped_to direct_home home_by home_of line_at holds_line holds_at
wild-moves = record {
  wild_line_lem = is-wild wild_line 0 refl (λ x. none-some _ (x.lines_mapped 0 refl));
  wild_new_then_old = is-wild new_then_old 0 refl (λ x. none-some _ (x.lines_mapped 0 refl));
  wild_old_then_new = is-wild old_then_new 0 refl (λ x. none-some _ (x.lines_mapped 1 refl));
  answers_line = ran-answers line;
  answers_new_then_old = ran-answers first-new;
  answers_old_then_new = ran-answers first-old;
  line_memory = rw (ran-after line) (written-here memory length-memory 768 (omega arith) (line_with 50) refl);
  line_record = rw (ran-after line);
  beside_stays = rw (ran-after line);
  new_then_old_lem = rw (ran-after first-new) written-line;
  old_then_new_lem = rw (ran-after first-old) written-line;
  records_new_then_old = rw (ran-after first-new);
  records_old_then_new = rw (ran-after first-old);
}
  where
    line : Ran shape wild_line (handing []) (answer 0 0 0 ∷ []) (cleared beside.name (word_of beside) (with_line memory 768 (line_with 50)))
    line = does-line then ended

    first-new : Ran shape new_then_old (handing []) (answer 0 0 0 ∷ []) (cleared 0 0 written)
    first-new = does-new-then-old then ended

    first-old : Ran shape old_then_new (handing []) (answer 0 0 0 ∷ []) (cleared 0 0 written)
    first-old = does-old-then-new then ended
