-- The runs in which the wrong machines break demand 2, call by call, beside the board's.
use Prim.Native.Nat.{ℕ, ◌+◌, ◌<◌}
use mathlib.Core.Path.{◌≡◌, refl, sym, ap, ◌∙◌}
use mathlib.Core.Bool.{true, false}
use mathlib.Core.List.{List, [], ◌∷◌, ◌++◌}
use native.Mathlib.Nat.{zero-add}
use native.Mathlib.Omega.{arith}
use lib.Count.{ones, ones_in}
use lib.ListN.{length, get_or, set, get_or-replicate}
use Rattle.address.specs.Addresses.{global, region_of}
use Rattle.address.specs.declared.Effective.{Effective}
use Rattle.board.specs.Answers.{answer, mark_of}
use Rattle.board.specs.Lists.{part, splice}
use Rattle.board.specs.Searches.{first}
use Rattle.board.specs.Shapes.{edition_holds, matrices_of, fits_shape}
use Rattle.board.specs.declared.Shape.{Shape}
use Rattle.board.specs.declared.Answer.{Answer}
use Rattle.slots.specs.Slots.{slot_word}
use Rattle.pages.specs.Pages.{frame_word, names_page, lowest_from, lowest_frame, mapped_to, free_frame, direct_home, home_by, home_of}
use Rattle.line_bytes.specs.Bytes.{number, digits, stored, line_of, with_line, zeros, zeroed_frame}
use Rattle.line_bytes.proofs.Bytes.{length-line}
use Rattle.lines.specs.Records.{word_of, line_at, put_line, new_line, changed_line, permitted_line}
use Rattle.lines.specs.declared.Line.{Line}
use Rattle.lines.specs.Holds.{holds_line, holds_at, holds_name, holder_of}
use Rattle.lines.specs.Victims.{is_empty, victim_by, victim_at, used_in}
use Rattle.stores.specs.Stores.{store, written_back, filled, noted, dropped, inserted, performed_at}
use Rattle.stores.specs.declared.Access.{Access}
use Rattle.reach.specs.Reach.{way_by_home, way_by, way_of, unreached, may_write}
use Rattle.ranges.specs.Ranges.{in_range, named}
use Rattle.visits.specs.Visits.{treated, visited, sweep, visited_all}
use Rattle.machine.specs.Boards.{Board, outcome, with_store}
use Rattle.machine.specs.Refusals.{by_table, too_large, aligned_to, is_ordinary, is_cached, is_mapped, outside}
use Rattle.machine.specs.Accesses.{performed_on, accessed_by, uses_by, accessed, user_table, user_access, supervisor_table, supervisor_done, supervisor_access}
use Rattle.machine.specs.Calls as calls
use Rattle.store_laws.proofs.Bytes.{line-ext}
use Rattle.store_laws.proofs.Zeroed.{length-zeroed}
use Rattle.promises.specs.Runs.{gained, Supervisor, access, attach, detach, map, unmap, protect, move, flush_all, tag, load_and_map, drop_tag, Call, user, supervisor, supervise, step, Reply, reply, replies, plain_replies, plain_of}
use Rattle.promises.proofs.Demand2.{demand2}
use Rattle.example_runs.specs.Examples.{shape, memory, start, load, save, gets, line_with}
use Rattle.example_runs.specs.Wrong.{Parts, supervise_by, step_by, replies_by, right_parts, RightMeets, Breaks, opening, opened, unmap_keeps_lines, UnmapBreaks, protect_keeps_lines, ProtectBreaks, move_keeps_lines, MoveBreaks, no_write_back, NoWriteBackBreaks, move_loses_lines, MoveLosesBreaks, move_copies_zeros, MoveZerosBreaks, part_compared, PartComparedBreaks, map_keeps_lines, MapBreaks}
use Rattle.example_runs.proofs.Examples.{length-memory, zeroed-here, written-here, untagged, slots0, slots1, words1, empty, memory1, memory2, ours, does-map-first, memory1-fits, memory2-fits, memory2-first, memory3, memory3-fits, memory3-first, memory3-other, fresh_start}
use Rattle.example_runs.proofs.Chains.{Does}

-- ---- the machine with the board's own calls

right-supervises : (s : Shape) (b : Board) (c : Supervisor) → supervise_by right_parts s b c ≡ supervise s b c
unfolding supervise_by supervise
right-supervises s b (access a g) = refl
right-supervises s b (attach process slot segment write) = refl
right-supervises s b (detach process slot) = refl
right-supervises s b (map page frame write) = refl
right-supervises s b (unmap page) = refl
right-supervises s b (protect page write) = refl
right-supervises s b (move page new) = refl
right-supervises s b flush_all = refl
right-supervises s b (tag name) = refl
right-supervises s b (load_and_map line) = refl
right-supervises s b drop_tag = refl

right-steps : (s : Shape) (b : Board) (k : Call) → step_by right_parts s b k ≡ step s b k
unfolding step_by step
right-steps s b (user process a e) = refl
right-steps s b (supervisor c) = right-supervises s b c

right-replies : (s : Shape) (b : Board) (ks : List Call) → replies_by right_parts s b ks ≡ replies s b ks
unfolding replies_by gained
right-replies s b [] = refl
right-replies s b (k ∷ ks) = rw (right-steps s b k, right-replies s (step s b k).after ks)

pub right-meets : RightMeets
right-meets s b fresh ks = right-replies s b ks ∙ (demand2 s b fresh ks).same_replies

-- ---- calls, one after the other: as `Does` and `Ran`, of a machine with these calls

record DoesBy (p : Parts) (b : Board) (k : Call) (a : Answer) (c : Board) : Type 0 where
  does : step_by p shape b k ≡ outcome a c

infixr 5 ◌next◌
data RanBy (p : Parts) : Board → List Call → List Reply → Type 0 where
  ended : {b : Board} → RanBy p b [] []
  ◌next◌ : {b c : Board} {k : Call} {ks : List Call} {a : Answer} {l : List Reply} → DoesBy p b k a c → RanBy p c ks l → RanBy p b (k ∷ ks) (reply a ∷ l)

ran-replies-by : {p : Parts} {b : Board} {ks : List Call} {l : List Reply} → RanBy p b ks l → replies_by p shape b ks ≡ l
unfolding replies_by
ran-replies-by ended = refl
ran-replies-by (x next r) = let e = x.does in rw (e, ran-replies-by r)

-- a call that is the board's
as-board : {p : Parts} {b c : Board} {k : Call} {a : Answer} → step_by p shape b k ≡ step shape b k → Does shape b k a c → DoesBy p b k a c
as-board e x = record { does = e ∙ x.does }

right-does : {b c : Board} {k : Call} {a : Answer} → Does shape b k a c → DoesBy right_parts b k a c
right-does {b} {c} {k} x = as-board (right-steps shape b k) x

-- two lists of replies whose values differ somewhere
values-apart : {l m : List Reply} (i : ℕ) → ((get_or l i (gets 0 0)).value ≡ (get_or m i (gets 0 0)).value → ⊥) → l ≡ m → ⊥
values-apart i differ e = differ (ap (λ (x : List Reply). (get_or x i (gets 0 0)).value) e)

numbers_apart : {l m : List Reply} (i : ℕ) → ((get_or l i (gets 0 0)).number ≡ (get_or m i (gets 0 0)).number → ⊥) → l ≡ m → ⊥
numbers_apart i differ e = differ (ap (λ (x : List Reply). (get_or x i (gets 0 0)).number) e)

-- a run in which the two part
breaks : {p : Parts} {ks : List Call} {wrong right : List Reply} → RanBy p start ks wrong → RanBy right_parts start ks right
    → (wrong ≡ right → ⊥) → Breaks p ks wrong right
breaks {p} {ks} {wrong} {right} w r differ = record {
  wrong_replies = ran-replies-by w;
  board_replies = by-board;
  plain_replies_lem = by-plain;
  broken = λ gives. differ (sym (ran-replies-by w) ∙ gives shape start fresh_start ks ∙ by-plain);
}
  where
    by-board : replies shape start ks ≡ right
    by-board = sym (right-replies shape start ks) ∙ ran-replies-by r

    by-plain : plain_replies shape (plain_of start memory) ks ≡ right
    by-plain = sym (demand2 shape start fresh_start ks).same_replies ∙ by-board

-- ---- the opening

-- segment 3072 by process 0 too
abbrev slots2 : List ℕ
slots2 = set slots1 1 (slot_word 3072 true)

-- the word of frame 1, and page 0x300000 mapped to frame 2
abbrev words_with : ℕ → List ℕ
words_with word = 0 ∷ word ∷ frame_word 0x300000 true ∷ 0 ∷ []

abbrev words2 : List ℕ
words2 = words_with (frame_word 0x200000 true)

-- by the word of frame 1: record 0 holds a line with this value in it; record 1 none
abbrev holding : ℕ → Line → ℕ → List ℕ → Board
holding word l value m = untagged slots2 (words_with word) (l.name ∷ word_of l ∷ 0 ∷ 0 ∷ []) (line_with value ++ line_with 0) m

-- after the opening: the 50 is held, changed
abbrev stored50 : Board
stored50 = holding (frame_word 0x200000 true) (changed_line ours) 50 memory2

module _ (m : List ℕ) (fits : length m ≡ 16384) where
  does-map-second : Does shape (empty slots0 words1 m) (supervisor (map 0x300000 2 true)) (answer 0 0 0) (empty slots0 words2 (zeroed_frame m 2))
  unfolding ones ones_in edition_holds matrices_of fits_shape lowest_from lowest_frame mapped_to line_at holds_line holds_at visited sweep visited_all by_table is_mapped calls.map_page calls.mapped supervise step
  does-map-second = record { does = rw fits }

  does-attach-first : Does shape (empty slots0 words2 m) (supervisor (attach 0 0 2048 true)) (answer 0 0 0) (empty slots1 words2 m)
  unfolding ones ones_in edition_holds matrices_of fits_shape by_table calls.attach supervise step
  does-attach-first = record { does = rw fits }

  does-attach-second : Does shape (empty slots1 words2 m) (supervisor (attach 0 1 3072 true)) (answer 0 0 0) (empty slots2 words2 m)
  unfolding ones ones_in edition_holds matrices_of fits_shape by_table calls.attach supervise step
  does-attach-second = record { does = rw fits }

  does-save : line_of m 256 ≡ line_with 0
      → Does shape (empty slots2 words2 m) (save 0 4 0 50) (answer 0 0 2) (holding (frame_word 0x200000 true) (changed_line ours) 50 m)
  unfolding ones ones_in part splice edition_holds matrices_of fits_shape lowest_from lowest_frame mapped_to home_by home_of digits stored with_line line_at put_line holds_line holds_at first holds_name holder_of is_empty victim_by victim_at used_in written_back filled noted inserted performed_at way_by_home way_by way_of unreached may_write by_table too_large aligned_to mark_of performed_on accessed_by uses_by accessed user_table user_access step
  does-save h = record { does = rw (fits, h) }

-- the opening, of a machine whose map and attach are the board's and that does the store
ran-opening : {p : Parts} {ks : List Call} {l : List Reply} → p.maps ≡ calls.map_page → DoesBy p (empty slots2 words2 memory2) (save 0 4 0 50) (answer 0 0 2) stored50
    → RanBy p stored50 ks l → RanBy p start (opening ks) (opened l)
unfolding supervise_by step_by supervise step
ran-opening maps saves r =
    as-board (rw maps) does-map-first next as-board (rw maps) (does-map-second memory1 memory1-fits)
    next as-board refl (does-attach-first memory2 memory2-fits) next as-board refl (does-attach-second memory2 memory2-fits) next saves next r

-- the board's own
right-opening : {ks : List Call} {l : List Reply} → RanBy right_parts stored50 ks l → RanBy right_parts start (opening ks) (opened l)
right-opening r = ran-opening refl (right-does (does-save memory2 memory2-fits memory2-first)) r

-- ---- unmap without dropping lines

-- by the word of frame 1: no line is held; and the 50 is in memory
abbrev leftover : ℕ → List ℕ → Board
leftover word m = untagged slots2 (words_with word) (0 ∷ 0 ∷ 0 ∷ 0 ∷ []) (line_with 50 ++ line_with 0) m

abbrev retired : ℕ → List ℕ → Board
retired word m = leftover word (with_line m 256 (line_with 50))

module _ (m : List ℕ) (fits : length m ≡ 16384) where
  does-unmap : Does shape (holding (frame_word 0x200000 true) (changed_line ours) 50 m) (supervisor (unmap 0x200000)) (answer 0 0 0) (retired 0 m)
  unfolding ones ones_in part edition_holds matrices_of fits_shape lowest_from lowest_frame mapped_to line_of line_at put_line holds_line holds_at written_back noted dropped named in_range treated visited sweep visited_all by_table is_mapped calls.found_frame calls.unmapped calls.unmap supervise step
  does-unmap = record { does = rw fits }

  -- refused where the word doesn't name the page
  does-refuse-unmapped : (word : ℕ) → names_page word 0x200000 ≡ false → Does shape (retired word m) (load 0 3) (answer 8 0 0) (retired word m)
  unfolding ones ones_in edition_holds matrices_of fits_shape lowest_from lowest_frame mapped_to direct_home home_by home_of line_at holds_line holds_at first holds_name holder_of way_by_home way_by way_of unreached by_table too_large aligned_to user_table user_access step
  does-refuse-unmapped word h = record { does = rw (length-line m 256 (line_with 50), fits, h) }

  -- a held line is loaded from, whatever the frame word says
  does-hit : (word : ℕ) → Does shape (holding word (changed_line ours) 50 m) (load 0 3) (answer 0 50 1) (holding word (changed_line ours) 50 m)
  unfolding ones ones_in edition_holds matrices_of fits_shape number line_at holds_line holds_at first holds_name holder_of used_in performed_at way_by way_of unreached may_write by_table too_large aligned_to mark_of performed_on accessed_by uses_by accessed user_table user_access step
  does-hit word = record { does = rw fits }

  does-unmap-wrong : DoesBy unmap_keeps_lines (holding (frame_word 0x200000 true) (changed_line ours) 50 m) (supervisor (unmap 0x200000)) (answer 0 0 0)
      (holding 0 (changed_line ours) 50 m)
  unfolding supervise_by step_by supervise step
  does-unmap-wrong = let e = does-unmap.does in record { does = rw e }

pub unmap-breaks : UnmapBreaks
unfolding step_by step
unmap-breaks =
    breaks
    (ran-opening refl (as-board refl (does-save memory2 memory2-fits memory2-first))
    (does-unmap-wrong memory2 memory2-fits next as-board refl (does-hit memory2 memory2-fits 0) next ended))
    (right-opening
    (right-does (does-unmap memory2 memory2-fits) next right-does (does-refuse-unmapped memory2 memory2-fits 0 refl) next ended))
    (values-apart 6 (omega arith))

-- ---- protect that forgets the lines

-- the line after the board's protect
abbrev read_only : Line
read_only = permitted_line ours false

module _ (m : List ℕ) (fits : length m ≡ 16384) where
  does-protect : Does shape (holding (frame_word 0x200000 true) (changed_line ours) 50 m) (supervisor (protect 0x200000 false)) (answer 0 0 0)
      (holding (frame_word 0x200000 false) (changed_line read_only) 50 m)
  unfolding ones ones_in edition_holds matrices_of fits_shape lowest_from lowest_frame mapped_to line_at put_line holds_line holds_at noted named in_range treated visited sweep visited_all by_table is_mapped calls.found_frame calls.protected calls.protect supervise step
  does-protect = record { does = rw fits }

  does-refuse-read-only : Does shape (holding (frame_word 0x200000 false) (changed_line read_only) 50 m) (save 0 1 3 7) (answer 9 0 0)
      (holding (frame_word 0x200000 false) (changed_line read_only) 50 m)
  unfolding ones ones_in edition_holds matrices_of fits_shape line_at holds_line holds_at first holds_name holder_of way_by way_of unreached may_write by_table too_large aligned_to user_table user_access step
  does-refuse-read-only = record { does = rw fits }

  -- a held line with write permission is stored to, whatever the frame word says
  does-over : (word : ℕ) → Does shape (holding word (changed_line ours) 50 m) (save 0 1 3 7) (answer 0 0 1) (holding word (changed_line ours) 7 m)
  unfolding ones ones_in splice edition_holds matrices_of fits_shape digits stored line_at put_line holds_line holds_at first holds_name holder_of used_in performed_at way_by way_of unreached may_write by_table too_large aligned_to mark_of performed_on accessed_by uses_by accessed user_table user_access step
  does-over word = record { does = rw fits }

  does-protect-wrong : DoesBy protect_keeps_lines (holding (frame_word 0x200000 true) (changed_line ours) 50 m) (supervisor (protect 0x200000 false)) (answer 0 0 0)
      (holding (frame_word 0x200000 false) (changed_line ours) 50 m)
  unfolding supervise_by step_by supervise step
  does-protect-wrong = let e = does-protect.does in record { does = rw e }

pub protect-breaks : ProtectBreaks
unfolding step_by step
protect-breaks =
    breaks
    (ran-opening refl (as-board refl (does-save memory2 memory2-fits memory2-first))
    (does-protect-wrong memory2 memory2-fits next as-board refl (does-over memory2 memory2-fits (frame_word 0x200000 false)) next ended))
    (right-opening
    (right-does (does-protect memory2 memory2-fits) next right-does (does-refuse-read-only memory2 memory2-fits) next ended))
    (numbers_apart 6 (omega arith))

-- ---- move that forgets the lines

module _ (m : List ℕ) (fits : length m ≡ 16384) where
  does_move : Does shape (holding (frame_word 0x200000 true) (changed_line ours) 50 m) (supervisor (move 0x200000 0x300001)) (answer 0 0 0)
      (retired (frame_word 0x300001 true) m)
  unfolding ones ones_in part edition_holds matrices_of fits_shape lowest_from lowest_frame mapped_to line_of line_at put_line holds_line holds_at written_back noted dropped named in_range treated visited sweep visited_all by_table is_mapped calls.found_frame calls.moved calls.move_page supervise step
  does_move = record { does = rw fits }

  does-move-wrong : DoesBy move_keeps_lines (holding (frame_word 0x200000 true) (changed_line ours) 50 m) (supervisor (move 0x200000 0x300001)) (answer 0 0 0)
      (holding (frame_word 0x300001 true) (changed_line ours) 50 m)
  unfolding supervise_by step_by supervise step
  does-move-wrong = let e = does_move.does in record { does = rw e }

pub move-breaks : MoveBreaks
unfolding step_by step
move-breaks =
    breaks
    (ran-opening refl (as-board refl (does-save memory2 memory2-fits memory2-first))
    (does-move-wrong memory2 memory2-fits next as-board refl (does-hit memory2 memory2-fits (frame_word 0x300001 true)) next ended))
    (right-opening
    (right-does (does_move memory2 memory2-fits) next right-does (does-refuse-unmapped memory2 memory2-fits (frame_word 0x300001 true) refl) next ended))
    (values-apart 6 (omega arith))

-- ---- no write-back on eviction

-- the line of the other page at place 0
abbrev theirs : Line
theirs = new_line 0x30000000 512 true

module _ (m : List ℕ) (fits : length m ≡ 16384) where
  -- the load from the other page writes the 50 back
  does-push : line_of (with_line m 256 (line_with 50)) 512 ≡ line_with 0
      → Does shape (holding (frame_word 0x200000 true) (changed_line ours) 50 m) (load 0 0x400003) (answer 0 0 3)
      (holding (frame_word 0x200000 true) theirs 0 (with_line m 256 (line_with 50)))
  unfolding ones ones_in part splice edition_holds matrices_of fits_shape lowest_from lowest_frame mapped_to home_by home_of number line_of with_line line_at put_line holds_line holds_at first holds_name holder_of is_empty victim_by victim_at used_in written_back filled noted inserted performed_at way_by_home way_by way_of unreached may_write by_table too_large aligned_to mark_of performed_on accessed_by uses_by accessed user_table user_access step
  does-push h = record { does = rw (fits, h) }

  -- the load from the first page then finds what is in memory
  does-reload : (value : ℕ) → line_of m 256 ≡ line_with value
      → Does shape (holding (frame_word 0x200000 true) theirs 0 m) (load 0 3) (answer 0 value 2) (holding (frame_word 0x200000 true) ours value m)
  unfolding ones ones_in part splice edition_holds matrices_of fits_shape lowest_from lowest_frame mapped_to home_by home_of number line_of with_line line_at put_line holds_line holds_at first holds_name holder_of is_empty victim_by victim_at used_in written_back filled noted inserted performed_at way_by_home way_by way_of unreached may_write by_table too_large aligned_to mark_of performed_on accessed_by uses_by accessed user_table user_access step
  does-reload value h = record { does = rw (fits, h, zero-add) }

-- what a user access gives, with memory as it was
memory_kept : {b c : Board} {process : ℕ} {u : Access} {e : Effective} {a : Answer}
    → Does shape b (user process u e) a c → DoesBy no_write_back b (user process u e) a (with_store c (store c.store.records c.store.cache b.store.memory))
unfolding step_by step
memory_kept x = let e = x.does in record { does = rw e }

pub no-write-back-breaks : NoWriteBackBreaks
no-write-back-breaks =
    breaks
    (ran-opening refl (memory_kept (does-save memory2 memory2-fits memory2-first))
    (memory_kept (does-push memory2 memory2-fits memory3-other) next memory_kept (does-reload memory2 memory2-fits 0 memory2-first) next ended))
    (right-opening
    (right-does (does-push memory2 memory2-fits memory3-other) next right-does (does-reload memory3 memory3-fits 50 memory3-first) next ended))
    (values-apart 6 (omega arith))

-- ---- move that drops the lines without writing them back

-- the page's first line under its new name
abbrev renamed : Line
renamed = new_line 0x30000100 256 true

module _ (m : List ℕ) (fits : length m ≡ 16384) where
  does-move-losing : DoesBy move_loses_lines (holding (frame_word 0x200000 true) (changed_line ours) 50 m) (supervisor (move 0x200000 0x300001)) (answer 0 0 0)
      (leftover (frame_word 0x300001 true) m)
  unfolding supervise_by step_by supervise step
  does-move-losing = let e = (does_move m fits).does in record { does = rw e }

  -- the load at the new page finds what is in memory
  does-load-renamed : (value : ℕ) → line_of m 256 ≡ line_with value
      → Does shape (leftover (frame_word 0x300001 true) m) (load 0 0x401003) (answer 0 value 2) (holding (frame_word 0x300001 true) renamed value m)
  unfolding ones ones_in part splice edition_holds matrices_of fits_shape lowest_from lowest_frame mapped_to home_by home_of number line_of with_line line_at put_line holds_line holds_at first holds_name holder_of is_empty victim_by victim_at used_in written_back filled noted inserted performed_at way_by_home way_by way_of unreached may_write by_table too_large aligned_to mark_of performed_on accessed_by uses_by accessed user_table user_access step
  does-load-renamed value h = record { does = rw (fits, h, zero-add) }

pub move-loses-breaks : MoveLosesBreaks
unfolding step_by step
move-loses-breaks =
    breaks
    (ran-opening refl (as-board refl (does-save memory2 memory2-fits memory2-first))
    (does-move-losing memory2 memory2-fits next as-board refl (does-load-renamed memory2 memory2-fits 0 memory2-first) next ended))
    (right-opening
    (right-does (does_move memory2 memory2-fits) next right-does (does-load-renamed memory3 memory3-fits 50 memory3-first) next ended))
    (values-apart 6 (omega arith))

-- ---- move that fills the frame with zeros

module _ (m : List ℕ) (fits : length m ≡ 16384) where
  does-move-zeroing : DoesBy move_copies_zeros (holding (frame_word 0x200000 true) (changed_line ours) 50 m) (supervisor (move 0x200000 0x300001)) (answer 0 0 0)
      (leftover (frame_word 0x300001 true) (zeroed_frame (with_line m 256 (line_with 50)) 1))
  unfolding lowest_from lowest_frame mapped_to calls.found_frame supervise_by step_by supervise step
  does-move-zeroing = let e = (does_move m fits).does in record { does = rw e }

pub move-zeros-breaks : MoveZerosBreaks
unfolding step_by step
move-zeros-breaks =
    breaks
    (ran-opening refl (as-board refl (does-save memory2 memory2-fits memory2-first))
    (does-move-zeroing memory2 memory2-fits
    next as-board refl (does-load-renamed (zeroed_frame memory3 1) (length-zeroed memory3 1 ∙ memory3-fits) 0 (zeroed-here memory3 memory3-fits 256 (omega arith) 1 refl))
    next ended))
    (right-opening
    (right-does (does_move memory2 memory2-fits) next right-does (does-load-renamed memory3 memory3-fits 50 memory3-first) next ended))
    (values-apart 6 (omega arith))

-- ---- only part of a name compared

module _ (m : List ℕ) (fits : length m ≡ 16384) where
  -- the store fills its line as on the board
  does-save-wrong : line_of m 256 ≡ line_with 0
      → DoesBy part_compared (empty slots2 words2 m) (save 0 4 0 50) (answer 0 0 2) (holding (frame_word 0x200000 true) (changed_line ours) 50 m)
  unfolding ones ones_in part splice edition_holds matrices_of fits_shape lowest_from lowest_frame mapped_to home_by home_of digits stored with_line line_at put_line holds_line holds_at first holds_name holder_of is_empty victim_by victim_at used_in written_back filled noted inserted performed_at way_by_home way_by way_of unreached may_write by_table too_large aligned_to mark_of performed_on accessed_by uses_by accessed user_table user_access step_by
  does-save-wrong h = record { does = rw (fits, h) }

  -- the load finds the line of the first page, under the name of the other
  does-hit-wrong : DoesBy part_compared (holding (frame_word 0x200000 true) (changed_line ours) 50 m) (load 0 0x400003) (answer 0 50 1)
      (holding (frame_word 0x200000 true) (changed_line (new_line 0x30000000 256 true)) 50 m)
  unfolding ones ones_in edition_holds matrices_of fits_shape number line_at put_line holds_line holds_at first holds_name holder_of used_in noted performed_at way_by way_of unreached may_write by_table too_large aligned_to mark_of performed_on accessed_by uses_by accessed user_table user_access step_by
  does-hit-wrong = record { does = rw fits }

pub part-compared-breaks : PartComparedBreaks
part-compared-breaks =
    breaks (ran-opening refl (does-save-wrong memory2 memory2-fits memory2-first) (does-hit-wrong memory2 memory2-fits next ended))
    (right-opening (right-does (does-push memory2 memory2-fits memory3-other) next ended)) (values-apart 5 (omega arith))

-- ---- map without dropping the prefix 1 lines

-- a line of memory, the first four bytes given: before the run all are 255; the supervisor's store leaves 0, 0, 0 and 7
abbrev line_over : ℕ → ℕ → List ℕ
line_over high value = high ∷ high ∷ high ∷ value ∷ 255 ∷ 255 ∷ 255 ∷ 255 ∷ 255 ∷ 255 ∷ 255 ∷ 255 ∷ 255 ∷ 255 ∷ 255 ∷ 255 ∷ []

-- frame 1's first line under prefix 1, changed
abbrev direct : Line
direct = changed_line (new_line 0x10000100 256 true)

-- by the words of record 0; record 1 holds nothing, and the 7 stands in line 0 of the cache
abbrev direct7 : List ℕ → List ℕ → ℕ → ℕ → List ℕ → Board
direct7 slots words name word m = untagged slots words (name ∷ word ∷ 0 ∷ 0 ∷ []) (line_over 0 7 ++ line_with 0) m

memory-at : (i : ℕ) → i < 16384 → get_or memory i 0 ≡ 255
unfolding memory
memory-at i h = get_or-replicate {A = ℕ} 16384 i 255 0 h

memory-line : line_of memory 256 ≡ line_over 255 255
unfolding line_of part
memory-line =
    line-ext memory (line_over 255 255) 256 0 (omega (arith, length-memory)) (omega arith)
    (λ k g. memory-at (4096 + k) (omega arith) ∙ sym (get_or-replicate {A = ℕ} 16 (0 + k) 255 0 (omega arith)))

does-direct : Does shape start (supervisor (access (record { store = true; width = 4; value = 7 }) (global 0x100001000))) (answer 0 0 2)
    (direct7 slots0 (0 ∷ 0 ∷ 0 ∷ 0 ∷ []) direct.name (word_of direct) memory)
unfolding ones ones_in part splice edition_holds matrices_of fits_shape mapped_to home_by direct_home free_frame home_of digits stored with_line zeros line_at put_line holds_line holds_at first holds_name holder_of is_empty victim_by victim_at used_in written_back filled noted inserted performed_at way_by_home way_by way_of unreached by_table too_large aligned_to is_ordinary is_cached outside mark_of performed_on accessed_by uses_by accessed region_of supervisor_table supervisor_done supervisor_access supervise step
does-direct = record { does = rw (length-memory, memory-line) }

module _ (m : List ℕ) (fits : length m ≡ 16384) where
  does-map : Does shape (direct7 slots0 (0 ∷ 0 ∷ 0 ∷ 0 ∷ []) direct.name (word_of direct) m) (supervisor (map 0x200000 1 true)) (answer 0 0 0)
      (direct7 slots0 words1 0 0 (zeroed_frame m 1))
  unfolding ones ones_in edition_holds matrices_of fits_shape lowest_from lowest_frame mapped_to line_at put_line holds_line holds_at noted dropped named in_range treated visited sweep visited_all by_table is_mapped calls.map_page calls.mapped supervise step
  does-map = record { does = rw fits }

  does-map-wrong : DoesBy map_keeps_lines (direct7 slots0 (0 ∷ 0 ∷ 0 ∷ 0 ∷ []) direct.name (word_of direct) m) (supervisor (map 0x200000 1 true)) (answer 0 0 0)
      (direct7 slots0 words1 direct.name (word_of direct) (zeroed_frame m 1))
  unfolding supervise_by step_by supervise step
  does-map-wrong = let e = does-map.does in record { does = rw e }

  does-attach : (name word : ℕ) → Does shape (direct7 slots0 words1 name word m) (supervisor (attach 0 0 2048 true)) (answer 0 0 0) (direct7 slots1 words1 name word m)
  unfolding ones ones_in edition_holds matrices_of fits_shape by_table calls.attach supervise step
  does-attach name word = record { does = rw fits }

  -- nothing is held: the line is filled with the zeros of the map
  does-load-zero : line_of m 256 ≡ line_with 0
      → Does shape (direct7 slots1 words1 0 0 m) (load 0 3) (answer 0 0 2)
      (untagged slots1 words1 (ours.name ∷ word_of ours ∷ 0 ∷ 0 ∷ []) (line_with 0 ++ line_with 0) m)
  unfolding ones ones_in part splice edition_holds matrices_of fits_shape lowest_from lowest_frame mapped_to home_by home_of number line_of with_line line_at put_line holds_line holds_at first holds_name holder_of is_empty victim_by victim_at used_in written_back filled noted inserted performed_at way_by_home way_by way_of unreached may_write by_table too_large aligned_to mark_of performed_on accessed_by uses_by accessed user_table user_access step
  does-load-zero h = record { does = rw (fits, h) }

  -- the old line is written back first, over the zeros
  does-load-seven : line_of (with_line m 256 (line_over 0 7)) 256 ≡ line_over 0 7
      → Does shape (direct7 slots1 words1 direct.name (word_of direct) m) (load 0 3) (answer 0 7 3)
      (direct7 slots1 words1 ours.name (word_of ours) (with_line m 256 (line_over 0 7)))
  unfolding ones ones_in part splice edition_holds matrices_of fits_shape lowest_from lowest_frame mapped_to home_by home_of number line_of with_line line_at put_line holds_line holds_at first holds_name holder_of is_empty victim_by victim_at used_in written_back filled noted inserted performed_at way_by_home way_by way_of unreached may_write by_table too_large aligned_to mark_of performed_on accessed_by uses_by accessed user_table user_access step
  does-load-seven h = record { does = rw (fits, h) }

memory1-first : line_of memory1 256 ≡ line_with 0
memory1-first = zeroed-here memory length-memory 256 (omega arith) 1 refl

pub map-breaks : MapBreaks
unfolding supervise_by step_by supervise step
map-breaks =
    breaks
    (as-board refl does-direct next does-map-wrong memory length-memory
    next as-board refl (does-attach memory1 memory1-fits direct.name (word_of direct))
    next as-board refl (does-load-seven memory1 memory1-fits (written-here memory1 memory1-fits 256 (omega arith) (line_over 0 7) refl)) next ended)
    (right-does does-direct next right-does (does-map memory length-memory) next right-does (does-attach memory1 memory1-fits 0 0)
    next right-does (does-load-zero memory1 memory1-fits memory1-first) next ended)
    (values-apart 3 (omega arith))
