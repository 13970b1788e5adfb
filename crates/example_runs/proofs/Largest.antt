-- The run on the largest board, call by call. Its lists are too long to be counted: each call is shown of any lists of their lengths.
use Prim.Native.Nat.{ℕ, ◌+◌, ◌*◌}
use mathlib.Core.Logic.{inl}
use mathlib.Core.Path.{◌≡◌, refl, ap, ◌∙◌}
use mathlib.Core.Bool.{true}
use mathlib.Core.List.{List, [], ◌∷◌}
use native.Mathlib.Nat.{zero-add}
use native.Mathlib.Omega.{arith}
use lib.Count.{ones}
use lib.ListN.{length, get_or, set, replicate, length-replicate, length-set}
use lib.Seq.{get_or-set_same}
use Rattle.address.specs.Layout.{line_bytes, page_bytes, process_slots}
use Rattle.board.specs.Answers.{answer, mark_of}
use Rattle.board.specs.Searches.{first}
use Rattle.board.specs.Shapes.{edition_holds, matrices_of, fits_shape, record_words}
use Rattle.slots.specs.Slots.{slot_index, slot_word}
use Rattle.pages.specs.Pages.{frame_word, lowest_from, lowest_frame, mapped_to, home_by, home_of}
use Rattle.line_bytes.specs.Bytes.{number, digits, stored, line_of, with_line, zeros, zeroed_frame}
use Rattle.line_bytes.proofs.Bytes.{length-stored, length-line, length-zeros}
use Rattle.lines.specs.Records.{line_at, put_line, no_line, new_line, changed_line}
use Rattle.lines.specs.Holds.{holds_line, holds_at, holds_name, holder_of}
use Rattle.lines.specs.Victims.{is_empty, victim_by, victim_at, used_in}
use Rattle.lines.specs.declared.Line.{Line}
use Rattle.lines.proofs.Records.{length-put, line-put-same}
use Rattle.lines.proofs.OneBit.{power-one}
use Rattle.stores.specs.Stores.{Store, store, filled, noted, inserted, performed_at}
use Rattle.reach.specs.Reach.{way_by_home, way_by, way_of, unreached, may_write}
use Rattle.visits.specs.Visits.{map_visit, visited_all}
use Rattle.machine.specs.Boards.{Board, board, no_tag}
use Rattle.machine.specs.Refusals.{by_table, too_large, aligned_to, is_mapped}
use Rattle.machine.specs.Accesses.{performed_on, accessed_by, uses_by, accessed, user_table, user_access}
use Rattle.machine.specs.Calls as calls
use Rattle.machine.specs.Calls.{map_page, mapped}
use Rattle.store_laws.proofs.Bytes.{splice-in}
use Rattle.store_laws.proofs.Zeroed.{length-zeroed}
use Rattle.store_laws.proofs.Sweeps.{fate, SameCache, swept-cache, swept-line}
use Rattle.promises.specs.Runs.{attach, map, supervisor, supervise, step}
use Rattle.promises.proofs.Limits.{limits-stand}
use Rattle.example_runs.specs.Examples.{load, save}
use Rattle.example_runs.specs.Largest.{shape, place_bits, last_process, last_place, start, run, LargestBoard, PastLimits}
use Rattle.example_runs.proofs.Chains.{fresh-line, none_written, none-marked, Does, Ran, ended, ◌then◌, ran-answers, ran-after}

one : ones shape.lines ≡ 1
one = power-one place_bits

-- slots, frame word, records, cache and memory, nothing pending
abbrev untagged : List ℕ → ℕ → List ℕ → List ℕ → List ℕ → Board
untagged slots word r c m = board slots (word ∷ []) r c m no_tag

abbrev page_word : ℕ
page_word = frame_word 0x2003FF true

-- the slot of the run, and its word
abbrev last_slot : ℕ
last_slot = slot_index last_process 511

abbrev segment_word : ℕ
segment_word = slot_word 2048 true

-- the line that the store fills, not changed yet
abbrev missed : Line
missed = new_line 0x2003FFFF 255 true

-- lists as long as the shape says
record Long (slots r c m : List ℕ) : Type 0 where
  slots_are : length slots ≡ shape.processes * process_slots
  records_are : length r ≡ record_words * shape.lines
  cache_is : length c ≡ line_bytes * shape.lines
  memory_is : length m ≡ page_bytes

module _ (slots r c m : List ℕ) (x : Long slots r c m) where
  -- the numbers are taken
  fits : fits_shape shape (length slots) 1 (length r) (length c) (length m) 0 ≡ true
  unfolding edition_holds matrices_of fits_shape
  fits = rw (x.slots_are, x.records_are, x.cache_is, x.memory_is, one)

  abbrev swept : Store
  swept = visited_all shape (map_visit 0x2003FF 0) (store r c m)

  does-map : Does shape (untagged slots 0 r c m) (supervisor (map 0x2003FF 0 true)) (answer 0 0 0)
      (untagged slots page_word swept.records swept.cache (zeroed_frame swept.memory 0))
  unfolding lowest_from lowest_frame mapped_to by_table is_mapped map_page mapped supervise step
  does-map = record { does = rw fits }

  does-past : Does shape (untagged slots page_word r c m) (supervisor (attach shape.processes 511 2048 true)) (answer 2 0 0) (untagged slots page_word r c m)
  unfolding by_table calls.attach supervise step
  does-past = record { does = rw fits }

  does-attach : Does shape (untagged slots page_word r c m) (supervisor (attach last_process 511 2048 true)) (answer 0 0 0)
      (untagged (set slots last_slot segment_word) page_word r c m)
  unfolding by_table calls.attach supervise step
  does-attach = record { does = rw fits }

  -- the line as the store's miss leaves it in the records and the cache
  abbrev missed_records : List ℕ
  missed_records = put_line r last_place missed

  abbrev missed_cache : List ℕ
  missed_cache = with_line c last_place (line_of m 255)

  module _ (attached : get_or slots last_slot 0 ≡ segment_word) where
    does-store : line_at r last_place ≡ no_line → line_at missed_records last_place ≡ missed
        → Does shape (untagged slots page_word r c m) (save last_process 4 0x7FFFFFFC 50) (answer 0 0 2)
        (untagged slots page_word (put_line missed_records last_place (changed_line missed)) (stored missed_cache (line_bytes * last_place + 12) 4 50) m)
    unfolding lowest_from lowest_frame mapped_to home_by home_of holds_line holds_at first holds_name holder_of is_empty victim_by victim_at used_in filled noted inserted performed_at way_by_home way_by way_of unreached may_write by_table too_large aligned_to performed_on accessed_by uses_by accessed user_table user_access step
    does-store h g = record { does = rw (fits, attached, h, none_written shape last_place r c m h, none-marked shape last_place r h, g) }

    does-load : line_at r last_place ≡ changed_line missed
        → Does shape (untagged slots page_word r c m) (load last_process 0x7FFFFFFF) (answer 0 (number c (line_bytes * last_place + 15) 1) 1)
        (untagged slots page_word r c m)
    unfolding holds_line holds_at first holds_name holder_of used_in performed_at way_by way_of unreached may_write by_table too_large aligned_to mark_of performed_on accessed_by uses_by accessed user_table user_access step
    does-load h = record { does = rw (fits, attached, h) }

-- ---- the lists of the run

abbrev slots0 : List ℕ
slots0 = replicate (shape.processes * process_slots) 0

abbrev records0 : List ℕ
records0 = replicate (record_words * shape.lines) 0

abbrev cache0 : List ℕ
cache0 = zeros (line_bytes * shape.lines)

abbrev memory0 : List ℕ
memory0 = zeros page_bytes

long0 : Long slots0 records0 cache0 memory0
long0 = record {
  slots_are = length-replicate {A = ℕ} (shape.processes * process_slots) 0;
  records_are = length-replicate {A = ℕ} (record_words * shape.lines) 0;
  cache_is = length-zeros (line_bytes * shape.lines);
  memory_is = length-zeros page_bytes;
}

-- after the map
abbrev mapped_store : Store
mapped_store = swept slots0 records0 cache0 memory0 long0

abbrev memory1 : List ℕ
memory1 = zeroed_frame mapped_store.memory 0

kept : SameCache (store records0 cache0 memory0) mapped_store
kept = swept-cache shape (map_visit 0x2003FF 0) (store records0 cache0 memory0)

long1 : Long slots0 mapped_store.records mapped_store.cache memory1
long1 = record {
  slots_are = long0.slots_are;
  records_are = kept.records_length ∙ long0.records_are;
  cache_is = ap length kept.cache_same ∙ long0.cache_is;
  memory_is = length-zeroed mapped_store.memory 0 ∙ kept.memory_length ∙ long0.memory_is;
}

none0 : line_at records0 last_place ≡ no_line
none0 = fresh-line (record_words * shape.lines) last_place

none1 : line_at mapped_store.records last_place ≡ no_line
unfolding holds_line fate
none1 = swept-line shape (map_visit 0x2003FF 0) (store records0 cache0 memory0) last_place long0.records_are (omega arith) ∙ rw none0

-- after the attach
abbrev slots1 : List ℕ
slots1 = set slots0 last_slot segment_word

long2 : Long slots1 mapped_store.records mapped_store.cache memory1
long2 = record {
  slots_are = length-set slots0 last_slot segment_word ∙ long0.slots_are;
  records_are = long1.records_are;
  cache_is = long1.cache_is;
  memory_is = long1.memory_is;
}

attached1 : get_or slots1 last_slot 0 ≡ segment_word
attached1 = get_or-set_same slots0 last_slot segment_word 0 (omega (arith, long0.slots_are))

-- after the store
abbrev records2 : List ℕ
records2 = missed_records slots1 mapped_store.records mapped_store.cache memory1 long2

abbrev cache2 : List ℕ
cache2 = missed_cache slots1 mapped_store.records mapped_store.cache memory1 long2

length-records2 : length records2 ≡ record_words * shape.lines
length-records2 = length-put mapped_store.records last_place missed ∙ long1.records_are

length-cache2 : length cache2 ≡ line_bytes * shape.lines
length-cache2 = length-line mapped_store.cache last_place (line_of memory1 255) ∙ long1.cache_is

abbrev records3 : List ℕ
records3 = put_line records2 last_place (changed_line missed)

abbrev cache3 : List ℕ
cache3 = stored cache2 (line_bytes * last_place + 12) 4 50

long3 : Long slots1 records3 cache3 memory1
long3 = record {
  slots_are = long2.slots_are;
  records_are = length-put records2 last_place (changed_line missed) ∙ length-records2;
  cache_is = length-stored cache2 (line_bytes * last_place + 12) 4 50 ∙ length-cache2;
  memory_is = long2.memory_is;
}

line2 : line_at records2 last_place ≡ missed
line2 = line-put-same mapped_store.records last_place missed (omega (arith, long1.records_are))

line3 : line_at records3 last_place ≡ changed_line missed
line3 = line-put-same records2 last_place (changed_line missed) (omega (arith, length-records2))

loaded_byte : number cache3 (line_bytes * last_place + 15) 1 ≡ 50
unfolding number stored digits
loaded_byte = zero-add _ ∙ splice-in cache2 (line_bytes * last_place + 12) (digits 4 50) 3 (line_bytes * last_place + 15) refl (omega arith) (omega (arith, length-cache2))

ran : Ran shape start run (answer 0 0 0 ∷ answer 2 0 0 ∷ answer 0 0 0 ∷ answer 0 0 2 ∷ answer 0 (number cache3 (line_bytes * last_place + 15) 1) 1 ∷ [])
    (untagged slots1 page_word records3 cache3 memory1)
unfolding matrices_of
ran =
    does-map slots0 records0 cache0 memory0 long0
    then does-past slots0 mapped_store.records mapped_store.cache memory1 long1
    then does-attach slots0 mapped_store.records mapped_store.cache memory1 long1
    then does-store slots1 mapped_store.records mapped_store.cache memory1 long2 attached1 none1 line2
    then does-load slots1 records3 cache3 memory1 long3 attached1 line3
    then ended

pub largest-board : LargestBoard
largest-board = record {
  within = record {
    frames_low = omega arith;
    frames_high = omega arith;
    uncached_high = omega arith;
    processes_low = omega arith;
    processes_high = omega arith;
    lines_are = refl;
    lines_high = omega arith;
    edition = inl refl;
  };
  as_long = limits-stand.there_are shape cache0 memory0 long0.cache_is long0.memory_is;
  answers_are = ran-answers ran ∙ rw loaded_byte;
  last_line = rw (ran-after ran) line3;
}

-- ---- past the limits

pub past-limits : PastLimits
past-limits = record {
  processes = λ s b e. limits-stand.refused_else s b (λ k w long. omega (arith, e, w.processes_high));
  lines = λ s b e. limits-stand.refused_else s b (λ k w long. omega (arith, e, w.lines_high));
}
