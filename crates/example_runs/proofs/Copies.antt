-- Copies of one physical line: none with 256 lines or fewer; with 512 lines a board with two, and a run in which map keeps it to one.
use Prim.Native.Nat.{ℕ, ◌+◌, ◌-◌, ◌%◌, ◌^◌, ◌≤◌, ◌<◌, ◌∣◌}
use mathlib.Core.Logic.{◌≢◌}
use mathlib.Core.Path.{◌≡◌, refl, sym, ap, ◌∙◌}
use mathlib.Core.Bool.{Bool, true, false}
use mathlib.Core.List.{List, [], ◌∷◌}
use native.Mathlib.Nat.{zero-add, div-one, dvd-mul_right, mod-mod_of_dvd}
use native.Mathlib.Omega.{arith}
use lib.Count.{ones, ones_in, count_trailing_zeros}
use lib.ListN.{length, get_or, set, replicate, length-replicate}
use lib.Pow.{pow-add}
use lib.Dec.{eqb}
use borrow.Author.Tests.{eqb-true, eqb-false}
use Rattle.address.specs.Layout.{page_lines}
use Rattle.address.specs.Addresses.{region_of}
use Rattle.board.specs.declared.Shape.{Shape}
use Rattle.board.specs.Answers.{answer, mark_of}
use Rattle.board.specs.Searches.{first}
use Rattle.board.specs.Shapes.{edition_holds, matrices_of, fits_shape}
use Rattle.board.proofs.Bools.{clash}
use Rattle.board.proofs.Shapes.{limited}
use Rattle.slots.specs.Slots.{slot_word}
use Rattle.pages.specs.Pages.{frame_word, lowest_from, lowest_frame, mapped_to, free_frame, direct_home, home_by, home_of}
use Rattle.line_bytes.specs.Bytes.{number, stored, line_of, with_line, zeros, zeroed_frame}
use Rattle.line_bytes.proofs.Bytes.{length-stored, length-line, length-zeros}
use Rattle.lines.specs.Records.{line_at, put_line, no_line}
use Rattle.lines.specs.Holds.{holds_line, holds_at, holds_name, holder_of}
use Rattle.lines.specs.Victims.{is_empty, victim_by, victim_at, used_in}
use Rattle.lines.proofs.Records.{length-put, line-put-same, line-put-other}
use Rattle.lines.proofs.OneBit.{one_bit, one-bit-lt}
use Rattle.stores.specs.Stores.{Store, store, written_back, filled, noted, inserted, performed_at}
use Rattle.reach.specs.Reach.{way_by_home, way_by, way_of, unreached, may_write}
use Rattle.ranges.specs.Ranges.{in_range, named}
use Rattle.visits.specs.Visits.{map_visit, visited_all}
use Rattle.machine.specs.Boards.{Board, board, no_tag}
use Rattle.machine.specs.Refusals.{by_table, too_large, aligned_to, is_ordinary, is_mapped, is_cached, outside}
use Rattle.machine.specs.Accesses.{performed_on, accessed_by, uses_by, accessed, user_table, user_access, supervisor_table, supervisor_done, supervisor_access}
use Rattle.machine.specs.Calls as calls
use Rattle.machine.specs.Calls.{map_page, mapped}
use Rattle.store_laws.proofs.Bytes.{copied_at}
use Rattle.store_laws.proofs.Held.{holds-none, held_place, held-line}
use Rattle.store_laws.proofs.Zeroed.{length-zeroed, zeroed-in}
use Rattle.store_laws.proofs.Sweeps.{fate_of, fate, SameCache, swept-cache, swept-line}
use Rattle.page_laws.proofs.Maps.{Homed, direct, mapped as byMap, homed}
use Rattle.promises.specs.Sound.{LinesOnce}
use Rattle.promises.specs.Runs.{attach, map, supervisor, supervise, step, after}
use Rattle.promises.proofs.Soundness.{fresh-zeros}
use Rattle.promises.proofs.Demand3.{demand3}
use Rattle.example_runs.specs.Examples.{load}
use Rattle.example_runs.specs.Copies.{LinesInStep, MappedInStep, FewLinesOnce, shape, direct_line, page_line, memory, twice, TwoCopies, start, direct_store, used, handed, undropped, OneCopyKept}
use Rattle.example_runs.proofs.Chains.{fresh-line, none_written, none-marked, Does, Ran, ended, ◌then◌, ran-answers, ran-after}

-- ---- 256 lines or fewer

homed-in-step : {s : Shape} {words : List ℕ} {n p : ℕ} {w : Bool} → Homed s words n p w → n % page_lines ≡ p % page_lines
homed-in-step (direct a b c d e f) = omega arith
homed-in-step (byMap a b c d e f h) = omega arith

pub mapped-in-step : MappedInStep
mapped-in-step s words x maps i h = homed-in-step (homed s words _ _ _ (maps i h))

-- a number with one bit set, up to 256, divides 256
one-bit-divides : (n : ℕ) → n ≤ page_lines → ones n ≡ 1 → n ∣ page_lines
one-bit-divides n h e =
    let t = count_trailing_zeros 9 n in
    let low : t < 9 = one-bit-lt 9 n (omega arith) e in
    let z : t + (8 - t) ≡ 8 = omega arith in
    let p = pow-add 2 t (8 - t) in
    rw (← one_bit 9 n (omega arith) e) (rw (← p, z) at (dvd-mul_right (2 ^ t) (2 ^ (8 - t))))

-- the place of a held line, with one line in a set
place-one : (s : Shape) (records : List ℕ) (i : ℕ) → s.ways ≡ 1 → holds_at s records i ≡ true → i ≡ (line_at records i).name % s.lines
place-one s records i w h = simp div-one at (rw w at (held_place s records i h))

pub few-lines-once : FewLinesOnce
few-lines-once s x limits ways few step i j a b same =
    let d = one-bit-divides s.lines few (limited s limits).one in
    let n = (line_at x.records i).name in
    let m = (line_at x.records j).name in
    let e : n % page_lines ≡ m % page_lines = step i a ∙ ap (λ (p : ℕ). p % page_lines) same ∙ sym (step j b) in
    place-one s x.records i ways a
    ∙ sym (mod-mod_of_dvd s.lines n d) ∙ ap (λ (r : ℕ). r % s.lines) e ∙ mod-mod_of_dvd s.lines m d
    ∙ sym (place-one s x.records j ways b)

-- ---- 512 lines

-- record 0 holds the prefix 1 line and record 256 the page's line
module _ (x : Store) (direct_is : line_at x.records 0 ≡ direct_line) (page_is : line_at x.records 256 ≡ page_line) where
  copies-twice : LinesOnce shape x → ⊥
  unfolding holds_line
  copies-twice once =
      let z : ◌≡◌ {A = ℕ} 0 256 =
      once 0 256 (held-line shape x.records 0 direct_line direct_is) (held-line shape x.records 256 page_line page_is) (rw (direct_is, page_is)) in
      omega arith

-- the records of the board with both
abbrev none : List ℕ
none = replicate 1024 0

length_none : length none ≡ 1024
length_none = length-replicate {A = ℕ} 1024 0

abbrev one : List ℕ
one = put_line none 0 direct_line

length-one : length one ≡ 1024
length-one = length-put none 0 direct_line ∙ length_none

length-memory : length memory ≡ 4096
unfolding memory
length-memory = length-replicate {A = ℕ} 4096 255

abbrev both : List ℕ
both = put_line one 256 page_line

both_first : line_at both 0 ≡ direct_line
both_first = line-put-other one 256 page_line 0 (omega arith) ∙ line-put-same none 0 direct_line (omega (arith, length_none))

both-second : line_at both 256 ≡ page_line
both-second = line-put-same one 256 page_line (omega (arith, length-one))

both-other : (i : ℕ) → 0 ≢ i → 256 ≢ i → line_at both i ≡ no_line
both-other i a b = line-put-other one 256 page_line i b ∙ line-put-other none 0 direct_line i a ∙ fresh-line 1024 i

both-in-step : LinesInStep shape (store both (zeros 8192) memory)
both-in-step i h = go (eqb 0 i) refl (eqb 256 i) refl
  where
    go : (t : Bool) → eqb 0 i ≡ t → (u : Bool) → eqb 256 i ≡ u → (line_at both i).name % page_lines ≡ (line_at both i).physical % page_lines
    go true t u e = let z = eqb-true 0 i t in rw (← z, both_first)
    go false t true e = let z = eqb-true 256 i e in rw (← z, both-second)
    go false t false e =
        clash (holds_at shape both i) h (held-line shape both i no_line (both-other i (eqb-false 0 i t) (eqb-false 256 i e)) ∙ holds-none shape i)

pub two-copies : TwoCopies
unfolding ones ones_in edition_holds matrices_of fits_shape
two-copies = record {
  fits = rw (length-put one 256 page_line, length-one, length-zeros 8192, length-memory);
  in_step = both-in-step;
  not_once = copies-twice twice.store both_first both-second;
}

-- ---- the run, call by call

-- the slots: nothing attached; segment 2048 by process 0
abbrev slots0 : List ℕ
slots0 = replicate 512 0

abbrev slots1 : List ℕ
slots1 = set slots0 0 (slot_word 2048 true)

-- slots, frame word, records, cache and memory, nothing pending
abbrev untagged : List ℕ → ℕ → List ℕ → List ℕ → List ℕ → Board
untagged slots word r c m = board slots (word ∷ []) r c m no_tag

-- what map leaves of the records and the bytes
abbrev swept : List ℕ → List ℕ → List ℕ → Store
swept r c m = visited_all shape (map_visit 0x200001 0) (store r c m)

abbrev cache1 : List ℕ
cache1 = stored (with_line (zeros 8192) 0 (line_of memory 0)) 0 4 50

does-direct : Does shape start direct_store (answer 0 0 2) (untagged slots0 0 one cache1 memory)
unfolding ones ones_in edition_holds matrices_of fits_shape mapped_to home_by direct_home free_frame home_of line_at put_line holds_line holds_at first holds_name holder_of is_empty victim_by victim_at used_in written_back filled noted inserted performed_at way_by_home way_by way_of unreached by_table too_large aligned_to is_ordinary is_cached outside mark_of performed_on accessed_by uses_by accessed region_of supervisor_table supervisor_done supervisor_access supervise step
does-direct = record { does = rw (length-zeros 8192, length-memory) }

module _ (r c m : List ℕ) (records_are : length r ≡ 1024) (cache_is : length c ≡ 8192) (memory_is : length m ≡ 4096) where
  does-map : Does shape (untagged slots0 0 r c m) (supervisor (map 0x200001 0 true)) (answer 0 0 0)
      (untagged slots0 (frame_word 0x200001 true) (swept r c m).records (swept r c m).cache (zeroed_frame (swept r c m).memory 0))
  unfolding ones ones_in edition_holds matrices_of fits_shape lowest_from lowest_frame mapped_to by_table is_mapped map_page mapped supervise step
  does-map = record { does = rw (records_are, cache_is, memory_is) }

  does-attach : Does shape (untagged slots0 (frame_word 0x200001 true) r c m) (supervisor (attach 0 0 2048 true)) (answer 0 0 0)
      (untagged slots1 (frame_word 0x200001 true) r c m)
  unfolding ones ones_in edition_holds matrices_of fits_shape by_table calls.attach supervise step
  does-attach = record { does = rw (records_are, cache_is, memory_is) }

  -- byte 3 of the line that a miss fills from physical line 0
  loaded_byte : number (with_line c 256 (line_of m 0)) 4099 1 ≡ get_or m 3 0
  unfolding number with_line line_of
  loaded_byte = zero-add _ ∙ copied_at c m 256 0 (omega arith) (omega arith) 3 (omega arith)

  does-load : line_at r 256 ≡ no_line
      → Does shape (untagged slots1 (frame_word 0x200001 true) r c m) (load 0 0x1003) (answer 0 (get_or m 3 0) 2)
      (untagged slots1 (frame_word 0x200001 true) (put_line r 256 page_line) (with_line c 256 (line_of m 0)) m)
  unfolding ones ones_in edition_holds matrices_of fits_shape lowest_from lowest_frame mapped_to home_by home_of holds_line holds_at first holds_name holder_of is_empty victim_by victim_at used_in filled noted inserted performed_at way_by_home way_by way_of unreached may_write by_table too_large aligned_to performed_on accessed_by uses_by accessed user_table user_access step
  does-load h = record { does = rw (records_are, cache_is, memory_is, h, none_written shape 256 r c m h, none-marked shape 256 r h, loaded_byte) }

cache1-is : length cache1 ≡ 8192
cache1-is = length-stored _ 0 4 50 ∙ length-line (zeros 8192) 0 (line_of memory 0) ∙ length-zeros 8192

-- after the map record 0 is dropped, and record 256 is as it was
one-second : line_at one 256 ≡ no_line
one-second = line-put-other none 0 direct_line 256 (omega arith) ∙ fresh-line 1024 256

abbrev swept_one : Store
swept_one = swept one cache1 memory

swept_at : (i : ℕ) → i < 512 → line_at swept_one.records i ≡ fate shape (map_visit 0x200001 0) i (line_at one i)
swept_at i h = swept-line shape (map_visit 0x200001 0) (store one cache1 memory) i length-one h

swept-first : line_at swept_one.records 0 ≡ no_line
unfolding holds_line named in_range fate fate_of
swept-first = swept_at 0 (omega arith) ∙ rw (line-put-same none 0 direct_line (omega (arith, length_none)))

swept-second : line_at swept_one.records 256 ≡ no_line
unfolding holds_line fate
swept-second = swept_at 256 (omega arith) ∙ rw one-second

-- the process uses the frame, from records and bytes of these lengths whose record 256 holds nothing
module _ (r c m : List ℕ) (records_are : length r ≡ 1024) (cache_is : length c ≡ 8192) (memory_is : length m ≡ 4096) (free : line_at r 256 ≡ no_line) where
  ran-used : Ran shape (untagged slots0 (frame_word 0x200001 true) r c m) used (answer 0 0 0 ∷ answer 0 (get_or m 3 0) 2 ∷ [])
      (untagged slots1 (frame_word 0x200001 true) (put_line r 256 page_line) (with_line c 256 (line_of m 0)) m)
  ran-used = does-attach r c m records_are cache_is memory_is then does-load r c m records_are cache_is memory_is free then ended

abbrev zeroed : List ℕ
zeroed = zeroed_frame swept_one.memory 0

swept-one : SameCache (store one cache1 memory) swept_one
swept-one = swept-cache shape (map_visit 0x200001 0) (store one cache1 memory)

swept-memory-is : length swept_one.memory ≡ 4096
swept-memory-is = swept-one.memory_length ∙ length-memory

zeroed-byte : get_or zeroed 3 0 ≡ 0
zeroed-byte = zeroed-in swept_one.memory 0 3 refl (omega (arith, swept-memory-is))

ran-handed : Ran shape start handed (answer 0 0 2 ∷ answer 0 0 0 ∷ answer 0 0 0 ∷ answer 0 (get_or zeroed 3 0) 2 ∷ [])
    (untagged slots1 (frame_word 0x200001 true) (put_line swept_one.records 256 page_line) (with_line swept_one.cache 256 (line_of zeroed 0)) zeroed)
ran-handed =
    does-direct then does-map one cache1 memory length-one cache1-is length-memory
    then ran-used swept_one.records swept_one.cache zeroed (swept-one.records_length ∙ length-one) (ap length swept-one.cache_same ∙ cache1-is)
    (length-zeroed swept_one.memory 0 ∙ swept-memory-is) swept-second

after-direct : after shape start (direct_store ∷ []) ≡ untagged slots0 0 one cache1 memory
after-direct = ran-after (does-direct then ended)

-- without the drop both records are there
after-undropped : (after shape (undropped (after shape start (direct_store ∷ []))) used).store.records ≡ both
after-undropped =
    rw after-direct
    (ap (λ (b : Board). b.store.records)
    (ran-after (ran-used one cache1 (zeroed_frame memory 0) length-one cache1-is (length-zeroed memory 0 ∙ length-memory) one-second)))

pub one-copy-kept : OneCopyKept
one-copy-kept = record {
  direct_held = rw after-direct (line-put-same none 0 direct_line (omega (arith, length_none)));
  answers_are = ran-answers ran-handed ∙ rw zeroed-byte;
  direct_dropped = rw (ran-after ran-handed) (line-put-other swept_one.records 256 page_line 0 (omega arith) ∙ swept-first);
  page_held = rw (ran-after ran-handed) (line-put-same swept_one.records 256 page_line (omega (arith, swept-one.records_length, length-one)));
  once = demand3.one_copy shape start (fresh-zeros shape (zeros 8192) memory) handed;
  two_without =
      copies-twice (after shape (undropped (after shape start (direct_store ∷ []))) used).store (rw after-undropped both_first) (rw after-undropped both-second);
}
