-- Small runs beside the demands: each meets the premises of its demand, and something happens in it.
-- Two processes share a segment; the one has it for writing, the other read-only and a segment of its own beside it.
use Rattle.std.specs.Prelude.{ℕ, ◌/◌, ◌<◌, ◌≡◌, Bool, true, false, List, [], ◌∷◌, replicate, Some}
use Rattle.address.specs.Layout.{page_lines}
use Rattle.address.specs.Addresses.{effective}
use Rattle.board.specs.Answers.{answer}
use Rattle.board.specs.declared.Shape.{Shape}
use Rattle.board.specs.declared.Answer.{Answer}
use Rattle.pages.specs.Pages.{mapped_to}
use Rattle.line_bytes.specs.Bytes.{line_of, zeros}
use Rattle.lines.specs.Records.{line_at, new_line, changed_line}
use Rattle.machine.specs.Boards.{Board, fresh, refused}
use Rattle.machine.specs.Looks.{look}
use Rattle.promises.specs.Plain.{plain_look}
use Rattle.promises.specs.Runs.{attach, map, Call, user, supervisor, Reply, step, after, plain_after, plain_replies, plain_of}
use Rattle.promises.specs.Demand1.{rows_of, applies_in}
use Rattle.promises.specs.Demand3.{ever_holds, ever_writes, Apart, SameFor, replies_to, segment_of_page, MovesAlike, SameForProcess}

-- ---- the board and the calls

-- four frames, the first of them not cached, two processes and two lines, as in 01's session
abbrev pub shape : Shape
shape = record { frames = 4; uncached = 1; processes = 2; lines = 2; ways = 1 }

-- every byte of memory is 255
unfoldable pub memory : List ℕ
memory = replicate 16384 255

-- a fresh board
abbrev pub start : Board
start = fresh shape (zeros 32) memory

-- a process loads one byte (process, address)
abbrev pub load : ℕ → ℕ → Call
load process at = user process (record { store = false; width = 1; value = 0 }) (effective at)

-- a process stores a value (process, width, address, value)
abbrev pub save : ℕ → ℕ → ℕ → ℕ → Call
save process width at value = user process (record { store = true; width = width; value = value }) (effective at)

-- the answers in order: as `replies`, with the marks
unfoldable pub answers : Shape → Board → List Call → List Answer
answers s b [] = []
answers s b (k ∷ ks) = (step s b k).answer ∷ answers s (step s b k).after ks

-- a number and a value
abbrev pub gets : ℕ → ℕ → Reply
gets number value = record { number = number; value = value }

-- sixteen bytes of which the fourth is this and the others are 0: what a store of four bytes at the start of a zero line leaves
abbrev pub line_with : ℕ → List ℕ
line_with value = 0 ∷ 0 ∷ 0 ∷ value ∷ 0 ∷ 0 ∷ 0 ∷ 0 ∷ 0 ∷ 0 ∷ 0 ∷ 0 ∷ 0 ∷ 0 ∷ 0 ∷ 0 ∷ []

-- ---- the runs

-- every run opens so:
--   page 0x200000, of segment 2048, is mapped to frame 1, and page 0x200400, of segment 2049, to frame 2
--   process 0 attaches segment 2048 to its slot 0, for writing
--   process 1 attaches segment 2048 to its slot 0, for writing if `write`, and segment 2049 to its slot 1, for writing
--   process 0 stores 50 at 0, the first line of its page: name 0x20000000, place 0, physical line 256
abbrev pub opening : Bool → List Call → List Call
opening write ks =
    supervisor (map 0x200000 1 true) ∷ supervisor (map 0x200400 2 true) ∷ supervisor (attach 0 0 2048 true) ∷ supervisor (attach 1 0 2048 write)
    ∷ supervisor (attach 1 1 2049 true) ∷ save 0 4 0 50 ∷ ks

-- process 1 loads the 50, then stores 7 in its own segment: name 0x20040000, place 0, physical line 512
abbrev pub pushing : List Call → List Call
pushing ks = opening false (load 1 3 ∷ save 1 4 0x400000 7 ∷ ks)

-- run A: after that process 0 loads its 50, and process 1 its 7
abbrev pub run_a : List Call
run_a = pushing (load 0 3 ∷ load 1 0x400003 ∷ [])

-- run B: run A with the accesses of process 1 left out, changed and added: its loads are left out, its store is of 9 and to the next line
-- (name 0x20040001, place 1), and it tries to store 8 over the 50, which is refused
abbrev pub run_b : List Call
run_b = opening false (save 1 4 0x400010 9 ∷ save 1 1 3 8 ∷ load 0 3 ∷ [])

-- run C: process 1 may write to segment 2048 too, and stores 7 over the 50 that process 0 then loads
abbrev pub run_c : List Call
run_c = opening true (save 1 1 3 7 ∷ load 0 3 ∷ [])

-- run D: run C without the access of process 1
abbrev pub run_d : List Call
run_d = opening true (load 0 3 ∷ [])

-- ---- demand 1

-- two rows of the call's table apply; the lower number is given, and the board stays as it is
pub record LowerGiven (b : Board) (k : Call) (low high : ℕ) : Type 0 where
  pub low_applies : applies_in (rows_of shape b k) low ≡ true
  pub high_applies : applies_in (rows_of shape b k) high ≡ true
  pub in_order : low < high
  pub low_given : step shape b k ≡ refused b low

pub record Example1 : Type 0 where
  -- after run A process 1 stores four bytes at 2 of segment 2048: no multiple of 4, and the segment is attached read-only
  pub user_refused : LowerGiven (after shape start run_a) (save 1 4 2 8) 4 7
  -- after run A page 0x200000 is mapped to frame 1 again: the frame's word is not 0, and the page is mapped already
  pub supervisor_refused : LowerGiven (after shape start run_a) (supervisor (map 0x200000 1 true)) 10 11

-- ---- demand 2

pub record Example2 : Type 0 where
  -- run A is all done. Process 1 finds the 50 held; then the two processes push each other's line out, and both read back what they stored
  pub answers_are : answers shape start run_a
      ≡ answer 0 0 0 ∷ answer 0 0 0 ∷ answer 0 0 0 ∷ answer 0 0 0 ∷ answer 0 0 0 ∷ answer 0 0 2 ∷ answer 0 50 1 ∷ answer 0 0 3 ∷ answer 0 50 3 ∷ answer 0 7 2 ∷ []
  -- before process 1 stores, record 0 holds process 0's line, changed, and memory has the zeros of the map
  pub record_before : line_at (after shape start (opening false [])).store.records 0 ≡ changed_line (new_line 0x20000000 256 true)
  pub memory_before : line_of (after shape start (opening false [])).store.memory 256 ≡ line_with 0
  -- after it record 0 holds process 1's line, changed, and process 0's bytes are in memory
  pub record_after : line_at (after shape start (pushing [])).store.records 0 ≡ changed_line (new_line 0x20040000 512 true)
  pub memory_after : line_of (after shape start (pushing [])).store.memory 256 ≡ line_with 50
  -- by `Demand2` the plain machine gives the same, and look shows its bytes
  pub plain_replies_lem : plain_replies shape (plain_of start memory) run_a
      ≡ gets 0 0 ∷ gets 0 0 ∷ gets 0 0 ∷ gets 0 0 ∷ gets 0 0 ∷ gets 0 0 ∷ gets 0 50 ∷ gets 0 0 ∷ gets 0 50 ∷ gets 0 7 ∷ []
  pub plain_bytes : plain_look shape (plain_after shape (plain_of start memory) run_a) 256 ≡ line_with 50

-- ---- demand 3

pub record Example3 : Type 0 where
  -- runs A and B meet the premises of demand 3 for process 0
  pub premise_met : Apart shape start run_a 0
  pub same_calls : SameFor 0 run_a run_b
  pub moves_alike : MovesAlike shape start run_a run_b 0
  -- both processes hold segment 2048, and process 1 holds segment 2049 for writing, which process 0 never holds
  pub held : ever_holds shape start run_a 0 2048 ≡ true
  pub held_by_other : ever_holds shape start run_a 1 2048 ≡ true
  pub written_by_other : ever_writes shape start run_a 1 2049 ≡ true
  pub others_own : ever_holds shape start run_a 0 2049 ≡ false
  -- so what demand 3 promises holds of them
  pub promised : SameForProcess shape start start.store.memory run_a run_b 0
  -- process 0 gets 0 for its store and 50 for its load in both
  pub replies_A : replies_to 0 shape start run_a ≡ gets 0 0 ∷ gets 0 50 ∷ []
  pub replies_B : replies_to 0 shape start run_b ≡ gets 0 0 ∷ gets 0 50 ∷ []
  -- only the mark of that 50 differs: 3 in run A (`Example2`), 1 in run B
  pub answers_B : answers shape start run_b
      ≡ answer 0 0 0 ∷ answer 0 0 0 ∷ answer 0 0 0 ∷ answer 0 0 0 ∷ answer 0 0 0 ∷ answer 0 0 2 ∷ answer 0 0 2 ∷ answer 7 0 0 ∷ answer 0 50 1 ∷ []
  -- the premises of `same_bytes`, for the first line of the page of segment 2048
  pub page_held : ever_holds shape start run_a 0 (segment_of_page 0x200000) ≡ true
  pub page_mapped : mapped_to shape (after shape start run_a).words 0x200000 ≡ Some 1
  pub line_in_frame : 256 / page_lines ≡ 1
  -- the bytes at the end: the same, in memory after run A and in the cache after run B
  pub look_A : look shape (after shape start run_a) 256 ≡ line_with 50
  pub look_B : look shape (after shape start run_b) 256 ≡ line_with 50
  pub memory_A : line_of (after shape start run_a).store.memory 256 ≡ line_with 50
  pub memory_B : line_of (after shape start run_b).store.memory 256 ≡ line_with 0

-- without the premise on segments the promise breaks: process 1 may write to the segment, the calls of process 0 are the same, and it gets 7 or 50
pub record Broken3 : Type 0 where
  pub premise_broken : Apart shape start run_c 0 → ⊥
  pub same_calls : SameFor 0 run_c run_d
  pub moves_alike : MovesAlike shape start run_c run_d 0
  pub replies_with : replies_to 0 shape start run_c ≡ gets 0 0 ∷ gets 0 7 ∷ []
  pub replies_without : replies_to 0 shape start run_d ≡ gets 0 0 ∷ gets 0 50 ∷ []
  pub replies_differ : replies_to 0 shape start run_c ≡ replies_to 0 shape start run_d → ⊥
