-- Small dumps beside the promises: one that is accepted though it is no fresh board, one broken in each rule, and a repair.
use Rattle.std.specs.Prelude.{ℕ, ◌+◌, ◌*◌, ◌≡◌, List, [], ◌∷◌, ◌++◌, replicate}
use Rattle.address.specs.Layout.{page_lines, prefix_lines, first_page}
use Rattle.board.specs.Shapes.{one_line}
use Rattle.board.specs.declared.Shape.{Shape}
use Rattle.machine.specs.Boards.{Board, board, no_tag}
use Rattle.dumps.specs.Checks.{report, yes, checked}
use Rattle.repairs.specs.Repairs.{with_dropped, repair_board}

-- one frame, one process, two lines; and two frames
abbrev pub one : Shape
one = one_line 1 0 1 2

abbrev pub two : Shape
two = one_line 2 0 1 2

-- the first ordinary page's word, writable; the names of its first two lines
abbrev pub word : ℕ
word = first_page * 4 + 3

abbrev pub name : ℕ
name = first_page * page_lines

-- the second word of a record that is valid and may be written, and not changed, of this physical line
abbrev pub clean : ℕ → ℕ
clean line = line * 8 + 3

-- these words, records and cache bytes, and so many bytes of memory, all 0; no segment is attached, nothing is pending
abbrev pub dumped : List ℕ → List ℕ → List ℕ → ℕ → Board
dumped words records cache bytes = board (replicate 512 0) words records cache (replicate bytes 0) no_tag

-- the page is mapped to frame 0
abbrev pub one_page : List ℕ → List ℕ → Board
one_page records cache = dumped (word ∷ []) records cache 4096

-- both lines of the cache hold lines of the page
abbrev pub both_held : List ℕ
both_held = name ∷ clean 0 ∷ (name + 1) ∷ clean 1 ∷ []

-- the second says that it holds the physical line of the first: rule 3, and for it rule 4 too
abbrev pub held_twice : List ℕ
held_twice = name ∷ clean 0 ∷ (name + 1) ∷ clean 0 ∷ []

pub record DumpExamples : Type 0 where
  -- sound, with lines held
  pub accepted : checked one (one_page both_held (replicate 32 0)) ≡ yes
  -- rule 1: the cache is short of a byte
  pub lengths : checked one (one_page both_held (replicate 31 0)) ≡ report 1 0
  -- rule 2: two frames have the page, one of them read-only
  pub page_twice : checked two (dumped (word ∷ (first_page * 4 + 1) ∷ []) both_held (replicate 32 0) 8192) ≡ report 2 0
  -- but not where the lower one is below U
  pub below_u : checked (one_line 2 1 1 2) (dumped (word ∷ word ∷ []) (0 ∷ 0 ∷ 0 ∷ 0 ∷ []) (replicate 32 0) 8192) ≡ yes
  -- rule 3: of the two places the lower is given, though it is the other that is wrong
  pub line_twice : checked one (one_page held_twice (replicate 32 0)) ≡ report 3 0
  -- rule 4: a line under prefix 1, of a frame that is in use
  pub used_frame : checked one (one_page (prefix_lines ∷ clean 0 ∷ 0 ∷ 0 ∷ []) (replicate 32 0)) ≡ report 4 0
  -- the same of a free frame is fine
  pub free_frame_lem : checked one (dumped (0 ∷ []) (prefix_lines ∷ clean 0 ∷ 0 ∷ 0 ∷ []) (replicate 32 0) 4096) ≡ yes
  -- a prefix 1 line that may not be written; a read-only line of a writable page; a line of a page that isn't mapped; one of the page table region
  pub prefix_1_read_only : checked one (dumped (0 ∷ []) (prefix_lines ∷ 1 ∷ 0 ∷ 0 ∷ []) (replicate 32 0) 4096) ≡ report 4 0
  pub wrong_permission : checked one (one_page (name ∷ clean 0 ∷ (name + 1) ∷ 9 ∷ []) (replicate 32 0)) ≡ report 4 1
  pub not_mapped : checked one (dumped (0 ∷ []) both_held (replicate 32 0) 4096) ≡ report 4 0
  pub table_region : checked one (one_page (1023 * prefix_lines * 4 ∷ clean 0 ∷ 0 ∷ 0 ∷ []) (replicate 32 0)) ≡ report 4 0
  -- a changed line may differ from memory, and a valid record that holds nothing (beyond memory) breaks no rule
  pub changed_differs : checked one (one_page (name ∷ 7 ∷ (name + 1) ∷ clean 256 ∷ []) (1 ∷ replicate 31 0)) ≡ yes
  -- rule 5: a byte of the second line differs from memory
  pub differs : checked one (one_page both_held (replicate 31 0 ++ (1 ∷ []))) ≡ report 5 1
  -- a repair keeps the lower of the two and drops the other, and says so; what stood in the flags is overwritten
  pub repaired_report : (repair_board one (one_page held_twice (replicate 32 0)) (7 ∷ 7 ∷ [])).report ≡ with_dropped (report 3 0) 1
  pub repaired_records_lem : (repair_board one (one_page held_twice (replicate 32 0)) (7 ∷ 7 ∷ [])).store.records ≡ name ∷ clean 0 ∷ 0 ∷ 0 ∷ []
  pub repaired_flags : (repair_board one (one_page held_twice (replicate 32 0)) (7 ∷ 7 ∷ [])).flags ≡ 0 ∷ 1 ∷ []
