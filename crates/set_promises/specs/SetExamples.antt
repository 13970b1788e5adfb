-- CR 4, computed on small boards: a run that fills a set of four, and the line that the set then gives up; a wild matrix, of which the same is false until each
-- line was used; two busy pages with one line in a set, and with four; a page handed over (CR 9); a board of two lines; and a fresh board of each edition.
use Rattle.std.specs.Prelude.{ℕ, ◌+◌, ◌*◌, ◌<◌, ◌≡◌, true, List, [], ◌∷◌, ◌++◌, replicate, set}
use Rattle.address.specs.Layout.{line_bytes, page_bytes, prefix_bytes, prefix_lines, process_slots}
use Rattle.address.specs.Addresses.{effective, global}
use Rattle.board.specs.Answers.{answer}
use Rattle.board.specs.Shapes.{record_words, matrices_of, one_line, four_lines}
use Rattle.board.specs.declared.Shape.{Shape}
use Rattle.board.specs.declared.Answer.{Answer}
use Rattle.slots.specs.Slots.{slot_word}
use Rattle.pages.specs.Pages.{frame_word}
use Rattle.line_bytes.specs.Bytes.{zeros}
use Rattle.sets.specs.Matrices.{all_ones, fresh_matrix}
use Rattle.lines.specs.Records.{line_at, put_line, no_line, new_line, changed_line}
use Rattle.lines.specs.Holds.{place_of, set_at}
use Rattle.machine.specs.Boards.{Board, sets_board, no_tag, Fresh, fresh, refused}
use Rattle.promises.specs.Values.{storing, loading}
use Rattle.promises.specs.Runs.{gained, access, move, Call, user, supervisor, step, next, after}
use Rattle.set_promises.specs.LastUses.{last_use, Squares, Full, victim_now, OldestUse}
use Rattle.set_promises.specs.Editions.{Edition, Twins}

-- the marks of a run: 1 where the line was held, 2 and 3 where it was refilled (3: over a changed line)
abbrev pub marks : Shape → Board → List Call → List ℕ
marks s b ks = gained (next s) (λ c k. (step s c k).answer.mark) b ks

-- the supervisor loads the first byte of a physical line under prefix 1, by the cache: its name is prefix_lines + line
abbrev pub load : ℕ → Call
load line = supervisor (access (loading 1 0) (global (prefix_bytes + line_bytes * line)))

-- ---- a full set

-- one frame, one process and eight lines: two sets, and record 4 is the first of the second one
abbrev pub shape : Shape
shape = four_lines 1 0 1 8

abbrev pub start : Board
start = fresh shape (zeros (line_bytes * 8)) (zeros page_bytes)

-- lines 1, 3, 5 and 7 take the records of the second set, 4 to 7, and line 1 is loaded again
abbrev pub run : List Call
run = load 1 ∷ load 3 ∷ load 5 ∷ load 7 ∷ load 1 ∷ []

pub record FullSet : Type 0 where
  -- it meets the premises of `VictimIsOldest`, for line 9
  pub fresh_start : Fresh start
  pub place_of_9 : place_of shape (prefix_lines + 9) ≡ 1
  pub full : Full shape (after shape start run) 1
  -- record 4 was used last by the fifth call, the others by the second, third and fourth
  pub last_uses : last_use shape start run 4 ∷ last_use shape start run 5 ∷ last_use shape start run 6 ∷ last_use shape start run 7 ∷ [] ≡ 5 ∷ 2 ∷ 3 ∷ 4 ∷ []
  -- so the victim is record 5
  pub victim_of_9 : victim_now shape (after shape start run) (prefix_lines + 9) ≡ 5
  pub promised : OldestUse shape start run 1 5
  -- line 9 takes its record: then line 1 is still held, and line 3 is not
  pub marks_are : marks shape start (run ++ (load 9 ∷ load 1 ∷ load 3 ∷ [])) ≡ 2 ∷ 2 ∷ 2 ∷ 2 ∷ 1 ∷ 2 ∷ 1 ∷ 2 ∷ []

-- ---- a wild matrix

-- four lines in one set, all held: lines 0 to 3
abbrev pub small : Shape
small = four_lines 1 0 1 4

abbrev pub held_lines : List ℕ
held_lines =
    put_line (put_line (put_line (put_line (replicate 8 0) 0 (new_line prefix_lines 0 true)) 1 (new_line (prefix_lines + 1) 1 true)) 2 (new_line (prefix_lines + 2) 2 true))
    3 (new_line (prefix_lines + 3) 3 true)

-- every entry of their matrix is 1, which no run from a fresh board leaves
abbrev pub wild : Board
wild =
    sets_board (replicate process_slots 0) (0 ∷ []) held_lines (zeros (line_bytes * 4)) (zeros page_bytes) ((all_ones ∷ all_ones ∷ all_ones ∷ all_ones ∷ []) ∷ []) no_tag

-- line 0 is loaded, and the set gives up line 0, which was used last: what `VictimIsOldest` says needs a fresh board to start from. It is false only until each
-- of the four lines was used (`OldestOnceUsed`): the other three were not
pub record WildMatrix : Type 0 where
  pub full : Full small (after small wild (load 0 ∷ [])) 0
  pub last_uses : last_use small wild (load 0 ∷ []) 0 ∷ last_use small wild (load 0 ∷ []) 1 ∷ [] ≡ 1 ∷ 0 ∷ []
  pub victim_of_4 : victim_now small (after small wild (load 0 ∷ [])) (prefix_lines + 4) ≡ 0
  pub not_oldest : OldestUse small wild (load 0 ∷ []) 0 0 → ⊥

-- each of them is loaded: lines 2, 0, 3 and 1
abbrev pub each : List Call
each = load 2 ∷ load 0 ∷ load 3 ∷ load 1 ∷ []

pub record EachUsed : Type 0 where
  -- it meets the premises of `OldestOnceUsed`, for line 4
  pub squares : Squares wild
  pub full : Full small (after small wild each) 0
  pub last_uses : last_use small wild each 0 ∷ last_use small wild each 1 ∷ last_use small wild each 2 ∷ last_use small wild each 3 ∷ [] ≡ 2 ∷ 4 ∷ 1 ∷ 3 ∷ []
  pub all_used : (i : ℕ) → set_at small i ≡ 0 → 0 < last_use small wild each i
  -- the victim is record 2, which was used first
  pub victim_of_4 : victim_now small (after small wild each) (prefix_lines + 4) ≡ 2
  pub promised : OldestUse small wild each 0 2

-- ---- two busy pages

-- two frames, one process and four lines, in either edition
abbrev pub busy : Edition → Shape
busy edition = edition 2 0 1 4

-- pages 0x200000 and 0x200001 are mapped, and the process has their segment; no line is held
abbrev pub pages : Edition → Board
pages edition =
    sets_board (set (replicate process_slots 0) 0 (slot_word 2048 true)) (frame_word 0x200000 true ∷ frame_word 0x200001 true ∷ []) (replicate (record_words * 4) 0)
    (zeros (line_bytes * 4)) (zeros (page_bytes * 2)) (replicate (matrices_of (busy edition)) fresh_matrix) no_tag

-- the process stores in the first line of the one and of the other, by turns: both names are 0 mod 4
abbrev pub turns : List Call
turns =
    user 0 (storing 1 7) (effective 0) ∷ user 0 (storing 1 7) (effective 0x1000) ∷ user 0 (storing 1 7) (effective 0)
    ∷ user 0 (storing 1 7) (effective 0x1000) ∷ []

pub record BusyPages : Type 0 where
  -- with one line in a set each pushes the other out
  pub pushing : marks (busy one_line) (pages one_line) turns ≡ 2 ∷ 3 ∷ 3 ∷ 3 ∷ []
  -- with four both stay
  pub staying : marks (busy four_lines) (pages four_lines) turns ≡ 2 ∷ 2 ∷ 1 ∷ 1 ∷ []

-- ---- a page handed over (CR 9)

-- the process stores in the first page, and the page is moved to page 0x200002, of the same segment. It loads there, and at the old page
abbrev pub stores : List Call
stores = user 0 (storing 1 7) (effective 0) ∷ []

abbrev pub hands : List Call
hands = stores ++ (supervisor (move 0x200000 0x200002) ∷ [])

abbrev pub loads : List Call
loads = user 0 (loading 1 0) (effective 0x2000) ∷ user 0 (loading 1 0) (effective 0) ∷ []

abbrev pub given : Edition → List Call → List Answer
given edition ks = gained (next (busy edition)) (λ c k. (step (busy edition) c k).answer) (pages edition) ks

pub record PageHanded : Type 0 where
  -- in either edition the 7 is loaded at the new page, and the load at the old one is refused by 8
  pub by_one : given one_line (hands ++ loads) ≡ answer 0 0 2 ∷ answer 0 0 0 ∷ answer 0 7 2 ∷ answer 8 0 0 ∷ []
  pub by_four : given four_lines (hands ++ loads) ≡ answer 0 0 2 ∷ answer 0 0 0 ∷ answer 0 7 2 ∷ answer 8 0 0 ∷ []
  -- the line leaves its set, and the matrix is left
  pub held_before : line_at (after (busy four_lines) (pages four_lines) stores).store.records 0 ≡ changed_line (new_line 0x20000000 0 true)
  pub none_after : line_at (after (busy four_lines) (pages four_lines) hands).store.records 0 ≡ no_line
  pub same_uses : (after (busy four_lines) (pages four_lines) hands).uses ≡ (after (busy four_lines) (pages four_lines) stores).uses

-- ---- two lines

-- with one line in a set a board may have two; with sets of four it is refused by 1. (It has no matrix in either edition)
abbrev pub two : Edition → Shape
two edition = edition 1 0 1 2

abbrev pub two_lines : Board
two_lines = fresh (two one_line) (zeros (line_bytes * 2)) (zeros page_bytes)

pub record TwoLines : Type 0 where
  pub taken : (step (two one_line) two_lines (load 0)).answer.number ≡ 0
  pub refused_by_1 : step (two four_lines) two_lines (load 0) ≡ refused two_lines 1

-- ---- the two editions side by side

-- the fresh board of the full set above, and one of 01's edition with the same numbers meet the premises of `other_refusals_stay`
abbrev pub TwinBoards : Type 0
TwinBoards = Twins 1 0 1 8 (fresh (one_line 1 0 1 8) (zeros (line_bytes * 8)) (zeros page_bytes)) start

pub record SetExamples : Type 0 where
  pub full_set : FullSet
  pub wild_matrix : WildMatrix
  pub each_used : EachUsed
  pub busy_pages : BusyPages
  pub page_handed : PageHanded
  pub two_lines_lem : TwoLines
  pub twin_boards : TwinBoards
