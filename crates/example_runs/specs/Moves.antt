-- CR 9, beside demand 3: a page is handed over. The premise on moves is met, and something happens; and it is needed,
-- for segments that are held only later too. Last, moves on boards that no calls reach.
-- Process 1, the importer, fills a page of its own segment. The page is moved into a segment of process 0, the recorder.
use Rattle.std.specs.Prelude.{ℕ, ◌<◌, ◌≡◌, true, false, List, [], ◌∷◌, ◌++◌, replicate, Some, None}
use Rattle.address.specs.Layout.{page_lines}
use Rattle.board.specs.Answers.{answer}
use Rattle.board.specs.declared.Shape.{Shape}
use Rattle.pages.specs.Pages.{frame_word, mapped_to}
use Rattle.line_bytes.specs.Bytes.{line_of}
use Rattle.lines.specs.Records.{word_of, line_at, no_line, new_line, changed_line}
use Rattle.machine.specs.Boards.{Board, board, no_tag, Fresh}
use Rattle.promises.specs.Runs.{attach, map, move, Call, user, supervisor, step, after}
use Rattle.promises.specs.Sound.{Sound}
use Rattle.promises.specs.Demand3.{holds, ever_holds, Apart, SameFor, replies_to, handed_line, handed_lines, MovesAlike, SameForProcess}
use Rattle.example_runs.specs.Examples.{shape, memory, start, load, save, answers, gets, line_with}

-- ---- the runs

-- every run but the last two opens so:
--   page 0x200400, of segment 2049, is mapped to frame 2
--   process 1 attaches segment 2049 to its slot 1, for writing
--   process 0 attaches segment 2048 to its slot 0, read-only; no page of it is mapped
abbrev pub importing : List Call → List Call
importing ks = supervisor (map 0x200400 2 true) ∷ supervisor (attach 1 1 2049 true) ∷ supervisor (attach 0 0 2048 false) ∷ ks

-- the page is handed over: page 0x200000 is of segment 2048
abbrev pub handing : List Call → List Call
handing ks = supervisor (move 0x200400 0x200000) ∷ ks

-- run H: the importer stores 50 at the start of its page: name 0x20040000, place 0, physical line 512. The page is handed over, and the recorder loads
-- the 50. The importer tries to load it once more
abbrev pub stores50 : List Call → List Call
stores50 ks = importing (save 1 4 0x400000 50 ∷ ks)

abbrev pub run_h : List Call
run_h = stores50 (handing (load 0 3 ∷ load 1 0x400003 ∷ []))

-- run I: run H with other accesses of the importer: it stores 7 first and 50 over it, loads it, and doesn't try again
abbrev pub run_i : List Call
run_i = importing (save 1 4 0x400000 7 ∷ save 1 4 0x400000 50 ∷ load 1 0x400003 ∷ handing (load 0 3 ∷ []))

-- run J: the importer stores 7, and that is handed over
abbrev pub run_j : List Call
run_j = importing (save 1 4 0x400000 7 ∷ handing (load 0 3 ∷ []))

-- runs K and L: runs H and J, but process 0 attaches segment 2048 only after the move. The importer's try at the end is left out
abbrev pub imports : ℕ → List Call → List Call
imports value ks = supervisor (map 0x200400 2 true) ∷ supervisor (attach 1 1 2049 true) ∷ save 1 4 0x400000 value ∷ ks

abbrev pub attaches_later : ℕ → List Call
attaches_later value = imports value (handing (supervisor (attach 0 0 2048 false) ∷ load 0 3 ∷ []))

abbrev pub run_k : List Call
run_k = attaches_later 50

abbrev pub run_l : List Call
run_l = attaches_later 7

-- ---- a page is handed over

pub record HandOver : Type 0 where
  -- the recorder gets the 50, from memory, and the importer's load is refused by 8
  pub answers_H : answers shape start run_h
      ≡ answer 0 0 0 ∷ answer 0 0 0 ∷ answer 0 0 0 ∷ answer 0 0 2 ∷ answer 0 0 0 ∷ answer 0 50 2 ∷ answer 8 0 0 ∷ []
  -- before the move the 50 is in the cache only, in record 0
  pub record_before : line_at (after shape start (stores50 [])).store.records 0 ≡ changed_line (new_line 0x20040000 512 true)
  pub memory_before : line_of (after shape start (stores50 [])).store.memory 512 ≡ line_with 0
  -- after it, in memory only
  pub record_after : line_at (after shape start (stores50 (handing []))).store.records 0 ≡ no_line
  pub memory_after : line_of (after shape start (stores50 (handing []))).store.memory 512 ≡ line_with 50
  -- the new page has the frame, and the old one has none
  pub new_mapped : mapped_to shape (after shape start (stores50 (handing []))).words 0x200000 ≡ Some 2
  pub old_unmapped : mapped_to shape (after shape start (stores50 (handing []))).words 0x200400 ≡ None

-- ---- demand 3

pub record MovesMet : Type 0 where
  -- runs H and I meet the premises of demand 3 for process 0
  pub same_calls : SameFor 0 run_h run_i
  pub premise_met : Apart shape start run_h 0
  pub moves_alike : MovesAlike shape start run_h run_i 0
  -- the premise on moves asks something here: the page comes into a segment that process 0 holds, from one that it never holds, and shows the 50
  pub held : ever_holds shape start run_h 0 2048 ≡ true
  pub not_held : ever_holds shape start run_h 0 2049 ≡ false
  pub handed : handed_lines (ever_holds shape start run_h 0) 0 shape start run_h ≡ [] ∷ [] ∷ [] ∷ line_with 50 ∷ []
  -- so what demand 3 promises holds of them
  pub promised : SameForProcess shape start start.store.memory run_h run_i 0
  pub replies_H : replies_to 0 shape start run_h ≡ gets 0 50 ∷ []
  pub replies_I : replies_to 0 shape start run_i ≡ gets 0 50 ∷ []

-- demand 3 without the premise on moves
abbrev pub AnyMoves : Type 0
AnyMoves =
    (s : Shape) (b : Board) → Fresh b → (ks ls : List Call) (process : ℕ) → SameFor process ks ls → Apart s b ks process → SameForProcess s b b.store.memory ks ls process

-- it fails: runs H and J meet the other premises, other bytes are handed over, and process 0 gets 50 or 7
pub record MovesNeeded : Type 0 where
  pub fresh_start : Fresh start
  pub same_calls : SameFor 0 run_h run_j
  pub premise_met : Apart shape start run_h 0
  pub moves_differ : MovesAlike shape start run_h run_j 0 → ⊥
  pub replies_H : replies_to 0 shape start run_h ≡ gets 0 50 ∷ []
  pub replies_J : replies_to 0 shape start run_j ≡ gets 0 7 ∷ []
  pub replies_differ : replies_to 0 shape start run_h ≡ replies_to 0 shape start run_j → ⊥
  pub fails : AnyMoves → ⊥

-- ---- "even if only later"

-- `handed_lines`, but S is what our process holds at the moment of each call
unfoldable pub handed_now : ℕ → ℕ → Shape → Board → List Call → List (List ℕ)
handed_now process i s b [] = []
handed_now process i s b (user q a e ∷ ks) = handed_now process i s (step s b (user q a e)).after ks
handed_now process i s b (supervisor c ∷ ks) =
    handed_line (λ segment. holds b.slots process segment) i s b c ∷ handed_now process i s (step s b (supervisor c)).after ks

-- another premise on moves: it asks only of the segments that our process holds at the moment of the move
abbrev pub MovesAlikeNow : Shape → Board → List Call → List Call → ℕ → Type 0
MovesAlikeNow s b ks ls process = (i : ℕ) → i < page_lines → handed_now process i s b ks ≡ handed_now process i s b ls

-- demand 3 with it
abbrev pub MovesNow : Type 0
MovesNow =
    (s : Shape) (b : Board) → Fresh b → (ks ls : List Call) (process : ℕ)
    → SameFor process ks ls → Apart s b ks process → MovesAlikeNow s b ks ls process → SameForProcess s b b.store.memory ks ls process

-- it fails: in runs K and L process 0 holds no segment when the page is moved. It attaches the page's new segment later, and gets 50 or 7
pub record LaterNeeded : Type 0 where
  pub fresh_start : Fresh start
  pub same_calls : SameFor 0 run_k run_l
  pub premise_met : Apart shape start run_k 0
  pub none_held : (segment : ℕ) → holds (after shape start (imports 50 [])).slots 0 segment ≡ false
  pub held_later : ever_holds shape start run_k 0 2048 ≡ true
  pub other_met : MovesAlikeNow shape start run_k run_l 0
  pub moves_differ : MovesAlike shape start run_k run_l 0 → ⊥
  pub replies_K : replies_to 0 shape start run_k ≡ gets 0 50 ∷ []
  pub replies_L : replies_to 0 shape start run_l ≡ gets 0 7 ∷ []
  pub replies_differ : replies_to 0 shape start run_k ≡ replies_to 0 shape start run_l → ⊥
  pub fails : MovesNow → ⊥

-- ---- boards that no calls reach: a line of the new page is held, though the page is not mapped

-- page 0x200400 in frame 2, nothing attached, and two changed lines, by name and physical line: record 0 with 50 in it, and record 1 with 7
abbrev pub wild : ℕ → ℕ → ℕ → ℕ → Board
wild name0 line0 name1 line1 =
    board (replicate 1024 0) (0 ∷ 0 ∷ frame_word 0x200400 true ∷ 0 ∷ [])
    (name0 ∷ word_of (changed_line (new_line name0 line0 true)) ∷ name1 ∷ word_of (changed_line (new_line name1 line1 true)) ∷ [])
    (line_with 50 ++ line_with 7) memory no_tag

-- a line of the new page, of a physical line in frame 3; and one of neither page beside it
abbrev pub wild_line : Board
wild_line = wild 0x20000000 768 0x20080001 769

-- two names of one physical line: the new page's at place 0 and the old one's at place 1, and the other way round
abbrev pub new_then_old : Board
new_then_old = wild 0x20000000 513 0x20040001 513

abbrev pub old_then_new : Board
old_then_new = wild 0x20040000 513 0x20000001 513

-- the page is handed over
abbrev pub handed : Board → Board
handed b = after shape b (handing [])

-- not sound, so not reached from any fresh board
pub record Wild (c : Board) : Type 0 where
  pub unsound : Sound shape c → ⊥
  pub unreached : (b : Board) → Fresh b → (ks : List Call) → after shape b ks ≡ c → ⊥

pub record WildMoves : Type 0 where
  pub wild_line_lem : Wild wild_line
  pub wild_new_then_old : Wild new_then_old
  pub wild_old_then_new : Wild old_then_new
  -- the move is done on each of them
  pub answers_line : answers shape wild_line (handing []) ≡ answer 0 0 0 ∷ []
  pub answers_new_then_old : answers shape new_then_old (handing []) ≡ answer 0 0 0 ∷ []
  pub answers_old_then_new : answers shape old_then_new (handing []) ≡ answer 0 0 0 ∷ []
  -- the new page's line goes to its own physical line, and its record is empty. The line beside it stays as it was
  pub line_memory : line_of (handed wild_line).store.memory 768 ≡ line_with 50
  pub line_record : line_at (handed wild_line).store.records 0 ≡ no_line
  pub beside_stays : line_at (handed wild_line).store.records 1 ≡ changed_line (new_line 0x20080001 769 true)
  -- one walk by rising place: of two names the line at the higher place is left in memory, be it the new page's or the old one's. Both records are empty
  pub new_then_old_lem : line_of (handed new_then_old).store.memory 513 ≡ line_with 7
  pub old_then_new_lem : line_of (handed old_then_new).store.memory 513 ≡ line_with 7
  pub records_new_then_old : (handed new_then_old).store.records ≡ 0 ∷ 0 ∷ 0 ∷ 0 ∷ []
  pub records_old_then_new : (handed old_then_new).store.records ≡ 0 ∷ 0 ∷ 0 ∷ 0 ∷ []
