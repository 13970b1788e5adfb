-- Runs beside the order between strangers (CR 14), in either edition: one with a reordering that is no single swap, by two processes that both store; and the same
-- run with two accesses exchanged of which the one reads what the other writes.
use Rattle.std.specs.Prelude.{ℕ, ◌*◌, ◌<◌, ◌≡◌, true, false, List, [], ◌∷◌, ◌++◌, get_or, replicate, set}
use Rattle.address.specs.Layout.{line_bytes, page_bytes, process_slots}
use Rattle.board.specs.Answers.{answer}
use Rattle.board.specs.Shapes.{record_words, matrices_of, one_line, four_lines}
use Rattle.board.specs.declared.Shape.{Shape}
use Rattle.slots.specs.Slots.{slot_word}
use Rattle.pages.specs.Pages.{frame_word}
use Rattle.line_bytes.specs.Bytes.{zeros}
use Rattle.sets.specs.Matrices.{fresh_matrix}
use Rattle.machine.specs.Boards.{Board, sets_board, no_tag}
use Rattle.promises.specs.Runs.{attach, Call, supervisor, after, replies}
use Rattle.promises.specs.Sound.{Sound}
use Rattle.promises.specs.Brought.{EachBrings, bringing}
use Rattle.promises.specs.Lists.{Turn, single, list, calls_of}
use Rattle.order_promises.specs.Strangers.{Strangers, calls, broughts, reply_at}
use Rattle.order_promises.specs.Reorderings.{Reordering}
use Rattle.order_promises.specs.Order.{SameReordered, SameOfLists}
use Rattle.example_runs.specs.Examples.{load, save, answers, gets}
use Rattle.example_runs.specs.Lists.{buffer}

-- ---- the board

-- two frames, two processes and four lines, in either edition
abbrev pub Edition : Type 0
Edition = ℕ → ℕ → ℕ → ℕ → Shape

abbrev pub two_processes : Edition → Shape
two_processes edition = edition 2 0 2 4

-- each process holds a segment of its own for writing (2048 and 2049, at its slot 0), and a page of each is mapped; no line is held
abbrev pub own_slots : List ℕ
own_slots = set (set (replicate (2 * process_slots) 0) 0 (slot_word 2048 true)) process_slots (slot_word 2049 true)

abbrev pub own_pages : Edition → Board
own_pages edition =
    sets_board own_slots (frame_word 0x200000 true ∷ frame_word 0x200400 true ∷ []) (replicate (record_words * 4) 0) (zeros (line_bytes * 4)) (zeros (page_bytes * 2))
    (replicate (matrices_of (two_processes edition)) fresh_matrix) no_tag

-- ---- the runs

-- then process 1 attaches segment 2048 too, read-only, at its slot 1
abbrev pub sharing : List Call → List Call
sharing ks = supervisor (attach 1 1 2048 false) ∷ ks

-- run E: the two store and load by turns; then they share, process 0 stores again, and process 1 loads what it stored
abbrev pub turns : List Call
turns = save 0 1 3 50 ∷ save 1 1 3 7 ∷ load 0 3 ∷ load 1 3 ∷ []

abbrev pub run_e : List Call
run_e = turns ++ sharing (save 0 1 3 51 ∷ load 1 0x400003 ∷ [])

-- run F: process 1 comes first with both its accesses; what follows the attach stays
abbrev pub run_f : List Call
run_f = save 1 1 3 7 ∷ load 1 3 ∷ save 0 1 3 50 ∷ load 0 3 ∷ sharing (save 0 1 3 51 ∷ load 1 0x400003 ∷ [])

-- run G: run E with the last two exchanged
abbrev pub run_g : List Call
run_g = turns ++ sharing (load 1 0x400003 ∷ save 0 1 3 51 ∷ [])

-- where the calls of run E stand in run F
abbrev pub places_f : List ℕ
places_f = 2 ∷ 0 ∷ 3 ∷ 1 ∷ 4 ∷ 5 ∷ 6 ∷ []

-- ---- what they show

-- two lists differ by more than a swap of two neighbours
abbrev pub NoSingleSwap : List Call → List Call → Type 0
NoSingleSwap ks ls = (before : List Call) (k l : Call) (behind : List Call) → ks ≡ before ++ k ∷ l ∷ behind → ls ≡ before ++ l ∷ k ∷ behind → ⊥

pub record ExampleOrder (edition : Edition) : Type 0 where
  -- the premises: the board is sound, the two are strangers, and run F is a reordering of run E
  pub sound : Sound (two_processes edition) (own_pages edition)
  pub strangers : Strangers (own_pages edition).slots 0 1
  pub reordering : Reordering (calls (two_processes edition)) (own_pages edition) run_e run_f
  pub goes : (i : ℕ) → i < 7 → reordering.places.to i ≡ get_or places_f i 0
  pub no_single_swap : NoSingleSwap run_e run_f
  -- so what is promised holds of them
  pub promised : SameReordered (calls (two_processes edition)) (two_processes edition) (own_pages edition) run_e run_f reordering.places.to
  -- each call gets the same in both, at its place
  pub replies_E : replies (two_processes edition) (own_pages edition) run_e ≡ gets 0 0 ∷ gets 0 0 ∷ gets 0 50 ∷ gets 0 7 ∷ gets 0 0 ∷ gets 0 0 ∷ gets 0 51 ∷ []
  pub replies_F : replies (two_processes edition) (own_pages edition) run_f ≡ gets 0 0 ∷ gets 0 7 ∷ gets 0 0 ∷ gets 0 50 ∷ gets 0 0 ∷ gets 0 0 ∷ gets 0 51 ∷ []

-- after the attach the two are no strangers: process 0 holds for writing what process 1 holds. With their accesses exchanged process 1 gets 50 and not 51
pub record BrokenOrder (edition : Edition) : Type 0 where
  pub no_strangers : Strangers (after (two_processes edition) (own_pages edition) (turns ++ sharing [])).slots 0 1 → ⊥
  pub no_reordering : Reordering (calls (two_processes edition)) (own_pages edition) run_e run_g → ⊥
  pub replies_G : replies (two_processes edition) (own_pages edition) run_g ≡ gets 0 0 ∷ gets 0 0 ∷ gets 0 50 ∷ gets 0 7 ∷ gets 0 0 ∷ gets 0 50 ∷ gets 0 0 ∷ []
  pub values_differ : reply_at (replies (two_processes edition) (own_pages edition) run_g) 5 ≡ reply_at (replies (two_processes edition) (own_pages edition) run_e) 6 → ⊥

-- ---- with lists

-- run E with its accesses in two lists, the attach between them
abbrev pub lists_e : Shape → List Turn
lists_e s =
    list s (0 ∷ 1 ∷ 1 ∷ 3 ∷ 50 ∷ 1 ∷ 1 ∷ 1 ∷ 3 ∷ 7 ∷ 0 ∷ 0 ∷ 1 ∷ 3 ∷ 0 ∷ 1 ∷ 0 ∷ 1 ∷ 3 ∷ 0 ∷ []) (buffer 4) ∷ single s (supervisor (attach 1 1 2048 false))
    ∷ list s (0 ∷ 1 ∷ 1 ∷ 3 ∷ 51 ∷ 1 ∷ 0 ∷ 1 ∷ 0x400003 ∷ 0 ∷ []) (buffer 2) ∷ []

-- run F with the accesses of process 1 in a list, and the others alone
abbrev pub lists_f : Shape → List Turn
lists_f s =
    list s (1 ∷ 1 ∷ 1 ∷ 3 ∷ 7 ∷ 1 ∷ 0 ∷ 1 ∷ 3 ∷ 0 ∷ []) (buffer 2) ∷ single s (save 0 1 3 50) ∷ single s (load 0 3)
    ∷ single s (supervisor (attach 1 1 2048 false)) ∷ single s (save 0 1 3 51) ∷ single s (load 1 0x400003) ∷ []

pub record ExampleLists (edition : Edition) : Type 0 where
  -- they stand for the calls of runs E and F, and meet the premises
  pub calls_E : calls_of (own_pages edition) (lists_e (two_processes edition)) ≡ bringing (two_processes edition) run_e
  pub calls_F : calls_of (own_pages edition) (lists_f (two_processes edition)) ≡ bringing (two_processes edition) run_f
  pub brings : EachBrings (two_processes edition) (own_pages edition) (calls_of (own_pages edition) (lists_e (two_processes edition)))
  pub reordering : Reordering (broughts (two_processes edition)) (own_pages edition)
      (calls_of (own_pages edition) (lists_e (two_processes edition))) (calls_of (own_pages edition) (lists_f (two_processes edition)))
  pub promised : SameOfLists (two_processes edition) (own_pages edition) (lists_e (two_processes edition)) (lists_f (two_processes edition)) reordering.places.to

pub record OrderExamples : Type 0 where
  pub one_line_lem : ExampleOrder one_line
  pub four_lines_lem : ExampleOrder four_lines
  pub lists_one_line : ExampleLists one_line
  pub lists_four_lines : ExampleLists four_lines
  pub broken_one_line : BrokenOrder one_line
  pub broken_four_lines : BrokenOrder four_lines
  -- only the marks differ: with one line in a set the two push each other's line out in run E; and the records, here with sets of four
  pub marks_E : answers (two_processes one_line) (own_pages one_line) run_e
      ≡ answer 0 0 2 ∷ answer 0 0 3 ∷ answer 0 50 3 ∷ answer 0 7 2 ∷ answer 0 0 0 ∷ answer 0 0 2 ∷ answer 0 51 1 ∷ []
  pub marks_F : answers (two_processes one_line) (own_pages one_line) run_f
      ≡ answer 0 0 2 ∷ answer 0 7 1 ∷ answer 0 0 3 ∷ answer 0 50 1 ∷ answer 0 0 0 ∷ answer 0 0 1 ∷ answer 0 51 1 ∷ []
  pub records_differ : (after (two_processes four_lines) (own_pages four_lines) run_e).store.records
      ≡ (after (two_processes four_lines) (own_pages four_lines) run_f).store.records → ⊥
