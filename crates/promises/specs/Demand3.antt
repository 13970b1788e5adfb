-- Demand 3. What one process gets does not depend on the accesses of the others. With moves (CR 9) that needs one premise more. It holds from any sound
-- board (CR 13), not only from a fresh one.
use Rattle.std.specs.Prelude.{ℕ, zero, suc, ◌+◌, ◌*◌, ◌/◌, ◌<◌, ◌≡◌, Bool, true, false, not, ◌&&◌, ◌||◌, cond, List, [], ◌∷◌, get_or, eqb, Some}
use Rattle.address.specs.Layout.{segment_bytes, page_bytes, page_lines, process_slots}
use Rattle.slots.specs.Slots.{slot_index, slot_segment, slot_writes, slot_empty}
use Rattle.pages.specs.Pages.{mapped_to}
use Rattle.board.specs.declared.Shape.{Shape}
use Rattle.machine.specs.Boards.{Board, Fresh}
use Rattle.machine.specs.Calls.{found_frame}
use Rattle.machine.specs.Looks.{look}
use Rattle.promises.specs.Runs.{some_moment, Supervisor, access, attach, detach, map, unmap, protect, move, flush_all, tag, load_and_map, drop_tag, Call, user, supervisor, supervise, Reply, reply, step, next, after, plain_reply, plain_step, plain_of}
use Rattle.promises.specs.Plain.{Plain}
use Rattle.promises.specs.Sound.{Sound, Shows, LinesOnce, ValidHolds, ValidOnce}

-- ---- holding a segment, read off the slots

-- this slot word holds the segment, for writing or not
abbrev pub word_holds : ℕ → ℕ → Bool
word_holds segment word = not (slot_empty word) && eqb (slot_segment word) segment

abbrev pub word_writes_to : ℕ → ℕ → Bool
word_writes_to segment word = word_holds segment word && slot_writes word

-- one of the first n slots of the process passes the test
unfoldable pub some_slot : (ℕ → Bool) → List ℕ → ℕ → ℕ → Bool
some_slot test slots process zero = false
some_slot test slots process (suc n) = test (get_or slots (slot_index process n) 0) || some_slot test slots process n

-- the process holds the segment; it holds it for writing
abbrev pub holds : List ℕ → ℕ → ℕ → Bool
holds slots process segment = some_slot (word_holds segment) slots process process_slots

abbrev pub holds_for_writing : List ℕ → ℕ → ℕ → Bool
holds_for_writing slots process segment = some_slot (word_writes_to segment) slots process process_slots

-- at some moment of a run
abbrev pub at_some_moment : (List ℕ → Bool) → Shape → Board → List Call → Bool
at_some_moment test s b ks = some_moment (λ c. test c.slots) (next s) b ks

abbrev pub ever_holds : Shape → Board → List Call → ℕ → ℕ → Bool
ever_holds s b ks process segment = at_some_moment (λ slots. holds slots process segment) s b ks

abbrev pub ever_writes : Shape → Board → List Call → ℕ → ℕ → Bool
ever_writes s b ks process segment = at_some_moment (λ slots. holds_for_writing slots process segment) s b ks

-- no segment that the process holds at any moment of a run is held for writing by another process at any moment of it;
-- `ever` says of a test whether the slots pass it at some moment of that run
abbrev pub ApartIn : ((List ℕ → Bool) → Bool) → Shape → ℕ → Type 0
ApartIn ever s process =
    (segment other : ℕ) → other < s.processes → (other ≡ process → ⊥)
    → ever (λ slots. holds slots process segment) ≡ true → ever (λ slots. holds_for_writing slots other segment) ≡ true → ⊥

-- of the run of a list of calls
abbrev pub Apart : Shape → Board → List Call → ℕ → Type 0
Apart s b ks process = ApartIn (λ test. at_some_moment test s b ks) s process

-- ---- two runs

-- the calls without the accesses of the other processes
unfoldable pub without_others : ℕ → List Call → List Call
without_others process [] = []
without_others process (user q a e ∷ ks) = cond (eqb q process) (user q a e ∷ without_others process ks) (without_others process ks)
without_others process (supervisor c ∷ ks) = supervisor c ∷ without_others process ks

-- the same supervisor calls and the same accesses by our process, in the same order
abbrev pub SameFor : ℕ → List Call → List Call → Type 0
SameFor process ks ls = without_others process ks ≡ without_others process ls

-- what our process gets: the replies to its accesses, in order
unfoldable pub replies_to : ℕ → Shape → Board → List Call → List Reply
replies_to process s b [] = []
replies_to process s b (user q a e ∷ ks) =
    cond (eqb q process) (reply (step s b (user q a e)).answer ∷ replies_to process s (step s b (user q a e)).after ks)
    (replies_to process s (step s b (user q a e)).after ks)
replies_to process s b (supervisor c ∷ ks) = replies_to process s (step s b (supervisor c)).after ks

unfoldable pub plain_replies_to : ℕ → Shape → Plain → List Call → List Reply
plain_replies_to process s p [] = []
plain_replies_to process s p (user q a e ∷ ks) =
    cond (eqb q process) (plain_reply (plain_step s p (user q a e)) ∷ plain_replies_to process s (plain_step s p (user q a e)).after ks)
    (plain_replies_to process s (plain_step s p (user q a e)).after ks)
plain_replies_to process s p (supervisor c ∷ ks) = plain_replies_to process s (plain_step s p (supervisor c)).after ks

-- the segment of a page
abbrev pub segment_of_page : ℕ → ℕ
segment_of_page page = page / (segment_bytes / page_bytes)

-- ---- pages that are moved in (CR 9)

-- the page that a supervisor's call moves, and its new page; `nothing`: the call is no move
pub data Moves : Type 0 where
  moves : ℕ → ℕ → Moves
  nothing : Moves

unfoldable pub moves_of : Supervisor → Moves
moves_of (access a g) = nothing
moves_of (attach process slot segment write) = nothing
moves_of (detach process slot) = nothing
moves_of (map page frame write) = nothing
moves_of (unmap page) = nothing
moves_of (protect page write) = nothing
moves_of (move page new) = moves page new
moves_of flush_all = nothing
moves_of (tag name) = nothing
moves_of (load_and_map line) = nothing
moves_of drop_tag = nothing

-- line i of a mapped page, as look shows it
abbrev pub page_line : Shape → Board → ℕ → ℕ → List ℕ
page_line s b page i = look s b (found_frame (mapped_to s b.words page) * page_lines + i)

-- is the call done?
abbrev pub is_done : Shape → Board → Supervisor → Bool
is_done s b c = eqb (supervise s b c).answer.number 0

-- S tells which segments are meant. Line i of the page that a supervisor's call moves into a segment of S, from one that is not of S, at
-- the moment before the call; the empty list, if the call is no such move or is refused
unfoldable pub handed_by : (ℕ → Bool) → ℕ → Shape → Board → Supervisor → Moves → List ℕ
handed_by S i s b c (moves page new) = cond (is_done s b c && (S (segment_of_page new) && not (S (segment_of_page page)))) (page_line s b page i) []
handed_by S i s b c nothing = []

abbrev pub handed_line : (ℕ → Bool) → ℕ → Shape → Board → Supervisor → List ℕ
handed_line S i s b c = handed_by S i s b c (moves_of c)

-- one entry for each of the supervisor's calls of a run, in order
unfoldable pub handed_lines : (ℕ → Bool) → ℕ → Shape → Board → List Call → List (List ℕ)
handed_lines S i s b [] = []
handed_lines S i s b (user q a e ∷ ks) = handed_lines S i s (step s b (user q a e)).after ks
handed_lines S i s b (supervisor c ∷ ks) = handed_line S i s b c ∷ handed_lines S i s (step s b (supervisor c)).after ks

-- a page that is moved into a segment that our process holds at any moment of the run, even if only later, has the same bytes in the two runs when it is
-- moved, or comes from such a segment. (The runs have the same supervisor calls, so entry n of the two lists is of the same call.)
abbrev pub MovesAlike : Shape → Board → List Call → List Call → ℕ → Type 0
MovesAlike s b ks ls process =
    (i : ℕ) → i < page_lines → handed_lines (ever_holds s b ks process) i s b ks ≡ handed_lines (ever_holds s b ks process) i s b ls

-- ---- what is promised

-- what the two runs ks and ls from the board b have in common for our process; the plain machine starts from its slots, words and tag and this memory
pub record SameForProcess (s : Shape) (b : Board) (memory : List ℕ) (ks ls : List Call) (process : ℕ) : Type 0 where
  -- our process gets the same answers and values
  pub same_replies : replies_to process s b ks ≡ replies_to process s b ls
  -- and in each run they are those that the plain machine gives in that run
  pub plain_replies_lem : replies_to process s b ks ≡ plain_replies_to process s (plain_of b memory) ks
  pub plain_replies_second : replies_to process s b ls ≡ plain_replies_to process s (plain_of b memory) ls
  -- at the end the page map is the same, and the same bytes, read through the cache, stand in every mapped page of every segment
  -- that the process holds at any moment of the run
  pub same_map : (after s b ks).words ≡ (after s b ls).words
  pub same_bytes : (page frame line : ℕ) → ever_holds s b ks process (segment_of_page page) ≡ true
      → mapped_to s (after s b ks).words page ≡ Some frame → line / page_lines ≡ frame
      → look s (after s b ks) line ≡ look s (after s b ls) line

-- the premise on segments may be read off either run: of any board at all, if the one meets it, so does the other
abbrev pub ApartEither : Type 0
ApartEither = (s : Shape) (b : Board) (ks ls : List Call) (process : ℕ) → SameFor process ks ls → Apart s b ks process → Apart s b ls process

-- at no moment are two cached lines copies of one physical line
abbrev pub OneCopy : Type 0
OneCopy = (s : Shape) (b : Board) → Fresh b → (ks : List Call) → LinesOnce s (after s b ks).store

-- every valid record holds a line: on a board of which that is so it stays so, whatever the numbers and calls
abbrev pub ValidHoldsStays : Type 0
ValidHoldsStays = (s : Shape) (b : Board) → ValidHolds s b.store → (ks : List Call) → ValidHolds s (after s b ks).store

-- and so it is at every moment from a fresh board
abbrev pub EveryValidHolds : Type 0
EveryValidHolds = (s : Shape) (b : Board) → Fresh b → (ks : List Call) → ValidHolds s (after s b ks).store

-- at no moment, then, do two valid records have one physical line
abbrev pub OneCopyValid : Type 0
OneCopyValid = (s : Shape) (b : Board) → Fresh b → (ks : List Call) → ValidOnce (after s b ks).store

unfoldable pub is_nothing : Moves → Bool
is_nothing (moves page new) = false
is_nothing nothing = true

-- no call of the run is a move
unfoldable pub no_move : List Call → Bool
no_move [] = true
no_move (user q a e ∷ ks) = no_move ks
no_move (supervisor c ∷ ks) = is_nothing (moves_of c) && no_move ks

pub record Demand3 : Type 0 where
  pub apart : (s : Shape) (b : Board) → Fresh b → (ks ls : List Call) (process : ℕ)
      → SameFor process ks ls → Apart s b ks process → MovesAlike s b ks ls process → SameForProcess s b b.store.memory ks ls process
  -- without moves, as it was: the further premise asks nothing then, of any board at all
  pub without_moves : (s : Shape) (b : Board) (ks ls : List Call) (process : ℕ) → SameFor process ks ls → no_move ks ≡ true → MovesAlike s b ks ls process
  pub apart_either : ApartEither
  -- the same of the premise on moves
  pub moves_either : (s : Shape) (b : Board) (ks ls : List Call) (process : ℕ) → SameFor process ks ls → MovesAlike s b ks ls process → MovesAlike s b ls ks process
  pub one_copy : OneCopy
  pub every_valid_holds : EveryValidHolds
  pub one_copy_valid : OneCopyValid

-- from any sound board, with a memory that has the bytes that look shows
pub record Demand3Sound : Type 0 where
  pub apart : (s : Shape) (b : Board) (memory : List ℕ) → Sound s b → Shows s b memory → (ks ls : List Call) (process : ℕ)
      → SameFor process ks ls → Apart s b ks process → MovesAlike s b ks ls process → SameForProcess s b memory ks ls process
  pub one_copy : (s : Shape) (b : Board) → Sound s b → (ks : List Call) → LinesOnce s (after s b ks).store
