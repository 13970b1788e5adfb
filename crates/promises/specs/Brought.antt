-- Demands 2 and 3 of runs in which each call brings its own numbers F, U, P and L, as a caller's calls do.
-- The lengths of the buffers pin F, P and L, but not U, which belongs to the board. So each call has to bring the board's own numbers, or numbers
-- that don't fit the buffers; such a call is refused by number 1, on both machines.
-- (The board has its matrices here, so they pin the edition too. The functions of 01's edition for C and Rust are lent none and can't notice a board of
-- the other: a caller keeps to one edition's functions.)
use Prim.{Unit}
use Rattle.std.specs.Prelude.{ℕ, ◌/◌, ◌<◌, ◌≡◌, Bool, true, false, cond, List, [], ◌∷◌, eqb, Some}
use Rattle.address.specs.Layout.{page_lines}
use Rattle.pages.specs.Pages.{mapped_to}
use Rattle.board.specs.declared.Shape.{Shape}
use Rattle.machine.specs.Boards.{Board, fits_board, Fresh}
use Rattle.machine.specs.Looks.{look_number, look}
use Rattle.promises.specs.Plain.{Plain, plain_look, plain_look_number}
use Rattle.promises.specs.Runs.{ran, gained, some_moment, Call, user, supervisor, Reply, reply, step, next, after, replies, plain_reply, plain_step, plain_next, plain_of}
use Rattle.promises.specs.Sound.{Sound, Shows, LinesOnce, ValidHolds, ValidOnce}
use Rattle.promises.specs.Demand3.{holds, ApartIn, segment_of_page, handed_line, no_move}

-- ---- what the buffers pin

pub record SameButUncached (s t : Shape) : Type 0 where
  pub same_frames : s.frames ≡ t.frames
  pub same_processes : s.processes ≡ t.processes
  pub same_lines : s.lines ≡ t.lines
  pub same_ways : s.ways ≡ t.ways

-- two shapes that fit the same buffers, the matrices among them, agree in F, P and L and in the lines in a set
abbrev pub Pinned : Type 0
Pinned = (s t : Shape) (b : Board) → fits_board s b ≡ true → fits_board t b ≡ true → SameButUncached s t

-- ---- the runs

-- a call with the numbers that it brings
pub data Brought : Type 0 where
  bring : Shape → Call → Brought

-- the board after a list of such calls, and the replies in order
unfoldable pub brought_next : Board → Brought → Board
brought_next b (bring t k) = next t b k

unfoldable pub brought_reply : Board → Brought → Reply
brought_reply b (bring t k) = reply (step t b k).answer

abbrev pub brought_after : Board → List Brought → Board
brought_after b ks = ran brought_next b ks

abbrev pub brought_replies : Board → List Brought → List Reply
brought_replies b ks = gained brought_next brought_reply b ks

-- the plain machine, with the same calls and numbers
unfoldable pub plain_brought_next : Plain → Brought → Plain
plain_brought_next p (bring t k) = plain_next t p k

unfoldable pub plain_brought_reply : Plain → Brought → Reply
plain_brought_reply p (bring t k) = plain_reply (plain_step t p k)

abbrev pub plain_brought_after : Plain → List Brought → Plain
plain_brought_after p ks = ran plain_brought_next p ks

abbrev pub plain_brought_replies : Plain → List Brought → List Reply
plain_brought_replies p ks = gained plain_brought_next plain_brought_reply p ks

-- the numbers t, brought to the board b whose own are s
pub data Brings (s : Shape) (b : Board) (t : Shape) : Type 0 where
  own : t ≡ s → Brings s b t  -- are its own
  unfit : fits_board t b ≡ false → Brings s b t  -- or don't fit its buffers

-- at each call, with the board as it stands at that call
unfoldable pub EachBrings : Shape → Board → List Brought → Type 0
EachBrings s b [] = Unit {0}
EachBrings s b (bring t k ∷ ks) = Brings s b t × EachBrings s (step t b k).after ks

-- a list of calls that all bring s is the run of that list in the shape s, and meets the premise
unfoldable pub bringing : Shape → List Call → List Brought
bringing s [] = []
bringing s (k ∷ ks) = bring s k ∷ bringing s ks

pub record RunOfOneShape (s : Shape) (b : Board) (ks : List Call) : Type 0 where
  pub premise_met : EachBrings s b (bringing s ks)
  pub same_after : brought_after b (bringing s ks) ≡ after s b ks
  pub same_replies : brought_replies b (bringing s ks) ≡ replies s b ks

abbrev pub OneShape : Type 0
OneShape = (s : Shape) (b : Board) (ks : List Call) → RunOfOneShape s b ks

-- ---- demand 2

-- the board, run from b, is the plain machine, run from the same slots, words and tag and this memory
pub record BroughtAlike (s : Shape) (b : Board) (memory : List ℕ) (ks : List Brought) : Type 0 where
  pub same_replies : brought_replies b ks ≡ plain_brought_replies (plain_of b memory) ks
  -- at every moment look shows the plain machine's memory, if it brings numbers as the calls do (`ks` is any list, so any first part of a run too)
  pub same_bytes : (t : Shape) → Brings s (brought_after b ks) t → (line : ℕ)
      → look t (brought_after b ks) line ≡ plain_look t (plain_brought_after (plain_of b memory) ks) line
  pub same_look_number : (t : Shape) → Brings s (brought_after b ks) t → (line : ℕ)
      → look_number t (brought_after b ks) line ≡ plain_look_number t (plain_brought_after (plain_of b memory) ks) line
  -- a call that the plain machine does is done in that same call
  pub done_at_once : (t : Shape) → Brings s (brought_after b ks) t → (k : Call)
      → (plain_step t (plain_brought_after (plain_of b memory) ks) k).number ≡ 0 → (step t (brought_after b ks) k).answer.number ≡ 0

-- of any fresh board, whatever its own numbers
abbrev pub BroughtDemand2 : Type 0
BroughtDemand2 = (s : Shape) (b : Board) → Fresh b → (ks : List Brought) → EachBrings s b ks → BroughtAlike s b b.store.memory ks

-- of any sound board, which stays sound
pub record BroughtSoundRun (s : Shape) (b : Board) (memory : List ℕ) (ks : List Brought) : Type 0 where
  pub alike : BroughtAlike s b memory ks
  pub sound : Sound s (brought_after b ks)

abbrev pub BroughtDemand2Sound : Type 0
BroughtDemand2Sound =
    (s : Shape) (b : Board) (memory : List ℕ) → Sound s b → Shows s b memory → (ks : List Brought) → EachBrings s b ks → BroughtSoundRun s b memory ks

-- ---- demand 3

-- the slots pass the test at some moment of the run
abbrev pub brought_at_some_moment : (List ℕ → Bool) → Board → List Brought → Bool
brought_at_some_moment test b ks = some_moment (λ c. test c.slots) brought_next b ks

abbrev pub BroughtApart : Shape → Board → List Brought → ℕ → Type 0
BroughtApart s b ks process = ApartIn (λ test. brought_at_some_moment test b ks) s process

-- the calls, with their numbers, without the accesses of the other processes
unfoldable pub brought_without_others : ℕ → List Brought → List Brought
brought_without_others process [] = []
brought_without_others process (bring t (user q a e) ∷ ks) =
    cond (eqb q process) (bring t (user q a e) ∷ brought_without_others process ks) (brought_without_others process ks)
brought_without_others process (bring t (supervisor c) ∷ ks) = bring t (supervisor c) ∷ brought_without_others process ks

-- line i of each page that is moved into a segment of S from elsewhere, at the moment before the move: an entry for each of the supervisor's calls, as in
-- `handed_lines`
unfoldable pub brought_handed_lines : (ℕ → Bool) → ℕ → Board → List Brought → List (List ℕ)
brought_handed_lines S i b [] = []
brought_handed_lines S i b (bring t (user q a e) ∷ ks) = brought_handed_lines S i (step t b (user q a e)).after ks
brought_handed_lines S i b (bring t (supervisor c) ∷ ks) = handed_line S i t b c ∷ brought_handed_lines S i (step t b (supervisor c)).after ks

abbrev pub BroughtMovesAlike : Board → List Brought → List Brought → ℕ → Type 0
BroughtMovesAlike b ks ls process =
    (i : ℕ) → i < page_lines
    → brought_handed_lines (λ segment. brought_at_some_moment (λ slots. holds slots process segment) b ks) i b ks
    ≡ brought_handed_lines (λ segment. brought_at_some_moment (λ slots. holds slots process segment) b ks) i b ls

-- the calls without their numbers
unfoldable pub brought_calls : List Brought → List Call
brought_calls [] = []
brought_calls (bring t k ∷ ks) = k ∷ brought_calls ks

-- what our process gets
unfoldable pub brought_replies_to : ℕ → Board → List Brought → List Reply
brought_replies_to process b [] = []
brought_replies_to process b (bring t (user q a e) ∷ ks) =
    cond (eqb q process) (reply (step t b (user q a e)).answer ∷ brought_replies_to process (step t b (user q a e)).after ks)
    (brought_replies_to process (step t b (user q a e)).after ks)
brought_replies_to process b (bring t (supervisor c) ∷ ks) = brought_replies_to process (step t b (supervisor c)).after ks

unfoldable pub plain_brought_replies_to : ℕ → Plain → List Brought → List Reply
plain_brought_replies_to process p [] = []
plain_brought_replies_to process p (bring t (user q a e) ∷ ks) =
    cond (eqb q process) (plain_reply (plain_step t p (user q a e)) ∷ plain_brought_replies_to process (plain_step t p (user q a e)).after ks)
    (plain_brought_replies_to process (plain_step t p (user q a e)).after ks)
plain_brought_replies_to process p (bring t (supervisor c) ∷ ks) = plain_brought_replies_to process (plain_step t p (supervisor c)).after ks

-- what the two runs ks and ls from the board b, whose own numbers are s, have in common for our process
pub record BroughtSameForProcess (s : Shape) (b : Board) (memory : List ℕ) (ks ls : List Brought) (process : ℕ) : Type 0 where
  pub same_replies : brought_replies_to process b ks ≡ brought_replies_to process b ls
  pub plain_replies_lem : brought_replies_to process b ks ≡ plain_brought_replies_to process (plain_of b memory) ks
  pub plain_replies_second : brought_replies_to process b ls ≡ plain_brought_replies_to process (plain_of b memory) ls
  pub same_map : (brought_after b ks).words ≡ (brought_after b ls).words
  pub same_bytes : (page frame line : ℕ) → brought_at_some_moment (λ slots. holds slots process (segment_of_page page)) b ks ≡ true
      → mapped_to s (brought_after b ks).words page ≡ Some frame → line / page_lines ≡ frame
      → look s (brought_after b ks) line ≡ look s (brought_after b ls) line

-- two such runs from one board with the same supervisor calls and the same accesses by our process, with the same numbers, in the same order
pub record TwoRuns (s : Shape) (b : Board) (ks ls : List Brought) (process : ℕ) : Type 0 where
  pub first_brings : EachBrings s b ks
  pub second_brings : EachBrings s b ls
  pub same_calls : brought_without_others process ks ≡ brought_without_others process ls

pub record BroughtDemand3 : Type 0 where
  pub apart : (s : Shape) (b : Board) → Fresh b → (ks ls : List Brought) (process : ℕ)
      → TwoRuns s b ks ls process → BroughtApart s b ks process → BroughtMovesAlike b ks ls process → BroughtSameForProcess s b b.store.memory ks ls process
  -- without moves the premise on moves asks nothing, of any board at all
  pub without_moves : (s : Shape) (b : Board) (ks ls : List Brought) (process : ℕ)
      → TwoRuns s b ks ls process → no_move (brought_calls ks) ≡ true → BroughtMovesAlike b ks ls process
  -- both premises may be read off either run, of any board at all
  pub apart_either : (s : Shape) (b : Board) (ks ls : List Brought) (process : ℕ)
      → TwoRuns s b ks ls process → BroughtApart s b ks process → BroughtApart s b ls process
  pub moves_either : (s : Shape) (b : Board) (ks ls : List Brought) (process : ℕ)
      → TwoRuns s b ks ls process → BroughtMovesAlike b ks ls process → BroughtMovesAlike b ls ks process
  pub one_copy : (s : Shape) (b : Board) → Fresh b → (ks : List Brought) → EachBrings s b ks → LinesOnce s (brought_after b ks).store
  pub every_valid_holds : (s : Shape) (b : Board) → Fresh b → (ks : List Brought) → EachBrings s b ks → ValidHolds s (brought_after b ks).store
  pub one_copy_valid : (s : Shape) (b : Board) → Fresh b → (ks : List Brought) → EachBrings s b ks → ValidOnce (brought_after b ks).store

-- from any sound board
pub record BroughtDemand3Sound : Type 0 where
  pub apart : (s : Shape) (b : Board) (memory : List ℕ) → Sound s b → Shows s b memory → (ks ls : List Brought) (process : ℕ)
      → TwoRuns s b ks ls process → BroughtApart s b ks process → BroughtMovesAlike b ks ls process → BroughtSameForProcess s b memory ks ls process
  pub one_copy : (s : Shape) (b : Board) → Sound s b → (ks : List Brought) → EachBrings s b ks → LinesOnce s (brought_after b ks).store
