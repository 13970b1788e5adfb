-- The promises for each edition: 01's, with one line in a set, and that of sets of four (CR 4). They are stated and proved once, over every shape; here
-- they stand for the shapes of either edition.
use Rattle.std.specs.Prelude.{ℕ, ◌*◌, ◌/◌, ◌%◌, ◌≤◌, ◌<◌, ◌≢◌, ◌≡◌, true, false, ◌&&◌, List, eqb, ltb, length, set}
use Rattle.address.specs.Layout.{page_lines}
use Rattle.address.specs.Addresses.{name_of}
use Rattle.address.specs.declared.Effective.{Effective}
use Rattle.address.specs.declared.Global.{Global}
use Rattle.board.specs.Shapes.{set_lines, one_line, four_lines}
use Rattle.board.specs.declared.Shape.{Shape}
use Rattle.board.specs.declared.Answer.{Answer}
use Rattle.sets.specs.Matrices.{row_of, used, ones_of}
use Rattle.lines.specs.Holds.{place_of, set_at, holds_line, holds_at}
use Rattle.lines.specs.Victims.{Uses, matrix_of, victim_of, used_in}
use Rattle.lines.specs.declared.Line.{Line}
use Rattle.stores.specs.declared.Access.{Access}
use Rattle.machine.specs.Boards.{Board, Fresh, fits_board}
use Rattle.machine.specs.Accesses.{user_global, user_access, supervisor_access}
use Rattle.machine.specs.Calls.{move_page}
use Rattle.promises.specs.Runs.{Call, after, replies}
use Rattle.promises.specs.Sound.{Sound, Shows, LinesOnce}
use Rattle.promises.specs.Demand1.{Refusals, ListRefusals, LookRefusals}
use Rattle.promises.specs.Demand2.{Alike, SoundRun, OnlyAt, record_to}
use Rattle.promises.specs.Demand3.{SameFor, Apart, MovesAlike, SameForProcess}
use Rattle.promises.specs.Moves.{HandedOver}
use Rattle.promises.specs.Limits.{By1}

-- an edition: a shape for each F, U, P and L
abbrev pub Edition : Type 0
Edition = ℕ → ℕ → ℕ → ℕ → Shape

-- ---- the three demands, of the boards of an edition

pub record Demands (edition : Edition) : Type 0 where
  -- demand 1: the lowest number that applies; refused, value 0, mark 0 and nothing changed, no matrix either
  pub refusals : (f u p l : ℕ) (b : Board) (k : Call) → Refusals (edition f u p l) b k
  pub list_refusals : (f u p l : ℕ) (b : Board) (accesses : List ℕ) (answers : List Answer) → ListRefusals (edition f u p l) b accesses answers
  pub look_refusals : (f u p l : ℕ) (b : Board) (line : ℕ) → LookRefusals (edition f u p l) b line
  -- demand 2: from a fresh board, and from any sound board (whatever its matrices: no rule asks them), the plain machine
  pub plain : (f u p l : ℕ) (b : Board) → Fresh b → (ks : List Call) → Alike (edition f u p l) b b.store.memory ks
  pub plain_sound : (f u p l : ℕ) (b : Board) (memory : List ℕ) → Sound (edition f u p l) b → Shows (edition f u p l) b memory → (ks : List Call)
      → SoundRun (edition f u p l) b memory ks
  -- demand 2: an access alters no record but one, and fills no other line: at most one line is refilled
  pub one_refill_user : (f u p l : ℕ) (b : Board) (process : ℕ) (a : Access) (e : Effective)
      → OnlyAt (eqb (record_to (edition f u p l) b (user_global b.slots process e))) b.store (user_access (edition f u p l) b process a e).after.store
  pub one_refill_supervisor : (f u p l : ℕ) (b : Board) (a : Access) (g : Global)
      → OnlyAt (eqb (record_to (edition f u p l) b g)) b.store (supervisor_access (edition f u p l) b a g).after.store
  -- demand 3
  pub apart : (f u p l : ℕ) (b : Board) → Fresh b → (ks ls : List Call) (process : ℕ) → SameFor process ks ls → Apart (edition f u p l) b ks process
      → MovesAlike (edition f u p l) b ks ls process → SameForProcess (edition f u p l) b b.store.memory ks ls process
  pub one_copy : (f u p l : ℕ) (b : Board) → Fresh b → (ks : List Call) → LinesOnce (edition f u p l) (after (edition f u p l) b ks).store
  -- and from any sound board
  pub apart_sound : (f u p l : ℕ) (b : Board) (memory : List ℕ) → Sound (edition f u p l) b → Shows (edition f u p l) b memory → (ks ls : List Call) (process : ℕ)
      → SameFor process ks ls → Apart (edition f u p l) b ks process → MovesAlike (edition f u p l) b ks ls process
      → SameForProcess (edition f u p l) b memory ks ls process
  pub one_copy_sound : (f u p l : ℕ) (b : Board) → Sound (edition f u p l) b → (ks : List Call)
      → LinesOnce (edition f u p l) (after (edition f u p l) b ks).store
  -- a move hands the page over (CR 9)
  pub hands_over : (f u p l : ℕ) (b : Board) → Fresh b → (ks : List Call) (page new : ℕ)
      → (move_page (edition f u p l) (after (edition f u p l) b ks) page new).answer.number ≡ 0
      → HandedOver (edition f u p l) (after (edition f u p l) b ks) (move_page (edition f u p l) (after (edition f u p l) b ks) page new).after page new

-- ---- what a place, a victim and a use are in each

-- 01's: one record at each place, and no matrix
pub record OneLine : Type 0 where
  -- record i holds a line if it is valid, i is name mod L and its physical line is inside memory
  pub holds : (f u p l i : ℕ) (x : Line)
      → holds_line (one_line f u p l) i x ≡ (x.valid && (eqb i (x.name % l) && ltb x.physical (page_lines * f)))
  -- a new line takes the record at its own place, whatever stands there; a use changes no matrix
  pub victim : (f u p l : ℕ) (uses : Uses) (records : List ℕ) (name : ℕ) → victim_of (one_line f u p l) uses records name ≡ name % l
  pub no_use : (f u p l : ℕ) (uses : Uses) (i : ℕ) → used_in (one_line f u p l) uses i ≡ uses
  -- an access alters no record but the one at its own place
  pub own_place : (f u p l : ℕ) (b : Board) (g : Global) → record_to (one_line f u p l) b g ≡ name_of g % l

-- sets of four: four records at each place, and a matrix

-- the matrix row of record i: line i mod 4 of set i / 4
abbrev pub row_for : Uses → ℕ → List ℕ
row_for uses i = row_of (matrix_of uses (i / set_lines)) (i % set_lines)

-- of the records of a place that pass the test, v is the lowest
pub record LowestOf (s : Shape) (place v : ℕ) (Passes : ℕ → Type 0) : Type 0 where
  pub in_set : set_at s v ≡ place
  pub passes : Passes v
  pub lowest : (i : ℕ) → set_at s i ≡ place → Passes i → v ≤ i

-- no row of its set has fewer ones
abbrev pub FewestOnes : Shape → Uses → ℕ → Type 0
FewestOnes s uses i = (j : ℕ) → set_at s j ≡ set_at s i → ones_of (row_for uses i) ≤ ones_of (row_for uses j)

pub record FourLines : Type 0 where
  -- L below 4 gives 1, whatever the call and the buffers
  pub too_few : (f u p l : ℕ) (b : Board) → l < set_lines → By1 (four_lines f u p l) b
  -- so does any other number of matrices than L / 4
  pub matrices : (f u p l : ℕ) (b : Board) → length b.uses ≢ l / set_lines → By1 (four_lines f u p l) b
  -- record i holds a line if it is valid, i / 4 is name mod (L / 4) and its physical line is inside memory
  pub holds : (f u p l i : ℕ) (x : Line)
      → holds_line (four_lines f u p l) i x ≡ (x.valid && (eqb (i / set_lines) (x.name % (l / set_lines)) && ltb x.physical (page_lines * f)))
  -- the victim is the lowest record of the set that holds nothing, else the lowest whose row has the fewest ones
  pub victim_empty : (f u p l : ℕ) (uses : Uses) (records : List ℕ) (name i : ℕ)
      → set_at (four_lines f u p l) i ≡ place_of (four_lines f u p l) name → holds_at (four_lines f u p l) records i ≡ false
      → LowestOf (four_lines f u p l) (place_of (four_lines f u p l) name) (victim_of (four_lines f u p l) uses records name)
      (λ j. holds_at (four_lines f u p l) records j ≡ false)
  pub victim_full : (f u p l : ℕ) (uses : Uses) (records : List ℕ) (name : ℕ)
      → ((i : ℕ) → set_at (four_lines f u p l) i ≡ place_of (four_lines f u p l) name → holds_at (four_lines f u p l) records i ≡ true)
      → LowestOf (four_lines f u p l) (place_of (four_lines f u p l) name) (victim_of (four_lines f u p l) uses records name) (FewestOnes (four_lines f u p l) uses)
  -- a use of record i changes the matrix of set i / 4 only, as a use of line i mod 4
  pub use_in_set : (f u p l : ℕ) (uses : Uses) (i : ℕ)
      → used_in (four_lines f u p l) uses i ≡ set uses (i / set_lines) (used (matrix_of uses (i / set_lines)) (i % set_lines))
  -- an access alters no record but one of its own set
  pub own_set : (f u p l : ℕ) (b : Board) (g : Global) → set_at (four_lines f u p l) (record_to (four_lines f u p l) b g) ≡ place_of (four_lines f u p l) (name_of g)

-- ---- the two side by side

-- two fresh boards, b of 01's edition and c of sets of four, each with the buffers that its edition asks for: the same slots, words, memory and tag
pub record Twins (f u p l : ℕ) (b c : Board) : Type 0 where
  pub fresh_one : Fresh b
  pub fresh_four : Fresh c
  pub fits_one : fits_board (one_line f u p l) b ≡ true
  pub fits_four : fits_board (four_lines f u p l) c ≡ true
  pub same_slots : b.slots ≡ c.slots
  pub same_words : b.words ≡ c.words
  pub same_memory : b.store.memory ≡ c.store.memory
  pub same_tag : b.tag ≡ c.tag

pub record Editions : Type 0 where
  pub one_line_lem : Demands one_line
  pub four_lines_lem : Demands four_lines
  pub places_of_one : OneLine
  pub places_of_four : FourLines
  -- "Other refusals stay": on two such boards every run gives the same numbers and values
  pub other_refusals_stay : (f u p l : ℕ) (b c : Board) → Twins f u p l b c → (ks : List Call)
      → replies (one_line f u p l) b ks ≡ replies (four_lines f u p l) c ks
