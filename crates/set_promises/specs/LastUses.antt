-- CR 4: "The victim is the lowest empty line, else the lowest whose row has the fewest ones." On any run from a fresh board the victim of a full set is the
-- line whose last use is oldest; on any run from any other board too, once each line of the set was used. Last uses are told here by the calls: the record
-- that each call uses, and the last call of the run that used a record. What a matrix is after a run is told by them.
-- (A line that comes into a record is a use of it, so the last use of a record that holds a line is a use of that line: `LinesUsed`.)
use Rattle.std.specs.Prelude.{ℕ, suc, ◌+◌, ◌*◌, ◌<◌, ◌≢◌, ◌≡◌, Bool, true, false, cond, List, [], ◌∷◌, eqb, ltb, length, Option, Some, None}
use Rattle.address.specs.Addresses.{name_of, region_of}
use Rattle.address.specs.declared.Effective.{Effective}
use Rattle.address.specs.declared.Global.{Global}
use Rattle.address.specs.declared.Region.{Region}
use Rattle.address.specs.declared.Region.TheVariants.{Uncached, Cached, PageTable, Ordinary}
use Rattle.board.specs.Shapes.{set_lines}
use Rattle.board.specs.declared.Shape.{Shape}
use Rattle.sets.specs.Matrices.{entry_at, Square}
use Rattle.lines.specs.Holds.{place_of, set_at, holds_at, holds_name}
use Rattle.lines.specs.Victims.{matrix_of, victim_of, room_for}
use Rattle.stores.specs.declared.Access.{Access}
use Rattle.machine.specs.Boards.{Board, Fresh}
use Rattle.machine.specs.Accesses.{user_global}
use Rattle.promises.specs.Runs.{access, attach, detach, map, unmap, protect, move, flush_all, tag, load_and_map, drop_tag, Call, user, supervisor, step, after}
use Rattle.promises.specs.Demand2.{record_to}

-- ---- uses

-- a supervisor's access past the cache is no use
unfoldable pub reached_in : ℕ → Region → Option ℕ
reached_in i Uncached = None
reached_in i Cached = Some i
reached_in i PageTable = None
reached_in i Ordinary = Some i

-- the record that a call uses, if it is done: an access the one that holds its line or is filled, load-and-map the one that it fills (of a line that is held it fills none, and is no use); others none
unfoldable pub would_use : Shape → Board → Call → Option ℕ
would_use s b (user process a e) = Some (record_to s b (user_global b.slots process e))
would_use s b (supervisor (access a g)) = reached_in (record_to s b g) (region_of g)
would_use s b (supervisor (attach process slot segment write)) = None
would_use s b (supervisor (detach process slot)) = None
would_use s b (supervisor (map page frame write)) = None
would_use s b (supervisor (unmap page)) = None
would_use s b (supervisor (protect page write)) = None
would_use s b (supervisor (move page new)) = None
would_use s b (supervisor flush_all) = None
would_use s b (supervisor (tag name)) = None
would_use s b (supervisor (load_and_map line)) =
    room_for s b.uses b.store.records b.tag.name
would_use s b (supervisor drop_tag) = None

-- a refused call uses none
unfoldable pub used_by : Shape → Board → Call → Option ℕ
used_by s b k = cond (eqb (step s b k).answer.number 0) (would_use s b k) None

-- that record is i
unfoldable pub is_record : ℕ → Option ℕ → Bool
is_record i (Some j) = eqb i j
is_record i None = false

-- a use of a record is a use of a line: whatever the board, the record that a call uses holds the call's own line after it (the other calls use none)
pub record LinesUsed : Type 0 where
  pub by_user : (s : Shape) (b : Board) (process : ℕ) (a : Access) (e : Effective) (i : ℕ) → used_by s b (user process a e) ≡ Some i
      → holds_name s (step s b (user process a e)).after.store.records (name_of (user_global b.slots process e)) i ≡ true
  pub by_supervisor : (s : Shape) (b : Board) (a : Access) (g : Global) (i : ℕ) → used_by s b (supervisor (access a g)) ≡ Some i
      → holds_name s (step s b (supervisor (access a g))).after.store.records (name_of g) i ≡ true
  pub by_load_and_map : (s : Shape) (b : Board) (line i : ℕ) → used_by s b (supervisor (load_and_map line)) ≡ Some i
      → holds_name s (step s b (supervisor (load_and_map line))).after.store.records b.tag.name i ≡ true
  -- any other record holds after a call only a line that it held before
  pub others : (s : Shape) (b : Board) (k : Call) (i name : ℕ) → is_record i (used_by s b k) ≡ false
      → holds_name s (step s b k).after.store.records name i ≡ true → holds_name s b.store.records name i ≡ true

-- ---- the last use of a record in a run

-- the number of the last call that used record i, the first of the list being number n + 1; `last` if none of them did
unfoldable pub last_from : Shape → Board → List Call → ℕ → ℕ → ℕ → ℕ
last_from s b [] n i last = last
last_from s b (k ∷ ks) n i last = last_from s (step s b k).after ks (suc n) i (cond (is_record i (used_by s b k)) (suc n) last)

-- calls are counted from 1; 0 if none did
abbrev pub last_use : Shape → Board → List Call → ℕ → ℕ
last_use s b ks i = last_from s b ks 0 i 0

-- ---- the matrices after a run

-- every matrix is four rows of four (the caller's buffers can be no other)
abbrev pub Squares : Board → Type 0
Squares b = (place : ℕ) → place < length b.uses → Square (matrix_of b.uses place)

-- row a, column c of the matrix of a place
abbrev pub entry_now : Board → ℕ → ℕ → ℕ → ℕ
entry_now b place a c = entry_at (matrix_of b.uses place) a c

-- the last use of line a of a place: of record 4 × place + a
abbrev pub last_at : Shape → Board → List Call → ℕ → ℕ → ℕ
last_at s b ks place a = last_use s b ks (place * set_lines + a)

-- 1 if line a was used after line c, else 0
abbrev pub used_after : Shape → Board → List Call → ℕ → ℕ → ℕ → ℕ
used_after s b ks place a c = cond (ltb (last_at s b ks place c) (last_at s b ks place a)) 1 0

pub record MatricesTell : Type 0 where
  -- from a fresh board: row a, column c is 1 exactly if the last use of line a is later than that of line c
  pub from_fresh : (s : Shape) (b : Board) → s.ways ≡ set_lines → Fresh b → (ks : List Call) (place a c : ℕ) → place < length b.uses → a < set_lines → c < set_lines
      → entry_now (after s b ks) place a c ≡ used_after s b ks place a c
  -- from any board: so it is too, but where neither line was used in the run (both last uses are 0); there it is as it was
  pub from_any : (s : Shape) (b : Board) → s.ways ≡ set_lines → Squares b → (ks : List Call) (place a c : ℕ) → place < length b.uses → a < set_lines → c < set_lines
      → entry_now (after s b ks) place a c ≡ cond (eqb (last_at s b ks place a + last_at s b ks place c) 0) (entry_now b place a c) (used_after s b ks place a c)

-- ---- the victim of a full set

-- every record of a place holds a line
abbrev pub Full : Shape → Board → ℕ → Type 0
Full s b place = (i : ℕ) → set_at s i ≡ place → holds_at s b.store.records i ≡ true

-- the record that a new line of this name would take
abbrev pub victim_now : Shape → Board → ℕ → ℕ
victim_now s b name = victim_of s b.uses b.store.records name

-- v is the record of its set whose last use in the run ks from the board b is oldest
pub record OldestUse (s : Shape) (b : Board) (ks : List Call) (place v : ℕ) : Type 0 where
  -- it is one of the set
  pub in_set : set_at s v ≡ place
  -- it was used
  pub was_used : 0 < last_use s b ks v
  -- of every other record of the set the last use is later
  pub others_later : (j : ℕ) → set_at s j ≡ place → j ≢ v → last_use s b ks v < last_use s b ks j

-- whatever the numbers and the buffers: on a board that doesn't fit no set gets full
abbrev pub VictimIsOldest : Type 0
VictimIsOldest =
    (s : Shape) (b : Board) → s.ways ≡ set_lines → Fresh b → (ks : List Call) (name : ℕ) → Full s (after s b ks) (place_of s name)
    → OldestUse s b ks (place_of s name) (victim_now s (after s b ks) name)

-- whatever the matrices were: on any run that used each line of the set. (With a wild matrix it is false before that: `WildMatrix` of `SetExamples.antt`)
abbrev pub OldestOnceUsed : Type 0
OldestOnceUsed =
    (s : Shape) (b : Board) → s.ways ≡ set_lines → Squares b → (ks : List Call) (name : ℕ) → Full s (after s b ks) (place_of s name)
    → ((i : ℕ) → set_at s i ≡ place_of s name → 0 < last_use s b ks i) → OldestUse s b ks (place_of s name) (victim_now s (after s b ks) name)
