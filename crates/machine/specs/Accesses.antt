-- 01, "Calls": user access and supervisor access.
use Rattle.std.specs.Prelude.{ℕ, ◌%◌, true, false, not, ◌&&◌, ◌||◌, cond, List, [], ◌∷◌, ◌++◌, get_or, Option, Some, None}
use Rattle.address.specs.Layout.{line_bytes}
use Rattle.address.specs.Addresses.{slot_of, global_of, name_of, region_of, physical_of, frame_of_physical, is_kernels}
use Rattle.address.specs.declared.Effective.{Effective}
use Rattle.address.specs.declared.Global.{Global}
use Rattle.address.specs.declared.Physical.{Physical}
use Rattle.address.specs.declared.Region.{Region}
use Rattle.address.specs.declared.Region.TheVariants.{Uncached, Cached, PageTable, Ordinary}
use Rattle.board.specs.Answers.{answer, mark_no_access, mark_uncached, mark_of}
use Rattle.slots.specs.Slots.{slot_index, slot_segment}
use Rattle.board.specs.declared.Shape.{Shape}
use Rattle.board.specs.declared.Pending.{Pending}
use Rattle.board.specs.declared.Answer.{Answer}
use Rattle.line_bytes.specs.Bytes.{number, stored}
use Rattle.stores.specs.Stores.{Store, store, must_write_back, inserted, Performed, performed_at}
use Rattle.lines.specs.Victims.{Uses, victim_of, used_in}
use Rattle.reach.specs.Reach.{way_of, unreached}
use Rattle.stores.specs.declared.Access.{Access}
use Rattle.reach.specs.declared.Way.{Way}
use Rattle.reach.specs.declared.Way.TheVariants.{Held, InMemory}
use Rattle.machine.specs.Boards.{Board, Outcome, outcome, refused, with_use}
use Rattle.machine.specs.Refusals.{Row, row, by_table, row1, is_process, is_global, too_large, aligned_to, slot_rows, line_rows, word_in_use, is_ordinary, is_cached, outside}

-- ---- an access to a line

-- what an access gives, and the store after
pub record Reached : Type 0 where
  pub answer : Answer
  pub after : Store

abbrev pub ended : Answer → Store → Reached
ended a b = record { answer = a; after = b }

abbrev pub reached : Answer → List ℕ → List ℕ → List ℕ → Reached
reached a records cache memory = ended a (store records cache memory)

abbrev pub stopped : Store → ℕ → Reached
stopped b n = ended (answer n 0 mark_no_access) b

-- a load or a store that is done on a line now held, and its mark
abbrev pub reached_by : Performed → List ℕ → ℕ → Reached
reached_by p memory mark = reached (answer 0 p.value mark) p.records p.cache memory

unfoldable pub performed_on : ℕ → ℕ → Access → ℕ → Store → Reached
performed_on i offset a mark b = reached_by (performed_at i offset a b.records b.cache) b.memory mark

-- a held line is taken as it is; else the line is filled in the record `to` with the page's present permission. The mark goes by the records before
-- the call (and by the matrices, where they pick that record): whether the line is held, and whether the line of that record must be written back.
-- (A line that is nowhere has been refused, by row 8 or under prefix 1 by row 10 or 12, so the last clause is never asked.)
unfoldable pub accessed_by : Shape → ℕ → ℕ → ℕ → Access → Store → Option Way → Reached
accessed_by s to name offset a b (Some (Held i write)) = performed_on i offset a (mark_of true false) b
accessed_by s to name offset a b (Some (InMemory line write)) =
    performed_on to offset a (mark_of false (must_write_back s b.records to)) (inserted s to name line write b)
accessed_by s to name offset a b None = stopped b 8

-- the use of the record that held the line, or was filled
unfoldable pub uses_by : Shape → ℕ → Uses → Option Way → Uses
uses_by s to uses (Some (Held i write)) = used_in s uses i
uses_by s to uses (Some (InMemory line write)) = used_in s uses to
uses_by s to uses None = uses

-- what an access gives, with the matrices after
pub record Touched : Type 0 where
  pub reached : Reached
  pub uses : Uses

abbrev pub touched : Reached → Uses → Touched
touched r uses = record { reached = r; uses = uses }

-- the way to the line of a global address
abbrev pub way_to : Shape → List ℕ → List ℕ → Global → Option Way
way_to s words records g = way_of s words records (name_of g)

-- a line that is not held is filled in the victim of its set
abbrev pub victim_for : Shape → Uses → List ℕ → Global → ℕ
victim_for s uses records g = victim_of s uses records (name_of g)

unfoldable pub accessed : Shape → List ℕ → Global → Access → Store → Uses → Touched
accessed s words g a b uses =
    touched (accessed_by s (victim_for s uses b.records g) (name_of g) (g.0 % line_bytes) a b (way_to s words b.records g))
    (uses_by s (victim_for s uses b.records g) uses (way_to s words b.records g))

-- its outcome, on the whole board
abbrev pub on_board : Board → Touched → Outcome
on_board b t = outcome t.reached.answer (with_use b t.reached.after t.uses)

-- ---- user access (process, load or store, width, effective address, value)

-- the slot word that an effective address goes through
abbrev pub slot_word_at : List ℕ → ℕ → Effective → ℕ
slot_word_at slots process e = get_or slots (slot_index process (slot_of e)) 0

-- the global address
abbrev pub user_global : List ℕ → ℕ → Effective → Global
user_global slots process e = global_of (slot_segment (slot_word_at slots process e)) e

-- numbers 2 to 7
abbrev pub user_rows : Shape → List ℕ → Pending → ℕ → Access → Effective → List Row
user_rows s slots tag process a e =
    row 2 (not (is_process s process) || too_large a) ∷ row 3 tag.set ∷ row 4 (not (aligned_to a.width e.0)) ∷ row 5 (is_kernels e)
    ∷ slot_rows (slot_word_at slots process e) a

unfoldable pub user_table : Shape → Board → ℕ → Access → Effective → List Row
user_table s b process a e =
    row1 s b ∷ (user_rows s b.slots b.tag process a e
    ++ line_rows a (way_to s b.words b.store.records (user_global b.slots process e)))

unfoldable pub user_access : Shape → Board → ℕ → Access → Effective → Outcome
user_access s b process a e =
    by_table (refused b) (user_table s b process a e)
    (on_board b (accessed s b.words (user_global b.slots process e) a b.store b.uses))

-- ---- supervisor access (load or store, width, global address, value)

-- the frame of an address under prefix 0 or 1
abbrev pub frame_under : Global → ℕ
frame_under g = frame_of_physical (physical_of g)

unfoldable pub supervisor_table : Shape → Board → Access → Global → List Row
supervisor_table s b a g =
    row1 s b ∷ row 2 (not (is_global g) || too_large a) ∷ row 3 (is_ordinary (region_of g) && b.tag.set) ∷ row 4 (not (aligned_to a.width g.0))
    ∷ row 8 (is_ordinary (region_of g) && unreached (way_to s b.words b.store.records g))
    ∷ row 10 (is_cached (region_of g) && word_in_use b.words (frame_under g))
    ∷ row 12 (outside s (frame_under g) (region_of g)) ∷ []

-- a load or a store in memory: prefix 0 never touches the cache
unfoldable pub memory_access : Physical → Access → Store → Reached
memory_access p a b =
    cond a.store
    (reached (answer 0 0 mark_uncached) b.records b.cache (stored b.memory p.0 a.width a.value))
    (reached (answer 0 (number b.memory p.0 a.width) mark_uncached) b.records b.cache b.memory)

-- what it does, by what the address reaches (the page table region has been refused by row 12)
unfoldable pub supervisor_done : Shape → List ℕ → Access → Global → Store → Uses → Region → Touched
supervisor_done s words a g b uses Uncached = touched (memory_access (physical_of g) a b) uses
supervisor_done s words a g b uses Cached = accessed s words g a b uses
supervisor_done s words a g b uses PageTable = touched (stopped b 12) uses
supervisor_done s words a g b uses Ordinary = accessed s words g a b uses

unfoldable pub supervisor_access : Shape → Board → Access → Global → Outcome
supervisor_access s b a g =
    by_table (refused b) (supervisor_table s b a g) (on_board b (supervisor_done s b.words a g b.store b.uses (region_of g)))
