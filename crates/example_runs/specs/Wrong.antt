-- 01, "Shortcuts that look fine", and three of CR 9: wrong machines, and for each a run from a fresh board in which it doesn't give the plain machine's
-- replies, though the board does. So it breaks demand 2.
use Rattle.std.specs.Prelude.{ℕ, ◌%◌, ◌^◌, ◌≡◌, Bool, true, false, cond, List, [], ◌∷◌, eqb}
use Rattle.address.specs.Addresses.{global, name_of}
use Rattle.address.specs.declared.Effective.{Effective}
use Rattle.board.specs.declared.Shape.{Shape}
use Rattle.pages.specs.Pages.{mapped_to}
use Rattle.lines.specs.Records.{line_at}
use Rattle.lines.specs.Holds.{place_of, first_at}
use Rattle.lines.specs.declared.Line.{Line}
use Rattle.stores.specs.Stores.{store, noted}
use Rattle.stores.specs.declared.Access.{Access}
use Rattle.machine.specs.Boards.{Board, Fresh, Outcome, outcome, with_store}
use Rattle.machine.specs.Accesses.{user_global, user_access}
use Rattle.machine.specs.Calls as calls
use Rattle.promises.specs.Runs.{Supervisor, access, attach, detach, map, unmap, protect, move, flush_all, tag, load_and_map, drop_tag, Call, user, supervisor, supervise, Reply, reply, replies, plain_replies, plain_of}
use Rattle.example_runs.specs.Examples.{shape, memory, start, load, save, gets}

-- ---- machines, and the demand

-- the calls that one wrong machine or another gets wrong
pub record Parts : Type 0 where
  pub accesses : Shape → Board → ℕ → Access → Effective → Outcome
  pub maps : Shape → Board → ℕ → ℕ → Bool → Outcome
  pub unmaps : Shape → Board → ℕ → Outcome
  pub protects : Shape → Board → ℕ → Bool → Outcome
  pub moves : Shape → Board → ℕ → ℕ → Outcome

-- the machine with these calls; its other calls are the board's
unfoldable pub supervise_by : Parts → Shape → Board → Supervisor → Outcome
supervise_by p s b (access a g) = supervise s b (access a g)
supervise_by p s b (attach process slot segment write) = supervise s b (attach process slot segment write)
supervise_by p s b (detach process slot) = supervise s b (detach process slot)
supervise_by p s b (map page frame write) = p.maps s b page frame write
supervise_by p s b (unmap page) = p.unmaps s b page
supervise_by p s b (protect page write) = p.protects s b page write
supervise_by p s b (move page new) = p.moves s b page new
supervise_by p s b flush_all = supervise s b flush_all
supervise_by p s b (tag name) = supervise s b (tag name)
supervise_by p s b (load_and_map line) = supervise s b (load_and_map line)
supervise_by p s b drop_tag = supervise s b drop_tag

unfoldable pub step_by : Parts → Shape → Board → Call → Outcome
step_by p s b (user process a e) = p.accesses s b process a e
step_by p s b (supervisor c) = supervise_by p s b c

-- its replies in order: as `replies`
unfoldable pub replies_by : Parts → Shape → Board → List Call → List Reply
replies_by p s b [] = []
replies_by p s b (k ∷ ks) = reply (step_by p s b k).answer ∷ replies_by p s (step_by p s b k).after ks

-- `same_replies` of demand 2, asked of such a machine
abbrev pub GivesPlainReplies : Parts → Type 0
GivesPlainReplies p = (s : Shape) (b : Board) → Fresh b → (ks : List Call) → replies_by p s b ks ≡ plain_replies s (plain_of b b.store.memory) ks

-- the board's own calls meet it
abbrev pub right_parts : Parts
right_parts = record { accesses = user_access; maps = calls.map_page; unmaps = calls.unmap; protects = calls.protect; moves = calls.move_page }

abbrev pub RightMeets : Type 0
RightMeets = GivesPlainReplies right_parts

-- a wrong machine doesn't: in this run it gives other replies than the board and the plain machine
pub record Breaks (p : Parts) (ks : List Call) (wrong right : List Reply) : Type 0 where
  pub wrong_replies : replies_by p shape start ks ≡ wrong
  pub board_replies : replies shape start ks ≡ right
  pub plain_replies_lem : plain_replies shape (plain_of start memory) ks ≡ right
  pub broken : GivesPlainReplies p → ⊥

-- ---- how the runs open

-- page 0x200000, of segment 2048, is mapped to frame 1, and page 0x300000, of segment 3072, to frame 2: the two segments agree in their low ten bits.
-- Process 0 attaches both for writing, in slots 0 and 1, and stores 50 at 0: name 0x20000000, place 0, physical line 256
abbrev pub opening : List Call → List Call
opening ks =
    supervisor (map 0x200000 1 true) ∷ supervisor (map 0x300000 2 true) ∷ supervisor (attach 0 0 2048 true) ∷ supervisor (attach 0 1 3072 true)
    ∷ save 0 4 0 50 ∷ ks

-- all of this is done
abbrev pub opened : List Reply → List Reply
opened l = gets 0 0 ∷ gets 0 0 ∷ gets 0 0 ∷ gets 0 0 ∷ gets 0 0 ∷ l

-- ---- unmap without dropping lines, the fifty-thousand-volt fault

-- what a call gives, but with lines and memory as they were
abbrev pub store_kept : Board → Outcome → Outcome
store_kept b o = outcome o.answer (with_store o.after b.store)

-- unmap only sets the word to 0
abbrev pub unmap_keeps_lines : Parts
unmap_keeps_lines = record {
  accesses = user_access;
  maps = calls.map_page;
  unmaps = λ s b page. store_kept b (calls.unmap s b page);
  protects = calls.protect;
  moves = calls.move_page;
}

-- the page is unmapped, and the process still loads its 50
abbrev pub UnmapBreaks : Type 0
UnmapBreaks =
    Breaks unmap_keeps_lines (opening (supervisor (unmap 0x200000) ∷ load 0 3 ∷ [])) (opened (gets 0 0 ∷ gets 0 50 ∷ [])) (opened (gets 0 0 ∷ gets 8 0 ∷ []))

-- ---- protect that changes the frame word and forgets the lines

abbrev pub protect_keeps_lines : Parts
protect_keeps_lines = record {
  accesses = user_access;
  maps = calls.map_page;
  unmaps = calls.unmap;
  protects = λ s b page write. store_kept b (calls.protect s b page write);
  moves = calls.move_page;
}

-- the page is made read-only, and the process still stores to it
abbrev pub ProtectBreaks : Type 0
ProtectBreaks =
    Breaks protect_keeps_lines (opening (supervisor (protect 0x200000 false) ∷ save 0 1 3 7 ∷ [])) (opened (gets 0 0 ∷ gets 0 0 ∷ [])) (opened (gets 0 0 ∷ gets 9 0 ∷ []))

-- ---- move that changes the frame word and forgets the lines (CR 9)

abbrev pub move_keeps_lines : Parts
move_keeps_lines = record {
  accesses = user_access;
  maps = calls.map_page;
  unmaps = calls.unmap;
  protects = calls.protect;
  moves = λ s b page new. store_kept b (calls.move_page s b page new);
}

-- the page is moved to page 0x300001, of segment 3072, and the process still loads its 50 under the old name
abbrev pub MoveBreaks : Type 0
MoveBreaks =
    Breaks move_keeps_lines (opening (supervisor (move 0x200000 0x300001) ∷ load 0 3 ∷ [])) (opened (gets 0 0 ∷ gets 0 50 ∷ [])) (opened (gets 0 0 ∷ gets 8 0 ∷ []))

-- ---- no write-back on eviction

-- what a call gives, but with memory as it was
abbrev pub memory_kept : Board → Outcome → Outcome
memory_kept b o = outcome o.answer (with_store o.after (store o.after.store.records o.after.store.cache b.store.memory))

-- a changed line that a user access pushes out is not written back
abbrev pub no_write_back : Parts
no_write_back = record {
  accesses = λ s b process a e. memory_kept b (user_access s b process a e);
  maps = calls.map_page;
  unmaps = calls.unmap;
  protects = calls.protect;
  moves = calls.move_page;
}

-- a load from the other page, name 0x30000000, place 0 too, pushes the 50 out, and it is lost
abbrev pub NoWriteBackBreaks : Type 0
NoWriteBackBreaks =
    Breaks no_write_back (opening (load 0 0x400003 ∷ load 0 3 ∷ [])) (opened (gets 0 0 ∷ gets 0 0 ∷ [])) (opened (gets 0 0 ∷ gets 0 50 ∷ []))

-- ---- move that drops the lines as map does, without writing them back (CR 9)

abbrev pub move_loses_lines : Parts
move_loses_lines = record {
  accesses = user_access;
  maps = calls.map_page;
  unmaps = calls.unmap;
  protects = calls.protect;
  moves = λ s b page new. memory_kept b (calls.move_page s b page new);
}

-- the page is moved to page 0x300001. The 50 was in the cache only and is lost: a load at the new page, name 0x30000100, place 0, physical line 256, gets
-- the zeros of the map
abbrev pub MoveLosesBreaks : Type 0
MoveLosesBreaks =
    Breaks move_loses_lines (opening (supervisor (move 0x200000 0x300001) ∷ load 0 0x401003 ∷ [])) (opened (gets 0 0 ∷ gets 0 0 ∷ [])) (opened (gets 0 0 ∷ gets 0 50 ∷ []))

-- ---- move that fills the frame with zeros, as map does (CR 9)

-- what a call gives, but with the page's frame filled with zeros
abbrev pub frame_zeroed : Shape → Board → ℕ → Outcome → Outcome
frame_zeroed s b page o = outcome o.answer (with_store o.after (calls.zeroed_store (calls.found_frame (mapped_to s b.words page)) o.after.store))

abbrev pub move_copies_zeros : Parts
move_copies_zeros = record {
  accesses = user_access;
  maps = calls.map_page;
  unmaps = calls.unmap;
  protects = calls.protect;
  moves = λ s b page new. frame_zeroed s b page (calls.move_page s b page new);
}

-- the 50 is written back and then lost
abbrev pub MoveZerosBreaks : Type 0
MoveZerosBreaks =
    Breaks move_copies_zeros (opening (supervisor (move 0x200000 0x300001) ∷ load 0 0x401003 ∷ [])) (opened (gets 0 0 ∷ gets 0 0 ∷ [])) (opened (gets 0 0 ∷ gets 0 50 ∷ []))

-- ---- comparing only part of a name, so two segments with equal low bits match

-- a line passes for the one of this name if the low 28 bits agree: the low ten of the segment and all below
abbrev pub passing_for : ℕ → Line → Line
passing_for name l = record {
  valid = l.valid;
  name = cond (eqb (l.name % 2 ^ 28) (name % 2 ^ 28)) name l.name;
  physical = l.physical;
  changed = l.changed;
  write = l.write;
}

-- the board on which the first line at the place of this name does so (in 01's edition, that of the runs, the only one)
abbrev pub passing_at : Shape → Board → ℕ → Board
passing_at s b name =
    let i = first_at s (place_of s name) in with_store b (noted i (passing_for name (line_at b.store.records i)) b.store)

abbrev pub part_compared : Parts
part_compared = record {
  accesses = λ s b process a e. user_access s (passing_at s b (name_of (user_global b.slots process e))) process a e;
  maps = calls.map_page;
  unmaps = calls.unmap;
  protects = calls.protect;
  moves = calls.move_page;
}

-- a load from the other page, whose line is not held, gets the 50 of the first
abbrev pub PartComparedBreaks : Type 0
PartComparedBreaks = Breaks part_compared (opening (load 0 0x400003 ∷ [])) (opened (gets 0 50 ∷ [])) (opened (gets 0 0 ∷ []))

-- ---- map without dropping the prefix 1 lines

-- what a call gives, but with the records as they were
abbrev pub records_kept : Board → Outcome → Outcome
records_kept b o = outcome o.answer (with_store o.after (store b.store.records o.after.store.cache o.after.store.memory))

-- map only fills the frame with zeros and sets the word. (No line named in the page is held, as the page was not mapped: the frame's prefix 1 lines are
-- what it ought to drop)
abbrev pub map_keeps_lines : Parts
map_keeps_lines = record {
  accesses = user_access;
  maps = λ s b page frame write. records_kept b (calls.map_page s b page frame write);
  unmaps = calls.unmap;
  protects = calls.protect;
  moves = calls.move_page;
}

-- the supervisor stores 7 at 0 of frame 1 under prefix 1: name 0x10000100, place 0, physical line 256. Then the frame is mapped to page 0x200000, and
-- process 0 attaches the page's segment and loads: name 0x20000000, place 0. The 7 is written back over the page, and the process gets it
abbrev pub MapBreaks : Type 0
MapBreaks =
    Breaks map_keeps_lines
    (supervisor (access (record { store = true; width = 4; value = 7 }) (global 0x100001000)) ∷ supervisor (map 0x200000 1 true)
    ∷ supervisor (attach 0 0 2048 true) ∷ load 0 3 ∷ [])
    (gets 0 0 ∷ gets 0 0 ∷ gets 0 0 ∷ gets 0 7 ∷ [])
    (gets 0 0 ∷ gets 0 0 ∷ gets 0 0 ∷ gets 0 0 ∷ [])
