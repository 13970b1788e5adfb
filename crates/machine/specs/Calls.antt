-- 01, "Calls": attach, detach, map, unmap, protect, flush all, tag, load-and-map and drop tag; and move (CR 9).
-- Each call is its table, and what it does if no row applies.
use Rattle.std.specs.Prelude.{ℕ, Bool, not, ◌&&◌, List, [], ◌∷◌, get_or, set, eqb, Option, Some, None}
use Rattle.address.specs.Addresses.{attachable, ordinary_page, page_of_name}
use Rattle.slots.specs.Slots.{slot_index, slot_word}
use Rattle.pages.specs.Pages.{frame_word, word_writes, mapped_to, line_in}
use Rattle.board.specs.declared.Shape.{Shape}
use Rattle.board.specs.declared.Pending.{Pending}
use Rattle.line_bytes.specs.Bytes.{zeroed_frame}
use Rattle.stores.specs.Stores.{Store, store, inserted}
use Rattle.lines.specs.Holds.{holder_of}
use Rattle.lines.specs.Victims.{Uses, victim_of, used_in}
use Rattle.visits.specs.Visits.{map_visit, unmap_visit, protect_visit, move_visit, flush_visit, visited_all}
use Rattle.machine.specs.Boards.{Board, Outcome, refused, done, no_tag, tagged, with_slots, with_tag, with_store, with_use, with_pages, Pages, pages_of}
use Rattle.machine.specs.Refusals.{Row, row, by_table, row1, is_process, is_slot, is_frame, is_physical_line, is_name, is_mapped, word_in_use}

-- the frame that was found (where none was, a row has refused)
unfoldable pub found_frame : Option ℕ → ℕ
found_frame (Some frame) = frame
found_frame None = 0

-- ---- attach (process, slot, segment, write bit; replaces what was there)

abbrev pub attach_table : Shape → Board → ℕ → ℕ → ℕ → List Row
attach_table s b process slot segment = row1 s b ∷ row 2 (not (is_process s process && (is_slot slot && attachable segment))) ∷ []

unfoldable pub attach : Shape → Board → ℕ → ℕ → ℕ → Bool → Outcome
attach s b process slot segment write =
    by_table (refused b) (attach_table s b process slot segment)
    (done (with_slots b (set b.slots (slot_index process slot) (slot_word segment write))))

-- ---- detach (an empty slot is fine)

abbrev pub detach_table : Shape → Board → ℕ → ℕ → List Row
detach_table s b process slot = row1 s b ∷ row 2 (not (is_process s process && is_slot slot)) ∷ []

unfoldable pub detach : Shape → Board → ℕ → ℕ → Outcome
detach s b process slot =
    by_table (refused b) (detach_table s b process slot)
    (done (with_slots b (set b.slots (slot_index process slot) 0)))

-- ---- map (page, frame, write bit): drops held lines named in the page or in the frame's prefix 1 range, fills the frame with zeros, sets the word

abbrev pub map_rows : Shape → List ℕ → ℕ → ℕ → List Row
map_rows s words page frame =
    row 2 (not (ordinary_page page && is_frame s frame)) ∷ row 10 (word_in_use words frame) ∷ row 11 (is_mapped (mapped_to s words page)) ∷ []

abbrev pub zeroed_store : ℕ → Store → Store
zeroed_store frame x = store x.records x.cache (zeroed_frame x.memory frame)

unfoldable pub mapped : Shape → ℕ → ℕ → Bool → Pages → Pages
mapped s page frame write p = record {
  words = set p.words frame (frame_word page write);
  store = zeroed_store frame (visited_all s (map_visit page frame) p.store);
}

abbrev pub map_table : Shape → Board → ℕ → ℕ → List Row
map_table s b page frame = row1 s b ∷ map_rows s b.words page frame

unfoldable pub map_page : Shape → Board → ℕ → ℕ → Bool → Outcome
map_page s b page frame write =
    by_table (refused b) (map_table s b page frame) (done (with_pages b (mapped s page frame write (pages_of b))))

-- ---- unmap (page): writes changed lines named in the page to their physical lines, drops all lines named in it, sets the word to 0

abbrev pub page_rows : Shape → List ℕ → ℕ → List Row
page_rows s words page = row 2 (not (ordinary_page page)) ∷ row 8 (not (is_mapped (mapped_to s words page))) ∷ []

abbrev pub page_table : Shape → Board → ℕ → List Row
page_table s b page = row1 s b ∷ page_rows s b.words page

unfoldable pub unmapped : Shape → ℕ → ℕ → Pages → Pages
unmapped s page frame p = record { words = set p.words frame 0; store = visited_all s (unmap_visit page) p.store }

unfoldable pub unmap : Shape → Board → ℕ → Outcome
unmap s b page =
    by_table (refused b) (page_table s b page)
    (done (with_pages b (unmapped s page (found_frame (mapped_to s b.words page)) (pages_of b))))

-- ---- protect (page, write bit): changes the word and every held line named in the page

unfoldable pub protected : Shape → ℕ → ℕ → Bool → Pages → Pages
protected s page frame write p = record {
  words = set p.words frame (frame_word page write);
  store = visited_all s (protect_visit page write) p.store;
}

unfoldable pub protect : Shape → Board → ℕ → Bool → Outcome
protect s b page write =
    by_table (refused b) (page_table s b page)
    (done (with_pages b (protected s page (found_frame (mapped_to s b.words page)) write (pages_of b))))

-- ---- move (page, new page; CR 9): writes back and drops the old page's lines and those of the new name, then the frame's word gets the new page with the
-- same write bit. The frame's bytes are kept. Of a doubled page (wild) the lowest frame's word changes, as in unmap

-- 2: one of the pages is not ordinary; 8: the old page is not mapped; 11: the new one is, also if both are equal. (14 comes with CR 6, which isn't here.)
abbrev pub move_rows : Shape → List ℕ → ℕ → ℕ → List Row
move_rows s words page new =
    row 2 (not (ordinary_page page && ordinary_page new)) ∷ row 8 (not (is_mapped (mapped_to s words page))) ∷ row 11 (is_mapped (mapped_to s words new)) ∷ []

abbrev pub move_table : Shape → Board → ℕ → ℕ → List Row
move_table s b page new = row1 s b ∷ move_rows s b.words page new

unfoldable pub moved : Shape → ℕ → ℕ → ℕ → Pages → Pages
moved s page new frame p = record {
  words = set p.words frame (frame_word new (word_writes (get_or p.words frame 0)));
  store = visited_all s (move_visit page new) p.store;
}

unfoldable pub move_page : Shape → Board → ℕ → ℕ → Outcome
move_page s b page new =
    by_table (refused b) (move_table s b page new)
    (done (with_pages b (moved s page new (found_frame (mapped_to s b.words page)) (pages_of b))))

-- ---- flush all: writes back every changed line, drops all

abbrev pub flush_table : Shape → Board → List Row
flush_table s b = row1 s b ∷ []

unfoldable pub flush_all : Shape → Board → Outcome
flush_all s b = by_table (refused b) (flush_table s b) (done (with_store b (visited_all s flush_visit b.store)))

-- ---- tag: remembers a line name

abbrev pub tag_table : Shape → Board → ℕ → List Row
tag_table s b name = row1 s b ∷ row 2 (not (is_name name)) ∷ row 3 b.tag.set ∷ []

unfoldable pub tag : Shape → Board → ℕ → Outcome
tag s b name = by_table (refused b) (tag_table s b name) (done (with_tag b (tagged name)))

-- ---- load-and-map (physical line): inserts the line with the page's present permission; if the line is held already it only clears the tag

-- the frame of the name's page, the physical line of the name in it, and the page's permission
abbrev pub name_frame : Shape → List ℕ → ℕ → Option ℕ
name_frame s words name = mapped_to s words (page_of_name name)

abbrev pub name_line : Shape → List ℕ → ℕ → ℕ
name_line s words name = line_in (found_frame (name_frame s words name)) name

abbrev pub name_writes : Shape → List ℕ → ℕ → Bool
name_writes s words name = word_writes (get_or words (found_frame (name_frame s words name)) 0)

-- 8: the name's page is not mapped; 13: not the physical line to which the name is mapped
abbrev pub home_rows : Shape → List ℕ → ℕ → ℕ → List Row
home_rows s words name line = row 8 (not (is_mapped (name_frame s words name))) ∷ row 13 (not (eqb line (name_line s words name))) ∷ []

abbrev pub load_rows : Shape → List ℕ → Pending → ℕ → List Row
load_rows s words t line = row 2 (not (is_physical_line s line)) ∷ row 3 (not t.set) ∷ home_rows s words t.name line

-- a line that is held stays as it is, which is no use; else it is inserted in the record `to`, which is one
unfoldable pub loaded_by : Shape → ℕ → ℕ → ℕ → Bool → Store → Option ℕ → Store
loaded_by s to name line write x (Some i) = x
loaded_by s to name line write x None = inserted s to name line write x

unfoldable pub loaded_uses : Shape → ℕ → Uses → Option ℕ → Uses
loaded_uses s to uses (Some i) = uses
loaded_uses s to uses None = used_in s uses to

-- the store, and the matrices, with the line inserted in the victim of its set
pub record Loaded : Type 0 where
  pub store : Store
  pub uses : Uses

abbrev pub loaded_with : Store → Uses → Loaded
loaded_with x uses = record { store = x; uses = uses }

unfoldable pub loaded : Shape → ℕ → ℕ → Bool → Store → Uses → Loaded
loaded s name line write x uses =
    loaded_with (loaded_by s (victim_of s uses x.records name) name line write x (holder_of s x.records name))
    (loaded_uses s (victim_of s uses x.records name) uses (holder_of s x.records name))

abbrev pub on_loaded : Board → Loaded → Board
on_loaded b x = with_use b x.store x.uses

abbrev pub load_and_map_table : Shape → Board → ℕ → List Row
load_and_map_table s b line = row1 s b ∷ load_rows s b.words b.tag line

unfoldable pub load_and_map : Shape → Board → ℕ → Outcome
load_and_map s b line =
    by_table (refused b) (load_and_map_table s b line)
    (done (with_tag (on_loaded b (loaded s b.tag.name line (name_writes s b.words b.tag.name) b.store b.uses)) no_tag))

-- ---- drop tag

abbrev pub drop_tag_table : Shape → Board → List Row
drop_tag_table s b = row1 s b ∷ row 3 (not b.tag.set) ∷ []

unfoldable pub drop_tag : Shape → Board → Outcome
drop_tag s b = by_table (refused b) (drop_tag_table s b) (done (with_tag b no_tag))
