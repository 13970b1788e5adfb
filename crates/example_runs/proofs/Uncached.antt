-- The run whose last call brings another U, call by call.
use Prim.{tt}
use Prim.Native.Nat.{ℕ}
use mathlib.Core.Path.{◌≡◌, refl, sym, ap, ◌∙◌}
use mathlib.Core.Bool.{true, false}
use mathlib.Core.List.{List, [], ◌∷◌}
use native.Mathlib.Omega.{arith}
use lib.ListN.{length, get_or, set, replicate}
use lib.Count.{ones, ones_in}
use Rattle.board.specs.Answers.{answer, mark_of}
use Rattle.board.specs.Searches.{first}
use Rattle.board.specs.Shapes.{edition_holds, matrices_of, fits_shape}
use Rattle.board.specs.declared.Shape.{Shape}
use Rattle.board.specs.declared.Answer.{Answer}
use Rattle.board.proofs.Lists.{length-splice}
use Rattle.slots.specs.Slots.{slot_word}
use Rattle.pages.specs.Pages.{frame_word, lowest_from, lowest_frame, mapped_to, home_by, home_of}
use Rattle.line_bytes.specs.Bytes.{number, line_of, with_line, zeros, zeroed_frame}
use Rattle.line_bytes.proofs.Bytes.{length-zeros, length-line}
use Rattle.lines.specs.Records.{line_at, put_line}
use Rattle.lines.specs.Holds.{holds_line, holds_at, holds_name, holder_of}
use Rattle.lines.specs.Victims.{is_empty, victim_by, victim_at, used_in}
use Rattle.stores.specs.Stores.{written_back, filled, noted, inserted, performed_at}
use Rattle.reach.specs.Reach.{way_by_home, way_by, way_of, unreached, may_write}
use Rattle.visits.specs.Visits.{visited, sweep, visited_all}
use Rattle.machine.specs.Boards.{Board, board, fits_board, no_tag, Outcome, outcome, refused}
use Rattle.machine.specs.Refusals.{by_table, too_large, aligned_to, is_mapped}
use Rattle.machine.specs.Accesses.{performed_on, accessed_by, uses_by, accessed, user_table, user_access}
use Rattle.machine.specs.Calls as calls
use Rattle.promises.specs.Plain.{Plain, Given, given, plain_user, plain_attach, plain_map, plain_access}
use Rattle.promises.specs.Runs.{ran, gained, attach, map, Call, supervisor, supervise, step, Reply, plain_supervise, plain_step}
use Rattle.promises.specs.Brought.{Brought, bring, own, unfit, EachBrings, brought_next, brought_reply, brought_after, brought_replies, plain_brought_next, plain_brought_reply, plain_brought_after, plain_brought_replies}
use Rattle.example_runs.specs.Uncached.{own_shape, other_shape, start, plain_start, load, opening, run, UncachedIsTheBoards, unfit_shape, UnfitRefused}

-- ---- the boards of the run

-- memory after the map; the cache with its first line
abbrev memory : List ℕ
memory = zeroed_frame (zeros 4096) 0

abbrev cache : List ℕ
cache = with_line (zeros 16) 0 (line_of memory 0)

memory_length : length memory ≡ 4096
unfolding zeroed_frame
memory_length = length-splice (zeros 4096) 0 (zeros 4096) ∙ length-zeros 4096

cache-length : length cache ≡ 16
cache-length = length-line (zeros 16) 0 (line_of memory 0) ∙ length-zeros 16

abbrev words : List ℕ
words = frame_word 0x200000 true ∷ []

abbrev slots : List ℕ
slots = set (replicate 512 0) 0 (slot_word 2048 true)

abbrev mapped : Board
mapped = board (replicate 512 0) words (0 ∷ 0 ∷ []) (zeros 16) memory no_tag

abbrev attached : Board
attached = board slots words (0 ∷ 0 ∷ []) (zeros 16) memory no_tag

-- the line of the page's start, not changed, with write permission
abbrev held : Board
held = board slots words (0x20000000 ∷ 3 ∷ []) cache memory no_tag

-- ---- the calls on the board

does-map : step own_shape start (supervisor (map 0x200000 0 true)) ≡ outcome (answer 0 0 0) mapped
unfolding ones ones_in edition_holds matrices_of fits_shape lowest_from lowest_frame mapped_to line_at holds_line holds_at visited sweep visited_all by_table is_mapped calls.map_page calls.mapped supervise step
does-map = rw (length-zeros 16, length-zeros 4096)

does-attach : step own_shape mapped (supervisor (attach 0 0 2048 true)) ≡ outcome (answer 0 0 0) attached
unfolding ones ones_in edition_holds matrices_of fits_shape by_table calls.attach supervise step
does-attach = rw (length-zeros 16, memory_length)

does-load : step own_shape attached load ≡ outcome (answer 0 (number cache 0 1) 2) held
unfolding ones ones_in edition_holds matrices_of fits_shape lowest_from lowest_frame mapped_to home_by home_of line_at put_line holds_line holds_at first holds_name holder_of is_empty victim_by victim_at used_in written_back filled noted inserted performed_at way_by_home way_by way_of unreached may_write by_table too_large aligned_to mark_of performed_on accessed_by uses_by accessed user_table user_access step
does-load = rw (length-zeros 16, memory_length)

-- the line is held, whatever U says
does-hit : step other_shape held load ≡ outcome (answer 0 (number cache 0 1) 1) held
unfolding ones ones_in edition_holds matrices_of fits_shape line_at holds_line holds_at first holds_name holder_of used_in performed_at way_by way_of unreached may_write by_table too_large aligned_to mark_of performed_on accessed_by uses_by accessed user_table user_access step
does-hit = rw (cache-length, memory_length)

-- a run of one call, and of a call and others
after_last : (t : Shape) (b c : Board) (k : Call) (a : Answer) → step t b k ≡ outcome a c → brought_after b (bring t k ∷ []) ≡ c
unfolding ran brought_next
after_last t b c k a e = ap (λ (o : Outcome). o.after) e

after_first : (t : Shape) (b c : Board) (k : Call) (a : Answer) (ks : List Brought) → step t b k ≡ outcome a c → brought_after b (bring t k ∷ ks) ≡ brought_after c ks
unfolding ran brought_next
after_first t b c k a ks e = ap (λ (o : Outcome). brought_after o.after ks) e

opened : brought_after start opening ≡ held
opened = after_first _ _ _ _ _ _ does-map ∙ after_first _ _ _ _ _ _ does-attach ∙ after_last _ _ _ _ _ does-load

-- ---- and on the plain machine

abbrev plain : List ℕ → Plain
plain attachments = record { slots = attachments; words = words; tag = no_tag; memory = memory; records_length = 2; cache_length = 16; uses_length = 0 }

plain-maps : plain_step own_shape plain_start (supervisor (map 0x200000 0 true)) ≡ given 0 0 (plain (replicate 512 0))
unfolding ones ones_in edition_holds matrices_of fits_shape lowest_from lowest_frame mapped_to by_table is_mapped plain_map plain_supervise plain_step
plain-maps = rw (length-zeros 16, length-zeros 4096)

plain-attaches : plain_step own_shape (plain (replicate 512 0)) (supervisor (attach 0 0 2048 true)) ≡ given 0 0 (plain slots)
unfolding ones ones_in edition_holds matrices_of fits_shape by_table plain_attach plain_supervise plain_step
plain-attaches = rw memory_length

plain-loads : plain_step own_shape (plain slots) load ≡ given 0 (number memory 0 1) (plain slots)
unfolding ones ones_in edition_holds matrices_of fits_shape lowest_from lowest_frame mapped_to by_table is_mapped too_large aligned_to calls.found_frame plain_access plain_user plain_step
plain-loads = rw memory_length

-- with the other U no frame is left for the page
plain-misses : plain_step other_shape (plain slots) load ≡ given 8 0 (plain slots)
unfolding ones ones_in edition_holds matrices_of fits_shape lowest_from lowest_frame mapped_to by_table is_mapped too_large aligned_to plain_user plain_step
plain-misses = rw memory_length

plain-after-last : (t : Shape) (p q : Plain) (k : Call) (v : ℕ) → plain_step t p k ≡ given 0 v q → plain_brought_after p (bring t k ∷ []) ≡ q
unfolding ran plain_brought_next
plain-after-last t p q k v e = ap (λ (g : Given). g.after) e

plain-after-first : (t : Shape) (p q : Plain) (k : Call) (v : ℕ) (ks : List Brought) → plain_step t p k ≡ given 0 v q
    → plain_brought_after p (bring t k ∷ ks) ≡ plain_brought_after q ks
unfolding ran plain_brought_next
plain-after-first t p q k v ks e = ap (λ (g : Given). plain_brought_after g.after ks) e

plain-opened : plain_brought_after plain_start opening ≡ plain slots
plain-opened = plain-after-first _ _ _ _ _ _ plain-maps ∙ plain-after-first _ _ _ _ _ _ plain-attaches ∙ plain-after-last _ _ _ _ _ plain-loads

-- ---- the two at the last call

board-hits : (step other_shape (brought_after start opening) load).answer.number ≡ 0
board-hits = rw opened (ap (λ (o : Outcome). o.answer.number) does-hit)

plain-eight : (plain_step other_shape (plain_brought_after plain_start opening) load).number ≡ 8
plain-eight = rw plain-opened (ap (λ (g : Given). g.number) plain-misses)

-- the last of four replies
abbrev last_number : List Reply → ℕ
last_number l = (get_or l 3 (record { number = 0; value = 0 })).number

numbers-differ : brought_replies start run ≡ plain_brought_replies plain_start run → ⊥
unfolding ran gained brought_reply plain_brought_reply
numbers-differ e = let z : ◌≡◌ {A = ℕ} 0 8 = sym board-hits ∙ ap last_number e ∙ plain-eight in omega arith

pub uncached-is-the-boards : UncachedIsTheBoards
unfolding ones ones_in edition_holds matrices_of fits_shape
uncached-is-the-boards = record {
  own_fits = rw (opened, cache-length, memory_length);
  other_fits = rw (opened, cache-length, memory_length);
  board_number = board-hits;
  plain_number = plain-eight;
  replies_differ = numbers-differ;
}

-- ---- numbers that don't fit

unfit-held : fits_board unfit_shape held ≡ false
unfolding ones ones_in edition_holds matrices_of fits_shape
unfit-held = refl

refused-held : step unfit_shape held load ≡ refused held 1
unfolding by_table user_table user_access step
refused-held = rw unfit-held

pub unfit-refused : UnfitRefused
unfolding EachBrings
unfit-refused = record {
  premise_met = (own refl, (own refl, (own refl, (unfit (rw (does-map, does-attach, does-load) unfit-held), (own refl, tt)))));
  refused_by_1 = rw opened refused-held;
}
