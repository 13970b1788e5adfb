-- CR 9: move hands a page over. After it the new page shows the bytes that the old one showed, through the cache, and the old page is not mapped (on a sound
-- board: of a doubled page only the lowest frame's word changes).
-- (That the plain machine does what the board does is demand 2; what it means for demand 3 is said there.)
use Rattle.std.specs.Prelude.{ℕ, ◌<◌, ◌≡◌, true, false, ◌&&◌, List, get_or, Some, None}
use Rattle.address.specs.Layout.{page_lines}
use Rattle.address.specs.Addresses.{page_of, ordinary_page, page_of_name}
use Rattle.address.specs.declared.Effective.{Effective}
use Rattle.address.specs.declared.Global.{Global}
use Rattle.pages.specs.Pages.{word_writes, mapped_to}
use Rattle.board.specs.declared.Shape.{Shape}
use Rattle.stores.specs.declared.Access.{Access}
use Rattle.line_bytes.specs.Bytes.{line_of}
use Rattle.lines.specs.Records.{line_at}
use Rattle.lines.specs.Holds.{holds_at}
use Rattle.machine.specs.Boards.{Board, fits_board, Fresh, refused}
use Rattle.machine.specs.Accesses.{user_global, user_access, supervisor_access}
use Rattle.machine.specs.Calls.{move_page}
use Rattle.machine.specs.Looks.{look}
use Rattle.promises.specs.Runs.{Call, after}
use Rattle.promises.specs.Sound.{Sound}
use Rattle.promises.specs.Demand3.{page_line}

-- c is the board b after the page was moved to the new one
pub record HandedOver (s : Shape) (b c : Board) (page new : ℕ) : Type 0 where
  -- the new page has the frame that the old one had, with the same permission, and shows the same bytes
  pub frame : ℕ
  pub old_frame : mapped_to s b.words page ≡ Some frame
  pub new_frame : mapped_to s c.words new ≡ Some frame
  pub same_permission : word_writes (get_or c.words frame 0) ≡ word_writes (get_or b.words frame 0)
  pub same_bytes : (i : ℕ) → i < page_lines → page_line s c new i ≡ page_line s b page i
  -- the old page is not mapped, and no access to it is done, by a process or by the supervisor
  pub old_unmapped : mapped_to s c.words page ≡ None
  pub old_refused_user : (process : ℕ) (a : Access) (e : Effective) → page_of (user_global c.slots process e) ≡ page
      → (user_access s c process a e).answer.number ≡ 0 → ⊥
  pub old_refused_supervisor : (a : Access) (g : Global) → page_of g ≡ page → (supervisor_access s c a g).answer.number ≡ 0 → ⊥
  -- the other pages have the frames that they had, and look shows the same at every physical line
  pub same_others : (other : ℕ) → (other ≡ page → ⊥) → (other ≡ new → ⊥) → mapped_to s c.words other ≡ mapped_to s b.words other
  pub same_look : (line : ℕ) → look s c line ≡ look s b line

-- of all else, on any board: slots, tag, matrices, the words of other frames, the cache bytes, the records that hold no line of either page, and memory but
-- for the physical lines of their changed lines
pub record LeavesRest (s : Shape) (b c : Board) (page new : ℕ) : Type 0 where
  pub same_slots : c.slots ≡ b.slots
  pub same_tag : c.tag ≡ b.tag
  pub same_uses : c.uses ≡ b.uses
  pub same_words : (f : ℕ) → (mapped_to s b.words page ≡ Some f → ⊥) → get_or c.words f 0 ≡ get_or b.words f 0
  pub same_cache : c.store.cache ≡ b.store.cache
  pub same_records : (i : ℕ) → i < s.lines
      → (holds_at s b.store.records i ≡ true
      → (page_of_name (line_at b.store.records i).name ≡ page → ⊥) × (page_of_name (line_at b.store.records i).name ≡ new → ⊥))
      → line_at c.store.records i ≡ line_at b.store.records i
  pub same_memory : (line : ℕ)
      → ((i : ℕ) → i < s.lines → holds_at s b.store.records i ≡ true → (line_at b.store.records i).changed ≡ true
      → (line_at b.store.records i).physical ≡ line
      → (page_of_name (line_at b.store.records i).name ≡ page → ⊥) × (page_of_name (line_at b.store.records i).name ≡ new → ⊥))
      → line_of c.store.memory line ≡ line_of b.store.memory line

-- no line named in this page is held
abbrev pub NoLineOf : Shape → Board → ℕ → Type 0
NoLineOf s c page = (i : ℕ) → holds_at s c.store.records i ≡ true → page_of_name (line_at c.store.records i).name ≡ page → ⊥

pub record MovesHandOver : Type 0 where
  -- a move that is done, at any moment of a run from a fresh board
  pub hands_over : (s : Shape) (b : Board) → Fresh b → (ks : List Call) (page new : ℕ) → (move_page s (after s b ks) page new).answer.number ≡ 0
      → HandedOver s (after s b ks) (move_page s (after s b ks) page new).after page new
  -- and on any sound board
  pub hands_over_sound : (s : Shape) (b : Board) → Sound s b → (page new : ℕ) → (move_page s b page new).answer.number ≡ 0
      → HandedOver s b (move_page s b page new).after page new
  -- on any board at all no line of either page is left in the cache, so the old page can't be read from a held line; and the rest is left
  pub no_old_line : (s : Shape) (b : Board) (page new : ℕ) → (move_page s b page new).answer.number ≡ 0 → NoLineOf s (move_page s b page new).after page
  pub no_new_line : (s : Shape) (b : Board) (page new : ℕ) → (move_page s b page new).answer.number ≡ 0 → NoLineOf s (move_page s b page new).after new
  pub leaves_rest : (s : Shape) (b : Board) (page new : ℕ) → (move_page s b page new).answer.number ≡ 0 → LeavesRest s b (move_page s b page new).after page new
  -- on any board that fits: it is done where the old page is mapped and the new one, an ordinary page, is not, whatever tag is pending
  pub is_done_lem : (s : Shape) (b : Board) (page new frame : ℕ) → fits_board s b ≡ true → ordinary_page new ≡ true
      → mapped_to s b.words page ≡ Some frame → mapped_to s b.words new ≡ None → (move_page s b page new).answer.number ≡ 0
  -- and refused, with nothing changed: by 2 where one of the pages is not ordinary, by 8 where the old one is not mapped, by 11 where the new one is
  pub refused_2 : (s : Shape) (b : Board) (page new : ℕ) → fits_board s b ≡ true → (ordinary_page page && ordinary_page new) ≡ false → move_page s b page new ≡ refused b 2
  pub refused_8 : (s : Shape) (b : Board) (page new : ℕ) → fits_board s b ≡ true → ordinary_page page ≡ true → ordinary_page new ≡ true
      → mapped_to s b.words page ≡ None → move_page s b page new ≡ refused b 8
  pub refused_11 : (s : Shape) (b : Board) (page new frame other : ℕ) → fits_board s b ≡ true
      → mapped_to s b.words page ≡ Some frame → mapped_to s b.words new ≡ Some other → move_page s b page new ≡ refused b 11
  -- equal pages, then: by 11, or by 8 if the page isn't mapped
  pub equal_mapped : (s : Shape) (b : Board) (page frame : ℕ) → fits_board s b ≡ true → mapped_to s b.words page ≡ Some frame → move_page s b page page ≡ refused b 11
  pub equal_unmapped : (s : Shape) (b : Board) (page : ℕ) → fits_board s b ≡ true → ordinary_page page ≡ true
      → mapped_to s b.words page ≡ None → move_page s b page page ≡ refused b 8
