-- What number 1 says where it does not apply: the facts of an accepted shape, of a board and of a plain machine.
-- Stands on the shape laws of `board` and `lines`.
use mathlib.Core.Path.{◌≡◌, refl, sym}
use mathlib.Core.Bool.{true, false}
use lib.ListN.{length}
use borrow.Author.Tests.{not-false}
use Rattle.board.specs.declared.Shape.{Shape}
use Rattle.board.proofs.Shapes.{Shaped, shaped}
use Rattle.lines.specs.Premises.{Lined}
use Rattle.stores.specs.Premises.{Sized}
use Rattle.machine.specs.Boards.{Board, fits_board}
use Rattle.promises.specs.Plain.{Plain, plain_row1}

abbrev pub BoardShaped : Shape → Board → Type 0
BoardShaped s b =
    Shaped s (length b.slots) (length b.words) (length b.store.records) (length b.store.cache) (length b.store.memory) (length b.uses)

pub board-shaped : (s : Shape) (b : Board) → fits_board s b ≡ true → BoardShaped s b
board-shaped s b h = shaped s _ _ _ _ _ _ true (sym h) refl

abbrev pub PlainShaped : Shape → Plain → Type 0
PlainShaped s p = Shaped s (length p.slots) (length p.words) p.records_length p.cache_length (length p.memory) p.uses_length

pub plain-shaped : (s : Shape) (p : Plain) → (plain_row1 s p).applies ≡ false → PlainShaped s p
plain-shaped s p h = shaped s _ _ _ _ _ _ true (sym (not-false _ h)) refl

-- what is asked of lines and frames, by which the laws of sets go
pub board-lined : (s : Shape) (b : Board) → fits_board s b ≡ true → Lined s
board-lined s b h = let k = board-shaped s b h in record { one = k.one; edition = k.edition; lines_max = k.lines_max; frames_max = k.frames_max }

-- and of the store
pub board-sized : (s : Shape) (b : Board) → fits_board s b ≡ true → Sized s b.store.records b.store.cache b.store.memory
board-sized s b h = let k = board-shaped s b h in record { lined = board-lined s b h; records_are = k.records_are; cache_is = k.cache_is; memory_is = k.memory_is }
