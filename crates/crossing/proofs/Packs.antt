-- The packing: nothing is lost, and a call's outcome crosses as it is.
use Prim.Native.Nat.{ℕ, ◌+◌, ◌*◌, ◌/◌, ◌%◌, ◌<◌}
use mathlib.Core.Path.{◌≡◌, refl, ◌∙◌, sym, ap}
use mathlib.Core.Bool.{Bool, true, false, not, cond}
use mathlib.Core.List.{List}
use lib.Dec.{eqb}
use lib.ListN.{length}
use native.Mathlib.Omega.{arith}
use borrow.Author.Tests.{ne_eqb}
use Rattle.board.specs.Lists.{is_yes}
use Rattle.board.specs.declared.Answer.{Answer}
use Rattle.board.specs.declared.Pending.{Pending}
use Rattle.machine.specs.Boards.{Board, sets_board, board, Outcome, outcome}
use Rattle.machine.specs.Lists.{Answered, answered, Listed, listed}
use Rattle.lines.specs.Victims.{Uses}
use Rattle.machine.proofs.Fits.{no-uses, no-matrices}
use Rattle.crossing.specs.Packing.{mark_unit, room_unit, number_unit, byte_end, packed, unpacked, Small, NothingLost, word_after, tag_of}

pub packs : (a : Answer) → Small a → a.value < mark_unit → unpacked (a.number * number_unit + a.mark * mark_unit + a.value) ≡ a
unfolding unpacked
packs a z v =
    let r = a.number * number_unit + a.mark * mark_unit + a.value in
    let n : r / number_unit ≡ a.number = omega (arith, z.mark_below) in
    let m : r / mark_unit % (number_unit / mark_unit) ≡ a.mark = omega (arith, z.mark_below) in
    let w : r % mark_unit ≡ a.value = omega arith in
    rw (n, m, w)

packs-back : (r : ℕ) → packed (unpacked r) ≡ r
unfolding packed unpacked
packs-back r = omega arith

packs-all : (a : Answer) → Small a → a.value < mark_unit → unpacked (packed a) ≡ a
unfolding packed
packs-all a z v = packs a z v

-- a mark that fits its byte leaves nothing above it
mark-is-byte : (r : ℕ) → Small (unpacked r) → r / mark_unit % byte_end ≡ (unpacked r).mark
unfolding unpacked
mark-is-byte r z = omega (arith, z.mark_below)

room-is-zero : (r : ℕ) → Small (unpacked r) → r / room_unit % (number_unit / room_unit) ≡ 0
unfolding unpacked
room-is-zero r z = omega (arith, z.mark_below)

pub nothing_lost : NothingLost
nothing_lost = record { answers = packs-all; numbers = packs-back; mark_byte = mark-is-byte; room = room-is-zero }

-- the outcome, with its answer read off the number
pub crosses : (a : Answer) (b : Board) (o : Outcome) (r : ℕ) → outcome a b ≡ o → unpacked r ≡ a → outcome (unpacked r) b ≡ o
crosses a b o r e f = rw f e

-- the same of a list
pub crosses-list : (a : Answer) (left : Answered) (o : Listed) (r : ℕ) → listed a left ≡ o → unpacked r ≡ a → listed (unpacked r) left ≡ o
crosses-list a left o r e f = rw f e

-- the same where the tag crosses as two numbers
pub crosses-tagged : (a : Answer) (slots w r c m : List ℕ) (u : Uses) (tag : Pending) (o : Outcome) (n set name : ℕ)
    → outcome a (sets_board slots w r c m u tag) ≡ o → unpacked n ≡ a → not (eqb set 0) ≡ tag.set → name ≡ tag.name
    → outcome (unpacked n) (sets_board slots w r c m u (tag_of set name)) ≡ o
crosses-tagged a slots w r c m u tag o n set name e f g h = rw (f, g, h) e

-- and where no matrices were lent: none come back
module _ (a : Answer) (slots w r c m : List ℕ) (u : Uses) (tag : Pending) (n : ℕ) (z : length u ≡ 0) (f : unpacked n ≡ a) where
  pub crosses-bare : (o : Outcome) → outcome a (sets_board slots w r c m u tag) ≡ o → outcome (unpacked n) (board slots w r c m tag) ≡ o
  crosses-bare o e = rw f (no-matrices slots w r c m u tag a o z e)

  pub crosses-list-bare : (answers : List Answer) (o : Listed) → listed a (answered answers (sets_board slots w r c m u tag)) ≡ o
      → listed (unpacked n) (answered answers (board slots w r c m tag)) ≡ o
  crosses-list-bare answers o e = rw (f, ← no-uses u z) e

-- both
pub crosses-tagged-bare : (a : Answer) (slots w r c m : List ℕ) (u : Uses) (tag : Pending) (o : Outcome) (n set name : ℕ) → length u ≡ 0
    → outcome a (sets_board slots w r c m u tag) ≡ o → unpacked n ≡ a → not (eqb set 0) ≡ tag.set → name ≡ tag.name
    → outcome (unpacked n) (board slots w r c m (tag_of set name)) ≡ o
crosses-tagged-bare a slots w r c m u tag o n set name z e f g h =
    crosses-bare (unpacked n) slots w r c m u (tag_of set name) n z refl o (crosses-tagged a slots w r c m u tag o n set name e f g h)

-- the returns of word_after
pub word-given : (before : ℕ) (set : Bool) → set ≡ true → (before ≡ 0 → ⊥) → before ≡ word_after before set
unfolding word_after
word-given before set e n = rw (e, ne_eqb _ _ n)

pub word-new : (before : ℕ) (set : Bool) → set ≡ true → before ≡ 0 → 1 ≡ word_after before set
unfolding word_after
word-new before set e n = rw (e, n)

pub word_none : (before : ℕ) (set : Bool) → set ≡ false → 0 ≡ word_after before set
unfolding word_after
word_none before set e = rw e

-- the word says the flag
word-yes : (t u : Bool) (before : ℕ) → is_yes before ≡ u → is_yes (cond t (cond u before 1) 0) ≡ t
word-yes true true before e = e
word-yes true false before e = refl
word-yes false u before e = refl

pub word-says : (before after : ℕ) (set : Bool) → after ≡ word_after before set → is_yes after ≡ set
unfolding word_after
word-says before after set e = rw e (word-yes set (is_yes before) before refl)

pub word_kept : (before after : ℕ) (set : Bool) → after ≡ word_after before set → after ≡ word_after before (is_yes after)
word_kept before after set e = e ∙ ap (word_after before) (sym (word-says before after set e))
