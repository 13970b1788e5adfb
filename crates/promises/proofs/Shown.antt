-- Every board that fits shows a memory: the bytes that look shows, line after line. Stands on Held and on the shape laws.
use Rattle.std.specs.Prelude.{Option, Some, None}
use Prim.Native.Nat.{ℕ, zero, suc, ◌+◌, ◌*◌, ◌≤◌, ◌<◌}
use mathlib.Core.Path.{◌≡◌, refl, sym, ◌∙◌}
use mathlib.Core.Bool.{Bool, true, false}
use mathlib.Core.List.{List, ◌++◌}
use native.Mathlib.Omega.{arith}
use lib.Dec.{eqb}
use lib.ListN.{length, drop, length-append, length-drop}
use lib.Seq.{take_all, take-append-le, drop-append-le, drop_at}
use borrow.Author.Tests.{eqb-true, eqb-false}
use Rattle.address.specs.Layout.{line_bytes, page_lines}
use Rattle.board.specs.Lists.{part}
use Rattle.board.specs.declared.Shape.{Shape}
use Rattle.line_bytes.specs.Bytes.{line_of}
use Rattle.board.proofs.Lists.{length_part}
use Rattle.lines.specs.Holds.{keeper_of}
use Rattle.stores.specs.Stores.{current_by, current}
use Rattle.store_laws.proofs.Held.{held-listed, keeper-some}
use Rattle.machine.specs.Boards.{Board, fits_board}
use Rattle.promises.specs.Sound.{shown_lines, ShowsSome}
use Rattle.promises.proofs.Shapes.{board-shaped}

-- a line before the seam of two lists, and the one behind it
line_before : (l m : List ℕ) (i : ℕ) → line_bytes * i + line_bytes ≤ length l → line_of (l ++ m) i ≡ line_of l i
unfolding line_of part
line_before l m i h = rw (drop-append-le (line_bytes * i) l m (omega arith)) (take-append-le line_bytes (drop (line_bytes * i) l) m (simp length-drop (omega arith)))

line-behind : (l m : List ℕ) (i : ℕ) → length l ≡ line_bytes * i → length m ≡ line_bytes → line_of (l ++ m) i ≡ m
unfolding line_of part
line-behind l m i h k = rw (drop_at l m (line_bytes * i) h) (take_all line_bytes m (omega arith))

module _ (s : Shape) (b : Board) (fits : fits_board s b ≡ true) where
  length-current : (line : ℕ) → line < page_lines * s.frames → length (current s b.store line) ≡ line_bytes
  unfolding current current_by line_of
  length-current line h = go (keeper_of s b.store.records line) refl
    where
      go : (f : Option ℕ) → keeper_of s b.store.records line ≡ f → length (current_by b.store.cache b.store.memory line f) ≡ line_bytes
      go (Some i) e =
          let k = keeper-some s b.store.records line i e in
          let l = held-listed s b.store.records i s.lines (board-shaped s b fits).records_are k.0 in
          length_part b.store.cache (line_bytes * i) line_bytes (omega (arith, (board-shaped s b fits).cache_is))
      go None e = length_part b.store.memory (line_bytes * line) line_bytes (omega (arith, (board-shaped s b fits).memory_is))

  length-shown : (n : ℕ) → n ≤ page_lines * s.frames → length (shown_lines s b.store n) ≡ line_bytes * n
  unfolding shown_lines
  length-shown zero h = refl
  length-shown (suc n) h =
      let e = length-append (shown_lines s b.store n) (current s b.store n) in
      let a = length-shown n (omega arith) in
      let c = length-current n (omega arith) in
      omega arith

  line-shown : (n line : ℕ) → n ≤ page_lines * s.frames → line < n → current s b.store line ≡ line_of (shown_lines s b.store n) line
  unfolding shown_lines
  line-shown zero line h l = absurd (omega arith)
  line-shown (suc n) line h l = go (eqb line n) refl (line-shown n line (omega arith))
    where
      go : (t : Bool) → eqb line n ≡ t → (line < n → current s b.store line ≡ line_of (shown_lines s b.store n) line)
          → current s b.store line ≡ line_of (shown_lines s b.store n ++ current s b.store n) line
      go true t before =
          let q : line ≡ n = eqb-true _ _ t in
          rw q (sym (line-behind (shown_lines s b.store n) (current s b.store n) n (length-shown n (omega arith)) (length-current n (omega arith))))
      go false t before =
          let q = eqb-false line n t in
          before (omega arith)
          ∙ sym (line_before (shown_lines s b.store n) (current s b.store n) line (omega (arith, length-shown n (omega arith))))

pub shows-some : ShowsSome
shows-some s b fits = record {
  same_length = length-shown s b fits (page_lines * s.frames) (omega arith) ∙ omega (arith, (board-shaped s b fits).memory_is);
  same_lines = λ line h. line-shown s b fits (page_lines * s.frames) line (omega arith) h;
}
