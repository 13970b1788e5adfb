-- A record's two words say the record, and a record that is put leaves the others.
use Prim.Native.Nat.{ℕ, ◌+◌, ◌*◌, ◌/◌, ◌%◌, ◌≤◌}
use mathlib.Core.Path.{◌≡◌, ◌∙◌}
use mathlib.Core.Bool.{Bool, true, false}
use mathlib.Core.List.{List}
use native.Mathlib.Omega.{arith}
use lib.Dec.{eqb}
use lib.ListN.{length, get_or, set, length-set}
use lib.Seq.{get_or-set_same, get_or-set_other}
use Rattle.board.specs.Lists.{bit}
use Rattle.lines.specs.Records.{line_from, word_of, line_at, put_line, changed_line, permitted_line}
use Rattle.lines.specs.declared.Line.{Line}

bit-low : (b : Bool) → bit b ≤ 1
bit-low true = omega arith
bit-low false = omega arith

eqb-bit : (b : Bool) (n : ℕ) → n ≡ bit b → eqb n 1 ≡ b
eqb-bit true n e = rw e
eqb-bit false n e = rw e

line_word : (l : Line) → line_from l.name (word_of l) ≡ l
line_word l =
    let c = bit-low l.changed in
    let w = bit-low l.write in
    let v = bit-low l.valid in
    let p : word_of l / 8 ≡ l.physical = omega arith in
    rw (p, eqb-bit l.changed (word_of l / 4 % 2) (omega arith), eqb-bit l.write (word_of l / 2 % 2) (omega arith), eqb-bit l.valid (word_of l % 2) (omega arith))

module _ (records : List ℕ) (i : ℕ) (l : Line) where
  pub length-put : length (put_line records i l) ≡ length records
  unfolding put_line
  length-put = simp length-set

  pub line-put-same : 2 * i + 2 ≤ length records → line_at (put_line records i l) i ≡ l
  unfolding line_at put_line
  line-put-same h =
      let n : get_or (set (set records (2 * i) l.name) (2 * i + 1) (word_of l)) (2 * i) 0 ≡ l.name =
      get_or-set_other (set records (2 * i) l.name) (2 * i + 1) (2 * i) (word_of l) 0 (λ e. omega arith)
      ∙ get_or-set_same records (2 * i) l.name 0 (omega arith) in
      let w : get_or (set (set records (2 * i) l.name) (2 * i + 1) (word_of l)) (2 * i + 1) 0 ≡ word_of l =
      get_or-set_same (set records (2 * i) l.name) (2 * i + 1) (word_of l) 0 (simp length-set (omega arith)) in
      rw (n, w) (line_word l)

  pub line-put-other : (j : ℕ) → (i ≡ j → ⊥) → line_at (put_line records i l) j ≡ line_at records j
  unfolding line_at put_line
  line-put-other j d =
      let same : (k : ℕ) → (k ≡ 2 * i → ⊥) → (k ≡ 2 * i + 1 → ⊥) → get_or (set (set records (2 * i) l.name) (2 * i + 1) (word_of l)) k 0 ≡ get_or records k 0 =
      λ k a b. get_or-set_other (set records (2 * i) l.name) (2 * i + 1) k (word_of l) 0 b ∙ get_or-set_other records (2 * i) k l.name 0 a in
      rw (same (2 * j) (λ e. d (omega arith)) (λ e. omega arith), same (2 * j + 1) (λ e. omega arith) (λ e. d (omega arith)))

-- a record read, changed in one field and put back
module _ (r r₁ : List ℕ) (i : ℕ) (l : Line) (e : l ≡ line_at r i) where
  pub put-changed : r₁ ≡ put_line r i (changed_line l) → r₁ ≡ put_line r i (changed_line (line_at r i))
  put-changed f = rw (f, e)

  pub put-permitted : (write : Bool) → r₁ ≡ put_line r i (permitted_line l write) → r₁ ≡ put_line r i (permitted_line (line_at r i) write)
  put-permitted write f = rw (f, e)
