-- Numbers in bytes, width by width, as the code reads and writes them.
use Prim.Native.Nat.{ℕ, zero, suc, ◌+◌, ◌*◌, ◌-◌, ◌/◌, ◌%◌, ◌^◌, ◌≤◌, ◌<◌}
use mathlib.Core.Path.{◌≡◌, ◌∙◌, refl, sym, ap}
use mathlib.Core.List.{List, [], ◌∷◌, ◌++◌}
use native.Mathlib.Nat.{add-zero, add-sub_cancel_left, div-one}
use native.Mathlib.Omega.{arith}
use lib.ListN.{length, get_or, set, take, drop, length-replicate}
use Rattle.board.specs.Lists.{part, splice}
use Rattle.board.proofs.Lists.{splice-lent, length-splice, length_part}
use Rattle.line_bytes.specs.Bytes.{number, digits, stored, line_of, with_line, zeros, zeroed_frame}
use Rattle.line_bytes.specs.Premises.{Width}

-- a width that is neither 1 nor 2 is 4
width_four : (w : ℕ) → Width w → (w ≡ 1 → ⊥) → (w ≡ 2 → ⊥) → w ≡ 4
width_four zero h a b = absurd (omega (arith, h.low))
width_four (suc zero) h a b = absurd (a refl)
width_four (suc (suc zero)) h a b = absurd (b refl)
width_four (suc (suc (suc zero))) h a b = absurd (h.not_three refl)
width_four (suc (suc (suc (suc w)))) h a b = omega (arith, h.high)

module _ (bytes : List ℕ) (at : ℕ) where
  pub number-pair : (a b : ℕ) → a ≡ get_or bytes at 0 → b ≡ get_or bytes (at + 1) 0 → a * 256 + b ≡ number bytes at 2
  unfolding number
  number-pair a b e f = rw (e, f) (simp add-zero (omega arith))

  module _ (width : ℕ) where
    pub number-one : (a : ℕ) → width ≡ 1 → a ≡ get_or bytes at 0 → a ≡ number bytes at width
    unfolding number
    number-one a w e = rw (w, e) (simp add-zero (omega arith))

    pub number-four : (a b : ℕ) → Width width → (width ≡ 1 → ⊥) → (width ≡ 2 → ⊥) → a ≡ number bytes at 2 → b ≡ number bytes (at + 2) 2
        → a * 65536 + b ≡ number bytes at width
    unfolding number
    number-four a b h n m e f =
        let z : at + 2 + 1 ≡ at + 3 = omega arith in
        rw (width_four width h n m, e, f, z) (simp add-zero (omega arith))

-- a number read from the aligned word that it lies in, of which a and b are the halves
module _ (bytes : List ℕ) (base a b : ℕ) (e : a ≡ number bytes base 2) (f : b ≡ number bytes (base + 2) 2) (la : a < 65536) (lb : b < 65536)
    (l₁ : get_or bytes (base + 1) 0 < 256) (l₃ : get_or bytes (base + 2 + 1) 0 < 256) where
  high-pair : a ≡ get_or bytes base 0 * 256 + get_or bytes (base + 1) 0
  high-pair = e ∙ sym (number-pair bytes base _ _ refl refl)

  low-pair : b ≡ get_or bytes (base + 2) 0 * 256 + get_or bytes (base + 2 + 1) 0
  low-pair = f ∙ sym (number-pair bytes (base + 2) _ _ refl refl)

  abbrev shifted : ℕ → ℕ → ℕ
  shifted before width = (a * 65536 + b) * 2 ^ (before * 8) % 2 ^ 32 / 2 ^ (32 - 8 * width)

  -- width by width, by how many bytes stand before it
  one_in : (before at : ℕ) → at ≡ base + before → before + 1 ≤ 4 → shifted before 1 ≡ number bytes at 1
  one_in zero at z h = let q : at ≡ base = omega arith in number-one bytes at 1 _ refl (rw q (omega (arith, high-pair)))
  one_in (suc zero) at z h = number-one bytes at 1 _ refl (rw z (omega (arith, high-pair)))
  one_in (suc (suc zero)) at z h = number-one bytes at 1 _ refl (rw z (omega (arith, low-pair)))
  one_in (suc (suc (suc zero))) at z h = let q : at ≡ base + 2 + 1 = omega arith in number-one bytes at 1 _ refl (rw q (omega (arith, low-pair)))
  one_in (suc (suc (suc (suc before)))) at z h = absurd (omega arith)

  two_in : (before at : ℕ) → at ≡ base + before → before + 2 ≤ 4 → shifted before 2 ≡ number bytes at 2
  two_in zero at z h =
      let q : at ≡ base = omega arith in let k : shifted 0 2 ≡ a = omega arith in
      rw q (k ∙ e)
  two_in (suc zero) at z h =
      let q : base + 1 + 1 ≡ base + 2 = omega arith in
      let k : shifted 1 2 ≡ get_or bytes (base + 1) 0 * 256 + get_or bytes (base + 2) 0 = omega (arith, high-pair, low-pair) in
      rw z (k ∙ number-pair bytes (base + 1) _ _ refl (ap (λ (x : ℕ). get_or bytes x 0) (sym q)))
  two_in (suc (suc zero)) at z h = let k : shifted 2 2 ≡ b = omega arith in rw z (k ∙ f)
  two_in (suc (suc (suc before))) at z h = absurd (omega arith)

  four-in : (before at : ℕ) → at ≡ base + before → before + 4 ≤ 4 → Width 4 → shifted before 4 ≡ number bytes at 4
  four-in zero at z h w =
      let q : at ≡ base = omega arith in let k : shifted 0 4 ≡ a * 65536 + b = omega arith in
      rw q (k ∙ number-four bytes base 4 a b w (λ x. omega arith) (λ x. omega arith) e f)
  four-in (suc before) at z h w = absurd (omega arith)

  in_word : (before width at : ℕ) → at ≡ base + before → before + width ≤ 4 → Width width → shifted before width ≡ number bytes at width
  in_word before zero at z h w = absurd (omega (arith, w.low))
  in_word before (suc zero) at z h w = one_in before at z h
  in_word before (suc (suc zero)) at z h w = two_in before at z h
  in_word before (suc (suc (suc zero))) at z h w = absurd (w.not_three refl)
  in_word before (suc (suc (suc (suc zero)))) at z h w = four-in before at z h w
  in_word before (suc (suc (suc (suc (suc width))))) at z h w = absurd (omega (arith, w.high))

-- the word that four bytes make
pub number-in-word : (bytes : List ℕ) (at width word : ℕ)
    → word ≡ get_or bytes (at / 4 * 4) 0 * 256 ^ 3 + get_or bytes (at / 4 * 4 + 1) 0 * 256 ^ 2 + get_or bytes (at / 4 * 4 + 2) 0 * 256 ^ 1 + get_or bytes (at / 4 * 4 + 3) 0
    → ((k : ℕ) → get_or bytes k 0 < 256) → at % 4 + width ≤ 4 → Width width
    → word * 2 ^ (at % 4 * 8) % 2 ^ 32 / 2 ^ (32 - 8 * width) ≡ number bytes at width
number-in-word bytes at width word e small h w =
    let base = at / 4 * 4 in
    let a = get_or bytes base 0 * 256 + get_or bytes (base + 1) 0 in
    let b = get_or bytes (base + 2) 0 * 256 + get_or bytes (base + 2 + 1) 0 in
    let z : base + 3 ≡ base + 2 + 1 = omega arith in
    let y : get_or bytes (base + 3) 0 ≡ get_or bytes (base + 2 + 1) 0 = ap (λ (x : ℕ). get_or bytes x 0) z in
    let x : word ≡ a * 65536 + b = omega (arith, e, y) in
    rw x
    (in_word bytes base a b (number-pair bytes base _ _ refl refl) (number-pair bytes (base + 2) _ _ refl refl) (omega (arith, small base, small (base + 1)))
    (omega (arith, small (base + 2), small (base + 2 + 1))) (small (base + 1)) (small (base + 2 + 1)) (at % 4) width at (omega arith) h w)

module _ (bytes : List ℕ) (at width value : ℕ) where
  pub stored_one : width ≡ 1 → set bytes at (value % 256) ≡ stored bytes at width value
  unfolding stored digits splice
  stored_one w = rw (w, div-one)

  -- what lent bytes leave where a number's bytes were copied into them
  module _ (line : List ℕ) where
    -- of the number whose bytes they are only its last two, or four, bytes count
    pub stored-two : (x : ℕ) → width ≡ 2 → at + 2 ≤ length bytes → line ≡ (x / 256 % 256 ∷ x % 256 ∷ []) → x % 65536 ≡ value % 65536
        → take at bytes ++ (line ++ drop (at + 2 - at) (drop at bytes)) ≡ stored bytes at width value
    unfolding stored digits
    stored-two x w h e same =
        let a : x / 256 % 256 ≡ value / 256 % 256 = omega (arith, same) in
        let b : x % 256 ≡ value % 256 = omega (arith, same) in
        rw (w, e, a, b, div-one) (splice-lent bytes at 2 (value / 256 % 256 ∷ value % 256 ∷ []) refl h)

    pub stored-four : (x : ℕ) → Width width → (width ≡ 1 → ⊥) → (width ≡ 2 → ⊥) → at + width ≤ length bytes
        → line ≡ (x / 16777216 % 256 ∷ x / 65536 % 256 ∷ x / 256 % 256 ∷ x % 256 ∷ []) → x ≡ value
        → take at bytes ++ (line ++ drop (at + 4 - at) (drop at bytes)) ≡ stored bytes at width value
    unfolding stored digits
    stored-four x g n m h e same =
        let w = width_four width g n m in
        rw (w, e, same, div-one) (splice-lent bytes at 4 (value / 16777216 % 256 ∷ value / 65536 % 256 ∷ value / 256 % 256 ∷ value % 256 ∷ []) refl (omega arith))

  pub length-stored : length (stored bytes at width value) ≡ length bytes
  unfolding stored
  length-stored = length-splice bytes at (digits width value)

pub length-line : (bytes : List ℕ) (i : ℕ) (line : List ℕ) → length (with_line bytes i line) ≡ length bytes
unfolding with_line
length-line bytes i line = length-splice bytes (16 * i) line

-- what a lent line leaves where another line was copied into it
pub line-lent : (dst src : List ℕ) (i j : ℕ) → 16 * i + 16 ≤ length dst → 16 * j + 16 ≤ length src
    → take (16 * i) dst ++ (take (16 * j + 16 - 16 * j) (drop (16 * j) src) ++ drop (16 * i + 16 - 16 * i) (drop (16 * i) dst)) ≡ with_line dst i (line_of src j)
unfolding with_line line_of part
line-lent dst src i j h k =
    rw (add-sub_cancel_left (16 * j) 16) (splice-lent dst (16 * i) 16 (take 16 (drop (16 * j) src)) (length_part src (16 * j) 16 k) h)

pub length-zeros : (n : ℕ) → length (zeros n) ≡ n
unfolding zeros
length-zeros n = length-replicate {A = ℕ} n 0

-- what a lent frame leaves where it was filled
pub zero-lent : (memory : List ℕ) (frame : ℕ) → 4096 * frame + 4096 ≤ length memory
    → take (4096 * frame) memory ++ (zeros (length (take (4096 * frame + 4096 - 4096 * frame) (drop (4096 * frame) memory)))
    ++ drop (4096 * frame + 4096 - 4096 * frame) (drop (4096 * frame) memory))
    ≡ zeroed_frame memory frame
unfolding zeroed_frame part
zero-lent memory frame h =
    let e : length (take (4096 * frame + 4096 - 4096 * frame) (drop (4096 * frame) memory)) ≡ 4096 =
    rw (add-sub_cancel_left (4096 * frame) 4096) (length_part memory (4096 * frame) 4096 h) in
    rw e (splice-lent memory (4096 * frame) 4096 (zeros 4096) (length-zeros 4096) h)
