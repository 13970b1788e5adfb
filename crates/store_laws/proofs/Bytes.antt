-- Bytes stored and copied, read back one by one; numbers in them; and lines by their bytes.
-- Stands on the list laws of `board`; every file here takes its byte laws from this one.
use Prim.Native.Nat.{ℕ, suc, zero, ◌+◌, ◌*◌, ◌/◌, ◌%◌, ◌^◌, ◌≤◌, ◌<◌}
use mathlib.Core.Logic.{◌≢◌}
use mathlib.Core.Path.{◌≡◌, refl, sym, ap, ◌∙◌}
use mathlib.Core.Bool.{Bool, true, false}
use mathlib.Core.List.{List, [], ◌∷◌}
use native.Mathlib.Nat.{pow-suc, div-one, div-eq_of_lt, div-div-eq-div-mul}
use native.Mathlib.Omega.{arith}
use lib.Dec.{eqb}
use lib.ListN.{length, get_or, set, length-set, length-take, length-drop}
use lib.Seq.{get_or-set_same, get_or-set_other, get_or-take, get_or-drop, ext_get_or}
use borrow.Author.Tests.{eqb-true, eqb-false}
use Rattle.board.specs.Lists.{splice, part}
use Rattle.board.proofs.Lists.{length-splice, length_part}
use Rattle.line_bytes.specs.Bytes.{number, digits, stored, line_of, with_line}
use Rattle.store_laws.proofs.Sim.{byte}

-- ---- one element after a store

-- outside what is stored
pub splice-out : (l : List ℕ) (at : ℕ) (vs : List ℕ) (x : ℕ) → (at ≤ x → x < at + length vs → ⊥) → get_or (splice l at vs) x 0 ≡ get_or l x 0
unfolding splice
splice-out l at [] x h = refl
splice-out l at (v ∷ vs) x h =
    splice-out (set l at v) (suc at) vs x (λ a b. h (omega arith) (omega arith)) ∙ get_or-set_other l at x v 0 (λ e. h (omega arith) (omega arith))

-- inside it
pub splice-in : (l : List ℕ) (at : ℕ) (vs : List ℕ) (k x : ℕ) → x ≡ at + k → k < length vs → x < length l → get_or (splice l at vs) x 0 ≡ get_or vs k 0
unfolding splice
splice-in l at (v ∷ vs) zero x e h b =
    let a : x ≡ at = omega arith in
    splice-out (set l at v) (suc at) vs x (λ c d. omega arith) ∙ rw a (get_or-set_same l at v 0 (omega arith))
splice-in l at (v ∷ vs) (suc k) x e h b = splice-in (set l at v) (suc at) vs k x (omega arith) (omega arith) (rw length-set b)
splice-in l at [] k x e h b = absurd (omega arith)

-- two lists that agree at x and y agree there after the same bytes are stored at the same distance
pub splice-match : (l m vs : List ℕ) (p q x y : ℕ) → p + y ≡ q + x → x < length l → y < length m → get_or l x 0 ≡ get_or m y 0
    → get_or (splice l p vs) x 0 ≡ get_or (splice m q vs) y 0
unfolding splice
splice-match l m [] p q x y d hx hy e = e
splice-match l m (v ∷ vs) p q x y d hx hy e =
    splice-match (set l p v) (set m q v) vs (suc p) (suc q) x y (omega arith) (rw length-set hx) (rw length-set hy) (one (eqb x p) refl)
  where
    one : (t : Bool) → eqb x p ≡ t → get_or (set l p v) x 0 ≡ get_or (set m q v) y 0
    one true t =
        let a : x ≡ p = eqb-true x p t in
        let b : y ≡ q = omega arith in
        rw (a, b) (get_or-set_same l p v 0 (omega arith) ∙ sym (get_or-set_same m q v 0 (omega arith)))
    one false t =
        let a : x ≢ p = eqb-false x p t in
        let b : y ≢ q = omega arith in
        get_or-set_other l p x v 0 a ∙ e ∙ sym (get_or-set_other m q y v 0 b)

-- bytes stored inside line p leave every other line alone
pub splice-apart : (l : List ℕ) (at : ℕ) (vs : List ℕ) (p q k : ℕ) → 16 * p ≤ at → at + length vs ≤ 16 * p + 16 → q ≢ p → k < 16
    → byte (splice l at vs) q k ≡ byte l q k
splice-apart l at vs p q k a b n h = splice-out l at vs (16 * q + k) (λ c d. n (omega arith))

-- ---- numbers

pub number_same : (l m : List ℕ) (p q n : ℕ) → ((k : ℕ) → k < n → get_or l (p + k) 0 ≡ get_or m (q + k) 0) → number l p n ≡ number m q n
unfolding number
number_same l m p q zero h = refl
number_same l m p q (suc n) h =
    let a = number_same l m p q n (λ k r. h k (omega arith)) in
    let b = h n (omega arith) in
    cc

pub length_digits : (n v : ℕ) → length (digits n v) ≡ n
unfolding digits
length_digits zero v = refl
length_digits (suc n) v = ap suc (length_digits n v)

-- outside the number that is stored
pub stored-out : (l : List ℕ) (at w v x : ℕ) → (at ≤ x → x < at + w → ⊥) → get_or (stored l at w v) x 0 ≡ get_or l x 0
unfolding stored
stored-out l at w v x h = splice-out l at (digits w v) x (λ a b. h a (omega (arith, length_digits w v)))

-- byte n of a value's bytes, if d bytes follow it
digits-at : (w n d v : ℕ) → n + suc d ≡ w → get_or (digits w v) n 0 ≡ v / 256 ^ d % 256
unfolding digits
digits-at zero n d v e = absurd (omega arith)
digits-at (suc w) zero d v e = let z : d ≡ w = omega arith in rw z
digits-at (suc w) (suc n) d v e = digits-at w n d v (omega arith)

-- a value that fits, stored and read again: whole, by its first n bytes
module _ (l : List ℕ) (at w v : ℕ) (fits : v < 256 ^ w) (inside : at + w ≤ length l) where
  number-first : (n d : ℕ) → n + d ≡ w → number (stored l at w v) at n ≡ v / 256 ^ d
  unfolding number stored
  number-first zero d e = let z : d ≡ w = omega arith in rw z (sym (div-eq_of_lt fits))
  number-first (suc n) d e =
      let a : number (stored l at w v) at n ≡ v / 256 ^ d / 256 = number-first n (suc d) (omega arith) ∙ rw pow-suc (sym (div-div-eq-div-mul v (256 ^ d) 256)) in
      let b = splice-in l at (digits w v) n (at + n) refl (omega (arith, length_digits w v)) (omega arith) ∙ digits-at w n d v (omega arith) in
      rw (a, b) (omega arith)

  pub number-stored : number (stored l at w v) at w ≡ v
  number-stored = number-first w 0 (omega arith) ∙ div-one v

-- ---- parts

part_at : (l : List ℕ) (at n k : ℕ) → k < n → get_or (part l at n) k 0 ≡ get_or l (at + k) 0
unfolding part
part_at l at n k h = rw (get_or-take, get_or-drop)

length-part-max : (l : List ℕ) (at n : ℕ) → length (part l at n) ≤ n
unfolding part
length-part-max l at n = simp length-take (omega arith)

length-part-same : (l m : List ℕ) (at n : ℕ) → length l ≡ length m → length (part l at n) ≡ length (part m at n)
unfolding part
length-part-same l m at n e = simp (length-take, length-drop) (rw e)

-- ---- lines

-- line q of x, copied to line p of l
module _ (l x : List ℕ) (p q : ℕ) (hl : 16 * p + 16 ≤ length l) (hx : 16 * q + 16 ≤ length x) where
  pub copied_at : (k : ℕ) → k < 16 → byte (splice l (16 * p) (part x (16 * q) 16)) p k ≡ byte x q k
  copied_at k h =
      let n = length_part x (16 * q) 16 hx in
      splice-in l (16 * p) (part x (16 * q) 16) k (16 * p + k) refl (omega arith) (omega arith) ∙ part_at x (16 * q) 16 k h

  pub copied-other : (r k : ℕ) → r ≢ p → k < 16 → byte (splice l (16 * p) (part x (16 * q) 16)) r k ≡ byte l r k
  copied-other r k n h =
      let n' = length_part x (16 * q) 16 hx in
      splice-apart l (16 * p) (part x (16 * q) 16) p r k (omega arith) (omega arith) n h

-- lines of one length are equal if their bytes are
line-bytes : (l m : List ℕ) (p q : ℕ) → length (line_of l p) ≡ length (line_of m q) → ((k : ℕ) → k < 16 → byte l p k ≡ byte m q k) → line_of l p ≡ line_of m q
unfolding line_of
line-bytes l m p q e h =
    ext_get_or 0 (part l (16 * p) 16) (part m (16 * q) 16) e
    (λ i g. let b : i < 16 = omega (arith, length-part-max l (16 * p) 16) in part_at l (16 * p) 16 i b ∙ h i b ∙ sym (part_at m (16 * q) 16 i b))

-- two lines inside their lists; and one line of two lists of one length, inside or not
pub line-ext : (l m : List ℕ) (p q : ℕ) → 16 * p + 16 ≤ length l → 16 * q + 16 ≤ length m → ((k : ℕ) → k < 16 → byte l p k ≡ byte m q k)
    → line_of l p ≡ line_of m q
unfolding line_of
line-ext l m p q a b = line-bytes l m p q (length_part l (16 * p) 16 a ∙ sym (length_part m (16 * q) 16 b))

pub line_same : (l m : List ℕ) (p : ℕ) → length l ≡ length m → ((k : ℕ) → k < 16 → byte l p k ≡ byte m p k) → line_of l p ≡ line_of m p
unfolding line_of
line_same l m p e = line-bytes l m p p (length-part-same l m (16 * p) 16 e)

pub line-at : (l m : List ℕ) (p q k : ℕ) → line_of l p ≡ line_of m q → k < 16 → byte l p k ≡ byte m q k
unfolding line_of
line-at l m p q k e h =
    sym (part_at l (16 * p) 16 k h) ∙ ap (λ (z : List ℕ). get_or z k 0) e ∙ part_at m (16 * q) 16 k h

-- what is written inside line p, or in its place, leaves line i, inside the list or not
line-splice-other : (l : List ℕ) (at : ℕ) (vs : List ℕ) (p i : ℕ) → 16 * p ≤ at → at + length vs ≤ 16 * p + 16 → i ≢ p
    → line_of (splice l at vs) i ≡ line_of l i
line-splice-other l at vs p i a b d = line_same (splice l at vs) l i (length-splice l at vs) (λ k h. splice-apart l at vs p i k a b d h)

pub line-stored-other : (l : List ℕ) (p offset width value i : ℕ) → offset + width ≤ 16 → i ≢ p
    → line_of (stored l (16 * p + offset) width value) i ≡ line_of l i
unfolding stored
line-stored-other l p offset width value i h =
    line-splice-other l (16 * p + offset) (digits width value) p i (omega arith) (omega (arith, length_digits width value))

pub line-with-other : (l m : List ℕ) (p q i : ℕ) → i ≢ p → line_of (with_line l p (line_of m q)) i ≡ line_of l i
unfolding with_line line_of
line-with-other l m p q i = line-splice-other l (16 * p) (part m (16 * q) 16) p i (omega arith) (omega (arith, length-part-max m (16 * q) 16))
