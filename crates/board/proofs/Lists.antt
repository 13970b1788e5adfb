-- What a store into a part of a list leaves, and the lengths of parts.
use Prim.Native.Nat.{ℕ, ◌+◌, ◌-◌, ◌≤◌, ◌<◌}
use mathlib.Core.Path.{◌≡◌, ◌∙◌, sym, ap}
use mathlib.Core.List.{List, ◌++◌, append_assoc}
use native.Mathlib.Nat.{add-zero, add-sub_cancel_left}
use native.Mathlib.Omega.{arith}
use borrow.Author.Count.{below_more}
use lib.ListN.{length, take, drop, get_or, set, length-take, length-drop, length-set, take-append-drop}
use lib.Seq.{sets-eq, length-sets, drop-drop, take-set-lt, take-set-le, drop-set-lt, drop-set-add, get_or-set_same, get_or-set_other}
use Rattle.board.specs.Lists.{part, splice}

pub length-splice : (l : List ℕ) (at : ℕ) (vs : List ℕ) → length (splice l at vs) ≡ length l
unfolding splice
length-splice l at vs = length-sets l at vs

pub length_part : (l : List ℕ) (at n : ℕ) → at + n ≤ length l → length (part l at n) ≡ n
unfolding part
length_part l at n h = simp (length-take, length-drop) (omega arith)

-- what a lent part &mut l[at..at + n] leaves where the callee leaves vs in it
pub splice-lent : (l : List ℕ) (at n : ℕ) (vs : List ℕ) → length vs ≡ n → at + n ≤ length l → take at l ++ (vs ++ drop (at + n - at) (drop at l)) ≡ splice l at vs
unfolding splice
splice-lent l at n vs e h = rw (add-sub_cancel_left, drop-drop, ← e, ← append_assoc) (sym (sets-eq vs l at (omega arith)))

-- a lent part is as long as what is copied into it, and leaves that in its place
module _ (l ws : List ℕ) (a n : ℕ) (z : length ws ≡ n) (h : a + n ≤ length l) where
  pub length-lent : length (take (a + n - a) (drop a l)) ≡ length ws
  length-lent = simp (length-take, length-drop) (omega arith)

  pub splice-copied : (vs : List ℕ) → vs ≡ ws → take a l ++ (vs ++ drop (a + n - a) (drop a l)) ≡ splice l (a + 0) ws
  splice-copied vs e = rw (e, add-zero) (splice-lent l a n ws z h)

-- one store into a part is one store into the whole
pub part-set : (l : List ℕ) (a n k v : ℕ) → k < n → a + n ≤ length l → splice l a (set (part l a n) k v) ≡ set l (a + k) v
unfolding part
part-set l a n k v hk h =
    let e₁ : set (take n (drop a l)) k v ≡ take n (drop a (set l (a + k) v)) = sym (take-set-lt n (drop a l) k v hk) ∙ ap (take n) (sym (drop-set-add a l k v)) in
    let e₂ : take a l ≡ take a (set l (a + k) v) = sym (take-set-le a l (a + k) v (omega arith)) in
    let e₃ : drop n (drop a l) ≡ drop n (drop a (set l (a + k) v)) =
    drop-drop n a l ∙ sym (drop-set-lt (a + n) l (a + k) v (omega arith)) ∙ sym (drop-drop n a (set l (a + k) v)) in
    sym (splice-lent l a n (set (take n (drop a l)) k v) (length-set (take n (drop a l)) k v ∙ length_part l a n h) h)
    ∙ rw (add-sub_cancel_left, e₁, e₂, e₃) (rw (take-append-drop n (drop a (set l (a + k) v))) (take-append-drop a (set l (a + k) v)))

-- a part taken out, changed in one place and put back
pub part-put : (l m w : List ℕ) (a n k v : ℕ) (l₁ : List ℕ) → l₁ ≡ splice l (a + 0) m → m ≡ set w k v → w ≡ part l (a + 0) n → k < n → a + n ≤ length l
    → l₁ ≡ set l (a + k) v
part-put l m w a n k v l₁ e f g hk h = rw (e, f, g, add-zero) (part-set l a n k v hk h)

-- one more element copied
pub copied_more : (d s : List ℕ) (i : ℕ) → ((k : ℕ) → k < i → get_or d k 0 ≡ get_or s k 0) → i < length d
    → (k : ℕ) → k < i + 1 → get_or (set d i (get_or s i 0)) k 0 ≡ get_or s k 0
copied_more d s i before h =
    below_more (λ (k : ℕ). get_or (set d i (get_or s i 0)) k 0 ≡ get_or s k 0) i
    (λ k lt. get_or-set_other d i k (get_or s i 0) 0 (λ e. omega arith) ∙ before k lt) (get_or-set_same d i (get_or s i 0) 0 h)
