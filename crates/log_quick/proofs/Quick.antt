-- Numbers of one to five bytes that lie whole in a piece.
use Prim.Native.Nat.{ℕ, suc, ◌+◌, ◌*◌, ◌%◌, ◌<◌, ◌≤◌}
use mathlib.Core.Path.{◌≡◌, ◌∙◌, refl, ap}
use mathlib.Core.List.{List, [], ◌∷◌, ◌++◌}
use native.Mathlib.Omega.{arith}
use Rattle.std.specs.Prelude.{Option, None, Some}
use lib.ListN.{length, get_or, drop}
use lib.Seq.{drop-cons}
use Rattle.log_numbers.specs.Numbers.{group_size, Groups, none, also, value_of}
use Rattle.log_quick.specs.Quick.{NumberAt, Ended}
use Rattle.log_quick.specs.declared.Number.{Number}

-- a byte of a piece, and those behind it
pub byte_at : (piece : List ℕ) (from x n : ℕ) → from < length piece → x ≡ get_or piece from 0 → n ≡ from + 1 → drop from piece ≡ x ∷ drop n piece
byte_at piece from x n h e a = let d : suc from ≡ n = omega (arith, a) in drop-cons piece from 0 h ∙ rw (d, e)

-- one byte
pub number-one : (piece : List ℕ) (from a : ℕ) → from + 5 ≤ length piece → a ≡ get_or piece from 0 → a < group_size → NumberAt piece from (Some (record { value = a; count = 1 }))
number-one piece from a h e l = (
  omega arith,
  record {
    groups = [];
    byte = a;
    are = none;
    few = omega arith;
    small = l;
    proper = λ z. absurd (omega (arith, z));
    worth = refl;
    many = refl;
    split = byte_at piece from a (from + 1) (omega (arith, h)) e refl;
  },
)

-- more
module _ (piece : List ℕ) (from : ℕ) (r : Option Number) (h : from + 5 ≤ length piece) where
  number_of : (gs : List ℕ) (b value : ℕ) → length gs ≤ 4 → Groups gs → b < group_size → value ≡ value_of gs b → drop from piece ≡ gs ++ b ∷ drop (from + suc (length gs)) piece
      → Ended b value (suc (length gs)) r → NumberAt piece from r
  number_of gs b value few are small w split e = go r e
    where
      go : (x : Option Number) → Ended b value (suc (length gs)) x → NumberAt piece from x
      go None f = tt
      go (Some n) f = (
        omega (arith, f.2, few),
        rw (f.1, f.2) (record {
          groups = gs;
          byte = b;
          are = are;
          few = few;
          small = small;
          proper = λ z. f.0;
          worth = w;
          many = refl;
          split = split;
        }),
      )

  module _ (a b : ℕ) (p : a ≡ get_or piece from 0) (q : b ≡ get_or piece (from + 1) 0) (i : group_size ≤ a) where
    two : drop from piece ≡ a ∷ b ∷ drop (from + 2) piece
    two = byte_at piece from a (from + 1) (omega (arith, h)) p refl ∙ ap (λ (l : List ℕ). a ∷ l) (byte_at piece (from + 1) b (from + 2) (omega (arith, h)) q (omega arith))

    pub number-two : b < group_size → Ended b (a % group_size + group_size * b) 2 r → NumberAt piece from r
    number-two l e = number_of (a ∷ []) b _ (omega arith) (also i none) l refl two e

    module _ (c : ℕ) (s : c ≡ get_or piece (from + 2) 0) (j : group_size ≤ b) where
      three : drop from piece ≡ a ∷ b ∷ c ∷ drop (from + 3) piece
      three = two ∙ ap (λ (l : List ℕ). a ∷ b ∷ l) (byte_at piece (from + 2) c (from + 3) (omega (arith, h)) s (omega arith))

      pub number-three : c < group_size → Ended c (a % group_size + group_size * (b % group_size + group_size * c)) 3 r → NumberAt piece from r
      number-three l e = number_of (a ∷ b ∷ []) c _ (omega arith) (also i (also j none)) l refl three e

      module _ (d : ℕ) (t : d ≡ get_or piece (from + 3) 0) (k : group_size ≤ c) where
        four : drop from piece ≡ a ∷ b ∷ c ∷ d ∷ drop (from + 4) piece
        four = three ∙ ap (λ (l : List ℕ). a ∷ b ∷ c ∷ l) (byte_at piece (from + 3) d (from + 4) (omega (arith, h)) t (omega arith))

        pub number-four : d < group_size → Ended d (a % group_size + group_size * (b % group_size + group_size * (c % group_size + group_size * d))) 4 r → NumberAt piece from r
        number-four l e = number_of (a ∷ b ∷ c ∷ []) d _ (omega arith) (also i (also j (also k none))) l refl four e

        pub number-five : (f : ℕ) → f ≡ get_or piece (from + 4) 0 → group_size ≤ d → f < group_size
            → Ended f (a % group_size + group_size * (b % group_size + group_size * (c % group_size + group_size * (d % group_size + group_size * f)))) 5 r → NumberAt piece from r
        number-five f u m l e =
            number_of (a ∷ b ∷ c ∷ d ∷ []) f _ (omega arith) (also i (also j (also k (also m none)))) l refl
            (four ∙ ap (λ (l : List ℕ). a ∷ b ∷ c ∷ d ∷ l) (byte_at piece (from + 4) f (from + 5) (omega (arith, h)) u (omega arith))) e
