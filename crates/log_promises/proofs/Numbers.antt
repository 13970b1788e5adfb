-- Numbers and their bytes, without a reader: what groups and a last byte are worth. A number's bytes are worth it, and they are the only ones that a
-- log may have for it.
use Prim.Native.Nat.{ℕ, zero, suc, ◌+◌, ◌*◌, ◌/◌, ◌%◌, ◌^◌, ◌<◌, ◌≤◌}
use mathlib.Core.Path.{◌≡◌, refl, ap}
use mathlib.Core.Bool.{Bool, true, false}
use mathlib.Core.List.{List, [], ◌∷◌, ◌++◌}
use native.Mathlib.Nat.{pow-suc, one-le-pow}
use native.Mathlib.Omega.{arith}
use lib.Dec.{ltb}
use borrow.Author.Tests.{ltb-true, ltb-false, le-ltb}
use Rattle.log_numbers.specs.Numbers.{group_size, groups_from, Groups, value_of}
use Rattle.log_numbers.proofs.Groups.{groups-last, Last}
use Rattle.log_promises.specs.Written.{Bytes, none, also}

-- after a byte above 0 they aren't worth 0
value-positive : (gs : List ℕ) (b : ℕ) → 1 ≤ b → 1 ≤ value_of gs b
value-positive [] b h = h
value-positive (g ∷ gs) b h = omega (arith, value-positive gs b h)

-- it may be the last without the first group too
last_rest : {k : ℕ} {g : ℕ} {gs : List ℕ} {b : ℕ} → Last (suc k) (g ∷ gs) b → Last k gs b
last_rest l = record { small = l.small; few = omega (arith, l.few); low = λ e. l.low (ap suc e); proper = λ h. l.proper (omega arith) }

-- it is above 0 if the number is
last_positive : {k : ℕ} (gs : List ℕ) {b : ℕ} → Last k gs b → 1 ≤ value_of gs b → 1 ≤ b
last_positive [] l h = h
last_positive (g ∷ gs) l h = l.proper (omega arith)

-- groups with such a byte are worth a number of a log
pub value-below : (k : ℕ) (gs : List ℕ) (b : ℕ) → Last k gs b → value_of gs b < 2 * group_size ^ k
value-below zero [] b l = omega (arith, l.low refl)
value-below (suc k) [] b l = omega (arith, l.small, pow-suc group_size k, one-le-pow k group_size (omega arith))
value-below zero (g ∷ gs) b l = absurd (omega (arith, l.few))
value-below (suc k) (g ∷ gs) b l = omega (arith, value-below k gs b (last_rest l), pow-suc group_size k)

-- and they are how it is written
pub value_written : (k : ℕ) (gs : List ℕ) (b : ℕ) → Groups gs → Bytes gs → Last k gs b → groups_from k (value_of gs b) ≡ gs ++ b ∷ []
unfolding groups_from
value_written k [] b Groups.none none l = groups-last k b l.small
value_written zero (g ∷ gs) b (Groups.also h a) (also m c) l = absurd (omega (arith, l.few))
value_written (suc k) (g ∷ gs) b (Groups.also h a) (also m c) l =
    let n : ℕ = value_of (g ∷ gs) b in
    let p : 1 ≤ value_of gs b = value-positive gs b (l.proper (omega arith)) in
    let first : group_size + n % group_size ≡ g = omega arith in
    let next : n / group_size ≡ value_of gs b = omega arith in
    rw (le-ltb n group_size (omega arith), first, next) (ap (λ (x : List ℕ). g ∷ x) (value_written k gs b a c (last_rest l)))

-- a number's bytes, taken apart
pub record Split (k n : ℕ) : Type 0 where
  pub groups : List ℕ
  pub byte : ℕ
  pub are : Groups groups
  pub last : Last k groups byte
  pub worth : value_of groups byte ≡ n
  pub written : groups_from k n ≡ groups ++ byte ∷ []

-- a number below a group is one byte
split-last : (k n : ℕ) → n < group_size → (0 ≡ k → n ≤ 1) → Split k n
split-last k n h l = record {
  groups = [];
  byte = n;
  are = Groups.none;
  last = record { small = h; few = omega arith; low = l; proper = λ z. absurd (omega (arith, z)) };
  worth = refl;
  written = groups-last k n h;
}

-- any number of a log
pub number-split : (k n : ℕ) → n < 2 * group_size ^ k → Split k n
unfolding groups_from
number-split zero n h = split-last zero n (omega (arith, h)) (λ e. omega (arith, h))
number-split (suc k) n h = go (ltb n group_size) refl (number-split k (n / group_size) (omega (arith, h, pow-suc group_size k)))
  where
    go : (t : Bool) → ltb n group_size ≡ t → Split k (n / group_size) → Split (suc k) n
    go true e x = split-last (suc k) n (ltb-true n group_size e) (λ z. absurd (omega (arith, z)))
    go false e x =
        let g : ℕ = group_size + n % group_size in
        let m : group_size ≤ n = ltb-false n group_size e in
        let worth : value_of (g ∷ x.groups) x.byte ≡ n = omega (arith, x.worth) in
        let positive : 1 ≤ x.byte = last_positive x.groups x.last (omega (arith, x.worth)) in
        record {
          groups = g ∷ x.groups;
          byte = x.byte;
          are = Groups.also {g = g} (omega arith) x.are;
          last = record { small = x.last.small; few = omega (arith, x.last.few); low = λ z. x.last.low (omega (arith, z)); proper = λ z. positive };
          worth = worth;
          written = rw (le-ltb n group_size m) (ap (λ (r : List ℕ). g ∷ r) x.written);
        }
