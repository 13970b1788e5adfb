-- Any bytes are those of whole entries, or wrong at a place: found byte by byte, without a reader.
use Prim.Native.Nat.{ℕ, ◌<◌, ◌≤◌}
use mathlib.Core.Path.{◌≡◌, ◌∙◌, refl, sym, ap}
use mathlib.Core.Logic.{◌≢◌}
use mathlib.Core.Bool.{Bool, true, false, not, ◌&&◌}
use mathlib.Core.List.{List, [], ◌∷◌, ◌++◌, append-nil, cons-ne-nil}
use native.Mathlib.Omega.{arith}
use lib.Dec.{eqb, leb, ltb}
use lib.ListN.{length}
use lib.Seq.{append_snoc}
use borrow.Author.Tests.{eqb-true, eqb-false, ltb-true, ltb-false, leb-true, leb-false, eq-eqb, ne_eqb, not-true}
use Rattle.board.proofs.Bools.{and_left, and_right, and-rest}
use Rattle.log_numbers.specs.Numbers.{group_size, groups_before, number_end, groups_of, bytes_of, value_of, Groups}
use Rattle.log_entries.specs.Entries.{Entered, growing, whole, improper, number_in}
use Rattle.log_promises.specs.Written.{Bytes, none, also}
use Rattle.log_promises.specs.Places.{Come, start, grows, ends, Wrong, padded, tenth, unfit, cut, Refused}
use Rattle.log_promises.proofs.Fits.{length-next}
use Rattle.log_numbers.proofs.Groups.{Last}
use Rattle.log_promises.proofs.Numbers.{value-below, value_written}
use Rattle.log_promises.proofs.Come.{bytes_next}

-- what bytes are
pub data Judged (bytes : List ℕ) : Type 0 where
  right : {ns : List ℕ} {es : List (List ℕ)} → Come ns es [] → bytes ≡ bytes_of ns → Judged bytes
  wrong : {es : List (List ℕ)} {reason place : ℕ} → Refused bytes es reason place → Judged bytes

-- a place in the bytes: whole numbers before it, then groups
record Place (bytes rest : List ℕ) : Type 0 where
  numbers : List ℕ
  entries : List (List ℕ)
  part : List ℕ
  groups : List ℕ
  come : Come numbers entries part
  are : Groups groups
  small : Bytes groups
  few : length groups ≤ groups_before
  before : bytes ≡ bytes_of numbers ++ (groups ++ rest)

-- a byte on
data Onward (bytes more : List ℕ) : Type 0 where
  on : Place bytes more → Onward bytes more
  stops : Judged bytes → Onward bytes more

-- ---- a byte

-- what is wrong here is wrong with the bytes
place-wrong : {bytes rest : List ℕ} {reason far : ℕ} (x : Place bytes rest) → Wrong x.part (x.groups ++ rest) reason far → Judged bytes
place-wrong {rest = rest} {far = far} x w =
    wrong (record { numbers = x.numbers; part = x.part; rest = x.groups ++ rest; on = far; come = x.come; before = x.before; wrong = w; there = refl })

-- one group more
groups-next : {b : ℕ} {gs : List ℕ} → Groups gs → group_size ≤ b → Groups (gs ++ b ∷ [])
groups-next Groups.none h = Groups.also h Groups.none
groups-next (Groups.also g a) h = Groups.also g (groups-next a h)

-- one byte more
small-next : {b : ℕ} {gs : List ℕ} → Bytes gs → b < 256 → Bytes (gs ++ b ∷ [])
small-next none h = also h none
small-next (also g a) h = also g (small-next a h)

module _ (bytes more : List ℕ) (b : ℕ) (x : Place bytes (b ∷ more)) where
  -- a group
  place-group : group_size ≤ b → b < 256 → (length x.groups ≡ groups_before → b ≤ 1) → Place bytes more
  place-group h m low =
      record {
        numbers = x.numbers;
        entries = x.entries;
        part = x.part;
        groups = x.groups ++ b ∷ [];
        come = x.come;
        are = groups-next x.are h;
        small = small-next x.small m;
        few = rw (length-next x.groups b) (omega (arith, x.few, room));
        before = x.before ∙ ap (λ (l : List ℕ). bytes_of x.numbers ++ l) (sym (append_snoc x.groups b more));
      }
    where
      room : length x.groups ≢ groups_before
      room e = omega (arith, h, low e)

  -- the last byte of a number
  place-number : Last groups_before x.groups b → Onward bytes more
  place-number l = go (number_in x.part n) refl
    where
      n : ℕ
      n = value_of x.groups b

      below : n < number_end
      below = omega (arith, value-below groups_before x.groups b l)

      written : x.groups ++ b ∷ more ≡ groups_of n ++ more
      written = sym (append_snoc x.groups b more) ∙ ap (λ (r : List ℕ). r ++ more) (sym (value_written groups_before x.groups b x.are x.small l))

      placed : {es : List (List ℕ)} {e : List ℕ} → Come (x.numbers ++ n ∷ []) es e → Onward bytes more
      placed {es = es} {e = e} c = on record {
        numbers = x.numbers ++ n ∷ [];
        entries = es;
        part = e;
        groups = [];
        come = c;
        are = Groups.none;
        small = none;
        few = omega arith;
        before = x.before ∙ ap (λ (r : List ℕ). bytes_of x.numbers ++ r) written ∙ sym (bytes_next x.numbers n more);
      }

      go : (y : Entered) → number_in x.part n ≡ y → Onward bytes more
      go (growing e) q = placed (grows n x.come below q)
      go (whole e) q = placed (ends n x.come below q)
      go (improper reason) q = stops (place-wrong x (unfit n reason more below q written))

  -- any byte
  place-next : b < 256 → Onward bytes more
  place-next m = first (eqb many groups_before && ltb 1 b) refl
    where
      many : ℕ
      many = length x.groups

      third : (t : Bool) → (not (eqb many 0) && eqb b 0) ≡ t → b < group_size → (many ≡ groups_before → b ≤ 1) → Onward bytes more
      third true q s low =
          let some : x.groups ≢ [] = λ e. eqb-false many 0 (not-true (eqb many 0) (and_left (not (eqb many 0)) (eqb b 0) q)) (ap length e) in
          let z : b ≡ 0 = eqb-true b 0 (and_right (not (eqb many 0)) (eqb b 0) q) in
          stops (place-wrong x (padded x.groups more x.are some x.few (ap (λ (c : ℕ). x.groups ++ c ∷ more) z)))
      third false q s low = place-number (record { small = s; few = x.few; low = low; proper = proper })
        where
          proper : 1 ≤ many → 1 ≤ b
          proper h =
              let d : many ≡ 0 → ⊥ = omega (arith, h) in
              omega (arith, eqb-false b 0 (and-rest (not (eqb many 0)) (eqb b 0) (ap not (ne_eqb many 0 d)) q))

      second : (t : Bool) → leb group_size b ≡ t → (many ≡ groups_before → b ≤ 1) → Onward bytes more
      second true q low = on (place-group (leb-true group_size b q) m low)
      second false q low = third (not (eqb many 0) && eqb b 0) refl (leb-false group_size b q) low

      first : (t : Bool) → (eqb many groups_before && ltb 1 b) ≡ t → Onward bytes more
      first true q =
          stops (place-wrong x (tenth x.groups more b x.are (eqb-true many groups_before (and_left (eqb many groups_before) (ltb 1 b) q))
          (ltb-true 1 b (and_right (eqb many groups_before) (ltb 1 b) q)) refl))
      first false q = second (leb group_size b) refl (λ e. ltb-false 1 b (and-rest (eqb many groups_before) (ltb 1 b) (eq-eqb many groups_before e) q))

-- ---- the end, and all bytes

-- the end is a cut unless it is between two entries
place_end : (bytes ns : List ℕ) (es : List (List ℕ)) (e gs : List ℕ) → Come ns es e → Groups gs → length gs ≤ groups_before → bytes ≡ bytes_of ns ++ gs → Judged bytes
place_end bytes ns es [] [] c a few q = right c (q ∙ append-nil (bytes_of ns))
place_end bytes ns es [] (g ∷ gs) c a few q =
    wrong (record { numbers = ns; part = []; rest = g ∷ gs; on = length (g ∷ gs); come = c; before = q; wrong = cut (g ∷ gs) a few (cons-ne-nil g gs) refl; there = refl })
place_end bytes ns es (n ∷ e) gs c a few q =
    wrong (record { numbers = ns; part = n ∷ e; rest = gs; on = length gs; come = c; before = q; wrong = cut gs a few (cons-ne-nil n (e ++ gs)) refl; there = refl })

-- from any place on
from_place : {bytes : List ℕ} (rest : List ℕ) → Bytes rest → Place bytes rest → Judged bytes
from_place {bytes} [] none x =
    place_end bytes x.numbers x.entries x.part x.groups x.come x.are x.few
    (x.before ∙ ap (λ (l : List ℕ). bytes_of x.numbers ++ l) (append-nil x.groups))
from_place {bytes} (b ∷ more) (also h r) x = go (place-next bytes more b x h) (from_place more r)
  where
    go : Onward bytes more → (Place bytes more → Judged bytes) → Judged bytes
    go (on y) f = f y
    go (stops j) f = j

-- from the first byte on
pub judged : (bytes : List ℕ) → Bytes bytes → Judged bytes
unfolding bytes_of
judged bytes h =
    from_place bytes h
    (record { numbers = []; entries = []; part = 0 ∷ []; groups = []; come = start; are = Groups.none; small = none; few = omega arith; before = refl })
