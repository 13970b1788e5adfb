-- The two tables of the code say of each kind what its fields are.
use Prim.Native.Nat.{ℕ, zero, suc, ◌+◌, ◌*◌, ◌-◌, ◌^◌, ◌<◌, ◌≤◌}
use mathlib.Core.Path.{◌≡◌, ◌∙◌, refl, sym, ap}
use mathlib.Core.Bool.{Bool, true, false, cond}
use mathlib.Core.List.{List, [], ◌∷◌}
use native.Mathlib.Nat.{lt_of_not-le}
use native.Mathlib.Omega.{arith}
use lib.Dec.{eqb, leb}
use lib.ListN.{length, get_or, take, get_or-map, get_or-eq_default}
use lib.Seq.{get_or-take, length-take-le}
use borrow.Author.Tests.{eqb-true, leb-true, leb-false, ne_eqb}
use Rattle.board.proofs.Tables.{every_below, every-below}
use Rattle.board.proofs.Bools.{clash}
use Rattle.log_entries.specs.Entries.{Field, any_number, flag, word, value, none, fields_by_kind, fields_of, most_of, most, five_of}
use Rattle.log_entries.specs.Enters.{code_of}
use Rattle.log_entries.specs.declared.Entry.{Entry}

-- ---- how many fields a kind has

abbrev pub kinds : ℕ
kinds = length fields_by_kind

abbrev counts : List ℕ
counts = 4 ∷ 5 ∷ 4 ∷ 4 ∷ 2 ∷ 3 ∷ 1 ∷ 2 ∷ 0 ∷ 1 ∷ 1 ∷ 0 ∷ 2 ∷ []

pub counts-right : (k : ℕ) → get_or counts k 0 ≡ length (fields_of k)
unfolding fields_of
counts-right k = get_or-map length fields_by_kind k []

pub counts_past : (k : ℕ) → kinds ≤ k → 0 ≡ length (fields_of k)
unfolding fields_of
counts_past k h = sym (ap length (get_or-eq_default fields_by_kind [] {n = k} h))

-- a kind that isn't known has none
pub fields_past : (k : ℕ) → kinds ≤ k → [] ≡ fields_of k
unfolding fields_of
fields_past k h = sym (get_or-eq_default fields_by_kind [] {n = k} h)

counts_few : ℕ → Bool
counts_few k = leb (get_or counts k 0) 5

counts-few : every_below kinds counts_few ≡ true
unfolding every_below counts_few
counts-few = refl

-- a kind that has fields is one of the table
pub kind-has : (k i : ℕ) → 1 ≤ i → i ≤ length (fields_of k) → k < kinds
kind-has k i p q = lt_of_not-le (λ h. absurd (omega (arith, counts_past k h, p, q)))

-- none has more than five
pub fields-few : (k : ℕ) → length (fields_of k) ≤ 5
unfolding counts_few
fields-few k = go (leb kinds k) refl
  where
    go : (t : Bool) → leb kinds k ≡ t → length (fields_of k) ≤ 5
    go true e = omega (arith, counts_past k (leb-true kinds k e))
    go false e = omega (arith, counts-right k, leb-true (get_or counts k 0) 5 (every-below kinds counts_few counts-few k (leb-false kinds k e)))

pub kind-few : (k i : ℕ) → i ≤ length (fields_of k) → i ≤ 5
kind-few k i q = omega (arith, q, fields-few k)

-- ---- what a field may be

abbrev codes : List ℕ
codes =
    1 ∷ 1 ∷ 1 ∷ 1 ∷ 0 ∷ 1 ∷ 2 ∷ 3 ∷ 3 ∷ 5 ∷ 2 ∷ 3 ∷ 1 ∷ 4 ∷ 0 ∷ 1 ∷ 1 ∷ 1 ∷ 2 ∷ 0 ∷ 1 ∷ 1 ∷ 0 ∷ 0 ∷ 0 ∷ 1 ∷ 1 ∷ 2 ∷ 0 ∷ 0
    ∷ 1 ∷ 0 ∷ 0 ∷ 0 ∷ 0 ∷ 1 ∷ 2 ∷ 0 ∷ 0 ∷ 0 ∷ 0 ∷ 0 ∷ 0 ∷ 0 ∷ 0 ∷ 1 ∷ 0 ∷ 0 ∷ 0 ∷ 0 ∷ 1 ∷ 0 ∷ 0 ∷ 0 ∷ 0 ∷ 0 ∷ 0 ∷ 0 ∷ 0 ∷ 0 ∷ 1 ∷ 1 ∷ 0 ∷ 0 ∷ 0 ∷ []

-- with a value's code, the flag's field is behind
abbrev value_after : ℕ → ℕ → Bool
value_after c i = cond (eqb c 4) (leb 1 i) (cond (eqb c 5) (leb 2 i) (leb c 5))

code_right : ℕ → ℕ → Bool
code_right k i = eqb (get_or codes (5 * k + i) 0) (code_of (get_or (fields_of k) i none))

codes-right : every_below kinds (λ k. every_below 5 (code_right k)) ≡ true
unfolding every_below code_right fields_of code_of
codes-right = refl

pub code_at : (k i : ℕ) → k < kinds → 1 ≤ i → i ≤ 5 → get_or codes (5 * k + i - 1) 0 ≡ code_of (get_or (fields_of k) (i - 1) none)
unfolding code_right
code_at k i h p q =
    let r = every-below 5 (code_right k) (every-below kinds (λ x. every_below 5 (code_right x)) codes-right k h) (i - 1) (omega arith) in
    let d : 5 * k + i - 1 ≡ 5 * k + (i - 1) = omega arith in
    rw d (eqb-true _ _ r)

-- a value stands after the field that says load or store, which is the first or the second
flag_before : ℕ → ℕ → Bool
flag_before k i = value_after (code_of (get_or (fields_of k) i none)) i

flags-before : every_below kinds (λ k. every_below 5 (flag_before k)) ≡ true
unfolding every_below flag_before fields_of code_of
flags-before = refl

-- the most by a code, as the code asks
abbrev pub most_value : ℕ → ℕ
most_value store = cond (eqb store 0) 0 (2 ^ 32 - 1)

abbrev pub by_code : Entry → ℕ → ℕ
by_code e c =
    cond (eqb c 1) (2 ^ 64 - 1) (cond (eqb c 2) 1 (cond (eqb c 3) (2 ^ 32 - 1) (cond (eqb c 4) (most_value (get_or e.fields 0 0)) (cond (eqb c 5) (most_value (get_or e.fields 1 0)) 0))))

pub by_code_lem : (e : Entry) (n c : ℕ) → c ≡ n → by_code e n ≡ by_code e c
by_code_lem e n c x = ap (by_code e) (sym x)

pub by-none : (e : Entry) (c : ℕ) → (c ≡ 1 → ⊥) → (c ≡ 2 → ⊥) → (c ≡ 3 → ⊥) → (c ≡ 4 → ⊥) → (c ≡ 5 → ⊥) → 0 ≡ by_code e c
by-none e c n₁ n₂ n₃ n₄ n₅ = rw (ne_eqb c 1 n₁, ne_eqb c 2 n₂, ne_eqb c 3 n₃, ne_eqb c 4 n₄, ne_eqb c 5 n₅)

-- the kind and field number that code asks
module _ (e : Entry) (i : ℕ) (h : e.kind < kinds) (p : 1 ≤ i) (q : i ≤ 5) where
  abbrev field : Field
  field = get_or (fields_of e.kind) (i - 1) none

  abbrev before : List ℕ
  before = take (i - 1) (five_of e)

  five : length before ≡ i - 1
  five = length-take-le (i - 1) (five_of e) (omega arith)

  flag-before : (f : Field) → field ≡ f → value_after (code_of f) (i - 1) ≡ true
  unfolding flag_before
  flag-before f g =
      sym (ap (λ (x : Field). value_after (code_of x) (i - 1)) g)
      ∙ every-below 5 (flag_before e.kind) (every-below kinds (λ x. every_below 5 (flag_before x)) flags-before e.kind h) (i - 1) (omega arith)

  coded : (f : Field) → field ≡ f → by_code e (code_of f) ≡ most_of before f
  unfolding code_of most_of
  coded any_number g = refl
  coded flag g = refl
  coded word g = refl
  coded none g = refl
  coded (value zero) g = ap most_value (sym (get_or-take (i - 1) (five_of e) 0 0 (leb-true 1 (i - 1) (flag-before (value zero) g))))
  coded (value (suc zero)) g = ap most_value (sym (get_or-take (i - 1) (five_of e) 1 0 (leb-true 2 (i - 1) (flag-before (value (suc zero)) g))))
  coded (value (suc (suc j))) g = clash false (flag-before (value (suc (suc j))) g) refl

  pub most-coded : (c : ℕ) → c ≡ code_of field → by_code e c ≡ most e.kind before
  unfolding most
  most-coded c x = rw five (ap (by_code e) x ∙ coded field refl)
