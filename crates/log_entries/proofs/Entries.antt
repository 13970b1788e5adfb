-- An entry, number by number: what the code puts is what the definition says.
use Prim.Native.Nat.{ℕ, zero, suc, ◌-◌, ◌<◌, ◌≤◌}
use mathlib.Core.Path.{◌≡◌, ◌∙◌, refl, sym, ap, subst}
use mathlib.Core.Bool.{Bool, true, false, not, ◌&&◌, cond}
use mathlib.Core.List.{List, [], ◌∷◌, ◌++◌}
use native.Mathlib.Omega.{arith}
use lib.Dec.{eqb, ltb}
use lib.ListN.{length, get_or, set, take, length-append, length-map}
use lib.Seq.{length-take-le}
use borrow.Author.Tests.{eq-eqb, ne_eqb, le-leb, lt-leb, le-ltb}
use Rattle.std.specs.Prelude.{Result}
use Rattle.log_numbers.specs.declared.Reason.{Reason}
use Rattle.log_numbers.specs.Reasons.{reason_kind, reason_field}
use Rattle.log_entries.specs.Entries.{growing, whole, improper, fields_by_kind, fields_of, is_kind, is_whole, most, number_in, five_of, words_of}
use Rattle.std.specs.Prelude.{map}
use Rattle.log_entries.specs.Enters.{number_of, rule_of, entered_of, EnteredFits}
use Rattle.log_entries.specs.declared.Kind.{Kind}
use Rattle.log_entries.specs.declared.Kind.TheVariants.{Header, UserAccess, SupervisorAccess, Attach, Detach, Map, Unmap, Protect, FlushAll, Tag, LoadAndMap, DropTag, Move}
use Rattle.log_entries.specs.declared.Field as declared_field
use Rattle.log_entries.specs.declared.Entered as declared
use Rattle.log_entries.specs.declared.Entry.{Entry}

-- ---- fields

-- five fields, one of them put
five_put : (k n : ℕ) (l : List ℕ) (i : ℕ) → length l ≡ 5 → i < 5
    → take (suc (suc i)) (words_of (record { kind = k; fields = set l i n })) ≡ take (suc i) (words_of (record { kind = k; fields = l })) ++ n ∷ []
five_put k n (a ∷ b ∷ c ∷ d ∷ f ∷ []) zero e h = refl
five_put k n (a ∷ b ∷ c ∷ d ∷ f ∷ []) (suc zero) e h = refl
five_put k n (a ∷ b ∷ c ∷ d ∷ f ∷ []) (suc (suc zero)) e h = refl
five_put k n (a ∷ b ∷ c ∷ d ∷ f ∷ []) (suc (suc (suc zero))) e h = refl
five_put k n (a ∷ b ∷ c ∷ d ∷ f ∷ []) (suc (suc (suc (suc zero)))) e h = refl
five_put k n (a ∷ b ∷ c ∷ d ∷ f ∷ []) (suc (suc (suc (suc (suc i))))) e h = absurd (omega (arith, h))
five_put k n [] i e h = absurd (omega (arith, e))
five_put k n (a ∷ []) i e h = absurd (omega (arith, e))
five_put k n (a ∷ b ∷ []) i e h = absurd (omega (arith, e))
five_put k n (a ∷ b ∷ c ∷ []) i e h = absurd (omega (arith, e))
five_put k n (a ∷ b ∷ c ∷ d ∷ []) i e h = absurd (omega (arith, e))
five_put k n (a ∷ b ∷ c ∷ d ∷ f ∷ g ∷ l) i e h = absurd (omega (arith, e))

-- an entry with a number put as its field number i
abbrev pub with_field : Entry → ℕ → ℕ → Entry
with_field e i n = record { kind = e.kind; fields = set e.fields (i - 1) n }

-- it is put after those before it
pub field_put : (e : Entry) (n i : ℕ) → 1 ≤ i → i ≤ 5 → length e.fields ≡ 5 → take (suc i) (words_of (with_field e i n)) ≡ take i (words_of e) ++ n ∷ []
field_put e n i p q five =
    let s : suc (i - 1) ≡ i = omega arith in
    subst (λ (k : ℕ). take (suc k) (words_of (with_field e i n)) ≡ take k (words_of e) ++ n ∷ []) s
    (five_put e.kind n e.fields (i - 1) five (omega arith))

-- five fields are all of an entry's
pub five-all : (l : List ℕ) → length l ≡ 5 → get_or l 0 0 ∷ get_or l 1 0 ∷ get_or l 2 0 ∷ get_or l 3 0 ∷ get_or l 4 0 ∷ [] ≡ l
five-all (a ∷ b ∷ c ∷ d ∷ f ∷ []) e = refl
five-all [] e = absurd (omega (arith, e))
five-all (a ∷ []) e = absurd (omega (arith, e))
five-all (a ∷ b ∷ []) e = absurd (omega (arith, e))
five-all (a ∷ b ∷ c ∷ []) e = absurd (omega (arith, e))
five-all (a ∷ b ∷ c ∷ d ∷ []) e = absurd (omega (arith, e))
five-all (a ∷ b ∷ c ∷ d ∷ f ∷ g ∷ l) e = absurd (omega (arith, e))

-- the most of a value
pub value-load : (store most : ℕ) → store ≡ 0 → 0 ≡ cond (eqb store 0) 0 most
value-load store most x = rw (eq-eqb store 0 x)

pub value-store : (store most : ℕ) → (store ≡ 0 → ⊥) → most ≡ cond (eqb store 0) 0 most
value-store store most x = rw (ne_eqb store 0 x)

-- ---- a kind

pub kind-fields : (n : ℕ) (e : Entry) → words_of e ≡ n ∷ 0 ∷ 0 ∷ 0 ∷ 0 ∷ 0 ∷ [] → length (fields_of n) ≡ length (fields_of e.kind)
kind-fields n e w = ap (λ (l : List ℕ). length (fields_of (get_or l 0 0))) (sym w)

-- fields as code has them are as many
pub fields-many : (n : ℕ) (k : Kind) (fs : List declared_field.Field) → number_of k ≡ n → map rule_of fs ≡ fields_of (number_of k) → length fs ≡ length (fields_of n)
fields-many n k fs e f = sym (length-map fs rule_of) ∙ ap length f ∙ ap (λ (m : ℕ). length (fields_of m)) e

-- a kind but the header's is one of a call
call-kind : (k : Kind) → (k ≡ Header → ⊥) → (not (eqb (number_of k) 0) && ltb (number_of k) (length fields_by_kind)) ≡ true
call-kind Header h = absurd (h refl)
call-kind UserAccess h = refl
call-kind SupervisorAccess h = refl
call-kind Attach h = refl
call-kind Detach h = refl
call-kind Map h = refl
call-kind Unmap h = refl
call-kind Protect h = refl
call-kind FlushAll h = refl
call-kind Tag h = refl
call-kind LoadAndMap h = refl
call-kind DropTag h = refl
call-kind Move h = refl

-- the numbers of kinds end there
number-below : (k : Kind) → number_of k < length fields_by_kind
number-below Header = omega arith
number-below UserAccess = omega arith
number-below SupervisorAccess = omega arith
number-below Attach = omega arith
number-below Detach = omega arith
number-below Map = omega arith
number-below Unmap = omega arith
number-below Protect = omega arith
number-below FlushAll = omega arith
number-below Tag = omega arith
number-below LoadAndMap = omega arith
number-below DropTag = omega arith
number-below Move = omega arith

pub kind-below : (n : ℕ) (k : Kind) → number_of k ≡ n → n < length fields_by_kind
kind-below n k e = rw (sym e) (number-below k)

pub kind-known : (n : ℕ) (k : Kind) → (k ≡ Header → ⊥) → number_of k ≡ n → (not (eqb n 0) && ltb n (length fields_by_kind)) ≡ true
kind-known n k h e = rw (sym e) (call-kind k h)

module _ (n : ℕ) where
  pub kind-unknown : (not (eqb n 0) && ltb n (length fields_by_kind)) ≡ false → improper reason_kind ≡ number_in [] n
  unfolding number_in is_kind
  kind-unknown x = rw x

  -- one that is past them
  pub kind-past : length fields_by_kind ≤ n → improper reason_kind ≡ number_in [] n
  unfolding number_in is_kind
  kind-past h = rw (le-ltb n (length fields_by_kind) h, and-false (not (eqb n 0)))
    where
      and-false : (t : Bool) → (t && false) ≡ false
      and-false true = refl
      and-false false = refl

  -- and the header's
  pub kind-header : 0 ≡ n → improper reason_kind ≡ number_in [] n
  unfolding number_in is_kind
  kind-header z = rw (sym z)

  module _ (x : (not (eqb n 0) && ltb n (length fields_by_kind)) ≡ true) (words : List ℕ) (w : words ≡ n ∷ 0 ∷ 0 ∷ 0 ∷ 0 ∷ 0 ∷ []) (count : ℕ) (c : count ≡ length (fields_of n)) where
    pub kind-whole : count ≡ 0 → whole (take 1 words) ≡ number_in [] n
    unfolding number_in is_kind is_whole
    kind-whole z = let t : eqb 0 (length (fields_of n)) ≡ true = eq-eqb 0 (length (fields_of n)) (omega (arith, z, c)) in rw (w, x, t)

    pub kind-growing : (count ≡ 0 → ⊥) → growing (take 1 words) ≡ number_in [] n
    unfolding number_in is_kind is_whole
    kind-growing z = let t : eqb 0 (length (fields_of n)) ≡ false = ne_eqb 0 (length (fields_of n)) (λ y. z (c ∙ sym y)) in rw (w, x, t)

-- ---- a field

-- where there is no number yet
pub no-numbers : (e : Entry) (count n : ℕ) (x : Result declared.Entered Reason) → count ≡ 0 → (entered_of 0 x ≡ number_in [] n) × EnteredFits 0 x
    → (entered_of count x ≡ number_in (take count (words_of e)) n) × EnteredFits count x
no-numbers e count n x z h = rw z h

module _ (e : Entry) (count n limit : ℕ) (p : 1 ≤ count) (q : count ≤ 5) (m : limit ≡ most e.kind (take (count - 1) (five_of e))) where
  so_far : take count (words_of e) ≡ e.kind ∷ take (count - 1) (five_of e)
  so_far = let d : count ≡ suc (count - 1) = omega arith in ap (λ (k : ℕ). take k (words_of e)) d

  pub field-large : limit < n → improper reason_field ≡ number_in (take count (words_of e)) n
  unfolding number_in
  field-large h = rw (so_far, sym m, lt-leb n limit h)

  module _ (h : n ≤ limit) (x : Entry) (put : take (suc count) (words_of x) ≡ take count (words_of e) ++ n ∷ []) (fields : ℕ) (f : fields ≡ length (fields_of e.kind)) where
    counted : length (take (count - 1) (five_of e) ++ n ∷ []) ≡ count
    counted = length-append (take (count - 1) (five_of e)) (n ∷ []) ∙ (let l = length-take-le (count - 1) (five_of e) (omega arith) in omega (arith, l))

    pub field-whole : count ≡ fields → whole (take (suc count) (words_of x)) ≡ number_in (take count (words_of e)) n
    unfolding number_in is_whole
    field-whole z = rw (put, so_far, sym m, le-leb n limit h, counted, eq-eqb count (length (fields_of e.kind)) (z ∙ f))

    pub field-growing : (count ≡ fields → ⊥) → growing (take (suc count) (words_of x)) ≡ number_in (take count (words_of e)) n
    unfolding number_in is_whole
    field-growing z = rw (put, so_far, sym m, le-leb n limit h, counted, ne_eqb count (length (fields_of e.kind)) (λ y. z (y ∙ sym f)))
