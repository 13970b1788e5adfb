-- An entry's fields, asked and written one by one.
use Prim.Native.Nat.{ℕ, zero, suc, ◌+◌, ◌-◌, ◌<◌, ◌≤◌}
use mathlib.Core.Path.{◌≡◌, ◌∙◌, refl, sym, ap}
use mathlib.Core.List.{List, [], ◌∷◌, ◌++◌}
use native.Mathlib.Omega.{arith}
use lib.ListN.{length, get_or, take, drop, length-append, set, drop_of_length-le}
use lib.Seq.{get_or-take, drop-cons, take-suc, length-take-le}
use borrow.Author.Tests.{eq-eqb, ne_eqb, le-leb, lt-leb, le-ltb, lt-ltb}
use Rattle.board.specs.Lists.{splice}
use Rattle.board.proofs.Lists.{length-splice}
use Rattle.log_numbers.specs.Numbers.{groups_of, groups_before, bytes_of}
use Rattle.log_numbers.proofs.Groups.{groups-room}
use Rattle.log_entries.specs.Entries.{fields_by_kind, fields_of, most, five_of}
use Rattle.log_entries.specs.declared.Entry.{Entry}
use Rattle.log_entries.proofs.Entries.{five-all}
use Rattle.log_writer.specs.Writing.{first_wrong, numbers_of, entry_bytes, wrote, written, by_field, write_entry}

-- ---- the first field that is too large

module _ (e : Entry) (i limit field : ℕ) (p : 1 ≤ i) (q : i ≤ 5) (m : limit ≡ most e.kind (take (i - 1) (five_of e))) (f : field ≡ get_or e.fields (i - 1) 0) where
  -- a field is there under its index
  at_index : (j : ℕ) → j < 5 → get_or e.fields j 0 ≡ get_or (five_of e) j 0
  at_index zero h = refl
  at_index (suc zero) h = refl
  at_index (suc (suc zero)) h = refl
  at_index (suc (suc (suc zero))) h = refl
  at_index (suc (suc (suc (suc zero)))) h = refl
  at_index (suc (suc (suc (suc (suc j))))) h = absurd (omega (arith, h))

  found : field ≡ get_or (five_of e) (i - 1) 0
  found = f ∙ at_index (i - 1) (omega arith)

  here : drop (i - 1) (five_of e) ≡ field ∷ drop i (five_of e)
  here = let d : suc (i - 1) ≡ i = omega arith in drop-cons (five_of e) (i - 1) 0 (omega arith) ∙ rw (d, found)

  -- this one is
  pub wrong-here : (w : ℕ) → w ≡ first_wrong e.kind (take (i - 1) (five_of e)) (drop (i - 1) (five_of e)) → limit < field → i ≡ w
  unfolding first_wrong
  wrong-here w x h =
      let l = length-take-le (i - 1) (five_of e) (omega arith) in
      sym (x ∙ rw (here, sym m, lt-leb field limit h) (rw l (omega arith)))

  -- this one isn't
  pub wrong-later : (w : ℕ) → w ≡ first_wrong e.kind (take (i - 1) (five_of e)) (drop (i - 1) (five_of e)) → field ≤ limit
      → w ≡ first_wrong e.kind (take (i + 1 - 1) (five_of e)) (drop (i + 1 - 1) (five_of e))
  unfolding first_wrong
  wrong-later w x h =
      let d : i + 1 - 1 ≡ i = omega arith in
      let s : suc (i - 1) ≡ i = omega arith in
      let t : take i (five_of e) ≡ take (i - 1) (five_of e) ++ field ∷ [] = ap (λ (k : ℕ). take k (five_of e)) (sym s) ∙ take-suc (five_of e) (i - 1) 0 (omega arith) ∙ rw found in
      x ∙ rw (here, sym m, le-leb field limit h, d, t)

-- none is
pub wrong-none : (e : Entry) (i w : ℕ) → 5 < i → i ≤ 6 → w ≡ first_wrong e.kind (take (i - 1) (five_of e)) (drop (i - 1) (five_of e)) → 0 ≡ w
unfolding first_wrong
wrong-none e i w h l x = let d : i - 1 ≡ 5 = omega arith in sym (x ∙ rw d)

-- ---- bytes after bytes

splice-append : (l : List ℕ) (at : ℕ) (xs ys : List ℕ) → splice l at (xs ++ ys) ≡ splice (splice l at xs) (at + length xs) ys
unfolding splice
splice-append l at [] ys = let a : at + 0 ≡ at = omega arith in rw a
splice-append l at (x ∷ xs) ys = let a : at + suc (length xs) ≡ suc at + length xs = omega arith in splice-append (set l at x) (suc at) xs ys ∙ rw a

module _ (l l₁ : List ℕ) (at at₁ n : ℕ) (ns : List ℕ) (put : (l₁ ≡ splice l at (groups_of n)) × (at₁ ≡ at + length (groups_of n))) where
  -- a number, then the others
  pub bytes-more : splice l at (bytes_of (n ∷ ns)) ≡ splice l₁ at₁ (bytes_of ns)
  unfolding bytes_of
  bytes-more = splice-append l at (groups_of n) (bytes_of ns) ∙ rw (sym put.0, sym put.1)

  pub count-more : at + length (bytes_of (n ∷ ns)) ≡ at₁ + length (bytes_of ns)
  unfolding bytes_of
  count-more = rw (length-append (groups_of n) (bytes_of ns), put.1) (omega arith)

  pub number-room : at₁ ≤ at + 10
  number-room = omega (arith, put.1, groups-room groups_before n)

-- behind the kind there is room for the fields
pub kind-room : (l l₁ : List ℕ) (at n : ℕ) → (l₁ ≡ splice l 0 (groups_of n)) × (at ≡ 0 + length (groups_of n)) → entry_bytes ≤ length l → at + 50 ≤ length l₁
kind-room l l₁ at n p h = rw (p.0, length-splice l 0 (groups_of n)) (omega (arith, p.1, groups-room groups_before n, h))

-- the numbers from one on
pub numbers-here : (ns : List ℕ) (i : ℕ) → i < length ns → drop i ns ≡ get_or ns i 0 ∷ drop (i + 1) ns
numbers-here ns i h = let d : suc i ≡ i + 1 = omega arith in drop-cons ns i 0 h ∙ rw d

-- after the last there are none
pub numbers-end : (ns : List ℕ) (i : ℕ) → length ns ≤ i → drop i ns ≡ []
numbers-end ns i h = drop_of_length-le ns {i = i} h

module _ (l : List ℕ) (at : ℕ) (ns : List ℕ) (none : ns ≡ []) where
  pub bytes-end : splice l at (bytes_of ns) ≡ l
  unfolding bytes_of splice
  bytes-end = rw none

  pub count-end : at + length (bytes_of ns) ≡ at
  unfolding bytes_of
  count-end = rw none (omega arith)

-- ---- the numbers of an entry

module _ (kind n : ℕ) (fields : List ℕ) (many : length fields ≡ 5) (f : n ≡ length (fields_of kind)) where
  abbrev five : List ℕ
  five = five_of (record { kind = kind; fields = fields })

  -- five fields are all
  same : take n fields ≡ take n five
  same = ap (take n) (sym (five-all fields many))

  numbers-none : kind ≡ 0 → numbers_of kind five ≡ take n fields
  unfolding numbers_of
  numbers-none z = rw (eq-eqb kind 0 z, sym f) (sym same)

  -- a header has no kind
  pub numbers-header : (l l₁ : List ℕ) (r : ℕ) → kind ≡ 0 → (l₁ ≡ splice l 0 (bytes_of (take n fields))) × (r ≡ 0 + length (bytes_of (take n fields)))
      → (l₁ ≡ splice l 0 (bytes_of (numbers_of kind five))) × (r ≡ length (bytes_of (numbers_of kind five)))
  numbers-header l l₁ r z p = rw (numbers-none z) (p.0, p.1 ∙ omega arith)

  numbers-kind : (kind ≡ 0 → ⊥) → numbers_of kind five ≡ kind ∷ take n fields
  unfolding numbers_of
  numbers-kind z = rw (ne_eqb kind 0 z, sym f) (ap (λ (l : List ℕ). kind ∷ l) (sym same))

  -- a call has
  pub numbers-call : (l l₁ l₂ : List ℕ) (at r : ℕ) → (kind ≡ 0 → ⊥) → (l₁ ≡ splice l 0 (groups_of kind)) × (at ≡ 0 + length (groups_of kind))
      → (l₂ ≡ splice l₁ at (bytes_of (take n fields))) × (r ≡ at + length (bytes_of (take n fields)))
      → (l₂ ≡ splice l 0 (bytes_of (numbers_of kind five))) × (r ≡ length (bytes_of (numbers_of kind five)))
  numbers-call l l₁ l₂ at r z k p =
      rw (numbers-kind z) (p.0 ∙ sym (bytes-more l l₁ 0 at kind (take n fields) k), p.1 ∙ sym (count-more l l₁ 0 at kind (take n fields) k) ∙ omega arith)

-- ---- an entry

module _ (e : Entry) (l : List ℕ) where
  pub entry-short : length l < entry_bytes → written (wrote 1 0) l ≡ write_entry e l
  unfolding write_entry
  entry-short h = rw (lt-ltb (length l) entry_bytes h)

  module _ (room : entry_bytes ≤ length l) where
    pub entry-unknown : length fields_by_kind ≤ e.kind → written (wrote 5 0) l ≡ write_entry e l
    unfolding write_entry
    entry-unknown h = rw (le-ltb (length l) entry_bytes room, le-ltb e.kind (length fields_by_kind) h)

    module _ (known : e.kind < length fields_by_kind) where
      pub entry-wrong : (i : ℕ) → i ≡ first_wrong e.kind [] (five_of e) → 1 ≤ i → written (wrote 6 i) l ≡ write_entry e l
      unfolding write_entry by_field
      entry-wrong i first some = rw (le-ltb (length l) entry_bytes room, lt-ltb e.kind (length fields_by_kind) known, sym first) (go i some)
        where
          go : (j : ℕ) → 1 ≤ j → written (wrote 6 j) l ≡ by_field j e.kind (five_of e) l
          go zero z = absurd (omega (arith, z))
          go (suc j) z = refl

      pub entry-written : (l₁ : List ℕ) (amount : ℕ) → first_wrong e.kind [] (five_of e) ≡ 0
          → (l₁ ≡ splice l 0 (bytes_of (numbers_of e.kind (five_of e)))) × (amount ≡ length (bytes_of (numbers_of e.kind (five_of e)))) → written (wrote 0 amount) l₁ ≡ write_entry e l
      unfolding write_entry by_field
      entry-written l₁ amount z p = rw (le-ltb (length l) entry_bytes room, lt-ltb e.kind (length fields_by_kind) known, z, p.0, p.1)
