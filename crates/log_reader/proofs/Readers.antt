-- A reader's steps: what the code makes of a byte is what the definition says, and the reader stays one.
use Prim.Native.Nat.{ℕ, suc, ◌+◌, ◌*◌, ◌%◌, ◌^◌, ◌<◌, ◌≤◌}
use mathlib.Core.Path.{◌≡◌, ◌∙◌, refl, sym, ap, subst}
use mathlib.Core.Bool.{Bool, true, false, not, ◌&&◌, cond}
use native.Mathlib.Nat.{mod-lt}
use native.Mathlib.Numerals.{add-one}
use native.Mathlib.Omega.{arith}
use lib.Dec.{eqb, ltb, leb}
use lib.ListN.{length, take}
use borrow.Author.Tests.{eqb-false, leb-true, ltb-false}
use Rattle.board.specs.Lists.{is_yes}
use Rattle.board.proofs.Bools.{clash}
use Rattle.std.specs.Prelude.{Result, Ok, Err}
use Rattle.log_numbers.specs.Numbers.{group_size, groups_before, Taken, More, Whole, Wrong, take_byte}
use Rattle.log_numbers.specs.Takes.{number_of, taken_of}
use Rattle.log_numbers.specs.declared.Reason.{Reason}
use Rattle.log_numbers.specs.declared.Taken as declared
use Rattle.log_numbers.specs.declared.Taken.TheVariants as taken
use Rattle.log_numbers.proofs.Groups.{below_next}
use Rattle.log_entries.proofs.Tables.{kind-few}
use Rattle.log_entries.specs.Entries.{fields_of, number_in, words_of}
use Rattle.log_entries.specs.Enters.{entered_of, EnteredFits}
use Rattle.log_entries.specs.declared.Entry.{Entry}
use Rattle.log_entries.specs.declared.Entered.{Entered}
use Rattle.log_entries.specs.declared.Entered.TheVariants as entered
use Rattle.log_reader.specs.Reading.{Step, on, gives, refused, numbered, byte_in}
use Rattle.log_reader.specs.Readers.{state_of, Readable}
use Rattle.log_reader.specs.declared.Reader.{Reader}

-- a reader from its parts
abbrev pub reader : ℕ → ℕ → ℕ → ℕ → Entry → ℕ → Reader
reader at groups sum count entry reason = record { at = at; groups = groups; sum = sum; count = count; entry = entry; reason = reason }

-- ---- a number

module _ (r : Reader) (n : ℕ) (x : Result Entered Reason) (y : Entry)
    (e : (entered_of r.count x ≡ number_in (take r.count (words_of r.entry)) n) × EnteredFits r.count x) where
  -- between numbers a reader has no groups
  clean : (count : ℕ) → count ≤ length (fields_of y.kind) → Readable (reader (r.at + 1) 0 0 count y 0)
  clean count h = record { few = omega arith; within = omega arith; small = omega arith; fields = h }

  -- there is room for one more number
  grown : x ≡ Ok (entered.Growing y) → suc r.count ≤ length (fields_of y.kind)
  grown g = subst (EnteredFits r.count) g e.1

  pub number_fits : x ≡ Ok (entered.Growing y) → r.count + 1 < 2 ^ 64
  number_fits g = omega (arith, grown g, kind-few y.kind (suc r.count) (grown g))

  pub number-grows : x ≡ Ok (entered.Growing y)
      → (on (state_of (reader (r.at + 1) 0 0 (r.count + 1) y 0)) ≡ numbered (state_of r) (number_in (take r.count (words_of r.entry)) n))
      × Readable (reader (r.at + 1) 0 0 (r.count + 1) y 0)
  number-grows g = (
    rw (add-one r.at, add-one r.count) (ap (numbered (state_of r)) (sym (ap (entered_of r.count) g) ∙ e.0)),
    clean (r.count + 1) (omega (arith, grown g)),
  )

  pub number-ends : x ≡ Ok (entered.Whole y)
      → (gives (take (1 + length (fields_of y.kind)) (words_of y)) (state_of (reader (r.at + 1) 0 0 0 y 0)) ≡ numbered (state_of r) (number_in (take r.count (words_of r.entry)) n))
      × Readable (reader (r.at + 1) 0 0 0 y 0)
  number-ends g = (
    rw (add-one r.at, sym full) (ap (numbered (state_of r)) (sym (ap (entered_of r.count) g) ∙ e.0)),
    clean 0 (omega arith),
  )
    where
      full : suc r.count ≡ 1 + length (fields_of y.kind)
      full = omega (arith, subst (EnteredFits r.count) g e.1)

pub number-improper : (r : Reader) (n : ℕ) (x : Result Entered Reason) (reason : Reason)
    → (entered_of r.count x ≡ number_in (take r.count (words_of r.entry)) n) × EnteredFits r.count x
    → x ≡ Err reason → on (refused (state_of r) (number_of reason)) ≡ numbered (state_of r) (number_in (take r.count (words_of r.entry)) n)
number-improper r n x reason e g = ap (numbered (state_of r)) (sym (ap (entered_of r.count) g) ∙ e.0)

-- ---- a byte

-- whether there are more groups, and what they are worth then
is_more : Taken → Bool
is_more (More sum) = true
is_more (Whole n) = false
is_more (Wrong reason) = false

worth : Taken → ℕ
worth (More sum) = sum
worth (Whole n) = 0
worth (Wrong reason) = 0

-- a group that isn't the last is one of the first nine, and the groups stay below the next weight
pub more-groups : (g s b sum : ℕ) → g ≤ groups_before → s < group_size ^ g → take_byte g s b ≡ More sum → (suc g ≤ groups_before) × (sum < group_size ^ suc g)
unfolding take_byte is_more worth
more-groups g s b sum h l e = go (eqb g groups_before) (ltb 1 b) (leb group_size b) (not (eqb g 0) && eqb b 0) refl refl refl e
  where
    go : (t u v w : Bool) → eqb g groups_before ≡ t → ltb 1 b ≡ u → leb group_size b ≡ v
        → cond (t && u) (Wrong 3) (cond v (More (s + b % group_size * group_size ^ g)) (cond w (Wrong 2) (Whole (s + b * group_size ^ g)))) ≡ More sum
        → (suc g ≤ groups_before) × (sum < group_size ^ suc g)
    go true true v w p q k x = clash true refl (ap is_more (sym x))
    go true false true w p q k x = absurd (omega (arith, ltb-false 1 b q, leb-true group_size b k))
    go true false false true p q k x = clash true refl (sym (ap is_more x))
    go true false false false p q k x = clash true refl (sym (ap is_more x))
    go false u true w p q k x = (omega (arith, h, eqb-false g groups_before p), rw (sym (ap worth x)) (below_next g (b % group_size) s l (mod-lt b (omega arith))))
    go false u false true p q k x = clash true refl (sym (ap is_more x))
    go false u false false p q k x = clash true refl (sym (ap is_more x))

module _ (r : Reader) (b : ℕ) (x : Result declared.Taken Reason) (e : taken_of x ≡ take_byte r.groups r.sum b) (ok : r.reason ≡ 0) where
  not-refused : is_yes r.reason ≡ false
  not-refused = rw ok

  -- what the byte makes of the number, as the definition has it
  made : (y : Result declared.Taken Reason) → x ≡ y → take_byte r.groups r.sum b ≡ taken_of y
  made y g = sym e ∙ ap taken_of g

  -- one more group
  pub byte_more : (sum : ℕ) → Readable r → x ≡ Ok (taken.More sum)
      → (on (state_of (reader (r.at + 1) (r.groups + 1) sum r.count r.entry r.reason)) ≡ byte_in (state_of r) b)
      × Readable (reader (r.at + 1) (r.groups + 1) sum r.count r.entry r.reason)
  unfolding byte_in
  byte_more sum h g =
      let m = more-groups r.groups r.sum b sum h.few h.small (made (Ok (taken.More sum)) g) in (
        rw (not-refused, made (Ok (taken.More sum)) g, add-one r.at, add-one r.groups, ok),
        record { few = omega (arith, m.0); within = omega (arith, h.within); small = rw (add-one r.groups) m.1; fields = h.fields },
      )

  -- the last group
  pub byte-whole : (n : ℕ) (s : Step) → x ≡ Ok (taken.Whole n) → s ≡ numbered (state_of r) (number_in (take r.count (words_of r.entry)) n) → s ≡ byte_in (state_of r) b
  unfolding byte_in
  byte-whole n s g z = rw (not-refused, made (Ok (taken.Whole n)) g) z

  pub byte-wrong : (reason : Reason) → x ≡ Err reason → on (refused (state_of r) (number_of reason)) ≡ byte_in (state_of r) b
  unfolding byte_in
  byte-wrong reason g = rw (not-refused, made (Err reason) g)
