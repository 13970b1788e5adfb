-- The checks of a user access, return by return, and what a passed check says of the width and the address.
use Rattle.std.specs.Prelude.{Result, Ok, Err}
use Prim.Native.Nat.{ℕ, ◌+◌, ◌*◌, ◌%◌, ◌^◌, ◌<◌, ◌≤◌}
use mathlib.Core.Path.{◌≡◌, ◌∙◌, refl, sym}
use mathlib.Core.Bool.{Bool, true, false, not, ◌&&◌, ◌||◌, cond}
use mathlib.Core.List.{List}
use native.Mathlib.Omega.{arith}
use lib.ListN.{length, get_or}
use lib.Dec.{eqb, leb}
use borrow.Author.Tests.{leb-true, leb-false, not-false, lt-ltb, le-ltb, lt-leb}
use Rattle.address.specs.Layout.{first_segment, last_segment, kernel_start, process_slots}
use Rattle.address.specs.Addresses.{slot_of, global_of, is_kernels, attachable}
use Rattle.address.specs.declared.Effective.{Effective}
use Rattle.address.specs.declared.Global.{Global}
use Rattle.slots.specs.Slots.{slot_segment, slot_empty, slot_writes}
use Rattle.board.specs.Refusals.{refusal_of}
use Rattle.board.specs.declared.Refusal.{Refusal}
use Rattle.board.specs.declared.Refusal.TheVariants.{OutOfRange, TagState, Misaligned, KernelAddress, EmptySlot, ReadOnlySegment}
use Rattle.board.specs.declared.Shape.{Shape}
use Rattle.board.specs.declared.Pending.{Pending}
use Rattle.board.proofs.Bools.{and_right, or-false}
use Rattle.line_bytes.specs.Premises.{Width, InWord}
use Rattle.stores.specs.declared.Access.{Access}
use Rattle.machine.proofs.Alignments.{Aligned, aligned-inside}
use Rattle.machine.specs.Refusals.{by_table, is_process, too_large, aligned_to}
use Rattle.machine.specs.Accesses.{slot_word_at, user_global}
use Rattle.machine.proofs.Tables.{table-passed, table-end}
use Rattle.user_access.specs.Checks.{refused_by, slot_check, user_check}

-- a segment that may be attached is a segment
pub attachable-below : (segment : ℕ) (t : Bool) → t ≡ attachable segment → t ≡ true → segment < 2 ^ 22
attachable-below segment t e h = omega (arith, leb-true segment last_segment (and_right (leb first_segment segment) _ (sym e ∙ h)))

-- numbers 6 and 7
module _ (word : ℕ) (a : Access) (e : Effective) (t : Bool) (f : t ≡ attachable (slot_segment word)) where
  pub slot-empty : t ≡ false → Err EmptySlot ≡ slot_check word a e
  unfolding slot_check by_table
  slot-empty h = rw (← f, h)

  pub slot-reads : t ≡ true → (a.store && not (eqb (word % 2) 1)) ≡ true → Err ReadOnlySegment ≡ slot_check word a e
  unfolding slot_check by_table
  slot-reads h k = rw (← f, h, k)

  pub slot-goes : (g : Global) → t ≡ true → (a.store && not (eqb (word % 2) 1)) ≡ false → g ≡ global_of (slot_segment word) e → Ok g ≡ slot_check word a e
  unfolding slot_check by_table
  slot-goes g h k i = rw (← f, h, k, i)

-- refused by 2, or as it was
module _ (why : Refusal) (a : Access) (large : Bool) (v : large ≡ too_large a) where
  pub refused-value : large ≡ true → OutOfRange ≡ refused_by why a
  unfolding refused_by
  refused-value h = rw (← v, h)

  pub refused-other : large ≡ false → why ≡ refused_by why a
  unfolding refused_by
  refused-other h = rw (← v, h)

-- a process that is not refused, and no tag pending
pub process-below : (processes process : ℕ) (set : Bool) → (leb processes process || set) ≡ false → process < processes
process-below processes process set o = leb-false processes process (or-false (leb processes process) set o).0

-- the width of an aligned access is one that may be
pub aligned-wide : (width at : ℕ) (t : Bool) → t ≡ aligned_to width at → t ≡ true → Width width
aligned-wide width at t e h = (aligned-inside width at (sym e ∙ h)).wide

-- the slot of an address that is not the kernel's is inside the slots of its process
pub slot-inside : (s : Shape) (slots : List ℕ) (tag : Pending) (process slot : ℕ) (e : Effective) (k : Bool) → k ≡ is_kernels e → k ≡ false → slot ≡ slot_of e
    → (leb s.processes process || tag.set) ≡ false → length slots ≡ s.processes * process_slots → process * process_slots + slot < length slots
slot-inside s slots tag process slot e k f h i o n = omega (arith, leb-false kernel_start e.0 (sym f ∙ h), process-below s.processes process tag.set o)

-- one refusal of the two is the refusal by the one or the other
one-refusal : (x y : Refusal) (t : Bool) → ◌≡◌ {A = Result Global Refusal} (Err (cond t x y)) (cond t (Err x) (Err y))
one-refusal x y true = refl
one-refusal x y false = refl

-- numbers 2 to 5
module _ (s : Shape) (slots : List ℕ) (tag : Pending) (process : ℕ) (a : Access) (e : Effective) where
  pub check-process : s.processes ≤ process → Err OutOfRange ≡ user_check s slots tag process a e
  unfolding user_check by_table
  check-process h = rw (le-ltb _ _ h)

  pub check-tag : (why : Refusal) → (leb s.processes process || tag.set) ≡ true → process < s.processes → why ≡ refused_by TagState a
      → Err why ≡ user_check s slots tag process a e
  unfolding user_check refused_by by_table
  check-tag why h p k =
      let t : tag.set ≡ true = rw (lt-leb _ _ p) at h in
      rw (k, lt-ltb _ _ p, t) (one-refusal OutOfRange TagState (too_large a))

  module _ (o : (leb s.processes process || tag.set) ≡ false) where
    p : process < s.processes
    p = process-below s.processes process tag.set o

    t : tag.set ≡ false
    t = (or-false (leb s.processes process) tag.set o).1

    module _ (al : Bool) (f : al ≡ aligned_to a.width e.0) where
      pub check-aligned : (why : Refusal) → al ≡ false → why ≡ refused_by Misaligned a → Err why ≡ user_check s slots tag process a e
      unfolding user_check refused_by by_table
      check-aligned why h k = rw (k, lt-ltb _ _ p, t, ← f, h) (one-refusal OutOfRange Misaligned (too_large a))

      pub check-value : (large : Bool) → large ≡ too_large a → large ≡ true → Err OutOfRange ≡ user_check s slots tag process a e
      unfolding user_check by_table
      check-value large v h = rw (lt-ltb _ _ p, ← v, h)

      module _ (h : al ≡ true) (large : Bool) (v : large ≡ too_large a) (n : large ≡ false) (k : Bool) (i : k ≡ is_kernels e) where
        pub check-kernels : k ≡ true → Err KernelAddress ≡ user_check s slots tag process a e
        unfolding user_check by_table
        check-kernels j = rw (lt-ltb _ _ p, ← v, n, t, ← f, h, ← i, j)

        pub check-slot : (slot : ℕ) (c : Result Global Refusal) → k ≡ false → slot ≡ slot_of e → c ≡ slot_check (get_or slots (process * process_slots + slot) 0) a e
            → c ≡ user_check s slots tag process a e
        unfolding user_check slot_check by_table
        check-slot slot c j l m = m ∙ rw (l, lt-ltb _ _ p, ← v, n, t, ← f, h, ← i, j)

-- what a passed check says
module _ (s : Shape) (slots : List ℕ) (tag : Pending) (process : ℕ) (a : Access) (e : Effective) where
  refuse : ℕ → Result Global Refusal
  refuse n = Err (refusal_of n)

  no-refusal : (g : Global) (n : ℕ) → refuse n ≡ Ok g → ⊥
  unfolding refuse
  no-refusal g n k = let z : ◌≡◌ {A = ℕ} 0 1 = cc in omega arith

  passed-aligned : (g : Global) → user_check s slots tag process a e ≡ Ok g → (aligned_to a.width e.0 ≡ true) × (g.0 ≡ (user_global slots process e).0)
  unfolding user_check refuse
  passed-aligned g k =
      let word = slot_word_at slots process e in
      let k₂ = table-passed refuse 2 (not (is_process s process) || too_large a) _ _ (Ok g) (no-refusal g 2) k in
      let k₃ = table-passed refuse 3 tag.set _ _ (Ok g) (no-refusal g 3) k₂.1 in
      let k₄ = table-passed refuse 4 (not (aligned_to a.width e.0)) _ _ (Ok g) (no-refusal g 4) k₃.1 in
      let k₅ = table-passed refuse 5 (is_kernels e) _ _ (Ok g) (no-refusal g 5) k₄.1 in
      let k₆ = table-passed refuse 6 (slot_empty word) _ _ (Ok g) (no-refusal g 6) k₅.1 in
      let k₇ = table-passed refuse 7 (a.store && not (slot_writes word)) _ _ (Ok g) (no-refusal g 7) k₆.1 in
      let z : Ok (user_global slots process e) ≡ Ok g = table-end refuse _ _ k₇.1 in
      (not-false (aligned_to a.width e.0) k₄.0, cc)

  module _ (c : Result Global Refusal) (g : Global) (f : c ≡ user_check s slots tag process a e) (k : c ≡ Ok g) where
    passed : Aligned a.width e.0
    passed = aligned-inside a.width e.0 (passed-aligned g (sym f ∙ k)).0

    pub passed-wide : Width a.width
    passed-wide = passed.wide

    pub passed-inside : InWord g.0 a.width
    passed-inside = omega (arith, passed.in_word, (passed-aligned g (sym f ∙ k)).1)
