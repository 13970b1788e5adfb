-- A user access that no row of the plain machine refuses: where it goes, and that the process holds what it goes through.
-- Stands on Maps, Shapes and the alignments of `machine`.
use Prim.Native.Nat.{ℕ, zero, suc, ◌+◌, ◌%◌, ◌≤◌, ◌<◌}
use mathlib.Core.Path.{◌≡◌, refl}
use mathlib.Core.Bool.{Bool, true, false, not, ◌&&◌, ◌||◌}
use mathlib.Core.List.{List, [], ◌∷◌, ◌++◌}
use native.Mathlib.Omega.{arith}
use lib.Dec.{eqb}
use lib.ListN.{get_or}
use borrow.Author.Tests.{eqb-true, eqb-false, eq-eqb, ltb-true, leb-false, not-false}
use Rattle.address.specs.Layout.{kernel_start, process_slots}
use Rattle.address.specs.Addresses.{slot_of, page_of}
use Rattle.address.specs.declared.Effective.{Effective}
use Rattle.slots.specs.Slots.{slot_index, slot_segment, slot_writes, slot_empty}
use Rattle.pages.specs.Pages.{word_writes, mapped_to}
use Rattle.board.specs.declared.Shape.{Shape}
use Rattle.board.proofs.Bools.{and-rest, or_left, or_right, or-false}
use Rattle.stores.specs.declared.Access.{Access}
use Rattle.machine.specs.Refusals.{row, is_process, aligned_to}
use Rattle.machine.specs.Accesses.{slot_word_at, user_global, user_rows}
use Rattle.machine.proofs.Tables.{Passed}
use Rattle.machine.proofs.Alignments.{aligned-inside}
use Rattle.promises.specs.Plain.{Plain, plain_row1, address_frame, address_mapped}
use Rattle.promises.specs.Demand3.{word_holds, word_writes_to, some_slot, holds, holds_for_writing, segment_of_page}
use Rattle.page_laws.proofs.Maps.{Mapped, mapped-frame, found_at}
use Rattle.promises.proofs.Shapes.{PlainShaped, plain-shaped}

-- a slot of the process that passes the test: one of its slots does
some-slot : (test : ℕ → Bool) (slots : List ℕ) (process i n : ℕ) → i < n → test (get_or slots (slot_index process i) 0) ≡ true
    → some_slot test slots process n ≡ true
unfolding some_slot
some-slot test slots process i zero h e = absurd (omega arith)
some-slot test slots process i (suc n) h e = go (eqb i n) refl (λ lt. some-slot test slots process i n lt e)
  where
    go : (t : Bool) → eqb i n ≡ t → (i < n → some_slot test slots process n ≡ true)
        → (test (get_or slots (slot_index process n) 0) || some_slot test slots process n) ≡ true
    go true t later = let q : i ≡ n = eqb-true i n t in or_left (test (get_or slots (slot_index process n) 0)) (some_slot test slots process n) (rw q at e)
    go false t later = let q = eqb-false i n t in or_right (test (get_or slots (slot_index process n) 0)) (some_slot test slots process n) (later (omega arith))

-- no row of a user access applies
abbrev pub UserPassed : Shape → Plain → ℕ → Access → Effective → Type 0
UserPassed s p process a e =
    Passed (plain_row1 s p ∷ (user_rows s p.slots p.tag process a e
    ++ (row 8 (not (address_mapped s p (user_global p.slots process e)))
    ∷ row 9 (a.store && not (word_writes (get_or p.words (address_frame s p (user_global p.slots process e)) 0))) ∷ [])))

pub record Admitted (s : Shape) (p : Plain) (process : ℕ) (a : Access) (e : Effective) : Type 0 where
  pub facts : PlainShaped s p
  pub process_low : process < s.processes
  pub slot_low : slot_of e < process_slots
  pub not_empty : slot_empty (slot_word_at p.slots process e) ≡ false
  pub may_write : a.store ≡ true → slot_writes (slot_word_at p.slots process e) ≡ true
  pub mapped : Mapped s p.words (page_of (user_global p.slots process e)) (address_frame s p (user_global p.slots process e))
  pub room : (user_global p.slots process e).0 % 4096 + a.width ≤ 4096
  pub segment_is : segment_of_page (page_of (user_global p.slots process e)) ≡ slot_segment (slot_word_at p.slots process e)

pub admitted : (s : Shape) (p : Plain) (process : ℕ) (a : Access) (e : Effective) → UserPassed s p process a e → Admitted s p process a e
admitted s p process a e h =
    let al = aligned-inside a.width e.0 (not-false (aligned_to a.width e.0) (h 3)) in
    let k = leb-false kernel_start e.0 (h 4) in
    record {
      facts = plain-shaped s p (h 0);
      process_low = ltb-true process s.processes (not-false _ (or-false (not (is_process s process)) _ (h 1)).0);
      slot_low = omega arith;
      not_empty = h 5;
      may_write = λ st. not-false (slot_writes (slot_word_at p.slots process e)) (and-rest a.store (not (slot_writes (slot_word_at p.slots process e))) st (h 6));
      mapped = mapped-frame s p.words (page_of (user_global p.slots process e)) (address_frame s p (user_global p.slots process e))
          (found_at (mapped_to s p.words (page_of (user_global p.slots process e))) (h 7));
      room = omega (arith, al.inside);
      segment_is = omega arith;
    }

-- what the process goes through, it holds; what it stores through, it holds for writing
pub admitted-holds : (s : Shape) (p : Plain) (process : ℕ) (a : Access) (e : Effective) → Admitted s p process a e
    → holds p.slots process (slot_segment (slot_word_at p.slots process e)) ≡ true
admitted-holds s p process a e r =
    let w = slot_word_at p.slots process e in
    some-slot (word_holds (slot_segment w)) p.slots process (slot_of e) process_slots r.slot_low
    (rw (r.not_empty, eq-eqb (slot_segment w) (slot_segment w) refl))

pub admitted-writes : (s : Shape) (p : Plain) (process : ℕ) (a : Access) (e : Effective) → Admitted s p process a e → a.store ≡ true
    → holds_for_writing p.slots process (slot_segment (slot_word_at p.slots process e)) ≡ true
admitted-writes s p process a e r st =
    let w = slot_word_at p.slots process e in
    some-slot (word_writes_to (slot_segment w)) p.slots process (slot_of e) process_slots r.slot_low
    (rw (r.not_empty, eq-eqb (slot_segment w) (slot_segment w) refl, r.may_write st))
