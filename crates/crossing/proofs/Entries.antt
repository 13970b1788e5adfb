-- The entry of a page as one number: the returns, and no second one.
use Rattle.std.specs.Prelude.{Option, Some, None}
use Prim.Native.Nat.{ℕ, ◌/◌, ◌%◌, ◌<◌}
use mathlib.Core.Path.{◌≡◌, ◌∙◌, sym, ap}
use native.Mathlib.Omega.{arith}
use Rattle.address.specs.Layout.{global_end}
use Rattle.address.specs.Entries.{asked_entry, entry_number, entry_value}
use Rattle.address.specs.declared.Global.{Global}
use Rattle.address.proofs.Entries.{asked_is}
use Rattle.crossing.specs.Entries.{EntryReturned, OneEntryReturned}

pub one-entry-returned : OneEntryReturned
one-entry-returned page r q p h =
    let n : r / global_end ≡ q / global_end = p.0 ∙ sym h.0 in
    let v : r % global_end ≡ q % global_end = p.1 ∙ sym h.1 in
    omega (arith, n, v)

module _ (page : ℕ) (e : Option Global) (h : e ≡ asked_entry page) where
  pub returned-at : (g : Global) → e ≡ Some g → EntryReturned page g.0
  unfolding entry_number entry_value
  returned-at g k =
      let i = asked_is page g (sym k ∙ h) in
      let b : g.0 < global_end = omega (arith, i.0, i.1) in
      let n : g.0 / global_end ≡ 0 = omega (arith, b) in
      let v : g.0 % global_end ≡ g.0 = omega (arith, b) in
      (n ∙ ap entry_number (sym k ∙ h), v ∙ ap entry_value (sym k ∙ h))

  pub returned-refused : e ≡ None → (r : ℕ) → r / global_end ≡ 2 → r % global_end ≡ 0 → EntryReturned page r
  unfolding entry_number entry_value
  returned-refused k r n v = (n ∙ ap entry_number (sym k ∙ h), v ∙ ap entry_value (sym k ∙ h))
