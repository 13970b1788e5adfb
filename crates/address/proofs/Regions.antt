-- What an address reaches, by its prefix: one law a return of `region`.
use Prim.Native.Nat.{ℕ, ◌/◌}
use mathlib.Core.Path.{◌≡◌, ◌∙◌, sym}
use borrow.Author.Tests.{eq-eqb, ne_eqb}
use Rattle.address.specs.Layout.{table_bytes, table_index}
use Rattle.address.specs.Addresses.{prefix_of, region_of}
use Rattle.address.specs.declared.Global.{Global}
use Rattle.address.specs.declared.Region.TheVariants.{Uncached, Cached, PageTable, Ordinary}

module _ (g : Global) (prefix : ℕ) (e : prefix ≡ prefix_of g) where
  pub region-uncached : prefix ≡ 0 → Uncached ≡ region_of g
  unfolding region_of
  region-uncached a = rw (eq-eqb _ _ (sym e ∙ a))

  pub region-cached : (prefix ≡ 0 → ⊥) → prefix ≡ 1 → Cached ≡ region_of g
  unfolding region_of
  region-cached a b = rw (ne_eqb _ _ (λ h. a (e ∙ h)), eq-eqb _ _ (sym e ∙ b))

  module _ (a : prefix ≡ 0 → ⊥) (b : prefix ≡ 1 → ⊥) where
    pub region-table : g.0 / table_bytes ≡ table_index → PageTable ≡ region_of g
    unfolding region_of
    region-table d = rw (ne_eqb _ _ (λ h. a (e ∙ h)), ne_eqb _ _ (λ h. b (e ∙ h)), eq-eqb _ _ d)

    pub region-ordinary : (g.0 / table_bytes ≡ table_index → ⊥) → Ordinary ≡ region_of g
    unfolding region_of
    region-ordinary d = rw (ne_eqb _ _ (λ h. a (e ∙ h)), ne_eqb _ _ (λ h. b (e ∙ h)), ne_eqb _ _ d)
