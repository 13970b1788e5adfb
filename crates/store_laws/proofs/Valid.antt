-- Every valid record holds a line: each step on a store keeps that, of any store and any number of lines in a set.
-- Stands on Held, Steps and Sweeps.
use Prim.Native.Nat.{ℕ, ◌+◌, ◌*◌, ◌/◌, ◌<◌}
use mathlib.Core.Path.{◌≡◌, refl, sym, ◌∙◌}
use mathlib.Core.Bool.{Bool, true, false, ◌&&◌}
use mathlib.Core.List.{List}
use native.Mathlib.Omega.{arith}
use lib.Dec.{eqb, leb}
use lib.ListN.{length, get_or, get_or-eq_default}
use borrow.Author.Tests.{eqb-true, eqb-false, leb-true, leb-false}
use Rattle.address.specs.Layout.{page_lines}
use Rattle.board.specs.declared.Shape.{Shape}
use Rattle.board.proofs.Bools.{clash, cond_both}
use Rattle.lines.specs.Records.{line_at, put_line, no_line, new_line, changed_line, permitted_line}
use Rattle.lines.specs.Holds.{place_of, holds_line, holds_at}
use Rattle.lines.specs.declared.Line.{Line}
use Rattle.stores.specs.Stores.{Store, filled, noted, inserted, dropped, Performed, performed_at}
use Rattle.stores.specs.declared.Access.{Access}
use Rattle.visits.specs.Visits.{selects, treated, visited, visited_all}
use Rattle.visits.specs.declared.Deed.{Deed}
use Rattle.visits.specs.declared.Deed.TheVariants.{Drop, Retire, Permit}
use Rattle.visits.specs.declared.Visit.{Visit}
use Rattle.lines.proofs.Records.{length-put, line-put-same, line-put-other}
use Rattle.store_laws.proofs.Held.{holds-new, holds-permitted, held-line, held_same}
use Rattle.store_laws.proofs.Steps.{written-records, evict-records}
use Rattle.store_laws.proofs.Sweeps.{sweep-keeps}

module _ (s : Shape) where
  abbrev pub AllHold : List ℕ → Type 0
  AllHold r = (i : ℕ) → (line_at r i).valid ≡ true → holds_at s r i ≡ true

  -- a record past the list is not valid
  past-not-valid : (r : List ℕ) (i : ℕ) → length r < 2 * i + 2 → (line_at r i).valid ≡ false
  unfolding line_at
  past-not-valid r i h = let z : get_or r (2 * i + 1) 0 ≡ 0 = get_or-eq_default r 0 (omega arith) in rw z

  -- a record put, which holds a line if it is valid
  valid-put : (r : List ℕ) (i : ℕ) (l : Line) → (l.valid ≡ true → holds_line s i l ≡ true) → AllHold r → AllHold (put_line r i l)
  valid-put r i l own all j v = go (eqb j i) (leb (2 * i + 2) (length r)) refl refl
    where
      go : (t u : Bool) → eqb j i ≡ t → leb (2 * i + 2) (length r) ≡ u → holds_at s (put_line r i l) j ≡ true
      go true true t u =
          let q : j ≡ i = eqb-true j i t in
          let e = line-put-same r i l (leb-true _ _ u) in
          rw (q, held-line s (put_line r i l) i l e) (own (rw (q, e) at v))
      go true false t u =
          let q : j ≡ i = eqb-true j i t in
          let n = length-put r i l in
          let o = leb-false (2 * i + 2) (length r) u in
          clash _ (rw q at v) (past-not-valid (put_line r i l) i (omega arith))
      go false u t w =
          let e = line-put-other r i l j (λ e. eqb-false j i t (sym e)) in
          rw (held_same s (put_line r i l) j r e) (all j (rw e at v))

  -- a line dropped, given another permission, or marked changed
  valid-dropped : (r : List ℕ) (i : ℕ) → AllHold r → AllHold (put_line r i no_line)
  valid-dropped r i = valid-put r i no_line (λ v. clash false v refl)

  valid-permitted : (r : List ℕ) (i : ℕ) (write : Bool) → AllHold r → AllHold (put_line r i (permitted_line (line_at r i) write))
  unfolding holds_at
  valid-permitted r i write all = valid-put r i (permitted_line (line_at r i) write) (λ v. holds-permitted s i (line_at r i) write ∙ all i v) all

  valid-changed : (r : List ℕ) (i : ℕ) → AllHold r → AllHold (put_line r i (changed_line (line_at r i)))
  unfolding holds_at holds_line
  valid-changed r i all = valid-put r i (changed_line (line_at r i)) (all i) all

  -- a miss: at the name's place, from a physical line inside memory
  pub valid-inserted : (i name p : ℕ) (w : Bool) (x : Store) → i / s.ways ≡ place_of s name → p < page_lines * s.frames → AllHold x.records
      → AllHold (inserted s i name p w x).records
  unfolding inserted noted filled
  valid-inserted i name p w x stands inside all =
      rw (written-records s i x) (valid-put x.records i (new_line name p w) (λ v. holds-new s i name p w stands inside) all)

  -- a load or a store
  pub valid-performed : (i offset : ℕ) (a : Access) (r cache : List ℕ) → AllHold r → AllHold (performed_at i offset a r cache).records
  unfolding performed_at
  valid-performed i offset a r cache all = cond_both (λ (p : Performed). AllHold p.records) a.store _ _ (valid-changed r i all) all

  -- every record visited
  valid-treated : (d : Deed) (i : ℕ) (x : Store) → AllHold x.records → AllHold (treated s d i x).records
  unfolding treated dropped noted
  valid-treated Drop i x all = valid-dropped x.records i all
  valid-treated Retire i x all = rw (evict-records s i x) (valid-dropped x.records i all)
  valid-treated (Permit write) i x all = valid-permitted x.records i write all

  pub valid-visited : (v : Visit) (x : Store) → AllHold x.records → AllHold (visited_all s v x).records
  unfolding visited_all visited
  valid-visited v x all =
      sweep-keeps (visited s v) (λ (y : Store). AllHold y.records)
      (λ i y h. cond_both (λ (z : Store). AllHold z.records) (holds_at s y.records i && selects v (line_at y.records i)) _ _ (valid-treated v.deed i y h) h)
      s.lines 0 x all
