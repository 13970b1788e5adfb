-- Demand 2's place: an access changes no record and no cache line but one of its own set, on any board.
-- Stands on Bytes (lines written elsewhere) and the laws of `lines`, `reach` and `machine`.
use Rattle.std.specs.Prelude.{Option, Some, None}
use Prim.Native.Nat.{ℕ, ◌+◌, ◌%◌, ◌≤◌, ◌<◌}
use mathlib.Core.Path.{◌≡◌, ◌∙◌, refl, sym}
use mathlib.Core.Bool.{Bool, ◌||◌}
use mathlib.Core.List.{List}
use native.Mathlib.Omega.{arith}
use lib.Dec.{eqb}
use borrow.Author.Tests.{eqb-false, not-false}
use Rattle.address.specs.Addresses.{name_of, region_of, physical_of}
use Rattle.address.specs.declared.Effective.{Effective}
use Rattle.address.specs.declared.Global.{Global}
use Rattle.address.specs.declared.Physical.{Physical}
use Rattle.address.specs.declared.Region.{Region}
use Rattle.address.specs.declared.Region.TheVariants.{Uncached, Cached, PageTable, Ordinary}
use Rattle.board.specs.declared.Shape.{Shape}
use Rattle.board.specs.declared.Home.{Home}
use Rattle.board.proofs.Bools.{or-false, cond_both}
use Rattle.pages.specs.Pages.{home_of}
use Rattle.lines.specs.Records.{line_at, changed_line}
use Rattle.stores.specs.Stores.{Store, store, written_back, filled, noted, inserted, Performed, performed_at}
use Rattle.lines.specs.Holds.{place_of, set_at, holder_of}
use Rattle.lines.specs.Victims.{Uses, victim_of, record_by, record_for}
use Rattle.stores.specs.declared.Access.{Access}
use Rattle.lines.specs.declared.Line.{Line}
use Rattle.reach.specs.Reach.{way_by_home, way_by, way_of}
use Rattle.lines.proofs.Records.{line-put-other}
use Rattle.lines.proofs.Sets.{set_is, victim-set, holder_in}
use Rattle.machine.specs.Boards.{Board, Outcome, refused}
use Rattle.machine.specs.Refusals.{Row, by_table, aligned_to}
use Rattle.machine.specs.Accesses.{Reached, performed_on, accessed_by, accessed, touched, user_global, user_table, user_access, memory_access, supervisor_table, supervisor_done, supervisor_access, on_board}
use Rattle.machine.proofs.Tables.{Passed, table-cases}
use Rattle.machine.proofs.Alignments.{aligned-inside}
use Rattle.promises.specs.Demand2.{OnlyAt, record_to, Demand2Place}
use Rattle.store_laws.proofs.Bytes.{line-stored-other, line-with-other}
use Rattle.store_laws.proofs.Steps.{written-records, written-cache}

-- ---- the steps of an access

only-refl : (may : ℕ → Bool) (x : Store) → OnlyAt may x x
only-refl may x = record { same_records = λ i d. refl; same_cache = λ i d. refl }

-- two steps, one after the other
pub only-after : (p q : ℕ → Bool) (x y z : Store) → OnlyAt p x y → OnlyAt q y z → OnlyAt (λ i. p i || q i) x z
only-after p q x y z f g = record {
  same_records = λ i d. let e = or-false (p i) (q i) d in g.same_records i e.1 ∙ f.same_records i e.0;
  same_cache = λ i d. let e = or-false (p i) (q i) d in g.same_cache i e.1 ∙ f.same_cache i e.0;
}

-- both at the same records
only-trans : (may : ℕ → Bool) (x y z : Store) → OnlyAt may x y → OnlyAt may y z → OnlyAt may x z
only-trans may x y z f g =
    let h = only-after may may x y z f g in
    record { same_records = λ i d. h.same_records i (rw d); same_cache = λ i d. h.same_cache i (rw d) }

module _ (s : Shape) (p : ℕ) where
  only_written : (x : Store) → OnlyAt (eqb p) x (written_back s p x)
  only_written x = record { same_records = λ i d. rw (written-records s p x); same_cache = λ i d. rw (written-cache s p x) }

  only-filled : (line : ℕ) (x : Store) → OnlyAt (eqb p) x (filled p line x)
  unfolding filled
  only-filled line x = record {
    same_records = λ i d. refl;
    same_cache = λ i d. line-with-other x.cache x.memory p line i (λ e. eqb-false p i d (sym e));
  }

  only-noted : (l : Line) (x : Store) → OnlyAt (eqb p) x (noted p l x)
  unfolding noted
  only-noted l x = record { same_records = λ i d. line-put-other x.records p l i (eqb-false p i d); same_cache = λ i d. refl }

  only-inserted : (name line : ℕ) (write : Bool) (x : Store) → OnlyAt (eqb p) x (inserted s p name line write x)
  unfolding inserted
  only-inserted name line write x =
      only-trans (eqb p) x (written_back s p x) _ (only_written x)
      (only-trans (eqb p) (written_back s p x) (filled p line (written_back s p x)) _ (only-filled line _) (only-noted _ _))

  module _ (a : Access) (offset : ℕ) (fits : offset + a.width ≤ 16) where
    only-performed : (mark : ℕ) (x : Store) → OnlyAt (eqb p) x (performed_on p offset a mark x).after
    unfolding performed_on performed_at
    only-performed mark x =
        cond_both (λ (o : Performed). OnlyAt (eqb p) x (store o.records o.cache x.memory)) a.store _ _
        (record {
          same_records = λ i d. line-put-other x.records p (changed_line (line_at x.records p)) i (eqb-false p i d);
          same_cache = λ i d. line-stored-other x.cache p offset a.width a.value i fits (λ e. eqb-false p i d (sym e));
        })
        (only-refl (eqb p) x)

-- ---- the access

-- over any home of the name, and any record that a line that is not held goes to
module _ (s : Shape) (to name offset : ℕ) (a : Access) (x : Store) (fits : offset + a.width ≤ 16) where
  pub only-home : (home : Option Home) → OnlyAt (eqb to) x (accessed_by s to name offset a x (way_by_home home)).after
  unfolding accessed_by way_by_home
  only-home (Some hm) =
      only-trans (eqb to) x (inserted s to name hm.line hm.write x) _ (only-inserted s to name hm.line hm.write x) (only-performed s to a offset fits _ _)
  only-home None = only-refl (eqb to) x

  pub only-found : (home : Option Home) (found : Option ℕ) → OnlyAt (eqb (record_by to found)) x (accessed_by s to name offset a x (way_by x.records home found)).after
  unfolding record_by way_by accessed_by
  only-found home (Some i) = only-performed s i a offset fits _ x
  only-found home None = only-home home

module _ (s : Shape) (words : List ℕ) (g : Global) (a : Access) (x : Store) (uses : Uses) where
  abbrev own : ℕ
  own = record_for s uses x.records (name_of g)

  only-accessed : g.0 % 16 + a.width ≤ 16 → OnlyAt (eqb own) x (accessed s words g a x uses).reached.after
  unfolding accessed way_of
  only-accessed fits = only-found s _ (name_of g) (g.0 % 16) a x fits (home_of s words (name_of g)) (holder_of s x.records (name_of g))

  -- prefix 0 touches neither records nor cache
  only-memory : (at : Physical) → OnlyAt (eqb own) x (memory_access at a x).after
  unfolding memory_access
  only-memory at =
      cond_both (λ (r : Reached). OnlyAt (eqb own) x r.after) a.store _ _ (record { same_records = λ i d. refl; same_cache = λ i d. refl }) (only-refl (eqb own) x)

  only-supervisor : g.0 % 16 + a.width ≤ 16 → (r : Region) → OnlyAt (eqb own) x (supervisor_done s words a g x uses r).reached.after
  unfolding supervisor_done
  only-supervisor fits Uncached = only-memory (physical_of g)
  only-supervisor fits Cached = only-accessed fits
  only-supervisor fits PageTable = only-refl (eqb own) x
  only-supervisor fits Ordinary = only-accessed fits

module _ (s : Shape) (b : Board) (a : Access) where
  only-table : (may : ℕ → Bool) (rows : List Row) (d : Outcome) → (Passed rows → OnlyAt may b.store d.after.store)
      → OnlyAt may b.store (by_table (refused b) rows d).after.store
  only-table may rows d f = table-cases (λ (o : Outcome). OnlyAt may b.store o.after.store) (refused b) (λ n. only-refl may b.store) rows d f

  user_place : (process : ℕ) (e : Effective)
      → OnlyAt (eqb (record_to s b (user_global b.slots process e))) b.store (user_access s b process a e).after.store
  unfolding user_access user_table
  user_place process e =
      only-table _ _ _
      (λ q.
      let h = aligned-inside a.width e.0 (not-false (aligned_to a.width e.0) (q 3)) in
      only-accessed s b.words (user_global b.slots process e) a b.store b.uses (omega (arith, h.inside)))

  supervisor_place : (g : Global) → OnlyAt (eqb (record_to s b g)) b.store (supervisor_access s b a g).after.store
  unfolding supervisor_access supervisor_table
  supervisor_place g =
      only-table _ _ _
      (λ q. only-supervisor s b.words g a b.store b.uses (aligned-inside a.width g.0 (not-false (aligned_to a.width g.0) (q 3))).inside (region_of g))

  -- under prefix 0 a load or a store goes to memory
  abbrev Kept : Outcome → Type 0
  Kept o = (o.after.store.records ≡ b.store.records) × (o.after.store.cache ≡ b.store.cache)

  kept_memory : (p : Physical) → Kept (on_board b (touched (memory_access p a b.store) b.uses))
  unfolding memory_access
  kept_memory p = cond_both (λ (r : Reached). Kept (on_board b (touched r b.uses))) a.store _ _ (refl, refl) (refl, refl)

  prefix-0 : (g : Global) → region_of g ≡ Uncached → Kept (supervisor_access s b a g)
  unfolding supervisor_access supervisor_done
  prefix-0 g q =
      table-cases Kept (refused b) (λ n. (refl, refl)) (supervisor_table s b a g) (on_board b (supervisor_done s b.words a g b.store b.uses (region_of g)))
      (λ k. rw q (kept_memory (physical_of g)))

-- the record of a name, its holder or else the victim, is one of its set
module _ (s : Shape) (uses : Uses) (records : List ℕ) (name : ℕ) (w : 0 < s.ways) where
  set-by : (found : Option ℕ) → found ≡ holder_of s records name → set_at s (record_by (victim_of s uses records name) found) ≡ place_of s name
  unfolding record_by
  set-by (Some i) e = set_is s (place_of s name) i (holder_in s records name i (Some i) e refl)
  set-by None e = victim-set s uses records name w

  record-set : set_at s (record_for s uses records name) ≡ place_of s name
  record-set = set-by (holder_of s records name) refl

pub demand2-place : Demand2Place
demand2-place = record {
  user_place = λ s b process a e. user_place s b a process e;
  supervisor_place = λ s b a g. supervisor_place s b a g;
  own_set = λ s b g w. record-set s b.uses b.store.records (name_of g) w;
  prefix_0_records = λ s b a g q. (prefix-0 s b a g q).0;
  prefix_0_cache = λ s b a g q. (prefix-0 s b a g q).1;
}
