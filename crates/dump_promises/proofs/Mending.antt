-- The repair, place by place: what is left at each, once all are mended.
use Rattle.std.specs.Prelude.{Option}
use Prim.Native.Nat.{ℕ, zero, suc, ◌+◌, ◌*◌, ◌≤◌, ◌<◌}
use mathlib.Core.Path.{◌≡◌, ◌∙◌, sym, refl, ap}
use mathlib.Core.Logic.{◌⊎◌, inl, inr, ⊎_elim}
use mathlib.Core.Bool.{Bool, true, false, ◌&&◌, ◌||◌, cond}
use mathlib.Core.List.{List}
use native.Mathlib.Omega.{arith}
use lib.ListN.{length}
use Rattle.board.specs.declared.Shape.{Shape}
use Rattle.board.specs.declared.Home.{Home}
use Rattle.board.proofs.Bools.{clash}
use Rattle.lines.specs.Records.{line_at, put_line, no_line}
use Rattle.lines.specs.Holds.{holds_at, keeps_line}
use Rattle.lines.specs.declared.Line.{Line}
use Rattle.lines.proofs.Records.{length-put, line-put-same, line-put-other}
use Rattle.stores.specs.Stores.{Store, store, dropped, noted}
use Rattle.visits.specs.Visits.{sweep}
use Rattle.store_laws.proofs.Held.{holds-none, held_same, held-line, held-put-other}
use Rattle.doubles.proofs.Lists.{eq-or-not}
use Rattle.dump_lines.specs.Lines.{astray, stale, breaks_alone}
use Rattle.repairs.specs.Repairs.{held_below, mended, repaired}

-- what lower records hold does not change with a record that is not lower
below_put : (s : Shape) (r : List ℕ) (i : ℕ) (l : Line) (line n : ℕ) → n ≤ i → held_below s (put_line r i l) line n ≡ held_below s r line n
unfolding held_below keeps_line
below_put s r i l line zero h = refl
below_put s r i l line (suc n) h =
    let a : line_at (put_line r i l) n ≡ line_at r n = line-put-other r i l n (λ e. omega arith) in
    let b : holds_at s (put_line r i l) n ≡ holds_at s r n = held-put-other s r i l n (λ e. omega arith) in
    let later = below_put s r i l line n (omega arith) in
    rw (a, b, later)

module _ (s : Shape) (home : ℕ → Option Home) (c m : List ℕ) where
  abbrev alone : List ℕ → ℕ → Bool
  alone r i = breaks_alone s home (store r c m) i

  abbrev lower : List ℕ → List ℕ → ℕ → Bool
  lower r₀ r i = held_below s r (line_at r₀ i).physical i

  alone-same : (r q : List ℕ) (i : ℕ) → line_at r i ≡ line_at q i → alone r i ≡ alone q i
  unfolding breaks_alone astray stale holds_at
  alone-same r q i e = rw e

  -- what is left at place i, of the records r₀
  pub data Left (r₀ r : List ℕ) (i : ℕ) : Type 0 where
    none : holds_at s r₀ i ≡ false → line_at r i ≡ line_at r₀ i → Left r₀ r i
    keeps : holds_at s r₀ i ≡ true → line_at r i ≡ line_at r₀ i → alone r₀ i ≡ false → lower r₀ r i ≡ false → Left r₀ r i
    drops : holds_at s r₀ i ≡ true → line_at r i ≡ no_line → (alone r₀ i ≡ true) ⊎ (lower r₀ r i ≡ true) → Left r₀ r i

  -- the records r, of which those below i are mended
  pub record Good (r₀ r : List ℕ) (i : ℕ) : Type 0 where
    pub size : length r ≡ length r₀
    pub rest : (k : ℕ) → i ≤ k → line_at r k ≡ line_at r₀ k
    pub left : (k : ℕ) → k < i → Left r₀ r k

  abbrev after : List ℕ → ℕ → List ℕ
  after r i = cond (holds_at s r i && (alone r i || held_below s r (line_at r i).physical i)) (put_line r i no_line) r

  module _ (r₀ r : List ℕ) (i : ℕ) (inside : 2 * i + 2 ≤ length r₀) (g : Good r₀ r i) where
    here : line_at r i ≡ line_at r₀ i
    here = g.rest i (omega arith)

    left-put : (k : ℕ) → k < i → Left r₀ r k → Left r₀ (put_line r i no_line) k
    left-put k h (none a e) = none a (line-put-other r i no_line k (λ q. omega arith) ∙ e)
    left-put k h (keeps a e b d) =
        keeps a (line-put-other r i no_line k (λ q. omega arith) ∙ e) b (below_put s r i no_line (line_at r₀ k).physical k (omega arith) ∙ d)
    left-put k h (drops a e b) =
        drops a (line-put-other r i no_line k (λ q. omega arith) ∙ e)
        (⊎_elim inl (λ d. inr (below_put s r i no_line (line_at r₀ k).physical k (omega arith) ∙ d)) b)

    -- the next place, with what stays and what is left at it
    more : (r₁ : List ℕ) → length r₁ ≡ length r → ((k : ℕ) → suc i ≤ k → line_at r₁ k ≡ line_at r k) → ((k : ℕ) → k < i → Left r₀ r k → Left r₀ r₁ k) → Left r₀ r₁ i
        → Good r₀ r₁ (suc i)
    more r₁ l same below at = record {
      size = l ∙ g.size;
      rest = λ k h. same k h ∙ g.rest k (omega arith);
      left = λ k h. ⊎_elim (λ (e : k ≡ i). rw e at) (λ e. below k (omega arith) (g.left k (omega arith))) (eq-or-not k i);
    }

    good-drop : holds_at s r i ≡ true → (alone r₀ i ≡ true) ⊎ (lower r₀ r i ≡ true) → Good r₀ (put_line r i no_line) (suc i)
    good-drop h b =
        more (put_line r i no_line) (length-put r i no_line) (λ k l. line-put-other r i no_line k (λ q. omega arith)) left-put
        (drops (sym (held_same s r i r₀ here) ∙ h) (line-put-same r i no_line (omega (arith, g.size)))
        (⊎_elim inl (λ d. inr (below_put s r i no_line (line_at r₀ i).physical i (omega arith) ∙ d)) b))

    good-stay : Left r₀ r i → Good r₀ r (suc i)
    good-stay at = more r refl (λ k l. refl) (λ k h x. x) at

    good-after : Good r₀ (after r i) (suc i)
    good-after = go (holds_at s r i) (alone r i) (held_below s r (line_at r i).physical i) refl refl refl
      where
        go : (t u v : Bool) → holds_at s r i ≡ t → alone r i ≡ u → held_below s r (line_at r i).physical i ≡ v → Good r₀ (cond (t && (u || v)) (put_line r i no_line) r) (suc i)
        go false u v h a b = good-stay (none (sym (held_same s r i r₀ here) ∙ h) here)
        go true true v h a b = good-drop h (inl (sym (alone-same r r₀ i here) ∙ a))
        go true false true h a b = good-drop h (inr (rw here at b))
        go true false false h a b = good-stay (keeps (sym (held_same s r i r₀ here) ∙ h) here (sym (alone-same r r₀ i here) ∙ a) (rw here at b))

  unfoldable after_all : ℕ → ℕ → List ℕ → List ℕ
  after_all zero i r = r
  after_all (suc n) i r = after_all n (suc i) (after r i)

  good-all : (r₀ : List ℕ) (n i : ℕ) (r : List ℕ) → 2 * (i + n) ≤ length r₀ → Good r₀ r i → Good r₀ (after_all n i r) (i + n)
  unfolding after_all
  good-all r₀ zero i r h g = let e : i + 0 ≡ i = omega arith in rw e g
  good-all r₀ (suc n) i r h g =
      let e : i + suc n ≡ suc i + n = omega arith in
      rw e (good-all r₀ n (suc i) (after r i) (omega arith) (good-after r₀ r i (omega arith) g))

  choice : (t : Bool) (a b : List ℕ) → cond t (store a c m) (store b c m) ≡ store (cond t a b) c m
  choice true a b = refl
  choice false a b = refl

  sweep-after : (n i : ℕ) (r : List ℕ) → sweep (mended s home) n i (store r c m) ≡ store (after_all n i r) c m
  unfolding sweep after_all mended dropped noted
  sweep-after zero i r = refl
  sweep-after (suc n) i r =
      rw (choice (holds_at s r i && (alone r i || held_below s r (line_at r i).physical i)) (put_line r i no_line) r) (sweep-after n (suc i) (after r i))

  -- the records that a repair leaves
  abbrev pub repaired_records : List ℕ → List ℕ
  repaired_records r = (repaired s home (store r c m)).records

  all_after : (r : List ℕ) → repaired s home (store r c m) ≡ store (after_all s.lines 0 r) c m
  unfolding repaired
  all_after r = sweep-after s.lines 0 r

  records_are : (r : List ℕ) → after_all s.lines 0 r ≡ repaired_records r
  records_are r = sym (ap (λ (x : Store). x.records) (all_after r))

  pub repaired-is : (r : List ℕ) → repaired s home (store r c m) ≡ store (repaired_records r) c m
  repaired-is r = all_after r ∙ ap (λ (q : List ℕ). store q c m) (records_are r)

  pub good : (r : List ℕ) → length r ≡ 2 * s.lines → Good r (repaired_records r) s.lines
  good r e =
      let start : Good r r 0 = record { size = refl; rest = λ k h. refl; left = λ k h. absurd (omega arith) } in
      let z : 0 + s.lines ≡ s.lines = omega arith in
      rw (records_are r, z) at (good-all r s.lines 0 r (omega arith) start)

  -- a line that is held after the repair is kept
  module _ (r₀ r : List ℕ) (i : ℕ) (h : holds_at s r i ≡ true) where
    pub kept_line : Left r₀ r i → line_at r i ≡ line_at r₀ i
    kept_line (none a e) = e
    kept_line (keeps a e b d) = e
    kept_line (drops a e b) = clash _ h (held-line s r i no_line e ∙ holds-none s i)

    pub kept-held : Left r₀ r i → holds_at s r₀ i ≡ true
    kept-held x = sym (held_same s r i r₀ (kept_line x)) ∙ h

    pub kept-alone : Left r₀ r i → alone r₀ i ≡ false
    kept-alone (none a e) = clash _ (kept-held (none a e)) a
    kept-alone (keeps a e b d) = b
    kept-alone (drops a e b) = clash _ h (held-line s r i no_line e ∙ holds-none s i)

    pub kept-lower : Left r₀ r i → held_below s r (line_at r i).physical i ≡ false
    kept-lower (none a e) = clash _ (kept-held (none a e)) a
    kept-lower (keeps a e b d) = rw e d
    kept-lower (drops a e b) = clash _ h (held-line s r i no_line e ∙ holds-none s i)
