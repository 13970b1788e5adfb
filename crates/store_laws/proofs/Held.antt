-- What a record holds, and what the searches for the record of a name and of a physical line find.
-- Stands on the record laws of `lines` and on Searches.
use Rattle.std.specs.Prelude.{Option, Some, None}
use Prim.Native.Nat.{ℕ, ◌+◌, ◌*◌, ◌/◌, ◌%◌, ◌≤◌, ◌<◌}
use mathlib.Core.Logic.{◌≢◌}
use mathlib.Core.Path.{◌≡◌, refl, sym}
use mathlib.Core.Bool.{Bool, true, false}
use mathlib.Core.List.{List}
use native.Mathlib.Nat.{div-add-mod', mod-lt}
use native.Mathlib.Omega.{arith}
use lib.Dec.{eqb, ltb}
use lib.ListN.{length, get_or, get_or-eq_default}
use borrow.Author.Tests.{eqb-true, ltb-true, ltb-false, eq-eqb, lt-ltb}
use Rattle.address.specs.Layout.{page_lines}
use Rattle.board.specs.declared.Shape.{Shape}
use Rattle.board.specs.declared.Home.{Home}
use Rattle.board.proofs.Bools.{clash, and_left, and_right}
use Rattle.lines.specs.Records.{line_at, put_line, no_line, new_line, permitted_line}
use Rattle.stores.specs.Stores.{Store}
use Rattle.lines.specs.Holds.{place_of, holds_line, holds_at, holds_name, holder_of, keeps_line, keeper_of}
use Rattle.lines.specs.declared.Line.{Line}
use Rattle.lines.proofs.Records.{line-put-same, line-put-other}
use Rattle.store_laws.proofs.Sim.{Sim}
use Rattle.board.proofs.Searches.{first-at, first-nothing}

-- ---- what holds a line

module _ (s : Shape) (i : ℕ) where
  module _ (l : Line) (h : holds_line s i l ≡ true) where
    holds-place : i / s.ways ≡ place_of s l.name
    unfolding holds_line
    holds-place = eqb-true _ _ (and_left (eqb (i / s.ways) (place_of s l.name)) _ (and_right l.valid _ h))

    holds-in : l.physical < page_lines * s.frames
    unfolding holds_line
    holds-in = ltb-true _ _ (and_right (eqb (i / s.ways) (place_of s l.name)) _ (and_right l.valid _ h))

  pub holds-none : holds_line s i no_line ≡ false
  unfolding holds_line
  holds-none = refl

  pub holds-new : (name p : ℕ) (w : Bool) → i / s.ways ≡ place_of s name → p < page_lines * s.frames → holds_line s i (new_line name p w) ≡ true
  unfolding holds_line
  holds-new name p w a b = rw (eq-eqb _ _ a, lt-ltb _ _ b)

  pub holds-permitted : (l : Line) (write : Bool) → holds_line s i (permitted_line l write) ≡ holds_line s i l
  unfolding holds_line
  holds-permitted l write = refl

module _ (s : Shape) (r : List ℕ) (i : ℕ) where
  pub held_place : holds_at s r i ≡ true → i / s.ways ≡ place_of s (line_at r i).name
  unfolding holds_at
  held_place h = holds-place s i (line_at r i) h

  pub held_in : holds_at s r i ≡ true → (line_at r i).physical < page_lines * s.frames
  unfolding holds_at
  held_in h = holds-in s i (line_at r i) h

  -- a record holds a line by what it says
  pub held-line : (l : Line) → line_at r i ≡ l → holds_at s r i ≡ holds_line s i l
  unfolding holds_at
  held-line l e = rw e

  pub held_same : (q : List ℕ) → line_at r i ≡ line_at q i → holds_at s r i ≡ holds_at s q i
  unfolding holds_at
  held_same q e = rw e

  pub held-put-same : (l : Line) → 2 * i + 2 ≤ length r → holds_at s (put_line r i l) i ≡ holds_line s i l
  unfolding holds_at
  held-put-same l h = rw (line-put-same r i l h)

  pub held-put-other : (l : Line) (j : ℕ) → j ≢ i → holds_at s (put_line r i l) j ≡ holds_at s r j
  unfolding holds_at
  held-put-other l j n = rw (line-put-other r i l j (λ e. n (sym e)))

  -- a record past the list has the words 0
  past-none : length r ≤ 2 * i → holds_at s r i ≡ false
  unfolding holds_at holds_line line_at
  past-none h =
      let z : get_or r (2 * i + 1) 0 ≡ 0 = get_or-eq_default r 0 (omega arith) in
      rw z

  -- a held record is one of the list
  pub held-listed : (n : ℕ) → length r ≡ 2 * n → holds_at s r i ≡ true → i < n
  held-listed n e h = go (ltb i n) refl
    where
      go : (t : Bool) → ltb i n ≡ t → i < n
      go true t = ltb-true _ _ t
      go false t = let d = ltb-false i n t in clash _ h (past-none (omega arith))

pub held_below_lem : {s : Shape} {home : ℕ → Option Home} {x : Store} {m : List ℕ} → Sim s home x m → (i : ℕ)
    → holds_at s x.records i ≡ true → i < s.lines
held_below_lem {s} {x = x} sim i h = held-listed s x.records i s.lines sim.record_count h

-- ---- the search for a name

module _ (s : Shape) (r : List ℕ) (name : ℕ) where
  -- what the search finds holds the name
  pub holder-some : (j : ℕ) → holder_of s r name ≡ Some j → (holds_at s r j ≡ true) × ((line_at r j).name ≡ name)
  unfolding holder_of holds_name
  holder-some j h =
      let t = (first-at (holds_name s r name) (place_of s name * s.ways) s.ways j h).passes in
      (and_right (eqb (line_at r j).name name) _ t, eqb-true _ _ (and_left (eqb (line_at r j).name name) _ t))

  -- where it finds nothing, no record holds the name
  pub holder-nothing : (j : ℕ) → 0 < s.ways → holder_of s r name ≡ None → holds_at s r j ≡ true → (line_at r j).name ≢ name
  unfolding holder_of holds_name
  holder-nothing j w h d z =
      let a = held_place s r j d in
      let b = div-add-mod' j s.ways in
      let e = mod-lt j w in
      let q : j / s.ways ≡ name % (s.lines / s.ways) = cc in
      let b' = rw q at b in
      let t = first-nothing (holds_name s r name) (name % (s.lines / s.ways) * s.ways) s.ways j h (omega arith) (omega arith) in
      clash (holds_name s r name j) (rw (d, eq-eqb _ _ z)) t

-- ---- the search for a physical line

module _ (s : Shape) (r : List ℕ) (p : ℕ) where
  pub keeper-some : (j : ℕ) → keeper_of s r p ≡ Some j → (holds_at s r j ≡ true) × ((line_at r j).physical ≡ p)
  unfolding keeper_of keeps_line
  keeper-some j h =
      let t = (first-at (keeps_line s r p) 0 s.lines j h).passes in
      (and_left (holds_at s r j) _ t, eqb-true _ _ (and_right (holds_at s r j) _ t))

  pub keeper-nothing : (j : ℕ) → keeper_of s r p ≡ None → j < s.lines → holds_at s r j ≡ true → (line_at r j).physical ≢ p
  unfolding keeper_of keeps_line
  keeper-nothing j h b d z =
      let t = first-nothing (keeps_line s r p) 0 s.lines j h (omega arith) (omega arith) in
      clash (keeps_line s r p j) (rw (d, eq-eqb _ _ z)) t
