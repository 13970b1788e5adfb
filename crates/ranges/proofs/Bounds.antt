-- How many places there are to visit: the places of the runs are counted by a test that each of them passes.
use Prim.Native.Nat.{ℕ, zero, suc, ◌+◌, ◌-◌, ◌%◌, ◌≤◌, ◌<◌}
use mathlib.Core.Path.{◌≡◌, ◌∙◌, refl, sym}
use mathlib.Core.Bool.{Bool, true, false, cond, ◌||◌}
use mathlib.Core.List.{List, [], ◌∷◌}
use native.Mathlib.Nat.{mod-lt, mod-eq_of_lt}
use native.Mathlib.Omega.{arith}
use lib.Dec.{eqb, leb, ltb}
use lib.ListN.{length}
use borrow.Author.Tests.{ltb-true, ltb-false, lt-ltb, le-leb, lt-leb, leb-true, leb-false, eqb-true, eqb-false}
use Rattle.board.proofs.Bools.{or_left, or_right}
use Rattle.ranges.specs.Ranges.{named}
use Rattle.ranges.specs.Places.{HasPlace, NextRun}
use Rattle.ranges.specs.Bounds.{Runs, places_in, Bounds}
use Rattle.ranges.specs.declared.Range.{Range}
use Rattle.ranges.specs.declared.Names.{Names}
use Rattle.ranges.specs.declared.Names.TheVariants.{One, Two, All}
use Rattle.ranges.specs.declared.Run.{Run}
use Rattle.ranges.proofs.Places.{names-on, names-round, reached, of_either, run-nameless, run-here, run-first, run-over, run-earlier, run-all}

-- ---- how many of n places from p on pass a test

tally : (ℕ → Bool) → ℕ → ℕ → ℕ
tally t zero p = 0
tally t (suc n) p = cond (t p) 1 0 + tally t n (suc p)

tally-parts : (t : ℕ → Bool) (n m p : ℕ) → tally t (n + m) p ≡ tally t n p + tally t m (p + n)
unfolding tally
tally-parts t zero m p = let z : p + 0 ≡ p = omega arith in let y : 0 + m ≡ m = omega arith in rw (z, y) (omega arith)
tally-parts t (suc n) m p =
    let z : p + suc n ≡ suc p + n = omega arith in
    let y : suc n + m ≡ suc (n + m) = omega arith in
    let e = tally-parts t n m (suc p) in
    rw (z, y) (omega arith)

tally-most : (t : ℕ → Bool) (n p : ℕ) → tally t n p ≤ n
unfolding tally
tally-most t zero p = omega arith
tally-most t (suc n) p = go (t p) (tally-most t n (suc p))
  where
    go : (u : Bool) → tally t n (suc p) ≤ n → cond u 1 0 + tally t n (suc p) ≤ suc n
    go true e = omega arith
    go false e = omega arith

tally-all : (t : ℕ → Bool) (n p : ℕ) → ((q : ℕ) → p ≤ q → q < p + n → t q ≡ true) → n ≤ tally t n p
unfolding tally
tally-all t zero p h = omega arith
tally-all t (suc n) p h = let e = tally-all t n (suc p) (λ q a b. h q (omega arith) (omega arith)) in rw (h p (omega arith) (omega arith)) (omega arith)

tally-either : (t u : ℕ → Bool) (n p : ℕ) → tally (λ q. t q || u q) n p ≤ tally t n p + tally u n p
unfolding tally
tally-either t u zero p = omega arith
tally-either t u (suc n) p = go (t p) (u p) _ _ _ (tally-either t u n (suc p))
  where
    go : (x y : Bool) (a b c : ℕ) → a ≤ b + c → cond (x || y) 1 0 + a ≤ (cond x 1 0 + b) + (cond y 1 0 + c)
    go true true a b c e = omega arith
    go true false a b c e = omega arith
    go false true a b c e = omega arith
    go false false a b c e = omega arith

-- a test that passes only below an end
tally-below : (t : ℕ → Bool) (d c n p : ℕ) → ((q : ℕ) → p ≤ q → q < p + n → t q ≡ true → q + d < c) → tally t n p ≤ c - (p + d)
unfolding tally
tally-below t d c zero p h = omega arith
tally-below t d c (suc n) p h =
    go (t p) refl _ (tally-below t d c n (suc p) (λ q a b. h q (omega arith) (omega arith)))
  where
    go : (u : Bool) → t p ≡ u → (m : ℕ) → m ≤ c - (suc p + d) → cond u 1 0 + m ≤ c - (p + d)
    go true k m e = let z = h p (omega arith) (omega arith) k in omega arith
    go false k m e = omega arith

-- ---- the places of runs

runs-tallied : (sets : ℕ) (names : Names) (t : ℕ → Bool) → ((q : ℕ) → q < sets → HasPlace sets names q → t q ≡ true)
    → (rs : List Run) (place : ℕ) → Runs sets names place rs → places_in rs ≤ tally t (sets - place) place
unfolding Runs places_in
runs-tallied sets names t h [] place w = omega arith
runs-tallied sets names t h (r ∷ rs) place w =
    let next = w.0 in
    let a = next.from in
    let b = next.upward in
    let c = next.within in
    let later = runs-tallied sets names t h rs r.end w.1 in
    let here = tally-all t (r.end - r.start) r.start (λ q x y. h q (omega arith) (next.inside q x (omega arith))) in
    let z : sets - place ≡ (r.start - place) + ((r.end - r.start) + (sets - r.end)) = omega arith in
    let y : place + (r.start - place) ≡ r.start = omega arith in
    let v : r.start + (r.end - r.start) ≡ r.end = omega arith in
    let e = tally-parts t (r.start - place) ((r.end - r.start) + (sets - r.end)) place in
    let f = tally-parts t (r.end - r.start) (sets - r.end) r.start in
    let e' = rw (← z, y) at e in
    let f' = rw v at f in
    omega arith

-- ---- one range

module _ (sets : ℕ) (pos : 0 < sets) (r : Range) where
  abbrev start : ℕ
  start = r.first % sets

  -- a name of the range comes to this place, from its first name's place on and round the end
  comes : ℕ → Bool
  comes q = cond (leb start q) (ltb (q - start) r.count) (ltb (q + (sets - start)) r.count)

  comes-on : (q : ℕ) → start ≤ q → comes q ≡ ltb (q - start) r.count
  unfolding comes
  comes-on q h = rw (le-leb _ _ h)

  comes-round : (q : ℕ) → q < start → comes q ≡ ltb (q + (sets - start)) r.count
  unfolding comes
  comes-round q h = rw (lt-leb _ _ h)

  comes-to : (q : ℕ) → q < sets → HasPlace sets (One r) q → comes q ≡ true
  comes-to q h f = go (leb start q) refl
    where
      low : start < sets
      low = mod-lt r.first pos

      go : (t : Bool) → leb start q ≡ t → comes q ≡ true
      go true t =
          let a = leb-true start q t in
          comes-on q a ∙ lt-ltb _ _ (reached sets r q (q - start) (omega arith) (names-on sets r.first q start refl low h a) h f)
      go false t =
          let a = leb-false start q t in
          comes-round q a ∙ lt-ltb _ _ (reached sets r q (q + (sets - start)) (omega arith) (names-round sets r.first q start refl low h a) h f)

  comes-few : tally comes sets 0 ≤ r.count
  comes-few =
      let low : start < sets = mod-lt r.first pos in
      let z : start + (sets - start) ≡ sets = omega arith in
      let e = tally-parts comes start (sets - start) 0 in
      let e' = rw z at e in
      let a = tally-below comes (sets - start) r.count start 0 (λ q x y k. ltb-true _ _ (sym (comes-round q (omega arith)) ∙ k)) in
      let b = tally-below comes 0 (r.count + start) (sets - start) start (λ q x y k. let w = ltb-true (q - start) r.count (sym (comes-on q x) ∙ k) in omega arith) in
      let c = tally-most comes (sets - start) start in
      let d : 0 + start ≡ start = omega arith in
      let e'' = rw d at e' in
      omega arith

-- ---- there are runs

module _ (sets : ℕ) (pos : 0 < sets) where
  some_after : (r : Range) (place before : ℕ) → before < sets → (r.first + before) % sets ≡ place → place < sets → (x : Run) × NextRun sets (One r) place x
  some_after r place before low there h = go (ltb before r.count) (ltb place before) (eqb r.count 0) refl refl refl
    where
      end : Run
      end = record { start = sets; end = sets }

      go : (t u v : Bool) → ltb before r.count ≡ t → ltb place before ≡ u → eqb r.count 0 ≡ v → (x : Run) × NextRun sets (One r) place x
      go true u v e f g = (_, run-here sets r place before low there h _ refl (ltb-true _ _ e))
      go false true true e f g = (end, run-nameless sets r place end (refl, refl) h (eqb-true _ _ g))
      go false true false e f g = (_, run-first sets r place before low there h (ltb-false _ _ e) _ refl (ltb-true _ _ f) _ refl (eqb-false _ _ g))
      go false false v e f g = (end, run-over sets r place before low there h (ltb-false _ _ e) (ltb-false _ _ f) end (refl, refl))

  some_one : (r : Range) (place : ℕ) → place < sets → (x : Run) × NextRun sets (One r) place x
  some_one r place h = go (leb (start sets pos r) place) refl
    where
      low : start sets pos r < sets
      low = mod-lt r.first pos

      go : (t : Bool) → leb (start sets pos r) place ≡ t → (x : Run) × NextRun sets (One r) place x
      go true t =
          let a = leb-true (start sets pos r) place t in
          some_after r place (place - start sets pos r) (omega arith) (names-on sets r.first place (start sets pos r) refl low h a) h
      go false t =
          let a = leb-false (start sets pos r) place t in
          some_after r place (place + (sets - start sets pos r)) (omega arith) (names-round sets r.first place (start sets pos r) refl low h a) h

  some_next : (names : Names) (place : ℕ) → place < sets → (x : Run) × NextRun sets names place x
  some_next (One r) place h = some_one r place h
  some_next (Two r q) place h =
      let a = some_one r place h in
      let b = some_one q place h in
      (_, run-earlier sets place (Two r q) r q refl a.0 b.0 _ a.1 b.1 refl)
  some_next All place h = (_, run-all sets place All refl h)

-- n places are left
some_runs : (sets : ℕ) (names : Names) (n place : ℕ) → sets ≤ place + n → (rs : List Run) × Runs sets names place rs
unfolding Runs
some_runs sets names zero place h = ([], omega arith)
some_runs sets names (suc n) place h = go (ltb place sets) refl (some_runs sets names n)
  where
    go : (t : Bool) → ltb place sets ≡ t → ((p : ℕ) → sets ≤ p + n → (rs : List Run) × Runs sets names p rs) → (rs : List Run) × Runs sets names place rs
    go true t later =
        let b = ltb-true place sets t in
        let x = some_next sets (omega arith) names place b in
        let a = x.1.onward in
        let rest = later x.0.end (omega arith) in
        (x.0 ∷ rest.0, (x.1, rest.1))
    go false t later = ([], ltb-false _ _ t)

-- ---- how many

module _ (sets : ℕ) where
  most : (names : Names) (rs : List Run) → Runs sets names 0 rs → places_in rs ≤ sets
  most names rs w =
      let a = runs-tallied sets names (λ p. true) (λ p h f. refl) rs 0 w in
      let b = tally-most (λ p. true) (sets - 0) 0 in
      omega arith

  -- a count of a test that every place of the names passes, where there are places at all
  by-tally : (names : Names) (c : ℕ) (rs : List Run) → Runs sets names 0 rs
      → ((pos : 0 < sets) → (t : ℕ → Bool) × ((q : ℕ) → q < sets → HasPlace sets names q → t q ≡ true) × (tally t sets 0 ≤ c)) → places_in rs ≤ c
  by-tally names c rs w test = go (ltb 0 sets) refl
    where
      go : (u : Bool) → ltb 0 sets ≡ u → places_in rs ≤ c
      go true e =
          let t = test (ltb-true _ _ e) in
          let z : sets - 0 ≡ sets = omega arith in
          let a = runs-tallied sets names t.0 t.1 rs 0 w in
          let b = t.2 in
          let a' = rw z at a in
          omega arith
      go false e = let a = ltb-false 0 sets e in let b = most names rs w in omega arith

  one : (r : Range) (rs : List Run) → Runs sets (One r) 0 rs → places_in rs ≤ r.count
  one r rs w = by-tally (One r) r.count rs w (λ pos. (comes sets pos r, comes-to sets pos r, comes-few sets pos r))

  two : (r q : Range) (rs : List Run) → Runs sets (Two r q) 0 rs → places_in rs ≤ r.count + q.count
  two r q rs w = by-tally (Two r q) (r.count + q.count) rs w (λ pos. (
    (λ p. comes sets pos r p || comes sets pos q p),
    (λ p h f. of_either sets r q p _ (λ g. or_left _ _ (comes-to sets pos r p h g)) (λ g. or_right (comes sets pos r p) _ (comes-to sets pos q p h g)) f),
    (let a = tally-either (comes sets pos r) (comes sets pos q) sets 0 in let b = comes-few sets pos r in let c = comes-few sets pos q in omega arith),
  ))

  -- a run of all names passes over no place
  all : (rs : List Run) (place : ℕ) → place ≤ sets → Runs sets All place rs → places_in rs ≡ sets - place
  unfolding Runs places_in named
  all [] place h w = omega arith
  all (r ∷ rs) place h w = go (ltb place r.start) refl (all rs r.end w.0.within w.1)
    where
      go : (t : Bool) → ltb place r.start ≡ t → places_in rs ≡ sets - r.end → (r.end - r.start) + places_in rs ≡ sets - place
      go true t e =
          let a = ltb-true place r.start t in
          let b = w.0.upward in
          let c = w.0.within in
          absurd (w.0.passed place (omega arith) a (record { name = place; is_named = refl; is_there = mod-eq_of_lt (omega arith) }))
      go false t e =
          let a = ltb-false place r.start t in
          let b = w.0.from in
          let c = w.0.upward in
          let d = w.0.within in
          omega arith

  -- every run has a place but the last
  few : (names : Names) (rs : List Run) (place : ℕ) → Runs sets names place rs → length rs ≤ places_in rs + 1
  unfolding Runs places_in
  few names [] place w = omega arith
  few names (r ∷ rs) place w = go (ltb r.start sets) refl rs w.1 (few names rs r.end w.1)
    where
      go : (t : Bool) → ltb r.start sets ≡ t → (rs : List Run) → Runs sets names r.end rs → length rs ≤ places_in rs + 1
          → length (r ∷ rs) ≤ ((r.end - r.start) + places_in rs) + 1
      go true t rs v e = let a = w.0.filled (ltb-true _ _ t) in omega arith
      go false t [] v e = omega arith
      go false t (q ∷ rs) v e =
          let a = ltb-false r.start sets t in
          let b = w.0.upward in
          let c = v.0.onward in
          let d = v.0.within in
          absurd (omega arith)

pub bounds : Bounds
bounds = record {
  some = λ sets names. some_runs sets names sets 0 (omega arith);
  one = one;
  two = two;
  most = most;
  all = λ sets rs w. all sets rs 0 (omega arith) w ∙ omega arith;
  few = λ sets names rs w. few sets names rs 0 w;
}
