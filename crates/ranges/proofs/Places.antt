-- The places of a range's names, run by run.
use Prim.Native.Nat.{ℕ, min, ◌+◌, ◌*◌, ◌-◌, ◌/◌, ◌%◌, suc, ◌≤◌, ◌<◌}
use mathlib.Core.Path.{◌≡◌, ◌∙◌, refl, sym}
use mathlib.Core.Bool.{Bool, true, false, cond, ◌||◌}
use native.Mathlib.Nat.{div-add-mod', mul-add-mod_self_right, mod-eq_of_lt, add-mod_left, lt_of_mul-lt-mul_right, mul-le-mul_right, suc-mul}
use native.Mathlib.Omega.{arith}
use lib.Dec.{leb, ltb}
use borrow.Author.Tests.{ltb-true, ltb-false, leb-true, leb-false}
use Rattle.board.proofs.Bools.{clash, or_left, or_right}
use Rattle.ranges.specs.Ranges.{in_range, named}
use Rattle.ranges.specs.Places.{HasPlace, NextRun}
use Rattle.ranges.specs.declared.Range.{Range}
use Rattle.ranges.specs.declared.Names.{Names}
use Rattle.ranges.specs.declared.Names.TheVariants.{One, Two, All}
use Rattle.ranges.specs.declared.Run.{Run}
use Rattle.ranges.proofs.Ranges.{in-least, in-most, in_between}

-- what is left after whole rounds
rest_is : (sets n x q : ℕ) → x ≡ n * sets + q → q < sets → x % sets ≡ q
rest_is sets n x q e h = rw e (mul-add-mod_self_right n sets q ∙ mod-eq_of_lt h)

-- fewer whole rounds are at least one round less
round-less : (sets n m : ℕ) → n * sets < m * sets → n * sets + sets ≤ m * sets
round-less sets n m h =
    let a = lt_of_mul-lt-mul_right sets h in
    let b : suc n * sets ≤ m * sets = mul-le-mul_right sets (omega arith) in
    rw suc-mul at b

-- ---- from the first name of a range to the one at a place

module _ (sets first place start : ℕ) (s : start ≡ first % sets) (low : start < sets) (h : place < sets) where
  whole : first / sets * sets + start ≡ first
  whole = rw s (div-add-mod' first sets)

  pub names-on : start ≤ place → (first + (place - start)) % sets ≡ place
  names-on a = rest_is sets (first / sets) (first + (place - start)) place (omega (arith, whole)) h

  pub names-round : place < start → (first + (place + (sets - start))) % sets ≡ place
  names-round a =
      let z : first + (place + (sets - start)) ≡ sets + (first / sets * sets + place) = omega (arith, whole) in
      rw z (add-mod_left sets (first / sets * sets + place) ∙ rest_is sets (first / sets) _ place refl h)

-- ---- how many places are taken

pub lesser : (names room : ℕ) (t : Bool) → ltb names room ≡ t → min names room ≡ cond t names room
lesser names room true e = let a = ltb-true names room e in omega arith
lesser names room false e = let a = ltb-false names room e in omega arith

module _ (room names t : ℕ) where
  taken-by : (u : Bool) → ltb names room ≡ u → t ≡ cond u names room → (t ≤ names) × (t ≤ room) × (0 < names → 0 < room → 0 < t)
  taken-by true f e = let a = ltb-true names room f in let z : t ≡ names = e in (omega arith, omega arith, λ x y. omega arith)
  taken-by false f e = let a = ltb-false names room f in let z : t ≡ room = e in (omega arith, omega arith, λ x y. omega arith)

  taken_is : t ≡ cond (ltb names room) names room → (t ≤ names) × (t ≤ room) × (0 < names → 0 < room → 0 < t)
  taken_is e = taken-by (ltb names room) refl e

-- ---- no run

run_none : (sets : ℕ) (names : Names) (place : ℕ) (x : Run) → x.start ≡ sets → x.end ≡ sets → place < sets
    → ((q : ℕ) → place ≤ q → q < sets → HasPlace sets names q → ⊥) → NextRun sets names place x
run_none sets names place x s e h none = record {
  from = omega arith;
  upward = omega arith;
  onward = omega arith;
  within = omega arith;
  filled = λ a. absurd (omega arith);
  passed = λ q a b. none q a (omega arith);
  inside = λ q a b. absurd (omega arith);
}

-- ---- the next run of one range

module _ (sets : ℕ) (r : Range) (place before : ℕ) (low : before < sets) (there : (r.first + before) % sets ≡ place) (h : place < sets) where
  rounds : (r.first + before) / sets * sets + place ≡ r.first + before
  rounds = let a = div-add-mod' (r.first + before) sets in rw there at a

  -- the name at a place of the run that a name of the range starts
  at_place : (start k q : ℕ) → (r.first + k) ≡ (r.first + k) / sets * sets + start → start ≤ q → q < sets → k + (q - start) < r.count → HasPlace sets (One r) q
  unfolding named
  at_place start k q e a b c = record {
    name = r.first + (k + (q - start));
    is_named = in_between r _ (omega arith) (omega arith);
    is_there = rest_is sets ((r.first + k) / sets) _ q (omega arith) b;
  }

  pub run-here : (t : ℕ) → t ≡ cond (ltb (r.count - before) (sets - place)) (r.count - before) (sets - place) → before < r.count
      → NextRun sets (One r) place (record { start = place; end = place + t })
  run-here t e c =
      let a = taken_is (sets - place) (r.count - before) t e in
      record {
        from = omega arith;
        upward = omega arith;
        onward = let z = a.2 (omega arith) (omega arith) in omega arith;
        within = omega (arith, a.1);
        filled = λ x. let z = a.2 (omega arith) (omega arith) in omega arith;
        passed = λ q x y z. omega arith;
        inside = λ q x y. at_place place before q (sym rounds) x (omega (arith, a.1)) (omega (arith, a.0));
      }

  -- where the range is over, no place of it comes before its first name's
  over : r.count ≤ before → (q : ℕ) → place ≤ q → q < place + (sets - before) → HasPlace sets (One r) q → ⊥
  unfolding named
  over c q a b f =
      let x = in-least r f.name f.is_named in
      let y = in-most r f.name f.is_named in
      let w = div-add-mod' f.name sets in
      let w' : f.name / sets * sets + q ≡ f.name = rw f.is_there at w in
      let z = round-less sets (f.name / sets) ((r.first + before) / sets) (omega (arith, rounds)) in
      absurd (omega (arith, rounds))

  -- a place of the range has as many names of it before
  pub reached : HasPlace sets (One r) place → before < r.count
  reached f = go (ltb before r.count) refl
    where
      go : (t : Bool) → ltb before r.count ≡ t → before < r.count
      go true t = ltb-true _ _ t
      go false t = absurd (over (ltb-false _ _ t) place (omega arith) (omega arith) f)

  module _ (c : r.count ≤ before) where
    -- the range comes, from its first name on
    module _ (start : ℕ) (s : start ≡ place + (sets - before)) (b : place < before) where
      at_first : (q : ℕ) → start ≤ q → q < sets → q - start < r.count → HasPlace sets (One r) q
      unfolding named
      at_first q x y z = record {
        name = r.first + (q - start);
        is_named = in_between r _ (omega arith) (omega arith);
        is_there = sym (add-mod_left sets (r.first + (q - start))) ∙ rest_is sets ((r.first + before) / sets) _ q (omega (arith, rounds)) y;
      }

      pub run-first : (t : ℕ) → t ≡ cond (ltb r.count (sets - start)) r.count (sets - start) → (r.count ≡ 0 → ⊥)
          → NextRun sets (One r) place (record { start = start; end = start + t })
      run-first t e n =
          let a = taken_is (sets - start) r.count t e in
          let z = a.2 (omega arith) (omega arith) in
          record {
            from = omega arith;
            upward = omega arith;
            onward = omega arith;
            within = omega (arith, a.1);
            filled = λ x. omega arith;
            passed = λ q x y. over c q x (omega arith);
            inside = λ q x y. at_first q x (omega (arith, a.1)) (omega (arith, a.0));
          }

    -- the range has gone by
    pub run-over : before ≤ place → (x : Run) → (x.start ≡ sets) × (x.end ≡ sets) → NextRun sets (One r) place x
    run-over b x e = run_none sets (One r) place x e.0 e.1 h (λ q y z. over c q y (omega arith))

-- a range with no names
pub run-nameless : (sets : ℕ) (r : Range) (place : ℕ) (x : Run) → (x.start ≡ sets) × (x.end ≡ sets) → place < sets → r.count ≡ 0 → NextRun sets (One r) place x
unfolding named
run-nameless sets r place x e h n =
    run_none sets (One r) place x e.0 e.1 h (λ q y z f. let a = in-least r f.name f.is_named in let b = in-most r f.name f.is_named in omega arith)

-- ---- two ranges, and all names

module _ (sets : ℕ) (r q : Range) (p : ℕ) where
  of_left : HasPlace sets (One r) p → HasPlace sets (Two r q) p
  unfolding named
  of_left f = record { name = f.name; is_named = or_left (in_range r f.name) _ f.is_named; is_there = f.is_there }

  of_right : HasPlace sets (One q) p → HasPlace sets (Two r q) p
  unfolding named
  of_right f = record { name = f.name; is_named = or_right (in_range r f.name) _ f.is_named; is_there = f.is_there }

  pub of_either : (A : Type 0) → (HasPlace sets (One r) p → A) → (HasPlace sets (One q) p → A) → HasPlace sets (Two r q) p → A
  unfolding named
  of_either A a b f = go (in_range r f.name) (in_range q f.name) refl refl f.is_named
    where
      go : (t u : Bool) → in_range r f.name ≡ t → in_range q f.name ≡ u → (t || u) ≡ true → A
      go true u e g z = a (record { name = f.name; is_named = e; is_there = f.is_there })
      go false true e g z = b (record { name = f.name; is_named = g; is_there = f.is_there })
      go false false e g z = clash false z refl

module _ (sets place : ℕ) (names : Names) (r q : Range) (k : names ≡ Two r q) where
  pub run-earlier : (a b x : Run) → NextRun sets (One r) place a → NextRun sets (One q) place b → x ≡ cond (leb a.start b.start) a b → NextRun sets names place x
  run-earlier a b x f g e = go (leb a.start b.start) refl e
    where
      go : (t : Bool) → leb a.start b.start ≡ t → x ≡ cond t a b → NextRun sets names place x
      go true t e = let z = leb-true a.start b.start t in rw (k, e) (record {
        from = f.from;
        upward = f.upward;
        onward = f.onward;
        within = f.within;
        filled = f.filled;
        passed = λ p y w. of_either sets r q p ⊥ (f.passed p y w) (g.passed p y (omega arith));
        inside = λ p y w. of_left sets r q p (f.inside p y w);
      })
      go false t e = let z = leb-false a.start b.start t in rw (k, e) (record {
        from = g.from;
        upward = g.upward;
        onward = g.onward;
        within = g.within;
        filled = g.filled;
        passed = λ p y w. of_either sets r q p ⊥ (f.passed p y (omega arith)) (g.passed p y w);
        inside = λ p y w. of_right sets r q p (g.inside p y w);
      })

pub run-one : (sets place : ℕ) (names : Names) (r : Range) (x : Run) → names ≡ One r → NextRun sets (One r) place x → NextRun sets names place x
run-one sets place names r x k f = rw k f

pub run-all : (sets place : ℕ) (names : Names) → names ≡ All → place < sets → NextRun sets names place (record { start = place; end = sets })
unfolding named
run-all sets place names k h = rw k (record {
  from = omega arith;
  upward = omega arith;
  onward = h;
  within = omega arith;
  filled = λ a. h;
  passed = λ q a b. absurd (omega arith);
  inside = λ q a b. record { name = q; is_named = refl; is_there = mod-eq_of_lt b };
})
