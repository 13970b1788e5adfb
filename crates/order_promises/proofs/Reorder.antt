-- Any machine in which some neighbouring turns may be swapped: a list whose turns were moved, each only past turns that it may be swapped with, gives the same
-- and ends in the same state. Nothing here knows the board.
-- The turn that the second list begins with is brought to the front of the first, then the rest is moved likewise.
use Prim.Native.Nat.{ℕ, zero, suc, pred, ◌≤◌, ◌<◌}
use mathlib.Core.Logic.{◌≢◌}
use mathlib.Core.Path.{◌≡◌, refl, sym, ap, ◌∙◌, subst}
use mathlib.Core.Bool.{Bool, true, false}
use mathlib.Core.List.{List, [], ◌∷◌}
use native.Mathlib.Omega.{arith}
use lib.Dec.{eqb, ltb}
use lib.ListN.{length, get_or, take}
use borrow.Author.Tests.{eqb-true, eqb-false, ltb-true, ltb-false}
use Rattle.promises.specs.Runs.{ran, gained}
use Rattle.order_promises.specs.Reorderings.{Rearrangement}

-- ---- a list without one of its elements, and the places of the others

abbrev remove : {A : Type 0} → ℕ → List A → List A
remove f [] = []
remove zero (x ∷ xs) = xs
remove (suc f) (x ∷ xs) = x ∷ remove f xs

-- the place in the list of the element at place i of the list without f; and back
abbrev skip : ℕ → ℕ → ℕ
skip zero i = suc i
skip (suc f) zero = zero
skip (suc f) (suc i) = suc (skip f i)

abbrev unskip : ℕ → ℕ → ℕ
unskip zero i = pred i
unskip (suc f) zero = zero
unskip (suc f) (suc i) = suc (unskip f i)

skip_below : (f i : ℕ) → i < f → skip f i ≡ i
skip_below zero i h = absurd (omega arith)
skip_below (suc f) zero h = refl
skip_below (suc f) (suc i) h = ap suc (skip_below f i (omega arith))

skip-above : (f i : ℕ) → f ≤ i → skip f i ≡ suc i
skip-above zero i h = refl
skip-above (suc f) zero h = absurd (omega arith)
skip-above (suc f) (suc i) h = ap suc (skip-above f i (omega arith))

-- what holds on both sides of f
skip-cases : (Q : ℕ → Type 0) (f i : ℕ) → (i < f → Q i) → (f ≤ i → Q (suc i)) → Q (skip f i)
skip-cases Q f i below above = go (ltb i f) refl
  where
    go : (t : Bool) → ltb i f ≡ t → Q (skip f i)
    go true t = rw (skip_below f i (ltb-true i f t)) (below (ltb-true i f t))
    go false t = rw (skip-above f i (ltb-false i f t)) (above (ltb-false i f t))

unskip-skip : (f i : ℕ) → unskip f (skip f i) ≡ i
unskip-skip zero i = refl
unskip-skip (suc f) zero = refl
unskip-skip (suc f) (suc i) = ap suc (unskip-skip f i)

skip-unskip : (f i : ℕ) → i ≢ f → skip f (unskip f i) ≡ i
skip-unskip zero zero h = absurd (h refl)
skip-unskip zero (suc i) h = refl
skip-unskip (suc f) zero h = refl
skip-unskip (suc f) (suc i) h = ap suc (skip-unskip f i (omega arith))

unskip-inside : (f i n : ℕ) → i ≢ f → i < suc n → f < suc n → unskip f i < n
unskip-inside zero zero n h a b = absurd (h refl)
unskip-inside zero (suc i) n h a b = omega arith
unskip-inside (suc f) zero n h a b = omega arith
unskip-inside (suc f) (suc i) zero h a b = omega arith
unskip-inside (suc f) (suc i) (suc n) h a b = let r = unskip-inside f i n (omega arith) (omega arith) (omega arith) in omega arith

length-remove : {A : Type 0} (f : ℕ) (xs : List A) → f < length xs → suc (length (remove f xs)) ≡ length xs
length-remove f [] h = absurd (omega arith)
length-remove zero (x ∷ xs) h = refl
length-remove (suc f) (x ∷ xs) h = ap suc (length-remove f xs (omega arith))

get_d-remove : {A : Type 0} (f : ℕ) (xs : List A) (i : ℕ) (d : A) → get_or (remove f xs) i d ≡ get_or xs (skip f i) d
get_d-remove f [] i d = refl
get_d-remove zero (x ∷ xs) i d = refl
get_d-remove (suc f) (x ∷ xs) zero d = refl
get_d-remove (suc f) (x ∷ xs) (suc i) d = get_d-remove f xs i d

-- ---- the machine

-- which turns may be swapped, by what is seen of a state, and which stay where they are
pub record Swaps {P K A O : Type 0} (step : P → K → P) (gives : P → K → A) (seen : P → O) (Cross : O → K → K → Type 0) (Stays : K → Type 0) : Type 0 where
  pub commute : (p : P) (k l : K) → Cross (seen p) k l → step (step p k) l ≡ step (step p l) k
  pub first_gets : (p : P) (k l : K) → Cross (seen p) k l → gives p k ≡ gives (step p l) k
  pub second_gets : (p : P) (k l : K) → Cross (seen p) k l → gives (step p k) l ≡ gives p l
  pub first_keeps : (p : P) (k l : K) → Cross (seen p) k l → seen (step p k) ≡ seen p
  pub second_keeps : (p : P) (k l : K) → Cross (seen p) k l → seen (step p l) ≡ seen p
  pub first_moves : (p : P) (k l : K) → Cross (seen p) k l → Stays k → ⊥
  pub second_moves : (p : P) (k l : K) → Cross (seen p) k l → Stays l → ⊥

module _ {P K A O : Type 0} (step : P → K → P) (gives : P → K → A) (seen : P → O) (Cross : O → K → K → Type 0) (Stays : K → Type 0)
    (laws : Swaps step gives seen Cross Stays) (k₀ : K) (a₀ : A) where
  abbrev at : List K → ℕ → K
  at ks i = get_or ks i k₀

  abbrev runs : P → List K → P
  runs p ks = ran step p ks

  abbrev told : P → List K → List A
  told p ks = gained step gives p ks

  -- ---- one turn is brought to the front

  -- the turn at place f may be swapped with each before it
  abbrev Free : P → List K → ℕ → Type 0
  Free p ks f = (i : ℕ) → i < f → Cross (seen (runs p (take i ks))) (at ks i) (at ks f)

  free-later : (p : P) (k : K) (ks : List K) (f : ℕ) → Free p (k ∷ ks) (suc f) → Free (step p k) ks f
  unfolding ran
  free-later p k ks f c i h = c (suc i) (omega arith)

  free-now : (p : P) (k : K) (ks : List K) (f : ℕ) → Free p (k ∷ ks) (suc f) → step (step p k) (at ks f) ≡ step (step p (at ks f)) k
  unfolding ran
  free-now p k ks f c = laws.commute p k (at ks f) (c 0 (omega arith))

  front-run : (p : P) (ks : List K) (f : ℕ) → f < length ks → Free p ks f → runs p ks ≡ runs (step p (at ks f)) (remove f ks)
  unfolding ran
  front-run p [] f h c = absurd (omega arith)
  front-run p (k ∷ ks) zero h c = refl
  front-run p (k ∷ ks) (suc f) h c =
      front-run (step p k) ks f (omega arith) (free-later p k ks f c) ∙ ap (λ (q : P). runs q (remove f ks)) (free-now p k ks f c)

  -- the states on the way, after place f and up to it
  front_above : (p : P) (ks : List K) (f i : ℕ) → f < length ks → f ≤ i → Free p ks f
      → runs p (take (suc i) ks) ≡ runs (step p (at ks f)) (take i (remove f ks))
  unfolding ran
  front_above p [] f i h g c = absurd (omega arith)
  front_above p (k ∷ ks) zero i h g c = refl
  front_above p (k ∷ ks) (suc f) zero h g c = absurd (omega arith)
  front_above p (k ∷ ks) (suc f) (suc i) h g c =
      front_above (step p k) ks f i (omega arith) (omega arith) (free-later p k ks f c) ∙ ap (λ (q : P). runs q (take i (remove f ks))) (free-now p k ks f c)

  front_below : (p : P) (ks : List K) (f i : ℕ) → f < length ks → i ≤ f → Free p ks f
      → step (runs p (take i ks)) (at ks f) ≡ runs (step p (at ks f)) (take i (remove f ks))
  unfolding ran
  front_below p [] f i h g c = absurd (omega arith)
  front_below p (k ∷ ks) f zero h g c = refl
  front_below p (k ∷ ks) zero (suc i) h g c = absurd (omega arith)
  front_below p (k ∷ ks) (suc f) (suc i) h g c =
      front_below (step p k) ks f i (omega arith) (omega arith) (free-later p k ks f c) ∙ ap (λ (q : P). runs q (take i (remove f ks))) (free-now p k ks f c)

  -- up to place f nothing is seen to change
  front-seen : (p : P) (ks : List K) (f i : ℕ) → i ≤ f → Free p ks f → seen (runs p (take i ks)) ≡ seen p
  unfolding ran
  front-seen p ks f zero g c = refl
  front-seen p [] f (suc i) g c = refl
  front-seen p (k ∷ ks) zero (suc i) g c = absurd (omega arith)
  front-seen p (k ∷ ks) (suc f) (suc i) g c =
      front-seen (step p k) ks f i (omega arith) (free-later p k ks f c) ∙ laws.first_keeps p k (at ks f) (c 0 (omega arith))

  -- what it is told, and what the others are
  front-told : (p : P) (ks : List K) (f : ℕ) → f < length ks → Free p ks f → get_or (told p ks) f a₀ ≡ gives p (at ks f)
  unfolding ran gained
  front-told p [] f h c = absurd (omega arith)
  front-told p (k ∷ ks) zero h c = refl
  front-told p (k ∷ ks) (suc f) h c =
      front-told (step p k) ks f (omega arith) (free-later p k ks f c) ∙ laws.second_gets p k (at ks f) (c 0 (omega arith))

  others-told : (p : P) (ks : List K) (f i : ℕ) → f < length ks → Free p ks f → get_or (told p ks) (skip f i) a₀ ≡ get_or (told (step p (at ks f)) (remove f ks)) i a₀
  unfolding ran gained
  others-told p [] f i h c = absurd (omega arith)
  others-told p (k ∷ ks) zero i h c = refl
  others-told p (k ∷ ks) (suc f) zero h c = laws.first_gets p k (at ks f) (c 0 (omega arith))
  others-told p (k ∷ ks) (suc f) (suc i) h c =
      others-told (step p k) ks f i (omega arith) (free-later p k ks f c) ∙ ap (λ (q : P). get_or (told q (remove f ks)) i a₀) (free-now p k ks f c)

  -- ---- a list moved

  -- a rearrangement in which two turns changed their order only if they may be swapped
  pub record Moves (p : P) (ks ls : List K) : Type 0 where
    pub places : Rearrangement ks ls
    pub crosses : (i j : ℕ) → i < j → j < length ks → places.to j < places.to i → Cross (seen (runs p (take i ks))) (at ks i) (at ks j)

  -- a turn that stands at the same place of both, before the same state
  abbrev pub Stood : P → List K → List K → (ℕ → ℕ) → ℕ → Type 0
  Stood p ks ls to i = (to i ≡ i) × (runs p (take (to i) ls) ≡ runs p (take i ks))

  -- what is the same of both
  pub record Same (p : P) (ks ls : List K) (to : ℕ → ℕ) : Type 0 where
    pub told_same : (i : ℕ) → i < length ks → get_or (told p ls) (to i) a₀ ≡ get_or (told p ks) i a₀
    pub ends_same : runs p ls ≡ runs p ks
    pub seen_same : (i : ℕ) → i < length ks → seen (runs p (take (to i) ls)) ≡ seen (runs p (take i ks))
    pub stays : (i : ℕ) → i < length ks → Stays (at ks i) → Stood p ks ls to i

  -- the first turn of ls stands at place f of ks
  module _ (p : P) (ks : List K) (l : K) (ls : List K) (m : Moves p ks (l ∷ ls)) where
    abbrev to : ℕ → ℕ
    to = m.places.to

    abbrev from : ℕ → ℕ
    from = m.places.from

    abbrev f : ℕ
    f = from 0

    abbrev rest : List K
    rest = remove f ks

    -- where the others go
    abbrev to-rest : ℕ → ℕ
    to-rest i = pred (to (skip f i))

    abbrev from-rest : ℕ → ℕ
    from-rest j = unskip f (from (suc j))

    f-inside : f < length ks
    f-inside = m.places.from_inside 0 (omega (arith, m.places.same_length))

    to-f : to f ≡ 0
    to-f = m.places.to_from 0 (omega (arith, m.places.same_length))

    f-turn : at ks f ≡ l
    f-turn = sym (m.places.same_turns f k₀ f-inside) ∙ ap (at (l ∷ ls)) to-f

    rest-length : suc (length rest) ≡ length ks
    rest-length = length-remove f ks f-inside

    -- only f goes to the front
    to-other : (i : ℕ) → i < length ks → i ≢ f → suc (pred (to i)) ≡ to i
    to-other i h d = go (to i) refl
      where
        go : (n : ℕ) → to i ≡ n → suc (pred n) ≡ n
        go zero e = absurd (d (sym (m.places.from_to i h) ∙ ap from e))
        go (suc n) e = refl

    free : Free p ks f
    free i h =
        let b = f-inside in
        let z = to-other i (omega arith) (omega arith) in
        m.crosses i f h f-inside (omega (arith, to-f))

    skip-inside : (i : ℕ) → i < length rest → skip f i < length ks
    skip-inside i h = skip-cases (λ (x : ℕ). x < length ks) f i (λ a. omega (arith, rest-length)) (λ a. omega (arith, rest-length))

    skip-other : (i : ℕ) → skip f i ≢ f
    skip-other i = skip-cases (λ (x : ℕ). x ≢ f) f i (λ a. omega arith) (λ a. omega arith)

    to-skip : (i : ℕ) → i < length rest → suc (to-rest i) ≡ to (skip f i)
    to-skip i h = to-other (skip f i) (skip-inside i h) (skip-other i)

    from-other : (j : ℕ) → j < length rest → from (suc j) ≢ f
    from-other j h e =
        let z : suc j ≡ 0 = sym (m.places.to_from (suc j) (omega (arith, rest-length))) ∙ ap to e ∙ to-f in
        omega arith

    skip-mono : (i j : ℕ) → i < j → skip f i < skip f j
    skip-mono i j h =
        skip-cases (λ (x : ℕ). x < skip f j) f i
        (λ a. skip-cases (λ (y : ℕ). i < y) f j (λ b. h) (λ b. omega arith))
        (λ a. skip-cases (λ (y : ℕ). suc i < y) f j (λ b. omega arith) (λ b. omega arith))

    -- two of the others, once f is in front
    rest-crosses : (i j : ℕ) → i < j → j < length rest → to-rest j < to-rest i
        → Cross (seen (runs (step p (at ks f)) (take i rest))) (at rest i) (at rest j)
    rest-crosses i j h b t = rw (get_d-remove f ks i k₀, get_d-remove f ks j k₀) (go (ltb i f) refl)
      where
        before : Cross (seen (runs p (take (skip f i) ks))) (at ks (skip f i)) (at ks (skip f j))
        before = m.crosses (skip f i) (skip f j) (skip-mono i j h) (skip-inside j b) (omega (arith, to-skip i (omega arith), to-skip j b))

        now : ℕ → Type 0
        now x = Cross (seen (runs p (take x ks))) (at ks (skip f i)) (at ks (skip f j))

        go : (t : Bool) → ltb i f ≡ t → Cross (seen (runs (step p (at ks f)) (take i rest))) (at ks (skip f i)) (at ks (skip f j))
        go true t =
            let low = ltb-true i f t in
            rw (← front_below p ks f i f-inside (omega arith) free, laws.second_keeps (runs p (take i ks)) (at ks i) (at ks f) (free i low)) (subst now (skip_below f i low) before)
        go false t =
            let high = ltb-false i f t in
            rw (← front_above p ks f i f-inside high free) (subst now (skip-above f i high) before)

    rest-moves : Moves (step p (at ks f)) rest ls
    rest-moves = record {
      places = record {
        to = to-rest;
        from = from-rest;
        same_length = omega (arith, m.places.same_length, rest-length);
        to_inside = λ i h. omega (arith, m.places.to_inside (skip f i) (skip-inside i h), to-skip i h, rest-length);
        from_inside = λ j h.
            unskip-inside f (from (suc j)) (length rest) (from-other j h) (rw rest-length (m.places.from_inside (suc j) (omega (arith, rest-length)))) (rw rest-length f-inside);
        from_to = λ i h. ap (λ (x : ℕ). unskip f (from x)) (to-skip i h) ∙ ap (unskip f) (m.places.from_to (skip f i) (skip-inside i h)) ∙ unskip-skip f i;
        to_from = λ j h. ap (λ (x : ℕ). pred (to x)) (skip-unskip f (from (suc j)) (from-other j h)) ∙ ap pred (m.places.to_from (suc j) (omega (arith, rest-length)));
        same_turns = λ i other h.
            ap (λ (x : ℕ). get_or (l ∷ ls) x other) (to-skip i h) ∙ m.places.same_turns (skip f i) other (skip-inside i h) ∙ sym (get_d-remove f ks i other);
      };
      crosses = rest-crosses;
    }

    -- what is the same of the rest is the same of the whole
    rest-same : Same (step p (at ks f)) rest ls to-rest → Same p ks (l ∷ ls) to
    unfolding ran gained
    rest-same r = record {
      told_same = λ i h. told_at i h (eqb i f) refl;
      ends_same = ap (λ (k : K). runs (step p k) ls) (sym f-turn) ∙ r.ends_same ∙ sym (front-run p ks f f-inside free);
      seen_same = λ i h. seen_at i h (eqb i f) refl;
      stays = λ i h x. stays_at i h x (eqb i f) refl (ltb i f) refl;
    }
      where
        index : (i : ℕ) → i < length ks → i ≢ f → unskip f i < length rest
        index i h d = unskip-inside f i (length rest) d (rw rest-length h) (rw rest-length f-inside)

        told_at : (i : ℕ) → i < length ks → (t : Bool) → eqb i f ≡ t → get_or (told p (l ∷ ls)) (to i) a₀ ≡ get_or (told p ks) i a₀
        told_at i h true t =
            let e : i ≡ f = eqb-true i f t in
            ap (λ (y : ℕ). get_or (told p (l ∷ ls)) y a₀) (ap to e ∙ to-f)
            ∙ ap (gives p) (sym f-turn)
            ∙ sym (front-told p ks f f-inside free)
            ∙ ap (λ (y : ℕ). get_or (told p ks) y a₀) (sym e)
        told_at i h false t =
            let d : i ≢ f = eqb-false i f t in
            let x = unskip f i in
            let b = index i h d in
            ap (λ (y : ℕ). get_or (told p (l ∷ ls)) (to y) a₀) (sym (skip-unskip f i d))
            ∙ ap (λ (y : ℕ). get_or (told p (l ∷ ls)) y a₀) (sym (to-skip x b))
            ∙ ap (λ (k : K). get_or (told (step p k) ls) (to-rest x) a₀) (sym f-turn)
            ∙ r.told_same x b
            ∙ sym (others-told p ks f x f-inside free)
            ∙ ap (λ (y : ℕ). get_or (told p ks) y a₀) (skip-unskip f i d)

        seen-rest : (x : ℕ) → x < length rest → seen (runs (step p (at ks f)) (take x rest)) ≡ seen (runs p (take (skip f x) ks))
        seen-rest x h = go (ltb x f) refl
          where
            go : (t : Bool) → ltb x f ≡ t → seen (runs (step p (at ks f)) (take x rest)) ≡ seen (runs p (take (skip f x) ks))
            go true t =
                let low = ltb-true x f t in
                ap seen (sym (front_below p ks f x f-inside (omega arith) free))
                ∙ laws.second_keeps (runs p (take x ks)) (at ks x) (at ks f) (free x low)
                ∙ ap (λ (y : ℕ). seen (runs p (take y ks))) (sym (skip_below f x low))
            go false t =
                let high = ltb-false x f t in
                ap seen (sym (front_above p ks f x f-inside high free)) ∙ ap (λ (y : ℕ). seen (runs p (take y ks))) (sym (skip-above f x high))

        seen_at : (i : ℕ) → i < length ks → (t : Bool) → eqb i f ≡ t → seen (runs p (take (to i) (l ∷ ls))) ≡ seen (runs p (take i ks))
        seen_at i h true t =
            let e : i ≡ f = eqb-true i f t in
            ap (λ (y : ℕ). seen (runs p (take y (l ∷ ls)))) (ap to e ∙ to-f) ∙ sym (front-seen p ks f i (omega arith) free)
        seen_at i h false t =
            let d : i ≢ f = eqb-false i f t in
            let x = unskip f i in
            let b = index i h d in
            ap (λ (y : ℕ). seen (runs p (take (to y) (l ∷ ls)))) (sym (skip-unskip f i d))
            ∙ ap (λ (y : ℕ). seen (runs p (take y (l ∷ ls)))) (sym (to-skip x b))
            ∙ ap (λ (k : K). seen (runs (step p k) (take (to-rest x) ls))) (sym f-turn)
            ∙ r.seen_same x b
            ∙ seen-rest x b
            ∙ ap (λ (y : ℕ). seen (runs p (take y ks))) (skip-unskip f i d)

        -- a turn that stays was at the front if it is now
        stays-front : (i n : ℕ) → i ≡ n → i ≡ f → Stays (at ks i) → Stood p ks (l ∷ ls) to i
        stays-front i zero z e x =
            let there : to i ≡ 0 = ap to e ∙ to-f in
            (there ∙ sym z, ap (λ (y : ℕ). runs p (take y (l ∷ ls))) there ∙ ap (λ (y : ℕ). runs p (take y ks)) (sym z))
        stays-front i (suc n) z e x = absurd (laws.second_moves p (at ks 0) (at ks f) (free 0 (omega arith)) (rw e at x))

        stays-above : (y : ℕ) → suc y < length ks → f ≤ y → Stays (at ks (suc y)) → Stood p ks (l ∷ ls) to (suc y)
        stays-above y h g x =
            let b : y < length rest = omega (arith, rest-length) in
            let e = skip-above f y g in
            let there : to (suc y) ≡ suc (to-rest y) = ap to (sym e) ∙ sym (to-skip y b) in
            let before = r.stays y b (rw (get_d-remove f ks y k₀, e) x) in (
              there ∙ ap suc before.0,
              ap (λ (n : ℕ). runs p (take n (l ∷ ls))) there
                  ∙ ap (λ (k : K). runs (step p k) (take (to-rest y) ls)) (sym f-turn)
                  ∙ before.1
                  ∙ sym (front_above p ks f y f-inside g free),
            )

        stays_at : (i : ℕ) → i < length ks → Stays (at ks i) → (t : Bool) → eqb i f ≡ t → (u : Bool) → ltb i f ≡ u → Stood p ks (l ∷ ls) to i
        stays_at i h x true t u v = stays-front i i refl (eqb-true i f t) x
        stays_at i h x false t true v = absurd (laws.first_moves (runs p (take i ks)) (at ks i) (at ks f) (free i (ltb-true i f v)) x)
        stays_at zero h x false t false v = let d = eqb-false zero f t in let g = ltb-false zero f v in absurd (omega arith)
        stays_at (suc y) h x false t false v =
            let d = eqb-false (suc y) f t in
            let g = ltb-false (suc y) f v in
            stays-above y h (omega arith) x

  pub same : (ls : List K) (p : P) (ks : List K) (m : Moves p ks ls) → Same p ks ls m.places.to
  unfolding ran gained rest-moves
  same [] p [] m = record { told_same = λ i h. absurd (omega arith); ends_same = refl; seen_same = λ i h. absurd (omega arith); stays = λ i h x. absurd (omega arith) }
  same [] p (k ∷ ks) m = absurd (omega (arith, m.places.same_length))
  same (l ∷ ls) p ks m =
      rest-same p ks l ls m
      (same ls (step p (at ks (m.places.from 0))) (remove (m.places.from 0) ks) (rest-moves p ks l ls m))

  -- ---- the same by swaps of neighbours: two in front, after the same first turn, one after another

  pub data Reached : P → List K → List K → Type 0 where
    same_list : {p : P} {ks : List K} → Reached p ks ks
    swap_front : {p : P} {k l : K} {ks : List K} → Cross (seen p) k l → Reached p (k ∷ l ∷ ks) (l ∷ k ∷ ks)
    after_first : {p : P} {k : K} {ks ls : List K} → Reached (step p k) ks ls → Reached p (k ∷ ks) (k ∷ ls)
    one_then : {p : P} {ks ls ms : List K} → Reached p ks ls → Reached p ls ms → Reached p ks ms

  front-reached : (p : P) (ks : List K) (f : ℕ) → f < length ks → Free p ks f → Reached p ks (at ks f ∷ remove f ks)
  unfolding ran
  front-reached p [] f h c = absurd (omega arith)
  front-reached p (k ∷ ks) zero h c = same_list
  front-reached p (k ∷ ks) (suc f) h c = one_then (after_first (front-reached (step p k) ks f (omega arith) (free-later p k ks f c))) (swap_front (c 0 (omega arith)))

  -- every list moved is reached
  pub reached : (ls : List K) (p : P) (ks : List K) → Moves p ks ls → Reached p ks ls
  reached [] p [] m = same_list
  reached [] p (k ∷ ks) m = absurd (omega (arith, m.places.same_length))
  reached (l ∷ ls) p ks m =
      let x = m.places.from 0 in
      rw (← f-turn p ks l ls m)
      (one_then (front-reached p ks x (f-inside p ks l ls m) (free p ks l ls m))
      (after_first (reached ls (step p (at ks x)) (remove x ks) (rest-moves p ks l ls m))))
