-- What the matrices are after a run: call by call every matrix tells the order of the last uses in its set where they were in the run (the matrix laws of `sets`),
-- and no two records were used by one call. So the victim of a full set is the line whose last use is oldest, once each was used; and from a fresh board
-- every record that holds a line has been used.
use Rattle.std.specs.Prelude.{Option, Some, None}
use Prim.Native.Nat.{ℕ, suc, ◌+◌, ◌*◌, ◌/◌, ◌%◌, ◌≤◌, ◌<◌}
use mathlib.Core.Logic.{◌≢◌}
use mathlib.Core.Path.{◌≡◌, ◌∙◌, refl, sym}
use mathlib.Core.Bool.{Bool, true, false, cond}
use mathlib.Core.List.{List, [], ◌∷◌}
use native.Mathlib.Omega.{arith}
use lib.Dec.{eqb, ltb}
use lib.ListN.{length, set, length-set}
use lib.Seq.{get_or-set_same, get_or-set_other}
use borrow.Author.Tests.{eqb-true, eqb-false, eq-eqb, ne_eqb, le-ltb}
use Rattle.board.specs.Shapes.{set_lines}
use Rattle.board.specs.declared.Shape.{Shape}
use Rattle.board.proofs.Bools.{cond_both}
use Rattle.board.proofs.Tables.{every_below, every-below}
use Rattle.sets.specs.Matrices.{Matrix, row_of, entry_at, Square, fresh_matrix, used, fewest}
use Rattle.sets.proofs.Orders.{Since, Ordered, used_at, used-since, all_used, oldest}
use Rattle.lines.specs.Holds.{place_of, set_at, holds_at}
use Rattle.lines.specs.Victims.{Uses, matrix_of, used_in}
use Rattle.lines.proofs.Sets.{victim-set}
use Rattle.machine.specs.Boards.{Board, Fresh}
use Rattle.promises.specs.Runs.{Call, step, after, ran}
use Rattle.promises.proofs.Soundness.{fresh-empty}
use Rattle.set_promises.specs.LastUses.{used_by, is_record, last_from, last_use, Squares, MatricesTell, victim_now, VictimIsOldest, OldestOnceUsed}
use Rattle.set_promises.specs.Uses.{used_if}
use Rattle.set_promises.proofs.Uses.{uses-told}
use Rattle.set_promises.proofs.Held.{kept-held, used-in}
use Rattle.set_promises.proofs.Victims.{full-victim}

-- ---- the order of the last uses of a set

-- it is told by the last uses of its four lines
since-same : (start : Matrix) (last other : ℕ → ℕ) (m : Matrix) → ((a : ℕ) → a < 4 → other a ≡ last a) → Since start last m → Since start other m
since-same start last other m e x = record { square = x.square; entries = λ a b h k. rw (e a h, e b k) (x.entries a b h k) }

-- a matrix is four rows of four, computed
pub square-is : (m : Matrix) → length m ≡ 4 → every_below 4 (λ a. eqb (length (row_of m a)) 4) ≡ true → Square m
square-is m e h = record { rows = e; columns = λ a k. eqb-true _ 4 (every-below 4 (λ (b : ℕ). eqb (length (row_of m b)) 4) h a k) }

-- a fresh matrix is all 0, so uses make it tell their order
fresh-entry : (a b : ℕ) → a < 4 → b < 4 → entry_at fresh_matrix a b ≡ 0
unfolding every_below
fresh-entry a b h k =
    eqb-true _ 0 (every-below 4 (λ (n : ℕ). eqb (entry_at fresh_matrix a n) 0) (every-below 4 (λ (n : ℕ). every_below 4 (λ (m : ℕ). eqb (entry_at fresh_matrix n m) 0)) refl a h) b k)

fresh-since : (last : ℕ → ℕ) (m : Matrix) → Since fresh_matrix last m → Ordered last m
fresh-since last m x a b h k = x.entries a b h k ∙ rw (fresh-entry a b h k) (go (eqb (last a + last b) 0) refl)
  where
    go : (t : Bool) → eqb (last a + last b) 0 ≡ t → ◌≡◌ {A = ℕ} (cond t 0 (cond (ltb (last b) (last a)) 1 0)) (cond (ltb (last b) (last a)) 1 0)
    go true e = let z = eqb-true (last a + last b) 0 e in rw (le-ltb (last b) (last a) (omega arith))
    go false e = refl

-- ---- the run

-- what the last uses are on a board after n calls, from these matrices: every matrix tells their order, none is later than call n, no call used two records, and a
-- record that was used has a matrix
record Lasts (s : Shape) (start : Uses) (b : Board) (n : ℕ) (last : ℕ → ℕ) : Type 0 where
  size : length b.uses ≡ length start
  since : (place : ℕ) → place < length start → Since (matrix_of start place) (λ a. last (place * 4 + a)) (matrix_of b.uses place)
  until : (i : ℕ) → last i ≤ n
  apart : (i j : ℕ) → i ≢ j → 0 < last i → last i ≢ last j
  inside : (i : ℕ) → 0 < last i → set_at s i < length start

-- after a use of record r: the last uses of its set, line by line, and of another set
module _ (r t : ℕ) (last : ℕ → ℕ) where
  used-own : (place a : ℕ) → place ≡ r / 4 → a < 4 → used_at r t last (place * 4 + a) ≡ used_at (r % 4) t (λ b. last (place * 4 + b)) a
  unfolding used_at
  used-own place a e h = go (eqb a (r % 4)) refl
    where
      go : (u : Bool) → eqb a (r % 4) ≡ u → cond (eqb (place * 4 + a) r) t (last (place * 4 + a)) ≡ cond u t (last (place * 4 + a))
      go true q = let z = eqb-true a (r % 4) q in rw (eq-eqb (place * 4 + a) r (omega arith))
      go false q = let z = eqb-false a (r % 4) q in rw (ne_eqb (place * 4 + a) r (λ y. z (omega arith)))

  used-else : (place a : ℕ) → place ≢ r / 4 → a < 4 → used_at r t last (place * 4 + a) ≡ last (place * 4 + a)
  unfolding used_at
  used-else place a e h = rw (ne_eqb (place * 4 + a) r (λ y. e (omega arith)))

-- the use of record r: its matrix is used, and the others stay
used-four : (s : Shape) (uses : Uses) (r : ℕ) → s.ways ≡ set_lines → used_in s uses r ≡ set uses (r / 4) (used (matrix_of uses (r / 4)) (r % 4))
unfolding used_in
used-four s uses r four = rw four

module _ (s : Shape) (start : Uses) (b : Board) (n : ℕ) (last : ℕ → ℕ) (x : Lasts s start b n last) where
  -- after a use of record r by the next call
  module _ (r : ℕ) (low : r / 4 < length start) where
    abbrev next : Uses
    next = set b.uses (r / 4) (used (matrix_of b.uses (r / 4)) (r % 4))

    next-since : (place : ℕ) → place < length start → Since (matrix_of start place) (λ a. used_at r (suc n) last (place * 4 + a)) (matrix_of next place)
    next-since place h = go (eqb place (r / 4)) refl
      where
        go : (u : Bool) → eqb place (r / 4) ≡ u → Since (matrix_of start place) (λ a. used_at r (suc n) last (place * 4 + a)) (matrix_of next place)
        go true e =
            let q : place ≡ r / 4 = eqb-true place (r / 4) e in
            rw (q, get_or-set_same b.uses (r / 4) (used (matrix_of b.uses (r / 4)) (r % 4)) [] (rw x.size low))
            (since-same (matrix_of start (r / 4)) (used_at (r % 4) (suc n) (λ a. last (r / 4 * 4 + a))) _ _ (λ a k. used-own r (suc n) last (r / 4) a refl k)
            (used-since (matrix_of start (r / 4)) (λ a. last (r / 4 * 4 + a)) (matrix_of b.uses (r / 4)) (x.since (r / 4) low) (r % 4) (suc n) (omega arith)
            (λ a k. omega (arith, x.until (r / 4 * 4 + a)))))
        go false e =
            let q = eqb-false place (r / 4) e in
            rw (get_or-set_other b.uses (r / 4) place (used (matrix_of b.uses (r / 4)) (r % 4)) [] q)
            (since-same (matrix_of start place) (λ a. last (place * 4 + a)) _ _ (λ a k. used-else r (suc n) last place a q k) (x.since place h))

    next-until : (i : ℕ) → used_at r (suc n) last i ≤ suc n
    unfolding used_at
    next-until i = cond_both (λ (l : ℕ). l ≤ suc n) (eqb i r) _ _ (omega arith) (omega (arith, x.until i))

    next-apart : (i j : ℕ) → i ≢ j → 0 < used_at r (suc n) last i → used_at r (suc n) last i ≢ used_at r (suc n) last j
    unfolding used_at
    next-apart i j d p = go (eqb i r) (eqb j r) refl refl p
      where
        go : (u v : Bool) → eqb i r ≡ u → eqb j r ≡ v → 0 < cond u (suc n) (last i) → cond u (suc n) (last i) ≢ cond v (suc n) (last j)
        go true true e f p = absurd (d (omega (arith, eqb-true i r e, eqb-true j r f)))
        go true false e f p = omega (arith, x.until j)
        go false true e f p = omega (arith, x.until i)
        go false false e f p = x.apart i j d p

    next-inside : set_at s r < length start → (i : ℕ) → 0 < used_at r (suc n) last i → set_at s i < length start
    unfolding used_at
    next-inside own i p = go (eqb i r) refl p
      where
        go : (t : Bool) → eqb i r ≡ t → 0 < cond t (suc n) (last i) → set_at s i < length start
        go true e p = let q : i ≡ r = eqb-true i r e in rw q own
        go false e p = x.inside i p

  -- after any call: c is the board after it, f the record that it uses
  module _ (four : s.ways ≡ set_lines) (c : Board) where
    next-lasts : (f : Option ℕ) → c.uses ≡ used_if s b.uses f → ((i : ℕ) → f ≡ Some i → set_at s i < length b.uses)
        → Lasts s start c (suc n) (λ i. cond (is_record i f) (suc n) (last i))
    unfolding used_if is_record used_at
    next-lasts None u own = record {
      size = rw u x.size;
      since = rw u x.since;
      until = λ i. omega (arith, x.until i);
      apart = x.apart;
      inside = x.inside;
    }
    next-lasts (Some r) u own =
        let there : set_at s r < length start = rw x.size at (own r refl) in
        let low : r / 4 < length start = rw four at there in
        record {
          size = rw (u, used-four s b.uses r four) (length-set b.uses (r / 4) (used (matrix_of b.uses (r / 4)) (r % 4)) ∙ x.size);
          since = rw (u, used-four s b.uses r four) (next-since r low);
          until = next-until r low;
          apart = next-apart r low;
          inside = next-inside r low there;
        }

module _ (s : Shape) (four : s.ways ≡ set_lines) where
  start-lasts : (b : Board) → Squares b → Lasts s b.uses b 0 (λ i. 0)
  start-lasts b x = record {
    size = refl;
    since = λ place h. record { square = x place h; entries = λ a c i j. refl };
    until = λ i. omega arith;
    apart = λ i j d p. absurd (omega arith);
    inside = λ i p. absurd (omega arith);
  }

  run-lasts : (start : Uses) (b : Board) (ks : List Call) (n : ℕ) (last : ℕ → ℕ) → Lasts s start b n last
      → (m : ℕ) × Lasts s start (after s b ks) m (λ i. last_from s b ks n i (last i))
  unfolding ran last_from
  run-lasts start b [] n last x = (n, x)
  run-lasts start b (k ∷ ks) n last x =
      run-lasts start (step s b k).after ks (suc n) _
      (next-lasts s start b n last x four (step s b k).after (used_by s b k) (uses-told.by_use s b k) (λ i u. used-in s b k i u four))

  after-lasts : (b : Board) → Squares b → (ks : List Call) → (m : ℕ) × Lasts s b.uses (after s b ks) m (last_use s b ks)
  after-lasts b x ks = run-lasts b.uses b ks 0 (λ i. 0) (start-lasts b x)

-- ---- from a fresh board

fresh-squares : (b : Board) → Fresh b → Squares b
unfolding every_below
fresh-squares b x place h = rw (x.no_use place h) (square-is fresh_matrix refl refl)

-- a record that holds a line was used
held-used : (s : Shape) (b : Board) (ks : List Call) (n : ℕ) (last : ℕ → ℕ) → ((i : ℕ) → holds_at s b.store.records i ≡ true → 0 < last i) → (i : ℕ)
    → holds_at s (after s b ks).store.records i ≡ true → 0 < last_from s b ks n i (last i)
unfolding ran last_from
held-used s b [] n last x i h = x i h
held-used s b (k ∷ ks) n last x i h =
    held-used s (step s b k).after ks (suc n) (λ j. cond (is_record j (used_by s b k)) (suc n) (last j)) (λ j g. go j g (is_record j (used_by s b k)) refl) i h
  where
    go : (j : ℕ) → holds_at s (step s b k).after.store.records j ≡ true → (t : Bool) → is_record j (used_by s b k) ≡ t → 0 < cond t (suc n) (last j)
    go j g true e = omega arith
    go j g false e = x j (kept-held s b k j e g)

pub matrices-tell : MatricesTell
matrices-tell = record {
  from_fresh = λ s b four x ks place a c h i j.
      fresh-since _ _ (rw (x.no_use place h) at ((after-lasts s four b (fresh-squares b x) ks).1.since place h)) a c i j;
  from_any = λ s b four x ks place a c h i j. ((after-lasts s four b x ks).1.since place h).entries a c i j;
}

-- ---- a full set

-- v is the record that it gives up, and each of its records was used
module _ (s : Shape) (four : s.ways ≡ set_lines) (start : Uses) (b : Board) (place v : ℕ) (given : v ≡ place * 4 + fewest (matrix_of b.uses place))
    (own : set_at s v ≡ place) (n : ℕ) (last : ℕ → ℕ) (x : Lasts s start b n last) (each : (i : ℕ) → set_at s i ≡ place → 0 < last i) where
  full-ordered : Ordered (λ a. last (place * 4 + a)) (matrix_of b.uses place)
  full-ordered = all_used _ _ _ (x.since place (rw own at (x.inside v (each v own)))) (λ a h. each (place * 4 + a) (rw four (omega arith)))

  full-later : (j : ℕ) → set_at s j ≡ place → j ≢ v → last v < last j
  full-later j e d =
      let q : j / 4 ≡ place = rw four at e in
      let z : place * 4 + j % 4 ≡ j = omega arith in
      let o = rw (← given, z) at (oldest (λ a. last (place * 4 + a)) (matrix_of b.uses place) full-ordered (j % 4) (omega arith)) in
      let a = x.apart v j (λ y. d (sym y)) (each v own) in
      omega arith

pub oldest-once-used : OldestOnceUsed
oldest-once-used s b four x ks name full each =
    let c = after s b ks in
    let g = full-victim s four c.uses c.store.records (place_of s name) full in
    let own = victim-set s c.uses c.store.records name (omega (arith, four)) in
    let r = after-lasts s four b x ks in
    record {
      in_set = own;
      was_used = each (victim_now s c name) own;
      others_later = full-later s four b.uses c (place_of s name) (victim_now s c name) g own r.0 (last_use s b ks) r.1 each;
    }

pub victim-is-oldest : VictimIsOldest
victim-is-oldest s b four x ks name full =
    oldest-once-used s b four (fresh-squares b x) ks name full
    (λ i e. held-used s b ks 0 (λ j. 0) (λ j h. absurd (fresh-empty s b x j h)) i (full i e))
