-- The repair, record by record: what it keeps and what it drops, flags and counts.
use Rattle.std.specs.Prelude.{Option}
use Prim.Native.Nat.{ℕ, zero, suc, ◌+◌, ◌*◌, ◌≤◌, ◌<◌}
use mathlib.Core.Path.{◌≡◌, ◌∙◌, sym, refl, ap}
use mathlib.Core.Logic.{⊎_elim}
use mathlib.Core.Bool.{Bool, true, false, not, ◌&&◌, ◌||◌, cond}
use mathlib.Core.List.{List}
use native.Mathlib.Omega.{arith}
use borrow.Author.Count.{below_more}
use borrow.Author.Tests.{eq-eqb, eqb-true, eqb-false}
use lib.Dec.{eqb}
use lib.ListN.{length, get_or, set}
use lib.Seq.{get_or-set_same, get_or-set_other}
use Rattle.board.specs.Lists.{bit}
use Rattle.board.specs.declared.Shape.{Shape}
use Rattle.board.specs.declared.Home.{Home}
use Rattle.board.proofs.Bools.{clash, and_left, and_right, or_left, or_right}
use Rattle.lines.specs.Records.{line_at, put_line, no_line}
use Rattle.lines.specs.Holds.{holds_line, holds_at, keeps_line}
use Rattle.lines.specs.declared.Line.{Line}
use Rattle.lines.proofs.Records.{length-put, line-put-other}
use Rattle.stores.specs.Stores.{store, dropped, noted}
use Rattle.store_laws.proofs.Held.{holds-none, held_same, held-put-same, held-put-other}
use Rattle.doubles.specs.Trees.{Placed}
use Rattle.doubles.specs.Doubles.{keys_of}
use Rattle.doubles.proofs.Lists.{eq-or-not}
use Rattle.doubles.proofs.Keys.{keys-at}
use Rattle.dump_lines.specs.Lines.{held_line, astray, stale, breaks_alone}
use Rattle.dump_lines.specs.Tests.{place_key}
use Rattle.repairs.specs.Repairs.{held_below, mended, dropped_at, how_many}
use Rattle.repairs.specs.Steps.{kept_at, mended_to}

-- ---- one line

module _ (s : Shape) (records : List ℕ) (i : ℕ) (keep : Bool) (l : Line) (e : l ≡ line_at records i) (t : Bool) (h : t ≡ holds_line s i l) where
  pub mended-drop : (r₁ : List ℕ) → (t && not keep) ≡ true → r₁ ≡ put_line records i no_line → r₁ ≡ mended_to s i keep records
  unfolding mended_to holds_at
  mended-drop r₁ y q = rw (← e, ← h, y, q)

  pub mended-keep : (t && not keep) ≡ false → records ≡ mended_to s i keep records
  unfolding mended_to holds_at
  mended-keep y = rw (← e, ← h, y)

  pub mended-gone : (t && not keep) ≡ (holds_at s records i && not keep)
  unfolding holds_at
  mended-gone = rw (← e, ← h)

-- ---- lower lines

module _ (s : Shape) (records : List ℕ) (line : ℕ) where
  pub below_true : (n k : ℕ) → k < n → holds_at s records k ≡ true → (line_at records k).physical ≡ line → held_below s records line n ≡ true
  unfolding held_below keeps_line
  below_true zero k h a b = absurd (omega arith)
  below_true (suc n) k h a b = ⊎_elim
      (λ q. or_left (holds_at s records n && eqb (line_at records n).physical line) (held_below s records line n) (rw (← q, a) (eq-eqb (line_at records k).physical line b)))
      (λ q. or_right (keeps_line s records line n) (held_below s records line n) (below_true n k (omega arith) a b))
      (eq-or-not k n)

  none : (n : ℕ) (t : Bool) → t ≡ keeps_line s records line n → (t ≡ true → ⊥) → held_below s records line n ≡ false → (t || held_below s records line n) ≡ false
  none n true e f q = absurd (f refl)
  none n false e f q = q

  pub below_false : (n : ℕ) → ((k : ℕ) → k < n → holds_at s records k ≡ true → (line_at records k).physical ≡ line → ⊥) → held_below s records line n ≡ false
  unfolding held_below keeps_line
  below_false zero f = refl
  below_false (suc n) f = none n (keeps_line s records line n) refl
      (λ q. f n (omega arith) (and_left (holds_at s records n) _ q) (eqb-true _ _ (and_right (holds_at s records n) (eqb (line_at records n).physical line) q)))
      (below_false n (λ k h. f k (omega arith)))

-- ---- the walk over the places

-- the records r while the places below i are mended: the others are as they were, each kept line has its key,
-- and each key of a place below i is that of a line that is kept
pub record Mending (s : Shape) (r₀ keys r : List ℕ) (i : ℕ) : Type 0 where
  pub size : length r ≡ length r₀
  pub rest : (k : ℕ) → i ≤ k → line_at r k ≡ line_at r₀ k
  pub kept : (j : ℕ) → j < i → holds_at s r j ≡ true → (line_at r j).physical + 1 ≡ get_or keys j 0
  pub has : (j : ℕ) → j < i → (get_or keys j 0 ≡ 0 → ⊥) → (k : ℕ) × (k < i) × (holds_at s r k ≡ true) × ((line_at r k).physical + 1 ≡ get_or keys j 0)

pub mending-start : (s : Shape) (r keys : List ℕ) → Mending s r keys r 0
mending-start s r keys = record { size = refl; rest = λ k h. refl; kept = λ j h. absurd (omega arith); has = λ j h. absurd (omega arith) }

pub keys-sized : (key : ℕ → ℕ) (keys : List ℕ) (a b : ℕ) → keys ≡ keys_of key a → a ≡ b → keys ≡ keys_of key b
keys-sized key keys a b e q = rw (← q) e

-- what holds below i and at i holds below i + 1
step : (P : ℕ → Type 0) (i : ℕ) → ((j : ℕ) → j < i → P j) → P i → (j : ℕ) → j < i + 1 → P j
step P i f q j h = ⊎_elim (λ (e : j ≡ i). rw e q) (λ n. f j (omega arith)) (eq-or-not j i)

-- a key of a line that is fine
pick : (b h : Bool) (p : ℕ) → cond b 0 (cond h p 0) ≡ cond (h && not b) p 0
pick true true p = refl
pick true false p = refl
pick false true p = refl
pick false false p = refl

module _ (s : Shape) (home : ℕ → Option Home) (r₀ c m keys r : List ℕ) (n i : ℕ) (keys_are : keys ≡ keys_of (place_key true s home (store r₀ c m)) n) (size : length r₀ ≡ 2 * n) (h : i < n)
    (w : Mending s r₀ keys r i) where
  abbrev key : ℕ
  key = get_or keys i 0

  abbrev held : Bool
  held = holds_at s r i

  abbrev broken : Bool
  broken = breaks_alone s home (store r c m) i

  key-is : key ≡ cond (held && not broken) ((line_at r i).physical + 1) 0
  unfolding place_key held_line breaks_alone astray stale holds_at
  key-is =
      ap (λ (l : List ℕ). get_or l i 0) keys_are ∙ keys-at (place_key true s home (store r₀ c m)) n i h
      ∙ rw (← w.rest i (omega arith)) (pick broken held ((line_at r i).physical + 1))

  -- nothing is held at i, or it is kept: the records stay
  stays : (held ≡ true → (line_at r i).physical + 1 ≡ key) → ((key ≡ 0 → ⊥) → held ≡ true) → Mending s r₀ keys r (i + 1)
  stays a b = record {
    size = w.size;
    rest = λ k g. w.rest k (omega arith);
    kept = step (λ (j : ℕ). holds_at s r j ≡ true → (line_at r j).physical + 1 ≡ get_or keys j 0) i w.kept a;
    has = step (λ (j : ℕ). (get_or keys j 0 ≡ 0 → ⊥) → (k : ℕ) × (k < i + 1) × (holds_at s r k ≡ true) × ((line_at r k).physical + 1 ≡ get_or keys j 0)) i
        (λ j g z. let q = w.has j g z in (q.0, omega (arith, q.1), q.2, q.3))
        (λ z. (i, omega arith, b z, a (b z)));
  }

  -- the line is dropped
  drops : ((key ≡ 0 → ⊥) → (k : ℕ) × (k < i) × (holds_at s r k ≡ true) × ((line_at r k).physical + 1 ≡ key)) → Mending s r₀ keys (put_line r i no_line) (i + 1)
  drops b = record {
    size = length-put r i no_line ∙ w.size;
    rest = λ k g. line-put-other r i no_line k (λ e. omega arith) ∙ w.rest k (omega arith);
    kept = step (λ (j : ℕ). holds_at s (put_line r i no_line) j ≡ true → (line_at (put_line r i no_line) j).physical + 1 ≡ get_or keys j 0) i
        (λ j g z. rw (line-put-other r i no_line j (λ e. omega arith)) (w.kept j g (sym (held-put-other s r i no_line j (λ e. omega arith)) ∙ z)))
        (λ z. clash _ z (held-put-same s r i no_line (omega (arith, w.size)) ∙ holds-none s i));
    has = step (λ (j : ℕ). (get_or keys j 0 ≡ 0 → ⊥) → (k : ℕ) × (k < i + 1) × (holds_at s (put_line r i no_line) k ≡ true) × ((line_at (put_line r i no_line) k).physical + 1 ≡ get_or keys j 0)) i
        (λ j g z. moved j (w.has j g z)) (λ z. moved i (b z));
  }
    where
      moved : (j : ℕ) → (k : ℕ) × (k < i) × (holds_at s r k ≡ true) × ((line_at r k).physical + 1 ≡ get_or keys j 0)
          → (k : ℕ) × (k < i + 1) × (holds_at s (put_line r i no_line) k ≡ true) × ((line_at (put_line r i no_line) k).physical + 1 ≡ get_or keys j 0)
      moved j q =
          let lt : q.0 < i = q.1 in
          (q.0, omega arith, held-put-other s r i no_line q.0 (λ e. omega arith) ∙ q.2, rw (line-put-other r i no_line q.0 (λ e. omega arith)) q.3)

  module _ (before after : List ℕ) (at : ℕ) (p : Placed keys before after i at) where
    -- a lower line that is kept has the same key
    lower-kept : (key ≡ 0 → ⊥) → eqb at i ≡ false → (k : ℕ) × (k < i) × (holds_at s r k ≡ true) × ((line_at r k).physical + 1 ≡ key)
    lower-kept z e =
        let lt : at < i = omega (arith, eqb-false at i e, p.at_most) in
        let q = w.has at lt (λ y. z (sym (p.lower lt).0 ∙ y)) in (q.0, q.1, q.2, q.3 ∙ (p.lower lt).0)

    -- no lower line that is kept has it
    none_kept : (key ≡ 0 → ⊥) → eqb at i ≡ true → (line_at r i).physical + 1 ≡ key → held_below s r (line_at r i).physical i ≡ false
    none_kept z e q = below_false s r (line_at r i).physical i (λ k g a b.
        z (p.first (eqb-true at i e) k g (sym (w.kept k g a) ∙ ap (λ (x : ℕ). x + 1) b ∙ q)))

    abbrev Done : List ℕ → Type 0
    Done r₁ = Mending s r₀ keys r₁ (i + 1) × (store r₁ c m ≡ mended s home i (store r c m))

    by : (t u v y : Bool) → held ≡ t → broken ≡ u → eqb key 0 ≡ v → eqb at i ≡ y
        → Done (cond (t && not (not v && y)) (put_line r i no_line) r)
    unfolding mended dropped noted
    by false u v y a b d e =
        let z : key ≡ 0 = key-is ∙ rw a in
        (stays (λ x. clash _ x a) (λ x. absurd (x z)), rw a)
    by true true v y a b d e =
        let z : key ≡ 0 = key-is ∙ rw (a, b) in
        let k : v ≡ true = sym d ∙ eq-eqb key 0 z in
        rw k (drops (λ x. absurd (x z)), rw (a, b))
    by true false true y a b d e =
        let k : key ≡ (line_at r i).physical + 1 = key-is ∙ rw (a, b) in
        absurd (let z = eqb-true key 0 d in omega arith)
    by true false false true a b d e =
        let k : key ≡ (line_at r i).physical + 1 = key-is ∙ rw (a, b) in
        let z = eqb-false key 0 d in
        (stays (λ x. sym k) (λ x. a), rw (a, b, none_kept z e (sym k)))
    by true false false false a b d e =
        let k : key ≡ (line_at r i).physical + 1 = key-is ∙ rw (a, b) in
        let z = eqb-false key 0 d in
        let q = lower-kept z e in
        let same : (line_at r q.0).physical ≡ (line_at r i).physical = omega (arith, q.3) in
        (drops (λ x. q), rw (a, b, below_true s r (line_at r i).physical i q.0 q.1 q.2 same))

    pub mending-more : (r₁ : List ℕ) (keep : Bool) → keep ≡ kept_at key at i → r₁ ≡ mended_to s i keep r → Done r₁
    unfolding mended_to
    mending-more r₁ keep e q = rw (q, e) (by held broken (eqb key 0) (eqb at i) refl refl refl refl)

-- ---- flags and counts

pub how-many-same : (test other : ℕ → Bool) (n : ℕ) → ((k : ℕ) → k < n → other k ≡ test k) → how_many other n ≡ how_many test n
unfolding how_many
how-many-same test other zero e = refl
how-many-same test other (suc n) e = rw (e n (omega arith), how-many-same test other n (λ k h. e k (omega arith)))

pub how-many-none : (test : ℕ → Bool) → how_many test 0 ≡ 0
unfolding how_many
how-many-none test = refl

pub how-many-most : (test : ℕ → Bool) (n : ℕ) → how_many test n ≤ n
unfolding how_many
how-many-most test zero = omega arith
how-many-most test (suc n) = go (test n) (how-many-most test n)
  where
    go : (t : Bool) → how_many test n ≤ n → how_many test n + bit t ≤ suc n
    go true h = omega arith
    go false h = omega arith

-- the records r while the places below i are mended and flagged
pub record Flagged (s : Shape) (r₀ r flags : List ℕ) (i count : ℕ) : Type 0 where
  pub flags_are : (k : ℕ) → k < i → get_or flags k 0 ≡ bit (dropped_at s r₀ r k)
  pub count_is : count ≡ how_many (dropped_at s r₀ r) i

pub flagged-start : (s : Shape) (r flags : List ℕ) → Flagged s r r flags 0 0
flagged-start s r flags = record { flags_are = λ k h. absurd (omega arith); count_is = sym (how-many-none (dropped_at s r r)) }

pub flagged-low : (s : Shape) (r₀ r flags : List ℕ) (i count : ℕ) → Flagged s r₀ r flags i count → count ≤ i
flagged-low s r₀ r flags i count w = rw w.count_is (how-many-most (dropped_at s r₀ r) i)

module _ (s : Shape) (r₀ r flags : List ℕ) (i count : ℕ) (keep gone : Bool) (flag : ℕ) (w : Flagged s r₀ r flags i count) (same : line_at r i ≡ line_at r₀ i)
    (inside : 2 * i + 2 ≤ length r) (room : i < length flags) (g : gone ≡ (holds_at s r i && not keep)) (f : flag ≡ bit gone) where
  abbrev r₁ : List ℕ
  r₁ = mended_to s i keep r

  before_same : (k : ℕ) → k < i → dropped_at s r₀ r₁ k ≡ dropped_at s r₀ r k
  unfolding mended_to
  before_same k h = go (holds_at s r i && not keep)
    where
      go : (t : Bool) → dropped_at s r₀ (cond t (put_line r i no_line) r) k ≡ dropped_at s r₀ r k
      go true = rw (held-put-other s r i no_line k (λ e. omega arith))
      go false = refl

  here-gone : dropped_at s r₀ r₁ i ≡ gone
  unfolding mended_to
  here-gone = rw (held_same s r₀ i r (sym same), g) (go (holds_at s r i) keep refl)
    where
      go : (t u : Bool) → holds_at s r i ≡ t → (t && not (holds_at s (cond (t && not u) (put_line r i no_line) r) i)) ≡ (t && not u)
      go true true h = rw h
      go true false h = rw (held-put-same s r i no_line inside, holds-none s i)
      go false u h = refl

  pub flagged-more : (r₂ : List ℕ) → r₂ ≡ r₁ → Flagged s r₀ r₂ (set flags i flag) (i + 1) (count + flag)
  unfolding how_many
  flagged-more r₂ e = rw e record {
    flags_are = below_more (λ (k : ℕ). get_or (set flags i flag) k 0 ≡ bit (dropped_at s r₀ r₁ k)) i
        (λ k h. get_or-set_other flags i k flag 0 (λ q. omega arith) ∙ w.flags_are k h ∙ ap bit (sym (before_same k h)))
        (get_or-set_same flags i flag 0 room ∙ f ∙ ap bit (sym here-gone));
    count_is =
        let a : how_many (dropped_at s r₀ r₁) i ≡ count = how-many-same (dropped_at s r₀ r) (dropped_at s r₀ r₁) i before_same ∙ sym w.count_is in
        let z : i + 1 ≡ suc i = omega arith in
        rw (z, a, here-gone, f);
  }
