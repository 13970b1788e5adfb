-- The tree of places: a search goes on, a place is put in.
use Prim.Native.Nat.{ℕ, suc, ◌+◌, ◌*◌, ◌/◌, ◌≤◌, ◌<◌}
use mathlib.Core.Path.{◌≡◌, ◌∙◌, sym, refl, ap}
use mathlib.Core.Logic.{⊎_elim, ◌≢◌}
use mathlib.Core.Bool.{cond}
use lib.Dec.{eqb}
use borrow.Author.Tests.{eq-eqb, ne_eqb}
use mathlib.Core.List.{List}
use native.Mathlib.Omega.{arith}
use borrow.Author.Count.{below_more}
use lib.ListN.{length, get_or, set, length-set, get_or-eq_default, replicate}
use Rattle.std.proofs.lemmas.List.{get_or-replicate, length-replicate}
use lib.Seq.{get_or-set_same, get_or-set_other}
use Rattle.doubles.proofs.Lists.{eq-or-not, lt-or-le}
use Rattle.doubles.specs.Trees.{slot_of, Reaches, here, on, Reached, rest_after, Turned, start, turn, SameBits, Hangs, Tree, Ended, Stands, Sought, Placed}
use Rattle.doubles.proofs.Turns.{turned-depth, turned-bits}
use Rattle.doubles.specs.declared.Spot.{Spot}
use Rattle.doubles.specs.declared.Spot.TheVariants.{Taken, Open}

-- the links of one list that are not open stand in the other
abbrev pub Extends : List ℕ → List ℕ → Type 0
Extends links more = (slot : ℕ) → (get_or links slot 0 ≡ 0 → ⊥) → get_or more slot 0 ≡ get_or links slot 0

module _ (keys links : List ℕ) (key : ℕ) where
  -- a search that has not found its key goes on
  pub goes_on : (rest node : ℕ) → (get_or keys node 0 ≡ key → ⊥) → Reaches keys links key rest node → Reaches keys links key (rest / 2) (get_or links (slot_of node rest) 0)
  goes_on rest node n (here e) = absurd (n e)
  goes_on rest node n (on h r) = r

  -- it ends at an open link
  pub ends : (rest node : ℕ) → (get_or keys node 0 ≡ key → ⊥) → get_or links (slot_of node rest) 0 ≡ 0 → Reaches keys links key rest node → ⊥
  ends rest node n z (here e) = n e
  ends rest node n z (on h r) = h z

  -- more links leave what was found
  pub extends : (more : List ℕ) → Extends links more → {rest node : ℕ} → Reaches keys links key rest node → Reaches keys more key rest node
  extends more x (here e) = here e
  extends more x (on {rest} {node} h r) = on (λ z. h (sym (x (slot_of node rest) h) ∙ z)) (rw (x (slot_of node rest) h) (extends more x r))

-- a search that has come from place 0 to a node with a rest: what it finds from there, it finds
abbrev pub Comes : List ℕ → List ℕ → ℕ → ℕ → ℕ → Type 0
Comes keys links key rest node = (more : List ℕ) → Extends links more → Reaches keys more key rest node → Reaches keys more key key 0

pub comes-on : (keys links : List ℕ) (key rest node : ℕ) → (get_or links (slot_of node rest) 0 ≡ 0 → ⊥) → Comes keys links key rest node
    → Comes keys links key (rest / 2) (get_or links (slot_of node rest) 0)
comes-on keys links key rest node h from more x r =
    from more x (on (λ z. h (sym (x (slot_of node rest) h) ∙ z)) (rw (x (slot_of node rest) h) r))

-- a place put at an open link leaves the other links
pub extends-set : (links : List ℕ) (slot v : ℕ) → get_or links slot 0 ≡ 0 → Extends links (set links slot v)
extends-set links slot v z k h = get_or-set_other links slot k v 0 (λ e. h (rw e z))

-- the search for a key comes to the place just put at the link where it ended
pub comes-set : (keys links : List ℕ) (i rest node : ℕ) → 1 ≤ i → slot_of node rest < length links → get_or links (slot_of node rest) 0 ≡ 0
    → Comes keys links (get_or keys i 0) rest node → Reached keys (set links (slot_of node rest) i) i
comes-set keys links i rest node p h z from =
    let e : get_or (set links (slot_of node rest) i) (slot_of node rest) 0 ≡ i = get_or-set_same links (slot_of node rest) i 0 h in
    from (set links (slot_of node rest) i) (extends-set links (slot_of node rest) i z) (on (λ q. omega arith) (rw e (here refl)))

-- what is left of a key, turn by turn
start-rest : (key : ℕ) → key ≡ rest_after key 0
unfolding rest_after
start-rest key = refl

next-rest : (key turns rest : ℕ) → rest ≡ rest_after key turns → rest / 2 ≡ rest_after key (suc turns)
unfolding rest_after
next-rest key turns rest e = ap (λ (r : ℕ). r / 2) e

-- the search for the key of place i: where it stands
pub record At (keys links : List ℕ) (i key node rest : ℕ) : Type 0 where
  pub its_key : key ≡ get_or keys i 0
  pub below : node < i
  pub falls : Reaches keys links key key 0 → Reaches keys links key rest node
  pub comes : Comes keys links key rest node
  pub turns : ℕ
  pub turned : Turned keys links key turns node
  pub rest_is : rest ≡ rest_after key turns

module _ (keys links : List ℕ) (i key node rest : ℕ) (at : At keys links i key node rest) where
  pub sought-taken : get_or keys node 0 ≡ key → Sought keys links i (Taken node)
  unfolding Sought
  sought-taken e = (at.below, e ∙ at.its_key, record { turns = at.turns; turned = rw at.its_key at at.turned })

  module _ (n : get_or keys node 0 ≡ key → ⊥) (tree : Tree keys links i) (room : 2 * length keys ≤ length links) (h : i < length keys) (pos : 1 ≤ i) where
    pub sought-open : get_or links (slot_of node rest) 0 ≡ 0 → Sought keys links i (Open (slot_of node rest))
    unfolding Sought
    sought-open z = (
      omega (arith, at.below),
      z,
      (λ r. ends keys links key rest node n z (at.falls (rw at.its_key r))),
      comes-set keys links i rest node pos (omega (arith, at.below)) z (rw at.its_key at at.comes),
      record { turns = at.turns; node = node; turned = rw at.its_key at at.turned; slot_is = rw (at.rest_is, at.its_key) },
    )

    pub at_on : (get_or links (slot_of node rest) 0 ≡ 0 → ⊥) → At keys links i key (get_or links (slot_of node rest) 0) (rest / 2)
    at_on z = record {
      its_key = at.its_key;
      below = (tree.rising (slot_of node rest) z).1;
      falls = λ r. goes_on keys links key rest node n (at.falls r);
      comes = comes-on keys links key rest node z at.comes;
      turns = suc at.turns;
      turned = rw at.rest_is (turn at.turned n (rw at.rest_is at z));
      rest_is = next-rest key at.turns rest at.rest_is;
    }

    pub at_less : (get_or links (slot_of node rest) 0 ≡ 0 → ⊥) → node < get_or links (slot_of node rest) 0
    at_less z = omega (arith, (tree.rising (slot_of node rest) z).0)

pub at-start : (keys links : List ℕ) (i : ℕ) → 1 ≤ i → At keys links i (get_or keys i 0) 0 (get_or keys i 0)
at-start keys links i pos = record { its_key = refl; below = omega arith; falls = λ r. r; comes = λ more x r. r; turns = 0; turned = start; rest_is = start-rest (get_or keys i 0) }

-- links that are all open are an empty tree
pub tree-empty : (keys links : List ℕ) (n : ℕ) → links ≡ replicate n 0 → Tree keys links 0
tree-empty keys links n e = record {
  rising = λ slot h. absurd (h (bare slot));
  complete = λ g h. absurd (omega arith);
  depth = λ g. 0;
  root = refl;
  hangs = λ slot h. absurd (h (bare slot));
}
  where
    bare : (k : ℕ) → get_or links k 0 ≡ 0
    bare k = rw e (⊎_elim
        (λ l. get_or-replicate n k 0 0 l)
        (λ l. get_or-eq_default (replicate n 0) 0 (rw (length-replicate {A = ℕ} n 0) l))
        (lt-or-le k n))

module _ (keys links : List ℕ) (i : ℕ) (tree : Tree keys links i) where
  -- one more place that the search finds, over more links; `depth` says how deep each place hangs then
  grow : (more : List ℕ) → Extends links more → ((slot : ℕ) → get_or more slot 0 ≢ 0 → (slot / 2 < get_or more slot 0) × (get_or more slot 0 < i + 1))
      → (get_or keys i 0 ≢ 0 → Reached keys more i) → (depth : ℕ → ℕ) → depth 0 ≡ 0 → ((slot : ℕ) → get_or more slot 0 ≢ 0 → Hangs keys depth slot (get_or more slot 0))
      → Tree keys more (i + 1)
  grow more x up last depth root hangs = record {
    rising = up;
    complete = below_more (λ (g : ℕ). get_or keys g 0 ≢ 0 → Reached keys more g) i
        (λ g h n. extends keys links (get_or keys g 0) more x (tree.complete g h n)) last;
    depth = depth;
    root = root;
    hangs = hangs;
  }

  same : (get_or keys i 0 ≢ 0 → Reached keys links i) → Tree keys links (i + 1)
  same last =
      grow links (λ slot h. refl) (λ slot h. let u = tree.rising slot h in (u.0, omega (arith, u.1))) last tree.depth tree.root tree.hangs

  -- place 0 is where every search starts
  pub placed-root : i ≡ 0 → Placed keys links links i 0
  placed-root z = record {
    same_length = refl;
    grown = same (λ n. here {node = 0} (rw z));
    at_most = omega arith;
    lower = λ h. absurd (omega arith);
    first = λ e g h. absurd (omega arith);
  }

  pub placed-none : get_or keys i 0 ≡ 0 → Placed keys links links i i
  placed-none z = record {
    same_length = refl;
    grown = same (λ n. absurd (n z));
    at_most = omega arith;
    lower = λ h. absurd (omega arith);
    first = λ e g h q. z;
  }

  pub placed-taken : (spot : Spot) (node : ℕ) → (get_or keys i 0 ≡ 0 → ⊥) → Sought keys links i spot → spot ≡ Taken node → Placed keys links links i node
  unfolding Sought
  placed-taken spot node n s e =
      let t : (node < i) × (get_or keys node 0 ≡ get_or keys i 0) × Stands keys links (get_or keys i 0) node = rw e at s in
      record {
        same_length = refl;
        grown = same (λ m. rw t.1 at (tree.complete node t.0 (λ z. n (sym t.1 ∙ z))));
        at_most = omega (arith, t.0);
        lower = λ h. (t.1, n);
        first = λ q. absurd (omega (arith, t.0));
      }

  -- place i hung at an open link: how deep the places hang then
  module _ (slot : ℕ) (low : slot < 2 * i) (bare : get_or links slot 0 ≡ 0) (room : 2 * i < length links) (pos : 1 ≤ i) (e : Ended keys links (get_or keys i 0) slot) where
    abbrev more : List ℕ
    more = set links slot i

    abbrev deep : ℕ → ℕ
    deep g = cond (eqb g i) (suc (tree.depth (slot / 2))) (tree.depth g)

    deep-old : (g : ℕ) → g ≢ i → deep g ≡ tree.depth g
    deep-old g n = rw (ne_eqb g i n)

    deep-new : deep i ≡ suc (tree.depth (slot / 2))
    deep-new = rw (eq-eqb i i refl)

    old-link : (k : ℕ) → k ≢ slot → get_or more k 0 ≡ get_or links k 0
    old-link k q = get_or-set_other links slot k i 0 q

    new-link : get_or more slot 0 ≡ i
    new-link = get_or-set_same links slot i 0 (omega arith)

    rises : (k : ℕ) → get_or more k 0 ≢ 0 → (k / 2 < get_or more k 0) × (get_or more k 0 < i + 1)
    rises k h = ⊎_elim
        (λ (q : k ≡ slot). let v : get_or more k 0 ≡ i = rw q new-link in (omega arith, omega arith))
        (λ q. let v = old-link k q in let u = tree.rising k (λ z. h (v ∙ z)) in (omega (arith, u.0), omega (arith, u.1)))
        (eq-or-not k slot)

    hangs-new : Hangs keys deep slot i
    hangs-new =
        let half : slot / 2 ≡ e.node = omega (arith, e.slot_is) in
        let d : tree.depth e.node ≡ e.turns = turned-depth tree e.turned in
        let b : SameBits e.turns (get_or keys e.node 0) (get_or keys i 0) = turned-bits tree e.turned in
        let old : deep (slot / 2) ≡ tree.depth (slot / 2) = deep-old (slot / 2) (λ q. omega arith) in
        let turns : deep (slot / 2) ≡ e.turns = old ∙ rw half d in
        record {
          deeper = deep-new ∙ ap suc (sym old);
          same_bits = λ k h. rw half (sym (b k (omega arith)));
          own_bit = rw turns (omega (arith, e.slot_is));
        }

    hangs-old : (k : ℕ) → k ≢ slot → get_or links k 0 ≢ 0 → Hangs keys deep k (get_or links k 0)
    hangs-old k q h =
        let u = tree.rising k h in
        let w = tree.hangs k h in
        let a : deep (k / 2) ≡ tree.depth (k / 2) = deep-old (k / 2) (λ z. omega (arith, u.0, u.1)) in
        let b : deep (get_or links k 0) ≡ tree.depth (get_or links k 0) = deep-old (get_or links k 0) (λ z. omega (arith, u.1)) in
        record { deeper = b ∙ w.deeper ∙ ap suc (sym a); same_bits = rw a w.same_bits; own_bit = rw a w.own_bit }

    hung : Reached keys more i → Tree keys more (i + 1)
    hung found =
        grow more (extends-set links slot i bare) rises (λ m. found) deep (deep-old 0 (λ q. omega arith) ∙ tree.root)
        (λ k h. ⊎_elim (λ (q : k ≡ slot). rw (q, new-link) hangs-new) (λ q. let v = old-link k q in rw v (hangs-old k q (λ z. h (v ∙ z)))) (eq-or-not k slot))

  pub placed-open : (spot : Spot) (slot : ℕ) → get_or keys i 0 ≢ 0 → 1 ≤ i → 2 * i < length links → Sought keys links i spot → spot ≡ Open slot
      → Placed keys links (set links slot i) i i
  unfolding Sought
  placed-open spot slot n pos room s e =
      let t : (slot < 2 * i) × (get_or links slot 0 ≡ 0) × (Reached keys links i → ⊥) × Reached keys (set links slot i) i × Ended keys links (get_or keys i 0) slot = rw e at s in
      record {
        same_length = length-set links slot i;
        grown = hung slot t.0 t.1 room pos t.4 t.3;
        at_most = omega arith;
        lower = λ h. absurd (omega arith);
        first = λ q g h same_key. ⊎_elim (λ z. z) (λ m. absurd (t.2 (rw same_key at (tree.complete g h (λ z. m (sym same_key ∙ z)))))) (eq-or-not (get_or keys i 0) 0);
      }

pub open-inside : (keys links : List ℕ) (i : ℕ) (spot : Spot) (slot : ℕ) → Sought keys links i spot → spot ≡ Open slot → slot < 2 * i
unfolding Sought
open-inside keys links i spot slot s e =
    let t : (slot < 2 * i) × (get_or links slot 0 ≡ 0) × (Reached keys links i → ⊥) × Reached keys (set links slot i) i × Ended keys links (get_or keys i 0) slot = rw e at s in t.0
