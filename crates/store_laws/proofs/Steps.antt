-- The steps on the store keep it standing for a flat memory: a line written back and dropped, a line filled, bytes stored, and a miss.
-- Stands on Bytes, Held and one law of a changed record.
use Rattle.std.specs.Prelude.{Option, Some, None}
use Prim.Native.Nat.{ℕ, ◌+◌, ◌*◌, ◌/◌, ◌≤◌, ◌<◌}
use mathlib.Core.Logic.{◌≢◌}
use mathlib.Core.Path.{◌≡◌, refl, sym, ◌∙◌}
use mathlib.Core.Bool.{Bool, true, false, ◌&&◌}
use mathlib.Core.List.{List}
use native.Mathlib.Omega.{arith}
use lib.Dec.{eqb}
use lib.ListN.{length, set}
use lib.Seq.{set-set, set_comm}
use borrow.Author.Tests.{eqb-true, eqb-false}
use Rattle.address.specs.Layout.{page_lines}
use Rattle.board.specs.Homes.{at_line}
use Rattle.board.specs.Lists.{splice, part}
use Rattle.board.specs.declared.Shape.{Shape}
use Rattle.board.specs.declared.Home.{Home}
use Rattle.board.proofs.Bools.{clash, cond_both}
use Rattle.board.proofs.Lists.{length-splice}
use Rattle.line_bytes.specs.Bytes.{line_of, with_line}
use Rattle.lines.specs.Records.{word_of, line_at, put_line, no_line, new_line, changed_line}
use Rattle.stores.specs.Stores.{Store, store, written_back, filled, noted, inserted, dropped}
use Rattle.lines.specs.Holds.{place_of, set_at, holds_line, holds_at, holder_of}
use Rattle.lines.specs.declared.Line.{Line}
use Rattle.line_bytes.proofs.Bytes.{length-line}
use Rattle.lines.proofs.Records.{length-put, line-put-same, line-put-other}
use Rattle.store_laws.proofs.Sim.{byte, Homes, Sim}
use Rattle.store_laws.proofs.Bytes.{splice-apart, splice-match, copied_at, copied-other}
use Rattle.store_laws.proofs.Held.{holds-none, holds-new, held_in, held-line, held-put-same, held-put-other, held_below_lem, holder-nothing}

-- ---- one record changed: what has to be shown of the others, of this one, and of the rest

-- the new line of record i, if it is held
record Own (s : Shape) (home : ℕ → Option Home) (r : List ℕ) (i : ℕ) (l : Line) (cache memory m : List ℕ) : Type 0 where
  alone : (j : ℕ) → j ≢ i → holds_at s r j ≡ true → (line_at r j).physical ≢ l.physical
  maps : home l.name ≡ Some (at_line l.physical l.write)
  clean : (k : ℕ) → l.changed ≡ false → k < 16 → byte cache i k ≡ byte memory l.physical k
  cached : (k : ℕ) → k < 16 → byte m l.physical k ≡ byte cache i k

-- byte k of another held line, whose physical line is p
record KeptByte (x : Store) (j p k : ℕ) (cache memory m m' : List ℕ) : Type 0 where
  in_cache : byte cache j k ≡ byte x.cache j k
  in_memory : byte memory p k ≡ byte x.memory p k
  in_flat : byte m' p k ≡ byte m p k

module _ {s : Shape} {home : ℕ → Option Home} {x : Store} {m : List ℕ} (sim : Sim s home x m)
    (i : ℕ) (l : Line) (cache memory m' : List ℕ) (low : i < s.lines) where
  abbrev after : List ℕ
  after = put_line x.records i l

  -- record j after the change: the new one, or the old
  data Place (j : ℕ) : Type 0 where
    here : j ≡ i → line_at after j ≡ l → holds_at s after j ≡ holds_line s i l → Place j
    other : j ≢ i → line_at after j ≡ line_at x.records j → holds_at s after j ≡ holds_at s x.records j → Place j

  place : (j : ℕ) → Place j
  place j = go (eqb j i) refl
    where
      room : 2 * i + 2 ≤ length x.records
      room = omega (arith, sim.record_count)

      go : (t : Bool) → eqb j i ≡ t → Place j
      go true t =
          let q : j ≡ i = eqb-true j i t in
          here q (rw q (line-put-same x.records i l room)) (rw q (held-put-same s x.records i l room))
      go false t =
          let n = eqb-false j i t in
          other n (line-put-other x.records i l j (λ e. n (sym e))) (held-put-other s x.records i l j n)

  module _ (same_cache : length cache ≡ length x.cache) (same_memory : length memory ≡ length x.memory) (same-flat : length m' ≡ length m)
      (kept : (j k : ℕ) → j ≢ i → holds_at s x.records j ≡ true → k < 16 → KeptByte x j (line_at x.records j).physical k cache memory m m')
      (own : holds_line s i l ≡ true → Own s home x.records i l cache memory m')
      (rest : (p k : ℕ) → ((j : ℕ) → j ≢ i → holds_at s x.records j ≡ true → (line_at x.records j).physical ≢ p)
      → (holds_line s i l ≡ true → l.physical ≢ p) → p < page_lines * s.frames → k < 16 → byte m' p k ≡ byte memory p k) where
    once' : (j k : ℕ) → Place j → Place k → holds_at s after j ≡ true → holds_at s after k ≡ true
        → (line_at after j).physical ≡ (line_at after k).physical → j ≡ k
    once' j k (here q r t) (here q' v t') a b p = omega arith
    once' j k (here q r t) (other q' v t') a b p = absurd ((own (sym t ∙ a)).alone k q' (sym t' ∙ b) (cc))
    once' j k (other q r t) (here q' v t') a b p = absurd ((own (sym t' ∙ b)).alone j q (sym t ∙ a) (cc))
    once' j k (other q r t) (other q' v t') a b p = sim.once j k (sym t ∙ a) (sym t' ∙ b) (cc)

    maps' : (j : ℕ) → Place j → holds_at s after j ≡ true → home (line_at after j).name ≡ Some (at_line (line_at after j).physical (line_at after j).write)
    maps' j (here q r t) h = rw r (own (sym t ∙ h)).maps
    maps' j (other q r t) h = rw r (sim.maps j (sym t ∙ h))

    clean' : (j k : ℕ) → Place j → holds_at s after j ≡ true → (line_at after j).changed ≡ false → k < 16 → byte cache j k ≡ byte memory (line_at after j).physical k
    clean' j k (here q r t) h d b = rw (r, q) ((own (sym t ∙ h)).clean k (rw r at d) b)
    clean' j k (other q r t) h d b =
        let o = sym t ∙ h in
        let f = kept j k q o b in
        rw r (f.in_cache ∙ sim.clean j k o (rw r at d) b ∙ sym f.in_memory)

    cached' : (j k : ℕ) → Place j → holds_at s after j ≡ true → k < 16 → byte m' (line_at after j).physical k ≡ byte cache j k
    cached' j k (here q r t) h b = rw (r, q) ((own (sym t ∙ h)).cached k b)
    cached' j k (other q r t) h b =
        let o = sym t ∙ h in
        let f = kept j k q o b in
        rw r (f.in_flat ∙ sim.cached j k o b ∙ sym f.in_cache)

    bare' : (p k : ℕ) → ((j : ℕ) → holds_at s after j ≡ true → (line_at after j).physical ≡ p → ⊥) → p < page_lines * s.frames → k < 16
        → byte m' p k ≡ byte memory p k
    bare' p k free b h = rest p k (λ j q o. not-other j (place j) q o) (λ o. not_own (place i) o) b h
      where
        not-other : (j : ℕ) → Place j → j ≢ i → holds_at s x.records j ≡ true → (line_at x.records j).physical ≢ p
        not-other j (here q r t) n o = absurd (n q)
        not-other j (other q r t) n o = λ z. free j (t ∙ o) (cc)

        not_own : Place i → holds_line s i l ≡ true → l.physical ≢ p
        not_own (here q r t) o = λ z. free i (t ∙ o) (cc)
        not_own (other q r t) o = absurd (q refl)

    changed-sim : Sim s home (store (put_line x.records i l) cache memory) m'
    changed-sim = record {
      ways_pos = sim.ways_pos;
      sets_pos = sim.sets_pos;
      record_count = length-put x.records i l ∙ sim.record_count;
      cache_count = same_cache ∙ sim.cache_count;
      memory_count = same_memory ∙ sim.memory_count;
      flat_count = same-flat ∙ sim.flat_count;
      once = λ j k. once' j k (place j) (place k);
      maps = λ j. maps' j (place j);
      clean = λ j k. clean' j k (place j);
      cached = λ j k. cached' j k (place j);
      bare = bare';
    }

-- ---- the steps

-- a write-back changes memory only, and not its length
module _ (s : Shape) (i : ℕ) (x : Store) where
  pub written-records : (written_back s i x).records ≡ x.records
  unfolding written_back
  written-records = cond_both (λ (y : Store). y.records ≡ x.records) (holds_at s x.records i && (line_at x.records i).changed) _ _ refl refl

  pub written-cache : (written_back s i x).cache ≡ x.cache
  unfolding written_back
  written-cache = cond_both (λ (y : Store). y.cache ≡ x.cache) (holds_at s x.records i && (line_at x.records i).changed) _ _ refl refl

  pub length-written : length (written_back s i x).memory ≡ length x.memory
  unfolding written_back
  length-written =
      cond_both (λ (y : Store). length y.memory ≡ length x.memory) (holds_at s x.records i && (line_at x.records i).changed) _ _
      (length-line x.memory (line_at x.records i).physical (line_of x.cache i)) refl

  -- a line that is not held is not written back
  written-unheld : holds_at s x.records i ≡ false → written_back s i x ≡ x
  unfolding written_back
  written-unheld h = rw h refl

  pub evict-records : (dropped i (written_back s i x)).records ≡ put_line x.records i no_line
  unfolding dropped noted
  evict-records = rw written-records refl

  -- after it is dropped too, the other records are as before, and record i holds nothing
  evict-line-other : (j : ℕ) → j ≢ i → line_at (dropped i (written_back s i x)).records j ≡ line_at x.records j
  evict-line-other j n = rw evict-records (line-put-other x.records i no_line j (λ e. n (sym e)))

  evict-held-other : (j : ℕ) → j ≢ i → holds_at s (dropped i (written_back s i x)).records j ≡ holds_at s x.records j
  evict-held-other j n = rw evict-records (held-put-other s x.records i no_line j n)

  evict-held-same : 2 * i + 2 ≤ length x.records → holds_at s (dropped i (written_back s i x)).records i ≡ false
  evict-held-same h = rw evict-records (held-put-same s x.records i no_line h ∙ holds-none s i)

-- a record put twice is the last put
put-put : (r : List ℕ) (i : ℕ) (l n : Line) → put_line (put_line r i l) i n ≡ put_line r i n
unfolding put_line
put-put r i l n =
    rw (set_comm (set r (2 * i) l.name) (2 * i + 1) (2 * i) (word_of l) n.name (λ e. omega arith)) (simp set-set)

module _ {s : Shape} {home : ℕ → Option Home} {x : Store} {m : List ℕ} (sim : Sim s home x m) where
  -- no record holds physical line q: not i, and none of the others
  none-holds : (i q : ℕ) → ((j : ℕ) → j ≢ i → holds_at s x.records j ≡ true → (line_at x.records j).physical ≢ q)
      → (holds_at s x.records i ≡ true → (line_at x.records i).physical ≢ q)
      → (j : ℕ) → holds_at s x.records j ≡ true → (line_at x.records j).physical ≢ q
  none-holds i q others own j o = go (eqb j i) refl
    where
      go : (u : Bool) → eqb j i ≡ u → (line_at x.records j).physical ≢ q
      go true u = let z : j ≡ i = eqb-true j i u in rw z (own (rw z at o))
      go false u = others j (eqb-false j i u) o

  -- a held line goes, once memory has its bytes
  sim-drop : (i : ℕ) (memory : List ℕ) → holds_at s x.records i ≡ true → length memory ≡ length x.memory
      → ((k : ℕ) → k < 16 → byte memory (line_at x.records i).physical k ≡ byte x.cache i k)
      → ((p k : ℕ) → p ≢ (line_at x.records i).physical → k < 16 → byte memory p k ≡ byte x.memory p k)
      → Sim s home (store (put_line x.records i no_line) x.cache memory) m
  sim-drop i memory h mc at away =
      changed-sim sim i no_line x.cache memory m (held_below_lem sim i h) refl mc refl
      (λ j k n o b. record { in_cache = refl; in_memory = away (line_at x.records j).physical k (λ z. n (sim.once j i o h z)) b; in_flat = refl })
      (λ o. clash _ o (holds-none s i))
      (λ p k free _ b d. rest p k free b d (eqb p (line_at x.records i).physical) refl)
    where
      rest : (p k : ℕ) → ((j : ℕ) → j ≢ i → holds_at s x.records j ≡ true → (line_at x.records j).physical ≢ p) → p < page_lines * s.frames → k < 16
          → (t : Bool) → eqb p (line_at x.records i).physical ≡ t → byte m p k ≡ byte memory p k
      rest p k free b d true t = let q : p ≡ (line_at x.records i).physical = eqb-true _ _ t in rw q (sim.cached i k h d ∙ sym (at k d))
      rest p k free b d false t = sim.bare p k (none-holds i p free (λ _ z. eqb-false _ _ t (sym z))) b d ∙ sym (away p k (eqb-false _ _ t) d)

  -- a held line written back if changed, and dropped
  pub sim-evict : (i : ℕ) → holds_at s x.records i ≡ true → Sim s home (dropped i (written_back s i x)) m
  unfolding dropped noted written_back with_line line_of
  sim-evict i h = go (line_at x.records i).changed refl
    where
      go : (u : Bool) → (line_at x.records i).changed ≡ u → Sim s home (dropped i (written_back s i x)) m
      go false d = rw (h, d) (sim-drop i x.memory h refl (λ k b. sym (sim.clean i k h d b)) (λ p k n b. refl))
      go true d =
          let a = held_in s x.records i h in
          let b = held_below_lem sim i h in
          let y : 16 * (line_at x.records i).physical + 16 ≤ length x.memory = omega (arith, sim.memory_count) in
          let z : 16 * i + 16 ≤ length x.cache = omega (arith, sim.cache_count) in
          rw (h, d) (sim-drop i (splice x.memory (16 * (line_at x.records i).physical) (part x.cache (16 * i) 16)) h (length-splice _ _ _)
          (copied_at x.memory x.cache (line_at x.records i).physical i y z)
          (copied-other x.memory x.cache (line_at x.records i).physical i y z))

  -- a line filled where none is held, from a physical line that no record holds
  sim-fill : Homes s home → (i name p : ℕ) (w : Bool) → i < s.lines → holds_at s x.records i ≡ false → home name ≡ Some (at_line p w)
      → ((j : ℕ) → holds_at s x.records j ≡ true → (line_at x.records j).physical ≢ p)
      → Sim s home (noted i (new_line name p w) (filled i p x)) m
  unfolding noted filled with_line line_of
  sim-fill homes i name p w b free r alone =
      let a = homes.inside name p w r in
      let y : 16 * p + 16 ≤ length x.memory = omega (arith, sim.memory_count) in
      let z : 16 * i + 16 ≤ length x.cache = omega (arith, sim.cache_count) in
      changed-sim sim i (new_line name p w) (splice x.cache (16 * i) (part x.memory (16 * p) 16)) x.memory m b
      (length-splice _ _ _) refl refl
      (λ j k n o d. record { in_cache = copied-other x.cache x.memory i p z y j k n d; in_memory = refl; in_flat = refl })
      (λ o. record {
        alone = λ j n o. alone j o;
        maps = r;
        clean = λ k d f. copied_at x.cache x.memory i p z y k f;
        cached = λ k f. sim.bare p k alone a f ∙ sym (copied_at x.cache x.memory i p z y k f);
      })
      (λ q k others own d f. sim.bare q k (none-holds i q others (λ o. clash _ o free)) d f)

  -- bytes stored inside a held line, and at its home
  pub sim-stored : (i off : ℕ) (vs : List ℕ) → holds_at s x.records i ≡ true → off + length vs ≤ 16
      → Sim s home (store (put_line x.records i (changed_line (line_at x.records i))) (splice x.cache (16 * i + off) vs) x.memory)
      (splice m (16 * (line_at x.records i).physical + off) vs)
  unfolding holds_at holds_line
  sim-stored i off vs h f =
      let a = held_in s x.records i h in
      let b = held_below_lem sim i h in
      changed-sim sim i (changed_line (line_at x.records i))
      (splice x.cache (16 * i + off) vs) x.memory (splice m (16 * (line_at x.records i).physical + off) vs) b
      (length-splice _ _ _) refl (length-splice _ _ _)
      (λ j k n o d. record {
        in_cache = splice-apart x.cache (16 * i + off) vs i j k (omega arith) (omega arith) n d;
        in_memory = refl;
        in_flat = splice-apart m (16 * (line_at x.records i).physical + off) vs (line_at x.records i).physical (line_at x.records j).physical k
            (omega arith) (omega arith) (λ z. n (sim.once j i o h z)) d;
      })
      (λ o. record {
        alone = λ j n o z. n (sim.once j i o h z);
        maps = sim.maps i h;
        clean = λ k d f. clash true refl d;
        cached = λ k d. splice-match m x.cache vs (16 * (line_at x.records i).physical + off) (16 * i + off)
            (16 * (line_at x.records i).physical + k) (16 * i + k) (omega arith)
            (omega (arith, sim.flat_count)) (omega (arith, sim.cache_count)) (sim.cached i k h d);
      })
      (λ q k others own d g.
      let n : q ≢ (line_at x.records i).physical = λ z. own h (sym z) in
      splice-apart m (16 * (line_at x.records i).physical + off) vs (line_at x.records i).physical q k (omega arith) (omega arith) n g
      ∙ sim.bare q k (none-holds i q others (λ _. own h)) d g)

-- ---- a miss

-- the held line may be dropped before: its record is put anew
inserted-dropped : (s : Shape) (i name p : ℕ) (w : Bool) (x : Store)
    → inserted s i name p w x ≡ noted i (new_line name p w) (filled i p (dropped i (written_back s i x)))
unfolding inserted noted filled dropped
inserted-dropped s i name p w x = rw put-put refl

inserted-unheld : (s : Shape) (i name p : ℕ) (w : Bool) (x : Store) → holds_at s x.records i ≡ false
    → inserted s i name p w x ≡ noted i (new_line name p w) (filled i p x)
unfolding inserted
inserted-unheld s i name p w x h = rw (written-unheld s i x h) refl

-- the record that a line comes into, of any store
module _ (s : Shape) (i name p : ℕ) (w : Bool) (x : Store) (room : 2 * i + 2 ≤ length x.records) where
  pub inserted-says : line_at (inserted s i name p w x).records i ≡ new_line name p w
  unfolding inserted noted filled
  inserted-says = rw written-records (line-put-same x.records i (new_line name p w) room)

  pub inserted-holds : set_at s i ≡ place_of s name → p < page_lines * s.frames → holds_at s (inserted s i name p w x).records i ≡ true
  inserted-holds own inside = held-line s (inserted s i name p w x).records i (new_line name p w) inserted-says ∙ holds-new s i name p w own inside

module _ {s : Shape} {home : ℕ → Option Home} {x : Store} {m : List ℕ} (homes : Homes s home) (sim : Sim s home x m)
    (i name p : ℕ) (w : Bool) (b : i < s.lines) (stands : i / s.ways ≡ place_of s name) (miss : holder_of s x.records name ≡ None)
    (h : home name ≡ Some (at_line p w)) where
  room : 2 * i + 2 ≤ length x.records
  room = omega (arith, sim.record_count)

  -- no record holds the name's home
  alone : (j : ℕ) → holds_at s x.records j ≡ true → (line_at x.records j).physical ≢ p
  alone j o q =
      let g : home (line_at x.records j).name ≡ Some (at_line p (line_at x.records j).write) = rw q at (sim.maps j o) in
      holder-nothing s x.records name j sim.ways_pos miss o
      (homes.apart (line_at x.records j).name name p (line_at x.records j).write w g h)

  pub sim-inserted : Sim s home (inserted s i name p w x) m
  sim-inserted = go (holds_at s x.records i) refl
    where
      go : (t : Bool) → holds_at s x.records i ≡ t → Sim s home (inserted s i name p w x) m
      go true e =
          rw inserted-dropped (sim-fill (sim-evict sim i e) homes i name p w b (evict-held-same s i x room) h
          (λ j o. after j o (eqb j i) refl))
        where
          after : (j : ℕ) → holds_at s (dropped i (written_back s i x)).records j ≡ true → (t : Bool) → eqb j i ≡ t
              → (line_at (dropped i (written_back s i x)).records j).physical ≢ p
          after j o true t =
              let q : j ≡ i = eqb-true j i t in
              clash _ (rw q at o) (evict-held-same s i x room)
          after j o false t =
              let n = eqb-false j i t in
              rw (evict-line-other s i x j n) (alone j (sym (evict-held-other s i x j n) ∙ o))
      go false e = rw (inserted-unheld s i name p w x e) (sim-fill sim homes i name p w b e h alone)

  pub inserted-line : line_at (inserted s i name p w x).records i ≡ new_line name p w
  inserted-line = inserted-says s i name p w x room

  pub inserted-held : holds_at s (inserted s i name p w x).records i ≡ true
  inserted-held = inserted-holds s i name p w x room stands (homes.inside name p w h)
