-- The calls on the page map: map, unmap, move, protect and flush all, and accesses past the cache, keep the store standing for a flat memory.
-- Stands on Maps, Sweeps and Leaving.
use Rattle.std.specs.Prelude.{Some, None}
use Prim.Native.Nat.{ℕ, ◌+◌, ◌*◌, ◌/◌, ◌%◌, ◌≤◌, ◌<◌}
use mathlib.Core.Logic.{◌≢◌}
use mathlib.Core.Path.{◌≡◌, refl, sym, ◌∙◌}
use mathlib.Core.Bool.{Bool, true, false, ◌&&◌, ◌||◌, cond}
use mathlib.Core.List.{List}
use native.Mathlib.Omega.{arith}
use lib.Dec.{eqb}
use lib.ListN.{length, get_or, set}
use lib.Seq.{get_or-set_same}
use borrow.Author.Tests.{eqb-true, eqb-false, eq-eqb, ne_eqb}
use Rattle.address.specs.Layout.{page_lines}
use Rattle.address.specs.Addresses.{ordinary_page}
use Rattle.board.specs.Homes.{at_line}
use Rattle.board.specs.Shapes.{max_frames}
use Rattle.pages.specs.Pages.{frame_word, mapped_to, home_of, direct_page}
use Rattle.board.specs.declared.Shape.{Shape}
use Rattle.board.proofs.Bools.{clash, or-false}
use Rattle.board.proofs.Homes.{home-parts}
use Rattle.line_bytes.specs.Bytes.{number, digits, stored, line_of, zeroed_frame}
use Rattle.lines.specs.Records.{line_at, no_line}
use Rattle.stores.specs.Stores.{Store, store}
use Rattle.lines.specs.Holds.{holds_line, holds_at}
use Rattle.ranges.specs.Ranges.{named, page_names}
use Rattle.ranges.specs.declared.Names.{Names}
use Rattle.ranges.specs.declared.Names.TheVariants.{One, Two, All}
use Rattle.ranges.proofs.Ranges.{page-names}
use Rattle.visits.specs.Visits.{visit, map_visit, unmap_visit, protect_visit, move_visit, flush_visit, visited_all}
use Rattle.lines.specs.declared.Line.{Line}
use Rattle.visits.specs.declared.Deed.TheVariants.{Retire}
use Rattle.line_bytes.proofs.Bytes.{length-stored}
use Rattle.machine.specs.Calls.{zeroed_store}
use Rattle.store_laws.proofs.Sim.{Sim}
use Rattle.store_laws.proofs.Bytes.{splice-match, splice-apart, number_same, length_digits}
use Rattle.store_laws.proofs.Zeroed.{length-zeroed, zeroed-line-in, zeroed-line-out}
use Rattle.store_laws.proofs.Sweeps.{fate_of, fate, swept-line, swept-memory-drop, swept-elsewhere, sim-retired}
use Rattle.store_laws.proofs.Leaving.{retired-stayed, written-sim, dropped-sim, retired-sim, permitted-sim}
use Rattle.page_laws.proofs.Maps as maps
use Rattle.page_laws.proofs.Maps.{Homed, homed, home-set, home-elsewhere, home-above, mapped-frame, mapped-nothing, mapped-hit, mapped-home, word-names, word-names-not, frame-word-page, frame-word-writes, frame-word-names, ordinary-low}

-- the names of a page are those whose page it is
one-page : (page name : ℕ) → named (One (page_names page)) name ≡ eqb (name / page_lines) page
unfolding named
one-page page name = page-names page name

two-pages : (page page' name : ℕ) → named (Two (page_names page) (page_names page')) name ≡ (eqb (name / page_lines) page || eqb (name / page_lines) page')
unfolding named
two-pages page page' name = rw (page-names page name, page-names page' name)

-- on any board: after the lines of two pages are written back and dropped, a line that is held is of neither
pub moved-names : (s : Shape) (x : Store) → length x.records ≡ 2 * s.lines → (page new j : ℕ) → holds_at s (visited_all s (move_visit page new) x).records j ≡ true
    → ((line_at (visited_all s (move_visit page new) x).records j).name / page_lines ≢ page)
    × ((line_at (visited_all s (move_visit page new) x).records j).name / page_lines ≢ new)
moved-names s x count page new j h =
    let a = retired-stayed s (Two (page_names page) (page_names new)) x count j h in
    let o = or-false (eqb ((line_at x.records j).name / page_lines) page) (eqb ((line_at x.records j).name / page_lines) new)
    (sym (two-pages page new (line_at x.records j).name) ∙ a.stays) in
    rw a.same (eqb-false _ _ o.0, eqb-false _ _ o.1)

-- and a record that holds no line of either stays as it was
pub moved-kept : (s : Shape) (x : Store) → length x.records ≡ 2 * s.lines → (page new j : ℕ) → j < s.lines
    → (holds_at s x.records j ≡ true → ((line_at x.records j).name / page_lines ≢ page) × ((line_at x.records j).name / page_lines ≢ new))
    → line_at (visited_all s (move_visit page new) x).records j ≡ line_at x.records j
unfolding fate fate_of holds_at
moved-kept s x count page new j b h = swept-line s (move_visit page new) x j count b ∙ go (holds_line s j (line_at x.records j)) refl
  where
    go : (t : Bool) → holds_line s j (line_at x.records j) ≡ t
        → cond (t && named (Two (page_names page) (page_names new)) (line_at x.records j).name) no_line (line_at x.records j) ≡ line_at x.records j
    go true t = let o = h t in rw (two-pages page new (line_at x.records j).name, ne_eqb _ _ o.0, ne_eqb _ _ o.1)
    go false t = refl

-- and a physical line that no changed line of either page has keeps its bytes in memory
pub moved-elsewhere : (s : Shape) (x : Store) (page new p : ℕ)
    → ((j : ℕ) → j < s.lines → holds_at s x.records j ≡ true → (line_at x.records j).changed ≡ true → (line_at x.records j).physical ≡ p
    → ((line_at x.records j).name / page_lines ≢ page) × ((line_at x.records j).name / page_lines ≢ new))
    → line_of (visited_all s (move_visit page new) x).memory p ≡ line_of x.memory p
moved-elsewhere s x page new p h =
    swept-elsewhere s (Two (page_names page) (page_names new)) p x
    (λ j b a n c q. let o = h j b a c q in clash _ n (two-pages page new (line_at x.records j).name ∙ rw (ne_eqb _ _ o.0, ne_eqb _ _ o.1)))

module _ (s : Shape) (words : List ℕ) (x : Store) (m : List ℕ) (sim : Sim s (home_of s words) x m) where
  abbrev line : ℕ → Line
  line j = line_at x.records j

  abbrev held : ℕ → Bool
  held j = holds_at s x.records j

  -- ---- flush all

  pub sim-flushed : Sim s (home_of s words) (visited_all s flush_visit x) m
  sim-flushed = sim-retired s (home_of s words) m All x sim

  -- ---- lines written back and dropped, and the word of a page's frame changed: unmap and move

  module _ (page f : ℕ) (found : mapped_to s words page ≡ Some f) (names : Names) (w : ℕ)
      (others : (name : ℕ) → named names name ≡ false → (name / page_lines ≢ page) × (w / 4 ≡ name / page_lines → w % 2 ≡ 1 → ⊥)) where
    -- the names are those of the page, and of the page that the new word names
    sim-reworded : Sim s (home_of s (set words f w)) (visited_all s (visit Retire names) x) m
    sim-reworded =
        let q = mapped-frame s words page f found in
        retired-sim s (home_of s words) (home_of s (set words f w)) names x m sim
        (λ j h n. let o = others (line j).name n in
        home-elsewhere s words f w (line j).name (line j).physical (line j).write q.inside (sim.maps j h) page q.page_is q.odd o.0 o.1)

  module _ (page f : ℕ) (found : mapped_to s words page ≡ Some f) where
    pub sim-unmapped : Sim s (home_of s (set words f 0)) (visited_all s (unmap_visit page) x) m
    sim-unmapped =
        sim-reworded page f found (One (page_names page)) 0
        (λ name n. (eqb-false _ _ (sym (one-page page name) ∙ n), λ a o. absurd (omega arith)))

    pub sim-moved : (new : ℕ) (write : Bool) → Sim s (home_of s (set words f (frame_word new write))) (visited_all s (move_visit page new) x) m
    sim-moved new write =
        sim-reworded page f found (Two (page_names page) (page_names new)) (frame_word new write)
        (λ name n. let o = or-false (eqb (name / page_lines) page) (eqb (name / page_lines) new) (sym (two-pages page new name) ∙ n) in
        (eqb-false _ _ o.0, λ a _. eqb-false _ _ o.1 (sym a ∙ frame-word-page new write)))

  -- ---- protect

  module _ (page f : ℕ) (write : Bool) (found : mapped_to s words page ≡ Some f) where
    abbrev words' : List ℕ
    words' = set words f (frame_word page write)

    -- a line of the page is in its frame, and gets the permission there
    relabelled : (j : ℕ) → held j ≡ true → named (One (page_names page)) (line j).name ≡ true → home_of s words' (line j).name ≡ Some (at_line (line j).physical write)
    relabelled j h u =
        let n : (line j).name / page_lines ≡ page = eqb-true _ _ (sym (one-page page (line j).name) ∙ u) in
        let q = mapped-frame s words page f found in
        let was = mapped-home s words (line j).name f (rw n found) in
        let old = sim.maps j h in
        let p : (line j).physical ≡ f * page_lines + (line j).name % page_lines = (home-parts (sym old ∙ was)).0 in
        let hit = mapped-hit s words page f (frame_word page write) q.inside (frame-word-names page write) found in
        let new = mapped-home s words' (line j).name f (rw n hit) in
        rw p (rw (get_or-set_same words f (frame_word page write) 0 q.inside, frame-word-writes page write) at new)

    unlabelled : (j : ℕ) → held j ≡ true → named (One (page_names page)) (line j).name ≡ false
        → home_of s words' (line j).name ≡ Some (at_line (line j).physical (line j).write)
    unlabelled j h u =
        let n : (line j).name / page_lines ≢ page = eqb-false _ _ (sym (one-page page (line j).name) ∙ u) in
        let q = mapped-frame s words page f found in
        home-elsewhere s words f (frame_word page write) (line j).name (line j).physical (line j).write q.inside
        (sim.maps j h) page q.page_is q.odd n (λ z _. n (sym z ∙ frame-word-page page write))

    pub sim-protected : Sim s (home_of s (set words f (frame_word page write))) (visited_all s (protect_visit page write) x) m
    sim-protected = permitted-sim s (home_of s words) (home_of s words') (One (page_names page)) x m sim write relabelled unlabelled

  -- ---- map

  module _ (words_are : length words ≡ s.frames) (frames_max : s.frames ≤ max_frames) (page frame : ℕ) (write : Bool) (ordinary : ordinary_page page ≡ true)
      (inside : frame < s.frames) (free : get_or words frame 0 ≡ 0) (unmapped : mapped_to s words page ≡ None) where
    abbrev given : List ℕ
    given = set words frame (frame_word page write)

    abbrev gone : Names
    gone = Two (page_names page) (page_names (direct_page frame))

    -- a line of the page or of the frame's prefix 1 range is in the frame: the page has no frame yet
    in_frame : (n p : ℕ) (w : Bool) → Homed s words n p w → (u v : Bool) → eqb (n / page_lines) page ≡ u → eqb (n / page_lines) (direct_page frame) ≡ v → (u || v) ≡ true
        → p / page_lines ≡ frame
    in_frame n p w (maps.direct a b c d e g) true v h k o = let l = ordinary-low page ordinary in let q : n / page_lines ≡ page = eqb-true _ _ h in absurd (omega arith)
    in_frame n p w (maps.direct a b c d e g) false true h k o = let q : n / page_lines ≡ direct_page frame = eqb-true _ _ k in omega arith
    in_frame n p w (maps.mapped a b c d e g i) true v h k o =
        let q : n / page_lines ≡ page = eqb-true _ _ h in
        clash _ (word-names (get_or words (p / page_lines) 0) page (e ∙ q) g) (mapped-nothing s words page ordinary unmapped (p / page_lines) c d)
    in_frame n p w (maps.mapped a b c d e g i) false true h k o =
        let l = ordinary-low (n / page_lines) a in let q : n / page_lines ≡ direct_page frame = eqb-true _ _ k in absurd (omega arith)
    in_frame n p w h false false u v o = clash false o refl

    -- a line outside that range is in another frame
    out-frame : (n p : ℕ) (w : Bool) → Homed s words n p w → n / page_lines ≢ direct_page frame → p / page_lines ≢ frame
    out-frame n p w (maps.direct a b c d e g) o q = o (omega arith)
    out-frame n p w (maps.mapped a b c d e g i) o q = let y = rw (q, free) at g in absurd (omega arith)

    leaves : (j : ℕ) → held j ≡ true → named gone (line j).name ≡ true → eqb ((line j).physical / page_lines) frame ≡ true
    leaves j h n =
        eq-eqb _ _ (in_frame (line j).name (line j).physical (line j).write (homed s words (line j).name (line j).physical (line j).write (sim.maps j h))
        (eqb ((line j).name / page_lines) page) (eqb ((line j).name / page_lines) (direct_page frame)) refl refl
        (sym (two-pages page (direct_page frame) (line j).name) ∙ n))

    stays : (j : ℕ) → held j ≡ true → named gone (line j).name ≡ false
        → (eqb ((line j).physical / page_lines) frame ≡ false) × (home_of s given (line j).name ≡ Some (at_line (line j).physical (line j).write))
    stays j h n =
        let o = or-false (eqb ((line j).name / page_lines) page) (eqb ((line j).name / page_lines) (direct_page frame))
        (sym (two-pages page (direct_page frame) (line j).name) ∙ n) in
        let q = out-frame (line j).name (line j).physical (line j).write (homed s words (line j).name (line j).physical (line j).write (sim.maps j h))
        (eqb-false _ _ o.1) in (
          ne_eqb _ _ q,
          home-set s words frame (frame_word page write) (line j).name (line j).physical (line j).write (omega arith) (sim.maps j h) q
              (word-names-not (get_or words frame 0) ((line j).name / page_lines) (λ a z. let z' = rw free at z in absurd (omega arith)))
              (word-names-not (frame_word page write) ((line j).name / page_lines) (λ a z. eqb-false _ _ o.0 (sym a ∙ frame-word-page page write))),
        )

    -- the lines of the page and of the frame's prefix 1 range dropped, and the frame filled with zeros
    pub sim-cleared : Sim s (home_of s (set words frame (frame_word page write))) (zeroed_store frame (visited_all s (map_visit page frame) x)) (zeroed_frame m frame)
    sim-cleared =
        let e = swept-memory-drop s x gone in
        rw e (dropped-sim s (home_of s words) (home_of s given) gone x m sim (zeroed_frame x.memory frame) (zeroed_frame m frame)
        (λ p. eqb (p / page_lines) frame) (length-zeroed x.memory frame) (length-zeroed m frame)
        (λ p k z a b. let q : p / page_lines ≡ frame = eqb-true _ _ z in
        zeroed-line-in m frame p k q b (omega (arith, sim.flat_count)) ∙ sym (zeroed-line-in x.memory frame p k q b (omega (arith, sim.memory_count))))
        (λ p k z b. zeroed-line-out x.memory frame p k (eqb-false _ _ z) b)
        (λ p k z b. zeroed-line-out m frame p k (eqb-false _ _ z) b) leaves stays)

  -- ---- accesses past the cache, below the frames that are mapped

  module _ (uncached_max : s.uncached ≤ s.frames) (at width : ℕ) (fit : at % 16 + width ≤ 16) (under : at / 4096 < s.uncached) where
    -- no line there is held
    memory-free : (j : ℕ) → held j ≡ true → (line j).physical ≡ at / 16 → ⊥
    memory-free j h q =
        let b = home-above s words (line j).name (line j).physical (line j).write (sim.maps j h) in
        let b' = rw q at b in
        absurd (omega arith)

    pub memory-same : number x.memory at width ≡ number m at width
    memory-same = number_same x.memory m at at width (λ k h.
        let a = sim.bare (at / 16) (at % 16 + k) memory-free (omega arith) (omega arith) in
        let i : 16 * (at / 16) + (at % 16 + k) ≡ at + k = omega arith in
        sym (rw i at a))

    pub sim-memory : (v : ℕ) → Sim s (home_of s words) (store x.records x.cache (stored x.memory at width v)) (stored m at width v)
    unfolding stored
    sim-memory v =
        let n = length_digits width v in
        written-sim s (home_of s words) (home_of s words) x m sim (stored x.memory at width v) (stored m at width v) (λ p. eqb p (at / 16))
        (length-stored x.memory at width v) (length-stored m at width v)
        (λ p k z a b. splice-match m x.memory (digits width v) at at (16 * p + k) (16 * p + k) refl
        (omega (arith, sim.flat_count)) (omega (arith, sim.memory_count)) (sim.bare p k (λ j h q. memory-free j h (q ∙ eqb-true _ _ z)) a b))
        (λ p k z b. splice-apart x.memory at (digits width v) (at / 16) p k (omega arith) (omega arith) (eqb-false _ _ z) b)
        (λ p k z b. splice-apart m at (digits width v) (at / 16) p k (omega arith) (omega arith) (eqb-false _ _ z) b)
        (λ j h. (ne_eqb _ _ (memory-free j h), sim.maps j h))
