-- What the shape check says, fact by fact.
use Prim.Native.Nat.{ℕ, ◌*◌, ◌/◌, ◌≤◌}
use mathlib.Core.Path.{◌≡◌, ◌∙◌, refl, sym}
use mathlib.Core.Bool.{Bool, true, false, cond}
use lib.Dec.{leb, eqb}
use lib.Count.{ones}
use borrow.Author.Tests.{leb-true, eqb-true, ne_eqb}
use Rattle.address.specs.Layout.{page_bytes, line_bytes, process_slots}
use Rattle.board.specs.Shapes.{max_frames, max_processes, max_lines, record_words, set_lines, edition_holds, limits_hold, matrices_of, lengths_agree, fits_shape}
use Rattle.board.specs.declared.Shape.{Shape}
use Rattle.board.proofs.Bools.{and_left, and_right}

pub record Shaped (s : Shape) (slots words records cache memory uses : ℕ) : Type 0 where
  pub frames_low : 1 ≤ s.frames
  pub frames_max : s.frames ≤ max_frames
  pub uncached_max : s.uncached ≤ s.frames
  pub processes_max : s.processes ≤ max_processes
  pub lines_max : s.lines ≤ max_lines
  pub one : ones s.lines ≡ 1
  pub edition : edition_holds s ≡ true
  pub slots_are : slots ≡ s.processes * process_slots
  pub words_are : words ≡ s.frames
  pub records_are : records ≡ record_words * s.lines
  pub cache_is : cache ≡ line_bytes * s.lines
  pub memory_is : memory ≡ page_bytes * s.frames
  pub uses_are : uses ≡ matrices_of s

-- the limits, before the lengths are known
pub record Limited (s : Shape) : Type 0 where
  pub frames_low : 1 ≤ s.frames
  pub frames_max : s.frames ≤ max_frames
  pub uncached_max : s.uncached ≤ s.frames
  pub processes_low : 1 ≤ s.processes
  pub processes_max : s.processes ≤ max_processes
  pub lines_max : s.lines ≤ max_lines
  pub one : ones s.lines ≡ 1
  pub edition : edition_holds s ≡ true

pub limited : (s : Shape) → limits_hold s ≡ true → Limited s
limited s a₁ =
    let a₂ = and_right (leb 1 s.frames) _ a₁ in
    let a₃ = and_right (leb s.frames max_frames) _ a₂ in
    let a₄ = and_right (leb s.uncached s.frames) _ a₃ in
    let a₅ = and_right (leb 1 s.processes) _ a₄ in
    let a₆ = and_right (leb s.processes max_processes) _ a₅ in
    let a₇ = and_right (leb s.lines max_lines) _ a₆ in
    record {
      frames_low = leb-true _ _ (and_left (leb 1 s.frames) _ a₁);
      frames_max = leb-true _ _ (and_left (leb s.frames max_frames) _ a₂);
      uncached_max = leb-true _ _ (and_left (leb s.uncached s.frames) _ a₃);
      processes_low = leb-true _ _ (and_left (leb 1 s.processes) _ a₄);
      processes_max = leb-true _ _ (and_left (leb s.processes max_processes) _ a₅);
      lines_max = leb-true _ _ (and_left (leb s.lines max_lines) _ a₆);
      one = eqb-true _ _ (and_left (eqb (ones s.lines) 1) _ a₇);
      edition = and_right (eqb (ones s.lines) 1) _ a₇;
    }

pub shaped : (s : Shape) (slots words records cache memory uses : ℕ) (t : Bool) → t ≡ fits_shape s slots words records cache memory uses → t ≡ true
    → Shaped s slots words records cache memory uses
unfolding fits_shape
shaped s slots words records cache memory uses t f h =
    let a = sym f ∙ h in
    let m = limited s (and_left (limits_hold s) _ a) in
    let a₁ = and_right (limits_hold s) (lengths_agree s slots words records cache memory uses) a in
    let a₂ = and_right (eqb slots (s.processes * process_slots)) _ a₁ in
    let a₃ = and_right (eqb words s.frames) _ a₂ in
    let a₄ = and_right (eqb records (record_words * s.lines)) _ a₃ in
    let a₅ = and_right (eqb cache (line_bytes * s.lines)) _ a₄ in
    record {
      frames_low = m.frames_low;
      frames_max = m.frames_max;
      uncached_max = m.uncached_max;
      processes_max = m.processes_max;
      lines_max = m.lines_max;
      one = m.one;
      edition = m.edition;
      slots_are = eqb-true _ _ (and_left (eqb slots (s.processes * process_slots)) _ a₁);
      words_are = eqb-true _ _ (and_left (eqb words s.frames) _ a₂);
      records_are = eqb-true _ _ (and_left (eqb records (record_words * s.lines)) _ a₃);
      cache_is = eqb-true _ _ (and_left (eqb cache (line_bytes * s.lines)) _ a₄);
      memory_is = eqb-true _ _ (and_left (eqb memory (page_bytes * s.frames)) _ a₅);
      uses_are = eqb-true _ _ (and_right (eqb memory (page_bytes * s.frames)) _ a₅);
    }

-- the two ends of the check
module _ (s : Shape) (slots words records cache memory uses : ℕ) (t : Bool) (f : t ≡ limits_hold s) where
  pub fits-lengths : (r : Bool) → t ≡ true → r ≡ lengths_agree s slots words records cache memory uses → r ≡ fits_shape s slots words records cache memory uses
  unfolding fits_shape
  fits-lengths r h e = rw (← f, h, e)

  pub fits_not : t ≡ false → false ≡ fits_shape s slots words records cache memory uses
  unfolding fits_shape
  fits_not h = rw (← f, h)

module _ (s : Shape) (t : Bool) (f : t ≡ limits_hold s) (h : t ≡ true) where
  pub limits-frames : s.frames ≤ max_frames
  limits-frames = (limited s (sym f ∙ h)).frames_max

  pub limits-processes : s.processes ≤ max_processes
  limits-processes = (limited s (sym f ∙ h)).processes_max

  pub limits-lines : s.lines ≤ max_lines
  limits-lines = (limited s (sym f ∙ h)).lines_max

-- ---- the edition, test by test

module _ (s : Shape) where
  pub edition-four : (r : Bool) → s.ways ≡ set_lines → r ≡ leb set_lines s.lines → r ≡ edition_holds s
  unfolding edition_holds
  edition-four r e f = rw (e, f)

  pub edition-other : (r : Bool) → (s.ways ≡ set_lines → ⊥) → r ≡ eqb s.ways 1 → r ≡ edition_holds s
  unfolding edition_holds
  edition-other r n f = rw (ne_eqb _ _ n, f)

  pub matrices-four : (r : ℕ) → s.ways ≡ set_lines → r ≡ s.lines / set_lines → r ≡ matrices_of s
  unfolding matrices_of
  matrices-four r e f = rw (e, f)

  pub matrices-none : (s.ways ≡ set_lines → ⊥) → 0 ≡ matrices_of s
  unfolding matrices_of
  matrices-none n = rw (ne_eqb _ _ n)

  -- which edition it is
  pub data Edition : Type 0 where
    one_line : s.ways ≡ 1 → Edition
    four_lines : s.ways ≡ set_lines → set_lines ≤ s.lines → Edition

  pub edition-is : edition_holds s ≡ true → Edition
  unfolding edition_holds
  edition-is h = go (eqb s.ways set_lines) refl h
    where
      go : (t : Bool) → eqb s.ways set_lines ≡ t → cond t (leb set_lines s.lines) (eqb s.ways 1) ≡ true → Edition
      go true e q = four_lines (eqb-true _ _ e) (leb-true _ _ q)
      go false e q = one_line (eqb-true _ _ q)
