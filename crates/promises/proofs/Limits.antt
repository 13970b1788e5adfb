-- The limits as every call gives them. Stands on Demand1 (a number that is given is a row's that applies) and Demand2 (numbers that don't fit are
-- refused by 1), and Lists.
use Prim.Native.Nat.{ℕ, ◌≤◌}
use mathlib.Core.Logic.{◌⊎◌, inl, inr}
use mathlib.Core.Path.{◌≡◌, ◌∙◌, refl, sym, ap}
use mathlib.Core.Bool.{Bool, true, false, not}
use mathlib.Core.List.{List, ◌∷◌}
use native.Mathlib.Omega.{arith}
use lib.Count.{ones, count_trailing_zeros}
use lib.Dec.{eqb, leb}
use lib.ListN.{length-replicate}
use borrow.Author.Tests.{le-leb, eq-eqb}
use Rattle.board.specs.Shapes.{set_lines, edition_holds, limits_hold, fits_shape, max_frames, max_processes, max_lines}
use Rattle.board.specs.declared.Shape.{Shape}
use Rattle.board.specs.declared.Answer.{Answer}
use Rattle.board.proofs.Bools.{clash, and_left, and_right}
use Rattle.board.proofs.Shapes.{limited, edition-four, edition-other, Edition, one_line, four_lines, edition-is}
use Rattle.lines.proofs.OneBit.{one_bit, power-one}
use Rattle.machine.specs.Boards.{Board, fits_board}
use Rattle.machine.specs.Refusals.{Row, row, row1, by_table}
use Rattle.machine.specs.Accesses.{user_table, supervisor_table}
use Rattle.machine.specs.Looks.{look_number, look_table}
use Rattle.machine.specs.Rising.{rising, Rises}
use Rattle.machine.proofs.Rising.{tables-rise}
use Rattle.promises.specs.Runs.{Supervisor, access, attach, detach, map, unmap, protect, move, flush_all, tag, load_and_map, drop_tag, Call, user, supervisor}
use Rattle.promises.specs.Demand1.{supervisor_rows, rows_of, applies_in, Lowest}
use Rattle.promises.specs.Limits.{Within, AsLong, NotBy1, By1, LimitsStand}
use Rattle.promises.proofs.Demand1.{rising-from, demand1}
use Rattle.promises.proofs.Demand2.{unfit-call}
use Rattle.promises.proofs.Lists.{lists-are-calls}

-- ---- taken

-- the two editions, as the test tells them
edition-holds : (s : Shape) → (s.ways ≡ 1) ⊎ ((s.ways ≡ set_lines) × (set_lines ≤ s.lines)) → edition_holds s ≡ true
edition-holds s (inl e) = sym (edition-other s true (λ z. omega (arith, z, e)) (sym (eq-eqb _ _ e)))
edition-holds s (inr h) = sym (edition-four s true h.0 (sym (le-leb _ _ h.1)))

edition-either : (s : Shape) → Edition s → (s.ways ≡ 1) ⊎ ((s.ways ≡ set_lines) × (set_lines ≤ s.lines))
edition-either s (one_line e) = inl e
edition-either s (four_lines e h) = inr (e, h)

fits-within : (s : Shape) (k : ℕ) (b : Board) → Within s k → AsLong s b → fits_board s b ≡ true
unfolding fits_shape
fits-within s k b w long =
    rw (
      le-leb 1 s.frames w.frames_low,
      le-leb s.frames max_frames w.frames_high,
      le-leb s.uncached s.frames w.uncached_high,
      le-leb 1 s.processes w.processes_low,
      le-leb s.processes max_processes w.processes_high,
      le-leb s.lines max_lines w.lines_high,
      ap ones w.lines_are ∙ power-one k,
      edition-holds s w.edition,
      long,
    )

-- where the first row of a rising table has number 1 and doesn't apply, no row gives 1
one-passed : (t : Bool) (rows : List Row) → t ≡ false → Rises (row 1 t ∷ rows) → applies_in (row 1 t ∷ rows) 1 ≡ false
unfolding rising applies_in
one-passed t rows e h = rw e (go (applies_in rows 1) refl)
  where
    go : (u : Bool) → applies_in rows 1 ≡ u → u ≡ false
    go true a = absurd (omega (arith, rising-from rows 2 1 (and_right (leb 1 1) _ h) a))
    go false a = refl

-- a number that is given is a row's that applies
never-one : (rows : List Row) (n : ℕ) → Lowest rows n → applies_in rows 1 ≡ false → n ≡ 1 → ⊥
never-one rows n low none e = clash (applies_in rows 1) (rw e at (low.applies (λ z. omega (arith, e)))) none

module _ (s : Shape) (b : Board) (fits : fits_board s b ≡ true) where
  -- row 1, in front of the other rows of a table
  passed : (rows : List Row) → Rises (row1 s b ∷ rows) → applies_in (row1 s b ∷ rows) 1 ≡ false
  passed rows h = one-passed (not (fits_board s b)) rows (rw fits) h

  supervisor-passed : (c : Supervisor) → applies_in (supervisor_rows s b c) 1 ≡ false
  unfolding supervisor_rows supervisor_table
  supervisor-passed (access a g) = passed _ (tables-rise.supervisor_access s b a g)
  supervisor-passed (attach process slot segment write) = passed _ (tables-rise.attach s b process slot segment)
  supervisor-passed (detach process slot) = passed _ (tables-rise.detach s b process slot)
  supervisor-passed (map page frame write) = passed _ (tables-rise.map s b page frame)
  supervisor-passed (unmap page) = passed _ (tables-rise.page s b page)
  supervisor-passed (protect page write) = passed _ (tables-rise.page s b page)
  supervisor-passed (move page new) = passed _ (tables-rise.move s b page new)
  supervisor-passed flush_all = passed _ (tables-rise.flush_all s b)
  supervisor-passed (tag name) = passed _ (tables-rise.tag s b name)
  supervisor-passed (load_and_map line) = passed _ (tables-rise.load_and_map s b line)
  supervisor-passed drop_tag = passed _ (tables-rise.drop_tag s b)

  call-passed : (c : Call) → applies_in (rows_of s b c) 1 ≡ false
  unfolding rows_of user_table
  call-passed (user process a e) = passed _ (tables-rise.user_access s b process a e)
  call-passed (supervisor c) = supervisor-passed c

  taken-fits : NotBy1 s b
  taken-fits = record {
    calls = λ c. never-one (rows_of s b c) _ (demand1.calls s b c).number_is_lowest (call-passed c);
    lists = λ accesses answers l e. let z : ◌≡◌ {A = ℕ} 0 1 = sym (ap (λ (x : Answer). x.number) (lists-are-calls.is_calls s b accesses answers fits l).done) ∙ e in omega arith;
    looks = λ line. never-one (look_table s b line) _ (demand1.looks s b line).number_is_lowest (passed _ (tables-rise.look s b line));
  }

-- ---- refused by 1

-- numbers and lengths that pass the test of number 1 are within the limits, and agree
module _ (s : Shape) (b : Board) (fits : fits_board s b ≡ true) where
  abbrev line_bits : ℕ
  line_bits = count_trailing_zeros 64 s.lines

  within-fits : Within s line_bits
  unfolding fits_shape
  within-fits =
      let x = limited s (and_left (limits_hold s) _ fits) in
      record {
        frames_low = x.frames_low;
        frames_high = x.frames_max;
        uncached_high = x.uncached_max;
        processes_low = x.processes_low;
        processes_high = x.processes_max;
        lines_are = sym (one_bit 64 s.lines (omega (arith, x.lines_max)) x.one);
        lines_high = x.lines_max;
        edition = edition-either s (edition-is s x.edition);
      }

  long-fits : AsLong s b
  unfolding fits_shape
  long-fits = and_right (limits_hold s) _ fits

refused-unfit : (s : Shape) (b : Board) → fits_board s b ≡ false → By1 s b
unfolding look_number by_table
refused-unfit s b e = record {
  lists = λ accesses answers. lists-are-calls.refused_else s b accesses answers (λ f l. clash (fits_board s b) f e);
  calls = λ c. (unfit-call s b b.store.memory (record { no = e; same_length = refl }) c).0;
  looks = λ line. rw e;
}

refused-other : (s : Shape) (b : Board) → ((k : ℕ) → Within s k → AsLong s b → ⊥) → By1 s b
refused-other s b never = go (fits_board s b) refl
  where
    go : (t : Bool) → fits_board s b ≡ t → By1 s b
    go true e = absurd (never (line_bits s b e) (within-fits s b e) (long-fits s b e))
    go false e = refused-unfit s b e

-- ---- the statement

eqb_same : (n : ℕ) → eqb n n ≡ true
eqb_same n = eq-eqb n n refl

pub limits-stand : LimitsStand
limits-stand = record {
  taken = λ s k b w long. taken-fits s b (fits-within s k b w long);
  refused_else = refused-other;
  there_are = λ s cache memory c m. rw (c, m) (simp (length-replicate, eqb_same));
}
