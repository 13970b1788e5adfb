-- Values that fit. Stands on Demand1 (a number that is given is a row's that applies) and Kept (what a done store leaves).
use Rattle.std.specs.Prelude.{Option, Some, None}
use Prim.Native.Nat.{ℕ, ◌%◌, ◌^◌, ◌≤◌}
use mathlib.Core.Path.{◌≡◌, refl, ap}
use mathlib.Core.Bool.{Bool, true, false, not, ◌&&◌}
use mathlib.Core.List.{List, ◌∷◌}
use native.Mathlib.Omega.{arith}
use lib.Dec.{leb}
use borrow.Author.Tests.{le-leb, leb-true}
use Rattle.address.specs.Addresses.{name_of, region_of}
use Rattle.address.specs.declared.Global.{Global}
use Rattle.address.specs.declared.Region.{Region}
use Rattle.address.specs.declared.Region.TheVariants.{Uncached, Cached, PageTable, Ordinary}
use Rattle.board.specs.declared.Shape.{Shape}
use Rattle.board.proofs.Bools.{and-false, or_right, or-rest}
use Rattle.lines.specs.Victims.{Uses}
use Rattle.stores.specs.Stores.{Store, performed_at}
use Rattle.stores.specs.declared.Access.{Access}
use Rattle.reach.specs.declared.Way.{Way}
use Rattle.reach.specs.declared.Way.TheVariants.{Held, InMemory}
use Rattle.machine.specs.Boards.{Board, fits_board, refused}
use Rattle.machine.specs.Refusals.{Row, row, by_table, is_process, is_global, is_width, too_large, aligned_to}
use Rattle.machine.specs.Accesses.{Reached, performed_on, accessed_by, uses_by, Touched, touched, accessed, way_to, victim_for, on_board, user_global, user_table, user_access, memory_access, supervisor_table, supervisor_done, supervisor_access}
use Rattle.machine.specs.Rising.{rising}
use Rattle.promises.specs.Runs.{step, supervise, reply}
use Rattle.promises.specs.Demand1.{supervisor_rows, rows_of, applies_in}
use Rattle.promises.specs.Values.{Asker, as_user, as_supervisor, asks, storing, loading, out_of_range, ValuesFit}
use Rattle.promises.proofs.Demand1.{rising-from, demand1}
use Rattle.promises.proofs.Kept.{user-kept, supervisor-kept}

-- ---- a value that doesn't fit

large : (width value : ℕ) → is_width width ≡ true → 256 ^ width ≤ value → too_large (storing width value) ≡ true
unfolding too_large
large width value w h = rw (w, le-leb _ _ h)

refused-large : (s : Shape) (b : Board) (x : Asker) (a : Access) → fits_board s b ≡ true → too_large a ≡ true → step s b (asks x a) ≡ refused b 2
unfolding asks step supervise user_access user_table supervisor_access supervisor_table by_table
refused-large s b (as_user n e) a f h = rw (f, or_right (not (is_process s n)) (too_large a) h)
refused-large s b (as_supervisor g) a f h = rw (f, or_right (not (is_global g)) (too_large a) h)

-- ---- a value that fits

not-large : (width value : ℕ) → (is_width width ≡ true → 256 ^ width ≤ value → ⊥) → too_large (storing width value) ≡ false
unfolding too_large
not-large width value h = go (is_width width) refl (leb (256 ^ width) value) refl
  where
    go : (t : Bool) → is_width width ≡ t → (u : Bool) → leb (256 ^ width) value ≡ u → (t && u) ≡ false
    go true e true f = absurd (h e (leb-true _ _ f))
    go true e false f = refl
    go false e u f = refl

-- 2 is given by the second row of a table and by no other
second : (t u : Bool) (rows : List Row) → rising 3 rows ≡ true → applies_in (row 1 t ∷ row 2 u ∷ rows) 2 ≡ true → u ≡ true
unfolding applies_in
second true true rows r e = refl
second false true rows r e = refl
second true false rows r e = absurd (omega (arith, rising-from rows 3 2 r e))
second false false rows r e = absurd (omega (arith, rising-from rows 3 2 r e))

range : (s : Shape) (b : Board) (x : Asker) (a : Access) → too_large a ≡ false → applies_in (rows_of s b (asks x a)) 2 ≡ true → out_of_range s x ≡ true
unfolding asks rows_of supervisor_rows user_table supervisor_table out_of_range rising
range s b (as_user n e) a h k = or-rest (not (is_process s n)) (too_large a) h (second _ _ _ refl k)
range s b (as_supervisor g) a h k = or-rest (not (is_global g)) (too_large a) h (second _ _ _ refl k)

by-range : (s : Shape) (b : Board) (x : Asker) (a : Access) → too_large a ≡ false → (step s b (asks x a)).answer.number ≡ 2 → out_of_range s x ≡ true
by-range s b x a h e = range s b x a h (rw e at ((demand1.calls s b (asks x a)).number_is_lowest.applies (λ z. omega (arith, e))))

-- ---- a value that isn't asked

bad-four : (s : Shape) (b : Board) (x : Asker) (width value : ℕ) → fits_board s b ≡ true → out_of_range s x ≡ false → b.tag.set ≡ false → is_width width ≡ false
    → step s b (asks x (storing width value)) ≡ refused b 4
unfolding asks out_of_range step supervise user_access user_table supervisor_access supervisor_table by_table too_large aligned_to
bad-four s b (as_user n e) width value f r t w = rw (f, r, t, w)
bad-four s b (as_supervisor g) width value f r t w = rw (f, r, t, w, and-false)

bad : (s : Shape) (b : Board) (x : Asker) (width v w : ℕ) → is_width width ≡ false → step s b (asks x (storing width v)) ≡ step s b (asks x (storing width w))
unfolding asks step supervise user_access user_table supervisor_access supervisor_table by_table too_large aligned_to
bad s b (as_user n e) width v w h = rw h
bad s b (as_supervisor g) width v w h = rw h

module _ (s : Shape) (width v w : ℕ) where
  loaded-by : (to name offset : ℕ) (x : Store) (way : Option Way) → accessed_by s to name offset (loading width v) x way ≡ accessed_by s to name offset (loading width w) x way
  unfolding accessed_by performed_on performed_at
  loaded-by to name offset x (Some (Held i write)) = refl
  loaded-by to name offset x (Some (InMemory line write)) = refl
  loaded-by to name offset x None = refl

  loaded : (words : List ℕ) (g : Global) (x : Store) (uses : Uses) → accessed s words g (loading width v) x uses ≡ accessed s words g (loading width w) x uses
  unfolding accessed
  loaded words g x uses =
      ap (λ (r : Reached). touched r (uses_by s (victim_for s uses x.records g) uses (way_to s words x.records g)))
      (loaded-by (victim_for s uses x.records g) (name_of g) (g.0 % 16) x (way_to s words x.records g))

  supervisor-loaded : (words : List ℕ) (g : Global) (x : Store) (uses : Uses) (r : Region)
      → supervisor_done s words (loading width v) g x uses r ≡ supervisor_done s words (loading width w) g x uses r
  unfolding supervisor_done memory_access
  supervisor-loaded words g x uses Uncached = refl
  supervisor-loaded words g x uses Cached = loaded words g x uses
  supervisor-loaded words g x uses PageTable = refl
  supervisor-loaded words g x uses Ordinary = loaded words g x uses

  load_same : (b : Board) (x : Asker) → step s b (asks x (loading width v)) ≡ step s b (asks x (loading width w))
  unfolding asks step supervise user_access user_table supervisor_access supervisor_table too_large
  load_same b (as_user n e) =
      ap (λ (r : Touched). by_table (refused b) (user_table s b n (loading width w) e) (on_board b r)) (loaded b.words (user_global b.slots n e) b.store b.uses)
  load_same b (as_supervisor g) =
      ap (λ (r : Touched). by_table (refused b) (supervisor_table s b (loading width w) g) (on_board b r)) (supervisor-loaded b.words g b.store b.uses (region_of g))

-- ---- a value that was stored

kept : (s : Shape) (b : Board) (x : Asker) (width value v : ℕ) → (step s b (asks x (storing width value))).answer.number ≡ 0
    → reply (step s (step s b (asks x (storing width value))).after (asks x (loading width v))).answer ≡ record { number = 0; value = value }
unfolding asks step supervise
kept s b (as_user n e) width value v = user-kept s b width value v n e
kept s b (as_supervisor g) width value v = supervisor-kept s b width value v g

-- ---- the statement

pub values-fit : ValuesFit
values-fit = record {
  too_large = λ s b x width value f w h. refused-large s b x (storing width value) f (large width value w h);
  no_other_2 = λ s b x width value h. by-range s b x (storing width value) (not-large width value h);
  bad_width_4 = bad-four;
  bad_width = bad;
  loads = λ s b x width v w. load_same s width v w b x;
  whole = kept;
}
