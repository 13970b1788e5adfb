-- CR 5: which pages are never translated, and where entries stand. By arithmetic.
use Rattle.std.specs.Prelude.{None, Some}
use Prim.Native.Nat.{ℕ, ◌/◌, ◌<◌, ◌≤◌}
use mathlib.Core.Path.{◌≡◌, refl, sym}
use mathlib.Core.Bool.{Bool, true, false}
use mathlib.Core.List.{List, []}
use native.Mathlib.Omega.{arith}
use lib.Dec.{leb, ltb}
use borrow.Author.Tests.{lt-ltb, le-ltb, lt-leb, ltb-true, ltb-false, leb-true}
use Rattle.address.specs.Layout.{first_page, first_segment, last_segment, table_bytes, table_index}
use Rattle.address.specs.Addresses.{global_of, page_of, prefix_of, region_of, attachable}
use Rattle.address.specs.Entries.{asked_entry}
use Rattle.address.specs.declared.Effective.{Effective}
use Rattle.address.specs.declared.Global.{Global}
use Rattle.address.specs.declared.Region.{Region}
use Rattle.address.specs.declared.Region.TheVariants.{PageTable}
use Rattle.address.proofs.Regions.{region-table}
use Rattle.address.proofs.Entries.{asked_is}
use Rattle.board.specs.declared.Shape.{Shape}
use Rattle.board.proofs.Bools.{and_left}
use Rattle.pages.specs.Pages.{mapped_to}
use Rattle.stores.specs.declared.Access.{Access}
use Rattle.machine.specs.Boards.{Board}
use Rattle.machine.specs.Refusals.{row, outside}
use Rattle.machine.specs.Accesses.{frame_under, supervisor_table}
use Rattle.promises.specs.Demand1.{applies_in}
use Rattle.promises.specs.Entries.{NeverTranslated, EntriesStand}
use Rattle.promises.proofs.Demand1.{row_here, row-later}

prefixes-by : (g : Global) (t : Bool) → ltb (prefix_of g) 2 ≡ t → ltb (page_of g) first_page ≡ t
prefixes-by g true e = let p = ltb-true (prefix_of g) 2 e in lt-ltb (page_of g) first_page (omega (arith, p))
prefixes-by g false e = let p = ltb-false (prefix_of g) 2 e in le-ltb (page_of g) first_page (omega (arith, p))

unmapped : (s : Shape) (words : List ℕ) (page : ℕ) → page < first_page → mapped_to s words page ≡ None
unfolding mapped_to
unmapped s words page h = rw (lt-leb first_page page h)

unreached : (segment : ℕ) (e : Effective) → attachable segment ≡ true → first_page ≤ page_of (global_of segment e)
unreached segment e h =
    let l = leb-true first_segment segment (and_left (leb first_segment segment) (leb segment last_segment) h) in
    omega (arith, l)

pub never-translated : NeverTranslated
never-translated = record {
  under_prefixes = λ g. prefixes-by g (ltb (prefix_of g) 2) refl;
  never_mapped = unmapped;
  never_reached = unreached;
}

in-region : (page : ℕ) (g : Global) → asked_entry page ≡ Some g → region_of g ≡ PageTable
in-region page g k =
    let i = asked_is page g (sym k) in
    let d : g.0 / table_bytes ≡ table_index = omega (arith, i.0, i.1) in
    sym (region-table g (prefix_of g) refl (λ e. omega (arith, e, d)) (λ e. omega (arith, e, d)) d)

outside-table : (s : Shape) (frame : ℕ) (region : Region) → region ≡ PageTable → outside s frame region ≡ true
unfolding outside
outside-table s frame region e = rw e

row-12 : (s : Shape) (b : Board) (a : Access) (g : Global) → region_of g ≡ PageTable → applies_in (supervisor_table s b a g) 12 ≡ true
unfolding supervisor_table
row-12 s b a g e =
    row-later _ _ 12 (row-later _ _ 12 (row-later _ _ 12 (row-later _ _ 12 (row-later _ _ 12 (row-later _ _ 12
    (row_here (row 12 (outside s (frame_under g) (region_of g))) [] (outside-table s (frame_under g) (region_of g) e)))))))

apart : (p q : ℕ) (g : Global) → asked_entry p ≡ Some g → asked_entry q ≡ Some g → p ≡ q
apart p q g k l =
    let i = asked_is p g (sym k) in
    let j = asked_is q g (sym l) in
    omega (arith, i.0, j.0)

pub entries-stand : EntriesStand
entries-stand = record { in_table_region = in-region; no_access = λ s b a page g k. row-12 s b a g (in-region page g k); apart = apart }
