-- A supervisor access: the plan carried to the access's table, region by region, and return by return.
use Rattle.std.specs.Prelude.{Result, Ok, Err}
use Prim.Native.Nat.{ℕ}
use mathlib.Core.Path.{◌≡◌, ◌∙◌, refl, sym, ap}
use mathlib.Core.Bool.{Bool, true, false, not, ◌&&◌, ◌||◌, cond}
use mathlib.Core.List.{List, [], ◌∷◌}
use lib.ListN.{length}
use lib.Dec.{leb}
use Rattle.address.specs.Addresses.{region_of, prefix_of, physical_of}
use Rattle.address.specs.declared.Global.{Global}
use Rattle.address.specs.declared.Physical.{Physical}
use Rattle.address.specs.declared.Region.{Region}
use Rattle.address.specs.declared.Region.TheVariants.{Uncached, Cached, PageTable, Ordinary}
use Rattle.board.specs.Shapes.{fits_shape}
use Rattle.board.specs.Refusals.{number_of, refusal_of, fit, access_answer}
use Rattle.board.specs.declared.Accessed.{Accessed}
use Rattle.board.specs.declared.Answer.{Answer}
use Rattle.board.specs.declared.Refusal.{Refusal}
use Rattle.board.specs.declared.Shape.{Shape}
use Rattle.board.specs.declared.Pending.{Pending}
use Rattle.lines.specs.Victims.{Uses}
use Rattle.reach.specs.Reach.{unreached, may_write}
use Rattle.stores.specs.Stores.{store}
use Rattle.stores.specs.declared.Access.{Access}
use Rattle.machine.specs.Boards.{Board, sets_board, Outcome, outcome, refused}
use Rattle.machine.specs.Refusals.{Row, row, by_table, too_large, aligned_to, is_global, word_in_use, is_ordinary, is_cached, outside}
use Rattle.machine.specs.Accesses.{Reached, reached, stopped, touched, way_to, accessed, on_board, frame_under, memory_access, supervisor_table, supervisor_done, supervisor_access}
use Rattle.machine.proofs.Tables.{table-map}
use Rattle.machine.proofs.Fits.{fitted-table, unfitted}
use Rattle.machine.proofs.Prefixes.{region-cached, prefix-reached}
use Rattle.line_access.specs.LineAccess.{line_access}
use Rattle.supervisor_access.specs.Plans.{target, region_plan, waits, supervisor_plan}
use Rattle.supervisor_access.specs.declared.Place.{Place}
use Rattle.supervisor_access.specs.declared.Place.TheVariants.{Line, Memory}

-- ---- what follows a plan

unfoldable planned : Shape → Board → Access → Result Place Refusal → Outcome
planned s b a (Err why) = refused b (number_of why)
planned s b a (Ok (Line h)) = on_board b (line_access s b.words h false a b.store b.uses)
planned s b a (Ok (Memory p)) = on_board b (touched (memory_access p a b.store) b.uses)

module _ (s : Shape) (b : Board) (a : Access) (g : Global) where
  -- the rows that a region's plan decides, and those of a line
  abbrev region_rows : Region → List Row
  region_rows region =
      row 8 (is_ordinary region && unreached (way_to s b.words b.store.records g))
      ∷ row 10 (is_cached region && word_in_use b.words (frame_under g))
      ∷ row 12 (outside s (frame_under g) region) ∷ []

  abbrev region_done : Region → Outcome
  region_done region = on_board b (supervisor_done s b.words a g b.store b.uses region)

  -- only row 8 of a line is asked of a supervisor
  planned-line : planned s b a (Ok (Line g))
      ≡ cond (unreached (way_to s b.words b.store.records g)) (refused b 8) (on_board b (accessed s b.words g a b.store b.uses))
  unfolding planned line_access by_table
  planned-line =
      table-map (on_board b) (λ n. touched (stopped b.store n) b.uses)
      (row 8 (unreached (way_to s b.words b.store.records g))
      ∷ row 9 (false && (a.store && not (may_write (way_to s b.words b.store.records g)))) ∷ [])
      (accessed s b.words g a b.store b.uses)

  rows-ordinary : planned s b a (region_plan s b.words g Ordinary) ≡ by_table (refused b) (region_rows Ordinary) (region_done Ordinary)
  unfolding region_plan by_table is_ordinary is_cached outside target supervisor_done
  rows-ordinary = planned-line

  rows-uncached : planned s b a (region_plan s b.words g Uncached) ≡ by_table (refused b) (region_rows Uncached) (region_done Uncached)
  unfolding region_plan by_table is_ordinary is_cached outside target supervisor_done planned
  rows-uncached = table-map (planned s b a) (λ n. Err (refusal_of n)) (row 12 (leb s.uncached (frame_under g)) ∷ []) (Ok (Memory (physical_of g)))

  rows-table : planned s b a (region_plan s b.words g PageTable) ≡ by_table (refused b) (region_rows PageTable) (region_done PageTable)
  unfolding region_plan by_table is_ordinary is_cached outside target planned
  rows-table = refl

  -- row 8 asks nothing more where rows 10 and 12 have passed
  row-8-passed : (x y z : Bool) (d : Outcome) → (x ≡ false → y ≡ false → z ≡ false)
      → cond x (refused b 10) (cond y (refused b 12) (cond z (refused b 8) d)) ≡ cond x (refused b 10) (cond y (refused b 12) d)
  row-8-passed true y z d h = refl
  row-8-passed false true z d h = refl
  row-8-passed false false z d h = rw (h refl refl)

  rows-cached : prefix_of g ≡ 1 → planned s b a (region_plan s b.words g Cached) ≡ by_table (refused b) (region_rows Cached) (region_done Cached)
  unfolding region_plan by_table is_ordinary is_cached target supervisor_done planned
  rows-cached p =
      table-map (planned s b a) (λ n. Err (refusal_of n)) (row 10 (word_in_use b.words (frame_under g)) ∷ row 12 (outside s (frame_under g) Cached) ∷ []) (Ok (Line g))
      ∙ ap (λ (d : Outcome). cond (word_in_use b.words (frame_under g)) (refused b 10) (cond (outside s (frame_under g) Cached) (refused b 12) d)) planned-line
      ∙ row-8-passed (word_in_use b.words (frame_under g)) (outside s (frame_under g) Cached) (unreached (way_to s b.words b.store.records g))
      (on_board b (accessed s b.words g a b.store b.uses)) (prefix-reached s b.words g p b.store.records)

  rows-region : (region : Region) → region_of g ≡ region
      → planned s b a (region_plan s b.words g region) ≡ by_table (refused b) (region_rows region) (region_done region)
  rows-region Uncached e = rows-uncached
  rows-region Cached e = rows-cached (region-cached g e)
  rows-region PageTable e = rows-table
  rows-region Ordinary e = rows-ordinary

  planned-rows : planned s b a (supervisor_plan s b.words b.tag a g)
      ≡ by_table (refused b)
      (row 2 (not (is_global g) || too_large a) ∷ row 3 (is_ordinary (region_of g) && b.tag.set) ∷ row 4 (not (aligned_to a.width g.0)) ∷ region_rows (region_of g))
      (region_done (region_of g))
  unfolding supervisor_plan waits by_table planned
  planned-rows =
      table-map (planned s b a) (λ n. Err (refusal_of n))
      (row 2 (not (is_global g) || too_large a) ∷ row 3 (is_ordinary (region_of g) && b.tag.set) ∷ row 4 (not (aligned_to a.width g.0)) ∷ [])
      (region_plan s b.words g (region_of g))
      ∙ ap (by_table (refused b) (row 2 (not (is_global g) || too_large a) ∷ row 3 (is_ordinary (region_of g) && b.tag.set) ∷ row 4 (not (aligned_to a.width g.0)) ∷ []))
      (rows-region (region_of g) refl)

module _ (s : Shape) (slots words r c m : List ℕ) (u : Uses) (tag : Pending) (a : Access) (g : Global) (t : Result Unit Refusal)
    (f : t ≡ fit (fits_shape s (length slots) (length words) (length r) (length c) (length m) (length u))) where
  abbrev b : Board
  b = sets_board slots words r c m u tag

  pub supervisor-unfit : (x : Result Accessed Refusal) (why : Refusal) → t ≡ Err why → x ≡ Err why → outcome (access_answer x) b ≡ supervisor_access s b a g
  unfolding supervisor_access supervisor_table
  supervisor-unfit x why h i = rw i (unfitted s slots words r c m u t f (Err why) why tag _ _ h refl)

  module _ (h : t ≡ Ok tt) (k : Result Place Refusal) (q : k ≡ supervisor_plan s words tag a g) where
    supervisor-on : planned s b a k ≡ supervisor_access s b a g
    unfolding supervisor_access supervisor_table
    supervisor-on = ap (planned s b a) q ∙ planned-rows s b a g ∙ fitted-table s slots words r c m u t f h (refused b) tag _ _

    pub supervisor-stopped : (x : Result Accessed Refusal) (why : Refusal) → k ≡ Err why → x ≡ Err why → outcome (access_answer x) b ≡ supervisor_access s b a g
    unfolding planned
    supervisor-stopped x why i j = rw j (ap (planned s b a) (sym i) ∙ supervisor-on)

    pub supervisor-line : (l : Global) (x : Answer) (r₁ c₁ m₁ : List ℕ) (u₁ : Uses) → k ≡ Ok (Line l)
        → touched (reached x r₁ c₁ m₁) u₁ ≡ line_access s words l false a (store r c m) u
        → outcome x (sets_board slots words r₁ c₁ m₁ u₁ tag) ≡ supervisor_access s b a g
    unfolding planned
    supervisor-line l x r₁ c₁ m₁ u₁ i d = ap (on_board b) d ∙ ap (planned s b a) (sym i) ∙ supervisor-on

    pub supervisor-memory : (p : Physical) (x : Answer) (m₁ : List ℕ) → k ≡ Ok (Memory p) → reached x r c m₁ ≡ memory_access p a (store r c m)
        → outcome x (sets_board slots words r c m₁ u tag) ≡ supervisor_access s b a g
    unfolding planned
    supervisor-memory p x m₁ i d = ap (λ (y : Reached). on_board b (touched y u)) d ∙ ap (planned s b a) (sym i) ∙ supervisor-on
