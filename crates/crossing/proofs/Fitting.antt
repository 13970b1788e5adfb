-- The answers of the calls fit the packing: a refusal has one of the numbers of its table, and every mark is below 5.
use Rattle.std.specs.Prelude.{Option, Some, None}
use Prim.Native.Nat.{ℕ, zero, suc, ◌<◌}
use mathlib.Core.Path.{◌≡◌, refl, sym, subst}
use mathlib.Core.Bool.{Bool, true, false, not, ◌&&◌, cond}
use mathlib.Core.List.{List, [], ◌∷◌}
use native.Mathlib.Omega.{arith}
use lib.Dec.{ltb}
use lib.ListN.{get_or}
use borrow.Author.Tests.{ltb-true}
use Rattle.address.specs.Addresses.{region_of, physical_of}
use Rattle.address.specs.declared.Effective.{Effective}
use Rattle.address.specs.declared.Global.{Global}
use Rattle.address.specs.declared.Physical.{Physical}
use Rattle.address.specs.declared.Region.{Region}
use Rattle.address.specs.declared.Region.TheVariants.{Uncached, Cached, PageTable, Ordinary}
use Rattle.board.specs.Answers.{mark_of}
use Rattle.board.specs.declared.Answer.{Answer}
use Rattle.board.specs.declared.Shape.{Shape}
use Rattle.board.proofs.Bools.{and_left, and_right}
use Rattle.lines.specs.Victims.{Uses}
use Rattle.stores.specs.Stores.{Store}
use Rattle.stores.specs.declared.Access.{Access}
use Rattle.reach.specs.declared.Way.{Way}
use Rattle.reach.specs.declared.Way.TheVariants.{Held, InMemory}
use Rattle.machine.specs.Boards.{Board, Outcome, outcome, refused}
use Rattle.machine.specs.Lists.{Asked, Answered, access_on, one_by_one, Listed, listed, taken, list_refused, list_done, user_accesses}
use Rattle.machine.specs.Refusals.{Row, by_table}
use Rattle.machine.specs.Accesses.{performed_on, accessed_by, accessed, memory_access, supervisor_done, user_table, supervisor_table, user_access, supervisor_access}
use Rattle.machine.specs.Calls.{attach, detach, map_page, unmap, protect, move_page, flush_all, tag, load_and_map, drop_tag}
use Rattle.crossing.specs.Packing.{byte_end, Small}
use Rattle.crossing.specs.Answers.{AnswersFit}

-- every number of a table fits a byte
low_rows : List Row → Bool
low_rows [] = true
low_rows (r ∷ rows) = ltb r.number byte_end && low_rows rows

small-either : (t : Bool) (x y : Outcome) → Small x.answer → Small y.answer → Small (cond t x y).answer
small-either true x y p q = p
small-either false x y p q = q

small-table : (b : Board) (rows : List Row) (d : Outcome) → low_rows rows ≡ true → Small d.answer → Small (by_table (refused b) rows d).answer
unfolding by_table low_rows
small-table b [] d e z = z
small-table b (r ∷ rows) d e z =
    let n = ltb-true r.number byte_end (and_left (ltb r.number byte_end) (low_rows rows) e) in
    small-either r.applies (refused b r.number) (by_table (refused b) rows d)
    (record { number_below = n; mark_below = omega arith })
    (small-table b rows d (and_right (ltb r.number byte_end) (low_rows rows) e) z)

small-zero : {a : Answer} → a.number ≡ 0 → a.mark ≡ 0 → Small a
small-zero n m = record { number_below = omega arith; mark_below = omega arith }

small-mark : (held back : Bool) → mark_of held back < byte_end
unfolding mark_of
small-mark true back = omega arith
small-mark false true = omega arith
small-mark false false = omega arith

small-way : (s : Shape) (to name offset : ℕ) (a : Access) (b : Store) (w : Option Way) → Small (accessed_by s to name offset a b w).answer
unfolding accessed_by performed_on
small-way s to name offset a b (Some (Held i write)) = record { number_below = omega arith; mark_below = small-mark true false }
small-way s to name offset a b (Some (InMemory line write)) = record { number_below = omega arith; mark_below = small-mark false _ }
small-way s to name offset a b None = record { number_below = omega arith; mark_below = omega arith }

small_line : (s : Shape) (words : List ℕ) (g : Global) (a : Access) (b : Store) (uses : Uses)
    → Small (accessed s words g a b uses).reached.answer
unfolding accessed
small_line s words g a b uses = small-way s _ _ _ a b _

small-memory : (p : Physical) (store : Bool) (width value : ℕ) (b : Store) → Small (memory_access p (record { store = store; width = width; value = value }) b).answer
unfolding memory_access
small-memory p true width value b = record { number_below = omega arith; mark_below = omega arith }
small-memory p false width value b = record { number_below = omega arith; mark_below = omega arith }

small-region : (s : Shape) (words : List ℕ) (a : Access) (g : Global) (b : Store) (uses : Uses) (region : Region)
    → Small (supervisor_done s words a g b uses region).reached.answer
unfolding supervisor_done
small-region s words a g b uses Uncached = small-memory (physical_of g) a.store a.width a.value b
small-region s words a g b uses Cached = small_line s words g a b uses
small-region s words a g b uses PageTable = record { number_below = omega arith; mark_below = omega arith }
small-region s words a g b uses Ordinary = small_line s words g a b uses

small-user : (s : Shape) (b : Board) (process : ℕ) (a : Access) (e : Effective) → Small (user_access s b process a e).answer
unfolding user_access user_table low_rows
small-user s b process a e = small-table b (user_table s b process a e) _ refl (small_line s _ _ a b.store b.uses)

small-supervisor : (s : Shape) (b : Board) (a : Access) (g : Global) → Small (supervisor_access s b a g).answer
unfolding supervisor_access supervisor_table low_rows
small-supervisor s b a g = small-table b (supervisor_table s b a g) _ refl (small-region s b.words a g b.store b.uses (region_of g))

-- a list's own answer
small-list : (s : Shape) (b : Board) (accesses : List ℕ) (answers : List Answer) → Small (user_accesses s b accesses answers).answer
unfolding user_accesses by_table
small-list s b accesses answers = go (not (taken s b accesses answers)) _
  where
    go : (t : Bool) (x : Answered) → Small (cond t (list_refused answers b 1) (list_done x)).answer
    go true x = record { number_below = omega arith; mark_below = omega arith }
    go false x = record { number_below = omega arith; mark_below = omega arith }

small-listed : (s : Shape) (b : Board) (ks : List Asked) (i : ℕ) (other : Answer) → Small other → Small (get_or (one_by_one s b ks).answers i other)
unfolding one_by_one
small-listed s b [] i other z = z
small-listed s b (k ∷ ks) zero other z = small-user s b k.process k.access k.address
small-listed s b (k ∷ ks) (suc i) other z = small-listed s (access_on s b k).after ks i other z

pub answers-fit : AnswersFit
unfolding attach detach map_page unmap protect move_page flush_all tag load_and_map drop_tag low_rows
answers-fit = record {
  user_access = small-user;
  user_accesses = small-list;
  listed = small-listed;
  supervisor_access = small-supervisor;
  attach = λ s b process slot segment write. small-table b _ _ refl (small-zero refl refl);
  detach = λ s b process slot. small-table b _ _ refl (small-zero refl refl);
  map = λ s b page frame write. small-table b _ _ refl (small-zero refl refl);
  unmap = λ s b page. small-table b _ _ refl (small-zero refl refl);
  protect = λ s b page write. small-table b _ _ refl (small-zero refl refl);
  move = λ s b page new. small-table b _ _ refl (small-zero refl refl);
  flush_all = λ s b. small-table b _ _ refl (small-zero refl refl);
  tag = λ s b name. small-table b _ _ refl (small-zero refl refl);
  load_and_map = λ s b line. small-table b _ _ refl (small-zero refl refl);
  drop_tag = λ s b. small-table b _ _ refl (small-zero refl refl);
}

-- the answer of an outcome fits where the outcome is a call's
small_is : (a : Answer) (b : Board) (o : Outcome) → Small o.answer → outcome a b ≡ o → Small a
small_is a b o z e = subst (λ (x : Outcome). Small x.answer) (sym e) z

pub list-small : (x : Answer) (left : Answered) (s : Shape) (b : Board) (accesses : List ℕ) (answers : List Answer)
    → listed x left ≡ user_accesses s b accesses answers → Small x
list-small x left s b accesses answers h = subst (λ (o : Listed). Small o.answer) (sym h) (answers-fit.user_accesses s b accesses answers)

module _ (x : Answer) (b₁ : Board) (s : Shape) (b : Board) where
  pub user-small : (process : ℕ) (a : Access) (e : Effective) → outcome x b₁ ≡ user_access s b process a e → Small x
  user-small process a e h = small_is x b₁ _ (answers-fit.user_access s b process a e) h

  pub supervisor-small : (a : Access) (g : Global) → outcome x b₁ ≡ supervisor_access s b a g → Small x
  supervisor-small a g h = small_is x b₁ _ (answers-fit.supervisor_access s b a g) h

  pub tag_small : (name : ℕ) → outcome x b₁ ≡ tag s b name → Small x
  tag_small name h = small_is x b₁ _ (answers-fit.tag s b name) h

  pub load-small : (line : ℕ) → outcome x b₁ ≡ load_and_map s b line → Small x
  load-small line h = small_is x b₁ _ (answers-fit.load_and_map s b line) h

  pub drop-small : outcome x b₁ ≡ drop_tag s b → Small x
  drop-small h = small_is x b₁ _ (answers-fit.drop_tag s b) h

  pub attach-small : (process slot segment : ℕ) (write : Bool) → outcome x b₁ ≡ attach s b process slot segment write → Small x
  attach-small process slot segment write h = small_is x b₁ _ (answers-fit.attach s b process slot segment write) h

  pub detach-small : (process slot : ℕ) → outcome x b₁ ≡ detach s b process slot → Small x
  detach-small process slot h = small_is x b₁ _ (answers-fit.detach s b process slot) h

  pub map-small : (page frame : ℕ) (write : Bool) → outcome x b₁ ≡ map_page s b page frame write → Small x
  map-small page frame write h = small_is x b₁ _ (answers-fit.map s b page frame write) h

  pub unmap-small : (page : ℕ) → outcome x b₁ ≡ unmap s b page → Small x
  unmap-small page h = small_is x b₁ _ (answers-fit.unmap s b page) h

  pub protect-small : (page : ℕ) (write : Bool) → outcome x b₁ ≡ protect s b page write → Small x
  protect-small page write h = small_is x b₁ _ (answers-fit.protect s b page write) h

  pub move-small : (page new : ℕ) → outcome x b₁ ≡ move_page s b page new → Small x
  move-small page new h = small_is x b₁ _ (answers-fit.move s b page new) h

  pub flush-small : outcome x b₁ ≡ flush_all s b → Small x
  flush-small h = small_is x b₁ _ (answers-fit.flush_all s b) h
