-- Demand 1, from one law of rising tables: the first row that applies is the lowest, and what a table gives is
-- either the refusal of that row or, where no row applies, what is done. Stands on the laws of `machine` only.
use Rattle.std.specs.Prelude.{Some, None, Option}
use Prim.Native.Nat.{ℕ, suc, ◌%◌, ◌≤◌}
use mathlib.Core.Path.{◌≡◌, refl, subst}
use mathlib.Core.Bool.{Bool, true, false, not, ◌&&◌, ◌||◌, cond}
use mathlib.Core.List.{List, [], ◌∷◌}
use native.Mathlib.Omega.{arith}
use lib.Dec.{eqb, leb}
use borrow.Author.Tests.{eqb-true, eq-eqb, leb-true}
use Rattle.machine.specs.Looks.{look_table, look_number, look}
use Rattle.address.specs.Addresses.{name_of, region_of, physical_of, entry_of}
use Rattle.address.specs.Entries.{has_entry, asked_entry, entry_number, entry_value}
use Rattle.address.specs.declared.Effective.{Effective}
use Rattle.address.specs.declared.Global.{Global}
use Rattle.address.specs.declared.Physical.{Physical}
use Rattle.address.specs.declared.Region.{Region}
use Rattle.address.specs.declared.Region.TheVariants.{Uncached, Cached, PageTable, Ordinary}
use Rattle.board.specs.declared.Shape.{Shape}
use Rattle.board.specs.declared.Answer.{Answer}
use Rattle.board.proofs.Bools.{clash, and_left, and_right, or_right, cond_both}
use Rattle.lines.specs.Victims.{Uses}
use Rattle.stores.specs.Stores.{Store}
use Rattle.reach.specs.Reach.{unreached}
use Rattle.stores.specs.declared.Access.{Access}
use Rattle.reach.specs.declared.Way.{Way}
use Rattle.reach.specs.declared.Way.TheVariants.{Held, InMemory}
use Rattle.machine.specs.Boards.{Board, Outcome, refused}
use Rattle.machine.specs.Refusals.{Row, by_table, entry_table, outside, word_in_use, is_ordinary, is_cached}
use Rattle.machine.specs.Accesses.{Reached, accessed_by, accessed, performed_on, way_to, victim_for, user_global, user_table, user_access, frame_under, supervisor_table, memory_access, supervisor_done, supervisor_access}
use Rattle.machine.specs.Lists.{Answered, Listed, list_table, list_refused, list_done, user_accesses}
use Rattle.machine.specs.Calls as board
use Rattle.machine.specs.Rising.{rising, Rises}
use Rattle.machine.proofs.Tables.{Passed, passed-more, table-both}
use Rattle.machine.proofs.Rising.{tables-rise}
use Rattle.machine.proofs.Prefixes.{region-cached, prefix-reached}
use Rattle.promises.specs.Runs.{Supervisor, access, attach, detach, map, unmap, protect, move, flush_all, tag, load_and_map, drop_tag, Call, user, supervisor, supervise, step}
use Rattle.promises.specs.Demand1.{supervisor_rows, rows_of, applies_in, Lowest, Demand1, ListRefusals, LookRefusals, EntryRefusals}

-- ---- rising tables

row_number : (a : Bool) (m n : ℕ) → (a && eqb m n) ≡ true → m ≡ n
row_number a m n e = eqb-true m n (and_right a (eqb m n) e)

-- a number that the first row gives, and one that a later row gives
pub row_here : (r : Row) (rows : List Row) → r.applies ≡ true → applies_in (r ∷ rows) r.number ≡ true
unfolding applies_in
row_here r rows e = rw (e, eq-eqb r.number r.number refl)

pub row-later : (r : Row) (rows : List Row) (n : ℕ) → applies_in rows n ≡ true → applies_in (r ∷ rows) n ≡ true
unfolding applies_in
row-later r rows n e = or_right (r.applies && eqb r.number n) (applies_in rows n) e

-- a number that applies is not below the first
pub rising-from : (rows : List Row) (from k : ℕ) → rising from rows ≡ true → applies_in rows k ≡ true → from ≤ k
unfolding rising applies_in
rising-from [] from k h e = clash false e refl
rising-from (r ∷ rows) from k h e =
    go (r.applies && eqb r.number k) refl e (rising-from rows (suc r.number) k (and_right (leb from r.number) _ h))
  where
    go : (t : Bool) → (r.applies && eqb r.number k) ≡ t → (t || applies_in rows k) ≡ true → (applies_in rows k ≡ true → suc r.number ≤ k) → from ≤ k
    go true q e later = omega (arith, row_number r.applies r.number k q, leb-true from r.number (and_left (leb from r.number) _ h))
    go false q e later = omega (arith, later e, leb-true from r.number (and_left (leb from r.number) _ h))

-- what a rising table gives: what is done, if no row applies; else the refusal of the lowest row that applies
pub data Tabled {A : Type 0} (refuse : ℕ → A) (from : ℕ) (rows : List Row) (done : A) : A → Type 0 where
  passed : ((k : ℕ) → applies_in rows k ≡ false) → Passed rows → Tabled refuse from rows done done
  stopped : (n : ℕ) → from ≤ n → applies_in rows n ≡ true → ((k : ℕ) → applies_in rows k ≡ true → n ≤ k) → Tabled refuse from rows done (refuse n)

module _ {A : Type 0} (refuse : ℕ → A) (done : A) where
  more : (from : ℕ) (r : Row) (rows : List Row) (x : A) → from ≤ r.number → r.applies ≡ false → Tabled refuse (suc r.number) rows done x
      → Tabled refuse from (r ∷ rows) done x
  unfolding applies_in
  more from r rows x h e (passed p q) = passed (λ k. rw e (p k)) (passed-more r rows e q)
  more from r rows x h e (stopped n l a low) = stopped n (omega arith) (rw e a) (λ k q. low k (rw e at q))

  first : (from : ℕ) (r : Row) (rows : List Row) → from ≤ r.number → rising (suc r.number) rows ≡ true → r.applies ≡ true
      → Tabled refuse from (r ∷ rows) done (refuse r.number)
  unfolding applies_in
  first from r rows h up e = stopped r.number h (row_here r rows e) (λ k q. low k (rw e at q))
    where
      go : (k : ℕ) (t : Bool) → eqb r.number k ≡ t → (t || applies_in rows k) ≡ true → r.number ≤ k
      go k true q z = omega (arith, eqb-true r.number k q)
      go k false q z = omega (arith, rising-from rows (suc r.number) k up z)

      low : (k : ℕ) → (eqb r.number k || applies_in rows k) ≡ true → r.number ≤ k
      low k q = go k (eqb r.number k) refl q

  pub tabled : (from : ℕ) (rows : List Row) → rising from rows ≡ true → Tabled refuse from rows done (by_table refuse rows done)
  unfolding by_table rising applies_in
  tabled from [] h = passed (λ k. refl) (λ i. refl)
  tabled from (r ∷ rows) h = go r.applies refl (tabled (suc r.number) rows up)
    where
      up : rising (suc r.number) rows ≡ true
      up = and_right (leb from r.number) _ h

      low : from ≤ r.number
      low = leb-true _ _ (and_left (leb from r.number) _ h)

      go : (t : Bool) → r.applies ≡ t → Tabled refuse (suc r.number) rows done (by_table refuse rows done)
          → Tabled refuse from (r ∷ rows) done (cond t (refuse r.number) (by_table refuse rows done))
      go true e later = first from r rows low up e
      go false e later = more from r rows (by_table refuse rows done) low e later

-- a table that answers numbers alone
number-lowest : (rows : List Row) (n : ℕ) → Tabled (λ k. k) 1 rows 0 n → Lowest rows n
number-lowest rows n (passed p q) = record { none_applies = λ e k. p k; applies = λ e. absurd (e refl); lowest = λ k e. omega arith }
number-lowest rows n (stopped k l a low) = record { none_applies = λ e. absurd (omega arith); applies = λ e. a; lowest = low }

-- ---- the demand of one outcome

record Told (b : Board) (rows : List Row) (o : Outcome) : Type 0 where
  number_is_lowest : Lowest rows o.answer.number
  nothing_changed : (o.answer.number ≡ 0 → ⊥) → o ≡ refused b o.answer.number

module _ (b : Board) (rows : List Row) (d : Outcome) (zero : Passed rows → d.answer.number ≡ 0) where
  tabled-told : (o : Outcome) → Tabled (refused b) 1 rows d o → Told b rows o
  tabled-told o (passed p q) =
      let z = zero q in
      record {
        number_is_lowest = record {
          none_applies = λ n k. p k;
          applies = λ n. absurd (n z);
          lowest = λ k e. omega arith;
        };
        nothing_changed = λ n. absurd (n z);
      }
  tabled-told o (stopped n l a low) =
      record {
        number_is_lowest = record {
          none_applies = λ e. absurd (omega arith);
          applies = λ e. a;
          lowest = low;
        };
        nothing_changed = λ e. refl;
      }

  -- a rising table whose numbers start at 1, and what is done has number 0
  told : Rises rows → Told b rows (by_table (refused b) rows d)
  told h = tabled-told _ (tabled (refused b) d 1 rows h)

-- ---- what is done has number 0

-- an access to a line that is reached
module _ (s : Shape) (words : List ℕ) (g : Global) (a : Access) (b : Store) (uses : Uses) where
  accessed-by-zero : (to name offset : ℕ) (way : Option Way) → unreached way ≡ false → (accessed_by s to name offset a b way).answer.number ≡ 0
  unfolding accessed_by performed_on unreached
  accessed-by-zero to name offset (Some (Held i write)) h = refl
  accessed-by-zero to name offset (Some (InMemory line write)) h = refl
  accessed-by-zero to name offset None h = clash true refl h

  accessed-zero : unreached (way_to s words b.records g) ≡ false → (accessed s words g a b uses).reached.answer.number ≡ 0
  unfolding accessed
  accessed-zero h = accessed-by-zero (victim_for s uses b.records g) (name_of g) (g.0 % 16) (way_to s words b.records g) h

  outside-table : (frame : ℕ) → outside s frame PageTable ≡ true
  unfolding outside
  outside-table frame = refl

  memory-zero : (p : Physical) → (memory_access p a b).answer.number ≡ 0
  unfolding memory_access
  memory-zero p = cond_both (λ (r : Reached). r.answer.number ≡ 0) a.store _ _ refl refl

  supervisor-zero : (r : Region) → region_of g ≡ r → (is_ordinary r && unreached (way_to s words b.records g)) ≡ false
      → (is_cached r && word_in_use words (frame_under g)) ≡ false → outside s (frame_under g) r ≡ false
      → (supervisor_done s words a g b uses r).reached.answer.number ≡ 0
  unfolding supervisor_done is_ordinary is_cached
  supervisor-zero Uncached e x y z = memory-zero (physical_of g)
  supervisor-zero Cached e x y z = accessed-zero (prefix-reached s words g (region-cached g e) b.records y z)
  supervisor-zero PageTable e x y z = clash _ (outside-table (frame_under g)) z
  supervisor-zero Ordinary e x y z = accessed-zero x

-- ---- each call

module _ (s : Shape) (b : Board) where
  told-user : (process : ℕ) (a : Access) (e : Effective) → Told b (user_table s b process a e) (user_access s b process a e)
  unfolding user_access user_table
  told-user process a e =
      told b (user_table s b process a e) _ (λ q. accessed-zero s b.words (user_global b.slots process e) a b.store b.uses (q 7))
      (tables-rise.user_access s b process a e)

  told-access : (a : Access) (g : Global) → Told b (supervisor_table s b a g) (supervisor_access s b a g)
  unfolding supervisor_access supervisor_table
  told-access a g =
      told b (supervisor_table s b a g) _ (λ q. supervisor-zero s b.words g a b.store b.uses (region_of g) refl (q 4) (q 5) (q 6))
      (tables-rise.supervisor_access s b a g)

  told-supervisor : (c : Supervisor) → Told b (supervisor_rows s b c) (supervise s b c)
  unfolding supervisor_rows supervise board.attach board.detach board.map_page board.unmap board.protect board.move_page board.flush_all board.tag board.load_and_map board.drop_tag
  told-supervisor (access a g) = told-access a g
  told-supervisor (attach process slot segment write) = told b (supervisor_rows s b (attach process slot segment write)) _ (λ q. refl) (tables-rise.attach s b process slot segment)
  told-supervisor (detach process slot) = told b (supervisor_rows s b (detach process slot)) _ (λ q. refl) (tables-rise.detach s b process slot)
  told-supervisor (map page frame write) = told b (supervisor_rows s b (map page frame write)) _ (λ q. refl) (tables-rise.map s b page frame)
  told-supervisor (unmap page) = told b (supervisor_rows s b (unmap page)) _ (λ q. refl) (tables-rise.page s b page)
  told-supervisor (protect page write) = told b (supervisor_rows s b (protect page write)) _ (λ q. refl) (tables-rise.page s b page)
  told-supervisor (move page new) = told b (supervisor_rows s b (move page new)) _ (λ q. refl) (tables-rise.move s b page new)
  told-supervisor flush_all = told b (supervisor_rows s b flush_all) _ (λ q. refl) (tables-rise.flush_all s b)
  told-supervisor (tag name) = told b (supervisor_rows s b (tag name)) _ (λ q. refl) (tables-rise.tag s b name)
  told-supervisor (load_and_map line) = told b (supervisor_rows s b (load_and_map line)) _ (λ q. refl) (tables-rise.load_and_map s b line)
  told-supervisor drop_tag = told b (supervisor_rows s b drop_tag) _ (λ q. refl) (tables-rise.drop_tag s b)

  told-call : (k : Call) → Told b (rows_of s b k) (step s b k)
  unfolding rows_of step
  told-call (user process a e) = told-user process a e
  told-call (supervisor c) = told-supervisor c

  told-look : (line : ℕ) → LookRefusals s b line
  unfolding look_number look
  told-look line =
      record {
        number_is_lowest = number-lowest (look_table s b line) _ (tabled (λ n. n) 0 1 (look_table s b line) (tables-rise.look s b line));
        nothing_given = table-both (λ n l. (n ≡ 0 → ⊥) → l ≡ []) (λ n. n) (λ n. []) (λ n h. refl) (look_table s b line) 0 _ (λ p h. absurd (h refl));
      }

-- a list, by its own table
record ToldList (b : Board) (answers : List Answer) (rows : List Row) (o : Listed) : Type 0 where
  number_is_lowest : Lowest rows o.answer.number
  nothing_changed : (o.answer.number ≡ 0 → ⊥) → o ≡ list_refused answers b o.answer.number

list-told : (b : Board) (answers : List Answer) (rows : List Row) (d : Answered) (o : Listed) → Tabled (list_refused answers b) 1 rows (list_done d) o
    → ToldList b answers rows o
list-told b answers rows d o (passed p q) =
    record {
      number_is_lowest = record { none_applies = λ n k. p k; applies = λ n. absurd (n refl); lowest = λ k e. omega arith };
      nothing_changed = λ n. absurd (n refl);
    }
list-told b answers rows d o (stopped n l a low) =
    record { number_is_lowest = record { none_applies = λ e. absurd (omega arith); applies = λ e. a; lowest = low }; nothing_changed = λ e. refl }

told-list : (s : Shape) (b : Board) (accesses : List ℕ) (answers : List Answer) → ListRefusals s b accesses answers
unfolding user_accesses
told-list s b accesses answers =
    let t = list-told b answers (list_table s b accesses answers) _ _ (tabled (list_refused answers b) _ 1 (list_table s b accesses answers) (tables-rise.user_accesses s b accesses answers)) in
    record { number_is_lowest = t.number_is_lowest; nothing_changed = t.nothing_changed }

-- the number of an entry is its table's, and a refused one has value 0
entry-by : (t : Bool) (g : Global) → cond (not t) 2 0 ≡ entry_number (cond t (Some g) None)
unfolding entry_number
entry-by true g = refl
entry-by false g = refl

entry-nothing : (t : Bool) (g : Global) → (entry_number (cond t (Some g) None) ≡ 0 → ⊥) → entry_value (cond t (Some g) None) ≡ 0
unfolding entry_number entry_value
entry-nothing true g h = absurd (h refl)
entry-nothing false g h = refl

told-entry : (page : ℕ) → EntryRefusals page
unfolding asked_entry by_table
told-entry page =
    record {
      number_is_lowest =
          subst (Lowest (entry_table page)) (entry-by (has_entry page) (entry_of page))
          (number-lowest (entry_table page) _ (tabled (λ n. n) 0 1 (entry_table page) (tables-rise.entry page)));
      nothing_given = entry-nothing (has_entry page) (entry_of page);
    }

pub demand1 : Demand1
demand1 = record {
  calls = λ s b k. let t = told-call s b k in record { number_is_lowest = t.number_is_lowest; nothing_changed = t.nothing_changed };
  lists = told-list;
  looks = told-look;
  entries = told-entry;
}
