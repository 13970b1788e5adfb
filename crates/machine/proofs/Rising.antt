-- Every table rises: its numbers are literals, in order. So number 0 says that no row applies.
use Prim.Native.Nat.{ℕ, suc, ◌≤◌}
use mathlib.Core.Path.{◌≡◌, refl}
use mathlib.Core.Bool.{Bool, true, false, cond}
use mathlib.Core.List.{List, [], ◌∷◌}
use native.Mathlib.Omega.{arith}
use lib.Dec.{leb}
use borrow.Author.Tests.{leb-true}
use Rattle.board.proofs.Bools.{and_left, and_right}
use Rattle.machine.specs.Refusals.{Row, by_table}
use Rattle.machine.specs.Accesses.{user_table, supervisor_table}
use Rattle.machine.specs.Rising.{rising, TablesRise}
use Rattle.machine.proofs.Tables.{Passed, passed-more}

pub tables-rise : TablesRise
unfolding user_table supervisor_table rising
tables-rise = record {
  user_access = λ s b process a e. refl;
  user_accesses = λ s b accesses answers. refl;
  supervisor_access = λ s b a g. refl;
  attach = λ s b process slot segment. refl;
  detach = λ s b process slot. refl;
  map = λ s b page frame. refl;
  page = λ s b page. refl;
  move = λ s b page new. refl;
  flush_all = λ s b. refl;
  tag = λ s b name. refl;
  load_and_map = λ s b line. refl;
  drop_tag = λ s b. refl;
  look = λ s b line. refl;
  entry = λ page. refl;
}

-- where a table that rises from 1 up gives the number 0, no row applies; `done` is the number of what is done
pub zero-passed : (from : ℕ) (rows : List Row) (done : ℕ) → 1 ≤ from → rising from rows ≡ true → by_table (λ n. n) rows done ≡ 0 → Passed rows
unfolding by_table rising
zero-passed from [] done b h e = λ i. refl
zero-passed from (r ∷ rows) done b h e =
    go r.applies refl e (zero-passed (suc r.number) rows done (omega arith) (and_right (leb from r.number) (rising (suc r.number) rows) h))
  where
    go : (t : Bool) → r.applies ≡ t → cond t r.number (by_table (λ n. n) rows done) ≡ 0 → (by_table (λ n. n) rows done ≡ 0 → Passed rows) → Passed (r ∷ rows)
    go true t e later = let l = leb-true from r.number (and_left (leb from r.number) (rising (suc r.number) rows) h) in absurd (omega arith)
    go false t e later = passed-more r rows t (later e)
