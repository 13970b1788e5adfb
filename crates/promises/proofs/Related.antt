-- A call on the board and the same call on the plain machine: refused alike by one table, or done alike.
-- Stands on Sim, Maps, Shapes and the table laws of `machine`.
use Prim.Native.Nat.{ℕ}
use mathlib.Core.Path.{◌≡◌, refl, sym, ◌∙◌}
use mathlib.Core.Bool.{Bool, true, false, cond}
use mathlib.Core.List.{List}
use lib.ListN.{length}
use Rattle.pages.specs.Pages.{home_of}
use Rattle.board.specs.declared.Shape.{Shape}
use Rattle.board.specs.declared.Answer.{Answer}
use Rattle.machine.specs.Boards.{Board, fits_board, Outcome, outcome, refused}
use Rattle.machine.specs.Refusals.{Row, by_table}
use Rattle.machine.proofs.Tables.{Passed, table-both}
use Rattle.promises.specs.Plain.{Given, given, plain_refused}
use Rattle.promises.specs.Runs.{plain_of}
use Rattle.store_laws.proofs.Sim.{Homes, Sim}
use Rattle.page_laws.proofs.Maps.{homes-map}
use Rattle.promises.proofs.Shapes.{board-shaped}

-- the board's outcome and what the plain machine gives: the same number and value, and a board that stands for the plain machine after
pub record Related (s : Shape) (o : Outcome) (g : Given) : Type 0 where
  pub memory : List ℕ
  pub given_is : g ≡ given o.answer.number o.answer.value (plain_of o.after memory)
  pub sim : Sim s (home_of s o.after.words) o.after.store memory

-- no two names have one home on a board that fits
pub board-homes : (s : Shape) (b : Board) → fits_board s b ≡ true → Homes s (home_of s b.words)
board-homes s b h = homes-map s b.words (board-shaped s b h).words_are

module _ (s : Shape) (b : Board) (m : List ℕ) (x : Sim s (home_of s b.words) b.store m) where
  -- the two memories are as long, so number 1 asks the same of both machines
  pub lengths-same : length m ≡ length b.store.memory
  lengths-same = x.flat_count ∙ sym x.memory_count

  pub related-refused : (n : ℕ) → Related s (refused b n) (plain_refused (plain_of b m) n)
  related-refused n = record { memory = m; given_is = refl; sim = x }

  -- done alike: the plain machine has the board's slots, words and tag, and the lengths have not changed
  pub related-done : (a : Answer) (c : Board) (n : List ℕ) → length c.uses ≡ length b.uses → Sim s (home_of s c.words) c.store n
      → Related s (outcome a c) (given a.number a.value (record {
        slots = c.slots;
        words = c.words;
        tag = c.tag;
        memory = n;
        records_length = length b.store.records;
        cache_length = length b.store.cache;
        uses_length = length b.uses;
      }))
  related-done a c n u y = record {
    memory = n;
    sim = y;
    given_is = let e : length b.store.records ≡ length c.store.records = x.record_count ∙ sym y.record_count in
        let f : length b.store.cache ≡ length c.store.cache = x.cache_count ∙ sym y.cache_count in rw (e, f, ← u);
  }

  -- one table on both machines: refused alike, or done alike
  pub related-table : (rows : List Row) (d : Outcome) (e : Given) → (Passed rows → Related s d e)
      → Related s (by_table (refused b) rows d) (by_table (plain_refused (plain_of b m)) rows e)
  related-table = table-both (Related s) (refused b) (plain_refused (plain_of b m)) related-refused

  -- a row more, with one test on both machines
  pub related-row : (n : ℕ) (t : Bool) (d : Outcome) (e : Given) → (t ≡ false → Related s d e)
      → Related s (cond t (refused b n) d) (cond t (plain_refused (plain_of b m) n) e)
  related-row n true d e h = related-refused n
  related-row n false d e h = h refl
