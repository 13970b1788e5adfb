-- CR 8: a run in which every mark comes, and what two of them tell there.
use Rattle.std.specs.Prelude.{◌≡◌, false, List, [], ◌∷◌}
use Rattle.board.specs.Answers.{answer}
use Rattle.promises.specs.Runs.{Call, after}
use Rattle.promises.specs.Marks.{Refilled, WroteBack}
use Rattle.example_runs.specs.Examples.{shape, start, load, save, opening, pushing, run_a, answers}
use Rattle.example_runs.specs.Values.{save_byte}

-- run A goes on: the supervisor stores 255 in the first byte of memory (prefix 0), and process 1 tries to store 8 over the 50
abbrev pub run : List Call
run = pushing (load 0 3 ∷ load 1 0x400003 ∷ save_byte 0 255 ∷ save 1 1 3 8 ∷ [])

pub record MarksExample : Type 0 where
  -- five calls that are no accesses: 0. The 50 is stored: 2; and found: 1. The 7 is stored, and the 50 loaded, each over the other's changed line: 3.
  -- The 7 is loaded, over a line that is not changed: 2. Past the cache: 4. Refused: 0
  pub answers_are : answers shape start run
      ≡ answer 0 0 0 ∷ answer 0 0 0 ∷ answer 0 0 0 ∷ answer 0 0 0 ∷ answer 0 0 0 ∷ answer 0 0 2 ∷ answer 0 50 1 ∷ answer 0 0 3 ∷ answer 0 50 3 ∷ answer 0 7 2
      ∷ answer 0 0 4 ∷ answer 7 0 0 ∷ []
  -- what the 3 of the store of 7 tells: the 50 was written back
  pub wrote_back : WroteBack shape (after shape start (opening false (load 1 3 ∷ []))).store (after shape start (pushing [])).store
  -- what the 2 of the load of 7 tells: its line was refilled, and none written back
  pub refilled : Refilled shape (after shape start (pushing (load 0 3 ∷ []))).store (after shape start run_a).store 0x20040000
  pub none_back : WroteBack shape (after shape start (pushing (load 0 3 ∷ []))).store (after shape start run_a).store → ⊥
