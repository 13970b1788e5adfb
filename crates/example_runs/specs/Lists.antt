-- CR 12: a list with a refused access in its midst, lists that are refused, and two runs in which lists come.
use Rattle.std.specs.Prelude.{ℕ, ◌*◌, ◌≡◌, true, false, List, [], ◌∷◌, ◌++◌, map, length, replicate, drop}
use Rattle.board.specs.Answers.{answer}
use Rattle.board.specs.declared.Answer.{Answer}
use Rattle.machine.specs.Boards.{Board, fits_board}
use Rattle.machine.specs.Lists.{access_words, answered, listed, list_refused, user_accesses}
use Rattle.promises.specs.Runs.{after}
use Rattle.promises.specs.Brought.{bringing, BroughtApart, BroughtMovesAlike, TwoRuns}
use Rattle.promises.specs.Lists.{Turn, single, list, calls_of, gets}
use Rattle.example_runs.specs.Examples.{shape, start, load, save, gets as given, opening, run_a, run_b}

-- process 0 loads the byte at 3, stores 300 there with width 1, stores 255 there, and loads it again
abbrev pub accesses : List ℕ
accesses =
    0 ∷ 0 ∷ 1 ∷ 3 ∷ 0
    ∷ 0 ∷ 1 ∷ 1 ∷ 3 ∷ 300
    ∷ 0 ∷ 1 ∷ 1 ∷ 3 ∷ 255
    ∷ 0 ∷ 0 ∷ 1 ∷ 3 ∷ 0 ∷ []

-- an answers' buffer of n answers, with anything in it
abbrev pub buffer : ℕ → List Answer
buffer n = replicate n (answer 13 77 4)

-- the opening of `Examples` leaves 50 in the first four bytes of process 0's page
abbrev pub opened : Board
opened = after shape start (opening false [])

-- runs A and B of `Examples`, with the accesses after the opening as one list each
abbrev pub turns_a : List Turn
turns_a =
    map (single shape) (opening false [])
    ++ (list shape (1 ∷ 0 ∷ 1 ∷ 3 ∷ 0 ∷ 1 ∷ 1 ∷ 4 ∷ 0x400000 ∷ 7 ∷ 0 ∷ 0 ∷ 1 ∷ 3 ∷ 0 ∷ 1 ∷ 0 ∷ 1 ∷ 0x400003 ∷ 0 ∷ []) (buffer 4) ∷ [])

abbrev pub turns_b : List Turn
turns_b =
    map (single shape) (opening false [])
    ++ (list shape (1 ∷ 1 ∷ 4 ∷ 0x400010 ∷ 9 ∷ 1 ∷ 1 ∷ 1 ∷ 3 ∷ 8 ∷ 0 ∷ 0 ∷ 1 ∷ 3 ∷ 0 ∷ []) (buffer 3) ∷ [])

pub record ListExample : Type 0 where
  -- the store of 300 is refused with 2, and the accesses after it are done: the last one loads what the third stored. The board is that after the
  -- same accesses as calls
  pub done : user_accesses shape opened accesses (buffer 4)
      ≡ listed (answer 0 0 0) (answered (answer 0 50 1 ∷ answer 2 0 0 ∷ answer 0 0 1 ∷ answer 0 255 1 ∷ [])
      (after shape start (opening false (load 0 3 ∷ save 0 1 3 300 ∷ save 0 1 3 255 ∷ load 0 3 ∷ []))))
  -- with a word too few, an answer too few and an answer too many it is refused by 1, and leaves answers and board
  pub word_missing : user_accesses shape opened (drop 1 accesses) (buffer 4) ≡ list_refused (buffer 4) opened 1
  pub answer_missing : user_accesses shape opened accesses (buffer 3) ≡ list_refused (buffer 3) opened 1
  pub answer_more : user_accesses shape opened accesses (buffer 5) ≡ list_refused (buffer 5) opened 1
  -- a list of no accesses is done
  pub none : user_accesses shape opened [] [] ≡ listed (answer 0 0 0) (answered [] opened)
  -- the first meets the premises of `ListsAreCalls`, field `is_calls`
  pub fits : fits_board shape opened ≡ true
  pub five_each : length accesses ≡ access_words * length (buffer 4)
  -- the two runs stand for the calls of runs A and B, and meet the premises of field `runs_fresh`: process 0 gets 0 for its store
  -- and 50 for its load in both
  pub calls_A : calls_of start turns_a ≡ bringing shape run_a
  pub calls_B : calls_of start turns_b ≡ bringing shape run_b
  pub two_runs : TwoRuns shape start (calls_of start turns_a) (calls_of start turns_b) 0
  pub apart : BroughtApart shape start (calls_of start turns_a) 0
  pub moves_alike : BroughtMovesAlike start (calls_of start turns_a) (calls_of start turns_b) 0
  pub gets_A : gets 0 start turns_a ≡ given 0 0 ∷ given 0 50 ∷ []
  pub gets_B : gets 0 start turns_b ≡ given 0 0 ∷ given 0 50 ∷ []
