-- A list of user accesses in one call (CR 12): accesses in, answers out.
use Rattle.std.specs.Prelude.{ℕ, zero, suc, ◌+◌, ◌*◌, Bool, not, ◌&&◌, List, [], ◌∷◌, length, get_or, eqb}
use Rattle.address.specs.Addresses.{effective}
use Rattle.address.specs.declared.Effective.{Effective}
use Rattle.board.specs.Answers.{answer, mark_no_access}
use Rattle.board.specs.Lists.{is_yes}
use Rattle.board.specs.declared.Shape.{Shape}
use Rattle.board.specs.declared.Answer.{Answer}
use Rattle.stores.specs.declared.Access.{Access}
use Rattle.machine.specs.Boards.{Board, Outcome, fits_board}
use Rattle.machine.specs.Refusals.{Row, row, by_table}
use Rattle.machine.specs.Accesses.{user_access}

-- ---- the accesses of a list

-- an access of a list: process; load or store, width, value; effective address
pub record Asked : Type 0 where
  pub process : ℕ
  pub access : Access
  pub address : Effective

-- a list has five words for each access, in 01's order: process, load or store (0 is a load, anything else a store), width, effective address, value
abbrev pub access_words : ℕ
access_words = 5

-- access number i of a list
abbrev pub ask_at : List ℕ → ℕ → Asked
ask_at accesses i = record {
  process = get_or accesses (access_words * i) 0;
  access = record {
    store = is_yes (get_or accesses (access_words * i + 1) 0);
    width = get_or accesses (access_words * i + 2) 0;
    value = get_or accesses (access_words * i + 4) 0;
  };
  address = effective (get_or accesses (access_words * i + 3) 0);
}

-- n accesses of a list, from number i on
unfoldable pub asks_from : List ℕ → ℕ → ℕ → List Asked
asks_from accesses i zero = []
asks_from accesses i (suc n) = ask_at accesses i ∷ asks_from accesses (suc i) n

-- ---- one by one

-- what a list leaves: the answers, in the accesses' order, and the board
pub record Answered : Type 0 where
  pub answers : List Answer
  pub after : Board

abbrev pub answered : List Answer → Board → Answered
answered answers b = record { answers = answers; after = b }

-- an access of a list on a board is a user access
abbrev pub access_on : Shape → Board → Asked → Outcome
access_on s b k = user_access s b k.process k.access k.address

-- an answer before the others
abbrev pub answer_first : Answer → Answered → Answered
answer_first a x = answered (a ∷ x.answers) x.after

-- each access on the board that the one before it left, whatever that one answered
unfoldable pub one_by_one : Shape → Board → List Asked → Answered
one_by_one s b [] = answered [] b
one_by_one s b (k ∷ ks) = answer_first (access_on s b k).answer (one_by_one s (access_on s b k).after ks)

-- ---- the call

-- what the call gives: its own answer, and what it leaves
pub record Listed : Type 0 where
  pub answer : Answer
  pub left : Answered

abbrev pub listed : Answer → Answered → Listed
listed a x = record { answer = a; left = x }

-- a list is taken if the board's numbers and lengths fit, as for any call, and it has five words for each answer
abbrev pub taken : Shape → Board → List ℕ → List Answer → Bool
taken s b accesses answers = fits_board s b && eqb (length accesses) (access_words * length answers)

-- 1 is all that refuses it. What refuses an access refuses that access alone
abbrev pub list_table : Shape → Board → List ℕ → List Answer → List Row
list_table s b accesses answers = row 1 (not (taken s b accesses answers)) ∷ []

-- refused: every answer, and the board, stay as they were
abbrev pub list_refused : List Answer → Board → ℕ → Listed
list_refused answers b n = listed (answer n 0 mark_no_access) (answered answers b)

-- done, by a call that is no access itself
abbrev pub list_done : Answered → Listed
list_done x = listed (answer 0 0 mark_no_access) x

-- the list, and what stands in the answers' buffer before the call
unfoldable pub user_accesses : Shape → Board → List ℕ → List Answer → Listed
user_accesses s b accesses answers =
    by_table (list_refused answers b) (list_table s b accesses answers) (list_done (one_by_one s b (asks_from accesses 0 (length answers))))
