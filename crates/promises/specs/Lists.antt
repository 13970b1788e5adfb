-- CR 12: a list of user accesses is its accesses as calls, one after another. So what the demands say of runs holds of runs in which lists come.
use Rattle.std.specs.Prelude.{ℕ, ◌*◌, ◌/◌, ◌<◌, ◌≡◌, true, cond, List, [], ◌∷◌, ◌++◌, map, eqb, length, get_or, Some}
use Rattle.address.specs.Layout.{page_lines}
use Rattle.board.specs.Answers.{answer, mark_no_access}
use Rattle.board.specs.declared.Shape.{Shape}
use Rattle.board.specs.declared.Answer.{Answer}
use Rattle.pages.specs.Pages.{mapped_to}
use Rattle.machine.specs.Boards.{Board, Fresh, fits_board}
use Rattle.machine.specs.Looks.{look}
use Rattle.machine.specs.Lists.{Asked, access_words, ask_at, asks_from, taken, list_refused, user_accesses}
use Rattle.promises.specs.Runs.{ran, Call, user, supervisor, step, after, Reply, reply, plain_of}
use Rattle.promises.specs.Sound.{Sound, Shows, LinesOnce}
use Rattle.promises.specs.Demand3.{holds, segment_of_page}
use Rattle.promises.specs.Brought.{Brought, bring, brought_after, brought_replies, plain_brought_replies, EachBrings, brought_at_some_moment, BroughtApart, BroughtMovesAlike, TwoRuns}

-- ---- one list

-- an access of a list as a call
abbrev pub as_call : Asked → Call
as_call k = user k.process k.access k.address

-- the first n accesses of a list, as calls
abbrev pub first_calls : List ℕ → ℕ → List Call
first_calls accesses n = map as_call (asks_from accesses 0 n)

-- a list that is taken, and what stands in the answers' buffer before it
pub record IsCalls (s : Shape) (b : Board) (accesses : List ℕ) (answers : List Answer) : Type 0 where
  -- the call is done, and is no access itself
  pub done : (user_accesses s b accesses answers).answer ≡ answer 0 0 mark_no_access
  -- it leaves as many answers as there were
  pub as_many : length (user_accesses s b accesses answers).left.answers ≡ length answers
  -- answer number i is that of access number i as a single call after those before it: number, value and mark, refused or done.
  -- (`other` is what `get_or` would give past the end.)
  pub each : (i : ℕ) (other : Answer) → i < length answers
      → get_or (user_accesses s b accesses answers).left.answers i other ≡ (step s (after s b (first_calls accesses i)) (as_call (ask_at accesses i))).answer
  -- the board is that after all of them
  pub board_after : (user_accesses s b accesses answers).left.after ≡ after s b (first_calls accesses (length answers))

-- ---- runs in which lists come

-- a turn of such a run, with the numbers that it brings: a call, or a list with the answers' buffer as it stands
pub data Turn : Type 0 where
  single : Shape → Call → Turn
  list : Shape → List ℕ → List Answer → Turn

-- what a turn leaves of the board, and the numbers and values that its accesses get: a refused list's get none
unfoldable pub turn_after : Board → Turn → Board
turn_after b (single s k) = (step s b k).after
turn_after b (list s accesses answers) = (user_accesses s b accesses answers).left.after

unfoldable pub turn_replies : Board → Turn → List Reply
turn_replies b (single s k) = reply (step s b k).answer ∷ []
turn_replies b (list s accesses answers) = cond (taken s b accesses answers) (map reply (user_accesses s b accesses answers).left.answers) []

-- the calls that a turn stands for: a list that is taken for its accesses, any other for none. (Which it is hangs on lengths, and no call changes one:
-- b may be the board at any moment of the run.)
unfoldable pub turn_calls : Board → Turn → List Brought
turn_calls b (single s k) = bring s k ∷ []
turn_calls b (list s accesses answers) = cond (taken s b accesses answers) (map (bring s) (first_calls accesses (length answers))) []

-- the same of a run from the board b
abbrev pub after_turns : Board → List Turn → Board
after_turns b ts = ran turn_after b ts

unfoldable pub replies_of : Board → List Turn → List Reply
replies_of b [] = []
replies_of b (t ∷ ts) = turn_replies b t ++ replies_of (turn_after b t) ts

unfoldable pub calls_of : Board → List Turn → List Brought
calls_of b [] = []
calls_of b (t ∷ ts) = turn_calls b t ++ calls_of b ts

-- of the replies to these calls, in order, those to the accesses of a process
unfoldable pub replies_among : ℕ → List Brought → List Reply → List Reply
replies_among process [] rs = []
replies_among process (bring s (user q a e) ∷ ks) [] = []
replies_among process (bring s (user q a e) ∷ ks) (r ∷ rs) = cond (eqb q process) (r ∷ replies_among process ks rs) (replies_among process ks rs)
replies_among process (bring s (supervisor c) ∷ ks) [] = []
replies_among process (bring s (supervisor c) ∷ ks) (r ∷ rs) = replies_among process ks rs

-- what the process gets in a run from the board b
abbrev pub gets : ℕ → Board → List Turn → List Reply
gets process b ts = replies_among process (calls_of b ts) (replies_of b ts)

-- ---- the promise

-- what is promised of runs in which lists come, from the board b; the plain machine starts from its slots, words and tag and this memory
pub record ListRuns (s : Shape) (b : Board) (memory : List ℕ) : Type 0 where
  -- demand 2: such a run gives the numbers and values of the plain machine
  pub plain : (ts : List Turn) → EachBrings s b (calls_of b ts) → replies_of b ts ≡ plain_brought_replies (plain_of b memory) (calls_of b ts)
  -- demand 3: of two such runs our process gets the same in both, and at the end the same bytes stand in its pages
  pub apart : (ts us : List Turn) (process : ℕ) → TwoRuns s b (calls_of b ts) (calls_of b us) process → BroughtApart s b (calls_of b ts) process
      → BroughtMovesAlike b (calls_of b ts) (calls_of b us) process → gets process b ts ≡ gets process b us
  pub bytes : (ts us : List Turn) (process : ℕ) → TwoRuns s b (calls_of b ts) (calls_of b us) process → BroughtApart s b (calls_of b ts) process
      → BroughtMovesAlike b (calls_of b ts) (calls_of b us) process → (page frame line : ℕ)
      → brought_at_some_moment (λ slots. holds slots process (segment_of_page page)) b (calls_of b ts) ≡ true
      → mapped_to s (after_turns b ts).words page ≡ Some frame → line / page_lines ≡ frame
      → look s (after_turns b ts) line ≡ look s (after_turns b us) line
  -- and no physical line is held twice
  pub one_copy : (ts : List Turn) → EachBrings s b (calls_of b ts) → LinesOnce s (after_turns b ts).store

pub record ListsAreCalls : Type 0 where
  -- on any board that fits, a list with five words for each answer is its accesses as calls
  pub is_calls : (s : Shape) (b : Board) (accesses : List ℕ) (answers : List Answer) → fits_board s b ≡ true
      → length accesses ≡ access_words * length answers → IsCalls s b accesses answers
  -- any other is refused by 1, and every answer and the board stay as they were
  pub refused_else : (s : Shape) (b : Board) (accesses : List ℕ) (answers : List Answer)
      → (fits_board s b ≡ true → length accesses ≡ access_words * length answers → ⊥) → user_accesses s b accesses answers ≡ list_refused answers b 1
  -- a run in which lists come, from any board, is the run of the calls that it stands for: the board after it, and the replies
  pub runs_after : (b : Board) (ts : List Turn) → after_turns b ts ≡ brought_after b (calls_of b ts)
  pub runs_replies : (b : Board) (ts : List Turn) → replies_of b ts ≡ brought_replies b (calls_of b ts)
  -- demands 2 and 3, from a fresh board and from any sound board
  pub runs_fresh : (s : Shape) (b : Board) → Fresh b → ListRuns s b b.store.memory
  pub runs_sound : (s : Shape) (b : Board) (memory : List ℕ) → Sound s b → Shows s b memory → ListRuns s b memory
