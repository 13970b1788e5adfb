-- Runs: lists of calls, what they answer, and the board after them.
use Rattle.std.specs.Prelude.{ℕ, Bool, ◌||◌, List, [], ◌∷◌, length}
use Rattle.address.specs.declared.Effective.{Effective}
use Rattle.address.specs.declared.Global.{Global}
use Rattle.board.specs.declared.Shape.{Shape}
use Rattle.board.specs.declared.Answer.{Answer}
use Rattle.stores.specs.declared.Access.{Access}
use Rattle.machine.specs.Boards.{Board, Outcome}
use Rattle.machine.specs.Accesses.{user_access, supervisor_access}
use Rattle.machine.specs.Calls as board
use Rattle.promises.specs.Plain.{Plain, Given, plain_user, plain_supervisor, plain_attach, plain_detach, plain_map, plain_unmap, plain_protect, plain_move, plain_flush, plain_tagging, plain_load_and_map, plain_drop_tag}

-- the supervisor's calls
pub data Supervisor : Type 0 where
  access : Access → Global → Supervisor  -- load or store, width, value; global address
  attach : ℕ → ℕ → ℕ → Bool → Supervisor  -- process, slot, segment, write bit
  detach : ℕ → ℕ → Supervisor  -- process, slot
  map : ℕ → ℕ → Bool → Supervisor  -- page, frame, write bit
  unmap : ℕ → Supervisor  -- page
  protect : ℕ → Bool → Supervisor  -- page, write bit
  move : ℕ → ℕ → Supervisor  -- page, new page
  flush_all : Supervisor
  tag : ℕ → Supervisor  -- line name
  load_and_map : ℕ → Supervisor  -- physical line
  drop_tag : Supervisor

-- a call: a user access, or a supervisor's call. Look changes nothing and is no call of a run
pub data Call : Type 0 where
  user : ℕ → Access → Effective → Call  -- process; load or store, width, value; effective address
  supervisor : Supervisor → Call

-- ---- runs of any machine, by what a turn leaves of its state, and what it gives

-- the state after a list of turns. A moment of a run is the state after a first part of its list
unfoldable pub ran : {State Turn : Type 0} → (State → Turn → State) → State → List Turn → State
ran next x [] = x
ran next x (k ∷ ks) = ran next (next x k) ks

-- what the turns give, in order
unfoldable pub gained : {State Turn Gain : Type 0} → (State → Turn → State) → (State → Turn → Gain) → State → List Turn → List Gain
gained next gives x [] = []
gained next gives x (k ∷ ks) = gives x k ∷ gained next gives (next x k) ks

-- the state passes the test at some moment
unfoldable pub some_moment : {State Turn : Type 0} → (State → Bool) → (State → Turn → State) → State → List Turn → Bool
some_moment test next x [] = test x
some_moment test next x (k ∷ ks) = test x || some_moment test next (next x k) ks

-- ---- the board

unfoldable pub supervise : Shape → Board → Supervisor → Outcome
supervise s b (access a g) = supervisor_access s b a g
supervise s b (attach process slot segment write) = board.attach s b process slot segment write
supervise s b (detach process slot) = board.detach s b process slot
supervise s b (map page frame write) = board.map_page s b page frame write
supervise s b (unmap page) = board.unmap s b page
supervise s b (protect page write) = board.protect s b page write
supervise s b (move page new) = board.move_page s b page new
supervise s b flush_all = board.flush_all s b
supervise s b (tag name) = board.tag s b name
supervise s b (load_and_map line) = board.load_and_map s b line
supervise s b drop_tag = board.drop_tag s b

unfoldable pub step : Shape → Board → Call → Outcome
step s b (user process a e) = user_access s b process a e
step s b (supervisor c) = supervise s b c

-- the board after a call, and after a list of calls
abbrev pub next : Shape → Board → Call → Board
next s b k = (step s b k).after

abbrev pub after : Shape → Board → List Call → Board
after s b ks = ran (next s) b ks

-- a number and a value: what is the same on both machines
pub record Reply : Type 0 where
  pub number : ℕ
  pub value : ℕ

abbrev pub reply : Answer → Reply
reply a = record { number = a.number; value = a.value }

-- the replies in order
abbrev pub replies : Shape → Board → List Call → List Reply
replies s b ks = gained (next s) (λ c k. reply (step s c k).answer) b ks

-- ---- the plain machine

unfoldable pub plain_supervise : Shape → Plain → Supervisor → Given
plain_supervise s p (access a g) = plain_supervisor s p a g
plain_supervise s p (attach process slot segment write) = plain_attach s p process slot segment write
plain_supervise s p (detach process slot) = plain_detach s p process slot
plain_supervise s p (map page frame write) = plain_map s p page frame write
plain_supervise s p (unmap page) = plain_unmap s p page
plain_supervise s p (protect page write) = plain_protect s p page write
plain_supervise s p (move page new) = plain_move s p page new
plain_supervise s p flush_all = plain_flush s p
plain_supervise s p (tag name) = plain_tagging s p name
plain_supervise s p (load_and_map line) = plain_load_and_map s p line
plain_supervise s p drop_tag = plain_drop_tag s p

unfoldable pub plain_step : Shape → Plain → Call → Given
plain_step s p (user process a e) = plain_user s p process a e
plain_step s p (supervisor c) = plain_supervise s p c

abbrev pub plain_next : Shape → Plain → Call → Plain
plain_next s p k = (plain_step s p k).after

abbrev pub plain_after : Shape → Plain → List Call → Plain
plain_after s p ks = ran (plain_next s) p ks

abbrev pub plain_reply : Given → Reply
plain_reply x = record { number = x.number; value = x.value }

abbrev pub plain_replies : Shape → Plain → List Call → List Reply
plain_replies s p ks = gained (plain_next s) (λ q k. plain_reply (plain_step s q k)) p ks

-- the plain machine with a board's slots, words, tag and lengths, and this memory
abbrev pub plain_of : Board → List ℕ → Plain
plain_of b memory = record {
  slots = b.slots;
  words = b.words;
  tag = b.tag;
  memory = memory;
  records_length = length b.store.records;
  cache_length = length b.store.cache;
  uses_length = length b.uses;
}
