-- What the contract of each call says, a definition for each call. The code's `ensures` cites it, and `NoSecondOutcome` says
-- of it that no second outcome meets it: who weakens a contract here breaks that theorem.
-- Each takes the shape, the board before the call, what the caller gives, the answer r and the board c after the call.
use Rattle.std.specs.Prelude.{ℕ, ◌≡◌, Bool, List}
use Rattle.std.specs.Borrow.{Bor}
use Rattle.address.specs.declared.Effective.{Effective}
use Rattle.address.specs.declared.Global.{Global}
use Rattle.board.specs.declared.Shape.{Shape}
use Rattle.board.specs.declared.Answer.{Answer}
use Rattle.stores.specs.declared.Access.{Access}
use Rattle.machine.specs.Boards.{Board, outcome}
use Rattle.machine.specs.Accesses.{user_access, supervisor_access}
use Rattle.machine.specs.Lists.{Answered, listed, user_accesses}
use Rattle.machine.specs.Calls as calls
use Rattle.machine.specs.Looks.{look_number, look, look_start}

-- ---- the calls

abbrev pub UserAccess : Shape → Board → ℕ → Access → Effective → Answer → Board → Type 0
UserAccess s b process a e r c = outcome r c ≡ user_access s b process a e

-- of a list: what it leaves are the answers and the board
abbrev pub UserAccesses : Shape → Board → List ℕ → List Answer → Answer → Answered → Type 0
UserAccesses s b accesses answers r x = listed r x ≡ user_accesses s b accesses answers

abbrev pub SupervisorAccess : Shape → Board → Access → Global → Answer → Board → Type 0
SupervisorAccess s b a g r c = outcome r c ≡ supervisor_access s b a g

abbrev pub Attach : Shape → Board → ℕ → ℕ → ℕ → Bool → Answer → Board → Type 0
Attach s b process slot segment write r c = outcome r c ≡ calls.attach s b process slot segment write

abbrev pub Detach : Shape → Board → ℕ → ℕ → Answer → Board → Type 0
Detach s b process slot r c = outcome r c ≡ calls.detach s b process slot

abbrev pub Map : Shape → Board → ℕ → ℕ → Bool → Answer → Board → Type 0
Map s b page frame write r c = outcome r c ≡ calls.map_page s b page frame write

abbrev pub Unmap : Shape → Board → ℕ → Answer → Board → Type 0
Unmap s b page r c = outcome r c ≡ calls.unmap s b page

abbrev pub Protect : Shape → Board → ℕ → Bool → Answer → Board → Type 0
Protect s b page write r c = outcome r c ≡ calls.protect s b page write

abbrev pub Move : Shape → Board → ℕ → ℕ → Answer → Board → Type 0
Move s b page new r c = outcome r c ≡ calls.move_page s b page new

abbrev pub FlushAll : Shape → Board → Answer → Board → Type 0
FlushAll s b r c = outcome r c ≡ calls.flush_all s b

abbrev pub Tag : Shape → Board → ℕ → Answer → Board → Type 0
Tag s b name r c = outcome r c ≡ calls.tag s b name

abbrev pub LoadAndMap : Shape → Board → ℕ → Answer → Board → Type 0
LoadAndMap s b line r c = outcome r c ≡ calls.load_and_map s b line

abbrev pub DropTag : Shape → Board → Answer → Board → Type 0
DropTag s b r c = outcome r c ≡ calls.drop_tag s b

-- look changes nothing: its number, and the part that it gives of the lent cache bytes or memory, its bytes and where it begins
abbrev pub LookNumber : Shape → Board → ℕ → ℕ → Type 0
LookNumber s b line n = n ≡ look_number s b line

abbrev pub Look : Shape → Board → ℕ → Bor (List ℕ) → Bor (List ℕ) → Bor (List ℕ) → Type 0
Look s b line cache memory part = (part.now ≡ look s b line) × (part.ref_ptr ≡ look_start s b line cache.ref_ptr memory.ref_ptr)

-- ---- no second outcome

-- two outcomes that meet the contract agree in number, value, mark and all that is left: every slot, word, record, byte, matrix and tag; of a list,
-- every answer
abbrev pub Determines : {Left : Type 0} → (Answer → Left → Type 0) → Type 0
Determines {Left} Meets = (r q : Answer) (c d : Left) → Meets r c → Meets q d → (r ≡ q) × (c ≡ d)

pub record NoSecondOutcome : Type 0 where
  pub user_access : (s : Shape) (b : Board) (process : ℕ) (a : Access) (e : Effective) → Determines (UserAccess s b process a e)
  pub user_accesses : (s : Shape) (b : Board) (accesses : List ℕ) (answers : List Answer) → Determines (UserAccesses s b accesses answers)
  pub supervisor_access : (s : Shape) (b : Board) (a : Access) (g : Global) → Determines (SupervisorAccess s b a g)
  pub attach : (s : Shape) (b : Board) (process slot segment : ℕ) (write : Bool) → Determines (Attach s b process slot segment write)
  pub detach : (s : Shape) (b : Board) (process slot : ℕ) → Determines (Detach s b process slot)
  pub map : (s : Shape) (b : Board) (page frame : ℕ) (write : Bool) → Determines (Map s b page frame write)
  pub unmap : (s : Shape) (b : Board) (page : ℕ) → Determines (Unmap s b page)
  pub protect : (s : Shape) (b : Board) (page : ℕ) (write : Bool) → Determines (Protect s b page write)
  pub move : (s : Shape) (b : Board) (page new : ℕ) → Determines (Move s b page new)
  pub flush_all : (s : Shape) (b : Board) → Determines (FlushAll s b)
  pub tag : (s : Shape) (b : Board) (name : ℕ) → Determines (Tag s b name)
  pub load_and_map : (s : Shape) (b : Board) (line : ℕ) → Determines (LoadAndMap s b line)
  pub drop_tag : (s : Shape) (b : Board) → Determines (DropTag s b)
  pub look_number : (s : Shape) (b : Board) (line n m : ℕ) → LookNumber s b line n → LookNumber s b line m → n ≡ m
  pub look : (s : Shape) (b : Board) (line : ℕ) (cache memory x y : Bor (List ℕ)) → Look s b line cache memory x → Look s b line cache memory y
      → (x.now ≡ y.now) × (x.ref_ptr ≡ y.ref_ptr)
