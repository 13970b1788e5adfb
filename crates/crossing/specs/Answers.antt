-- Of every answer that a call gives, whatever the board, number and mark fit their bytes.
-- (The value is below 2^32 because it is a `u32` in the code.)
use Rattle.std.specs.Prelude.{ℕ, Bool, List, get_or}
use Rattle.address.specs.declared.Effective.{Effective}
use Rattle.address.specs.declared.Global.{Global}
use Rattle.board.specs.declared.Shape.{Shape}
use Rattle.board.specs.declared.Answer.{Answer}
use Rattle.stores.specs.declared.Access.{Access}
use Rattle.machine.specs.Boards.{Board}
use Rattle.machine.specs.Accesses.{user_access, supervisor_access}
use Rattle.machine.specs.Lists.{Asked, one_by_one, user_accesses}
use Rattle.machine.specs.Calls.{attach, detach, map_page, unmap, protect, move_page, flush_all, tag, load_and_map, drop_tag}
use Rattle.crossing.specs.Packing.{Small}

pub record AnswersFit : Type 0 where
  pub user_access : (s : Shape) (b : Board) (process : ℕ) (a : Access) (e : Effective) → Small (user_access s b process a e).answer
  pub user_accesses : (s : Shape) (b : Board) (accesses : List ℕ) (answers : List Answer) → Small (user_accesses s b accesses answers).answer
  -- the answers in a list too: `other` is what `get_or` would give past the end
  pub listed : (s : Shape) (b : Board) (ks : List Asked) (i : ℕ) (other : Answer) → Small other → Small (get_or (one_by_one s b ks).answers i other)
  pub supervisor_access : (s : Shape) (b : Board) (a : Access) (g : Global) → Small (supervisor_access s b a g).answer
  pub attach : (s : Shape) (b : Board) (process slot segment : ℕ) (write : Bool) → Small (attach s b process slot segment write).answer
  pub detach : (s : Shape) (b : Board) (process slot : ℕ) → Small (detach s b process slot).answer
  pub map : (s : Shape) (b : Board) (page frame : ℕ) (write : Bool) → Small (map_page s b page frame write).answer
  pub unmap : (s : Shape) (b : Board) (page : ℕ) → Small (unmap s b page).answer
  pub protect : (s : Shape) (b : Board) (page : ℕ) (write : Bool) → Small (protect s b page write).answer
  pub move : (s : Shape) (b : Board) (page new : ℕ) → Small (move_page s b page new).answer
  pub flush_all : (s : Shape) (b : Board) → Small (flush_all s b).answer
  pub tag : (s : Shape) (b : Board) (name : ℕ) → Small (tag s b name).answer
  pub load_and_map : (s : Shape) (b : Board) (line : ℕ) → Small (load_and_map s b line).answer
  pub drop_tag : (s : Shape) (b : Board) → Small (drop_tag s b).answer
