-- 02, CR 14: strangers, and the runs in which their accesses may change places.
use Prim.{Unit}
use Rattle.std.specs.Prelude.{ℕ, ◌≡◌, Bool, true, false, List, map, get_or, take}
use Rattle.board.specs.declared.Shape.{Shape}
use Rattle.machine.specs.Boards.{Board}
use Rattle.promises.specs.Runs.{ran, gained, Call, user, supervisor, flush_all, Reply, reply, step, next}
use Rattle.promises.specs.Demand3.{holds, holds_for_writing}
use Rattle.promises.specs.Brought.{Brought, bring, brought_next, brought_reply, EachBrings}

-- ---- strangers

-- two processes, neither holding for writing a segment that the other holds: by the slots of one moment
pub record Strangers (slots : List ℕ) (p q : ℕ) : Type 0 where
  pub differ : p ≡ q → ⊥
  -- what the one holds for writing, the other does not hold
  pub first_alone : (segment : ℕ) → holds_for_writing slots p segment ≡ true → holds slots q segment ≡ true → ⊥
  pub second_alone : (segment : ℕ) → holds_for_writing slots q segment ≡ true → holds slots p segment ≡ true → ⊥

-- two calls that may change their order: user accesses by strangers. A supervisor call crosses nothing, and nothing crosses it
abbrev pub MayCross : List ℕ → Call → Call → Type 0
MayCross slots (user p a e) (user q c f) = Strangers slots p q
MayCross slots (user p a e) (supervisor d) = ⊥
MayCross slots (supervisor c) (user q d f) = ⊥
MayCross slots (supervisor c) (supervisor d) = ⊥

unfoldable pub is_supervisors : Call → Bool
is_supervisors (user p a e) = false
is_supervisors (supervisor c) = true

-- ---- kinds of runs

-- a kind of run, by its turns: the call that a turn makes, what it leaves of the board, and the number and value that it gets; and which lists of turns are
-- meant, of those that can be made on a board
pub record Kind (T : Type 0) : Type 1 where
  pub call : T → Call
  pub leaves : Board → T → Board
  pub gets : Board → T → Reply
  pub Meant : Board → List T → Type 0

-- calls in the shape s: any list of them
abbrev pub calls : Shape → Kind Call
calls s = record { call = λ k. k; leaves = next s; gets = λ b k. reply (step s b k).answer; Meant = λ b ks. Unit {0} }

-- a call without the numbers that it brings
unfoldable pub call_of : Brought → Call
call_of (bring t k) = k

-- calls that bring their own numbers: each the board's own, which are s, or some that don't fit its buffers
abbrev pub broughts : Shape → Kind Brought
broughts s = record { call = call_of; leaves = brought_next; gets = brought_reply; Meant = EachBrings s }

-- the board after a list of turns; before the turn at place i of it; and what the turns get, in order
abbrev pub board_after : {T : Type 0} → Kind T → Board → List T → Board
board_after w b ks = ran w.leaves b ks

abbrev pub board_at : {T : Type 0} → Kind T → Board → List T → ℕ → Board
board_at w b ks i = board_after w b (take i ks)

abbrev pub replies_in : {T : Type 0} → Kind T → Board → List T → List Reply
replies_in w b ks = gained w.leaves w.gets b ks

-- the call at a place, and the reply at a place (below the number of turns; elsewhere they say nothing)
abbrev pub call_at : {T : Type 0} → Kind T → List T → ℕ → Call
call_at w ks i = get_or (map w.call ks) i (supervisor flush_all)

abbrev pub reply_at : List Reply → ℕ → Reply
reply_at rs i = get_or rs i (record { number = 0; value = 0 })
