-- What the code of a user access decides before it touches a line: a refusal, or where to go on.
use Rattle.std.specs.Prelude.{ℕ, cond, List, Result}
use Rattle.address.specs.Addresses.{global_of}
use Rattle.address.specs.declared.Effective.{Effective}
use Rattle.address.specs.declared.Global.{Global}
use Rattle.slots.specs.Slots.{slot_segment}
use Rattle.board.specs.declared.Refusal.{Refusal}
use Rattle.board.specs.declared.Refusal.TheVariants.{OutOfRange}
use Rattle.board.specs.declared.Shape.{Shape}
use Rattle.board.specs.declared.Pending.{Pending}
use Rattle.stores.specs.declared.Access.{Access}
use Rattle.machine.specs.Refusals.{checked, too_large, slot_rows}
use Rattle.machine.specs.Accesses.{user_rows, user_global}

-- numbers 6 and 7 of a user access by its slot's word, or its global address
unfoldable pub slot_check : ℕ → Access → Effective → Result Global Refusal
slot_check word a e = checked (slot_rows word a) (global_of (slot_segment word) e)

-- why an access is refused to which `why` applies: by 2, which is lower, if the value is too large
unfoldable pub refused_by : Refusal → Access → Refusal
refused_by why a = cond (too_large a) OutOfRange why

-- numbers 2 to 7 of a user access, or its global address
unfoldable pub user_check : Shape → List ℕ → Pending → ℕ → Access → Effective → Result Global Refusal
user_check s slots tag process a e = checked (user_rows s slots tag process a e) (user_global slots process e)
