-- Order between strangers, from sound boards and from fresh ones, in every shape.
use Prim.Native.Nat.{ℕ}
use mathlib.Core.List.{List}
use Rattle.board.specs.Shapes.{one_line, four_lines}
use Rattle.board.specs.declared.Shape.{Shape}
use Rattle.machine.specs.Boards.{Board}
use Rattle.order_promises.specs.Order.{OrderFrom, OrderIn, Order}
use Rattle.order_promises.proofs.Slots.{reorderings-calls, reorderings_brought}
use Rattle.order_promises.proofs.Starts.{Start, start-sound, start-fresh, ordered-calls, ordered-brought}
use Rattle.order_promises.proofs.Lists.{lists-ordered}

ordered-from : (s : Shape) (b : Board) (m : List ℕ) → Start s b m → OrderFrom s b
ordered-from s b m z =
    let o = ordered-brought s b m z in
    record { of_calls = ordered-calls s b m z; of_brought = o; of_lists = lists-ordered s b o }

in_order : (s : Shape) → OrderIn s
in_order s = record {
  from_sound = λ b x. ordered-from s b _ (start-sound s b x);
  from_fresh = λ b x. ordered-from s b _ (start-fresh s b x);
}

pub order : Order
order = record {
  every_shape = in_order;
  one_line = λ f u p l. in_order (one_line f u p l);
  four_lines = λ f u p l. in_order (four_lines f u p l);
  reorderings = λ s b. reorderings-calls b s;
  reorderings_brought = λ s b. reorderings_brought b s;
}
