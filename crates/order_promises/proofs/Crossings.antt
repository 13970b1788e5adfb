-- Who may cross: two laws that hold of whoever it is. (That no supervisor's call is among them stands in Reorderings.)
use Prim.Native.Nat.{ℕ}
use mathlib.Core.Path.{sym}
use mathlib.Core.List.{List}
use Rattle.promises.specs.Runs.{Call, user, supervisor}
use Rattle.order_promises.specs.Strangers.{MayCross}

-- it is settled by whether they may not, and it is the same of both
pub cross-stable : (slots : List ℕ) (k l : Call) → ((MayCross slots k l → ⊥) → ⊥) → MayCross slots k l
cross-stable slots (user p a e) (user q c f) h = record {
  differ = λ x. h (λ z. z.differ x);
  first_alone = λ segment x y. h (λ z. z.first_alone segment x y);
  second_alone = λ segment x y. h (λ z. z.second_alone segment x y);
}
cross-stable slots (user p a e) (supervisor d) h = h (λ z. z)
cross-stable slots (supervisor c) (user q d f) h = h (λ z. z)
cross-stable slots (supervisor c) (supervisor d) h = h (λ z. z)

pub cross-other : (slots : List ℕ) (k l : Call) → MayCross slots k l → MayCross slots l k
cross-other slots (user p a e) (user q c f) x = record { differ = λ e. x.differ (sym e); first_alone = x.second_alone; second_alone = x.first_alone }
cross-other slots (user p a e) (supervisor d) x = absurd x
cross-other slots (supervisor c) (user q d f) x = absurd x
cross-other slots (supervisor c) (supervisor d) x = absurd x
