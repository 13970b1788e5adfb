-- Turns of a list that all pass a test, and the state at each place of a list.
use Prim.{Unit, tt}
use Prim.Native.Nat.{ℕ, zero, suc, ◌<◌}
use mathlib.Core.Path.{◌≡◌, refl, ap, ◌∙◌}
use mathlib.Core.List.{List, [], ◌∷◌, ◌++◌}
use native.Mathlib.Omega.{arith}
use lib.ListN.{length, get_or, take}
use lib.Seq.{take-suc}
use Rattle.promises.specs.Runs.{ran}
use Rattle.promises.proofs.Runs.{ran-more}

-- ---- every turn passes

unfoldable pub Every : {T : Type 0} → (T → Type 0) → List T → Type 0
Every G [] = Unit {0}
Every G (k ∷ ks) = G k × Every G ks

module _ {T : Type 0} (G : T → Type 0) where
  pub every-both : (ks js : List T) → Every G (ks ++ js) → Every G ks × Every G js
  unfolding Every
  every-both [] js g = (tt, g)
  every-both (k ∷ ks) js g = let r = every-both ks js g.1 in ((g.0, r.0), r.1)

  pub every_take : (i : ℕ) (ks : List T) → Every G ks → Every G (take i ks)
  unfolding Every
  every_take zero ks g = tt
  every_take (suc i) [] g = tt
  every_take (suc i) (k ∷ ks) g = (g.0, every_take i ks g.1)

  pub every-at : (ks : List T) (i : ℕ) (other : T) → Every G ks → i < length ks → G (get_or ks i other)
  unfolding Every
  every-at [] i other g h = absurd (omega arith)
  every-at (k ∷ ks) zero other g h = g.0
  every-at (k ∷ ks) (suc i) other g h = every-at ks i other g.1 (omega arith)

  pub every-from : (ks : List T) (other : T) → ((i : ℕ) → i < length ks → G (get_or ks i other)) → Every G ks
  unfolding Every
  every-from [] other h = tt
  every-from (k ∷ ks) other h = (h 0 (omega arith), every-from ks other (λ i l. h (suc i) (omega arith)))

  pub every-all : ((k : T) → G k) → (ks : List T) → Every G ks
  unfolding Every
  every-all h [] = tt
  every-all h (k ∷ ks) = (h k, every-all h ks)

-- ---- the state behind a place, from that before it

pub ran-one : {X T : Type 0} (next : X → T → X) (x : X) (k : T) → ran next x (k ∷ []) ≡ next x k
unfolding ran
ran-one next x k = refl

pub ran-place : {X T : Type 0} (next : X → T → X) (x : X) (ks : List T) (i : ℕ) (other : T) → i < length ks
    → ran next x (take (suc i) ks) ≡ next (ran next x (take i ks)) (get_or ks i other)
unfolding ran
ran-place next x ks i other h = ap (ran next x) (take-suc ks i other h) ∙ ran-more next x (take i ks) (get_or ks i other ∷ [])
