-- Runs of any machine: one run after another, what a run keeps, moments, and two runs side by side. By the definitions.
use mathlib.Core.Path.{◌≡◌, refl, ap, ap₂}
use mathlib.Core.Bool.{Bool, true, ◌||◌}
use mathlib.Core.List.{List, [], ◌∷◌, ◌++◌}
use Rattle.std.proofs.Math.Bool.{or_self, or_self_left}
use Rattle.board.proofs.Bools.{or_left, or_right}
use Rattle.promises.specs.Runs.{ran, gained, some_moment}

module _ {X T : Type 0} (next : X → T → X) where
  -- one list of turns after another
  pub ran-more : (x : X) (ks js : List T) → ran next x (ks ++ js) ≡ ran next (ran next x ks) js
  unfolding ran
  ran-more x [] js = refl
  ran-more x (k ∷ ks) js = ran-more (next x k) ks js

  pub gained-more : {G : Type 0} (gives : X → T → G) (x : X) (ks js : List T)
      → gained next gives x (ks ++ js) ≡ gained next gives x ks ++ gained next gives (ran next x ks) js
  unfolding gained ran
  gained-more gives x [] js = refl
  gained-more {G} gives x (k ∷ ks) js = ap (λ (l : List G). gives x k ∷ l) (gained-more gives (next x k) ks js)

  -- what every turn keeps
  pub ran-keeps : (P : X → Type 0) → ((x : X) (k : T) → P x → P (next x k)) → (x : X) (ks : List T) → P x → P (ran next x ks)
  unfolding ran
  ran-keeps P keeps x [] p = p
  ran-keeps P keeps x (k ∷ ks) p = ran-keeps P keeps (next x k) ks (keeps x k p)

  -- moments: now, later, and that the first counts once
  module _ (test : X → Bool) where
    pub moment-now : (x : X) (ks : List T) → test x ≡ true → some_moment test next x ks ≡ true
    unfolding some_moment
    moment-now x [] h = h
    moment-now x (k ∷ ks) h = or_left (test x) (some_moment test next (next x k) ks) h

    pub moment-later : (x : X) (k : T) (ks : List T) → some_moment test next (next x k) ks ≡ true → some_moment test next x (k ∷ ks) ≡ true
    unfolding some_moment
    moment-later x k ks h = or_right (test x) (some_moment test next (next x k) ks) h

    pub moment-again : (x : X) (ks : List T) → (test x || some_moment test next x ks) ≡ some_moment test next x ks
    unfolding some_moment
    moment-again x [] = or_self (test x)
    moment-again x (k ∷ ks) = or_self_left (test x) (some_moment test next (next x k) ks)

-- two machines that take the same turns. R relates their states, with the turns that are still to come
module _ {X Y T : Type 0} (next : X → T → X) (beside : Y → T → Y) (R : X → Y → List T → Type 0)
    (stays : (x : X) (y : Y) (k : T) (ks : List T) → R x y (k ∷ ks) → R (next x k) (beside y k) ks) where
  -- they end related
  pub ran-both : (x : X) (y : Y) (ks : List T) → R x y ks → R (ran next x ks) (ran beside y ks) []
  unfolding ran
  ran-both x y [] r = r
  ran-both x y (k ∷ ks) r = ran-both (next x k) (beside y k) ks (stays x y k ks r)

  -- they give the same, if each turn does
  pub gained-both : {G : Type 0} (gives : X → T → G) (given : Y → T → G)
      → ((x : X) (y : Y) (k : T) (ks : List T) → R x y (k ∷ ks) → gives x k ≡ given y k)
      → (x : X) (y : Y) (ks : List T) → R x y ks → gained next gives x ks ≡ gained beside given y ks
  unfolding gained
  gained-both gives given same x y [] r = refl
  gained-both {G} gives given same x y (k ∷ ks) r =
      ap₂ (λ (g : G) (l : List G). g ∷ l) (same x y k ks r) (gained-both gives given same (next x k) (beside y k) ks (stays x y k ks r))

  -- they pass a test at some moment alike, if related states do
  pub moment-both : (test : X → Bool) (tested : Y → Bool) → ((x : X) (y : Y) (ks : List T) → R x y ks → test x ≡ tested y)
      → (x : X) (y : Y) (ks : List T) → R x y ks → some_moment test next x ks ≡ some_moment tested beside y ks
  unfolding some_moment
  moment-both test tested same x y [] r = same x y [] r
  moment-both test tested same x y (k ∷ ks) r =
      ap₂ (λ (a b : Bool). a || b) (same x y (k ∷ ks) r) (moment-both test tested same (next x k) (beside y k) ks (stays x y k ks r))
