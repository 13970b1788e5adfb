-- How often a search turns: after so many turns it stands at a place of that depth, whose key has as many low bits like the key's own; and keys with
-- the same bits are one.
use Prim.Native.Nat.{ℕ, zero, suc, ◌/◌, ◌%◌, ◌^◌, ◌<◌}
use mathlib.Core.Path.{◌≡◌, ◌∙◌, refl, ap}
use mathlib.Core.Logic.{⊎_elim}
use mathlib.Core.List.{List}
use native.Mathlib.Omega.{arith}
use native.Mathlib.Nat.{pow-suc}
use lib.ListN.{get_or}
use Rattle.doubles.proofs.Lists.{lt-or-le, eq-or-not}
use Rattle.doubles.specs.Trees.{slot_of, rest_after, Turned, start, turn, SameBits, Tree}
use Rattle.doubles.specs.Turns.{FewTurns}

module _ {keys links : List ℕ} {n : ℕ} (tree : Tree keys links n) where
  pub turned-depth : {key turns node : ℕ} → Turned keys links key turns node → tree.depth node ≡ turns
  turned-depth start = tree.root
  turned-depth {key} (turn {turns} {node} t other link) =
      let half : slot_of node (rest_after key turns) / 2 ≡ node = omega arith in
      (tree.hangs (slot_of node (rest_after key turns)) link).deeper ∙ ap suc (rw half (turned-depth t))

  pub turned-bits : {key turns node : ℕ} → Turned keys links key turns node → SameBits turns (get_or keys node 0) key
  turned-bits start k h = absurd (omega arith)
  turned-bits {key} (turn {turns} {node} t other link) k h =
      let half : slot_of node (rest_after key turns) / 2 ≡ node = omega arith in
      let low : slot_of node (rest_after key turns) % 2 ≡ rest_after key turns % 2 = omega arith in
      let d : tree.depth (slot_of node (rest_after key turns) / 2) ≡ turns = rw half (turned-depth t) in
      let hung = tree.hangs (slot_of node (rest_after key turns)) link in
      ⊎_elim
      (λ (e : k ≡ turns). rw e (rw d at (hung.own_bit ∙ low)))
      (λ e. (hung.same_bits k (omega arith)) ∙ rw half (turned-bits t k (omega arith)))
      (eq-or-not k turns)

-- the bits of a key from the second on are those of its half
rest-half : (a k : ℕ) → rest_after (a / 2) k ≡ rest_after a (suc k)
unfolding rest_after
rest-half a zero = refl
rest-half a (suc k) = ap (λ (r : ℕ). r / 2) (rest-half a k)

first_rest : (a : ℕ) → rest_after a 0 ≡ a
unfolding rest_after
first_rest a = refl

-- numbers of so many bits, all of them the same, are equal
bits-same : (bits a b : ℕ) → a < 2 ^ bits → b < 2 ^ bits → SameBits bits a b → a ≡ b
bits-same zero a b h g s = omega arith
bits-same (suc bits) a b h g s =
    let half : a / 2 ≡ b / 2 = bits-same bits (a / 2) (b / 2) (omega (arith, pow-suc 2 bits)) (omega (arith, pow-suc 2 bits))
    (λ k l. rw (rest-half a k, rest-half b k) (s (suc k) (omega arith))) in
    let low : a % 2 ≡ b % 2 = rw (first_rest a, first_rest b) at (s 0 (omega arith)) in
    omega arith

pub few-turns : FewTurns
few-turns keys links n bits tree small key turns node h start = omega arith
few-turns keys links n bits tree small key turns node h (turn {turns = before} {node = at} t other link) =
    ⊎_elim (λ l. omega arith)
    (λ l. absurd (other (bits-same bits (get_or keys at 0) key (small at) h (λ k b. turned-bits tree t k (omega arith)))))
    (lt-or-le before bits)
