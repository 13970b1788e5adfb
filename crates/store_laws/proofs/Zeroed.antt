-- The zero fill: zeros, and a frame of memory filled with them, read back byte by byte. Stands on Bytes.
use Prim.Native.Nat.{ℕ, ◌+◌, ◌*◌, ◌/◌, ◌%◌, ◌≤◌, ◌<◌}
use mathlib.Core.Logic.{◌≢◌}
use mathlib.Core.Path.{◌≡◌, refl, ◌∙◌}
use mathlib.Core.Bool.{Bool, true, false}
use mathlib.Core.List.{List}
use native.Mathlib.Omega.{arith}
use lib.Dec.{ltb}
use lib.ListN.{length, get_or, replicate, length-replicate, get_or-replicate, get_or-eq_default}
use borrow.Author.Tests.{ltb-true, ltb-false}
use Rattle.address.specs.Layout.{page_lines}
use Rattle.board.proofs.Lists.{length-splice}
use Rattle.line_bytes.specs.Bytes.{zeros, zeroed_frame}
use Rattle.line_bytes.proofs.Bytes.{length-zeros}
use Rattle.store_laws.proofs.Sim.{byte}
use Rattle.store_laws.proofs.Bytes.{splice-out, splice-in}

-- among zeros and past them
pub zeros-at : (n i : ℕ) → get_or (replicate {A = ℕ} n 0) i 0 ≡ 0
zeros-at n i = go (ltb i n) refl
  where
    go : (t : Bool) → ltb i n ≡ t → get_or (replicate {A = ℕ} n 0) i 0 ≡ 0
    go true t = get_or-replicate {A = ℕ} n i 0 0 (ltb-true _ _ t)
    go false t = get_or-eq_default (replicate n 0) 0 (let z : n ≤ i = ltb-false _ _ t in omega (arith, length-replicate {A = ℕ} n 0))

module _ (m : List ℕ) (f : ℕ) where
  pub length-zeroed : length (zeroed_frame m f) ≡ length m
  unfolding zeroed_frame
  length-zeroed = length-splice m (4096 * f) (zeros 4096)

  -- byte x, in the frame and out of it
  pub zeroed-in : (x : ℕ) → x / 4096 ≡ f → x < length m → get_or (zeroed_frame m f) x 0 ≡ 0
  unfolding zeroed_frame zeros
  zeroed-in x h b =
      let n = length-zeros 4096 in
      splice-in m (4096 * f) (zeros 4096) (x % 4096) x (omega arith) (omega arith) b ∙ zeros-at 4096 (x % 4096)

  pub zeroed-out : (x : ℕ) → x / 4096 ≢ f → get_or (zeroed_frame m f) x 0 ≡ get_or m x 0
  unfolding zeroed_frame
  zeroed-out x h = splice-out m (4096 * f) (zeros 4096) x (λ a b. h (omega (arith, length-zeros 4096)))

  -- byte k of line p
  pub zeroed-line-in : (p k : ℕ) → p / page_lines ≡ f → k < 16 → 16 * p + k < length m → byte (zeroed_frame m f) p k ≡ 0
  zeroed-line-in p k h g b = zeroed-in (16 * p + k) (omega arith) b

  pub zeroed-line-out : (p k : ℕ) → p / page_lines ≢ f → k < 16 → byte (zeroed_frame m f) p k ≡ byte m p k
  zeroed-line-out p k h g = zeroed-out (16 * p + k) (λ e. h (omega arith))
