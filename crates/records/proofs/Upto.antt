-- A list whose first k elements were walked, and the others not yet: what a loop over a slice has after k turns.
use Prim.Native.Nat.{ℕ, zero, suc, ◌+◌, ◌<◌}
use mathlib.Core.Path.{◌≡◌, refl, ◌∙◌, ap}
use mathlib.Core.List.{List, [], ◌∷◌}
use native.Mathlib.Omega.{arith}
use lib.ListN.{length, get_or, set}
use Rattle.board.specs.declared.Shape.{Shape}
use Rattle.lines.specs.declared.Line.{Line}
use Rattle.visits.specs.declared.Visit.{Visit}
use Rattle.record_steps.specs.Lent.{line_visited, lines_visited, line_flushed, flushed_memory}
use Rattle.record_steps.proofs.Single.{length-flushed}

-- ---- the lines: the first k of those from line i on were visited

module _ (s : Shape) (v : Visit) where
  unfoldable pub visited_upto : ℕ → ℕ → List Line → List Line
  visited_upto i zero ls = ls
  visited_upto i (suc k) [] = []
  visited_upto i (suc k) (l ∷ ls) = line_visited s v i l ∷ visited_upto (suc i) k ls

  pub upto-length : (i k : ℕ) (ls : List Line) → length (visited_upto i k ls) ≡ length ls
  unfolding visited_upto
  upto-length i zero ls = refl
  upto-length i (suc k) [] = refl
  upto-length i (suc k) (l ∷ ls) = ap suc (upto-length (suc i) k ls)

  -- no turn made
  pub upto-none : (i : ℕ) (ls : List Line) → visited_upto i 0 ls ≡ ls
  unfolding visited_upto
  upto-none i ls = refl

  -- the next line is still as it was
  pub upto-at : (i k : ℕ) (ls : List Line) (d : Line) → get_or (visited_upto i k ls) k d ≡ get_or ls k d
  unfolding visited_upto
  upto-at i zero ls d = refl
  upto-at i (suc k) [] d = refl
  upto-at i (suc k) (l ∷ ls) d = upto-at (suc i) k ls d

  -- a turn puts what becomes of it in its place
  upto-more : (i k j : ℕ) (ls : List Line) (d r : Line) → j ≡ i + k → k < length ls → r ≡ line_visited s v j (get_or ls k d)
      → set (visited_upto i k ls) k r ≡ visited_upto i (suc k) ls
  unfolding visited_upto
  upto-more i k j [] d r q h e = absurd (omega arith)
  upto-more i zero j (l ∷ ls) d r q h e = let z : j ≡ i = omega (arith, q) in rw (e, z)
  upto-more i (suc k) j (l ∷ ls) d r q h e = ap (λ (ys : List Line). line_visited s v i l ∷ ys) (upto-more (suc i) k j ls d r (omega (arith, q)) (omega (arith, h)) e)

  pub upto-set : (k : ℕ) (ls : List Line) (d r : Line) → k < length ls → r ≡ line_visited s v k (get_or (visited_upto 0 k ls) k d)
      → set (visited_upto 0 k ls) k r ≡ visited_upto 0 (suc k) ls
  upto-set k ls d r h e = upto-more 0 k k ls d r (omega arith) h (e ∙ ap (line_visited s v k) (upto-at 0 k ls d))

  -- after the last turn every line was
  upto_all : (i : ℕ) (ls : List Line) → visited_upto i (length ls) ls ≡ lines_visited s v i ls
  unfolding visited_upto lines_visited
  upto_all i [] = refl
  upto_all i (l ∷ ls) = ap (λ (ys : List Line). line_visited s v i l ∷ ys) (upto_all (suc i) ls)

  -- of the lines as the loop has them: a turn, and the end
  pub walked-more : (k : ℕ) (ls now : List Line) (d r : Line) → now ≡ visited_upto 0 k ls → k < length ls → r ≡ line_visited s v k (get_or now k d)
      → set now k r ≡ visited_upto 0 (k + 1) ls
  walked-more k ls now d r w h e =
      let f : k + 1 ≡ suc k = omega arith in
      rw (f, w) (upto-set k ls d r h (e ∙ ap (λ (ys : List Line). line_visited s v k (get_or ys k d)) w))

  pub walked-all : (k : ℕ) (ls now : List Line) → now ≡ visited_upto 0 k ls → k ≡ length ls → now ≡ lines_visited s v 0 ls
  walked-all k ls now w e = w ∙ (ap (λ (m : ℕ). visited_upto 0 m ls) e ∙ upto_all 0 ls)

-- ---- memory: the first k of the lines from line i on were flushed

module _ (s : Shape) (cache : List ℕ) where
  unfoldable pub memory_upto : ℕ → ℕ → List Line → List ℕ → List ℕ
  memory_upto i zero ls memory = memory
  memory_upto i (suc k) [] memory = memory
  memory_upto i (suc k) (l ∷ ls) memory = memory_upto (suc i) k ls (line_flushed s i l cache memory)

  pub memory_length : (i k : ℕ) (ls : List Line) (memory : List ℕ) → length (memory_upto i k ls memory) ≡ length memory
  unfolding memory_upto
  memory_length i zero ls memory = refl
  memory_length i (suc k) [] memory = refl
  memory_length i (suc k) (l ∷ ls) memory = memory_length (suc i) k ls (line_flushed s i l cache memory) ∙ length-flushed s i l cache memory

  pub memory-none : (i : ℕ) (ls : List Line) (memory : List ℕ) → memory_upto i 0 ls memory ≡ memory
  unfolding memory_upto
  memory-none i ls memory = refl

  memory-on : (i k j : ℕ) (ls : List Line) (memory : List ℕ) (d : Line) → j ≡ i + k → k < length ls
      → line_flushed s j (get_or ls k d) cache (memory_upto i k ls memory) ≡ memory_upto i (suc k) ls memory
  unfolding memory_upto
  memory-on i k j [] memory d q h = absurd (omega arith)
  memory-on i zero j (l ∷ ls) memory d q h = let z : j ≡ i = omega (arith, q) in rw z
  memory-on i (suc k) j (l ∷ ls) memory d q h = memory-on (suc i) k j ls (line_flushed s i l cache memory) d (omega (arith, q)) (omega (arith, h))

  -- a turn at line k
  pub memory-more : (v : Visit) (k : ℕ) (ls : List Line) (memory : List ℕ) (d : Line) → k < length ls
      → line_flushed s k (get_or (visited_upto s v 0 k ls) k d) cache (memory_upto 0 k ls memory) ≡ memory_upto 0 (suc k) ls memory
  memory-more v k ls memory d h = ap (λ (l : Line). line_flushed s k l cache (memory_upto 0 k ls memory)) (upto-at s v 0 k ls d) ∙ memory-on 0 k k ls memory d (omega arith) h

  memory-all : (i : ℕ) (ls : List Line) (memory : List ℕ) → memory_upto i (length ls) ls memory ≡ flushed_memory s i ls cache memory
  unfolding memory_upto flushed_memory
  memory-all i [] memory = refl
  memory-all i (l ∷ ls) memory = memory-all (suc i) ls (line_flushed s i l cache memory)

  -- of memory as the loop has it: a turn, and the end
  pub flushed-more : (v : Visit) (k : ℕ) (ls now : List Line) (memory bytes : List ℕ) (d : Line) → now ≡ visited_upto s v 0 k ls → bytes ≡ memory_upto 0 k ls memory
      → k < length ls → line_flushed s k (get_or now k d) cache bytes ≡ memory_upto 0 (k + 1) ls memory
  flushed-more v k ls now memory bytes d w b h =
      let f : k + 1 ≡ suc k = omega arith in
      rw (f, w, b) (memory-more v k ls memory d h)

  pub flushed-all : (k : ℕ) (ls : List Line) (memory bytes : List ℕ) → bytes ≡ memory_upto 0 k ls memory → k ≡ length ls
      → bytes ≡ flushed_memory s 0 ls cache memory
  flushed-all k ls memory bytes b e = b ∙ (ap (λ (m : ℕ). memory_upto 0 m ls memory) e ∙ memory-all 0 ls memory)
