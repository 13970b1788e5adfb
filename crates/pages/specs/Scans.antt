-- What the search over the frame words asks of several words at once.
use Rattle.std.specs.Prelude.{ℕ, ◌+◌, ◌/◌, ◌≤◌, ◌<◌, ◌≡◌, List, get_or}

-- none of the n words from frame f up is one of the page's four, page × 4 to page × 4 + 3
abbrev pub NoneOf : List ℕ → ℕ → ℕ → ℕ → Type 0
NoneOf words page f n = (k : ℕ) → f ≤ k → k < f + n → get_or words k 0 / 4 ≡ page → ⊥
