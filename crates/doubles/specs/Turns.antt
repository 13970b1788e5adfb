-- How often a search turns: once for each bit of its key at most, whatever the keys are.
use Rattle.std.specs.Prelude.{ℕ, ◌≤◌, ◌<◌, ◌^◌, List, get_or}
use Rattle.doubles.specs.Trees.{Tree, Turned}

-- in a tree of keys below 2^bits no search for a key below 2^bits turns more often than that
abbrev pub FewTurns : Type 0
FewTurns =
    (keys links : List ℕ) (n bits : ℕ) → Tree keys links n → ((g : ℕ) → get_or keys g 0 < 2 ^ bits) → (key turns node : ℕ) → key < 2 ^ bits
    → Turned keys links key turns node → turns ≤ bits
