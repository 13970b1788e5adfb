-- The buffers that a function is lent as scratch: for contracts.
use Rattle.std.specs.Prelude.{ℕ, List}

-- a lent buffer: its contents as the function begins and as it ends
pub record Buffer : Type 0 where
  pub before : List ℕ
  pub after : List ℕ

abbrev pub lent : List ℕ → List ℕ → Buffer
lent before after = record { before = before; after = after }
