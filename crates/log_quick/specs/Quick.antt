-- What code inside asks: numbers that lie whole in a piece of a log, and a user access whose numbers do.
use Rattle.std.specs.Prelude.{ℕ, suc, ◌+◌, ◌^◌, ◌<◌, ◌≤◌, ◌-◌, ◌≡◌, cond, Option, None, Some, List, ◌∷◌, ◌++◌, eqb, length, drop}
use Rattle.log_numbers.specs.Numbers.{group_size, Groups, value_of}
use Rattle.log_quick.specs.declared.Number.{Number}
use Rattle.log_quick.specs.declared.UserAt.{UserAt}

-- these bytes begin with those of a number, of at most five groups, `count` of them
pub record Heads (bytes : List ℕ) (n count : ℕ) (rest : List ℕ) : Type 0 where
  pub groups : List ℕ
  pub byte : ℕ
  pub are : Groups groups
  pub few : length groups ≤ 4
  pub small : byte < group_size
  pub proper : 1 ≤ length groups → 1 ≤ byte
  pub worth : n ≡ value_of groups byte
  pub many : count ≡ suc (length groups)
  pub split : bytes ≡ groups ++ byte ∷ rest

-- the number at a place of a piece, if it is plain
abbrev pub NumberAt : List ℕ → ℕ → Option Number → Type 0
NumberAt piece from None = Unit
NumberAt piece from (Some r) = (r.count ≤ 5) × Heads (drop from piece) r.value r.count (drop (from + r.count) piece)

-- a number after other groups is plain if its last group isn't 0
abbrev pub Ended : ℕ → ℕ → ℕ → Option Number → Type 0
Ended last value count None = Unit
Ended last value count (Some r) = (1 ≤ last) × (r.value ≡ value) × (r.count ≡ count)

-- the user access at a place of a piece: its kind, and five fields that fit
pub record UserHeads (piece : List ℕ) (from : ℕ) (r : UserAt) : Type 0 where
  pub process_count : ℕ
  pub address_count : ℕ
  pub value_count : ℕ
  pub kind : drop from piece ≡ 1 ∷ drop (from + 1) piece
  pub process : Heads (drop (from + 1) piece) r.process process_count (drop (from + 1 + process_count) piece)
  pub flags : drop (from + 1 + process_count) piece ≡ r.store ∷ r.width ∷ drop (from + 1 + process_count + 2) piece
  pub address : Heads (drop (from + 1 + process_count + 2) piece) r.address address_count (drop (from + 1 + process_count + 2 + address_count) piece)
  pub value : Heads (drop (from + 1 + process_count + 2 + address_count) piece) r.value value_count (drop (from + r.count) piece)
  pub many : r.count ≡ 1 + process_count + 2 + address_count + value_count
  pub flag : r.store ≤ 1
  pub one : r.width < group_size
  pub address_fits : r.address ≤ 2 ^ 32 - 1
  pub value_fits : r.value ≤ cond (eqb r.store 0) 0 (2 ^ 32 - 1)

abbrev pub UserIsAt : List ℕ → ℕ → Option UserAt → Type 0
UserIsAt piece from None = Unit
UserIsAt piece from (Some r) = (r.count ≤ 18) × UserHeads piece from r
