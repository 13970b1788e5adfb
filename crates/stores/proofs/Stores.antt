-- The store's steps as the code takes them.
use Prim.Native.Nat.{ℕ, ◌+◌, ◌*◌}
use mathlib.Core.Path.{◌≡◌, ◌∙◌}
use mathlib.Core.Bool.{Bool, true, false}
use mathlib.Core.List.{List}
use lib.ListN.{length}
use Rattle.board.specs.declared.Shape.{Shape}
use Rattle.line_bytes.specs.Bytes.{number, stored, line_of, with_line}
use Rattle.lines.specs.Records.{line_at, put_line, new_line, changed_line}
use Rattle.stores.specs.Stores.{store, must_write_back, written_back, filled, noted, inserted, performed, performed_at}
use Rattle.lines.specs.Holds.{holds_line, holds_at}
use Rattle.stores.specs.Premises.{Sized}
use Rattle.lines.specs.declared.Line.{Line}
use Rattle.stores.specs.declared.Access.{Access}

pub sized-kept : (s : Shape) (r c m r₁ c₁ m₁ : List ℕ) → Sized s r c m → length r₁ ≡ length r → length c₁ ≡ length c
    → length m₁ ≡ length m → Sized s r₁ c₁ m₁
sized-kept s r c m r₁ c₁ m₁ z x y w = record {
  lined = z.lined;
  records_are = x ∙ z.records_are;
  cache_is = y ∙ z.cache_is;
  memory_is = w ∙ z.memory_is;
}

-- the write-back of a line, and whether there was one
module _ (s : Shape) (r c m : List ℕ) (i : ℕ) (l : Line) (t : Bool) (e : l ≡ line_at r i) (h : t ≡ holds_line s i l) where
  pub written-not : t ≡ false → store r c m ≡ written_back s i (store r c m)
  unfolding written_back holds_at
  written-not f = rw (← e, ← h, f)

  pub written-clean : t ≡ true → l.changed ≡ false → store r c m ≡ written_back s i (store r c m)
  unfolding written_back holds_at
  written-clean f g = rw (← e, ← h, f, g)

  pub written-now : (m₁ : List ℕ) → t ≡ true → l.changed ≡ true → m₁ ≡ with_line m l.physical (line_of c i) → store r c m₁ ≡ written_back s i (store r c m)
  unfolding written_back holds_at
  written-now m₁ f g k = rw (k, ← e, ← h, f, g)

  pub writes-not : t ≡ false → false ≡ must_write_back s r i
  unfolding holds_at
  writes-not f = rw (← e, ← h, f)

  pub writes-clean : t ≡ true → l.changed ≡ false → false ≡ must_write_back s r i
  unfolding holds_at
  writes-clean f g = rw (← e, ← h, f, g)

  pub writes-now : t ≡ true → l.changed ≡ true → true ≡ must_write_back s r i
  unfolding holds_at
  writes-now f g = rw (← e, ← h, f, g)

-- a miss
pub inserted_by : (s : Shape) (r c m : List ℕ) (i name line : ℕ) (write : Bool) (m₁ c₁ r₁ : List ℕ) → store r c m₁ ≡ written_back s i (store r c m)
    → c₁ ≡ with_line c i (line_of m₁ line) → r₁ ≡ put_line r i (new_line name line write) → store r₁ c₁ m₁ ≡ inserted s i name line write (store r c m)
unfolding inserted noted filled
inserted_by s r c m i name line write m₁ c₁ r₁ e f g = rw (g, f, ← e)

-- a load or a store
module _ (r c : List ℕ) (i offset : ℕ) (a : Access) where
  pub performed-store : (r₁ c₁ : List ℕ) → a.store ≡ true → c₁ ≡ stored c (16 * i + offset) a.width a.value → r₁ ≡ put_line r i (changed_line (line_at r i))
      → performed 0 r₁ c₁ ≡ performed_at i offset a r c
  unfolding performed_at
  performed-store r₁ c₁ e f g = rw (e, f, g)

  pub performed-load : (v : ℕ) → a.store ≡ false → v ≡ number c (16 * i + offset) a.width → performed v r c ≡ performed_at i offset a r c
  unfolding performed_at
  performed-load v e f = rw (e, f)
