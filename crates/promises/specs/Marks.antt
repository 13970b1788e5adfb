-- CR 8: the mark says how an access went. 0: refused or not an access; 1: hit; 2: refilled without a write-back; 3: refilled with one in that call;
-- 4: uncached. Of every call on any board at all, by the records and memory before it and after it.
use Rattle.std.specs.Prelude.{ℕ, ◌≤◌, ◌≡◌, List, true, length}
use Rattle.address.specs.Addresses.{name_of, region_of}
use Rattle.address.specs.declared.Global.{Global}
use Rattle.address.specs.declared.Region.TheVariants.{Uncached}
use Rattle.board.specs.declared.Shape.{Shape}
use Rattle.line_bytes.specs.Bytes.{line_of, with_line}
use Rattle.lines.specs.Records.{line_at}
use Rattle.lines.specs.Holds.{holds_at}
use Rattle.stores.specs.Stores.{Store, store}
use Rattle.stores.specs.declared.Access.{Access}
use Rattle.machine.specs.Boards.{Board, Outcome, with_store}
use Rattle.machine.specs.Accesses.{user_global}
use Rattle.promises.specs.Runs.{Call, step}
use Rattle.promises.specs.Values.{Asker, as_user, as_supervisor, asks}

-- ---- what an access did, from the store before it, x, to the store after it, y

-- a record holds the line of this name
pub record Holding (s : Shape) (x : Store) (name : ℕ) : Type 0 where
  pub at : ℕ
  pub named : (line_at x.records at).name ≡ name
  pub holds : holds_at s x.records at ≡ true

-- the line of this name was refilled: no record held it, and now one does
pub record Refilled (s : Shape) (x y : Store) (name : ℕ) : Type 0 where
  pub not_before : Holding s x name → ⊥
  pub after : Holding s y name

-- one line was written back, and nothing else in memory changed: a record that held a changed line has another name now, and that line's bytes
-- stand in its own physical line. (Memory alone would not tell: they may have stood there before.)
pub record WroteBack (s : Shape) (x y : Store) : Type 0 where
  pub at : ℕ
  pub held : holds_at s x.records at ≡ true
  pub changed : (line_at x.records at).changed ≡ true
  pub replaced : (line_at y.records at).name ≡ (line_at x.records at).name → ⊥
  pub written : y.memory ≡ with_line x.memory (line_at x.records at).physical (line_of x.cache at)

-- ---- the marks of accesses

-- the global address that an access goes to (of no meaning where a user's slot is empty: that is refused)
unfoldable pub goes_to : Board → Asker → Global
goes_to b (as_user process e) = user_global b.slots process e
goes_to b (as_supervisor g) = g

-- past the cache go a supervisor's accesses under prefix 0
unfoldable pub PastCache : Asker → Type 0
PastCache (as_user process e) = ⊥
PastCache (as_supervisor g) = region_of g ≡ Uncached

-- P exactly if Q
abbrev pub Exactly : Type 0 → Type 0 → Type 0
Exactly P Q = (P → Q) × (Q → P)

-- an access to the line of this name, from the store x to the outcome o: each mark is given exactly if what it says is so
pub record Tells (s : Shape) (x : Store) (name : ℕ) (Past : Type 0) (o : Outcome) : Type 0 where
  pub refused_0 : Exactly (o.answer.mark ≡ 0) (o.answer.number ≡ 0 → ⊥)
  -- (a name under prefix 0 may be held too, on a board that no calls reach; no access goes to it)
  pub hit_1 : Exactly (o.answer.mark ≡ 1) ((o.answer.number ≡ 0) × (Past → ⊥) × Holding s x name)
  pub refilled_2 : Exactly (o.answer.mark ≡ 2) (Refilled s x o.after.store name × (WroteBack s x o.after.store → ⊥))
  pub wrote_back_3 : Exactly (o.answer.mark ≡ 3) (WroteBack s x o.after.store)
  pub uncached_4 : Exactly (o.answer.mark ≡ 4) ((o.answer.number ≡ 0) × Past)
  -- there is no other mark
  pub no_other : o.answer.mark ≤ 4
  -- an access that writes a line back refills its own
  pub refilled_too : o.answer.mark ≡ 3 → Refilled s x o.after.store name
  -- where no line is written back, only an access past the cache changes memory; and that one leaves the cache alone
  pub memory_kept : (o.answer.mark ≡ 3 → ⊥) → (o.answer.mark ≡ 4 → ⊥) → o.after.store.memory ≡ x.memory
  pub cache_kept : Past → (o.after.store.records ≡ x.records) × (o.after.store.cache ≡ x.cache)

-- ---- all calls

pub record MarksTell : Type 0 where
  pub accesses : (s : Shape) (b : Board) (x : Asker) (a : Access) → Tells s b.store (name_of (goes_to b x)) (PastCache x) (step s b (asks x a))
  -- a call that is no access gives 0, done or refused
  pub others : (s : Shape) (b : Board) (k : Call) → ((x : Asker) (a : Access) → asks x a ≡ k → ⊥) → (step s b k).answer.mark ≡ 0
  -- the mark goes by the records (and matrices) before the call and not by the bytes: other bytes in cache and memory, as many, give the same mark
  pub by_records : (s : Shape) (b : Board) (k : Call) (cache memory : List ℕ) → length cache ≡ length b.store.cache → length memory ≡ length b.store.memory
      → (step s (with_store b (store b.store.records cache memory)) k).answer.mark ≡ (step s b k).answer.mark
