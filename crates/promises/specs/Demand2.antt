-- Demand 2. From a fresh board, any sequence of calls gives the answers and values of the plain machine. It refuses
-- only when that machine does. A permitted access to a mapped page is done in that same call, with at most one line refilled.
use Rattle.std.specs.Prelude.{ℕ, ◌<◌, ◌≡◌, Bool, false, List, eqb}
use Rattle.address.specs.Addresses.{name_of, region_of}
use Rattle.address.specs.declared.Effective.{Effective}
use Rattle.address.specs.declared.Global.{Global}
use Rattle.address.specs.declared.Region.TheVariants.{Uncached}
use Rattle.board.specs.declared.Shape.{Shape}
use Rattle.line_bytes.specs.Bytes.{line_of}
use Rattle.lines.specs.Records.{line_at}
use Rattle.stores.specs.Stores.{Store}
use Rattle.lines.specs.Holds.{place_of, set_at}
use Rattle.lines.specs.Victims.{record_for}
use Rattle.stores.specs.declared.Access.{Access}
use Rattle.machine.specs.Boards.{Board, Fresh}
use Rattle.machine.specs.Accesses.{user_global, user_access, supervisor_access}
use Rattle.machine.specs.Looks.{look_number, look}
use Rattle.promises.specs.Plain.{plain_look, plain_look_number}
use Rattle.promises.specs.Runs.{Call, step, after, replies, plain_step, plain_after, plain_replies, plain_of}
use Rattle.promises.specs.Sound.{Sound, Shows}

-- the board, run from b, is the plain machine, run from the same slots, words and tag and this memory
pub record Alike (s : Shape) (b : Board) (memory : List ℕ) (ks : List Call) : Type 0 where
  -- the numbers and values are the plain machine's
  pub same_replies : replies s b ks ≡ plain_replies s (plain_of b memory) ks
  -- at every moment look shows the plain machine's memory (`ks` is any list, so any first part of a run too)
  pub same_bytes : (line : ℕ) → look s (after s b ks) line ≡ plain_look s (plain_after s (plain_of b memory) ks) line
  pub same_look_number : (line : ℕ) → look_number s (after s b ks) line ≡ plain_look_number s (plain_after s (plain_of b memory) ks) line
  -- a call that the plain machine does is done in that same call
  pub done_at_once : (k : Call) → (plain_step s (plain_after s (plain_of b memory) ks) k).number ≡ 0 → (step s (after s b ks) k).answer.number ≡ 0

-- every record and every line but those that pass the test are as they were
pub record OnlyAt (may : ℕ → Bool) (x y : Store) : Type 0 where
  pub same_records : (i : ℕ) → may i ≡ false → line_at y.records i ≡ line_at x.records i
  pub same_cache : (i : ℕ) → may i ≡ false → line_of y.cache i ≡ line_of x.cache i

-- of any fresh board, with the plain machine started on the same memory
abbrev pub Demand2 : Type 0
Demand2 = (s : Shape) (b : Board) → Fresh b → (ks : List Call) → Alike s b b.store.memory ks

-- of any sound board, which stays sound
pub record SoundRun (s : Shape) (b : Board) (memory : List ℕ) (ks : List Call) : Type 0 where
  pub alike : Alike s b memory ks
  pub sound : Sound s (after s b ks)

abbrev pub Demand2Sound : Type 0
Demand2Sound = (s : Shape) (b : Board) (memory : List ℕ) → Sound s b → Shows s b memory → (ks : List Call) → SoundRun s b memory ks

-- the record where an access to this address goes: the one that holds its line, else the victim of its set
abbrev pub record_to : Shape → Board → Global → ℕ
record_to s b g = record_for s b.uses b.store.records (name_of g)

-- of any board at all: an access alters no record but one, and fills no other line, so at most one line is refilled; and that record is one of its own set.
-- (With one line in a set it is the one at its own place: `Editions.antt` of set_promises.)
pub record Demand2Place : Type 0 where
  pub user_place : (s : Shape) (b : Board) (process : ℕ) (a : Access) (e : Effective)
      → OnlyAt (eqb (record_to s b (user_global b.slots process e))) b.store (user_access s b process a e).after.store
  pub supervisor_place : (s : Shape) (b : Board) (a : Access) (g : Global)
      → OnlyAt (eqb (record_to s b g)) b.store (supervisor_access s b a g).after.store
  pub own_set : (s : Shape) (b : Board) (g : Global) → 0 < s.ways → set_at s (record_to s b g) ≡ place_of s (name_of g)
  -- prefix 0 never touches the cache
  pub prefix_0_records : (s : Shape) (b : Board) (a : Access) (g : Global) → region_of g ≡ Uncached
      → (supervisor_access s b a g).after.store.records ≡ b.store.records
  pub prefix_0_cache : (s : Shape) (b : Board) (a : Access) (g : Global) → region_of g ≡ Uncached
      → (supervisor_access s b a g).after.store.cache ≡ b.store.cache
