-- The walk over the places, as the loop has it: the tree, the records, the flags and their count, all of the places below i.
use Rattle.std.specs.Prelude.{Option}
use Prim.Native.Nat.{ℕ, ◌+◌, ◌*◌, ◌-◌, ◌≤◌, ◌<◌}
use mathlib.Core.Path.{◌≡◌, ◌∙◌, sym, refl, ap}
use mathlib.Core.Bool.{Bool, true, false, not, ◌&&◌}
use mir.Val.{bool_byte}
use mathlib.Core.List.{List}
use native.Mathlib.Nat.{sub-zero}
use native.Mathlib.Omega.{arith}
use lib.ListN.{length, get_or, set, length-set}
use Rattle.board.specs.Lists.{bit}
use Rattle.board.specs.declared.Shape.{Shape}
use Rattle.board.specs.declared.Home.{Home}
use Rattle.lines.specs.Holds.{holds_at}
use Rattle.stores.specs.Stores.{store}
use Rattle.visits.specs.Visits.{sweep}
use Rattle.visits.proofs.Visits.{sweep-more, sweep-end}
use Rattle.doubles.specs.Trees.{Tree, Placed}
use Rattle.doubles.specs.Doubles.{keys_of}
use Rattle.doubles.proofs.Keys.{keys-all}
use Rattle.dump_lines.specs.Tests.{place_key}
use Rattle.repairs.specs.Repairs.{mended, repaired, dropped_at, how_many, dropped_flags, dropped_count}
use Rattle.repairs.specs.Steps.{kept_at, mended_to}
use Rattle.repairs.proofs.Repairs.{Mending, mending-start, mending-more, keys-sized, Flagged, flagged-start, flagged-low, flagged-more}

-- a bit turned into a number, as the library does it
pub from-bit : (b : Bool) (n : ℕ) → n ≡ bool_byte b → n ≡ bit b
from-bit true n e = e
from-bit false n e = e

pub bit_low : (b : Bool) (n : ℕ) → n ≡ bool_byte b → n ≤ 1
bit_low true n e = omega arith
bit_low false n e = omega arith

pub record Going (s : Shape) (home : ℕ → Option Home) (r₀ c m keys links₀ r links flags : List ℕ) (count i : ℕ) : Type 0 where
  pub at_most : i ≤ s.lines
  pub tree : Tree keys links i
  pub keys_length : length keys ≡ s.lines
  pub links_length : length links ≡ length links₀
  pub links_room : 2 * length keys ≤ length links
  pub flags_length : length flags ≡ s.lines
  pub records_length : length r₀ ≡ 2 * s.lines
  pub keys_are : keys ≡ keys_of (place_key true s home (store r₀ c m)) s.lines
  pub mending : Mending s r₀ keys r i
  pub flagged : Flagged s r₀ r flags i count
  pub whole : repaired s home (store r₀ c m) ≡ sweep (mended s home) (s.lines - i) i (store r c m)

pub going_start : (s : Shape) (home : ℕ → Option Home) (r c m keys links flags : List ℕ) (n : ℕ) → Tree keys links 0 → length keys ≡ s.lines → 2 * s.lines ≤ length links
    → length flags ≡ s.lines → length r ≡ 2 * s.lines → keys ≡ keys_of (place_key true s home (store r c m)) n → n ≡ s.lines
    → Going s home r c m keys links r links flags 0 0
unfolding repaired
going_start s home r c m keys links flags n tree k l f size e q = record {
  at_most = omega arith;
  tree = tree;
  keys_length = k;
  links_length = refl;
  links_room = omega arith;
  flags_length = f;
  records_length = size;
  keys_are = keys-sized _ _ _ _ e q;
  mending = mending-start s r keys;
  flagged = flagged-start s r flags;
  whole = rw sub-zero;
}

module _ (s : Shape) (home : ℕ → Option Home) (r₀ c m keys links₀ r links flags : List ℕ) (count i : ℕ) (g : Going s home r₀ c m keys links₀ r links flags count i) where
  pub going-record : i < s.lines → 2 * i + 2 ≤ length r
  going-record h = omega (arith, g.mending.size, g.records_length)

  pub going-count : count ≤ i
  going-count = flagged-low s r₀ r flags i count g.flagged

  going-one : (links₁ r₁ : List ℕ) (at : ℕ) (keep gone : Bool) (flag : ℕ) → i < s.lines → Placed keys links links₁ i at → keep ≡ kept_at (get_or keys i 0) at i
      → r₁ ≡ mended_to s i keep r → gone ≡ (holds_at s r i && not keep) → flag ≡ bit gone
      → Going s home r₀ c m keys links₀ r₁ links₁ (set flags i flag) (count + flag) (i + 1)
  going-one links₁ r₁ at keep gone flag h p e q d f =
      let more = mending-more s home r₀ c m keys r s.lines i g.keys_are g.records_length h g.mending links links₁ at p r₁ keep e q in
      record {
        at_most = omega arith;
        tree = p.grown;
        keys_length = g.keys_length;
        links_length = p.same_length ∙ g.links_length;
        links_room = omega (arith, p.same_length, g.links_room);
        flags_length = length-set flags i flag ∙ g.flags_length;
        records_length = g.records_length;
        keys_are = g.keys_are;
        mending = more.0;
        flagged = flagged-more s r₀ r flags i count keep gone flag g.flagged (g.mending.rest i (omega arith)) (going-record h) (omega (arith, g.flags_length)) d f r₁ q;
        whole = g.whole ∙ sweep-more (mended s home) s.lines i (store r c m) (store r₁ c m) more.1 h;
      }

  -- the flag, and the same bit counted
  pub going_more : (links₁ r₁ : List ℕ) (at : ℕ) (keep gone : Bool) (flag n : ℕ) → i < s.lines → Placed keys links links₁ i at
      → keep ≡ kept_at (get_or keys i 0) at i → r₁ ≡ mended_to s i keep r → gone ≡ (holds_at s r i && not keep) → flag ≡ bit gone → n ≡ bit gone
      → Going s home r₀ c m keys links₀ r₁ links₁ (set flags i flag) (count + n) (i + 1)
  going_more links₁ r₁ at keep gone flag n h p e q d f z = rw (z ∙ sym f) (going-one links₁ r₁ at keep gone flag h p e q d f)

  module _ (h : s.lines ≤ i) where
    end : i ≡ s.lines
    end = omega (arith, g.at_most)

    pub going-store : store r c m ≡ repaired s home (store r₀ c m)
    going-store = sym (g.whole ∙ sweep-end (mended s home) s.lines i (store r c m) h)

    pub going-flags : flags ≡ dropped_flags s r₀ r
    going-flags = keys-all (λ k. bit (dropped_at s r₀ r k)) flags i s.lines g.flags_length (omega (arith, g.flags_length)) g.flagged.flags_are

    pub going-total : count ≡ dropped_count s r₀ r
    going-total = g.flagged.count_is ∙ ap (how_many (dropped_at s r₀ r)) end
