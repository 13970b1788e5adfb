-- Sound boards and the boards that stand for a flat memory are the same; a fresh board is one.
-- Stands on Sim, Bytes, Held, Zeroed and the set laws of `lines`.
use Rattle.std.specs.Prelude.{Option, Some, None}
use Prim.Native.Nat.{ℕ, ◌+◌, ◌*◌}
use mathlib.Core.Path.{◌≡◌, refl, sym, ap, ◌∙◌}
use mathlib.Core.Bool.{true}
use mathlib.Core.List.{List}
use native.Mathlib.Omega.{arith}
use lib.ListN.{get_or, length-replicate, get_or-replicate}
use Rattle.address.specs.Layout.{process_slots}
use Rattle.pages.specs.Pages.{home_of, names_page}
use Rattle.board.specs.Shapes.{matrices_of}
use Rattle.board.specs.declared.Shape.{Shape}
use Rattle.board.proofs.Bools.{clash, and_left}
use Rattle.line_bytes.specs.Bytes.{line_of}
use Rattle.lines.specs.Records.{line_at}
use Rattle.lines.specs.Holds.{holds_at, holds_line, keeper_of}
use Rattle.lines.proofs.Sets.{ways_pos, sets_pos}
use Rattle.stores.specs.Stores.{current_by, current}
use Rattle.machine.specs.Boards.{Board, fits_board, Fresh, fresh}
use Rattle.promises.specs.Sound.{Sound, Shows, PagesOnce, FreshSound}
use Rattle.store_laws.proofs.Sim.{Sim}
use Rattle.store_laws.proofs.Bytes.{line-ext, line-at}
use Rattle.store_laws.proofs.Zeroed.{zeros-at}
use Rattle.store_laws.proofs.Held.{held_in, held-listed, held_below_lem, keeper-some, keeper-nothing}
use Rattle.page_laws.proofs.Maps.{names-word}
use Rattle.promises.proofs.Shapes.{board-shaped, board-lined}

-- a board stands for a flat memory
pub record Stands (s : Shape) (b : Board) (m : List ℕ) : Type 0 where
  pub fits : fits_board s b ≡ true
  pub pages_once : PagesOnce s b.words
  pub sim : Sim s (home_of s b.words) b.store m

-- it is sound
pub sound-of : (s : Shape) (b : Board) (m : List ℕ) → Stands s b m → Sound s b
sound-of s b m x = record {
  shape_holds = x.fits;
  pages_once = x.pages_once;
  lines_once = x.sim.once;
  lines_mapped = x.sim.maps;
  clean_lines_equal = λ i h c.
      let l = held_below_lem x.sim i h in
      let p = held_in s b.store.records i h in
      line-ext b.store.cache b.store.memory i (line_at b.store.records i).physical (omega (arith, x.sim.cache_count)) (omega (arith, x.sim.memory_count))
      (λ k g. x.sim.clean i k h c g);
}

-- and a sound board stands for what it shows
module _ (s : Shape) (b : Board) (m : List ℕ) (x : Sound s b) (y : Shows s b m) where
  abbrev r : List ℕ
  r = b.store.records

  -- the bytes shown where record i holds line p
  shown-held : (i p : ℕ) → holds_at s r i ≡ true → (line_at r i).physical ≡ p → (f : Option ℕ) → keeper_of s r p ≡ f → current_by b.store.cache b.store.memory p f ≡ line_of b.store.cache i
  unfolding current_by
  shown-held i p h q (Some j) e =
      let k = keeper-some s r p j e in
      ap (line_of b.store.cache) (x.lines_once j i k.0 h (k.1 ∙ sym q))
  shown-held i p h q None e =
      let l = held-listed s r i s.lines (board-shaped s b x.shape_holds).records_are h in
      absurd (keeper-nothing s r p i e l h q)

  shown-bare : (p : ℕ) → ((i : ℕ) → holds_at s r i ≡ true → (line_at r i).physical ≡ p → ⊥) → (f : Option ℕ) → keeper_of s r p ≡ f → current_by b.store.cache b.store.memory p f ≡ line_of b.store.memory p
  unfolding current_by
  shown-bare p free (Some j) e = let k = keeper-some s r p j e in absurd (free j k.0 k.1)
  shown-bare p free None e = refl

  pub stands_of : Stands s b m
  unfolding current
  stands_of =
      let h = board-shaped s b x.shape_holds in
      record {
        fits = x.shape_holds;
        pages_once = x.pages_once;
        sim = record {
          ways_pos = ways_pos s (board-lined s b x.shape_holds);
          sets_pos = sets_pos s (board-lined s b x.shape_holds);
          record_count = h.records_are;
          cache_count = h.cache_is;
          memory_count = h.memory_is;
          flat_count = y.same_length ∙ h.memory_is;
          once = x.lines_once;
          maps = x.lines_mapped;
          clean = λ i k o c g. line-at b.store.cache b.store.memory i (line_at r i).physical k (x.clean_lines_equal i o c) g;
          cached = λ i k o g. line-at m b.store.cache (line_at r i).physical i k
              (sym (y.same_lines (line_at r i).physical (held_in s r i o)) ∙ shown-held i (line_at r i).physical o refl _ refl) g;
          bare = λ p k free q g. line-at m b.store.memory p p k (sym (y.same_lines p q) ∙ shown-bare p free _ refl) g;
        };
      }

-- ---- a fresh board

-- no record of it holds a line
pub fresh-empty : (s : Shape) (b : Board) → Fresh b → (i : ℕ) → holds_at s b.store.records i ≡ true → ⊥
unfolding holds_at holds_line
fresh-empty s b x i h = clash _ (and_left (line_at b.store.records i).valid _ h) (x.no_line i)

-- the board of zeros is one
pub fresh-zeros : (s : Shape) (cache memory : List ℕ) → Fresh (fresh s cache memory)
unfolding line_at
fresh-zeros s cache memory = record {
  no_slot = λ i. zeros-at (s.processes * process_slots) i;
  no_word = λ f. zeros-at s.frames f;
  no_line = λ i. rw (zeros-at (2 * s.lines) (2 * i + 1));
  no_use = λ place h. get_or-replicate (matrices_of s) place _ _ (rw length-replicate at h);
  no_tag = refl;
}

module _ (s : Shape) (b : Board) (fresh : Fresh b) (fits : fits_board s b ≡ true) where
  empty : (i : ℕ) → holds_at s b.store.records i ≡ true → ⊥
  empty i h = fresh-empty s b fresh i h

  pub stands-fresh : Stands s b b.store.memory
  stands-fresh =
      let h = board-shaped s b fits in
      record {
        fits = fits;
        pages_once = λ page f g o a b c d n e. absurd (no_name page f n);
        sim = record {
          ways_pos = ways_pos s (board-lined s b fits);
          sets_pos = sets_pos s (board-lined s b fits);
          record_count = h.records_are;
          cache_count = h.cache_is;
          memory_count = h.memory_is;
          flat_count = h.memory_is;
          once = λ i j a b q. absurd (empty i a);
          maps = λ i a. absurd (empty i a);
          clean = λ i k a c g. absurd (empty i a);
          cached = λ i k a g. absurd (empty i a);
          bare = λ p k free q g. refl;
        };
      }
    where
      no_name : (page f : ℕ) → names_page (get_or b.words f 0) page ≡ true → ⊥
      no_name page f n = let z = names-word 0 page (rw (fresh.no_word f) at n) in omega (arith, z.1)

-- so a fresh board that fits is sound
pub fresh-sound : FreshSound
fresh-sound s b x h = sound-of s b b.store.memory (stands-fresh s b x h)
