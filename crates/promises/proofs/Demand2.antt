-- Demand 2: the board is the plain machine, from a fresh board and from any sound one.
-- Stands on RelatedCalls and RelatedAccesses (one call), Lengths and PagesOnce (what stays), Soundness and Follows (runs).
use Prim.Native.Nat.{ℕ}
use mathlib.Core.Path.{◌≡◌, refl, ◌∙◌}
use mathlib.Core.Bool.{Bool, true, false, not, cond}
use mathlib.Core.List.{List, []}
use lib.ListN.{length}
use borrow.Author.Tests.{ltb-true}
use Rattle.board.specs.declared.Shape.{Shape}
use Rattle.line_bytes.specs.Bytes.{line_of}
use Rattle.stores.specs.Stores.{current}
use Rattle.machine.specs.Boards.{Board, fits_board, refused}
use Rattle.machine.specs.Refusals.{by_table, is_physical_line}
use Rattle.machine.specs.Accesses.{user_table, user_access, supervisor_table, supervisor_access}
use Rattle.machine.specs.Calls as calls
use Rattle.machine.specs.Looks.{look_number, look}
use Rattle.promises.specs.Plain.{plain_refused, plain_user, plain_supervisor, plain_attach, plain_detach, plain_map, plain_unmap, plain_protect, plain_move, plain_flush, plain_tagging, plain_load_and_map, plain_drop_tag, plain_look_number, plain_look}
use Rattle.promises.specs.Runs.{Supervisor, access, attach, detach, map, unmap, protect, move, flush_all, tag, load_and_map, drop_tag, Call, user, supervisor, supervise, step, after, plain_supervise, plain_step, plain_of}
use Rattle.promises.specs.Demand2.{Alike, Demand2, Demand2Sound}
use Rattle.page_laws.proofs.Reaching.{look-same}
use Rattle.promises.proofs.Related.{Related, lengths-same}
use Rattle.promises.proofs.RelatedCalls.{related-attach, related-detach, related-map, related-unmap, related-protect, related-move, related-flush, related-tag, related-load, related-drop}
use Rattle.promises.proofs.RelatedAccesses.{related-user, related-supervisor}
use Rattle.promises.proofs.Lengths.{fits-same}
use Rattle.promises.proofs.PagesOnce.{pages-once-step}
use Rattle.promises.proofs.Soundness.{Stands, sound-of, stands_of, stands-fresh}
use Rattle.promises.proofs.Follows.{Stepped, follows-after, alike}

related-supervise : (s : Shape) (b : Board) (m : List ℕ) → Stands s b m → (c : Supervisor) → Related s (supervise s b c) (plain_supervise s (plain_of b m) c)
unfolding supervise plain_supervise
related-supervise s b m x (access a g) = related-supervisor s b m x.fits x.sim a g
related-supervise s b m x (attach process slot segment write) = related-attach s b m x.fits x.sim process slot segment write
related-supervise s b m x (detach process slot) = related-detach s b m x.fits x.sim process slot
related-supervise s b m x (map page frame write) = related-map s b m x.fits x.sim page frame write
related-supervise s b m x (unmap page) = related-unmap s b m x.fits x.sim page
related-supervise s b m x (protect page write) = related-protect s b m x.fits x.sim page write
related-supervise s b m x (move page new) = related-move s b m x.fits x.sim page new
related-supervise s b m x flush_all = related-flush s b m x.fits x.sim
related-supervise s b m x (tag name) = related-tag s b m x.fits x.sim name
related-supervise s b m x (load_and_map line) = related-load s b m x.fits x.sim line
related-supervise s b m x drop_tag = related-drop s b m x.fits x.sim

-- one call on both machines
related-step : (s : Shape) (b : Board) (m : List ℕ) → Stands s b m → (k : Call) → Related s (step s b k) (plain_step s (plain_of b m) k)
unfolding step plain_step
related-step s b m x (user process a e) = related-user s b m x.fits x.sim process a e
related-step s b m x (supervisor c) = related-supervise s b m x c

pub stepped : (s : Shape) (b : Board) (m : List ℕ) (k : Call) → Stands s b m → Stepped (Stands s) s b m k
stepped s b m k x =
    let r = related-step s b m x k in
    record {
      memory = r.memory;
      given_is = r.given_is;
      related = record { fits = fits-same s s b k ∙ x.fits; pages_once = pages-once-step s b k x.fits x.pages_once; sim = r.sim };
    }

pub look-plain : (s : Shape) (b : Board) (m : List ℕ) (line : ℕ) → Stands s b m → look s b line ≡ plain_look s (plain_of b m) line
unfolding look plain_look by_table
look-plain s b m line x = rw (lengths-same s b m x.sim, x.fits) (go (is_physical_line s line) refl)
  where
    go : (t : Bool) → is_physical_line s line ≡ t → cond (not t) [] (current s b.store line) ≡ cond (not t) [] (line_of m line)
    go true t = look-same x.sim line (ltb-true _ _ t)
    go false t = refl

pub look-number-plain : (s : Shape) (b : Board) (m : List ℕ) (line : ℕ) → Stands s b m → look_number s b line ≡ plain_look_number s (plain_of b m) line
unfolding look_number plain_look_number
look-number-plain s b m line x = rw (lengths-same s b m x.sim)

-- from any sound board
pub demand2-sound : Demand2Sound
demand2-sound s b m x y ks =
    let z = stands_of s b m x y in
    let r = follows-after (Stands s) s (stepped s) b m ks z in
    record { alike = alike (Stands s) s (stepped s) (look-plain s) (look-number-plain s) b m ks z; sound = sound-of s (after s b ks) r.memory r.related }

-- ---- a board whose numbers or lengths don't fit: every call is refused by 1, on both machines

pub record Unfit (s : Shape) (b : Board) (m : List ℕ) : Type 0 where
  pub no : fits_board s b ≡ false
  pub same_length : length m ≡ length b.store.memory

module _ (s : Shape) (b : Board) (m : List ℕ) (x : Unfit s b m) where
  abbrev no : fits_board s b ≡ false
  no = x.no

  abbrev same : length m ≡ length b.store.memory
  same = x.same_length

  unfit-supervise : (c : Supervisor) → (supervise s b c ≡ refused b 1) × (plain_supervise s (plain_of b m) c ≡ plain_refused (plain_of b m) 1)
  unfolding supervise plain_supervise by_table supervisor_access supervisor_table plain_supervisor calls.attach calls.detach calls.map_page calls.unmap calls.protect calls.move_page calls.flush_all calls.tag calls.load_and_map calls.drop_tag plain_attach plain_detach plain_map plain_unmap plain_protect plain_move plain_flush plain_tagging plain_load_and_map plain_drop_tag
  unfit-supervise (access a g) = (rw no, rw (same, no))
  unfit-supervise (attach process slot segment write) = (rw no, rw (same, no))
  unfit-supervise (detach process slot) = (rw no, rw (same, no))
  unfit-supervise (map page frame write) = (rw no, rw (same, no))
  unfit-supervise (unmap page) = (rw no, rw (same, no))
  unfit-supervise (protect page write) = (rw no, rw (same, no))
  unfit-supervise (move page new) = (rw no, rw (same, no))
  unfit-supervise flush_all = (rw no, rw (same, no))
  unfit-supervise (tag name) = (rw no, rw (same, no))
  unfit-supervise (load_and_map line) = (rw no, rw (same, no))
  unfit-supervise drop_tag = (rw no, rw (same, no))

  pub unfit-call : (k : Call) → (step s b k ≡ refused b 1) × (plain_step s (plain_of b m) k ≡ plain_refused (plain_of b m) 1)
  unfolding step plain_step by_table user_access user_table plain_user
  unfit-call (user process a e) = (rw no, rw (same, no))
  unfit-call (supervisor c) = unfit-supervise c

  -- so whatever relates the two machines still does
  pub unfit-keeps : (R : Board → List ℕ → Type 0) (k : Call) → R b m → Stepped R s b m k
  unfit-keeps R k r =
      let q = unfit-call k in
      let z = q.0 in
      record { memory = m; given_is = rw (q.0, q.1); related = rw z r }

pub unfit-stepped : (s : Shape) (b : Board) (m : List ℕ) (k : Call) → Unfit s b m → Stepped (Unfit s) s b m k
unfit-stepped s b m k x = unfit-keeps s b m x (Unfit s) k x

pub look-unfit : (s : Shape) (b : Board) (m : List ℕ) (line : ℕ) → Unfit s b m → look s b line ≡ plain_look s (plain_of b m) line
unfolding look plain_look by_table
look-unfit s b m line x = rw (x.same_length, x.no)

pub look-number-unfit : (s : Shape) (b : Board) (m : List ℕ) (line : ℕ) → Unfit s b m → look_number s b line ≡ plain_look_number s (plain_of b m) line
unfolding look_number plain_look_number
look-number-unfit s b m line x = rw x.same_length

-- from any fresh board
pub demand2 : Demand2
demand2 s b x ks = go (fits_board s b) refl
  where
    go : (t : Bool) → fits_board s b ≡ t → Alike s b b.store.memory ks
    go true t = alike (Stands s) s (stepped s) (look-plain s) (look-number-plain s) b b.store.memory ks (stands-fresh s b x t)
    go false t = alike (Unfit s) s (unfit-stepped s) (look-unfit s) (look-number-unfit s) b b.store.memory ks (record { no = t; same_length = refl })
