-- The plain machines of the two editions go in step: their tables differ in number 1 only, which applies to neither.
use Prim.Native.Nat.{ℕ}
use mathlib.Core.Path.{◌≡◌, refl, sym, ◌∙◌, subst}
use mathlib.Core.Bool.{Bool, true, false, cond}
use mathlib.Core.List.{List, ◌∷◌}
use lib.ListN.{length, length-set}
use Rattle.address.specs.Addresses.{region_of}
use Rattle.address.specs.declared.Global.{Global}
use Rattle.address.specs.declared.Physical.{Physical}
use Rattle.address.specs.declared.Region.{Region}
use Rattle.address.specs.declared.Region.TheVariants.{Uncached, Cached, PageTable, Ordinary}
use Rattle.board.specs.Shapes.{one_line, four_lines}
use Rattle.board.specs.declared.Shape.{Shape}
use Rattle.board.specs.declared.Pending.{Pending}
use Rattle.pages.specs.Pages.{mapped_to}
use Rattle.line_bytes.specs.Bytes.{number, stored}
use Rattle.line_bytes.proofs.Bytes.{length-stored}
use Rattle.stores.specs.declared.Access.{Access}
use Rattle.store_laws.proofs.Zeroed.{length-zeroed}
use Rattle.machine.specs.Boards.{Board}
use Rattle.machine.specs.Refusals.{Row, by_table, outside}
use Rattle.machine.proofs.Tables.{table-both}
use Rattle.promises.specs.Plain.{Plain, Given, given, plain_refused, plain_row1, with_memory, plain_access, supervisor_at, plain_user, plain_supervisor, plain_attach, plain_detach, plain_map, plain_unmap, plain_protect, plain_move, plain_flush, plain_tagging, plain_load_and_map, plain_drop_tag}
use Rattle.promises.specs.Runs.{Supervisor, access, attach, detach, map, unmap, protect, move, flush_all, tag, load_and_map, drop_tag, Call, user, supervisor, replies, plain_reply, plain_supervise, plain_step, plain_next, plain_replies, plain_of}
use Rattle.promises.proofs.Runs.{gained-both}
use Rattle.promises.proofs.Demand2.{demand2}
use Rattle.set_promises.specs.Editions.{Twins}

-- the plain machine with these lists, this tag and these lengths
abbrev machine : List ℕ → List ℕ → Pending → List ℕ → ℕ → ℕ → ℕ → Plain
machine slots words t memory records cache uses = record {
  slots = slots;
  words = words;
  tag = t;
  memory = memory;
  records_length = records;
  cache_length = cache;
  uses_length = uses;
}

module _ (f u n l : ℕ) where
  abbrev one : Shape
  one = one_line f u n l

  abbrev four : Shape
  four = four_lines f u n l

  -- the same slots, words, tag and memory, and number 1 applies to neither
  record InStep (p q : Plain) : Type 0 where
    same_rest : q ≡ machine p.slots p.words p.tag p.memory q.records_length q.cache_length q.uses_length
    fits_one : (plain_row1 one p).applies ≡ false
    fits_four : (plain_row1 four q).applies ≡ false

  -- the same number and value, and machines that are in step after
  record Paired (x y : Given) : Type 0 where
    same_reply : plain_reply x ≡ plain_reply y
    in_step : InStep x.after y.after

  -- what asks the shape asks no number of lines in a set
  outside-same : (frame : ℕ) (r : Region) → outside four frame r ≡ outside one frame r
  unfolding outside
  outside-same frame Uncached = refl
  outside-same frame Cached = refl
  outside-same frame PageTable = refl
  outside-same frame Ordinary = refl

  module _ (p : Plain) (records cache uses : ℕ) where
    abbrev q : Plain
    q = machine p.slots p.words p.tag p.memory records cache uses

    at_same : (g : Global) (r : Region) → supervisor_at four q g r ≡ supervisor_at one p g r
    unfolding supervisor_at mapped_to
    at_same g Uncached = refl
    at_same g Cached = refl
    at_same g PageTable = refl
    at_same g Ordinary = refl

    module _ (x : (plain_row1 one p).applies ≡ false) (y : (plain_row1 four q).applies ≡ false) where
      -- lists of the same lengths fit too
      still : (slots words : List ℕ) (t : Pending) (memory : List ℕ) → length slots ≡ length p.slots → length words ≡ length p.words
          → length memory ≡ length p.memory
          → InStep (machine slots words t memory p.records_length p.cache_length p.uses_length) (machine slots words t memory records cache uses)
      still slots words t memory a b c = record { same_rest = refl; fits_one = rw (a, b, c) x; fits_four = rw (a, b, c) y }

      done : (v : ℕ) (slots words : List ℕ) (t : Pending) (memory : List ℕ) → length slots ≡ length p.slots → length words ≡ length p.words
          → length memory ≡ length p.memory
          → Paired (given 0 v (machine slots words t memory p.records_length p.cache_length p.uses_length)) (given 0 v (machine slots words t memory records cache uses))
      done v slots words t memory a b c = record { same_reply = refl; in_step = still slots words t memory a b c }

      -- one table on both, but for number 1
      paired-table : (rows : List Row) (d e : Given) → Paired d e
          → Paired (by_table (plain_refused p) (plain_row1 one p ∷ rows) d) (by_table (plain_refused q) (plain_row1 four q ∷ rows) e)
      unfolding by_table
      paired-table rows d e h =
          rw (x, y)
          (table-both Paired (plain_refused p) (plain_refused q) (λ k. record { same_reply = refl; in_step = still p.slots p.words p.tag p.memory refl refl refl }) rows d e
          (λ _. h))

      paired-access : (at : Physical) (a : Access) → Paired (plain_access p at a) (plain_access q at a)
      unfolding plain_access
      paired-access at a = go a.store
        where
          go : (t : Bool) → Paired (cond t (given 0 0 (with_memory p (stored p.memory at.0 a.width a.value))) (given 0 (number p.memory at.0 a.width) p))
              (cond t (given 0 0 (with_memory q (stored p.memory at.0 a.width a.value))) (given 0 (number p.memory at.0 a.width) q))
          go true = done 0 _ _ _ _ refl refl (length-stored p.memory at.0 a.width a.value)
          go false = done _ _ _ _ _ refl refl refl

      paired-supervise : (c : Supervisor) → Paired (plain_supervise one p c) (plain_supervise four q c)
      unfolding plain_supervise plain_supervisor plain_attach plain_detach plain_map plain_unmap plain_protect plain_move plain_flush plain_tagging plain_load_and_map plain_drop_tag mapped_to
      paired-supervise (access a g) = rw (outside-same _ (region_of g), at_same g (region_of g)) (paired-table _ _ _ (paired-access (supervisor_at one p g (region_of g)) a))
      paired-supervise (attach process slot segment write) = paired-table _ _ _ (done 0 _ _ _ _ (length-set p.slots _ _) refl refl)
      paired-supervise (detach process slot) = paired-table _ _ _ (done 0 _ _ _ _ (length-set p.slots _ _) refl refl)
      paired-supervise (map page frame write) = paired-table _ _ _ (done 0 _ _ _ _ refl (length-set p.words _ _) (length-zeroed p.memory frame))
      paired-supervise (unmap page) = paired-table _ _ _ (done 0 _ _ _ _ refl (length-set p.words _ _) refl)
      paired-supervise (protect page write) = paired-table _ _ _ (done 0 _ _ _ _ refl (length-set p.words _ _) refl)
      paired-supervise (move page new) = paired-table _ _ _ (done 0 _ _ _ _ refl (length-set p.words _ _) refl)
      paired-supervise flush_all = paired-table _ _ _ (done 0 _ _ _ _ refl refl refl)
      paired-supervise (tag name) = paired-table _ _ _ (done 0 _ _ _ _ refl refl refl)
      paired-supervise (load_and_map line) = paired-table _ _ _ (done 0 _ _ _ _ refl refl refl)
      paired-supervise drop_tag = paired-table _ _ _ (done 0 _ _ _ _ refl refl refl)

      paired-step : (k : Call) → Paired (plain_step one p k) (plain_step four q k)
      unfolding plain_step plain_user mapped_to
      paired-step (user process a e) = paired-table _ _ _ (paired-access _ a)
      paired-step (supervisor c) = paired-supervise c

  paired : (p q : Plain) → InStep p q → (k : Call) → Paired (plain_step one p k) (plain_step four q k)
  paired p q h k = rw h.same_rest (paired-step p q.records_length q.cache_length q.uses_length h.fits_one (subst (λ (x : Plain). (plain_row1 four x).applies ≡ false) h.same_rest h.fits_four) k)

  plain-same : (p q : Plain) → InStep p q → (ks : List Call) → plain_replies one p ks ≡ plain_replies four q ks
  plain-same p q h ks =
      gained-both (plain_next one) (plain_next four) (λ x y ls. InStep x y) (λ x y k ls r. (paired x y r k).in_step) (λ x k. plain_reply (plain_step one x k))
      (λ x k. plain_reply (plain_step four x k)) (λ x y k ls r. (paired x y r k).same_reply) p q ks h

  -- ---- the boards, by demand 2

  module _ (b c : Board) (t : Twins f u n l b c) where
    twins-start : InStep (plain_of b b.store.memory) (plain_of c c.store.memory)
    twins-start = record {
      same_rest = rw (t.same_slots, t.same_words, t.same_memory, t.same_tag);
      fits_one = rw t.fits_one;
      fits_four = rw t.fits_four;
    }

    pub twins-same : (ks : List Call) → replies one b ks ≡ replies four c ks
    twins-same ks =
        (demand2 one b t.fresh_one ks).same_replies ∙ plain-same (plain_of b b.store.memory) (plain_of c c.store.memory) twins-start ks
        ∙ sym (demand2 four c t.fresh_four ks).same_replies
