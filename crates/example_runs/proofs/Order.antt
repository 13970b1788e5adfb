-- The runs beside the order between strangers, computed, and their premises.
use Rattle.std.proofs.lemmas.Bool.{and_left as and-fails}
use Prim.{tt}
use Prim.Native.Nat.{ℕ, zero, suc, ◌/◌, ◌≤◌, ◌<◌}
use mathlib.Core.Path.{◌≡◌, refl, sym, ap, ◌∙◌}
use mathlib.Core.Bool.{Bool, true, false, cond}
use mathlib.Core.List.{List, [], ◌∷◌, ◌++◌, map as each}
use native.Mathlib.Omega.{arith}
use lib.Count.{ones, ones_in}
use lib.Dec.{eqb}
use lib.ListN.{length, get_or, take, replicate, set}
use borrow.Author.Tests.{eqb-true}
use Rattle.address.specs.Layout.{process_slots}
use Rattle.board.specs.Answers.{mark_of}
use Rattle.board.specs.Lists.{part, splice}
use Rattle.board.specs.Searches.{first}
use Rattle.board.specs.Shapes.{one_line, four_lines, edition_holds, matrices_of, fits_shape}
use Rattle.board.specs.declared.Shape.{Shape}
use Rattle.board.proofs.Bools.{clash}
use Rattle.slots.specs.Slots.{slot_word}
use Rattle.pages.specs.Pages.{frame_word, lowest_from, lowest_frame, mapped_to, home_by, home_of}
use Rattle.line_bytes.specs.Bytes.{number, digits, stored, line_of, with_line, zeros}
use Rattle.sets.specs.Matrices.{cleared, used, ones_of, fewer, fewest}
use Rattle.lines.specs.Records.{line_at, put_line, no_line}
use Rattle.lines.specs.Holds.{holds_line, holds_at, holds_name, holder_of}
use Rattle.lines.specs.Victims.{is_empty, victim_by, victim_at, used_in, record_by}
use Rattle.stores.specs.Stores.{written_back, filled, noted, inserted, performed_at}
use Rattle.reach.specs.Reach.{way_by_home, way_by, way_of, unreached, may_write}
use Rattle.machine.specs.Boards.{Board, fits_board}
use Rattle.machine.specs.Calls as board
use Rattle.machine.specs.Refusals.{by_table, too_large, is_mapped, aligned_to}
use Rattle.machine.specs.Lists.{asks_from}
use Rattle.machine.specs.Accesses.{performed_on, accessed_by, uses_by, accessed, user_table, user_access}
use Rattle.page_laws.proofs.Maps.{names-word}
use Rattle.promises.specs.Runs.{ran, gained, flush_all, Call, user, supervisor, supervise, step, next, after, Reply, replies}
use Rattle.promises.specs.Sound.{PagesOnce, Sound}
use Rattle.promises.specs.Demand3.{word_holds, word_writes_to, some_slot, holds, holds_for_writing}
use Rattle.promises.specs.Brought.{Brought, bring, brought_after, EachBrings, bringing}
use Rattle.promises.specs.Lists.{turn_calls, calls_of}
use Rattle.promises.proofs.Brought.{one-shape}
use Rattle.promises.proofs.Holding.{slots_by, slots-step}
use Rattle.order_promises.specs.Strangers.{Strangers, MayCross, calls, call_of, broughts, board_at, call_at, reply_at}
use Rattle.order_promises.specs.Reorderings.{Reordering}
use Rattle.order_promises.proofs.Order.{order}
use Rattle.example_runs.specs.Examples.{load, save, answers, gets}
use Rattle.example_runs.specs.Order.{Edition, two_processes, own_slots, own_pages, turns, sharing, run_e, run_f, run_g, places_f, lists_e, lists_f, NoSingleSwap, ExampleOrder, ExampleLists, BrokenOrder, OrderExamples}
use Rattle.example_runs.proofs.Chains.{fresh-line, some-slot, some-fresh, some-failing, some-outside}

-- ---- strangers

-- a test of the slots of process 0, which has segment 2048 alone, and of process 1, which has 2049
module _ (test : ℕ → Bool) (none : test 0 ≡ false) where
  first-fails : test (slot_word 2048 true) ≡ false → some_slot test own_slots 0 process_slots ≡ false
  first-fails h =
      some-outside test (set (replicate 1024 0) 0 (slot_word 2048 true)) 0 512 (slot_word 2049 true) 512 (λ k b. omega arith)
      ∙ some-failing test (replicate 1024 0) 0 0 (slot_word 2048 true) 512 h (some-fresh test 1024 0 512 none)

  second-fails : test (slot_word 2049 true) ≡ false → some_slot test own_slots 1 process_slots ≡ false
  second-fails h =
      some-failing test (set (replicate 1024 0) 0 (slot_word 2048 true)) 1 512 (slot_word 2049 true) 512 h
      (some-outside test (replicate 1024 0) 1 0 (slot_word 2048 true) 512 (λ k b. omega arith) ∙ some-fresh test 1024 1 512 none)

own-strangers : Strangers own_slots 0 1
own-strangers = record {
  differ = λ e. omega arith;
  first_alone = λ segment h g. go segment (eqb 2048 segment) refl h g;
  second_alone = λ segment h g. back segment (eqb 2049 segment) refl h g;
}
  where
    other : (a b segment : ℕ) → (a ≡ b → ⊥) → eqb a segment ≡ true → eqb b segment ≡ false
    other a b segment d e = sides (eqb b segment) refl
      where
        sides : (t : Bool) → eqb b segment ≡ t → t ≡ false
        sides true t = absurd (d (eqb-true a segment e ∙ sym (eqb-true b segment t)))
        sides false t = refl

    go : (segment : ℕ) (t : Bool) → eqb 2048 segment ≡ t → holds_for_writing own_slots 0 segment ≡ true → holds own_slots 1 segment ≡ true → ⊥
    go segment true t h g = clash _ g (second-fails (word_holds segment) refl (other 2048 2049 segment (λ e. omega arith) t))
    go segment false t h g = clash _ h (first-fails (word_writes_to segment) refl (and-fails (eqb 2048 segment) true t))

    back : (segment : ℕ) (t : Bool) → eqb 2049 segment ≡ t → holds_for_writing own_slots 1 segment ≡ true → holds own_slots 0 segment ≡ true → ⊥
    back segment true t h g = clash _ g (first-fails (word_holds segment) refl (other 2049 2048 segment (λ e. omega arith) t))
    back segment false t h g = clash _ h (second-fails (word_writes_to segment) refl (and-fails (eqb 2049 segment) true t))

-- process 1 has 2048 too
abbrev shared_slots : List ℕ
shared_slots = set own_slots 513 (slot_word 2048 false)

shared-no-strangers : Strangers shared_slots 0 1 → ⊥
shared-no-strangers x =
    x.first_alone 2048 (some-slot (word_writes_to 2048) shared_slots 0 0 512 (omega arith) refl) (some-slot (word_holds 2048) shared_slots 1 1 512 (omega arith) refl)

-- ---- a sound board

abbrev own_words : List ℕ
own_words = frame_word 0x200000 true ∷ frame_word 0x200400 true ∷ []

pages-apart : (s : Shape) → s.frames ≡ 2 → PagesOnce s own_words
pages-apart s e page f g o a b c d n m = go f g (omega arith) (omega arith) (names-word _ page n).0 (names-word _ page m).0
  where
    go : (f g : ℕ) → f < 2 → g < 2 → get_or own_words f 0 / 4 ≡ page → get_or own_words g 0 / 4 ≡ page → f ≡ g
    go zero zero b d n m = refl
    go zero (suc zero) b d n m = absurd (omega (arith, n, m))
    go (suc zero) zero b d n m = absurd (omega (arith, n, m))
    go (suc zero) (suc zero) b d n m = refl
    go (suc (suc f)) g b d n m = absurd (omega arith)
    go zero (suc (suc g)) b d n m = absurd (omega arith)
    go (suc zero) (suc (suc g)) b d n m = absurd (omega arith)

module _ (s : Shape) (b : Board) (bare : (i : ℕ) → line_at b.store.records i ≡ no_line) where
  holds-none : (i : ℕ) → holds_at s b.store.records i ≡ true → ⊥
  unfolding holds_line holds_at
  holds-none i h = clash false (rw (bare i) at h) refl

  sound-bare : fits_board s b ≡ true → PagesOnce s b.words → Sound s b
  sound-bare f p = record {
    shape_holds = f;
    pages_once = p;
    lines_once = λ i j h g e. absurd (holds-none i h);
    lines_mapped = λ i h. absurd (holds-none i h);
    clean_lines_equal = λ i h c. absurd (holds-none i h);
  }

-- ---- the reordering

abbrev goes : ℕ → ℕ
goes i = get_or places_f i 0

abbrev comes : ℕ → ℕ
comes j = get_or (1 ∷ 3 ∷ 0 ∷ 2 ∷ 4 ∷ 5 ∷ 6 ∷ []) j 0

seven : (P : ℕ → Type 0) → P 0 → P 1 → P 2 → P 3 → P 4 → P 5 → P 6 → (i : ℕ) → i < 7 → P i
seven P a b c d e f g zero h = a
seven P a b c d e f g (suc zero) h = b
seven P a b c d e f g (suc (suc zero)) h = c
seven P a b c d e f g (suc (suc (suc zero))) h = d
seven P a b c d e f g (suc (suc (suc (suc zero)))) h = e
seven P a b c d e f g (suc (suc (suc (suc (suc zero))))) h = f
seven P a b c d e f g (suc (suc (suc (suc (suc (suc zero)))))) h = g
seven P a b c d e f g (suc (suc (suc (suc (suc (suc (suc i))))))) h = absurd (omega arith)

module _ (s : Shape) (b : Board) (x : Strangers b.slots 0 1) where
  abbrev Never : ℕ → ℕ → Type 0
  Never i j = MayCross (board_at (calls s) b run_e i).slots (call_at (calls s) run_e i) (call_at (calls s) run_e j) → ⊥

  -- the slots after the first two accesses are those before them
  slots-still : (board_at (calls s) b run_e 2).slots ≡ b.slots
  unfolding ran slots_by
  slots-still = slots-step s (next s b (save 0 1 3 50)) (save 1 1 3 7) ∙ slots-step s b (save 0 1 3 50)

  still-strangers : Strangers (board_at (calls s) b run_e 2).slots 0 1
  still-strangers = rw slots-still x

  before-1 : (i : ℕ) → i < 1 → Never i 1 → goes i < goes 1
  unfolding ran
  before-1 zero h never = absurd (never x)
  before-1 (suc i) h never = absurd (omega arith)

  before-2 : (i : ℕ) → i < 2 → Never i 2 → goes i < goes 2
  before-2 zero h never = omega arith
  before-2 (suc zero) h never = omega arith
  before-2 (suc (suc i)) h never = absurd (omega arith)

  before_3 : (i : ℕ) → i < 3 → Never i 3 → goes i < goes 3
  unfolding ran
  before_3 zero h never = absurd (never x)
  before_3 (suc zero) h never = omega arith
  before_3 (suc (suc zero)) h never = absurd (never still-strangers)
  before_3 (suc (suc (suc i))) h never = absurd (omega arith)

  low : (i : ℕ) → i < 7 → (j : ℕ) → i < j → 4 ≤ j → goes i < j
  low = seven (λ i. (j : ℕ) → i < j → 4 ≤ j → goes i < j) (λ j a b. omega arith) (λ j a b. omega arith) (λ j a b. omega arith) (λ j a b. omega arith)
      (λ j a b. omega arith) (λ j a b. omega arith) (λ j a b. omega arith)

  keeps : (j : ℕ) → j < 7 → (i : ℕ) → i < j → Never i j → goes i < goes j
  keeps = seven (λ j. (i : ℕ) → i < j → Never i j → goes i < goes j) (λ i h never. absurd (omega arith)) before-1 before-2 before_3
      (λ i h never. low i (omega arith) 4 h (omega arith)) (λ i h never. low i (omega arith) 5 h (omega arith)) (λ i h never. low i (omega arith) 6 h (omega arith))

  e-to-f : Reordering (calls s) b run_e run_f
  e-to-f = record {
    places = record {
      to = goes;
      from = comes;
      same_length = refl;
      to_inside = seven (λ i. goes i < 7) (omega arith) (omega arith) (omega arith) (omega arith) (omega arith) (omega arith) (omega arith);
      from_inside = seven (λ j. comes j < 7) (omega arith) (omega arith) (omega arith) (omega arith) (omega arith) (omega arith) (omega arith);
      from_to = seven (λ i. comes (goes i) ≡ i) refl refl refl refl refl refl refl;
      to_from = seven (λ j. goes (comes j) ≡ j) refl refl refl refl refl refl refl;
      same_turns = λ i other h. seven (λ i. get_or run_f (goes i) other ≡ get_or run_e i other) refl refl refl refl refl refl refl i h;
    };
    keeps_order = λ i j h g never. keeps j g i h never;
  }

-- ---- the same of calls that bring their numbers

module _ (s : Shape) where
  length-bringing : (ks : List Call) → length (bringing s ks) ≡ length ks
  unfolding bringing
  length-bringing [] = refl
  length-bringing (k ∷ ks) = ap suc (length-bringing ks)

  take-bringing : (i : ℕ) (ks : List Call) → take i (bringing s ks) ≡ bringing s (take i ks)
  unfolding bringing
  take-bringing zero ks = refl
  take-bringing (suc i) [] = refl
  take-bringing (suc i) (k ∷ ks) = ap (λ (l : List Brought). bring s k ∷ l) (take-bringing i ks)

  turn-bringing : (ks : List Call) (i : ℕ) (other : Brought) (call : Call) → i < length ks → get_or (bringing s ks) i other ≡ bring s (get_or ks i call)
  unfolding bringing
  turn-bringing [] i other call h = absurd (omega arith)
  turn-bringing (k ∷ ks) zero other call h = refl
  turn-bringing (k ∷ ks) (suc i) other call h = turn-bringing ks i other call (omega arith)

  calls-bringing : (ks : List Call) → each (broughts s).call (bringing s ks) ≡ each (calls s).call ks
  unfolding bringing call_of
  calls-bringing [] = refl
  calls-bringing (k ∷ ks) = ap (λ (l : List Call). k ∷ l) (calls-bringing ks)

  call-bringing : (ks : List Call) (i : ℕ) → call_at (broughts s) (bringing s ks) i ≡ call_at (calls s) ks i
  call-bringing ks i = ap (λ (l : List Call). get_or l i (supervisor flush_all)) (calls-bringing ks)

  board-bringing : (b : Board) (ks : List Call) (i : ℕ) → board_at (broughts s) b (bringing s ks) i ≡ board_at (calls s) b ks i
  board-bringing b ks i = ap (brought_after b) (take-bringing i ks) ∙ (one-shape s b (take i ks)).same_after

  reordered-bringing : (b : Board) (ks ls : List Call) → Reordering (calls s) b ks ls → Reordering (broughts s) b (bringing s ks) (bringing s ls)
  reordered-bringing b ks ls r = record {
    places = record {
      to = r.places.to;
      from = r.places.from;
      same_length = length-bringing ls ∙ r.places.same_length ∙ sym (length-bringing ks);
      to_inside = λ i h. rw (length-bringing ks) (r.places.to_inside i (rw (length-bringing ks) at h));
      from_inside = λ j h. rw (length-bringing ks) (r.places.from_inside j (rw (length-bringing ks) at h));
      from_to = λ i h. r.places.from_to i (rw (length-bringing ks) at h);
      to_from = λ j h. r.places.to_from j (rw (length-bringing ks) at h);
      same_turns = λ i other h.
          let low : i < length ks = rw (length-bringing ks) at h in
          let there : r.places.to i < length ls = rw r.places.same_length (r.places.to_inside i low) in
          turn-bringing ls (r.places.to i) other (supervisor flush_all) there ∙ ap (bring s) (r.places.same_turns i (supervisor flush_all) low)
          ∙ sym (turn-bringing ks i other (supervisor flush_all) low);
    };
    keeps_order = λ i j h g never.
        r.keeps_order i j h (rw (length-bringing ks) at g) (λ x. never (rw (board-bringing b ks i, call-bringing ks i, call-bringing ks j) x));
  }

-- no swap of two neighbours makes run F of run E: they differ at the first place and at the third
process-of : Call → ℕ
process-of (user p a e) = p
process-of (supervisor c) = 2

no_single_swap : NoSingleSwap run_e run_f
unfolding process-of
no_single_swap [] k l behind e f =
    let third : get_or run_e 2 (supervisor flush_all) ≡ get_or run_f 2 (supervisor flush_all) =
    ap (λ (c : List Call). get_or c 2 (supervisor flush_all)) e ∙ sym (ap (λ (c : List Call). get_or c 2 (supervisor flush_all)) f) in
    store-load third
  where
    store_of : Call → ℕ
    store_of (user p a e) = cond a.store 1 0
    store_of (supervisor c) = 2

    store-load : ◌≡◌ {A = Call} (load 0 3) (save 0 1 3 50) → ⊥
    store-load h = let z : ◌≡◌ {A = ℕ} 0 1 = ap store_of h in omega arith
no_single_swap (c ∷ before) k l behind e f =
    let z : ◌≡◌ {A = ℕ} 0 1 = ap process-of (ap (λ (l : List Call). get_or l 0 (supervisor flush_all)) e ∙ sym (ap (λ (l : List Call). get_or l 0 (supervisor flush_all)) f)) in
    omega arith

-- ---- the examples

-- the replies of the three runs
abbrev replies_e : List Reply
replies_e = gets 0 0 ∷ gets 0 0 ∷ gets 0 50 ∷ gets 0 7 ∷ gets 0 0 ∷ gets 0 0 ∷ gets 0 51 ∷ []

abbrev replies_f : List Reply
replies_f = gets 0 0 ∷ gets 0 7 ∷ gets 0 0 ∷ gets 0 50 ∷ gets 0 0 ∷ gets 0 0 ∷ gets 0 51 ∷ []

abbrev replies_g : List Reply
replies_g = gets 0 0 ∷ gets 0 0 ∷ gets 0 50 ∷ gets 0 7 ∷ gets 0 0 ∷ gets 0 50 ∷ gets 0 0 ∷ []

module _ (edition : Edition) where
  abbrev s : Shape
  s = two_processes edition

  abbrev b : Board
  b = own_pages edition

  example-of : Sound s b → replies s b run_e ≡ replies_e → replies s b run_f ≡ replies_f → ExampleOrder edition
  unfolding e-to-f
  example-of sound e f = record {
    sound = sound;
    strangers = own-strangers;
    reordering = e-to-f s b own-strangers;
    goes = λ i h. refl;
    no_single_swap = no_single_swap;
    promised = ((order.every_shape s).from_sound b sound).of_calls.reorder run_e run_f tt (e-to-f s b own-strangers);
    replies_E = e;
    replies_F = f;
  }

  broken-of : Sound s b → replies s b run_e ≡ replies_e → replies s b run_g ≡ replies_g → (after s b (turns ++ sharing [])).slots ≡ shared_slots → BrokenOrder edition
  broken-of sound e g shared = record {
    no_strangers = λ x. shared-no-strangers (rw shared at x);
    no_reordering = λ r. no-51 (r.places.to 6) (r.places.to_inside 6 (omega arith))
        (sym (ap (λ (l : List Reply). reply_at l (r.places.to 6)) g)
        ∙ sym ((((order.every_shape s).from_sound b sound).of_calls.reorder run_e run_g tt r).same_replies 6 (omega arith))
        ∙ ap (λ (l : List Reply). reply_at l 6) e);
    replies_G = g;
    values_differ = λ h.
        let z : ◌≡◌ {A = ℕ} 50 51 = ap (λ (r : Reply). r.value) (sym (ap (λ (l : List Reply). reply_at l 5) g) ∙ h ∙ ap (λ (l : List Reply). reply_at l 6) e) in
        omega arith;
  }
    where
      -- nothing gets 51 in run G
      no-51 : (j : ℕ) → j < 7 → reply_at replies_g j ≡ gets 0 51 → ⊥
      no-51 = seven (λ j. reply_at replies_g j ≡ gets 0 51 → ⊥)
          (value 0 (λ z. omega arith)) (value 0 (λ z. omega arith)) (value 50 (λ z. omega arith)) (value 7 (λ z. omega arith)) (value 0 (λ z. omega arith))
          (value 50 (λ z. omega arith)) (value 0 (λ z. omega arith))
        where
          value : (v : ℕ) → (v ≡ 51 → ⊥) → gets 0 v ≡ gets 0 51 → ⊥
          value v n h = n (ap (λ (r : Reply). r.value) h)

module _ (edition : Edition) where
  lists_of : Sound (two_processes edition) (own_pages edition) → calls_of (own_pages edition) (lists_e (two_processes edition)) ≡ bringing (two_processes edition) run_e
      → calls_of (own_pages edition) (lists_f (two_processes edition)) ≡ bringing (two_processes edition) run_f → ExampleLists edition
  lists_of sound e f =
      let s = two_processes edition in
      let b = own_pages edition in
      let brings : EachBrings s b (calls_of b (lists_e s)) = rw e (one-shape s b run_e).premise_met in
      let reordered : Reordering (broughts s) b (calls_of b (lists_e s)) (calls_of b (lists_f s)) = rw (e, f) (reordered-bringing s b run_e run_f (e-to-f s b own-strangers)) in
      record {
        calls_E = e;
        calls_F = f;
        brings = brings;
        reordering = reordered;
        promised = ((order.every_shape s).from_sound b sound).of_lists (lists_e s) (lists_f s) brings reordered;
      }

sound-one : Sound (two_processes one_line) (own_pages one_line)
unfolding ones ones_in edition_holds matrices_of fits_shape zeros
sound-one = sound-bare (two_processes one_line) (own_pages one_line) (fresh-line 8) refl (pages-apart (two_processes one_line) refl)

sound-four : Sound (two_processes four_lines) (own_pages four_lines)
unfolding ones ones_in edition_holds matrices_of fits_shape zeros
sound-four = sound-bare (two_processes four_lines) (own_pages four_lines) (fresh-line 8) refl (pages-apart (two_processes four_lines) refl)

pub order-examples : OrderExamples
unfolding ones ones_in mark_of part splice first edition_holds matrices_of fits_shape lowest_from lowest_frame mapped_to home_by home_of number digits stored line_of with_line zeros cleared used ones_of fewer fewest line_at put_line holds_line holds_at holds_name holder_of is_empty victim_by victim_at used_in record_by written_back filled noted inserted performed_at way_by_home way_by way_of unreached may_write by_table too_large aligned_to is_mapped performed_on accessed_by uses_by accessed user_table user_access board.attach ran gained supervise step answers asks_from turn_calls calls_of bringing
order-examples = record {
  one_line_lem = example-of one_line sound-one refl refl;
  four_lines_lem = example-of four_lines sound-four refl refl;
  lists_one_line = lists_of one_line sound-one refl refl;
  lists_four_lines = lists_of four_lines sound-four refl refl;
  broken_one_line = broken-of one_line sound-one refl refl refl;
  broken_four_lines = broken-of four_lines sound-four refl refl refl;
  marks_E = refl;
  marks_F = refl;
  records_differ = λ e. let z : ◌≡◌ {A = ℕ} 0x20000000 0x20040000 = ap (λ (l : List ℕ). get_or l 0 0) e in omega arith;
}
