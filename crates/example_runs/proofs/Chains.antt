-- A run, call by call: its answers, its replies, the board after it, what its moves hand over, and what its slots pass at some moment of it.
use Prim.Native.Nat.{ℕ, zero, suc, ◌+◌, ◌*◌, ◌<◌}
use mathlib.Core.Logic.{◌≢◌}
use mathlib.Core.Path.{◌≡◌, refl, ap}
use mathlib.Core.Bool.{Bool, true, false, ◌||◌, cond}
use mathlib.Core.List.{List, [], ◌∷◌, map as each}
use native.Mathlib.Omega.{arith}
use lib.ListN.{length, get_or, set, replicate}
use lib.Seq.{get_or-set_same, get_or-set_other, set_out}
use lib.Dec.{eqb, ltb}
use borrow.Author.Tests.{eqb-true, eqb-false, ltb-true, ltb-false}
use Rattle.board.specs.Answers.{mark_refilled, mark_of}
use Rattle.board.specs.declared.Shape.{Shape}
use Rattle.board.specs.declared.Answer.{Answer}
use Rattle.board.proofs.Bools.{or_left, or_right, or-false}
use Rattle.board.specs.Shapes.{record_words}
use Rattle.slots.specs.Slots.{slot_index}
use Rattle.lines.specs.Records.{line_at, no_line}
use Rattle.lines.specs.Holds.{holds_line, holds_at}
use Rattle.stores.specs.Stores.{store, must_write_back, written_back}
use Rattle.machine.specs.Boards.{Board, Outcome, outcome}
use Rattle.store_laws.proofs.Zeroed.{zeros-at}
use Rattle.promises.specs.Runs.{ran, gained, some_moment, Call, user, supervisor, step, next, after, Reply, reply, replies}
use Rattle.promises.specs.Demand3.{some_slot, at_some_moment, replies_to, handed_line, handed_lines}
use Rattle.example_runs.specs.Examples.{answers}

-- ---- records that hold nothing

-- those of a fresh board
pub fresh-line : (count i : ℕ) → line_at (replicate count 0) i ≡ no_line
unfolding line_at
fresh-line count i = rw (zeros-at count (record_words * i), zeros-at count (record_words * i + 1))

-- such a record has nothing to write back
pub none_written : (s : Shape) (i : ℕ) (r c m : List ℕ) → line_at r i ≡ no_line → written_back s i (store r c m) ≡ store r c m
unfolding holds_line holds_at written_back
none_written s i r c m h = rw h

pub none-marked : (s : Shape) (i : ℕ) (r : List ℕ) → line_at r i ≡ no_line → mark_of false (must_write_back s r i) ≡ mark_refilled
unfolding holds_line holds_at mark_of
none-marked s i r h = rw h

-- ---- calls, one after the other

-- a call on the board
pub record Does (s : Shape) (b : Board) (k : Call) (a : Answer) (c : Board) : Type 0 where
  pub does : step s b k ≡ outcome a c

-- the board that it leaves
does-leave : {s : Shape} {b c : Board} {k : Call} {a : Answer} → Does s b k a c → next s b k ≡ c
does-leave x = ap (λ (o : Outcome). o.after) x.does

-- a list of calls, call by call
infixr 5 ◌then◌
pub data Ran (s : Shape) : Board → List Call → List Answer → Board → Type 0 where
  ended : {b : Board} → Ran s b [] [] b
  ◌then◌ : {b c d : Board} {k : Call} {ks : List Call} {a : Answer} {l : List Answer} → Does s b k a c → Ran s c ks l d → Ran s b (k ∷ ks) (a ∷ l) d

-- the replies among these answers to the accesses of a process
unfoldable pub kept : ℕ → List Call → List Answer → List Reply
kept process [] l = []
kept process (user q u e ∷ ks) [] = []
kept process (user q u e ∷ ks) (a ∷ l) = cond (eqb q process) (reply a ∷ kept process ks l) (kept process ks l)
kept process (supervisor u ∷ ks) [] = []
kept process (supervisor u ∷ ks) (a ∷ l) = kept process ks l

module _ {s : Shape} where
  pub ran-answers : {b c : Board} {ks : List Call} {l : List Answer} → Ran s b ks l c → answers s b ks ≡ l
  unfolding answers
  ran-answers ended = refl
  ran-answers (x then r) = let e = x.does in rw (e, ran-answers r)

  pub ran-after : {b c : Board} {ks : List Call} {l : List Answer} → Ran s b ks l c → after s b ks ≡ c
  unfolding ran
  ran-after ended = refl
  ran-after (x then r) = let e = does-leave x in rw e (ran-after r)

  pub ran-replies : {b c : Board} {ks : List Call} {l : List Answer} → Ran s b ks l c → replies s b ks ≡ each reply l
  unfolding gained
  ran-replies ended = refl
  ran-replies (x then r) = let e = x.does in let z = does-leave x in rw (e, z, ran-replies r)

  pub ran-replies-to : (process : ℕ) {b c : Board} {ks : List Call} {l : List Answer} → Ran s b ks l c → replies_to process s b ks ≡ kept process ks l
  unfolding replies_to kept
  ran-replies-to process ended = refl
  ran-replies-to process (◌then◌ {k = user q u i} x r) = let e = x.does in rw (e, ran-replies-to process r)
  ran-replies-to process (◌then◌ {k = supervisor u} x r) = let e = x.does in rw e (ran-replies-to process r)

  -- what its moves hand over
  module _ (S : ℕ → Bool) (i : ℕ) where
    unfoldable pub handed : {b c : Board} {ks : List Call} {l : List Answer} → Ran s b ks l c → List (List ℕ)
    handed ended = []
    handed (◌then◌ {k = user q u e} x r) = handed r
    handed (◌then◌ {b} {k = supervisor u} x r) = handed_line S i s b u ∷ handed r

    pub ran-handed : {b c : Board} {ks : List Call} {l : List Answer} (r : Ran s b ks l c) → handed_lines S i s b ks ≡ handed r
    unfolding handed_lines handed
    ran-handed ended = refl
    ran-handed (◌then◌ {k = user q u j} x r) = let e = x.does in rw e (ran-handed r)
    ran-handed (◌then◌ {k = supervisor u} x r) = let e = x.does in rw (e, ran-handed r)

  -- what the slots of a run never pass, and what those at its end pass
  module _ (test : List ℕ → Bool) where
    unfoldable pub Throughout : {b c : Board} {ks : List Call} {l : List Answer} → Ran s b ks l c → Type 0
    Throughout (ended {b}) = test b.slots ≡ false
    Throughout (◌then◌ {b} x r) = (test b.slots ≡ false) × Throughout r

    pub never : {b c : Board} {ks : List Call} {l : List Answer} (r : Ran s b ks l c) → Throughout r → at_some_moment test s b ks ≡ false
    unfolding Throughout some_moment
    never ended h = h
    never (x then r) h = let e = does-leave x in rw (h.0, e) (never r h.1)

    pub finally : {b c : Board} {ks : List Call} {l : List Answer} → Ran s b ks l c → test c.slots ≡ true → at_some_moment test s b ks ≡ true
    unfolding some_moment
    finally ended h = h
    finally (◌then◌ {b} {c} {ks = ks} x r) h = let e = does-leave x in rw e (or_right (test b.slots) (at_some_moment test s c ks) (finally r h))

-- ---- a test of the slots of a process

module _ (test : ℕ → Bool) (slots : List ℕ) (process : ℕ) where
  -- one of them passes
  some-here : (i n : ℕ) (t : Bool) → eqb i n ≡ t → test (get_or slots (slot_index process i) 0) ≡ true
      → (i ≢ n → some_slot test slots process n ≡ true) → (test (get_or slots (slot_index process n) 0) || some_slot test slots process n) ≡ true
  some-here i n true t h later = let z : i ≡ n = eqb-true i n t in or_left (test (get_or slots (slot_index process n) 0)) _ (rw z at h)
  some-here i n false t h later = or_right (test (get_or slots (slot_index process n) 0)) _ (later (eqb-false i n t))

  pub some-slot : (i n : ℕ) → i < n → test (get_or slots (slot_index process i) 0) ≡ true → some_slot test slots process n ≡ true
  unfolding some_slot
  some-slot i zero b h = absurd (omega arith)
  some-slot i (suc n) b h = some-here i n (eqb i n) refl h (λ d. some-slot i n (omega arith) h)

-- none of them passes where no slot is in use
pub some-fresh : (test : ℕ → Bool) (count process n : ℕ) → test 0 ≡ false → some_slot test (replicate count 0) process n ≡ false
unfolding some_slot
some-fresh test count process zero h = refl
some-fresh test count process (suc n) h = rw (zeros-at count (slot_index process n), h) (some-fresh test count process n h)

-- a slot word is set: one that doesn't pass, or one of another process
module _ (test : ℕ → Bool) (slots : List ℕ) (process j w : ℕ) where
  word-failing : (x : ℕ) → test w ≡ false → test (get_or slots x 0) ≡ false → test (get_or (set slots j w) x 0) ≡ false
  word-failing x h e = go (eqb x j) refl
    where
      here : (t : Bool) → ltb j (length slots) ≡ t → x ≡ j → test (get_or (set slots j w) x 0) ≡ false
      here true t z = rw (z, get_or-set_same slots j w 0 (ltb-true j (length slots) t)) h
      here false t z = rw (set_out slots j w (ltb-false j (length slots) t)) e

      go : (t : Bool) → eqb x j ≡ t → test (get_or (set slots j w) x 0) ≡ false
      go true t = here (ltb j (length slots)) refl (eqb-true x j t)
      go false t = rw (get_or-set_other slots j x w 0 (eqb-false x j t)) e

  pub some-failing : (n : ℕ) → test w ≡ false → some_slot test slots process n ≡ false → some_slot test (set slots j w) process n ≡ false
  unfolding some_slot
  some-failing zero h e = refl
  some-failing (suc n) h e =
      let f = or-false (test (get_or slots (slot_index process n) 0)) _ e in
      rw (word-failing (slot_index process n) h f.0, some-failing n h f.1)

  pub some-outside : (n : ℕ) → ((k : ℕ) → k < n → slot_index process k ≢ j) → some_slot test (set slots j w) process n ≡ some_slot test slots process n
  unfolding some_slot
  some-outside zero h = refl
  some-outside (suc n) h =
      rw (get_or-set_other slots j (slot_index process n) w 0 (h n (omega arith)), some-outside n (λ k b. h k (omega arith)))
