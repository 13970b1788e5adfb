-- What protect and flush all decide before the lines: where nothing refuses, the board is accepted; and the outcome, once the lines were walked.
use Rattle.std.specs.Prelude.{Result, Ok, Err}
use Prim.Native.Nat.{ℕ, ◌*◌, ◌<◌}
use mathlib.Core.Path.{◌≡◌, refl, sym, ◌∙◌, ap}
use mathlib.Core.Bool.{Bool, true, false, not, cond}
use mathlib.Core.List.{List, ◌∷◌}
use native.Mathlib.Omega.{arith}
use lib.Dec.{eqb}
use lib.ListN.{length, set}
use Rattle.address.specs.Addresses.{ordinary_page}
use Rattle.board.specs.Answers.{answer}
use Rattle.board.specs.Shapes.{fits_shape, record_words}
use Rattle.board.specs.declared.Answer.{Answer}
use Rattle.board.specs.declared.Shape.{Shape}
use Rattle.board.specs.declared.Refusal.{Refusal}
use Rattle.board.specs.declared.Refusal.TheVariants.{Unfit, OutOfRange, TagState, Misaligned, KernelAddress, EmptySlot, ReadOnlySegment, Unmapped, ReadOnlyPage, FrameInUse, AlreadyMapped, Outside, WrongLine}
use Rattle.board.specs.Refusals.{number_of, fit, call_answer}
use Rattle.board.proofs.Shapes.{Shaped, shaped}
use Rattle.pages.specs.Pages.{frame_word, mapped_to}
use Rattle.lines.specs.declared.Line.{Line}
use Rattle.visits.specs.Visits.{protect_visit, flush_visit}
use Rattle.machine.specs.Refusals.{Row, row, by_table, is_mapped}
use Rattle.machine.specs.Calls.{found_frame, page_rows}
use Rattle.machine.proofs.Tables.{known, by_check, check-table}
use Rattle.page_calls.specs.Checks.{page_frame}
use Rattle.record_steps.specs.Lent.{LentOutcome, lent_board, lent_outcome, lines_visited, flushed_memory, protected_words, protect_lent, flush_lent}
use Rattle.record_steps.specs.Checks.{Placed, Worded, worded, word_changed, flush_answer}
use Rattle.record_steps.specs.Clauses.{ProtectLent, FlushLent}

-- ---- what `fit_lines` returns

passed-fit : (t : Bool) → fit t ≡ Ok tt → t ≡ true
passed-fit true e = refl
passed-fit false e = absurd (let z : ◌≡◌ {A = ℕ} 0 1 = cc in omega arith)

refused-fit : (t : Bool) (why : Refusal) → fit t ≡ Err why → (t ≡ false) × (why ≡ Unfit)
refused-fit true why e = absurd (let z : ◌≡◌ {A = ℕ} 0 1 = cc in omega arith)
refused-fit false why e = (refl, cc)

module _ (s : Shape) (slots words lines cache memory : ℕ) where
  abbrev fits : Bool
  fits = fits_shape s slots words (record_words * lines) cache memory 0

  module _ (t : Bool) (f : t ≡ fits) where
    pub lines-fit : t ≡ true → (Ok tt ≡ fit fits) × (answer 0 0 0 ≡ flush_answer s slots words lines cache memory)
    unfolding by_table
    lines-fit h = (rw (← f, h), rw (← f, h))

    pub lines-unfit : t ≡ false → (Err Unfit ≡ fit fits) × (answer 1 0 0 ≡ flush_answer s slots words lines cache memory)
    unfolding by_table
    lines-unfit h = (rw (← f, h), rw (← f, h))

  -- where it is Ok, line i stands on an accepted board
  pub fit-placed : (i : ℕ) → fits ≡ true → i < lines → Placed s i cache memory
  fit-placed i h l =
      let q : Shaped s slots words (record_words * lines) cache memory 0 = shaped s slots words (record_words * lines) cache memory 0 true (sym h) refl in
      record {
        lined = record { one = q.one; edition = q.edition; lines_max = q.lines_max; frames_max = q.frames_max };
        inside = omega (arith, l, q.records_are);
        cache_is = q.cache_is;
        memory_is = q.memory_is;
      }

  pub lines-placed : (k : Result Unit Refusal) → k ≡ fit fits → k ≡ Ok tt → (i : ℕ) → i < lines → Placed s i cache memory
  lines-placed k e h i l = fit-placed i (passed-fit fits (sym e ∙ h)) l

-- ---- what `protect_word` returns

-- a table goes on after its first row
fit-rows : {A : Type 0} (refuse : ℕ → A) (t : Bool) → t ≡ true → (rows : List Row) (d : A) → by_table refuse rows d ≡ by_table refuse (row 1 (not t) ∷ rows) d
unfolding by_table
fit-rows refuse t h rows d = rw h

module _ (s : Shape) (slots : ℕ) (w : List ℕ) (lines cache memory page : ℕ) (write : Bool) where
  module _ (t : Result Unit Refusal) (f : t ≡ fit (fits s slots (length w) lines cache memory)) where
    abbrev stopped : ℕ → Worded
    stopped n = worded (answer n 0 0) w

    abbrev changed : ℕ → Worded
    changed x = worded (answer 0 0 0) (set w x (frame_word page write))

    pub word-unfit : (q : Result Unit Refusal) (why : Refusal) → t ≡ Err why → q ≡ Err why → worded (call_answer q) w ≡ word_changed s slots w lines cache memory page write
    unfolding word_changed by_table
    word-unfit q why h p = let z = refused-fit (fits s slots (length w) lines cache memory) why (sym f ∙ h) in rw (p, z.0, z.1)

    module _ (h : t ≡ Ok tt) (k : Result ℕ Refusal) (e : k ≡ page_frame s w page) where
      word_on : by_check stopped changed k ≡ word_changed s slots w lines cache memory page write
      unfolding page_frame word_changed known
      word_on =
          check-table stopped changed (page_rows s w page) (found_frame (mapped_to s w page)) k refl e
          ∙ fit-rows stopped (fits s slots (length w) lines cache memory) (passed-fit (fits s slots (length w) lines cache memory) (sym f ∙ h)) (page_rows s w page) (changed (found_frame (mapped_to s w page)))

      pub word-stop : (q : Result Unit Refusal) (why : Refusal) → k ≡ Err why → q ≡ Err why → worded (call_answer q) w ≡ word_changed s slots w lines cache memory page write
      unfolding by_check
      word-stop q why j p = rw p (ap (by_check stopped changed) (sym j) ∙ word_on)

      pub word-done : (x word : ℕ) → k ≡ Ok x → word ≡ frame_word page write → worded (answer 0 0 0) (set w x word) ≡ word_changed s slots w lines cache memory page write
      unfolding by_check
      word-done x word j g = rw g (ap (by_check stopped changed) (sym j) ∙ word_on)

  -- where it is Ok, the board is accepted
  module _ (k : Result Unit Refusal) (w₁ : List ℕ) (e : worded (call_answer k) w₁ ≡ word_changed s slots w lines cache memory page write) (h : k ≡ Ok tt) where
    word_fits : fits s slots (length w) lines cache memory ≡ true
    unfolding word_changed by_table
    word_fits = go (fits s slots (length w) lines cache memory) _ (ap (λ (x : Result Unit Refusal). (call_answer x).number) (sym h) ∙ ap (λ (x : Worded). x.answer.number) e)
      where
        go : (t : Bool) (rest : Worded) → 0 ≡ (cond (not t) (worded (answer 1 0 0) w) rest).answer.number → t ≡ true
        go true rest q = refl
        go false rest q = absurd (omega (arith, q))

    pub word-placed : (i : ℕ) → i < lines → Placed s i cache memory
    word-placed i l = fit-placed s slots (length w) lines cache memory i word_fits l

-- ---- the outcome: what was decided, and all lines walked if nothing refused

-- a refusal's number is not 0
some-number : (why : Refusal) → eqb (number_of why) 0 ≡ false
some-number Unfit = refl
some-number OutOfRange = refl
some-number TagState = refl
some-number Misaligned = refl
some-number KernelAddress = refl
some-number EmptySlot = refl
some-number ReadOnlySegment = refl
some-number Unmapped = refl
some-number ReadOnlyPage = refl
some-number FrameInUse = refl
some-number AlreadyMapped = refl
some-number Outside = refl
some-number WrongLine = refl

module _ (s : Shape) (slots w : List ℕ) (ls : List Line) (c m : List ℕ) where
  module _ (page : ℕ) (write : Bool) where
    abbrev with_lines : Worded → LentOutcome
    with_lines x = lent_outcome x.answer (lent_board slots x.words (cond (eqb x.answer.number 0) (lines_visited s (protect_visit page write) 0 ls) ls) c m)

    protect-met : (a : Answer) (w₁ : List ℕ) (done : Bool) → eqb a.number 0 ≡ done → worded a w₁ ≡ word_changed s (length slots) w (length ls) (length c) (length m) page write
        → ProtectLent s (lent_board slots w ls c m) page write a (lent_board slots w₁ (cond done (lines_visited s (protect_visit page write) 0 ls) ls) c m)
    unfolding word_changed protect_lent by_table
    protect-met a w₁ done h e =
        rw (← h) (ap with_lines e ∙ go (fits_shape s (length slots) (length w) (record_words * length ls) (length c) (length m) 0) (ordinary_page page) (is_mapped (mapped_to s w page)))
      where
        go : (t o p : Bool)
            → with_lines (cond (not t) (worded (answer 1 0 0) w) (cond (not o) (worded (answer 2 0 0) w) (cond (not p) (worded (answer 8 0 0) w) (worded (answer 0 0 0) (protected_words s w page write)))))
            ≡ cond (not t) (lent_outcome (answer 1 0 0) (lent_board slots w ls c m)) (cond (not o) (lent_outcome (answer 2 0 0) (lent_board slots w ls c m)) (cond (not p) (lent_outcome (answer 8 0 0) (lent_board slots w ls c m))
            (lent_outcome (answer 0 0 0) (lent_board slots (protected_words s w page write) (lines_visited s (protect_visit page write) 0 ls) c m))))
        go false o p = refl
        go true false p = refl
        go true true false = refl
        go true true true = refl

    module _ (k : Result Unit Refusal) (w₁ : List ℕ) (e : worded (call_answer k) w₁ ≡ word_changed s (length slots) w (length ls) (length c) (length m) page write) where
      pub protect-refused : (q : Result Unit Refusal) (why : Refusal) → k ≡ Err why → q ≡ Err why
          → ProtectLent s (lent_board slots w ls c m) page write (call_answer q) (lent_board slots w₁ ls c m)
      protect-refused q why h p =
          rw p (protect-met (answer (number_of why) 0 0) w₁ false (some-number why) (ap (λ (x : Result Unit Refusal). worded (call_answer x) w₁) (sym h) ∙ e))

      pub protect-done : (now : List Line) → k ≡ Ok tt → now ≡ lines_visited s (protect_visit page write) 0 ls
          → ProtectLent s (lent_board slots w ls c m) page write (answer 0 0 0) (lent_board slots w₁ now c m)
      protect-done now h p = rw p (protect-met (answer 0 0 0) w₁ true refl (ap (λ (x : Result Unit Refusal). worded (call_answer x) w₁) (sym h) ∙ e))

  flush-met : (a : Answer) (done : Bool) → eqb a.number 0 ≡ done → a ≡ flush_answer s (length slots) (length w) (length ls) (length c) (length m)
      → FlushLent s (lent_board slots w ls c m) a (lent_board slots w (cond done (lines_visited s flush_visit 0 ls) ls) c (cond done (flushed_memory s 0 ls c m) m))
  unfolding flush_lent by_table
  flush-met a done h e = rw (← h) (ap walked e ∙ go (fits_shape s (length slots) (length w) (record_words * length ls) (length c) (length m) 0))
    where
      walked : Answer → LentOutcome
      walked x = lent_outcome x (lent_board slots w (cond (eqb x.number 0) (lines_visited s flush_visit 0 ls) ls) c (cond (eqb x.number 0) (flushed_memory s 0 ls c m) m))

      go : (t : Bool) → walked (answer (cond (not t) 1 0) 0 0)
          ≡ cond (not t) (lent_outcome (answer 1 0 0) (lent_board slots w ls c m)) (lent_outcome (answer 0 0 0) (lent_board slots w (lines_visited s flush_visit 0 ls) c (flushed_memory s 0 ls c m)))
      go true = refl
      go false = refl

  module _ (k : Result Unit Refusal) (e : call_answer k ≡ flush_answer s (length slots) (length w) (length ls) (length c) (length m)) where
    pub flush-refused : (q : Result Unit Refusal) (why : Refusal) → k ≡ Err why → q ≡ Err why
        → FlushLent s (lent_board slots w ls c m) (call_answer q) (lent_board slots w ls c m)
    flush-refused q why h p = rw p (flush-met (answer (number_of why) 0 0) false (some-number why) (ap call_answer (sym h) ∙ e))

    pub flush-done : (now : List Line) (bytes : List ℕ) → k ≡ Ok tt → now ≡ lines_visited s flush_visit 0 ls → bytes ≡ flushed_memory s 0 ls c m
        → FlushLent s (lent_board slots w ls c m) (answer 0 0 0) (lent_board slots w now c bytes)
    flush-done now bytes h p q = rw (p, q) (flush-met (answer 0 0 0) true refl (ap call_answer (sym h) ∙ e))
