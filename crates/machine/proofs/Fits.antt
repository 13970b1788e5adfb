-- What an accepted shape gives a call, fact by fact, the first row of every table, and the outcome of a changed page map.
use Rattle.std.specs.Prelude.{Result, Ok, Err}
use Prim.Native.Nat.{ℕ, ◌*◌, ◌≤◌}
use mathlib.Core.Path.{◌≡◌, ◌∙◌, refl, sym}
use mathlib.Core.Bool.{Bool, true, false}
use mathlib.Core.List.{List, [], ◌∷◌}
use native.Mathlib.Omega.{arith}
use lib.ListN.{length}
use Rattle.address.specs.Layout.{page_bytes, process_slots}
use Rattle.board.specs.Answers.{answer}
use Rattle.board.specs.Shapes.{fits_shape, matrices_of, max_frames, max_processes, max_lines}
use Rattle.board.specs.Refusals.{fit, call_answer}
use Rattle.board.specs.declared.Refusal.{Refusal}
use Rattle.board.specs.declared.Refusal.TheVariants.{Unfit}
use Rattle.board.specs.declared.Shape.{Shape}
use Rattle.board.specs.declared.Answer.{Answer}
use Rattle.board.specs.declared.Pending.{Pending}
use Rattle.board.proofs.Shapes.{Shaped, shaped}
use Rattle.lines.specs.Victims.{Uses}
use Rattle.stores.specs.Premises.{Sized}
use Rattle.machine.specs.Boards.{sets_board, board, Outcome, outcome, refused, done, Pages, pages, with_pages}
use Rattle.machine.specs.Refusals.{Row, by_table, row1}

module _ (s : Shape) (slots w r c m : List ℕ) (u : Uses) (t : Bool)
    (f : t ≡ fits_shape s (length slots) (length w) (length r) (length c) (length m) (length u)) where
  module _ (h : t ≡ true) where
    facts : Shaped s (length slots) (length w) (length r) (length c) (length m) (length u)
    facts = shaped s (length slots) (length w) (length r) (length c) (length m) (length u) t f h

    pub fit-sized : Sized s r c m
    fit-sized = record {
      lined = record { one = facts.one; edition = facts.edition; lines_max = facts.lines_max; frames_max = facts.frames_max };
      records_are = facts.records_are;
      cache_is = facts.cache_is;
      memory_is = facts.memory_is;
    }

    pub fit-slots : length slots ≡ s.processes * process_slots
    fit-slots = facts.slots_are

    pub fit_words : length w ≡ s.frames
    fit_words = facts.words_are

    pub fit-memory : length m ≡ page_bytes * s.frames
    fit-memory = facts.memory_is

    pub fit-uses : length u ≡ matrices_of s
    fit-uses = facts.uses_are

    pub fit-frames : s.frames ≤ max_frames
    fit-frames = facts.frames_max

    pub fit-lines : s.lines ≤ max_lines
    fit-lines = facts.lines_max

    pub fit-uncached : s.uncached ≤ s.frames
    fit-uncached = facts.uncached_max

    pub fit-processes : s.processes ≤ max_processes
    fit-processes = facts.processes_max

    -- the table goes on after its first row
    pub fit-table : {A : Type 0} (refuse : ℕ → A) (tag : Pending) (rows : List Row) (d : A)
        → by_table refuse rows d ≡ by_table refuse (row1 s (sets_board slots w r c m u tag) ∷ rows) d
    unfolding by_table
    fit-table refuse tag rows d = rw (← f, h)

  -- number 1, whatever the call: nothing changes
  pub unfit : (a : Answer) (tag tag₁ : Pending) (rows : List Row) (d : Outcome) → t ≡ false → a ≡ answer 1 0 0 → tag₁ ≡ tag
      → outcome a (sets_board slots w r c m u tag₁) ≡ by_table (refused (sets_board slots w r c m u tag)) (row1 s (sets_board slots w r c m u tag) ∷ rows) d
  unfolding by_table
  unfit a tag tag₁ rows d h q p = rw (← f, h, q, p)

-- the same where a call asked `fit` whether its buffers fit
fitting : (t : Bool) → fit t ≡ Ok tt → true ≡ t
fitting true e = refl
fitting false e = absurd (let z : ◌≡◌ {A = ℕ} 0 1 = cc in omega arith)

refusing : (t : Bool) (why : Refusal) → fit t ≡ Err why → (t ≡ false) × (why ≡ Unfit)
refusing true why e = absurd (let z : ◌≡◌ {A = ℕ} 0 1 = cc in omega arith)
refusing false why e = (refl, cc)

module _ (s : Shape) (slots w r c m : List ℕ) (u : Uses) (k : Result Unit Refusal)
    (f : k ≡ fit (fits_shape s (length slots) (length w) (length r) (length c) (length m) (length u))) where
  module _ (h : k ≡ Ok tt) where
    pub fitted : true ≡ fits_shape s (length slots) (length w) (length r) (length c) (length m) (length u)
    fitted = fitting (fits_shape s (length slots) (length w) (length r) (length c) (length m) (length u)) (sym f ∙ h)

    pub fitted-sized : Sized s r c m
    fitted-sized = fit-sized s slots w r c m u true fitted refl

    pub fitted-slots : length slots ≡ s.processes * process_slots
    fitted-slots = fit-slots s slots w r c m u true fitted refl

    pub fitted-words : length w ≡ s.frames
    fitted-words = fit_words s slots w r c m u true fitted refl

    pub fitted-memory : length m ≡ page_bytes * s.frames
    fitted-memory = fit-memory s slots w r c m u true fitted refl

    pub fitted-uses : length u ≡ matrices_of s
    fitted-uses = fit-uses s slots w r c m u true fitted refl

    pub fitted-frames : s.frames ≤ max_frames
    fitted-frames = fit-frames s slots w r c m u true fitted refl

    pub fitted-lines : s.lines ≤ max_lines
    fitted-lines = fit-lines s slots w r c m u true fitted refl

    pub fitted-uncached : s.uncached ≤ s.frames
    fitted-uncached = fit-uncached s slots w r c m u true fitted refl

    pub fitted-processes : s.processes ≤ max_processes
    fitted-processes = fit-processes s slots w r c m u true fitted refl

    -- the table goes on after its first row
    pub fitted-table : {A : Type 0} (refuse : ℕ → A) (tag : Pending) (rows : List Row) (d : A)
        → by_table refuse rows d ≡ by_table refuse (row1 s (sets_board slots w r c m u tag) ∷ rows) d
    fitted-table refuse tag rows d = fit-table s slots w r c m u true fitted refl refuse tag rows d

  -- number 1, whatever the call: nothing changes. q is what the call gives where `fit` gave an error
  pub unfitted : (q : Result Unit Refusal) (why : Refusal) (tag : Pending) (rows : List Row) (d : Outcome) → k ≡ Err why → q ≡ Err why
      → outcome (call_answer q) (sets_board slots w r c m u tag)
      ≡ by_table (refused (sets_board slots w r c m u tag)) (row1 s (sets_board slots w r c m u tag) ∷ rows) d
  unfitted q why tag rows d h e =
      let z = refusing (fits_shape s (length slots) (length w) (length r) (length c) (length m) (length u)) why (sym f ∙ h) in
      rw (e, z.1) (unfit s slots w r c m u (fits_shape s (length slots) (length w) (length r) (length c) (length m) (length u)) refl (answer 1 0 0) tag tag rows d z.0 refl refl)

-- the outcome with the words and the store of a changed page map
pub pages-done : (slots w r c m : List ℕ) (u : Uses) (tag : Pending) (a : Answer) (p : Pages) (w₁ r₁ m₁ : List ℕ) → pages w₁ r₁ c m₁ ≡ p → a ≡ answer 0 0 0
    → outcome a (sets_board slots w₁ r₁ c m₁ u tag) ≡ done (with_pages (sets_board slots w r c m u tag) p)
pages-done slots w r c m u tag a p w₁ r₁ m₁ e q = rw (q, ← e)

pub no-uses : (u : Uses) → length u ≡ 0 → u ≡ []
no-uses [] h = refl
no-uses (x ∷ u) h = absurd (omega arith)

-- a call of 01's edition lends no matrices, and gets none back
pub no-matrices : (slots w r c m : List ℕ) (u : Uses) (tag : Pending) (a : Answer) (o : Outcome) → length u ≡ 0
    → outcome a (sets_board slots w r c m u tag) ≡ o → outcome a (board slots w r c m tag) ≡ o
no-matrices slots w r c m u tag a o h e = rw (← no-uses u h) e
