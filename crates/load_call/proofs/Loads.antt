-- Load-and-map: its number or its permission, the line, and its returns.
use Rattle.std.specs.Prelude.{Option, Some, None, Result, Ok, Err}
use Rattle.std.specs.Option.{ok_or}
use Prim.Native.Nat.{ℕ, ◌+◌, ◌*◌, ◌/◌, ◌%◌, ◌≤◌, ◌<◌}
use mathlib.Core.Path.{◌≡◌, ◌∙◌, refl, sym, ap}
use mathlib.Core.Bool.{Bool, true, false, not, cond}
use mathlib.Core.List.{List}
use native.Mathlib.Omega.{arith}
use lib.Dec.{ltb}
use lib.ListN.{length, get_or}
use borrow.Author.Tests.{eq-eqb, ne_eqb, ltb-true, lt-ltb, le-ltb}
use Rattle.board.specs.Answers.{answer}
use Rattle.board.specs.Shapes.{fits_shape}
use Rattle.pages.specs.Pages.{mapped_to, word_writes}
use Rattle.board.specs.declared.Shape.{Shape}
use Rattle.board.specs.declared.Pending.{Pending}
use Rattle.board.specs.declared.Refusal.{Refusal}
use Rattle.board.specs.declared.Refusal.TheVariants.{OutOfRange, TagState, Unmapped, WrongLine}
use Rattle.board.specs.Refusals.{fit, call_answer}
use Rattle.pages.proofs.Frames.{mapped-inside}
use Rattle.stores.specs.Stores.{store, inserted}
use Rattle.lines.specs.Holds.{holder_of}
use Rattle.lines.specs.Victims.{Uses, victim_of, room_by, room_for, used_in}
use Rattle.machine.specs.Boards.{Board, sets_board, Outcome, outcome, refused, done, no_tag, with_tag}
use Rattle.machine.specs.Refusals.{by_table, is_mapped}
use Rattle.machine.specs.Calls.{found_frame, load_rows, loaded_by, loaded_uses, Loaded, loaded_with, loaded, on_loaded, load_and_map}
use Rattle.machine.proofs.Tables.{known, by_check, check-table}
use Rattle.load_call.specs.Checks.{load_frame, load_check}
use Rattle.machine.proofs.Fits.{fitted-table}

-- ---- numbers 8 and 13, or the permission

-- an Option asked by `ok_or`
none-by : (found : Option ℕ) (why : Refusal) → ok_or found Unmapped ≡ Err why → (found ≡ None) × (why ≡ Unmapped)
none-by (Some f) why e = absurd (let z : ◌≡◌ {A = ℕ} 0 1 = cc in omega arith)
none-by None why e = (refl, cc)

some-by : (found : Option ℕ) (f : ℕ) → ok_or found Unmapped ≡ Ok f → found ≡ Some f
some-by (Some g) f e = cc
some-by None f e = absurd (let z : ◌≡◌ {A = ℕ} 0 1 = cc in omega arith)

module _ (s : Shape) (words : List ℕ) (name line : ℕ) (found : Option ℕ) (e : found ≡ mapped_to s words (name / 256)) (k : Result ℕ Refusal) (d : k ≡ ok_or found Unmapped) where
  pub home-none : (q : Result Bool Refusal) (why : Refusal) → k ≡ Err why → q ≡ Err why → q ≡ load_frame s words name line
  unfolding load_frame by_table is_mapped
  home-none q why h p = let z = none-by found why (sym d ∙ h) in rw (p, z.1, ← e, z.0)

  module _ (f : ℕ) (h : k ≡ Ok f) where
    pub home-found : found ≡ Some f
    home-found = some-by found f (sym d ∙ h)

    pub home-inside : f < length words
    home-inside = mapped-inside s words (name / 256) f found e home-found

    pub home-other : (line ≡ f * 256 + name % 256 → ⊥) → Err WrongLine ≡ load_frame s words name line
    unfolding load_frame by_table is_mapped found_frame
    home-other n = rw (← e, home-found, ne_eqb _ _ n)

    pub home-fill : (write : Bool) → line ≡ f * 256 + name % 256 → write ≡ word_writes (get_or words f 0) → Ok write ≡ load_frame s words name line
    unfolding load_frame by_table is_mapped found_frame
    home-fill write y q = rw (q, ← e, home-found, eq-eqb _ _ y)

-- ---- numbers 2 and 3 before

module _ (s : Shape) (words : List ℕ) (pending : Pending) (line : ℕ) where
  pub check-outside : 256 * s.frames ≤ line → Err OutOfRange ≡ load_check s words pending line
  unfolding load_check by_table
  check-outside h = rw (le-ltb _ _ h)

  module _ (h : line < 256 * s.frames) where
    pub check-empty : pending.set ≡ false → Err TagState ≡ load_check s words pending line
    unfolding load_check by_table
    check-empty k = rw (lt-ltb _ _ h, k)

    pub check-home : (l : Result Bool Refusal) → pending.set ≡ true → l ≡ load_frame s words pending.name line → l ≡ load_check s words pending line
    unfolding load_check load_frame by_table
    check-home l k e = rw (lt-ltb _ _ h, k) e

  -- what is filled is a physical line
  fill-first : (t : Bool) (write : Bool) (rest : Result Bool Refusal) → cond (not t) (Err OutOfRange) rest ≡ Ok write → t ≡ true
  fill-first true write rest e = refl
  fill-first false write rest e = absurd (let z : ◌≡◌ {A = ℕ} 0 1 = cc in omega arith)

  pub fill-line : (k : Result Bool Refusal) (write : Bool) → k ≡ load_check s words pending line → k ≡ Ok write → line < 256 * s.frames
  unfolding load_check by_table
  fill-line k write e j = ltb-true line (256 * s.frames) (fill-first (ltb line (256 * s.frames)) write _ (sym e ∙ j))

-- ---- the line

module _ (s : Shape) (r c m : List ℕ) (u : Uses) (name line : ℕ) (write : Bool) where
  abbrev v : ℕ
  v = victim_of s u r name

  by : Option ℕ → Loaded
  by f = loaded_with (loaded_by s v name line write (store r c m) f) (loaded_uses s v u f)

  held_by : (f : Option ℕ) → room_by v f ≡ None → loaded_with (store r c m) u ≡ by f
  unfolding room_by loaded_by loaded_uses by
  held_by (Some i) e = refl
  held_by None e = absurd (let z : ◌≡◌ {A = ℕ} 0 1 = cc in omega arith)

  new_by : (f : Option ℕ) (to : ℕ) → room_by v f ≡ Some to → loaded_with (inserted s to name line write (store r c m)) (used_in s u to) ≡ by f
  unfolding room_by loaded_by loaded_uses by
  new_by (Some i) to e = absurd (let z : ◌≡◌ {A = ℕ} 0 1 = cc in omega arith)
  new_by None to e = let z : to ≡ v = cc in rw z

  module _ (room : Option ℕ) (e : room ≡ room_for s u r name) where
    pub loaded-held : room ≡ None → loaded_with (store r c m) u ≡ loaded s name line write (store r c m) u
    unfolding loaded by
    loaded-held k = held_by (holder_of s r name) (sym e ∙ k)

    pub loaded-new : (to : ℕ) (r₁ c₁ m₁ : List ℕ) (u₁ : Uses) → room ≡ Some to → u₁ ≡ used_in s u to
        → store r₁ c₁ m₁ ≡ inserted s to name line write (store r c m) → loaded_with (store r₁ c₁ m₁) u₁ ≡ loaded s name line write (store r c m) u
    unfolding loaded by
    loaded-new to r₁ c₁ m₁ u₁ k q g = rw (g, q) (new_by (holder_of s r name) to (sym e ∙ k))

-- ---- the returns

-- nothing is pending
tag-parts : (none : Pending) → none.set ≡ false → none.name ≡ 0 → none ≡ no_tag
tag-parts none p q i = record { set = p i; name = q i }

module _ (s : Shape) (slots w r c m : List ℕ) (u : Uses) (pending : Pending) (t : Result Unit Refusal)
    (f : t ≡ fit (fits_shape s (length slots) (length w) (length r) (length c) (length m) (length u))) (h : t ≡ Ok tt) (line : ℕ)
    (k : Result Bool Refusal) (e : k ≡ load_check s w pending line) where
  abbrev b : Board
  b = sets_board slots w r c m u pending

  abbrev go : Bool → Outcome
  go write = done (with_tag (on_loaded b (loaded s pending.name line write (store r c m) u)) no_tag)

  load-on : by_check (refused b) go k ≡ load_and_map s b line
  unfolding load_and_map load_check known
  load-on = check-table (refused b) go (load_rows s w pending line) _ k refl e ∙ fitted-table s slots w r c m u t f h (refused b) pending _ _

  pub load-refused : (q : Result Unit Refusal) (why : Refusal) → k ≡ Err why → q ≡ Err why
      → outcome (call_answer q) (sets_board slots w r c m u pending) ≡ load_and_map s b line
  unfolding by_check
  load-refused q why j p = rw p (ap (by_check (refused b) go) (sym j) ∙ load-on)

  pub load-done : (write : Bool) (r₁ c₁ m₁ : List ℕ) (u₁ : Uses) (none : Pending) → k ≡ Ok write
      → loaded_with (store r₁ c₁ m₁) u₁ ≡ loaded s pending.name line write (store r c m) u → none.set ≡ false → none.name ≡ 0
      → outcome (answer 0 0 0) (sets_board slots w r₁ c₁ m₁ u₁ none) ≡ load_and_map s b line
  unfolding by_check
  load-done write r₁ c₁ m₁ u₁ none j d p q =
      let z : none ≡ no_tag = tag-parts none p q in
      rw z (ap (λ (x : Loaded). done (with_tag (on_loaded b x) no_tag)) d ∙ ap (by_check (refused b) go) (sym j) ∙ load-on)
