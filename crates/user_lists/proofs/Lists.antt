-- A list done one by one, turn by turn; and when its two lengths agree.
use Rattle.std.specs.Prelude.{Result, Ok, Err}
use Prim.Native.Nat.{ℕ, suc, ◌+◌, ◌*◌, ◌-◌, ◌/◌, ◌%◌, ◌<◌, ◌≤◌}
use mathlib.Core.Path.{◌≡◌, ◌∙◌, refl, sym, ap}
use mathlib.Core.Bool.{Bool, true, false, ◌&&◌}
use mathlib.Core.List.{List, [], ◌∷◌, ◌++◌, append_assoc, append-nil, map-append}
use native.Mathlib.Omega.{arith}
use native.Mathlib.Numerals.{add-one}
use lib.Dec.{eqb}
use lib.ListN.{length, take, set, length-map}
use lib.Seq.{take_all, take-suc-set}
use borrow.Author.Tests.{eqb-true, eqb-false, eq-eqb, ne_eqb}
use Rattle.board.specs.Shapes.{fits_shape}
use Rattle.board.specs.Refusals.{fit, call_answer}
use Rattle.board.specs.declared.Refusal.{Refusal}
use Rattle.board.specs.declared.Refusal.TheVariants.{Unfit}
use Rattle.board.specs.declared.Answer.{Answer}
use Rattle.board.specs.declared.Pending.{Pending}
use Rattle.board.specs.declared.Shape.{Shape}
use Rattle.lines.specs.Victims.{Uses}
use Rattle.machine.specs.Boards.{Board, sets_board, Outcome, outcome}
use Rattle.machine.specs.Refusals.{by_table}
use Rattle.machine.proofs.Fits.{fitted}
use Rattle.machine.specs.Accesses.{user_access}
use Rattle.machine.specs.Lists.{Asked, ask_at, asks_from, Answered, answered, access_on, answer_first, one_by_one, listed, list_done, user_accesses}
use Rattle.crossing.specs.Packing.{unpacked, unpacked_all}
use Rattle.user_lists.specs.Asks.{ask_of}
use Rattle.user_lists.specs.declared.Ask.{Ask}

-- five words for each answer, by quotient and remainder
pub agree : (accesses answers : ℕ) → (eqb (accesses / 5) answers && eqb (accesses % 5) 0) ≡ eqb accesses (5 * answers)
agree accesses answers = go (eqb (accesses / 5) answers) (eqb (accesses % 5) 0) refl refl
  where
    go : (q r : Bool) → eqb (accesses / 5) answers ≡ q → eqb (accesses % 5) 0 ≡ r → (q && r) ≡ eqb accesses (5 * answers)
    go true true e f = sym (eq-eqb accesses (5 * answers) (omega (arith, eqb-true (accesses / 5) answers e, eqb-true (accesses % 5) 0 f)))
    go true false e f = sym (ne_eqb accesses (5 * answers) (λ h. eqb-false (accesses % 5) 0 f (omega (arith, h))))
    go false r e f = sym (ne_eqb accesses (5 * answers) (λ h. eqb-false (accesses / 5) answers e (omega (arith, h))))

-- an access of a list crosses as a user access does
pub one-crosses : (s : Shape) (b b₁ : Board) (k : Ask) (asked : Asked) (x : Answer) (r : ℕ) → ask_of k ≡ asked
    → outcome x b₁ ≡ user_access s b k.process k.access k.address → unpacked r ≡ x → outcome (unpacked r) b₁ ≡ access_on s b asked
one-crosses s b b₁ k asked x r e h f = rw f (h ∙ ap (access_on s b) e)

-- lengths that stay fit again
pub kept-fit : (s : Shape) (slots words r c m r₁ c₁ m₁ : List ℕ) (u u₁ : Uses) → length r₁ ≡ length r → length c₁ ≡ length c → length m₁ ≡ length m
    → length u₁ ≡ length u → fits_shape s (length slots) (length words) (length r) (length c) (length m) (length u) ≡ true
    → fits_shape s (length slots) (length words) (length r₁) (length c₁) (length m₁) (length u₁) ≡ true
kept-fit s slots words r c m r₁ c₁ m₁ u u₁ e f g k h = rw (e, f, g, k) h

-- answers, and then what the accesses after them leave
joined : List Answer → Answered → Answered
joined before x = answered (before ++ x.answers) x.after

module _ (s : Shape) (slots words : List ℕ) (tag : Pending) (accesses : List ℕ) (n : ℕ) where
  -- what the accesses from number i on leave
  rest : List ℕ → List ℕ → List ℕ → Uses → ℕ → Answered
  rest r c m u i = one_by_one s (sets_board slots words r c m u tag) (asks_from accesses i (n - i))

  -- the answers so far, and what the rest leaves
  pub so_far : List ℕ → ℕ → List ℕ → List ℕ → List ℕ → Uses → Answered
  so_far answers i r c m u = joined (unpacked_all (take i answers)) (rest r c m u i)

  pub list-start : (answers r c m : List ℕ) (u : Uses) → so_far answers 0 r c m u ≡ one_by_one s (sets_board slots words r c m u tag) (asks_from accesses 0 n)
  unfolding so_far rest joined
  list-start answers r c m u =
      let z : n - 0 ≡ n = omega arith in
      rw z refl

  first_of : (b b₁ : Board) (before : List Answer) (a : Answer) (i k : ℕ) → outcome a b₁ ≡ access_on s b (ask_at accesses i)
      → joined before (one_by_one s b (asks_from accesses i (suc k))) ≡ joined (before ++ (a ∷ [])) (one_by_one s b₁ (asks_from accesses (suc i) k))
  unfolding one_by_one asks_from joined
  first_of b b₁ before a i k e =
      ap (λ (o : Outcome). joined before (answer_first o.answer (one_by_one s o.after (asks_from accesses (suc i) k)))) (sym e)
      ∙ ap (λ (l : List Answer). answered l (one_by_one s b₁ (asks_from accesses (suc i) k)).after)
      (sym (append_assoc before (a ∷ []) (one_by_one s b₁ (asks_from accesses (suc i) k)).answers))

  pub list-more : (answers r c m r₁ c₁ m₁ : List ℕ) (u u₁ : Uses) (i x : ℕ) (all : Answered) → so_far answers i r c m u ≡ all → i < n → length answers ≡ n
      → outcome (unpacked x) (sets_board slots words r₁ c₁ m₁ u₁ tag) ≡ access_on s (sets_board slots words r c m u tag) (ask_at accesses i)
      → so_far (set answers i x) (i + 1) r₁ c₁ m₁ u₁ ≡ all
  unfolding so_far rest
  list-more answers r c m r₁ c₁ m₁ u u₁ i x all w h l e =
      let z : n - i ≡ suc (n - (i + 1)) = omega arith in
      let q : take (i + 1) (set answers i x) ≡ take i answers ++ (x ∷ []) = rw add-one (take-suc-set answers i x (omega arith)) in
      let t : unpacked_all (take i answers) ++ (unpacked x ∷ []) ≡ unpacked_all (take (i + 1) (set answers i x)) =
      sym (map-append unpacked (take i answers) (x ∷ [])) ∙ ap unpacked_all (sym q) in
      let f : joined (unpacked_all (take i answers)) (one_by_one s (sets_board slots words r c m u tag) (asks_from accesses i (n - i)))
      ≡ joined (unpacked_all (take i answers) ++ (unpacked x ∷ [])) (one_by_one s (sets_board slots words r₁ c₁ m₁ u₁ tag) (asks_from accesses (i + 1) (n - (i + 1)))) =
      rw (z, add-one) (first_of (sets_board slots words r c m u tag) (sets_board slots words r₁ c₁ m₁ u₁ tag) (unpacked_all (take i answers)) (unpacked x) i (n - suc i) e) in
      sym (f ∙ ap (λ (before : List Answer). joined before (one_by_one s (sets_board slots words r₁ c₁ m₁ u₁ tag) (asks_from accesses (i + 1) (n - (i + 1))))) t) ∙ w

  pub list-end : (answers r c m : List ℕ) (u : Uses) (i : ℕ) (all : Answered) → so_far answers i r c m u ≡ all → n ≤ i → length answers ≡ n
      → answered (unpacked_all answers) (sets_board slots words r c m u tag) ≡ all
  unfolding so_far rest joined one_by_one asks_from
  list-end answers r c m u i all w h l =
      let z : n - i ≡ 0 = omega arith in
      sym (ap (λ (x : List Answer). answered x (sets_board slots words r c m u tag)) (append-nil (unpacked_all answers)))
      ∙ (rw (z, take_all i answers (omega arith)) at w)

-- where `fit` refuses, the shape and the lengths don't fit
refusing : (t : Bool) (why : Refusal) → fit t ≡ Err why → (t ≡ false) × (why ≡ Unfit)
refusing true why e = absurd (let z : ◌≡◌ {A = ℕ} 0 1 = cc in omega arith)
refusing false why e = (refl, cc)

-- the call, return by return
module _ (s : Shape) (slots words r c m : List ℕ) (u : Uses) (tag : Pending) (accesses answers : List ℕ) (t : Result Unit Refusal)
    (f : t ≡ fit (fits_shape s (length slots) (length words) (length r) (length c) (length m) (length u))) where
  abbrev b : Board
  b = sets_board slots words r c m u tag

  as_many : length (unpacked_all answers) ≡ length answers
  as_many = length-map answers unpacked

  pub list-unfit : (x : Result Unit Refusal) (why : Refusal) → t ≡ Err why → x ≡ Err why
      → listed (call_answer x) (answered (unpacked_all answers) b) ≡ user_accesses s b accesses (unpacked_all answers)
  unfolding user_accesses by_table
  list-unfit x why h k =
      let z = refusing (fits_shape s (length slots) (length words) (length r) (length c) (length m) (length u)) why (sym f ∙ h) in
      rw (k, z.0, z.1)

  module _ (h : t ≡ Ok tt) (q : Bool) (g : q ≡ eqb (length accesses) (5 * length answers)) where
    fits : fits_shape s (length slots) (length words) (length r) (length c) (length m) (length u) ≡ true
    fits = sym (fitted s slots words r c m u t f h)

    pub list-unlike : q ≡ false
        → listed (call_answer (Err Unfit)) (answered (unpacked_all answers) b) ≡ user_accesses s b accesses (unpacked_all answers)
    unfolding user_accesses by_table
    list-unlike k = rw (fits, as_many, ← g, k)

    pub list-taken : q ≡ true → length accesses ≡ 5 * length answers
    list-taken k = eqb-true (length accesses) (5 * length answers) (sym g ∙ k)

    pub list-is-done : (answers₁ r₁ c₁ m₁ : List ℕ) (u₁ : Uses) → q ≡ true
        → answered (unpacked_all answers₁) (sets_board slots words r₁ c₁ m₁ u₁ tag) ≡ one_by_one s b (asks_from accesses 0 (length answers))
        → listed (call_answer (Ok tt)) (answered (unpacked_all answers₁) (sets_board slots words r₁ c₁ m₁ u₁ tag)) ≡ user_accesses s b accesses (unpacked_all answers)
    unfolding user_accesses by_table
    list-is-done answers₁ r₁ c₁ m₁ u₁ k d = rw (fits, as_many, ← g, k) (ap list_done d)
