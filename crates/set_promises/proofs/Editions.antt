-- The promises for each edition, from those over every shape; and what a place, a victim and a use are in each.
use Prim.Native.Nat.{ℕ, ◌*◌, ◌/◌, ◌%◌, ◌<◌}
use mathlib.Core.Path.{◌≡◌, ◌∙◌, refl, sym}
use mathlib.Core.Logic.{◌≢◌, ⊎_elim}
use mathlib.Core.List.{List}
use native.Mathlib.Nat.{div-one}
use native.Mathlib.Omega.{arith}
use lib.Dec.{eqb}
use lib.ListN.{length}
use borrow.Author.Tests.{eqb-true}
use Rattle.address.specs.Layout.{line_bytes, page_bytes, process_slots}
use Rattle.address.specs.Addresses.{name_of}
use Rattle.board.specs.Shapes.{record_words, set_lines, matrices_of, one_line, four_lines}
use Rattle.board.proofs.Bools.{and_right}
use Rattle.lines.specs.Holds.{place_of, set_at, holds_line}
use Rattle.lines.specs.Victims.{Uses, victim_of, used_in}
use Rattle.lines.proofs.Sets.{victim-set}
use Rattle.machine.specs.Boards.{Board}
use Rattle.promises.specs.Demand2.{record_to}
use Rattle.promises.specs.Limits.{By1}
use Rattle.promises.proofs.Places.{demand2-place}
use Rattle.promises.proofs.Demand1.{demand1}
use Rattle.promises.proofs.Demand2.{demand2, demand2-sound}
use Rattle.promises.proofs.Demand3.{demand3, demand3-sound}
use Rattle.promises.proofs.Moves.{moves-hand-over}
use Rattle.promises.proofs.Limits.{limits-stand}
use Rattle.set_promises.specs.Editions.{Edition, Demands, OneLine, FourLines, Editions}
use Rattle.set_promises.proofs.Victims.{empty-victim, fewest-victim}
use Rattle.set_promises.proofs.InStep.{twins-same}

demands : (edition : Edition) → Demands edition
demands edition = record {
  refusals = λ f u p l b k. demand1.calls (edition f u p l) b k;
  list_refusals = λ f u p l b accesses answers. demand1.lists (edition f u p l) b accesses answers;
  look_refusals = λ f u p l b line. demand1.looks (edition f u p l) b line;
  plain = λ f u p l b x ks. demand2 (edition f u p l) b x ks;
  plain_sound = λ f u p l b memory x y ks. demand2-sound (edition f u p l) b memory x y ks;
  one_refill_user = λ f u p l b process a e. demand2-place.user_place (edition f u p l) b process a e;
  one_refill_supervisor = λ f u p l b a g. demand2-place.supervisor_place (edition f u p l) b a g;
  apart = λ f u p l b x ks ls process e h m. demand3.apart (edition f u p l) b x ks ls process e h m;
  one_copy = λ f u p l b x ks. demand3.one_copy (edition f u p l) b x ks;
  apart_sound = λ f u p l b memory x y ks ls process e h m. demand3-sound.apart (edition f u p l) b memory x y ks ls process e h m;
  one_copy_sound = λ f u p l b x ks. demand3-sound.one_copy (edition f u p l) b x ks;
  hands_over = λ f u p l b x ks page new e. moves-hand-over.hands_over (edition f u p l) b x ks page new e;
}

-- ---- one line in a set

-- the record at a place is the place
one_place : (f u p l i name : ℕ) → set_at (one_line f u p l) i ≡ place_of (one_line f u p l) name → i ≡ name % l
one_place f u p l i name e = sym (div-one i) ∙ e ∙ rw div-one

one-victim : (f u p l : ℕ) (uses : Uses) (records : List ℕ) (name : ℕ) → victim_of (one_line f u p l) uses records name ≡ name % l
one-victim f u p l uses records name =
    one_place f u p l (victim_of (one_line f u p l) uses records name) name (victim-set (one_line f u p l) uses records name (omega arith))

places_of_one : OneLine
unfolding holds_line used_in
places_of_one = record {
  holds = λ f u p l i x. simp div-one;
  victim = one-victim;
  no_use = λ f u p l uses i. refl;
  own_place = λ f u p l b g. one_place f u p l (record_to (one_line f u p l) b g) (name_of g) (demand2-place.own_set (one_line f u p l) b g (omega arith));
}

-- ---- sets of four

too_few : (f u p l : ℕ) (b : Board) → l < set_lines → By1 (four_lines f u p l) b
too_few f u p l b h =
    limits-stand.refused_else (four_lines f u p l) b (λ k w a. ⊎_elim (λ e. omega (arith, e)) (λ e. omega (arith, e.1)) w.edition)

matrices : (f u p l : ℕ) (b : Board) → length b.uses ≢ l / set_lines → By1 (four_lines f u p l) b
unfolding matrices_of
matrices f u p l b n =
    limits-stand.refused_else (four_lines f u p l) b
    (λ k w a₁.
    let a₂ = and_right (eqb (length b.slots) (p * process_slots)) _ a₁ in
    let a₃ = and_right (eqb (length b.words) f) _ a₂ in
    let a₄ = and_right (eqb (length b.store.records) (record_words * l)) _ a₃ in
    let a₅ = and_right (eqb (length b.store.cache) (line_bytes * l)) _ a₄ in
    n (eqb-true _ _ (and_right (eqb (length b.store.memory) (page_bytes * f)) _ a₅)))

places_of_four : FourLines
unfolding holds_line used_in
places_of_four = record {
  too_few = too_few;
  matrices = matrices;
  holds = λ f u p l i x. refl;
  victim_empty = λ f u p l uses records name i e h. empty-victim (four_lines f u p l) refl uses records (place_of (four_lines f u p l) name) i e h;
  victim_full = λ f u p l uses records name full. fewest-victim (four_lines f u p l) refl uses records (place_of (four_lines f u p l) name) full;
  use_in_set = λ f u p l uses i. refl;
  own_set = λ f u p l b g. demand2-place.own_set (four_lines f u p l) b g (omega arith);
}

pub editions : Editions
editions = record {
  one_line_lem = demands one_line;
  four_lines_lem = demands four_lines;
  places_of_one = places_of_one;
  places_of_four = places_of_four;
  other_refusals_stay = twins-same;
}
