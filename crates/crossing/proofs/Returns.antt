-- No second return, and the tag's words.
use Prim.Native.Nat.{ℕ}
use mathlib.Core.Path.{◌≡◌, ◌∙◌, refl, sym, ap, ap₂}
use mathlib.Core.Bool.{Bool, true, false}
use mathlib.Core.List.{List, [], ◌∷◌, map}
use borrow.Author.Tests.{eqb-true, not-false}
use Rattle.board.specs.Lists.{is_yes}
use Rattle.board.specs.declared.Answer.{Answer}
use Rattle.board.specs.declared.Pending.{Pending}
use Rattle.machine.specs.Boards.{Board}
use Rattle.machine.specs.Lists.{Answered, answered}
use Rattle.machine.specs.Clauses.{Determines}
use Rattle.crossing.specs.Packing.{packed, unpacked, unpacked_all, word_after, tag_of}
use Rattle.crossing.specs.Returns.{FlagKept, Returned, board_of, Meets, Returns}
use Rattle.crossing.proofs.Packs.{nothing_lost}

-- what is returned, read off an answer, a board and the tag's first word before the call
read_off : ℕ → Answer → Board → Returned
read_off before r c = record {
  result = packed r;
  slots = c.slots;
  words = c.words;
  records = c.store.records;
  cache = c.store.cache;
  memory = c.store.memory;
  uses = c.uses;
  set = word_after before c.tag.set;
  name = c.tag.name;
}

-- numbers that unpack to one answer are one
packed-again : (r q : ℕ) → unpacked r ≡ unpacked q → r ≡ q
packed-again r q e = sym (nothing_lost.numbers r) ∙ ap packed e ∙ nothing_lost.numbers q

answer-second : (Contract : Answer → Board → Type 0) → Determines Contract → (r q : ℕ) (c d : Board)
    → Contract (unpacked r) c → Contract (unpacked q) d → (r ≡ q) × (c ≡ d)
answer-second Contract one r q c d p h = let e = one (unpacked r) (unpacked q) c d p h in (packed-again r q e.0, e.1)

-- lists of numbers that unpack to the same answers are one
packed-all-again : (xs ys : List ℕ) → unpacked_all xs ≡ unpacked_all ys → xs ≡ ys
packed-all-again xs ys e = sym (again xs) ∙ ap (map packed) e ∙ again ys
  where
    again : (zs : List ℕ) → map packed (unpacked_all zs) ≡ zs
    again [] = refl
    again (z ∷ zs) = ap₂ (λ (x : ℕ) (l : List ℕ). x ∷ l) (nothing_lost.numbers z) (again zs)

list-second : (Contract : Answer → Answered → Type 0) → Determines Contract → (r q : ℕ) (xs ys : List ℕ) (c d : Board)
    → Contract (unpacked r) (answered (unpacked_all xs) c) → Contract (unpacked q) (answered (unpacked_all ys) d) → (r ≡ q) × ((xs ≡ ys) × (c ≡ d))
list-second Contract one r q xs ys c d p h =
    let e = one (unpacked r) (unpacked q) (answered (unpacked_all xs) c) (answered (unpacked_all ys) d) p h in
    (packed-again r q e.0, (packed-all-again xs ys (ap (λ (x : Answered). x.answers) e.1), ap (λ (x : Answered). x.after) e.1))

-- a return says its number and its flag's word anew
return-again : (before : ℕ) (x : Returned) → FlagKept before x.set → x ≡ read_off before (unpacked x.result) (board_of x)
unfolding read_off
return-again before x h =
    ap (λ (q : ℕ). record { result = q; slots = x.slots; words = x.words; records = x.records; cache = x.cache; memory = x.memory; uses = x.uses; set = x.set; name = x.name })
    (sym (nothing_lost.numbers x.result))
    ∙ ap (λ (q : ℕ). record { result = packed (unpacked x.result); slots = x.slots; words = x.words; records = x.records; cache = x.cache; memory = x.memory; uses = x.uses; set = q; name = x.name }) h

second : (Contract : Answer → Board → Type 0) → Determines Contract → (before : ℕ) (x y : Returned)
    → Meets Contract before x → Meets Contract before y → x ≡ y
second Contract one before x y p q =
    let e = one (unpacked x.result) (unpacked y.result) (board_of x) (board_of y) p.0 q.0 in
    return-again before x p.1
    ∙ ap (λ (r : Answer). read_off before r (board_of x)) e.0 ∙ ap (read_off before (unpacked y.result)) e.1
    ∙ sym (return-again before y q.1)

-- a flag's word that says the same as before is the word before
word_same : (before : ℕ) (t : Bool) → is_yes before ≡ t → word_after before t ≡ before
unfolding word_after
word_same before true e = rw e
word_same before false e = sym (eqb-true before 0 (not-false _ e))

kept : (before name after name' : ℕ) → tag_of after name' ≡ tag_of before name → FlagKept before after
    → (after ≡ before) × (name' ≡ name)
kept before name after name' e w =
    let f : is_yes after ≡ is_yes before = ap (λ (t : Pending). t.set) e in
    (w ∙ word_same before (is_yes after) (sym f), ap (λ (t : Pending). t.name) e)

pub returns : Returns
returns = record { no_second_answer = answer-second; no_second_list = list-second; no_second_return = second; words_kept = kept }
