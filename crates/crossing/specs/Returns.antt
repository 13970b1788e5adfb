-- The contracts of the calls for C and Rust are the calls' own (machine's Clauses), of the answer that is read off the returned number.
-- No second return meets one (of a list: no second answers' buffer either), and a call that leaves the tag leaves the caller's two words.
use Rattle.std.specs.Prelude.{ℕ, ◌≡◌, List, []}
use Rattle.board.specs.Lists.{is_yes}
use Rattle.board.specs.declared.Answer.{Answer}
use Rattle.lines.specs.Victims.{Uses}
use Rattle.machine.specs.Boards.{Board, sets_board}
use Rattle.machine.specs.Lists.{Answered, answered}
use Rattle.machine.specs.Clauses.{Determines}
use Rattle.crossing.specs.Packing.{unpacked, unpacked_all, word_after, tag_of}

-- the flag's word after a call: the caller's own while it says the same, else 1 or 0
abbrev pub FlagKept : ℕ → ℕ → Type 0
FlagKept before after = after ≡ word_after before (is_yes after)

-- what a C caller has after a call: the returned number, what stands in each buffer, and the tag's two words
pub record Returned : Type 0 where
  pub result : ℕ
  pub slots : List ℕ
  pub words : List ℕ
  pub records : List ℕ
  pub cache : List ℕ
  pub memory : List ℕ
  pub uses : Uses
  pub set : ℕ
  pub name : ℕ

abbrev pub board_of : Returned → Board
board_of x = sets_board x.slots x.words x.records x.cache x.memory x.uses (tag_of x.set x.name)

abbrev pub returned_with : Uses → ℕ → List ℕ → List ℕ → List ℕ → List ℕ → List ℕ → ℕ → ℕ → Returned
returned_with uses r slots words records cache memory set name = record {
  result = r;
  slots = slots;
  words = words;
  records = records;
  cache = cache;
  memory = memory;
  uses = uses;
  set = set;
  name = name;
}

-- in 01's edition, which has no matrices, and with the matrices lent
abbrev pub returned : ℕ → List ℕ → List ℕ → List ℕ → List ℕ → List ℕ → ℕ → ℕ → Returned
returned = returned_with []

abbrev pub sets_returned : ℕ → List ℕ → List ℕ → List ℕ → List ℕ → List ℕ → Uses → ℕ → ℕ → Returned
sets_returned r slots words records cache memory uses set name = returned_with uses r slots words records cache memory set name

-- it meets the contract of a call that may change the tag: the call's own, and the word of the flag, which was `before`
abbrev pub Meets : (Answer → Board → Type 0) → ℕ → Returned → Type 0
Meets Contract before x = Contract (unpacked x.result) (board_of x) × FlagKept before x.set

pub record Returns : Type 1 where
  -- a call that leaves the tag to the caller: of a contract that no second outcome meets, as are those of all calls (`NoSecondOutcome`), two returned
  -- numbers and boards that meet it are one
  pub no_second_answer : (Contract : Answer → Board → Type 0) → Determines Contract → (r q : ℕ) (c d : Board)
      → Contract (unpacked r) c → Contract (unpacked q) d → (r ≡ q) × (c ≡ d)
  -- a list: two returned numbers, answers' buffers and boards are one
  pub no_second_list : (Contract : Answer → Answered → Type 0) → Determines Contract → (r q : ℕ) (xs ys : List ℕ) (c d : Board)
      → Contract (unpacked r) (answered (unpacked_all xs) c) → Contract (unpacked q) (answered (unpacked_all ys) d) → (r ≡ q) × ((xs ≡ ys) × (c ≡ d))
  -- a call that may change the tag: two returns are one
  pub no_second_return : (Contract : Answer → Board → Type 0) → Determines Contract → (before : ℕ) (x y : Returned)
      → Meets Contract before x → Meets Contract before y → x ≡ y
  -- a call that leaves the tag, as every refused call does, leaves the caller's two words
  pub words_kept : (before name after name' : ℕ) → tag_of after name' ≡ tag_of before name → FlagKept before after
      → (after ≡ before) × (name' ≡ name)
