-- Bytes as a reader takes them: groups, then a last byte that makes a number, or a byte that is refused.
use Prim.Native.Nat.{ℕ, suc, ◌+◌, ◌*◌, ◌%◌, ◌^◌, ◌<◌, ◌≤◌}
use mathlib.Core.Path.{◌≡◌, ◌∙◌, refl, ap}
use mathlib.Core.Logic.{◌≢◌}
use mathlib.Core.List.{List, [], ◌∷◌, ◌++◌, append_assoc}
use native.Mathlib.Nat.{pow-suc}
use native.Mathlib.Omega.{arith}
use lib.Dec.{eqb}
use lib.ListN.{length}
use borrow.Author.Tests.{ne_eqb, lt-ltb, eq-eqb}
use Rattle.board.proofs.Bools.{and-false}
use Rattle.log_numbers.specs.Numbers.{group_size, groups_before, number_end, groups_of, take_byte, Groups, none, also, value_of}
use Rattle.log_numbers.proofs.Groups.{take_more, take_last}
use Rattle.log_numbers.specs.Reasons.{reason_padded, reason_tenth}
use Rattle.log_numbers.specs.Numbers.{Wrong}
use Rattle.log_entries.specs.Entries.{number_in}
use Rattle.log_reader.specs.Reading.{state, Step, step_first, stepped, numbered, byte_in, Reading, reading, read_all}
use Rattle.log_promises.proofs.Fits.{length-next}
use Rattle.log_promises.proofs.Numbers.{Split, number-split}

-- ---- a byte after groups

-- a last group of 0 after others
pub take-padded : (gs : List ℕ) → 1 ≤ length gs → take_byte (length gs) (value_of gs 0) 0 ≡ Wrong reason_padded
unfolding take_byte
take-padded gs h = let n : length gs ≡ 0 → ⊥ = omega arith in rw (and-false (eqb (length gs) groups_before), ne_eqb (length gs) 0 n)

-- a tenth byte above 1
pub take-tenth : (gs : List ℕ) (b : ℕ) → length gs ≡ groups_before → 1 < b → take_byte (length gs) (value_of gs 0) b ≡ Wrong reason_tenth
unfolding take_byte
take-tenth gs b e h = rw (eq-eqb (length gs) groups_before e, lt-ltb 1 b h)

-- ---- bytes

-- equal numbers in the state
read_same : {at at' g g' s s' : ℕ} (e rest : List ℕ) → at ≡ at' → g ≡ g' → s ≡ s' → read_all (state at g s e 0) rest ≡ read_all (state at' g' s' e 0) rest
read_same e rest p q r = rw (p, q, r)

-- reading goes on after groups
groups-from : (at g s : ℕ) (e gs rest : List ℕ) → Groups gs → g + length gs ≤ groups_before
    → read_all (state at g s e 0) (gs ++ rest) ≡ read_all (state (at + length gs) (g + length gs) (s + value_of gs 0 * group_size ^ g) e 0) rest
unfolding read_all byte_in
groups-from at g s e [] rest none h = read_same e rest (omega arith) (omega arith) (omega arith)
groups-from at g s e (b ∷ gs) rest (also m a) h =
    rw (take_more g s b (omega (arith, h)) m)
    (groups-from (suc at) (suc g) (s + b % group_size * group_size ^ g) e gs rest a (omega (arith, h))
    ∙ read_same e rest (omega arith) (omega arith) (rw (pow-suc group_size g) (omega arith)))

-- from a number's first byte on
pub groups-read : (at : ℕ) (e gs rest : List ℕ) → Groups gs → length gs ≤ groups_before
    → read_all (state at 0 0 e 0) (gs ++ rest) ≡ read_all (state (at + length gs) (length gs) (value_of gs 0) e 0) rest
groups-read at e gs rest a h = groups-from at 0 0 e gs rest a (omega (arith, h)) ∙ read_same e rest refl (omega arith) (omega arith)

-- a step, and the bytes after it
abbrev pub goes_on : Step → List ℕ → Reading
goes_on x rest = step_first x (read_all (stepped x) rest)

-- a number's bytes: the reader stands before the last of them, and takes it
pub record NumberRead (at n : ℕ) (e rest : List ℕ) : Type 0 where
  pub before : ℕ  -- the groups before its last
  pub sum : ℕ
  pub many : length (groups_of n) ≡ suc before
  pub reads : read_all (state at 0 0 e 0) (groups_of n ++ rest) ≡ goes_on (numbered (state (at + before) before sum e 0) (number_in e n)) rest

-- a number's bytes are its groups and a last byte
pub number_read : (at n : ℕ) (e rest : List ℕ) → n < number_end → NumberRead at n e rest
unfolding read_all byte_in
number_read at n e rest h =
    let x : Split groups_before n = number-split groups_before n (omega (arith, h)) in
    let gs : List ℕ = x.groups in
    record {
      before = length gs;
      sum = value_of gs 0;
      many = ap length x.written ∙ length-next gs x.byte;
      reads =
          ap (λ (l : List ℕ). read_all (state at 0 0 e 0) (l ++ rest)) x.written
          ∙ ap (read_all (state at 0 0 e 0)) (append_assoc gs (x.byte ∷ []) rest)
          ∙ groups-read at e gs (x.byte ∷ rest) x.are x.last.few
          ∙ rw (take_last gs x.byte x.last, x.worth);
    }

-- a reader that has refused takes nothing more
pub refused-stays : (at g s : ℕ) (e rest : List ℕ) (reason : ℕ) → reason ≢ 0 → read_all (state at g s e reason) rest ≡ reading [] (state at g s e reason)
unfolding read_all byte_in
refused-stays at g s e [] reason h = refl
refused-stays at g s e (b ∷ rest) reason h = rw (ne_eqb reason 0 h) (refused-stays at g s e rest reason h)
