-- A plain user access is read as the reader reads it byte by byte.
use Prim.Native.Nat.{ℕ, suc, ◌+◌, ◌*◌, ◌-◌, ◌/◌, ◌%◌, ◌^◌, ◌<◌, ◌≤◌}
use mathlib.Core.Path.{◌≡◌, ◌∙◌, refl, sym, ap, subst}
use mathlib.Core.Bool.{Bool, true, false, ◌&&◌, cond}
use mathlib.Core.List.{List, [], ◌∷◌, ◌++◌}
use native.Mathlib.Nat.{pow-suc}
use native.Mathlib.Omega.{arith}
use lib.Dec.{eqb, leb}
use lib.ListN.{length, take, drop}
use borrow.Author.Tests.{ne_eqb, le-leb, eqb-true, leb-true}
use Rattle.board.specs.Lists.{splice}
use Rattle.board.proofs.Bools.{clash}
use Rattle.board.proofs.Lists.{length-splice}
use Rattle.log_numbers.specs.Numbers.{group_size, groups_before, number_end, Groups, none, also, value_of}
use Rattle.log_numbers.proofs.Groups.{take_more, take_last, Last}
use Rattle.log_entries.specs.Entries.{entry_words, fields_of, is_kind, is_whole, most, most_of, growing, whole, number_in, words_of}
use Rattle.log_quick.specs.Quick.{Heads, UserHeads}
use Rattle.log_quick.specs.declared.UserAt.{UserAt}
use Rattle.log_reader.specs.Reading.{State, state, is_between, Step, reading, numbered, step_first, stepped, room_after, byte_in, read_into}
use Rattle.log_reader.specs.Readers.{state_of, Readable, laid_from, laid_left, Turned}
use Rattle.log_reader.specs.declared.Reader.{Reader}
use Rattle.log_reader.proofs.Readers.{reader}
use Rattle.log_reader.proofs.Laid.{laid_more, between_is}

-- ---- a number at the head of bytes

module _ (room : ℕ) (some : room ≡ 0 → ⊥) where
  open-room : eqb room 0 ≡ false
  open-room = ne_eqb room 0 some

  read_same : {at at' g g' s s' : ℕ} (e rest : List ℕ) → at ≡ at' → g ≡ g' → s ≡ s' → read_into room (state at g s e 0) rest ≡ read_into room (state at' g' s' e 0) rest
  read_same e rest p q r = rw (p, q, r)

  -- reading goes on after groups
  groups-into : (at g s : ℕ) (e gs rest : List ℕ) → Groups gs → g + length gs ≤ groups_before
      → read_into room (state at g s e 0) (gs ++ rest) ≡ read_into room (state (at + length gs) (g + length gs) (s + value_of gs 0 * group_size ^ g) e 0) rest
  unfolding read_into byte_in
  groups-into at g s e [] rest none h = read_same e rest (omega arith) (omega arith) (omega arith)
  groups-into at g s e (b ∷ gs) rest (also m a) h =
      rw (open-room, take_more g s b (omega (arith, h)) m)
      (groups-into (suc at) (suc g) (s + b % group_size * group_size ^ g) e gs rest a (omega (arith, h))
      ∙ read_same e rest (omega arith) (omega arith) (rw (pow-suc group_size g) (omega arith)))

  module _ (at n count : ℕ) (e bytes rest : List ℕ) (h : Heads bytes n count rest) where
    last : Last groups_before h.groups h.byte
    last = record { small = h.small; few = omega (arith, h.few); low = λ z. absurd (omega (arith, z, h.few)); proper = h.proper }

    before : State
    before = state (at + length h.groups) (length h.groups) (value_of h.groups 0) e 0

    -- the step that its last byte makes
    abbrev step : Step
    step = numbered before (number_in e n)

    head_read : read_into room (state at 0 0 e 0) bytes ≡ step_first step (read_into (room_after room step) (stepped step) rest)
    unfolding read_into byte_in before
    head_read =
        ap (read_into room (state at 0 0 e 0)) h.split
        ∙ groups-into at 0 0 e h.groups (h.byte ∷ rest) h.are (omega (arith, h.few))
        ∙ read_same {g' = length h.groups} {s' = value_of h.groups 0} e (h.byte ∷ rest) refl (omega arith) (omega arith)
        ∙ rw (open-room, take_last h.groups h.byte last, sym h.worth)

    pub head-grows : (e' : List ℕ) → number_in e n ≡ growing e' → read_into room (state at 0 0 e 0) bytes ≡ read_into room (state (at + count) 0 0 e' 0) rest
    unfolding before
    head-grows e' x = let c : suc (at + length h.groups) ≡ at + count = omega (arith, h.many) in head_read ∙ rw (x, c)

    pub head-ends : (entry : List ℕ) → number_in e n ≡ whole entry
        → read_into room (state at 0 0 e 0) bytes ≡ reading (entry ∷ (read_into (room - 1) (state (at + count) 0 0 [] 0) rest).entries) (read_into (room - 1) (state (at + count) 0 0 [] 0) rest).after
    unfolding before
    head-ends entry x = let c : suc (at + length h.groups) ≡ at + count = omega (arith, h.many) in head_read ∙ rw (x, c)

-- one byte
byte-heads : (b : ℕ) (bytes rest : List ℕ) → b < group_size → bytes ≡ b ∷ rest → Heads bytes b 1 rest
byte-heads b bytes rest l e = record {
  groups = [];
  byte = b;
  are = none;
  few = omega arith;
  small = l;
  proper = λ z. absurd (omega (arith, z));
  worth = refl;
  many = refl;
  split = e;
}

-- ---- the numbers of a user access

module _ (p s w a v : ℕ) where
  user-kind : number_in [] 1 ≡ growing (1 ∷ [])
  unfolding number_in is_kind is_whole fields_of
  user-kind = refl

  user-process : p ≤ 2 ^ 64 - 1 → number_in (1 ∷ []) p ≡ growing (1 ∷ p ∷ [])
  unfolding number_in is_whole most most_of fields_of
  user-process h = rw (le-leb p (2 ^ 64 - 1) h)

  user-store : s ≤ 1 → number_in (1 ∷ p ∷ []) s ≡ growing (1 ∷ p ∷ s ∷ [])
  unfolding number_in is_whole most most_of fields_of
  user-store h = rw (le-leb s 1 h)

  user-width : w ≤ 2 ^ 32 - 1 → number_in (1 ∷ p ∷ s ∷ []) w ≡ growing (1 ∷ p ∷ s ∷ w ∷ [])
  unfolding number_in is_whole most most_of fields_of
  user-width h = rw (le-leb w (2 ^ 32 - 1) h)

  user-address : a ≤ 2 ^ 32 - 1 → number_in (1 ∷ p ∷ s ∷ w ∷ []) a ≡ growing (1 ∷ p ∷ s ∷ w ∷ a ∷ [])
  unfolding number_in is_whole most most_of fields_of
  user-address h = rw (le-leb a (2 ^ 32 - 1) h)

  user-value : v ≤ cond (eqb s 0) 0 (2 ^ 32 - 1) → number_in (1 ∷ p ∷ s ∷ w ∷ a ∷ []) v ≡ whole (1 ∷ p ∷ s ∷ w ∷ a ∷ v ∷ [])
  unfolding number_in is_whole most most_of fields_of
  user-value h = rw (le-leb v (cond (eqb s 0) 0 (2 ^ 32 - 1)) h)

-- ---- a turn

module _ (piece : List ℕ) (from : ℕ) (u : UserAt) (h : UserHeads piece from u) (fits : u.process < number_end) where
  abbrev user : List ℕ
  user = 1 ∷ u.process ∷ u.store ∷ u.width ∷ u.address ∷ u.value ∷ []

  -- the reader's six numbers
  user-read : (room at : ℕ) → (room ≡ 0 → ⊥)
      → read_into room (state at 0 0 [] 0) (drop from piece)
      ≡ reading (user ∷ (read_into (room - 1) (state (at + u.count) 0 0 [] 0) (drop (from + u.count) piece)).entries) (read_into (room - 1) (state (at + u.count) 0 0 [] 0) (drop (from + u.count) piece)).after
  user-read room at some =
      let one : 1 < group_size = omega arith in
      let small : u.store < group_size = omega (arith, h.flag) in
      let end : at + 1 + h.process_count + 1 + 1 + h.address_count + h.value_count ≡ at + u.count = omega (arith, h.many) in
      head-grows room some at 1 1 [] _ _ (byte-heads 1 _ _ one h.kind) _ (user-kind 0 0 0 0 0)
      ∙ head-grows room some (at + 1) _ _ (1 ∷ []) _ _ h.process _ (user-process u.process 0 0 0 0 (omega (arith, fits)))
      ∙ head-grows room some (at + 1 + h.process_count) _ 1 (1 ∷ u.process ∷ []) _ _ (byte-heads u.store _ _ small h.flags) _ (user-store u.process u.store 0 0 0 h.flag)
      ∙ head-grows room some (at + 1 + h.process_count + 1) _ 1 (1 ∷ u.process ∷ u.store ∷ []) _ _ (byte-heads u.width _ _ h.one refl) _
      (user-width u.process u.store u.width 0 0 (omega (arith, h.one)))
      ∙ head-grows room some (at + 1 + h.process_count + 1 + 1) _ _ (1 ∷ u.process ∷ u.store ∷ u.width ∷ []) _ _ h.address _
      (user-address u.process u.store u.width u.address 0 h.address_fits)
      ∙ head-ends room some (at + 1 + h.process_count + 1 + 1 + h.address_count) _ _ (1 ∷ u.process ∷ u.store ∷ u.width ∷ u.address ∷ []) _ _ h.value _
      (user-value u.process u.store u.width u.address u.value h.value_fits)
      ∙ ap (λ (n : ℕ). reading (user ∷ (read_into (room - 1) (state n 0 0 [] 0) (drop (from + u.count) piece)).entries) (read_into (room - 1) (state n 0 0 [] 0) (drop (from + u.count) piece)).after) end

  pub turned-user : (list list₁ : List ℕ) (given given₁ : ℕ) (r : Reader) → given₁ ≡ given + 1 → Readable r → r.groups ≡ 0 → r.count ≡ 0 → r.reason ≡ 0 → given < length list / entry_words → u.count ≤ 18
      → from + 18 ≤ length piece → list₁ ≡ splice list (entry_words * given) user
      → Turned r.at from (length piece) (from + u.count) (reader (r.at + u.count) r.groups r.sum r.count r.entry r.reason)
      (laid_left list given (state_of r) (drop from piece))
      (laid_left list₁ given₁ (state_of (reader (r.at + u.count) r.groups r.sum r.count r.entry r.reason)) (drop (from + u.count) piece))
  turned-user list list₁ given given₁ r more readable g c z room few inside put = record {
    same = rw more goes_on;
    readable = record { few = readable.few; within = omega (arith, readable.within); small = readable.small; fields = readable.fields };
    further = omega (arith, h.many);
    inside = omega (arith, inside, few);
    taken = omega arith;
  }
    where
      -- between entries there is nothing of a number
      clean : (at : ℕ) → state at r.groups r.sum (take r.count (words_of r.entry)) r.reason ≡ state at 0 0 [] 0
      clean at = let s : r.sum ≡ 0 = none r.groups g readable.small in rw (g, c, z, s)
        where
          none : (k : ℕ) → k ≡ 0 → r.sum < group_size ^ k → r.sum ≡ 0
          none k e l = omega (arith, subst (λ (j : ℕ). r.sum < group_size ^ j) e l)

      kept : length list / entry_words - given - 1 ≡ length list₁ / entry_words - (given + 1)
      kept = rw (put, length-splice list (entry_words * given) user) (omega arith)

      put_same : laid_from (splice list (entry_words * given) user) (given + 1) (read_into (length list / entry_words - given - 1) (state (r.at + u.count) 0 0 [] 0) (drop (from + u.count) piece))
          ≡ laid_left list₁ (given + 1) (state (r.at + u.count) 0 0 [] 0) (drop (from + u.count) piece)
      put_same = rw (sym put, kept)

      goes_on : laid_left list given (state_of r) (drop from piece)
          ≡ laid_left list₁ (given + 1) (state_of (reader (r.at + u.count) r.groups r.sum r.count r.entry r.reason)) (drop (from + u.count) piece)
      goes_on =
          ap (λ (st : State). laid_left list given st (drop from piece)) (clean r.at)
          ∙ ap (laid_from list given) (user-read (length list / entry_words - given) r.at (λ e. absurd (omega (arith, room, e))))
          ∙ laid_more list given user (read_into (length list / entry_words - given - 1) (state (r.at + u.count) 0 0 [] 0) (drop (from + u.count) piece))
          ∙ put_same
          ∙ ap (λ (st : State). laid_left list₁ (given + 1) st (drop (from + u.count) piece)) (sym (clean (r.at + u.count)))

-- when a plain user access is looked for: between entries, with room for one in the piece
pub quick-test : (r : Reader) (t : Bool) (n : ℕ) → t ≡ is_between (state_of r) → (t && leb 18 n) ≡ true → (r.groups ≡ 0) × (r.count ≡ 0) × (18 ≤ n)
quick-test r t n e h = go (eqb r.groups 0) (eqb r.count 0) (leb 18 n) refl refl refl (sym (ap (λ (x : Bool). x && leb 18 n) (e ∙ sym (between_is r))) ∙ h)
  where
    go : (x y z : Bool) → eqb r.groups 0 ≡ x → eqb r.count 0 ≡ y → leb 18 n ≡ z → (x && y && z) ≡ true → (r.groups ≡ 0) × (r.count ≡ 0) × (18 ≤ n)
    go true true true p q s f = (eqb-true r.groups 0 p, eqb-true r.count 0 q, leb-true 18 n s)
    go true true false p q s f = clash false f refl
    go true false z p q s f = clash false f refl
    go false y z p q s f = clash false f refl
