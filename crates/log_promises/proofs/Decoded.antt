-- The call that an entry is of, and the board that a header is of. A call's entry gives the call back, and a whole entry's call the entry.
use Prim.Native.Nat.{ℕ, zero, suc, ◌≤◌, ◌<◌}
use mathlib.Core.Path.{◌≡◌, refl, ap}
use mathlib.Core.Bool.{Bool, true, false, not}
use mathlib.Core.List.{List, [], ◌∷◌}
use native.Mathlib.Omega.{arith}
use native.Mathlib.Nat.{suc_inj}
use lib.Dec.{eqb, ltb}
use lib.ListN.{length, get_or, take}
use lib.Seq.{length-take-le}
use borrow.Author.Tests.{ltb-true}
use Rattle.address.specs.Addresses.{effective, global}
use Rattle.board.specs.Lists.{bit, is_yes}
use Rattle.board.specs.declared.Shape.{Shape}
use Rattle.board.proofs.Bools.{clash, and_right}
use Rattle.stores.specs.declared.Access.{Access}
use Rattle.log_entries.specs.Entries.{flag, none, fields_by_kind, fields_of, is_kind, most, most_of}
use Rattle.promises.specs.Runs.{Call, user, supervisor, access, attach, detach, map, unmap, protect, move, flush_all, tag, load_and_map, drop_tag}
use Rattle.log_promises.specs.Calls.{Loggable, entry_of, header_of, fields_fit, entry_fits}
use Rattle.log_promises.proofs.Fits.{fit-each}

-- ---- calls and boards of entries

-- a load or store by its flag
abbrev an_access : ℕ → ℕ → ℕ → Access
an_access store width value = record { store = is_yes store; width = width; value = value }

-- the call of each kind with these fields, by rising kind; there is none of kind 0
abbrev calls_with : List ℕ → List Call
calls_with l =
    supervisor flush_all
    ∷ user (get_or l 0 0) (an_access (get_or l 1 0) (get_or l 2 0) (get_or l 4 0)) (effective (get_or l 3 0))
    ∷ supervisor (access (an_access (get_or l 0 0) (get_or l 1 0) (get_or l 3 0)) (global (get_or l 2 0)))
    ∷ supervisor (attach (get_or l 0 0) (get_or l 1 0) (get_or l 2 0) (is_yes (get_or l 3 0)))
    ∷ supervisor (detach (get_or l 0 0) (get_or l 1 0))
    ∷ supervisor (map (get_or l 0 0) (get_or l 1 0) (is_yes (get_or l 2 0)))
    ∷ supervisor (unmap (get_or l 0 0))
    ∷ supervisor (protect (get_or l 0 0) (is_yes (get_or l 1 0)))
    ∷ supervisor flush_all
    ∷ supervisor (tag (get_or l 0 0))
    ∷ supervisor (load_and_map (get_or l 0 0))
    ∷ supervisor drop_tag
    ∷ supervisor (move (get_or l 0 0) (get_or l 1 0))
    ∷ []

-- the call of an entry
abbrev pub call_of : List ℕ → Call
call_of [] = supervisor flush_all
call_of (kind ∷ l) = get_or (calls_with l) kind (supervisor flush_all)

-- the board of a header, with so many lines in a set, as a log carries no edition
abbrev pub shape_of : ℕ → List ℕ → Shape
shape_of ways l = record { frames = get_or l 1 0; uncached = get_or l 2 0; processes = get_or l 3 0; lines = get_or l 4 0; ways = ways }

-- ---- a call's entry

-- a whole entry that a log can hold
pub data IsEntry : List ℕ → Type 0 where
  entry : {kind : ℕ} {fields : List ℕ} → is_kind kind ≡ true → length fields ≡ length (fields_of kind) → fields_fit kind [] fields ≡ true → IsEntry (kind ∷ fields)

-- a call's entry is one
pub call-entry : (k : Call) → Loggable k → IsEntry (entry_of k)
unfolding entry_of entry_fits is_kind fields_of
call-entry (user process a e) f = entry refl refl f
call-entry (supervisor (access a g)) f = entry refl refl f
call-entry (supervisor (attach process slot segment write)) f = entry refl refl f
call-entry (supervisor (detach process slot)) f = entry refl refl f
call-entry (supervisor (map page frame write)) f = entry refl refl f
call-entry (supervisor (unmap page)) f = entry refl refl f
call-entry (supervisor (protect page write)) f = entry refl refl f
call-entry (supervisor flush_all) f = entry refl refl f
call-entry (supervisor (tag name)) f = entry refl refl f
call-entry (supervisor (load_and_map line)) f = entry refl refl f
call-entry (supervisor drop_tag) f = entry refl refl f
call-entry (supervisor (move page new)) f = entry refl refl f

-- a bit says what it is of
yes-bit : (b : Bool) → is_yes (bit b) ≡ b
yes-bit true = refl
yes-bit false = refl

-- it gives the call back
pub call_back : (k : Call) → call_of (entry_of k) ≡ k
unfolding entry_of
call_back (user process a e) = ap (λ (b : Bool). user process (record { store = b; width = a.width; value = a.value }) e) (yes-bit a.store)
call_back (supervisor (access a g)) = ap (λ (b : Bool). supervisor (access (record { store = b; width = a.width; value = a.value }) g)) (yes-bit a.store)
call_back (supervisor (attach process slot segment write)) = ap (λ (b : Bool). supervisor (attach process slot segment b)) (yes-bit write)
call_back (supervisor (detach process slot)) = refl
call_back (supervisor (map page frame write)) = ap (λ (b : Bool). supervisor (map page frame b)) (yes-bit write)
call_back (supervisor (unmap page)) = refl
call_back (supervisor (protect page write)) = ap (λ (b : Bool). supervisor (protect page b)) (yes-bit write)
call_back (supervisor flush_all) = refl
call_back (supervisor (tag name)) = refl
call_back (supervisor (load_and_map line)) = refl
call_back (supervisor drop_tag) = refl
call_back (supervisor (move page new)) = refl

-- and a header its board
pub shape-back : (s : Shape) → shape_of s.ways (header_of s) ≡ s
unfolding header_of
shape-back s = refl

-- ---- an entry's call

-- what holds of all lists of n numbers, said of the numbers
abbrev Each : ℕ → (List ℕ → Type 0) → Type 0
Each zero P = P []
Each (suc n) P = (x : ℕ) → Each n (λ l. P (x ∷ l))

-- so it holds of a list that long
each-list : (n : ℕ) (P : List ℕ → Type 0) → Each n P → (l : List ℕ) → length l ≡ n → P l
each-list zero P f [] e = f
each-list zero P f (x ∷ l) e = absurd (omega (arith, e))
each-list (suc n) P f [] e = absurd (omega (arith, e))
each-list (suc n) P f (x ∷ l) e = each-list n (λ r. P (x ∷ r)) (f x) l (suc_inj e)

-- R, from what holds of each number below n
abbrev Cases : ℕ → (ℕ → Type 0) → Type 0 → Type 0
Cases zero P R = R
Cases (suc n) P R = P 0 → Cases n (λ k. P (suc k)) R

-- R whatever those say
whatever : (n : ℕ) (P : ℕ → Type 0) {R : Type 0} → R → Cases n P R
whatever zero P r = r
whatever (suc n) P r = λ p. whatever n (λ k. P (suc k)) r

-- a number below n is one of them
by_cases : (n : ℕ) (P : ℕ → Type 0) (k : ℕ) → k < n → Cases n P (P k)
by_cases zero P k h = absurd (omega (arith, h))
by_cases (suc n) P zero h = λ p. whatever n (λ k. P (suc k)) p
by_cases (suc n) P (suc k) h = λ p. by_cases n (λ j. P (suc j)) k (omega (arith, h))

-- a number up to 1 is a bit
bit-yes : (n : ℕ) → n ≤ 1 → bit (is_yes n) ≡ n
bit-yes zero h = refl
bit-yes (suc zero) h = refl
bit-yes (suc (suc n)) h = absurd (omega (arith, h))

-- so is each flag of an entry that fits
flag-back : (kind i : ℕ) (l : List ℕ) → fields_fit kind [] l ≡ true → get_or (fields_of kind) i none ≡ flag → i < length l → bit (is_yes (get_or l i 0)) ≡ get_or l i 0
unfolding most most_of
flag-back kind i l f g h =
    let q : length (take i l) ≡ i = length-take-le i l (omega arith) in
    bit-yes (get_or l i 0) (rw (q, g, most_of) at (fit-each kind [] l i f h))

-- these fields, if they fit, are those of their call; and all of a kind
abbrev IsOf : ℕ → List ℕ → Type 0
IsOf kind l = fields_fit kind [] l ≡ true → entry_of (call_of (kind ∷ l)) ≡ kind ∷ l

abbrev OfKind : ℕ → Type 0
OfKind kind = Each (length (fields_of kind)) (IsOf kind)

-- kind by kind, from 1
of-kinds : (k : ℕ) → suc k < length fields_by_kind → OfKind (suc k)
unfolding entry_of fields_of
of-kinds k h =
    by_cases 12 (λ j. OfKind (suc j)) k (omega (arith, h))
    (λ process store width address value f. rw (flag-back 1 1 _ f refl (omega arith)))
    (λ store width address value f. rw (flag-back 2 0 _ f refl (omega arith)))
    (λ process slot segment write f. rw (flag-back 3 3 _ f refl (omega arith)))
    (λ process slot f. refl)
    (λ page frame write f. rw (flag-back 5 2 _ f refl (omega arith)))
    (λ page f. refl)
    (λ page write f. rw (flag-back 7 1 _ f refl (omega arith)))
    (λ f. refl)
    (λ name f. refl)
    (λ line f. refl)
    (λ f. refl)
    (λ page new f. refl)

-- a whole entry is its call's
pub entry-back : {e : List ℕ} → IsEntry e → entry_of (call_of e) ≡ e
unfolding is_kind
entry-back (entry {kind = zero} {fields = l} t n f) = clash false t refl
entry-back (entry {kind = suc k} {fields = l} t n f) =
    let below : suc k < length fields_by_kind = ltb-true (suc k) (length fields_by_kind) (and_right (not (eqb (suc k) 0)) (ltb (suc k) (length fields_by_kind)) t) in
    each-list (length (fields_of (suc k))) (IsOf (suc k)) (of-kinds k below) l n f

-- and a header is that of a board of 01's edition
pub header-back : (l : List ℕ) → length l ≡ length (fields_of 0) → header_of (shape_of 1 (0 ∷ l)) ≡ 0 ∷ l
unfolding header_of fields_of
header-back l n = each-list 4 (λ r. header_of (shape_of 1 (0 ∷ r)) ≡ 0 ∷ r) (λ frames uncached processes lines. refl) l n
