-- CR 1: "The log is a run of numbers in variable-length groups of seven bits: low group first, top bit set on all groups but the last."
use Rattle.std.specs.Prelude.{ℕ, zero, suc, ◌+◌, ◌*◌, ◌/◌, ◌%◌, ◌^◌, ◌≤◌, not, ◌&&◌, cond, List, [], ◌∷◌, ◌++◌, eqb, ltb, leb}
use Rattle.log_numbers.specs.Reasons.{reason_padded, reason_tenth}

-- a group is a number below this; a byte from it up has its top bit set
abbrev pub group_size : ℕ
group_size = 128

-- how many groups may stand before the last: a number has ten bytes at most
abbrev pub groups_before : ℕ
groups_before = 9

-- numbers are below 2^64
abbrev pub number_end : ℕ
number_end = 2 ^ 64

-- ---- written

-- the bytes of n: at most `more` groups with the top bit set, low group first, then the last
unfoldable pub groups_from : ℕ → ℕ → List ℕ
groups_from zero n = n ∷ []
groups_from (suc more) n = cond (ltb n group_size) (n ∷ []) ((group_size + n % group_size) ∷ groups_from more (n / group_size))

abbrev pub groups_of : ℕ → List ℕ
groups_of n = groups_from groups_before n

-- the bytes of a run of numbers
unfoldable pub bytes_of : List ℕ → List ℕ
bytes_of [] = []
bytes_of (n ∷ ns) = groups_of n ++ bytes_of ns

-- ---- read

-- what a byte makes of a number: one more group (what they are worth then), or the last one (the number), or it is refused (why)
pub data Taken : Type 0 where
  More : ℕ → Taken
  Whole : ℕ → Taken
  Wrong : ℕ → Taken

-- a byte after `groups` groups of a number, which are worth `sum`. It is one more group (More: what they are worth then), or the last
-- one (Whole: the number), or it is refused (Wrong: why): a tenth byte above 1, a last group of 0 after others
unfoldable pub take_byte : ℕ → ℕ → ℕ → Taken
take_byte groups sum b =
    cond (eqb groups groups_before && ltb 1 b) (Wrong reason_tenth)
    (cond (leb group_size b) (More (sum + b % group_size * group_size ^ groups))
    (cond (not (eqb groups 0) && eqb b 0) (Wrong reason_padded)
    (Whole (sum + b * group_size ^ groups))))

-- ---- bytes of a number

-- groups with the top bit set
pub data Groups : List ℕ → Type 0 where
  none : Groups []
  also : {g : ℕ} {gs : List ℕ} → group_size ≤ g → Groups gs → Groups (g ∷ gs)

-- what groups and the byte after them are worth
abbrev pub value_of : List ℕ → ℕ → ℕ
value_of [] b = b
value_of (g ∷ gs) b = g % group_size + group_size * value_of gs b
