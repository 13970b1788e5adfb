-- What code has of an entry: six words, of which the first so many are there; and enums for kinds and for what a field may be.
use Rattle.std.specs.Prelude.{ℕ, zero, suc, ◌≤◌, ◌≡◌, Result, Ok, Err, MatchResult, length, take}
use Rattle.log_numbers.specs.declared.Reason.{Reason}
use Rattle.log_numbers.specs.declared.Reason.TheVariants as reason
use Rattle.log_numbers.specs.Takes as takes
use Rattle.log_entries.specs.Entries as entries
use Rattle.log_entries.specs.Entries.{any_number, flag, word, value, none, fields_by_kind, fields_of, words_of}
use Rattle.log_entries.specs.declared.Kind.{Kind}
use Rattle.log_entries.specs.declared.Kind.TheVariants.{Header, UserAccess, SupervisorAccess, Attach, Detach, Map, Unmap, Protect, FlushAll, Tag, LoadAndMap, DropTag, Move}
use Rattle.log_entries.specs.declared.Field.{Field}
use Rattle.log_entries.specs.declared.Field.TheVariants.{Any, Flag, Word, ByFirst, BySecond}
use Rattle.log_entries.specs.declared.Entered.{Entered}
use Rattle.log_entries.specs.declared.Entered.TheVariants.{Growing, Whole}

-- a kind's number
abbrev pub number_of : Kind → ℕ
number_of Header = 0
number_of UserAccess = 1
number_of SupervisorAccess = 2
number_of Attach = 3
number_of Detach = 4
number_of Map = 5
number_of Unmap = 6
number_of Protect = 7
number_of FlushAll = 8
number_of Tag = 9
number_of LoadAndMap = 10
number_of DropTag = 11
number_of Move = 12

-- a number is this kind's, or no kind that is known
abbrev pub IsKindOf : ℕ → Result Kind Reason → Type 0
IsKindOf n r = MatchResult r (λ kind. number_of kind ≡ n) (λ e. (e ≡ reason.Kind) × (length fields_by_kind ≤ n))

-- what a field may be
abbrev pub rule_of : Field → entries.Field
rule_of Any = any_number
rule_of Flag = flag
rule_of Word = word
rule_of ByFirst = value 0
rule_of BySecond = value 1

-- a field's rule as a number
unfoldable pub code_of : entries.Field → ℕ
code_of none = 0
code_of any_number = 1
code_of flag = 2
code_of word = 3
code_of (value zero) = 4
code_of (value (suc zero)) = 5
code_of (value (suc (suc i))) = 6

-- what a number made of an entry that had `count` numbers
abbrev pub entered_of : ℕ → Result Entered Reason → entries.Entered
entered_of count (Ok (Growing e)) = entries.growing (take (suc count) (words_of e))
entered_of count (Ok (Whole e)) = entries.whole (take (suc count) (words_of e))
entered_of count (Err e) = entries.improper (takes.number_of e)

-- what is so then of how many numbers there are
abbrev pub EnteredFits : ℕ → Result Entered Reason → Type 0
EnteredFits count (Ok (Growing e)) = suc count ≤ length (fields_of e.kind)
EnteredFits count (Ok (Whole e)) = count ≡ length (fields_of e.kind)
EnteredFits count (Err e) = Unit
