-- 01, "Refusal numbers", and what calls and accesses give: nothing, or a value and a mark, or why they are refused.
use Rattle.std.specs.Prelude.{ℕ, Bool, cond, eqb, Result, Ok, Err}
use Rattle.board.specs.declared.Answer.{Answer}
use Rattle.board.specs.declared.Accessed.{Accessed}
use Rattle.board.specs.declared.Mark.{Mark}
use Rattle.board.specs.declared.Mark.TheVariants.{Hit, Refilled, WroteBack, Uncached}
use Rattle.board.specs.declared.Refusal.{Refusal}
use Rattle.board.specs.declared.Refusal.TheVariants.{Unfit, OutOfRange, TagState, Misaligned, KernelAddress, EmptySlot, ReadOnlySegment, Unmapped, ReadOnlyPage, FrameInUse, AlreadyMapped, Outside, WrongLine}
use Rattle.board.specs.Answers.{answer, mark_no_access, mark_hit, mark_refilled, mark_wrote_back, mark_uncached}

-- the number of a refusal
abbrev pub number_of : Refusal → ℕ
number_of Unfit = 1
number_of OutOfRange = 2
number_of TagState = 3
number_of Misaligned = 4
number_of KernelAddress = 5
number_of EmptySlot = 6
number_of ReadOnlySegment = 7
number_of Unmapped = 8
number_of ReadOnlyPage = 9
number_of FrameInUse = 10
number_of AlreadyMapped = 11
number_of Outside = 12
number_of WrongLine = 13

-- and the refusal of a number from 1 to 13
abbrev pub refusal_of : ℕ → Refusal
refusal_of n =
    cond (eqb n 1) Unfit (cond (eqb n 2) OutOfRange (cond (eqb n 3) TagState (cond (eqb n 4) Misaligned (cond (eqb n 5) KernelAddress (cond (eqb n 6) EmptySlot
    (cond (eqb n 7) ReadOnlySegment (cond (eqb n 8) Unmapped (cond (eqb n 9) ReadOnlyPage (cond (eqb n 10) FrameInUse (cond (eqb n 11) AlreadyMapped
    (cond (eqb n 12) Outside WrongLine)))))))))))

-- number 1, where a shape and the lengths don't fit
abbrev pub fit : Bool → Result Unit Refusal
fit fits = cond fits (Ok tt) (Err Unfit)

-- the number of a mark
abbrev pub number_of_mark : Mark → ℕ
number_of_mark Hit = mark_hit
number_of_mark Refilled = mark_refilled
number_of_mark WroteBack = mark_wrote_back
number_of_mark Uncached = mark_uncached

-- an access that is done
abbrev pub accessed : ℕ → Mark → Accessed
accessed value mark = record { value = value; mark = mark }

-- the answer of a call that is no access: number 0, or a refusal's; value 0, and no mark
abbrev pub call_answer : Result Unit Refusal → Answer
call_answer (Ok done) = answer 0 0 mark_no_access
call_answer (Err why) = answer (number_of why) 0 mark_no_access

-- the answer of an access
abbrev pub access_answer : Result Accessed Refusal → Answer
access_answer (Ok a) = answer 0 a.value (number_of_mark a.mark)
access_answer (Err why) = answer (number_of why) 0 mark_no_access
