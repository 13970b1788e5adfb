-- `reader_in`: eleven words; where a reader may stand, and why it may have refused.
use Rattle.std.proofs.Common.{refl}
use Rattle.board.proofs.Bools.{and_left}
use Rattle.oaledva_log.proofs.States.{not-eleven, words-may-not, words-may, may-readable}
use Rattle.oaledva_log.proofs.reader_in.Goals as goal

pub returns-then-words-ne-READER_WORDS : goal.returns-then-words-ne-READER_WORDS
returns-then-words-ne-READER_WORDS c = (refl, not-eleven c.args.words.now c.if-words-ne-READER_WORDS.true)

pub returns-then-may_read-is_reason : goal.returns-then-may_read-is_reason
returns-then-may_read-is_reason c = let w = c.args.words.now in let h = rw (c.may_read.ensures, c.is_reason.ensures) at c.if-may_read-is_reason.true in (
  words-may w c.if-words-ne-READER_WORDS.false h,
  refl,
  may-readable _ (and_left _ _ h),
)

pub returns-else-may_read-is_reason : goal.returns-else-may_read-is_reason
returns-else-may_read-is_reason c = let h = rw (c.may_read.ensures, c.is_reason.ensures) at c.if-may_read-is_reason.false in
    (refl, words-may-not c.args.words.now c.if-words-ne-READER_WORDS.false h)
