-- `mark_changed` reads a record, changes it and puts it back.
use Rattle.lines.proofs.Records.{put-changed}
use borrow.Author.Rules.{rules}
use Rattle.lines.proofs.mark_changed.Goals as goal

pub returns : goal.returns
returns c = search (rules, put-changed)
