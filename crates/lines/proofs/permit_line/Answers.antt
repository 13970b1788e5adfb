-- `permit_line` reads a record, changes it and puts it back.
use Rattle.lines.proofs.Records.{put-permitted}
use borrow.Author.Rules.{rules}
use Rattle.lines.proofs.permit_line.Goals as goal

pub returns : goal.returns
returns c = search (rules, put-permitted)
