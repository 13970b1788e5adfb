-- `check_alone` is rule 4, then 5.
use Rattle.dumps.proofs.Checks.{or_at, or_later}
use borrow.Author.Rules.{rules}
use Rattle.dumps.proofs.check_alone.Goals as goal

pub returns-in-Some : goal.returns-in-Some
returns-in-Some c = search (rules, or_at)

pub returns-in-Some-lowest_stale : goal.returns-in-Some-lowest_stale
returns-in-Some-lowest_stale c = search (rules, or_at, or_later)

pub returns-in-None-lowest_stale : goal.returns-in-None-lowest_stale
returns-in-None-lowest_stale c = search (rules, or_later)
