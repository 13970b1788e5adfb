-- `must_wait` asks an ordinary address for the tag.
use Rattle.supervisor_access.proofs.Plans.{waits-ordinary, waits-not}
use Rattle.supervisor_access.proofs.must_wait.Goals as goal
use Rattle.supervisor_access.proofs.must_wait.Goals.{in-Ordinary, in_default}

pub returns : goal.returns
returns c = elim c.match-matches.branch [
  | in-Ordinary w ↦ waits-ordinary _ _ _ w.in-Ordinary.is w.matches-is
  | in_default w ↦ waits-not _ _ _ w.in_default.not-Ordinary w.matches-is
]
