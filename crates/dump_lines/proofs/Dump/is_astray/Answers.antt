-- `is_astray` asks held records only.
use borrow.Author.Rules.{rules}
use Rattle.lines.proofs.Holders.{holds-inside}
use Rattle.dump_lines.proofs.Lines.{astray-none, astray-held}
use Rattle.dump_lines.proofs.Dump.is_astray.Goals as goal

pub in_frame-requires : goal.in_frame-requires
in_frame-requires c = let d = c.args.self.now in (d.words_are, d.sized.lined.frames_max, search (rules, holds-inside))

pub returns-then-holds : goal.returns-then-holds
returns-then-holds c = search (rules, holds-inside, astray-held)

pub returns : goal.returns
returns c = search (rules, astray-none)
