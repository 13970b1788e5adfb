-- `word_after`: a flag's word, by cases.
use Rattle.crossing.proofs.Packs.{word-new, word-given, word_none}
use borrow.Author.Rules.{rules}
use Rattle.crossing.proofs.word_after.Goals as goal

pub returns-then-before-eq0 : goal.returns-then-before-eq0
returns-then-before-eq0 c = search (rules, word-new)

pub returns-then-set : goal.returns-then-set
returns-then-set c = search (rules, word-given)

pub returns : goal.returns
returns c = search (rules, word_none)
