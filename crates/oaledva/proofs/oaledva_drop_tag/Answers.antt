-- `drop_tag`, packed, with the tag as two numbers.
use Rattle.crossing.proofs.Packs.{crosses-tagged, word-says, word_kept}
use borrow.Author.Rules.{rules}
use Rattle.oaledva.proofs.oaledva_drop_tag.Goals as goal

pub returns : goal.returns
returns c = (search (rules, crosses-tagged, word-says), search (rules, word_kept))
