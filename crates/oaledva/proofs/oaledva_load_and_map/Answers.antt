-- `load_and_map`, packed, with the tag as two numbers; no matrices were lent, and none come back.
use Rattle.crossing.proofs.Packs.{crosses-tagged-bare, word-says, word_kept}
use Rattle.oaledva.proofs.oaledva_load_and_map.Goals as goal

pub returns : goal.returns
returns c = (
  rw (← c.one_line-s.ensures, ← c.tag_of-tag.ensures)
      (crosses-tagged-bare _ _ _ _ _ _ _ _ _ _ _ _ c.load_and_map-r.auto.uses c.load_and_map-r.ensures c.packed_call.ensures
      (word-says _ _ _ c.put_tag.ensures.set) c.put_tag.ensures.name),
  word_kept _ _ _ c.put_tag.ensures.set,
)
