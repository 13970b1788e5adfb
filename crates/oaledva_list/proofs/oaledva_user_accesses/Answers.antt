-- `user_accesses`, packed; no matrices were lent, and none come back.
use Rattle.crossing.proofs.Packs.{crosses-list-bare}
use Rattle.oaledva_list.proofs.oaledva_user_accesses.Goals as goal

pub returns : goal.returns
returns c = rw (← c.one_line-s.ensures, ← c.tag_of-tag.ensures)
    (crosses-list-bare _ _ _ _ _ _ _ _ _ c.user_accesses-r.auto.uses c.packed_call.ensures _ _ c.user_accesses-r.ensures)
