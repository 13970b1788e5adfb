-- `user_access`, packed; no matrices were lent, and none come back.
use Rattle.crossing.proofs.Packs.{crosses-bare}
use Rattle.oaledva_user.proofs.oaledva_user_access.Goals as goal

pub returns : goal.returns
returns c = rw (← c.one_line-s.ensures, ← c.tag_of-tag.ensures, ← c.access-a.ensures)
    (crosses-bare _ _ _ _ _ _ _ _ _ c.user_access-r.auto.uses c.packed_access.ensures _ c.user_access-r.ensures)
