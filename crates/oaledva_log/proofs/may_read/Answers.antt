-- `may_read`, test after test.
use Rattle.oaledva_log.proofs.States.{may, may-not}
use Rattle.oaledva_log.proofs.may_read.Goals as goal

pub returns-then-r-gt-GROUPS_BEFORE : goal.returns-then-r-gt-GROUPS_BEFORE
returns-then-r-gt-GROUPS_BEFORE c = let r = c.args.r in may-not r.at r.groups r.sum r.count r.entry.kind c.if-r-gt-GROUPS_BEFORE.true

pub returns : goal.returns
returns c = let r = c.args.r in may r.at r.groups r.sum r.count r.entry.kind _ _ c.if-r-gt-GROUPS_BEFORE.false c.weight-end.ensures c.fields_of-fields.ensures
