-- `oaledva_log_place`: words that are no reader's; else the reader's place.
use Rattle.oaledva_log.proofs.States.{place-wild, place-told}
use Rattle.oaledva_log.proofs.oaledva_log_place.Goals as goal

pub returns-in-Ok : goal.returns-in-Ok
returns-in-Ok c = let h = c.in-Ok.ensures in place-told c.args.state.now c.in-Ok.r h.0 h.1 _ c.place_of.ensures

pub returns-in-Err : goal.returns-in-Err
returns-in-Err c = place-wild c.args.state.now c.in-Err.ensures.1
