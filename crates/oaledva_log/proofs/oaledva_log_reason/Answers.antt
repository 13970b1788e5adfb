-- `oaledva_log_reason`: words that are no reader's; else the reader's reason.
use Rattle.std.proofs.Common.{◌∙◌, ap}
use Rattle.board.specs.Lists.{is_yes}
use Rattle.log_numbers.specs.Takes.{number_of}
use Rattle.oaledva_log.proofs.States.{reason-wild, reason-told}
use Rattle.oaledva_log.proofs.oaledva_log_reason.Goals as goal

pub returns-in-Ok : goal.returns-in-Ok
returns-in-Ok c = let h = c.in-Ok.ensures in
    reason-told c.args.state.now c.in-Ok.r h.0 h.1 (is_yes c.args.ended) _ c.reason_of.ensures

pub returns-in-Err : goal.returns-in-Err
returns-in-Err c = let h = c.in-Err.ensures in c.number.ensures ∙ ap number_of h.0 ∙ reason-wild c.args.state.now (is_yes c.args.ended) h.1
