-- `number_at`, by how many bytes the number has.
use Rattle.log_quick.proofs.Quick.{number-one, number-two, number-three, number-four, number-five}
use Rattle.log_quick.proofs.number_at.Goals as goal

pub returns-then-a-lt-GROUP : goal.returns-then-a-lt-GROUP
returns-then-a-lt-GROUP c = number-one c.args.piece.now c.args.from _ c.requires c.from-a.ensures c.if-a-lt-GROUP.true

pub returns-then-b-lt-GROUP : goal.returns-then-b-lt-GROUP
returns-then-b-lt-GROUP c = number-two c.args.piece.now c.args.from c.ended.result c.requires _ _ c.from-a.ensures c.from-b.ensures c.if-a-lt-GROUP.false
    c.if-b-lt-GROUP.true c.ended.ensures

pub returns-then-c-lt-GROUP : goal.returns-then-c-lt-GROUP
returns-then-c-lt-GROUP c = number-three c.args.piece.now c.args.from c.ended-then-c-lt-GROUP.result c.requires _ _ c.from-a.ensures c.from-b.ensures c.if-a-lt-GROUP.false _ c.from-c.ensures c.if-b-lt-GROUP.false
    c.if-c-lt-GROUP.true c.ended-then-c-lt-GROUP.ensures

pub returns-then-d-lt-GROUP : goal.returns-then-d-lt-GROUP
returns-then-d-lt-GROUP c = number-four c.args.piece.now c.args.from c.ended-then-d-lt-GROUP.result c.requires _ _ c.from-a.ensures c.from-b.ensures c.if-a-lt-GROUP.false _ c.from-c.ensures c.if-b-lt-GROUP.false _ c.from-d.ensures c.if-c-lt-GROUP.false
    c.if-d-lt-GROUP.true c.ended-then-d-lt-GROUP.ensures

pub returns-then-e-lt-GROUP : goal.returns-then-e-lt-GROUP
returns-then-e-lt-GROUP c = number-five c.args.piece.now c.args.from c.ended-then-e-lt-GROUP.result c.requires _ _ c.from-a.ensures c.from-b.ensures c.if-a-lt-GROUP.false _ c.from-c.ensures c.if-b-lt-GROUP.false _ c.from-d.ensures c.if-c-lt-GROUP.false _ c.from-e.ensures c.if-d-lt-GROUP.false
    c.if-e-lt-GROUP.true c.ended-then-e-lt-GROUP.ensures
