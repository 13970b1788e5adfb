-- What the contracts of protect and flush all over lines say, as machine's `Clauses` says it of the board's own calls: the code's `ensures` cites
-- these definitions, and no second outcome meets them.
use Rattle.std.specs.Prelude.{ℕ, ◌≡◌, Bool}
use Rattle.board.specs.declared.Answer.{Answer}
use Rattle.board.specs.declared.Shape.{Shape}
use Rattle.machine.specs.Clauses.{Determines}
use Rattle.record_steps.specs.Lent.{LentBoard, lent_outcome, protect_lent, flush_lent}

abbrev pub ProtectLent : Shape → LentBoard → ℕ → Bool → Answer → LentBoard → Type 0
ProtectLent s b page write r c = lent_outcome r c ≡ protect_lent s b page write

abbrev pub FlushLent : Shape → LentBoard → Answer → LentBoard → Type 0
FlushLent s b r c = lent_outcome r c ≡ flush_lent s b

-- two outcomes that meet one agree in number, value, mark and every slot, word, line and byte
pub record NoSecondOutcome : Type 0 where
  pub protect : (s : Shape) (b : LentBoard) (page : ℕ) (write : Bool) → Determines (ProtectLent s b page write)
  pub flush_all : (s : Shape) (b : LentBoard) → Determines (FlushLent s b)
