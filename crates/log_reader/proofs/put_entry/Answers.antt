-- `put_entry`: no kind has more than five fields.
use native.Mathlib.Omega.{arith}
use Rattle.log_entries.proofs.Tables.{fields-few}
use Rattle.log_reader.proofs.put_entry.Goals as goal

pub overflow_add-fields_of : goal.overflow_add-fields_of
overflow_add-fields_of c = omega (arith, fields-few c.args.e.kind, c.fields_of.ensures)

pub first_words-words-requires : goal.first_words-words-requires
first_words-words-requires c = omega (arith, fields-few c.args.e.kind, c.fields_of.ensures)
