-- The length of the array by the law, since a check can't count so far.
use Rattle.std.proofs.Common.{ℕ, sym}
use Rattle.std.proofs.lemmas.List.{length-replicate}
use Rattle.numbers.proofs.run_lines.Goals as goal

pub slice_bounds-line_counts-end-2 : goal.slice_bounds-line_counts-end-2
slice_bounds-line_counts-end-2 g c = sym (length-replicate {A = ℕ} _ 0)
