-- The mark of an access by the cache, return by return.
use mathlib.Core.Path.{◌≡◌}
use mathlib.Core.Bool.{Bool, true, false}
use Rattle.board.specs.Answers.{mark_hit, mark_refilled, mark_wrote_back, mark_of}

module _ (held back : Bool) where
  pub mark-held : held ≡ true → mark_hit ≡ mark_of held back
  unfolding mark_of
  mark-held h = rw h

  pub mark-back : held ≡ false → back ≡ true → mark_wrote_back ≡ mark_of held back
  unfolding mark_of
  mark-back h k = rw (h, k)

  pub mark-clean : held ≡ false → back ≡ false → mark_refilled ≡ mark_of held back
  unfolding mark_of
  mark-clean h k = rw (h, k)
