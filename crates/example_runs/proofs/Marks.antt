-- CR 8's run, call by call, and what `MarksTell` says of two of its calls.
use Prim.Native.Nat.{ℕ}
use mathlib.Core.Path.{◌≡◌, ◌∙◌, refl}
use mathlib.Core.Bool.{false}
use mathlib.Core.List.{List, [], ◌∷◌}
use lib.Count.{ones, ones_in}
use lib.ListN.{length}
use Rattle.address.specs.Addresses.{effective, name_of, region_of}
use Rattle.board.specs.Answers.{answer}
use Rattle.board.specs.Shapes.{edition_holds, matrices_of, fits_shape}
use Rattle.board.specs.declared.Answer.{Answer}
use Rattle.line_bytes.specs.Bytes.{stored}
use Rattle.line_bytes.proofs.Bytes.{length-stored}
use Rattle.stores.specs.declared.Access.{Access}
use Rattle.machine.specs.Boards.{Board, outcome}
use Rattle.machine.specs.Refusals.{by_table, too_large, is_ordinary, is_cached, aligned_to, outside}
use Rattle.machine.specs.Accesses.{memory_access, user_table, user_access, supervisor_table, supervisor_done, supervisor_access}
use Rattle.promises.specs.Runs.{supervise, step}
use Rattle.promises.specs.Values.{as_user, asks, storing, loading}
use Rattle.promises.specs.Marks.{goes_to, PastCache, Tells}
use Rattle.promises.proofs.Marks.{marks-tell}
use Rattle.example_runs.specs.Examples.{shape, start, save}
use Rattle.example_runs.specs.Values.{save_byte}
use Rattle.example_runs.specs.Marks.{run, MarksExample}
use Rattle.example_runs.proofs.Chains.{Does, Ran, ended, ◌then◌, ran-answers, ran-after}
use Rattle.example_runs.proofs.Examples.{memory2, memory2-fits, memory3, memory3-fits, memory3-other, memory4, memory4-fits, memory4-first, memory4-other, last, six, does-hit-shared, does-push, does-load-fifty, does-load-seven, ran-opening, ran-pushing, ran_a}

module _ (m : List ℕ) (fits : length m ≡ 16384) where
  -- past the cache, and refused
  does-past : Does shape (last m) (save_byte 0 255) (answer 0 0 4) (last (stored m 0 1 255))
  unfolding ones ones_in edition_holds matrices_of fits_shape region_of by_table too_large aligned_to is_ordinary is_cached outside memory_access supervisor_table supervisor_done supervisor_access supervise step
  does-past = record { does = rw fits }

  does-refuse : Does shape (last m) (save 1 1 3 8) (answer 7 0 0) (last m)
  unfolding ones ones_in edition_holds matrices_of fits_shape by_table too_large aligned_to user_table user_access step
  does-refuse = record { does = rw fits }

ran-marks : Ran shape start run (six (answer 0 50 1 ∷ answer 0 0 3 ∷ answer 0 50 3 ∷ answer 0 7 2 ∷ answer 0 0 4 ∷ answer 7 0 0 ∷ [])) (last (stored memory4 0 1 255))
ran-marks =
    ran-pushing (does-load-fifty memory3 memory3-fits memory4-first then does-load-seven memory4 memory4-fits memory4-other then does-past memory4 memory4-fits
    then does-refuse (stored memory4 0 1 255) (length-stored memory4 0 1 255 ∙ memory4-fits) then ended)

-- what the mark of a user's access tells
told : {b c : Board} {r : Answer} (process at : ℕ) (a : Access) → Does shape b (asks (as_user process (effective at)) a) r c
    → Tells shape b.store (name_of (goes_to b (as_user process (effective at)))) (PastCache (as_user process (effective at))) (outcome r c)
told {b} process at a d = let e = d.does in rw e at (marks-tell.accesses shape b (as_user process (effective at)) a)

pub marks-example : MarksExample
unfolding asks goes_to
marks-example =
    let before = ran-after (ran-opening false (does-hit-shared memory2 memory2-fits then ended)) in
    let pushed = ran-after (ran-pushing ended) in
    let reloaded = ran-after (ran-pushing (does-load-fifty memory3 memory3-fits memory4-first then ended)) in
    let end = ran-after ran_a in
    let push = told 1 0x400000 (storing 4 7) (does-push memory2 memory2-fits memory3-other) in
    let seven = told 1 0x400003 (loading 1 0) (does-load-seven memory4 memory4-fits memory4-other) in
    record {
      answers_are = ran-answers ran-marks;
      wrote_back = rw (before, pushed) (push.wrote_back_3.0 refl);
      refilled = rw (reloaded, end) (seven.refilled_2.0 refl).0;
      none_back = rw (reloaded, end) (seven.refilled_2.0 refl).1;
    }
