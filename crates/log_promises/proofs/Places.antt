-- CR 1, places: a refusal's reason and place are those of the bytes, and bytes that are wrong are refused there.
use Prim.Native.Nat.{ℕ}
use mathlib.Core.Path.{◌∙◌, sym, ap, subst}
use mathlib.Core.Logic.{◌≢◌}
use mathlib.Core.List.{List}
use Rattle.log_numbers.specs.Reasons.{reason_none}
use Rattle.log_reader.specs.Reading.{Log, read_log}
use Rattle.log_promises.specs.Places.{Refused, PlacesAreRight}
use Rattle.log_promises.proofs.Come.{whole-read}
use Rattle.log_promises.proofs.Refusals.{refused-read}
use Rattle.log_promises.proofs.Judged.{Judged, right, wrong, judged}

-- the bytes are wrong as a log says
AtPlace : List ℕ → Log → Type 0
AtPlace bytes x = Refused bytes x.entries x.reason x.place

-- a log that is refused says so of its bytes
refused-at : (bytes : List ℕ) → (read_log bytes).reason ≢ reason_none → Judged bytes → Refused bytes (read_log bytes).entries (read_log bytes).reason (read_log bytes).place
unfolding AtPlace
refused-at bytes h (right c q) = absurd (h (ap (λ (l : List ℕ). (read_log l).reason) q ∙ ap (λ (x : Log). x.reason) (whole-read c)))
refused-at bytes h (wrong r) = subst (AtPlace bytes) (sym (refused-read r)) r

-- the promise
pub places-are-right : PlacesAreRight
places-are-right = record {
  refused_there = λ bytes b h. refused-at bytes h (judged bytes b);
  refused_so = λ bytes es reason place b r.
      (ap (λ (x : Log). x.entries) (refused-read r), (ap (λ (x : Log). x.reason) (refused-read r), ap (λ (x : Log). x.place) (refused-read r)));
}
