-- CR 1, places: where the bytes of a log are wrong, the reader stops for that reason and at that place.
use Prim.Native.Nat.{ℕ, ◌+◌, ◌≤◌}
use mathlib.Core.Path.{◌≡◌, ◌∙◌, refl, sym, ap, ap₂}
use mathlib.Core.Logic.{◌≢◌}
use mathlib.Core.Bool.{true, false, ◌&&◌}
use mathlib.Core.List.{List, [], ◌∷◌, ◌++◌, append-nil}
use native.Mathlib.Omega.{arith}
use lib.Dec.{eqb, eqb-suc-zero}
use lib.ListN.{length}
use borrow.Author.Tests.{ne_eqb}
use Rattle.log_numbers.specs.Numbers.{groups_before, groups_of, bytes_of, take_byte, Groups, value_of}
use Rattle.log_numbers.specs.Reasons.{reason_padded, reason_tenth}
use Rattle.log_numbers.specs.Numbers.{Wrong as Refuses}
use Rattle.log_reader.specs.Reading.{State, state, reading, read_all, byte_in, is_between, reason_of, place_of, as_log, read_log}
use Rattle.log_promises.specs.Places.{Wrong, padded, tenth, unfit, cut, Refused}
use Rattle.log_promises.proofs.NumbersRead.{take-padded, take-tenth, groups-read, number_read, refused-stays}
use Rattle.log_promises.proofs.Come.{standing, as_read, log-read}
use Rattle.log_promises.proofs.Entered.{number-says}

-- a refusal has a reason
pub wrong-reason : {e rest : List ℕ} {reason on : ℕ} → Wrong e rest reason on → reason ≢ 0
wrong-reason (padded gs more a n few q) = omega arith
wrong-reason (tenth gs more b a l h q) = omega arith
wrong-reason {e = e} (unfit n reason more h g q) = number-says e n g
wrong-reason (cut gs a few n q) = omega arith

-- the reader stops: why, and how far on the place is
pub record Stops (at : ℕ) (e rest : List ℕ) (reason on : ℕ) : Type 0 where
  pub after : State
  pub reads : read_all (standing at e) rest ≡ reading [] after
  pub why : reason_of after true ≡ reason
  pub there : place_of after ≡ at + on

-- as one that has refused a number, at its first byte
stops-refused : (at g s : ℕ) (e rest : List ℕ) (reason : ℕ) → reason ≢ 0 → read_all (standing at e) rest ≡ reading [] (state (at + g) g s e reason) → Stops at e rest reason 0
unfolding reason_of place_of
stops-refused at g s e rest reason h r = record {
  after = state (at + g) g s e reason;
  reads = r;
  why = rw (ne_eqb reason 0 h);
  there = rw (ne_eqb reason 0 h) (omega arith);
}

-- at a byte that is refused after groups
stops-byte : (at : ℕ) (e gs more : List ℕ) (b reason : ℕ) → Groups gs → length gs ≤ groups_before → reason ≢ 0
    → take_byte (length gs) (value_of gs 0) b ≡ Refuses reason → Stops at e (gs ++ b ∷ more) reason 0
unfolding read_all byte_in
stops-byte at e gs more b reason a few h t =
    stops-refused at (length gs) (value_of gs 0) e (gs ++ b ∷ more) reason h
    (groups-read at e gs (b ∷ more) a few ∙ rw t (refused-stays (at + length gs) (length gs) (value_of gs 0) e more reason h))

-- groups that are some
some : (gs : List ℕ) → gs ≢ [] → 1 ≤ length gs
some [] h = absurd (h refl)
some (g ∷ gs) h = omega arith

-- at the end of a log that isn't between two entries
not-between : (e gs : List ℕ) → (e ++ gs) ≢ [] → (eqb (length gs) 0 && eqb (length e) 0) ≡ false
not-between [] [] h = absurd (h refl)
not-between (n ∷ e) [] h = eqb-suc-zero (length e)
not-between [] (g ∷ gs) h = rw (eqb-suc-zero (length gs))
not-between (n ∷ e) (g ∷ gs) h = rw (eqb-suc-zero (length gs))

-- wherever the bytes are wrong
pub wrong-stops : (at : ℕ) {e rest : List ℕ} {reason on : ℕ} → Wrong e rest reason on → Stops at e rest reason on
unfolding read_all reason_of place_of is_between
wrong-stops at {e} (padded gs more a n few q) = rw q (stops-byte at e gs more 0 reason_padded a few (omega arith) (take-padded gs (some gs n)))
wrong-stops at {e} (tenth gs more b a l h q) = rw q (stops-byte at e gs more b reason_tenth a (omega (arith, l)) (omega arith) (take-tenth gs b l h))
wrong-stops at {e} (unfit n reason more h g q) =
    let x = number_read at n e more h in
    let r : reason ≢ 0 = number-says e n g in
    rw q (stops-refused at x.before x.sum e (groups_of n ++ more) reason r (x.reads ∙ rw g (refused-stays (at + x.before) x.before x.sum e more reason r)))
wrong-stops at {e} (cut gs a few n q) =
    rw q record {
      after = state (at + length gs) (length gs) (value_of gs 0) e 0;
      reads = rw (append-nil gs) at (groups-read at e gs [] a few);
      why = rw (not-between e gs n);
      there = refl;
    }

-- so the log is refused as its bytes say
pub refused-read : {bytes : List ℕ} {es : List (List ℕ)} {reason place : ℕ} → Refused bytes es reason place → read_log bytes ≡ as_read es reason place
unfolding as_log
refused-read {es = es} x =
    let y = wrong-stops (length (bytes_of x.numbers)) x.wrong in
    ap read_log x.before ∙ log-read x.rest x.come y.reads ∙ ap₂ (λ (r p : ℕ). as_read es r p) y.why (y.there ∙ sym x.there)
