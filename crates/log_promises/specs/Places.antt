-- CR 1: "A last group of 0 after others, a tenth byte above 1, a cut log, an unknown kind or a field too large is refused with the place of that
-- number's first byte, a cut with the log's length." Said of the log's bytes, without a reader's state.
use Rattle.std.specs.Prelude.{ℕ, ◌+◌, ◌<◌, ◌≤◌, ◌≡◌, ◌≢◌, List, [], ◌∷◌, ◌++◌, length}
use Rattle.log_numbers.specs.Numbers.{groups_before, number_end, groups_of, bytes_of, Groups}
use Rattle.log_numbers.specs.Reasons.{reason_none, reason_padded, reason_tenth, reason_cut}
use Rattle.log_entries.specs.Entries.{number_in, growing, whole, improper}
use Rattle.log_reader.specs.Reading.{read_log}
use Rattle.log_promises.specs.Written.{Bytes}

-- what numbers come to, from the start of a log, if none of them is refused: the entries that they make, and the numbers of one that isn't whole
pub data Come : List ℕ → List (List ℕ) → List ℕ → Type 0 where
  start : Come [] [] (0 ∷ [])
  grows : {ns : List ℕ} {es : List (List ℕ)} {e e' : List ℕ} (n : ℕ) → Come ns es e → n < number_end → number_in e n ≡ growing e' → Come (ns ++ n ∷ []) es e'
  ends : {ns : List ℕ} {es : List (List ℕ)} {e e' : List ℕ} (n : ℕ) → Come ns es e → n < number_end → number_in e n ≡ whole e' → Come (ns ++ n ∷ []) (es ++ e' ∷ []) []

-- what is wrong with the bytes after those of whole numbers, where the entry has these numbers so far: why, and how far on the place is
pub data Wrong (e rest : List ℕ) : ℕ → ℕ → Type 0 where
  -- a last group of 0 after others
  padded : (gs more : List ℕ) → Groups gs → gs ≢ [] → length gs ≤ groups_before → rest ≡ gs ++ 0 ∷ more → Wrong e rest reason_padded 0
  -- a tenth byte above 1
  tenth : (gs more : List ℕ) (b : ℕ) → Groups gs → length gs ≡ groups_before → 1 < b → rest ≡ gs ++ b ∷ more → Wrong e rest reason_tenth 0
  -- an unknown kind, or a field too large
  unfit : (n reason : ℕ) (more : List ℕ) → n < number_end → number_in e n ≡ improper reason → rest ≡ groups_of n ++ more → Wrong e rest reason 0
  -- the log is cut inside a number, or inside an entry: its length
  cut : (gs : List ℕ) → Groups gs → length gs ≤ groups_before → (e ++ gs) ≢ [] → rest ≡ gs → Wrong e rest reason_cut (length gs)

-- a log that is refused for this reason at this place, after these entries
pub record Refused (bytes : List ℕ) (entries : List (List ℕ)) (reason place : ℕ) : Type 0 where
  pub numbers : List ℕ  -- the whole numbers before
  pub part : List ℕ  -- those of the entry that isn't whole
  pub rest : List ℕ  -- the bytes after them
  pub on : ℕ  -- how far after them the place is
  pub come : Come numbers entries part
  pub before : bytes ≡ bytes_of numbers ++ rest
  pub wrong : Wrong part rest reason on
  pub there : place ≡ length (bytes_of numbers) + on

pub record PlacesAreRight : Type 1 where
  -- a refusal's reason and place are those of the bytes
  pub refused_there : (bytes : List ℕ) → Bytes bytes → (read_log bytes).reason ≢ reason_none
      → Refused bytes (read_log bytes).entries (read_log bytes).reason (read_log bytes).place
  -- and where the bytes are wrong, the log is refused there
  pub refused_so : (bytes : List ℕ) (entries : List (List ℕ)) (reason place : ℕ) → Bytes bytes → Refused bytes entries reason place
      → ((read_log bytes).entries ≡ entries) × (((read_log bytes).reason ≡ reason) × ((read_log bytes).place ≡ place))
