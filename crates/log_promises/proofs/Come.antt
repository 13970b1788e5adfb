-- Numbers that come to entries are read as those entries: what a reader has read, and where it stands, after their bytes.
use Prim.Native.Nat.{ℕ, suc, ◌+◌, ◌<◌}
use mathlib.Core.Path.{◌≡◌, ◌∙◌, refl, sym, ap}
use mathlib.Core.List.{List, [], ◌∷◌, ◌++◌, append_assoc, append-nil}
use native.Mathlib.Omega.{arith}
use lib.ListN.{length, length-append}
use lib.Seq.{append_snoc}
use Rattle.log_numbers.specs.Numbers.{number_end, groups_of, bytes_of}
use Rattle.log_entries.specs.Entries.{growing, whole, number_in}
use Rattle.log_reader.specs.Reading.{State, state, fresh, Reading, reading, read_all, Log, as_log, read_log, is_between, reason_of, place_of}
use Rattle.log_promises.specs.Places.{Come, start, grows, ends}
use Rattle.log_promises.proofs.NumbersRead.{number_read}

-- ---- bytes of more numbers

-- those of two runs
pub bytes-more : (ns ms : List ℕ) → bytes_of (ns ++ ms) ≡ bytes_of ns ++ bytes_of ms
unfolding bytes_of
bytes-more [] ms = refl
bytes-more (n ∷ ns) ms = ap (λ (l : List ℕ). groups_of n ++ l) (bytes-more ns ms) ∙ sym (append_assoc (groups_of n) (bytes_of ns) (bytes_of ms))

-- those of one number more
bytes_one : (ns : List ℕ) (n : ℕ) → bytes_of (ns ++ n ∷ []) ≡ bytes_of ns ++ groups_of n
unfolding bytes_of
bytes_one ns n = bytes-more ns (n ∷ []) ∙ ap (λ (l : List ℕ). bytes_of ns ++ l) (append-nil (groups_of n))

-- and what follows them
pub bytes_next : (ns : List ℕ) (n : ℕ) (rest : List ℕ) → bytes_of (ns ++ n ∷ []) ++ rest ≡ bytes_of ns ++ (groups_of n ++ rest)
bytes_next ns n rest = ap (λ (l : List ℕ). l ++ rest) (bytes_one ns n) ∙ append_assoc (bytes_of ns) (groups_of n) rest

-- and how many they are
bytes-length : (ns : List ℕ) (n : ℕ) → length (bytes_of (ns ++ n ∷ [])) ≡ length (bytes_of ns) + length (groups_of n)
bytes-length ns n = ap length (bytes_one ns n) ∙ length-append (bytes_of ns) (groups_of n)

-- ---- entries

-- a reader between two numbers
abbrev pub standing : ℕ → List ℕ → State
standing at e = state at 0 0 e 0

-- what is read after these entries
abbrev pub preceded : List (List ℕ) → Reading → Reading
preceded es x = reading (es ++ x.entries) x.after

-- a number that makes its entry grow, or whole
module _ (at at' n : ℕ) (e e' rest : List ℕ) (below : n < number_end) (next : at' ≡ at + length (groups_of n)) where
  number-grows : number_in e n ≡ growing e' → read_all (standing at e) (groups_of n ++ rest) ≡ read_all (standing at' e') rest
  number-grows g =
      let x = number_read at n e rest below in
      let p : suc (at + x.before) ≡ at' = omega (arith, x.many, next) in
      x.reads ∙ rw (g, p)

  number-ends : number_in e n ≡ whole e' → read_all (standing at e) (groups_of n ++ rest) ≡ preceded (e' ∷ []) (read_all (standing at' []) rest)
  number-ends g =
      let x = number_read at n e rest below in
      let p : suc (at + x.before) ≡ at' = omega (arith, x.many, next) in
      x.reads ∙ rw (g, p)

-- an entry after others
preceded-more : (es : List (List ℕ)) (e : List ℕ) (x : Reading) → preceded es (preceded (e ∷ []) x) ≡ preceded (es ++ e ∷ []) x
preceded-more es e x = ap (λ (l : List (List ℕ)). reading l x.after) (sym (append_snoc es e x.entries))

-- after the bytes of numbers, the reader has given the entries that they come to
pub come-read : {ns : List ℕ} {es : List (List ℕ)} {e : List ℕ} → Come ns es e → (rest : List ℕ)
    → read_all fresh (bytes_of ns ++ rest) ≡ preceded es (read_all (standing (length (bytes_of ns)) e) rest)
unfolding bytes_of
come-read start rest = refl
come-read (grows {ns = ns} {es = es} {e = e} {e' = e'} n c h g) rest =
    ap (read_all fresh) (bytes_next ns n rest)
    ∙ come-read c (groups_of n ++ rest)
    ∙ ap (preceded es) (number-grows (length (bytes_of ns)) (length (bytes_of (ns ++ n ∷ []))) n e e' rest h (bytes-length ns n) g)
come-read (ends {ns = ns} {es = es} {e = e} {e' = e'} n c h g) rest =
    ap (read_all fresh) (bytes_next ns n rest)
    ∙ come-read c (groups_of n ++ rest)
    ∙ ap (preceded es) (number-ends (length (bytes_of ns)) (length (bytes_of (ns ++ n ∷ []))) n e e' rest h (bytes-length ns n) g)
    ∙ preceded-more es e' (read_all (standing (length (bytes_of (ns ++ n ∷ []))) []) rest)

-- the log of these bytes, if the reader gives no more entries after them
pub log-read : {ns : List ℕ} {es : List (List ℕ)} {e : List ℕ} {x : State} (rest : List ℕ) → Come ns es e
    → read_all (standing (length (bytes_of ns)) e) rest ≡ reading [] x → read_log (bytes_of ns ++ rest) ≡ as_log (reading es x)
unfolding read_log
log-read {es = es} {x = x} rest c h =
    ap as_log (come-read c rest ∙ ap (preceded es) h ∙ ap (λ (l : List (List ℕ)). reading l x) (append-nil es))

-- a log as it is read
abbrev pub as_read : List (List ℕ) → ℕ → ℕ → Log
as_read es reason place = record { entries = es; reason = reason; place = place }

-- numbers that come to whole entries are a log of them
pub whole-read : {ns : List ℕ} {es : List (List ℕ)} → Come ns es [] → read_log (bytes_of ns) ≡ as_read es 0 (length (bytes_of ns))
unfolding read_all as_log reason_of place_of is_between
whole-read {ns = ns} c = ap read_log (sym (append-nil (bytes_of ns))) ∙ log-read [] c refl
