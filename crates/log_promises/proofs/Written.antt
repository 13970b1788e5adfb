-- CR 1, "Written then read gives the same calls": the numbers of a log come to its header and its calls, so their bytes are read as those.
use Prim.Native.Nat.{ℕ, zero, suc, ◌+◌, ◌*◌, ◌/◌, ◌%◌, ◌^◌, ◌<◌, ◌≤◌}
use mathlib.Core.Path.{◌≡◌, ◌∙◌, refl, sym, ap, ap₂}
use mathlib.Core.Bool.{Bool, true, false, not, cond}
use mathlib.Core.List.{List, [], ◌∷◌, ◌++◌, append_assoc, append-nil}
use native.Mathlib.Nat.{pow-suc}
use native.Mathlib.Omega.{arith}
use lib.Dec.{eqb, leb, ltb}
use lib.ListN.{length}
use lib.Seq.{append_snoc}
use borrow.Author.Tests.{ltb-true, eq-eqb, ne_eqb}
use Rattle.board.specs.declared.Shape.{Shape}
use Rattle.board.proofs.Bools.{and_right}
use Rattle.log_numbers.specs.Numbers.{group_size, groups_before, number_end, groups_from, bytes_of}
use Rattle.log_entries.specs.Entries.{fields_by_kind, fields_of, is_kind, is_whole, most, number_in, growing, whole}
use Rattle.log_reader.specs.Reading.{Log, read_log}
use Rattle.promises.specs.Runs.{Call}
use Rattle.log_promises.specs.Calls.{LoggableShape, AllLoggable, entry_of, header_of, fields_fit, entry_fits, calls_bytes, header_bytes, log_of, entries_of}
use Rattle.log_promises.specs.Calls as Calls
use Rattle.log_promises.specs.Written.{Bytes, WrittenIsRead}
use Rattle.log_promises.specs.Written as Written
use Rattle.log_promises.specs.Places.{Come, start, grows, ends}
use Rattle.log_promises.proofs.Fits.{length-next, fit-first, fit-rest, fit-below}
use Rattle.log_promises.proofs.Come.{bytes-more, as_read, whole-read}
use Rattle.log_promises.proofs.Decoded.{call_of, shape_of, call_back, shape-back, IsEntry, entry, call-entry}

-- ---- an entry, number by number

-- a field that fits is taken: its entry grows, or is whole
module _ (kind n : ℕ) (fields : List ℕ) (fits : leb n (most kind fields) ≡ true) where
  field-grows : suc (length fields) < length (fields_of kind) → number_in (kind ∷ fields) n ≡ growing (kind ∷ fields ++ n ∷ [])
  unfolding number_in is_whole
  field-grows h =
      let d : length (fields ++ n ∷ []) ≡ length (fields_of kind) → ⊥ = omega (arith, length-next fields n) in
      rw (fits, ne_eqb (length (fields ++ n ∷ [])) (length (fields_of kind)) d)

  field-ends : suc (length fields) ≡ length (fields_of kind) → number_in (kind ∷ fields) n ≡ whole (kind ∷ fields ++ n ∷ [])
  unfolding number_in is_whole
  field-ends h = rw (fits, eq-eqb (length (fields ++ n ∷ [])) (length (fields_of kind)) (length-next fields n ∙ h))

-- the fields that an entry lacks make it whole
fields-come : {ns : List ℕ} {es : List (List ℕ)} (kind : ℕ) (before fields : List ℕ) → Come ns es (kind ∷ before) → fields_fit kind before fields ≡ true
    → length before + length fields ≡ length (fields_of kind) → 1 ≤ length fields → Come (ns ++ fields) (es ++ (kind ∷ before ++ fields) ∷ []) []
fields-come kind before [] c f l h = absurd (omega (arith, h))
fields-come kind before (n ∷ []) c f l h =
    let g = fit-first kind n before [] f in
    ends n c (fit-below kind n before g) (field-ends kind n before g (omega (arith, l)))
fields-come {ns = ns} kind before (n ∷ m ∷ ms) c f l h =
    let g = fit-first kind n before (m ∷ ms) f in
    let c' = grows n c (fit-below kind n before g) (field-grows kind n before g (omega (arith, l))) in
    rw (append_snoc ns n (m ∷ ms), append_snoc before n (m ∷ ms)) at
    (fields-come kind (before ++ n ∷ []) (m ∷ ms) c' (fit-rest kind n before (m ∷ ms) f) (omega (arith, l, length-next before n)) (omega arith))

-- a kind that is known is taken: its entry grows, or is whole
module _ (kind : ℕ) (known : is_kind kind ≡ true) where
  kind-below : kind < number_end
  unfolding is_kind
  kind-below = omega (arith, ltb-true kind (length fields_by_kind) (and_right (not (eqb kind 0)) (ltb kind (length fields_by_kind)) known))

  kind_grows : 1 ≤ length (fields_of kind) → number_in [] kind ≡ growing (kind ∷ [])
  unfolding number_in is_whole
  kind_grows h = let d : 0 ≡ length (fields_of kind) → ⊥ = omega arith in rw (known, ne_eqb 0 (length (fields_of kind)) d)

  kind-ends : 0 ≡ length (fields_of kind) → number_in [] kind ≡ whole (kind ∷ [])
  unfolding number_in is_whole
  kind-ends h = rw (known, eq-eqb 0 (length (fields_of kind)) h)

-- a whole entry comes to itself
entry-comes : {ns : List ℕ} {es : List (List ℕ)} {e : List ℕ} → IsEntry e → Come ns es [] → Come (ns ++ e) (es ++ e ∷ []) []
entry-comes (entry {kind = kind} {fields = []} t l f) c = ends kind c (kind-below kind t) (kind-ends kind t l)
entry-comes {ns = ns} (entry {kind = kind} {fields = n ∷ rest} t l f) c =
    rw (append_snoc ns kind (n ∷ rest)) at
    (fields-come kind [] (n ∷ rest) (grows kind c (kind-below kind t) (kind_grows kind t (omega (arith, l)))) f (omega (arith, l)) (omega arith))

-- ---- a log

-- the numbers of calls, of a header, and of a log
abbrev pub numbers_of : List Call → List ℕ
numbers_of [] = []
numbers_of (k ∷ ks) = entry_of k ++ numbers_of ks

abbrev pub header_numbers : Shape → List ℕ
header_numbers s = s.frames ∷ s.uncached ∷ s.processes ∷ s.lines ∷ []

abbrev pub log_numbers : Shape → List Call → List ℕ
log_numbers s ks = header_numbers s ++ numbers_of ks

-- their bytes are those of the calls
calls-bytes : (ks : List Call) → bytes_of (numbers_of ks) ≡ calls_bytes ks
unfolding calls_bytes bytes_of
calls-bytes [] = refl
calls-bytes (k ∷ ks) = bytes-more (entry_of k) (numbers_of ks) ∙ ap (λ (l : List ℕ). bytes_of (entry_of k) ++ l) (calls-bytes ks)

-- and those of a log
pub log-bytes : (s : Shape) (ks : List Call) → bytes_of (log_numbers s ks) ≡ log_of s ks
unfolding log_of header_bytes
log-bytes s ks = bytes-more (header_numbers s) (numbers_of ks) ∙ ap (λ (l : List ℕ). header_bytes s ++ l) (calls-bytes ks)

-- calls come to their entries
calls-come : {ns : List ℕ} {es : List (List ℕ)} (ks : List Call) → AllLoggable ks → Come ns es [] → Come (ns ++ numbers_of ks) (es ++ entries_of ks) []
unfolding entries_of
calls-come {ns = ns} {es = es} [] Calls.none c = rw (append-nil ns, append-nil es) c
calls-come {ns = ns} {es = es} (k ∷ ks) (Calls.also f all) c =
    rw (append_assoc ns (entry_of k) (numbers_of ks), append_snoc es (entry_of k) (entries_of ks)) at (calls-come {ns = ns ++ entry_of k} {es = es ++ entry_of k ∷ []} ks all (entry-comes (call-entry k f) c))

-- and a log to its own
log-comes : (s : Shape) (ks : List Call) → LoggableShape s → AllLoggable ks → Come (log_numbers s ks) (header_of s ∷ entries_of ks) []
unfolding header_of entry_fits fields_of
log-comes s ks f all = calls-come ks all (fields-come 0 [] (header_numbers s) start f refl (omega arith))

-- so the log is read as that
log-reads : (s : Shape) (ks : List Call) → LoggableShape s → AllLoggable ks → read_log (log_of s ks) ≡ as_read (header_of s ∷ entries_of ks) 0 (length (log_of s ks))
log-reads s ks f all = rw (log-bytes s ks) at (whole-read (log-comes s ks f all))

-- ---- it is bytes

-- bytes and more bytes
bytes-join : {l m : List ℕ} → Bytes l → Bytes m → Bytes (l ++ m)
bytes-join Written.none c = c
bytes-join (Written.also h b) c = Written.also h (bytes-join b c)

-- a number's groups are bytes
groups-bytes : (k n : ℕ) → n < 2 * group_size ^ k → Bytes (groups_from k n)
unfolding groups_from
groups-bytes zero n h = Written.also {b = n} (omega (arith, h)) Written.none
groups-bytes (suc k) n h = go (ltb n group_size) refl (groups-bytes k (n / group_size) (omega (arith, h, pow-suc group_size k)))
  where
    go : (t : Bool) → ltb n group_size ≡ t → Bytes (groups_from k (n / group_size))
        → Bytes (cond t (n ∷ []) ((group_size + n % group_size) ∷ groups_from k (n / group_size)))
    go true e b = Written.also {b = n} (omega (arith, ltb-true n group_size e)) Written.none
    go false e b = Written.also {b = group_size + n % group_size} (omega arith) b

-- and one more number's after those of others
number-bytes : (ns : List ℕ) (n : ℕ) → n < number_end → Bytes (bytes_of ns) → Bytes (bytes_of (ns ++ n ∷ []))
unfolding bytes_of
number-bytes ns n h b = rw (bytes-more ns (n ∷ [])) (bytes-join b (bytes-join (groups-bytes groups_before n (omega (arith, h))) Written.none))

-- so are all of those that come to entries
come-bytes : {ns : List ℕ} {es : List (List ℕ)} {e : List ℕ} → Come ns es e → Bytes (bytes_of ns)
unfolding bytes_of
come-bytes start = Written.none
come-bytes (grows {ns = ns} n c h g) = number-bytes ns n h (come-bytes c)
come-bytes (ends {ns = ns} n c h g) = number-bytes ns n h (come-bytes c)

-- the promise
pub written-is-read : WrittenIsRead
written-is-read = record {
  same_calls = λ s ks f all.
      record { entries = ap (λ (x : Log). x.entries) (log-reads s ks f all); whole = ap (λ (x : Log). x.reason) (log-reads s ks f all) };
  to_its_end = λ s ks f all. ap (λ (x : Log). x.place) (log-reads s ks f all);
  are_bytes = λ s ks f all. rw (log-bytes s ks) at (come-bytes (log-comes s ks f all));
  calls_apart = λ k k' e. sym (call_back k) ∙ ap call_of e ∙ call_back k';
  shapes_apart = λ s s' w e. sym (shape-back s) ∙ ap₂ shape_of w e ∙ shape-back s';
}
