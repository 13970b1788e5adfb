-- CR 1, "a field too large (flag above 1; a load's value above 0; width, value or effective address from 2^32 up)": the plain inequalities of a call
-- are those that are computed of its entry.
use Prim.Native.Nat.{ℕ, ◌-◌, ◌^◌, ◌<◌, ◌≤◌}
use mathlib.Core.Path.{◌≡◌, refl}
use mathlib.Core.Bool.{Bool, true, false, cond}
use mathlib.Core.List.{List, [], ◌∷◌, ◌++◌}
use native.Mathlib.Omega.{arith}
use lib.Dec.{eqb}
use borrow.Author.Tests.{le-leb}
use Rattle.board.specs.Lists.{bit}
use Rattle.board.specs.declared.Shape.{Shape}
use Rattle.board.proofs.Bools.{clash}
use Rattle.stores.specs.declared.Access.{Access}
use Rattle.log_entries.specs.Entries.{fields_of, most, most_of}
use Rattle.promises.specs.Runs.{Call, user, supervisor, access, attach, detach, map, unmap, protect, move, flush_all, tag, load_and_map, drop_tag}
use Rattle.log_promises.specs.Calls.{Loggable, LoggableShape, entry_of, header_of, fields_fit, entry_fits}
use Rattle.log_promises.specs.Limits.{AccessFits, Fits, LimitsAreRight}
use Rattle.log_promises.proofs.Fits.{fit-each}

-- ---- flags and values

-- a bit is at most 1
bit-small : (b : Bool) → bit b ≤ 1
bit-small true = omega arith
bit-small false = omega arith

-- the most that a value may be, after a load or a store
abbrev value_most : Bool → ℕ
value_most store = cond (eqb (bit store) 0) 0 (2 ^ 32 - 1)

-- an access that fits has no larger one
value-small : (a : Access) → AccessFits a → a.value ≤ value_most a.store
value-small a f = go a.store refl
  where
    go : (t : Bool) → a.store ≡ t → a.value ≤ value_most t
    go true e = omega (arith, f.value)
    go false e = omega (arith, f.none e)

-- and the other way round
access-fits : (a : Access) → a.width ≤ 2 ^ 32 - 1 → a.value ≤ value_most a.store → AccessFits a
access-fits a w v = go a.store refl v
  where
    go : (t : Bool) → a.store ≡ t → a.value ≤ value_most t → AccessFits a
    go true e h = record { width = omega (arith, w); value = omega (arith, h); none = λ n. clash a.store e n }
    go false e h = record { width = omega (arith, w); value = omega (arith, h); none = λ n. omega (arith, h) }

-- ---- fields

-- a field that fits, before others that do
fit-also : (kind n : ℕ) (before l : List ℕ) → n ≤ most kind before → fields_fit kind (before ++ n ∷ []) l ≡ true → fields_fit kind before (n ∷ l) ≡ true
unfolding fields_fit
fit-also kind n before l h f = rw (le-leb n (most kind before) h, f)

-- no field at all
fit_none : (kind : ℕ) (before : List ℕ) → fields_fit kind before [] ≡ true
unfolding fields_fit
fit_none kind before = refl

-- ---- calls

-- a call that fits is one that a log can hold
call-holds : (k : Call) → Fits k → Loggable k
unfolding Fits entry_of entry_fits fields_of most most_of
call-holds (user process a e) (p, f, h) =
    fit-also 1 process [] _ (omega (arith, p))
    (fit-also 1 (bit a.store) (process ∷ []) _ (bit-small a.store)
    (fit-also 1 a.width (process ∷ bit a.store ∷ []) _ (omega (arith, f.width))
    (fit-also 1 e.0 (process ∷ bit a.store ∷ a.width ∷ []) _ (omega (arith, h))
    (fit-also 1 a.value (process ∷ bit a.store ∷ a.width ∷ e.0 ∷ []) [] (value-small a f) (fit_none 1 _)))))
call-holds (supervisor (access a g)) (f, h) =
    fit-also 2 (bit a.store) [] _ (bit-small a.store)
    (fit-also 2 a.width (bit a.store ∷ []) _ (omega (arith, f.width))
    (fit-also 2 g.0 (bit a.store ∷ a.width ∷ []) _ (omega (arith, h))
    (fit-also 2 a.value (bit a.store ∷ a.width ∷ g.0 ∷ []) [] (value-small a f) (fit_none 2 _))))
call-holds (supervisor (attach process slot segment write)) (p, s, g) =
    fit-also 3 process [] _ (omega (arith, p))
    (fit-also 3 slot (process ∷ []) _ (omega (arith, s))
    (fit-also 3 segment (process ∷ slot ∷ []) _ (omega (arith, g))
    (fit-also 3 (bit write) (process ∷ slot ∷ segment ∷ []) [] (bit-small write) (fit_none 3 _))))
call-holds (supervisor (detach process slot)) (p, s) =
    fit-also 4 process [] _ (omega (arith, p)) (fit-also 4 slot (process ∷ []) [] (omega (arith, s)) (fit_none 4 _))
call-holds (supervisor (map page frame write)) (p, r) =
    fit-also 5 page [] _ (omega (arith, p))
    (fit-also 5 frame (page ∷ []) _ (omega (arith, r)) (fit-also 5 (bit write) (page ∷ frame ∷ []) [] (bit-small write) (fit_none 5 _)))
call-holds (supervisor (unmap page)) p = fit-also 6 page [] [] (omega (arith, p)) (fit_none 6 _)
call-holds (supervisor (protect page write)) p =
    fit-also 7 page [] _ (omega (arith, p)) (fit-also 7 (bit write) (page ∷ []) [] (bit-small write) (fit_none 7 _))
call-holds (supervisor flush_all) f = fit_none 8 []
call-holds (supervisor (tag name)) n = fit-also 9 name [] [] (omega (arith, n)) (fit_none 9 _)
call-holds (supervisor (load_and_map line)) l = fit-also 10 line [] [] (omega (arith, l)) (fit_none 10 _)
call-holds (supervisor drop_tag) f = fit_none 11 []
call-holds (supervisor (move page new)) (p, n) =
    fit-also 12 page [] _ (omega (arith, p)) (fit-also 12 new (page ∷ []) [] (omega (arith, n)) (fit_none 12 _))

-- and only such a call is
call_fits : (k : Call) → Loggable k → Fits k
unfolding Fits entry_of entry_fits fields_of most most_of
call_fits (user process a e) f =
    let l : List ℕ = process ∷ bit a.store ∷ a.width ∷ e.0 ∷ a.value ∷ [] in
    let fits = access-fits a (fit-each 1 [] l 2 f (omega arith)) (fit-each 1 [] l 4 f (omega arith)) in
    (omega (arith, fit-each 1 [] l 0 f (omega arith)), fits, omega (arith, fit-each 1 [] l 3 f (omega arith)))
call_fits (supervisor (access a g)) f =
    let l : List ℕ = bit a.store ∷ a.width ∷ g.0 ∷ a.value ∷ [] in
    (access-fits a (fit-each 2 [] l 1 f (omega arith)) (fit-each 2 [] l 3 f (omega arith)), omega (arith, fit-each 2 [] l 2 f (omega arith)))
call_fits (supervisor (attach process slot segment write)) f =
    let l : List ℕ = process ∷ slot ∷ segment ∷ bit write ∷ [] in
    (omega (arith, fit-each 3 [] l 0 f (omega arith)), omega (arith, fit-each 3 [] l 1 f (omega arith)), omega (arith, fit-each 3 [] l 2 f (omega arith)))
call_fits (supervisor (detach process slot)) f =
    let l : List ℕ = process ∷ slot ∷ [] in
    (omega (arith, fit-each 4 [] l 0 f (omega arith)), omega (arith, fit-each 4 [] l 1 f (omega arith)))
call_fits (supervisor (map page frame write)) f =
    let l : List ℕ = page ∷ frame ∷ bit write ∷ [] in
    (omega (arith, fit-each 5 [] l 0 f (omega arith)), omega (arith, fit-each 5 [] l 1 f (omega arith)))
call_fits (supervisor (unmap page)) f = omega (arith, fit-each 6 [] (page ∷ []) 0 f (omega arith))
call_fits (supervisor (protect page write)) f = omega (arith, fit-each 7 [] (page ∷ bit write ∷ []) 0 f (omega arith))
call_fits (supervisor flush_all) f = tt
call_fits (supervisor (tag name)) f = omega (arith, fit-each 9 [] (name ∷ []) 0 f (omega arith))
call_fits (supervisor (load_and_map line)) f = omega (arith, fit-each 10 [] (line ∷ []) 0 f (omega arith))
call_fits (supervisor drop_tag) f = tt
call_fits (supervisor (move page new)) f =
    let l : List ℕ = page ∷ new ∷ [] in
    (omega (arith, fit-each 12 [] l 0 f (omega arith)), omega (arith, fit-each 12 [] l 1 f (omega arith)))

-- a header of numbers that a log can hold
shape_holds : (s : Shape) → s.frames < 2 ^ 64 → s.uncached < 2 ^ 64 → s.processes < 2 ^ 64 → s.lines < 2 ^ 64 → LoggableShape s
unfolding header_of entry_fits fields_of most most_of
shape_holds s f u p l =
    fit-also 0 s.frames [] _ (omega (arith, f))
    (fit-also 0 s.uncached (s.frames ∷ []) _ (omega (arith, u))
    (fit-also 0 s.processes (s.frames ∷ s.uncached ∷ []) _ (omega (arith, p))
    (fit-also 0 s.lines (s.frames ∷ s.uncached ∷ s.processes ∷ []) [] (omega (arith, l)) (fit_none 0 _))))

-- the promise
pub limits-are-right : LimitsAreRight
limits-are-right = record { holds = call-holds; holds_only = call_fits; holds_shape = shape_holds }
