-- Whether a value fits, the alignment of an access, and an access to a line, return by return.
use Rattle.std.specs.Prelude.{Option, Some, None, Result, Ok, Err}
use Rattle.std.specs.Option.{ok_or}
use Prim.Native.Nat.{ℕ, zero, suc, ◌+◌, ◌*◌, ◌/◌, ◌%◌, ◌^◌, ◌<◌, ◌≤◌}
use mathlib.Core.Path.{◌≡◌, ◌∙◌, refl, sym, ap}
use mathlib.Core.Bool.{Bool, true, false, not, ◌&&◌, ◌||◌}
use mathlib.Core.Logic.{◌⊎◌, inl, inr}
use mathlib.Core.List.{List, [], ◌∷◌}
use native.Mathlib.Omega.{arith}
use lib.ListN.{length}
use Rattle.address.specs.Addresses.{name_of}
use Rattle.address.specs.declared.Global.{Global}
use Rattle.address.specs.declared.Physical.{Physical}
use Rattle.board.specs.Answers.{answer, mark_uncached, mark_of}
use Rattle.board.specs.Refusals.{access_answer}
use Rattle.board.specs.declared.Accessed.{Accessed}
use Rattle.board.specs.declared.Answer.{Answer}
use Rattle.board.specs.declared.Refusal.{Refusal}
use Rattle.board.specs.declared.Refusal.TheVariants.{Unmapped, ReadOnlyPage}
use Rattle.board.specs.declared.Shape.{Shape}
use Rattle.board.specs.Lists.{bit}
use Rattle.board.proofs.Tables.{every_below, every-below}
use Rattle.line_bytes.specs.Bytes.{number, stored}
use Rattle.line_bytes.specs.Premises.{Width}
use Rattle.stores.specs.Premises.{Sized}
use Rattle.reach.specs.Reach.{way_of, unreached, may_write}
use Rattle.stores.specs.Stores.{Store, store, must_write_back, Performed, performed, performed_at, inserted}
use Rattle.stores.specs.declared.Access.{Access}
use Rattle.reach.specs.declared.Way.{Way}
use Rattle.reach.specs.declared.Way.TheVariants.{Held, InMemory}
use Rattle.lines.specs.Victims.{Uses, victim_of, used_in}
use Rattle.reach.proofs.Reach.{way-held, way-inside}
use Rattle.machine.specs.Refusals.{row, by_table, is_width, too_large, aligned_to}
use Rattle.machine.specs.Accesses.{reached, stopped, reached_by, performed_on, accessed_by, uses_by, Touched, touched, victim_for, accessed, memory_access}
use Rattle.line_access.specs.LineAccess.{refilled, line_access}
use lib.Dec.{eqb, leb}
use borrow.Author.Tests.{eqb-true, ne_eqb}

-- a width that may be is 1, 2 or 4, and the other way round
is-width : (w : ℕ) → Width w → is_width w ≡ true
is-width zero h = absurd (omega (arith, h.low))
is-width (suc zero) h = refl
is-width (suc (suc zero)) h = refl
is-width (suc (suc (suc zero))) h = absurd (h.not_three refl)
is-width (suc (suc (suc (suc zero)))) h = refl
is-width (suc (suc (suc (suc (suc w))))) h = absurd (omega (arith, h.high))

pub width_is : (w : ℕ) → is_width w ≡ true → Width w
width_is w = go (eqb w 1) (eqb w 2) (eqb w 4) refl refl refl
  where
    one_of : w ≡ 1 ⊎ (w ≡ 2 ⊎ w ≡ 4) → Width w
    one_of (inl e) = record { low = omega arith; high = omega arith; not_three = λ h. omega arith }
    one_of (inr (inl e)) = record { low = omega arith; high = omega arith; not_three = λ h. omega arith }
    one_of (inr (inr e)) = record { low = omega arith; high = omega arith; not_three = λ h. omega arith }

    go : (x y z : Bool) → eqb w 1 ≡ x → eqb w 2 ≡ y → eqb w 4 ≡ z → (x || (y || z)) ≡ true → Width w
    go true y z e f g h = one_of (inl (eqb-true _ _ e))
    go false true z e f g h = one_of (inr (inl (eqb-true _ _ f)))
    go false false true e f g h = one_of (inr (inr (eqb-true _ _ g)))
    go false false false e f g h = absurd (let z : ◌≡◌ {A = ℕ} 0 1 = cc in omega arith)

-- 256^width, as the code shifts it
shift-end : (w : ℕ) → w ≤ 4 → 1 * 2 ^ (8 * w) % 2 ^ 64 ≡ 256 ^ w
shift-end zero h = refl
shift-end (suc zero) h = refl
shift-end (suc (suc zero)) h = refl
shift-end (suc (suc (suc zero))) h = refl
shift-end (suc (suc (suc (suc zero)))) h = refl
shift-end (suc (suc (suc (suc (suc w))))) h = absurd (omega arith)

module _ (a : Access) where
  pub large-shifted : Width a.width → (a.store && leb (1 * 2 ^ (8 * a.width) % 2 ^ 64) a.value) ≡ too_large a
  unfolding too_large
  large-shifted h = rw (shift-end a.width h.high, is-width a.width h)

  pub large-none : is_width a.width ≡ false → false ≡ too_large a
  unfolding too_large
  large-none h = rw h (go a.store)
    where
      go : (t : Bool) → false ≡ (t && false)
      go true = refl
      go false = refl

-- alignment: by the bit of a table
module _ (at : ℕ) where
  -- a number is a multiple of a width if what it leaves mod 4 is
  rest-aligned : (width : ℕ) → aligned_to width at ≡ aligned_to width (at % 4)
  unfolding aligned_to
  rest-aligned width = go (eqb width 1) (eqb width 2) (eqb width 4) refl refl refl
    where
      go : (x y z : Bool) → eqb width 1 ≡ x → eqb width 2 ≡ y → eqb width 4 ≡ z
          → ((x || (y || z)) && eqb (at % width) 0) ≡ ((x || (y || z)) && eqb (at % 4 % width) 0)
      go true y z e f g = let w : width ≡ 1 = eqb-true _ _ e in let q : at % 1 ≡ at % 4 % 1 = omega arith in rw (w, q)
      go false true z e f g = let w : width ≡ 2 = eqb-true _ _ f in let q : at % 2 ≡ at % 4 % 2 = omega arith in rw (w, q)
      go false false true e f g = let w : width ≡ 4 = eqb-true _ _ g in let q : at % 4 ≡ at % 4 % 4 = omega arith in rw w (ap (λ (x : ℕ). eqb x 0) q)
      go false false false e f g = refl

  pub aligned-none : (width : ℕ) → 8 ≤ width → false ≡ aligned_to width at
  unfolding aligned_to
  aligned-none width h = rw (ne_eqb width 1 (λ e. omega arith), ne_eqb width 2 (λ e. omega arith), ne_eqb width 4 (λ e. omega arith))

-- the table's bits, checked one by one
table_right : ℕ → ℕ → Bool
table_right width rest = eqb (67056 / 2 ^ (4 * width + rest) % 2) (bit (aligned_to width rest))

table-right : every_below 8 (λ width. every_below 4 (table_right width)) ≡ true
unfolding every_below table_right aligned_to
table-right = refl

pub aligned-bit : (width at : ℕ) → width < 8 → eqb (67056 / 2 ^ (4 * width + at % 4) % 2) 1 ≡ aligned_to width at
unfolding table_right
aligned-bit width at h =
    let r = every-below 4 (table_right width) (every-below 8 (λ w. every_below 4 (table_right w)) table-right width h) (at % 4) (omega arith) in
    let e : 67056 / 2 ^ (4 * width + at % 4) % 2 ≡ bit (aligned_to width (at % 4)) = eqb-true _ _ r in
    ap (λ (x : ℕ). eqb x 1) e ∙ (go (aligned_to width (at % 4)) ∙ sym (rest-aligned at width))
  where
    go : (t : Bool) → eqb (bit t) 1 ≡ t
    go true = refl
    go false = refl

pub performed-on : (r c m : List ℕ) (i offset : ℕ) (a : Access) (held back : Bool) (mark v : ℕ) (x : Answer) (r₁ c₁ : List ℕ)
    → performed v r₁ c₁ ≡ performed_at i offset a r c → mark ≡ mark_of held back → x ≡ answer 0 v mark
    → reached x r₁ c₁ m ≡ performed_on i offset a (mark_of held back) (store r c m)
unfolding performed_on
performed-on r c m i offset a held back mark v x r₁ c₁ e k f = rw (f, k) (ap (λ (p : Performed). reached_by p m (mark_of held back)) e)

-- past the cache
module _ (r c m : List ℕ) (p : Physical) (a : Access) where
  pub memory-stored : (x : Answer) (m₁ : List ℕ) → a.store ≡ true → m₁ ≡ stored m p.0 a.width a.value → x ≡ answer 0 0 mark_uncached
      → reached x r c m₁ ≡ memory_access p a (store r c m)
  unfolding memory_access
  memory-stored x m₁ e f g = rw (e, f, g)

  pub memory-loaded : (x : Answer) (v : ℕ) → a.store ≡ false → v ≡ number m p.0 a.width → x ≡ answer 0 v mark_uncached
      → reached x r c m ≡ memory_access p a (store r c m)
  unfolding memory_access
  memory-loaded x v e f g = rw (g, e, f)

-- an access to a line by the way to it
unfoldable line_by : Shape → ℕ → ℕ → ℕ → Bool → Access → Store → Uses → Option Way → Touched
line_by s to name offset user a b uses w =
    by_table (λ n. touched (stopped b n) uses) (row 8 (unreached w) ∷ row 9 (user && (a.store && not (may_write w))) ∷ [])
    (touched (accessed_by s to name offset a b w) (uses_by s to uses w))

-- an access to a line that isn't held, in the record that it takes
pub refilled_by : (s : Shape) (r c m : List ℕ) (u : Uses) (name line : ℕ) (write : Bool) (offset : ℕ) (a : Access) (x : Answer) (to : ℕ) (back : Bool)
    (r₁ c₁ m₁ r₂ c₂ : List ℕ) (u₁ : Uses) → to ≡ victim_of s u r name → u₁ ≡ used_in s u to
    → (store r₁ c₁ m₁ ≡ inserted s to name line write (store r c m)) × (back ≡ must_write_back s r to)
    → reached x r₂ c₂ m₁ ≡ performed_on to offset a (mark_of false back) (store r₁ c₁ m₁)
    → touched (reached x r₂ c₂ m₁) u₁ ≡ refilled s name line write offset a (store r c m) u
unfolding refilled accessed_by uses_by
refilled_by s r c m u name line write offset a x to back r₁ c₁ m₁ r₂ c₂ u₁ v e f d = rw (e, d, f.0, f.1, v)

-- where no way was found, and where one was
no-way : (w : Option Way) (why : Refusal) → ok_or w Unmapped ≡ Err why → (w ≡ None) × (why ≡ Unmapped)
no-way (Some way) why e = absurd (let z : ◌≡◌ {A = ℕ} 0 1 = cc in omega arith)
no-way None why e = (refl, cc)

found-way : (w : Option Way) (way : Way) → ok_or w Unmapped ≡ Ok way → w ≡ Some way
found-way (Some x) way e = cc
found-way None way e = absurd (let z : ◌≡◌ {A = ℕ} 0 1 = cc in omega arith)

module _ (s : Shape) (words r : List ℕ) (name : ℕ) (w : Option Way) (e : w ≡ way_of s words r name) (q : Result Way Refusal) (o : q ≡ ok_or w Unmapped)
    (way : Way) (h : q ≡ Ok way) where
  module _ (i : ℕ) (write : Bool) (k : way ≡ Held i write) (c m : List ℕ) (z : Sized s r c m) where
    -- the record of a held line is one of the records
    pub held-inside : i < s.lines
    held-inside = way-held s words r name i write w e (found-way w way (sym o ∙ h) ∙ ap Some k) z.lined

    pub held-record : 2 * i + 2 ≤ length r
    held-record = omega (arith, held-inside)

    pub held_bytes : 16 * i + 16 ≤ length c
    held_bytes = omega (arith, held-inside)

  -- the line of another is one of memory
  pub memory-inside : (line : ℕ) (write : Bool) → way ≡ InMemory line write → length words ≡ s.frames → line < 256 * s.frames
  memory-inside line write k n = way-inside s words r name line write w e (found-way w way (sym o ∙ h) ∙ ap Some k) n

module _ (s : Shape) (words r c m : List ℕ) (u : Uses) (g : Global) (user : Bool) (a : Access) (w : Option Way) (e : w ≡ way_of s words r (name_of g))
    (q : Result Way Refusal) (o : q ≡ ok_or w Unmapped) where
  line_on : line_by s (victim_for s u r g) (name_of g) (g.0 % 16) user a (store r c m) u w ≡ line_access s words g user a (store r c m) u
  unfolding line_by line_access accessed
  line_on = rw e

  by : Option Way → Touched
  by = line_by s (victim_for s u r g) (name_of g) (g.0 % 16) user a (store r c m) u

  pub line-unmapped : (x : Result Accessed Refusal) (why : Refusal) → q ≡ Err why → x ≡ Err why
      → touched (reached (access_answer x) r c m) u ≡ line_access s words g user a (store r c m) u
  unfolding line_by by by_table unreached
  line-unmapped x why h k =
      let z = no-way w why (sym o ∙ h) in
      rw (k, z.1) (ap by (sym z.0) ∙ line_on)

  module _ (way : Way) (h : q ≡ Ok way) where
    way_is : w ≡ Some way
    way_is = found-way w way (sym o ∙ h)

    way_on : (v : Way) → way ≡ v → by (Some v) ≡ line_access s words g user a (store r c m) u
    unfolding by
    way_on v k = ap by (sym (way_is ∙ ap Some k)) ∙ line_on

    module _ (may : Bool) (f : may ≡ may_write (Some way)) where
      may_be : (v : Way) (write : Bool) → may_write (Some v) ≡ write → way ≡ v → may ≡ write
      may_be v write e k = f ∙ (ap (λ (v : Way). may_write (Some v)) k ∙ e)

      pub line-reads : (user && (a.store && not may)) ≡ true
          → touched (reached (access_answer (Err ReadOnlyPage)) r c m) u ≡ line_access s words g user a (store r c m) u
      unfolding line_by by by_table unreached may_write
      line-reads t = go way refl
        where
          go : (v : Way) → way ≡ v → touched (reached (access_answer (Err ReadOnlyPage)) r c m) u ≡ line_access s words g user a (store r c m) u
          go (Held i write) k = simp (← may_be (Held i write) write refl k, t) at (way_on (Held i write) k)
          go (InMemory line write) k = simp (← may_be (InMemory line write) write refl k, t) at (way_on (InMemory line write) k)

      module _ (t : (user && (a.store && not may)) ≡ false) where
        module _ (i : ℕ) (write : Bool) (k : way ≡ Held i write) where
          pub held-performed : (x : Answer) (r₁ c₁ : List ℕ) (u₁ : Uses) → u₁ ≡ used_in s u i
              → reached x r₁ c₁ m ≡ performed_on i (g.0 % 16) a (mark_of true false) (store r c m)
              → touched (reached x r₁ c₁ m) u₁ ≡ line_access s words g user a (store r c m) u
          unfolding line_by by by_table unreached may_write accessed_by uses_by
          held-performed x r₁ c₁ u₁ q d = rw (d, q) (simp (← may_be (Held i write) write refl k, t) at (way_on (Held i write) k))

        module _ (line : ℕ) (write : Bool) (k : way ≡ InMemory line write) where
          pub memory-refilled : (x : Answer) (name : ℕ) (r₂ c₂ m₂ : List ℕ) (u₂ : Uses) → name ≡ name_of g
              → touched (reached x r₂ c₂ m₂) u₂ ≡ refilled s name line write (g.0 % 16) a (store r c m) u
              → touched (reached x r₂ c₂ m₂) u₂ ≡ line_access s words g user a (store r c m) u
          unfolding line_by by by_table unreached may_write refilled
          memory-refilled x name r₂ c₂ m₂ u₂ n d =
              let f : (user && (a.store && not write)) ≡ false = rw (may_be (InMemory line write) write refl k) at t in
              d ∙ rw n (simp f at (way_on (InMemory line write) k))
