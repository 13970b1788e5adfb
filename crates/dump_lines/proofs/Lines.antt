-- Rules 3 to 5, record by record: what the code's tests and keys are; two lines compared byte by byte.
use Rattle.std.specs.Prelude.{Option, None}
use Prim.Native.Nat.{ℕ, ◌+◌, ◌-◌, ◌*◌, ◌≤◌, ◌<◌}
use mathlib.Core.Path.{◌≡◌, ◌∙◌, refl, ap}
use mathlib.Core.Bool.{Bool, true, false, not, ◌&&◌, ◌||◌, cond}
use mathlib.Core.List.{List, [], ◌∷◌}
use borrow.Author.Tests.{eq-eqb, eqb-true}
use lib.Dec.{eqb}
use lib.ListN.{length, take, drop}
use lib.Pointwise.{pointwise}
use native.Mathlib.Nat.{add-sub_cancel_left}
use Rattle.address.specs.Layout.{page_lines}
use Rattle.pages.specs.Pages.{home_of}
use Rattle.board.specs.Searches.{first}
use Rattle.board.specs.Shapes.{max_frames}
use Rattle.board.specs.declared.Shape.{Shape}
use Rattle.board.specs.declared.Home.{Home}
use Rattle.board.proofs.Bools.{clash, and_left, and_right}
use Rattle.board.specs.Lists.{part}
use Rattle.line_bytes.specs.Bytes.{line_of}
use Rattle.lines.specs.Records.{line_at}
use Rattle.lines.specs.Holds.{holds_line, holds_at}
use Rattle.lines.specs.declared.Line.{Line}
use Rattle.stores.specs.Stores.{Store, store}
use Rattle.doubles.specs.Doubles.{repeats, keys_of}
use Rattle.doubles.proofs.Keys.{searched}
use Rattle.dump_pages.specs.Pages.{doubled_page}
use Rattle.dump_lines.specs.Lines.{same_list, held_line, doubled_line, at_home, astray, stale, breaks_alone}
use Rattle.dump_lines.specs.Tests.{in_frame, place_key}
use Rattle.dump_lines.proofs.Homes.{frame-tells}

-- ---- two lines

-- two lists that pass are equal
pub same_list_lem : (a b : List ℕ) → same_list a b ≡ true → a ≡ b
unfolding same_list
same_list_lem [] [] e = refl
same_list_lem [] (y ∷ ys) e = clash false e refl
same_list_lem (x ∷ xs) [] e = clash false e refl
same_list_lem (x ∷ xs) (y ∷ ys) e =
    let a : x ≡ y = eqb-true x y (and_left (eqb x y) (same_list xs ys) e) in
    let b : xs ≡ ys = same_list_lem xs ys (and_right (eqb x y) (same_list xs ys) e) in rw (a, b)

pub list_same : (a : List ℕ) → same_list a a ≡ true
unfolding same_list
list_same [] = refl
list_same (x ∷ xs) = rw (eq-eqb x x refl) (list_same xs)

-- the library's comparison of two slices
pointwise-same : (xs ys : List ℕ) → pointwise eqb xs ys ≡ same_list xs ys
unfolding same_list
pointwise-same [] [] = refl
pointwise-same [] (y ∷ ys) = refl
pointwise-same (x ∷ xs) [] = refl
pointwise-same (x ∷ xs) (y ∷ ys) = ap (λ t. eqb x y && t) (pointwise-same xs ys)

pub lines-same : (a b : List ℕ) (i j : ℕ) (r : Bool)
    → r ≡ pointwise eqb (take (16 * i + 16 - 16 * i) (drop (16 * i) a)) (take (16 * j + 16 - 16 * j) (drop (16 * j) b)) → r ≡ same_list (line_of a i) (line_of b j)
unfolding line_of part
lines-same a b i j r e =
    (rw (add-sub_cancel_left (16 * i) 16, add-sub_cancel_left (16 * j) 16) at e) ∙ pointwise-same (take 16 (drop (16 * i) a)) (take 16 (drop (16 * j) b))

-- ---- a record against rules 4 and 5

module _ (s : Shape) (words records cache memory : List ℕ) (i : ℕ) (l : Line) (e : l ≡ line_at records i) (t : Bool) (h : t ≡ holds_line s i l) where
  abbrev x : Store
  x = store records cache memory

  pub astray-none : t ≡ false → false ≡ astray s (home_of s words) x i
  unfolding astray holds_at
  astray-none y = rw (← e, ← h, y)

  pub astray-held : (r : Bool) → t ≡ true → r ≡ in_frame s words l → length words ≡ s.frames → s.frames ≤ max_frames → l.physical < page_lines * s.frames
      → doubled_page s words ≡ None → not r ≡ astray s (home_of s words) x i
  unfolding astray holds_at
  astray-held r y f size few inside d =
      let a : r ≡ at_home (home_of s words) l = f ∙ frame-tells s words l size few inside d in
      rw (← e, ← h, y, a)

  pub stale-none : t ≡ false → false ≡ stale s x i
  unfolding stale holds_at
  stale-none y = rw (← e, ← h, y)

  module _ (y : t ≡ true) where
    pub stale-changed : l.changed ≡ true → false ≡ stale s x i
    unfolding stale holds_at
    stale-changed d = rw (← e, ← h, y, d)

    pub stale-held : (r : Bool) → l.changed ≡ false → r ≡ same_list (line_of cache i) (line_of memory l.physical) → not r ≡ stale s x i
    unfolding stale holds_at
    stale-held r d q = rw (← e, ← h, y, d, q)

pub breaks-either : (s : Shape) (home : ℕ → Option Home) (x : Store) (i : ℕ) (a b : Bool) → a ≡ astray s home x i → b ≡ stale s x i
    → (a || b) ≡ breaks_alone s home x i
unfolding breaks_alone
breaks-either s home x i a b e f = rw (e, f)

-- ---- keys of places

module _ (fine : Bool) (s : Shape) (home : ℕ → Option Home) (records cache memory : List ℕ) (i : ℕ) (l : Line) (e : l ≡ line_at records i) (t : Bool) (h : t ≡ holds_line s i l) where
  pub key-none : t ≡ false → 0 ≡ place_key fine s home (store records cache memory) i
  unfolding place_key held_line holds_at
  key-none y = rw (← e, ← h, y) (go (fine && breaks_alone s home (store records cache memory) i))
    where
      go : (u : Bool) → ◌≡◌ {A = ℕ} 0 (cond u 0 0)
      go true = refl
      go false = refl

  module _ (y : t ≡ true) where
    pub key-any : fine ≡ false → l.physical + 1 ≡ place_key fine s home (store records cache memory) i
    unfolding place_key held_line holds_at
    key-any f = rw (f, ← e, ← h, y)

    module _ (f : fine ≡ true) (r : Bool) (q : r ≡ breaks_alone s home (store records cache memory) i) where
      pub key-fine : r ≡ false → l.physical + 1 ≡ place_key fine s home (store records cache memory) i
      unfolding place_key held_line holds_at
      key-fine z = rw (f, ← q, z, ← e, ← h, y)

      pub key-broken : r ≡ true → 0 ≡ place_key fine s home (store records cache memory) i
      unfolding place_key
      key-broken z = rw (f, ← q, z)

pub doubled-line-by : (s : Shape) (home : ℕ → Option Home) (records cache memory keys : List ℕ) (n : ℕ) (r : Option ℕ)
    → keys ≡ keys_of (place_key false s home (store records cache memory)) n → n ≡ s.lines → r ≡ first (repeats keys) 0 (length keys) → r ≡ doubled_line s records
unfolding doubled_line place_key
doubled-line-by s home records cache memory keys n r e q h = searched (held_line s records) keys n s.lines r e q h
