-- Two user accesses by strangers on the plain machine: in either order each gets the same, and the machine is the same afterwards; whatever numbers each of the
-- two brings. Stands on Admitted (what an access goes through, its process holds) and the laws of bytes.
use Prim.Native.Nat.{ℕ, ◌+◌, ◌/◌, ◌≤◌, ◌<◌}
use mathlib.Core.Path.{◌≡◌, refl, sym, ap, ◌∙◌}
use mathlib.Core.Bool.{Bool, true, false, not, ◌&&◌}
use mathlib.Core.List.{List, [], ◌∷◌, ◌++◌}
use native.Mathlib.Omega.{arith}
use lib.Dec.{leb, ltb}
use lib.ListN.{length, get_or}
use lib.Seq.{ext_get_or}
use borrow.Author.Tests.{leb-true, leb-false, ltb-true, ltb-false}
use Rattle.address.specs.Addresses.{page_of}
use Rattle.address.specs.declared.Effective.{Effective}
use Rattle.slots.specs.Slots.{slot_segment}
use Rattle.board.specs.declared.Shape.{Shape}
use Rattle.line_bytes.specs.Bytes.{number, digits, stored}
use Rattle.line_bytes.proofs.Bytes.{length-stored}
use Rattle.stores.specs.declared.Access.{Access}
use Rattle.machine.specs.Refusals.{Row, row, by_table}
use Rattle.machine.specs.Accesses.{slot_word_at, user_global, user_rows}
use Rattle.machine.proofs.Tables.{Passed, passed-more}
use Rattle.store_laws.proofs.Bytes.{splice-match, number_same, stored-out}
use Rattle.promises.specs.Plain.{Plain, Given, given, plain_refused, plain_row1, with_memory, plain_access, address_frame, address_at, address_mapped, address_writes, plain_user}
use Rattle.promises.specs.Runs.{user, plain_reply, plain_step}
use Rattle.promises.specs.Demand3.{holds, holds_for_writing, segment_of_page}
use Rattle.promises.proofs.Admitted.{Admitted, admitted, admitted-holds, admitted-writes}

-- ---- two stores at places that don't meet

abbrev Meet : ℕ → ℕ → ℕ → ℕ → Type 0
Meet at w bt x = (y : ℕ) → at ≤ y → y < at + w → bt ≤ y → y < bt + x → ⊥

stored-keeps : (l m : List ℕ) (at w u y : ℕ) → y < length l → y < length m → get_or l y 0 ≡ get_or m y 0 → get_or (stored l at w u) y 0 ≡ get_or (stored m at w u) y 0
unfolding stored
stored-keeps l m at w u y h g e = splice-match l m (digits w u) at at y y refl h g e

stored-commute : (m : List ℕ) (at w u bt x v : ℕ) → Meet at w bt x → stored (stored m at w u) bt x v ≡ stored (stored m bt x v) at w u
stored-commute m at w u bt x v apart =
    ext_get_or 0 (stored (stored m at w u) bt x v) (stored (stored m bt x v) at w u) (la ∙ sym lb) (λ y h. go y (rw la at h) (leb at y) refl (ltb y (at + w)) refl)
  where
    la : length (stored (stored m at w u) bt x v) ≡ length m
    la = length-stored (stored m at w u) bt x v ∙ length-stored m at w u

    lb : length (stored (stored m bt x v) at w u) ≡ length m
    lb = length-stored (stored m bt x v) at w u ∙ length-stored m bt x v

    -- outside the first store
    out : (y : ℕ) → y < length m → (at ≤ y → y < at + w → ⊥) → get_or (stored (stored m at w u) bt x v) y 0 ≡ get_or (stored (stored m bt x v) at w u) y 0
    out y h n =
        stored-keeps (stored m at w u) m bt x v y (rw (length-stored m at w u) h) h (stored-out m at w u y n) ∙ sym (stored-out (stored m bt x v) at w u y n)

    go : (y : ℕ) → y < length m → (s : Bool) → leb at y ≡ s → (t : Bool) → ltb y (at + w) ≡ t
        → get_or (stored (stored m at w u) bt x v) y 0 ≡ get_or (stored (stored m bt x v) at w u) y 0
    go y h true s true t =
        let n : bt ≤ y → y < bt + x → ⊥ = apart y (leb-true at y s) (ltb-true y (at + w) t) in
        stored-out (stored m at w u) bt x v y n ∙ stored-keeps m (stored m bt x v) at w u y h (rw (length-stored m bt x v) h) (sym (stored-out m bt x v y n))
    go y h true s false t = let g = ltb-false y (at + w) t in out y h (λ a b. omega arith)
    go y h false s t r = let g = leb-false at y s in out y h (λ a b. omega arith)

-- a number that a store doesn't meet
number-stored : (m : List ℕ) (at w bt x v : ℕ) → Meet at w bt x → number (stored m bt x v) at w ≡ number m at w
number-stored m at w bt x v apart = number_same (stored m bt x v) m at at w (λ k h. stored-out m bt x v (at + k) (apart (at + k) (omega arith) (omega arith)))

-- ---- a table refuses by one row, or no row applies

data Decided (rows : List Row) : Type 0 where
  passes : Passed rows → ((f : ℕ → Given) (x : Given) → by_table f rows x ≡ x) → Decided rows
  by_row : (n : ℕ) → ((f : ℕ → Given) (x : Given) → by_table f rows x ≡ f n) → Decided rows

decide : (rows : List Row) → Decided rows
unfolding by_table
decide [] = passes (λ i. refl) (λ f x. refl)
decide (r ∷ rows) = go r.applies refl (decide rows)
  where
    go : (t : Bool) → r.applies ≡ t → Decided rows → Decided (r ∷ rows)
    go true t d = by_row r.number (λ f x. rw t)
    go false t (passes h e) = passes (passed-more r rows t h) (λ f x. rw t (e f x))
    go false t (by_row n e) = by_row n (λ f x. rw t (e f x))

-- ---- what a user access does, whatever the bytes of memory: it is refused, it loads, or it makes one store

module _ (s : Shape) (p : Plain) (process : ℕ) (a : Access) (e : Effective) where
  abbrev place : ℕ
  place = (address_at s p (user_global p.slots process e)).0

  -- the same on every memory of that length
  abbrev Gives : (List ℕ → Given) → Type 0
  Gives f = (n : List ℕ) → length n ≡ length p.memory → plain_user s (with_memory p n) process a e ≡ f n

  data Effect : Type 0 where
    refuses : (k : ℕ) → Gives (λ n. plain_refused (with_memory p n) k) → Effect
    loads : Admitted s p process a e → Gives (λ n. given 0 (number n place a.width) (with_memory p n)) → Effect
    stores : Admitted s p process a e → a.store ≡ true → Gives (λ n. given 0 0 (with_memory p (stored n place a.width a.value))) → Effect

  effect : Effect
  unfolding plain_user plain_access
  effect = go (decide rows)
    where
      rows : List Row
      rows = plain_row1 s p ∷ (user_rows s p.slots p.tag process a e
          ++ (row 8 (not (address_mapped s p (user_global p.slots process e))) ∷ row 9 (a.store && not (address_writes s p (user_global p.slots process e))) ∷ []))

      done : Passed rows → ((f : ℕ → Given) (x : Given) → by_table f rows x ≡ x) → (t : Bool) → a.store ≡ t → Effect
      done h z true t = stores (admitted s p process a e h) t (λ n l. rw l (z (plain_refused (with_memory p n)) _ ∙ rw t))
      done h z false t = loads (admitted s p process a e h) (λ n l. rw l (z (plain_refused (with_memory p n)) _ ∙ rw t))

      go : Decided rows → Effect
      go (passes h z) = done h z a.store refl
      go (by_row k z) = refuses k (λ n l. rw l (z (plain_refused (with_memory p n)) _))

  -- memory after it
  changed : Effect → List ℕ → List ℕ
  changed (refuses k h) n = n
  changed (loads r h) n = n
  changed (stores r t h) n = stored n place a.width a.value

  length-changed : (x : Effect) (n : List ℕ) → length (changed x n) ≡ length n
  unfolding changed
  length-changed (refuses k h) n = refl
  length-changed (loads r h) n = refl
  length-changed (stores r t h) n = length-stored n place a.width a.value

  after-changed : (x : Effect) (n : List ℕ) → length n ≡ length p.memory → (plain_user s (with_memory p n) process a e).after ≡ with_memory p (changed x n)
  unfolding changed
  after-changed (refuses k h) n l = ap (λ (g : Given). g.after) (h n l)
  after-changed (loads r h) n l = ap (λ (g : Given). g.after) (h n l)
  after-changed (stores r t h) n l = ap (λ (g : Given). g.after) (h n l)

-- ---- two accesses

module _ (s t : Shape) (p : Plain) (first second : ℕ) (a c : Access) (e f : Effective) where
  abbrev place1 : ℕ
  place1 = place s p first a e

  abbrev place2 : ℕ
  place2 = place t p second c f

  -- two that meet go through one segment
  one-segment : Admitted s p first a e → Admitted t p second c f → (y : ℕ) → place1 ≤ y → y < place1 + a.width → place2 ≤ y → y < place2 + c.width
      → slot_segment (slot_word_at p.slots second f) ≡ slot_segment (slot_word_at p.slots first e)
  one-segment r q y h g i j =
      let u : y / 4096 ≡ address_frame s p (user_global p.slots first e) = omega (arith, r.room) in
      let v : y / 4096 ≡ address_frame t p (user_global p.slots second f) = omega (arith, q.room) in
      let pages : page_of (user_global p.slots first e) ≡ page_of (user_global p.slots second f) =
      sym r.mapped.page_is ∙ ap (λ (k : ℕ). get_or p.words k 0 / 4) (sym u ∙ v) ∙ q.mapped.page_is in
      sym q.segment_is ∙ sym (ap segment_of_page pages) ∙ r.segment_is

  module _ (writes : (segment : ℕ) → holds_for_writing p.slots second segment ≡ true → holds p.slots first segment ≡ true → ⊥) where
    -- a store of the second doesn't meet the first
    stores_apart : Admitted s p first a e → Admitted t p second c f → c.store ≡ true → Meet place1 a.width place2 c.width
    stores_apart r q st y h g i j =
        writes (slot_segment (slot_word_at p.slots second f)) (admitted-writes t p second c f q st)
        (rw (one-segment r q y h g i j) (admitted-holds s p first a e r))

    -- so it leaves what the first gets
    gets-same : (x : Effect s p first a e) (y : Effect t p second c f)
        → plain_reply (plain_user s (with_memory p (changed t p second c f y p.memory)) first a e) ≡ plain_reply (plain_user s p first a e)
    unfolding changed
    gets-same x (refuses k h) = refl
    gets-same x (loads q h) = refl
    gets-same (refuses k z) (stores q st h) =
        ap plain_reply (z _ (length-stored p.memory place2 c.width c.value)) ∙ sym (ap plain_reply (z p.memory refl))
    gets-same (loads r z) (stores q st h) =
        ap plain_reply (z _ (length-stored p.memory place2 c.width c.value))
        ∙ ap (λ (v : ℕ). record { number = 0; value = v }) (number-stored p.memory place1 a.width place2 c.width c.value (stores_apart r q st))
        ∙ sym (ap plain_reply (z p.memory refl))
    gets-same (stores r rt z) (stores q st h) =
        ap plain_reply (z _ (length-stored p.memory place2 c.width c.value)) ∙ sym (ap plain_reply (z p.memory refl))

    -- and memory is the same in either order
    changes-commute : (x : Effect s p first a e) (y : Effect t p second c f)
        → changed t p second c f y (changed s p first a e x p.memory) ≡ changed s p first a e x (changed t p second c f y p.memory)
    unfolding changed
    changes-commute (refuses k z) y = refl
    changes-commute (loads r z) y = refl
    changes-commute (stores r rt z) (refuses k h) = refl
    changes-commute (stores r rt z) (loads q h) = refl
    changes-commute (stores r rt z) (stores q st h) =
        stored-commute p.memory place1 a.width a.value place2 c.width c.value (stores_apart r q st)

    pub reply-same : plain_reply (plain_step s (plain_step t p (user second c f)).after (user first a e)) ≡ plain_reply (plain_step s p (user first a e))
    unfolding plain_step
    reply-same =
        let y = effect t p second c f in
        ap (λ (q : Plain). plain_reply (plain_user s q first a e)) (after-changed t p second c f y p.memory refl) ∙ gets-same (effect s p first a e) y

    pub after_same : (plain_step t (plain_step s p (user first a e)).after (user second c f)).after ≡ (plain_step s (plain_step t p (user second c f)).after (user first a e)).after
    unfolding plain_step
    after_same =
        let x = effect s p first a e in
        let y = effect t p second c f in
        let m = p.memory in
        ap (λ (q : Plain). (plain_user t q second c f).after) (after-changed s p first a e x m refl)
        ∙ after-changed t p second c f y (changed s p first a e x m) (length-changed s p first a e x m)
        ∙ ap (with_memory p) (changes-commute x y)
        ∙ sym (ap (λ (q : Plain). (plain_user s q first a e).after) (after-changed t p second c f y m refl)
        ∙ after-changed s p first a e x (changed t p second c f y m) (length-changed t p second c f y m))

-- an access keeps the slots
pub slots_same : (s : Shape) (p : Plain) (process : ℕ) (a : Access) (e : Effective) → (plain_step s p (user process a e)).after.slots ≡ p.slots
unfolding plain_step
slots_same s p process a e = ap (λ (q : Plain). q.slots) (after-changed s p process a e (effect s p process a e) p.memory refl)
