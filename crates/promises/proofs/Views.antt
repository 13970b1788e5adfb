-- Two plain machines that differ in memory only, and agree on the pages of some segments: what each call keeps of that.
-- Stands on Bytes, Zeroed, Maps, Admitted and the table laws of `machine`.
use Rattle.std.specs.Prelude.{Some}
use Prim.Native.Nat.{ℕ, ◌+◌, ◌*◌, ◌/◌, ◌%◌, ◌≤◌, ◌<◌}
use mathlib.Core.Path.{◌≡◌, refl, sym, ap, ◌∙◌}
use mathlib.Core.Bool.{Bool, true, false, not, ◌&&◌, cond}
use mathlib.Core.List.{List, [], ◌∷◌}
use native.Mathlib.Omega.{arith}
use lib.Dec.{eqb, leb, ltb}
use lib.ListN.{length, get_or, set}
use lib.Seq.{get_or-set_same, get_or-set_other}
use borrow.Author.Tests.{eqb-true, eqb-false, ltb-true, lt-ltb, not-false}
use Rattle.address.specs.Layout.{page_lines}
use Rattle.address.specs.Addresses.{page_of, region_of, ordinary_page}
use Rattle.address.specs.declared.Effective.{Effective}
use Rattle.address.specs.declared.Global.{Global}
use Rattle.address.specs.declared.Physical.{Physical}
use Rattle.address.specs.declared.Region.{Region}
use Rattle.address.specs.declared.Region.TheVariants.{Uncached, Cached, PageTable, Ordinary}
use Rattle.slots.specs.Slots.{slot_segment}
use Rattle.pages.specs.Pages.{names_page, frame_word, word_writes, mapped_to}
use Rattle.board.specs.declared.Shape.{Shape}
use Rattle.board.proofs.Bools.{clash, and_right}
use Rattle.line_bytes.specs.Bytes.{number, digits, stored, line_of, zeroed_frame}
use Rattle.stores.specs.declared.Access.{Access}
use Rattle.line_bytes.proofs.Bytes.{length-stored}
use Rattle.machine.specs.Refusals.{Row, row, by_table, is_frame, is_physical_line, is_mapped}
use Rattle.machine.specs.Accesses.{slot_word_at, user_global}
use Rattle.machine.specs.Calls.{found_frame, move_rows}
use Rattle.machine.proofs.Tables.{Passed, passed-more, table_done, table-both, table-cases}
use Rattle.promises.specs.Plain.{Plain, Given, given, plain_refused, plain_row1, with_memory, plain_words, plain_access, address_frame, address_at, plain_user, supervisor_at, plain_supervisor, plain_attach, plain_detach, plain_map, plain_unmap, plain_protect, plain_move, plain_flush, plain_tagging, plain_load_and_map, plain_drop_tag, plain_look_table, plain_look}
use Rattle.promises.specs.Runs.{Supervisor, access, attach, detach, map, unmap, protect, move, flush_all, tag, load_and_map, drop_tag, user, supervisor, plain_reply, plain_supervise, plain_step}
use Rattle.promises.specs.Demand3.{holds, holds_for_writing, segment_of_page, Moves, moves, nothing, moves_of}
use Rattle.store_laws.proofs.Bytes.{splice-match, number_same, stored-out, line_same, line-at}
use Rattle.store_laws.proofs.Zeroed.{length-zeroed, zeroed-in, zeroed-out}
use Rattle.page_laws.proofs.Maps.{names-word, frame-word-page, Mapped, mapped-frame, found_at}
use Rattle.promises.proofs.Shapes.{PlainShaped, plain-shaped}
use Rattle.promises.proofs.Admitted.{UserPassed, Admitted, admitted, admitted-holds, admitted-writes}

-- ---- views

-- two memories of one length that agree on every frame from U up whose word names an ordinary page of a segment of S
pub record View (S : ℕ → Bool) (s : Shape) (words m n : List ℕ) : Type 0 where
  pub same_length : length m ≡ length n
  pub agree : (x page : ℕ) → s.uncached ≤ x / 4096 → x / 4096 < s.frames → ordinary_page page ≡ true
      → names_page (get_or words (x / 4096) 0) page ≡ true → S (segment_of_page page) ≡ true → get_or m x 0 ≡ get_or n x 0

-- q is p but for its memory, and the two memories are a view
pub record AlikeIn (S : ℕ → Bool) (s : Shape) (p q : Plain) : Type 0 where
  pub same_rest : q ≡ with_memory p q.memory
  pub view : View S s p.words p.memory q.memory

view-same : (S : ℕ → Bool) (s : Shape) (words m : List ℕ) → View S s words m m
view-same S s words m = record { same_length = refl; agree = λ x page a b c d e. refl }

-- ---- pages that are moved in

-- the plain machine's look, where it gives a line
look-done : (s : Shape) (p : Plain) (line : ℕ) → (plain_row1 s p).applies ≡ false → line < page_lines * s.frames → plain_look s p line ≡ line_of p.memory line
unfolding plain_look
look-done s p line f b =
    let l = lt-ltb line (page_lines * s.frames) b in
    table_done (λ n. []) (plain_look_table s p line) (line_of p.memory line)
    (passed-more (plain_row1 s p) (row 2 (not (is_physical_line s line)) ∷ []) f (passed-more (row 2 (not (is_physical_line s line))) [] (rw l) (λ i. refl)))

-- what `handed_by` is on the plain machine
unfoldable pub plain_handed : (ℕ → Bool) → ℕ → Shape → Plain → Supervisor → Moves → List ℕ
plain_handed S i s p c (moves page new) =
    cond (eqb (plain_supervise s p c).number 0 && (S (segment_of_page new) && not (S (segment_of_page page))))
    (plain_look s p (found_frame (mapped_to s p.words page) * page_lines + i)) []
plain_handed S i s p c nothing = []

-- ---- each call, carried out on both

-- the same bytes stored at the same place
view-stored : (S : ℕ → Bool) (s : Shape) (words m n : List ℕ) (at w u : ℕ) → length m ≡ 4096 * s.frames → View S s words m n
    → View S s words (stored m at w u) (stored n at w u)
unfolding stored
view-stored S s words m n at w u b v = record {
  same_length = length-stored m at w u ∙ v.same_length ∙ sym (length-stored n at w u);
  agree = λ x page f g o i k. splice-match m n (digits w u) at at x x refl (omega arith) (omega (arith, v.same_length)) (v.agree x page f g o i k);
}

-- a frame's word changed
view-reword : (S : ℕ → Bool) (s : Shape) (words m n m' n' : List ℕ) (f w : ℕ) → View S s words m n → f < length words → length m' ≡ length n'
    → ((x page : ℕ) → x / 4096 ≡ f → s.uncached ≤ x / 4096 → x / 4096 < s.frames → ordinary_page page ≡ true → names_page w page ≡ true → S (segment_of_page page) ≡ true
    → get_or m' x 0 ≡ get_or n' x 0)
    → ((x : ℕ) → (x / 4096 ≡ f → ⊥) → get_or m x 0 ≡ get_or n x 0 → get_or m' x 0 ≡ get_or n' x 0)
    → View S s (set words f w) m' n'
view-reword S s words m n m' n' f w v b e new old = record { same_length = e; agree = λ x page g h o i k. go x page g h o i k (eqb (x / 4096) f) refl }
  where
    go : (x page : ℕ) → s.uncached ≤ x / 4096 → x / 4096 < s.frames → ordinary_page page ≡ true → names_page (get_or (set words f w) (x / 4096) 0) page ≡ true
        → S (segment_of_page page) ≡ true → (t : Bool) → eqb (x / 4096) f ≡ t → get_or m' x 0 ≡ get_or n' x 0
    go x page g h o i k true t =
        let q : x / 4096 ≡ f = eqb-true (x / 4096) f t in
        new x page q g h o (rw (q, get_or-set_same words f w 0 b) at i) k
    go x page g h o i k false t =
        let q : x / 4096 ≡ f → ⊥ = eqb-false (x / 4096) f t in
        old x q (v.agree x page g h o (rw (get_or-set_other words f (x / 4096) w 0 q) at i) k)

at_same : (s : Shape) (p : Plain) (n : List ℕ) (g : Global) (r : Region) → supervisor_at s p g r ≡ supervisor_at s (with_memory p n) g r
unfolding supervisor_at
at_same s p n g Uncached = refl
at_same s p n g Cached = refl
at_same s p n g PageTable = refl
at_same s p n g Ordinary = refl

module _ (S : ℕ → Bool) (s : Shape) (p : Plain) (n : List ℕ) (v : View S s p.words p.memory n) where
  abbrev q : Plain
  q = with_memory p n

  view-now : AlikeIn S s p q
  view-now = record { same_rest = refl; view = v }

  -- one table on both: number 1 asks the same of both
  view-tables : {A B : Type 0} (R : A → B → Type 0) (f : ℕ → A) (g : ℕ → B) → ((k : ℕ) → R (f k) (g k)) → (rows : List Row) (x : A) (y : B)
      → (Passed (plain_row1 s p ∷ rows) → R x y) → R (by_table f (plain_row1 s p ∷ rows) x) (by_table g (plain_row1 s q ∷ rows) y)
  view-tables R f g refusals rows x y h = rw (← v.same_length) (table-both R f g refusals (plain_row1 s p ∷ rows) x y h)

  view-table : (rows : List Row) (x y : Given) → (Passed (plain_row1 s p ∷ rows) → AlikeIn S s x.after y.after)
      → AlikeIn S s (by_table (plain_refused p) (plain_row1 s p ∷ rows) x).after (by_table (plain_refused q) (plain_row1 s q ∷ rows) y).after
  view-table = view-tables (λ (x y : Given). AlikeIn S s x.after y.after) (plain_refused p) (plain_refused q) (λ k. view-now)

  view-access : PlainShaped s p → (at : Physical) (a : Access) → AlikeIn S s (plain_access p at a).after (plain_access q at a).after
  unfolding plain_access
  view-access f at a = go a.store
    where
      go : (t : Bool) → AlikeIn S s (cond t (given 0 0 (with_memory p (stored p.memory at.0 a.width a.value))) (given 0 (number p.memory at.0 a.width) p)).after
          (cond t (given 0 0 (with_memory q (stored n at.0 a.width a.value))) (given 0 (number n at.0 a.width) q)).after
      go true = record { same_rest = refl; view = view-stored S s p.words p.memory n at.0 a.width a.value f.memory_is v }
      go false = view-now

  view-user : (process : ℕ) (a : Access) (e : Effective) → AlikeIn S s (plain_user s p process a e).after (plain_user s q process a e).after
  unfolding plain_user
  view-user process a e = view-table _ _ _ (λ h. view-access (plain-shaped s p (h 0)) (address_at s p (user_global p.slots process e)) a)

  view-reworded : (f w : ℕ) (m' n' : List ℕ) → f < length p.words → length m' ≡ length n'
      → ((x page : ℕ) → x / 4096 ≡ f → s.uncached ≤ x / 4096 → x / 4096 < s.frames → ordinary_page page ≡ true → names_page w page ≡ true → S (segment_of_page page) ≡ true
      → get_or m' x 0 ≡ get_or n' x 0)
      → ((x : ℕ) → (x / 4096 ≡ f → ⊥) → get_or p.memory x 0 ≡ get_or n x 0 → get_or m' x 0 ≡ get_or n' x 0)
      → AlikeIn S s (plain_words p (set p.words f w) m') (plain_words q (set p.words f w) n')
  view-reworded f w m' n' b e new old = record { same_rest = refl; view = view-reword S s p.words p.memory n m' n' f w v b e new old }

  view-map : (page frame : ℕ) (write : Bool) → AlikeIn S s (plain_map s p page frame write).after (plain_map s q page frame write).after
  unfolding plain_map
  view-map page frame write = view-table _ _ _ (λ h.
      let f = plain-shaped s p (h 0) in
      let r = and_right (ordinary_page page) (is_frame s frame) (not-false _ (h 1)) in
      let b = ltb-true frame s.frames (and_right (leb s.uncached frame) (ltb frame s.frames) r) in
      let w = f.words_are in
      let c = f.memory_is in
      let l = v.same_length in
      view-reworded frame (frame_word page write) (zeroed_frame p.memory frame) (zeroed_frame n frame) (omega arith)
      (length-zeroed p.memory frame ∙ v.same_length ∙ sym (length-zeroed n frame))
      (λ x page' e g i o d k. zeroed-in p.memory frame x e (omega arith) ∙ sym (zeroed-in n frame x e (omega arith)))
      (λ x e g. zeroed-out p.memory frame x e ∙ g ∙ sym (zeroed-out n frame x e)))

  abbrev found : ℕ → ℕ
  found page = found_frame (mapped_to s p.words page)

  page-found : (page : ℕ) → not (is_mapped (mapped_to s p.words page)) ≡ false → Mapped s p.words page (found page)
  page-found page h = mapped-frame s p.words page (found page) (found_at (mapped_to s p.words page) h)

  view-unmap : (page : ℕ) → AlikeIn S s (plain_unmap s p page).after (plain_unmap s q page).after
  unfolding plain_unmap
  view-unmap page = view-table _ _ _ (λ h.
      view-reworded (found page) 0 p.memory n (page-found page (h 2)).inside v.same_length
      (λ x page' e g i o d k. let z = names-word 0 page' d in absurd (omega (arith, z.1))) (λ x e g. g))

  view-protect : (page : ℕ) (write : Bool) → AlikeIn S s (plain_protect s p page write).after (plain_protect s q page write).after
  unfolding plain_protect
  view-protect page write = view-table _ _ _ (λ h.
      let m = page-found page (h 2) in
      view-reworded (found page) (frame_word page write) p.memory n m.inside v.same_length
      (λ x page' e g i o d k.
      let z : page ≡ page' = sym (frame-word-page page write) ∙ (names-word (frame_word page write) page' d).0 in
      v.agree x page g i m.ordinary (rw e m.names) (rw z k))
      (λ x e g. g))

  module _ (page new : ℕ) (same : (i : ℕ) → i < page_lines → plain_handed S i s p (move page new) (moves page new) ≡ plain_handed S i s q (move page new) (moves page new))
      (h : Passed (plain_row1 s p ∷ move_rows s p.words page new)) where
    move-zero : (plain_supervise s p (move page new)).number ≡ 0
    unfolding plain_supervise plain_move
    move-zero = ap (λ (x : Given). x.number) (table_done (plain_refused p) (plain_row1 s p ∷ move_rows s p.words page new) _ h)

    move-zero-too : (plain_supervise s q (move page new)).number ≡ 0
    unfolding plain_supervise plain_move
    move-zero-too = sym (view-tables (λ (x y : Given). x.number ≡ y.number) (plain_refused p) (plain_refused q) (λ k. refl) _ _ _ (λ _. refl)) ∙ move-zero

    -- a page that comes from elsewhere shows the same in both
    handed-shown : S (segment_of_page new) ≡ true → S (segment_of_page page) ≡ false → (i : ℕ) → i < page_lines
        → plain_look s p (found page * page_lines + i) ≡ plain_look s q (found page * page_lines + i)
    unfolding plain_handed
    handed-shown a b i l = let y = move-zero in let z = move-zero-too in rw (y, z, a, b) at (same i l)

    moved-byte : (x : ℕ) → x / 4096 ≡ found page → s.uncached ≤ x / 4096 → x / 4096 < s.frames → S (segment_of_page new) ≡ true
        → (t : Bool) → S (segment_of_page page) ≡ t → get_or p.memory x 0 ≡ get_or n x 0
    moved-byte x e g i k true t = let m = page-found page (h 2) in v.agree x page g i m.ordinary (rw e m.names) t
    moved-byte x e g i k false t =
        let l = found page * page_lines + x / 16 % page_lines in
        let b : l < page_lines * s.frames = omega arith in
        let z : 16 * l + x % 16 ≡ x = omega arith in
        let f : (plain_row1 s q).applies ≡ false = rw (← v.same_length) (h 0) in
        let r = sym (look-done s p l (h 0) b) ∙ handed-shown k t (x / 16 % page_lines) (omega arith) ∙ look-done s q l f b in
        rw z at (line-at p.memory n l l (x % 16) r (omega arith))

  -- a page that is moved: its bytes are the same in both, because it is of a segment of S, or because the premise says so
  view-move : (page new : ℕ) → ((i : ℕ) → i < page_lines → plain_handed S i s p (move page new) (moves page new) ≡ plain_handed S i s q (move page new) (moves page new))
      → AlikeIn S s (plain_move s p page new).after (plain_move s q page new).after
  unfolding plain_move
  view-move page new same = view-table _ _ _ (λ h.
      let m = page-found page (h 2) in
      let write = word_writes (get_or p.words (found page) 0) in
      view-reworded (found page) (frame_word new write) p.memory n m.inside v.same_length
      (λ x page' e g i o d k.
      let z : new ≡ page' = sym (frame-word-page new write) ∙ (names-word (frame_word new write) page' d).0 in
      moved-byte page new same h x e g i (rw z k) (S (segment_of_page page)) refl)
      (λ x e g. g))

  view-supervise : (c : Supervisor) → ((i : ℕ) → i < page_lines → plain_handed S i s p c (moves_of c) ≡ plain_handed S i s q c (moves_of c))
      → AlikeIn S s (plain_supervise s p c).after (plain_supervise s q c).after
  unfolding plain_supervise moves_of plain_supervisor plain_attach plain_detach plain_flush plain_tagging plain_load_and_map plain_drop_tag
  view-supervise (access a g) same =
      view-table _ _ _ (λ h. rw (← at_same s p n g (region_of g)) (view-access (plain-shaped s p (h 0)) (supervisor_at s p g (region_of g)) a))
  view-supervise (attach process slot segment write) same = view-table _ _ _ (λ h. record { same_rest = refl; view = v })
  view-supervise (detach process slot) same = view-table _ _ _ (λ h. record { same_rest = refl; view = v })
  view-supervise (map page frame write) same = view-map page frame write
  view-supervise (unmap page) same = view-unmap page
  view-supervise (protect page write) same = view-protect page write
  view-supervise (move page new) same = view-move page new same
  view-supervise flush_all same = view-table _ _ _ (λ h. view-now)
  view-supervise (tag name) same = view-table _ _ _ (λ h. record { same_rest = refl; view = v })
  view-supervise (load_and_map line) same = view-table _ _ _ (λ h. record { same_rest = refl; view = v })
  view-supervise drop_tag same = view-table _ _ _ (λ h. record { same_rest = refl; view = v })

  -- ---- an access of another process, carried out on one

  module _ (other : ℕ) (a : Access) (e : Effective) where
    abbrev g : Global
    g = user_global p.slots other e

    view-stored-aside : Admitted s p other a e → S (segment_of_page (page_of g)) ≡ false → View S s p.words (stored p.memory (address_at s p g).0 a.width a.value) n
    view-stored-aside r h = record {
      same_length = length-stored _ _ _ _ ∙ v.same_length;
      agree = λ x page f b o i k. stored-out p.memory (address_at s p g).0 a.width a.value x
          (λ low high.
          let z : x / 4096 ≡ address_frame s p g = omega (arith, r.room) in
          let d = names-word (get_or p.words (x / 4096) 0) page i in
          let y : page_of g ≡ page = sym r.mapped.page_is ∙ rw (← z) d.0 in
          clash (S (segment_of_page page)) k (rw (← y) h))
          ∙ v.agree x page f b o i k;
    }

    view-aside-done : UserPassed s p other a e → (a.store ≡ true → Admitted s p other a e → S (segment_of_page (page_of g)) ≡ false)
        → AlikeIn S s (plain_access p (address_at s p g) a).after q
    unfolding plain_access
    view-aside-done h k = go a.store refl
      where
        go : (t : Bool) → a.store ≡ t
            → AlikeIn S s (cond t (given 0 0 (with_memory p (stored p.memory (address_at s p g).0 a.width a.value))) (given 0 (number p.memory (address_at s p g).0 a.width) p)).after q
        go true t = record { same_rest = refl; view = view-stored-aside (admitted s p other a e h) (k t (admitted s p other a e h)) }
        go false t = view-now

    -- the other process writes to no segment of S
    view-aside : ((segment : ℕ) → other < s.processes → holds_for_writing p.slots other segment ≡ true → S segment ≡ false)
        → AlikeIn S s (plain_user s p other a e).after q
    unfolding plain_user
    view-aside k =
        table-cases (λ (x : Given). AlikeIn S s x.after q) (plain_refused p) (λ _. view-now) _ _ (λ h. view-aside-done h (λ st r. rw r.segment_is (k (slot_segment (slot_word_at p.slots other e)) r.process_low (admitted-writes s p other a e r st))))

  -- ---- an access of the process itself: the same number and value

  module _ (process : ℕ) (a : Access) (e : Effective) where
    abbrev own : Global
    own = user_global p.slots process e

    view-byte : Admitted s p process a e → S (segment_of_page (page_of own)) ≡ true → (i : ℕ) → i < a.width
        → get_or p.memory ((address_at s p own).0 + i) 0 ≡ get_or n ((address_at s p own).0 + i) 0
    view-byte r k i h =
        let z : ((address_at s p own).0 + i) / 4096 ≡ address_frame s p own = omega (arith, r.room) in
        let b : address_frame s p own < s.frames = omega (arith, r.mapped.inside, r.facts.words_are) in
        v.agree ((address_at s p own).0 + i) (page_of own) (rw z r.mapped.from) (rw z b) r.mapped.ordinary (rw z r.mapped.names) k

    view-done : number p.memory (address_at s p own).0 a.width ≡ number n (address_at s p own).0 a.width
        → plain_reply (plain_access p (address_at s p own) a) ≡ plain_reply (plain_access q (address_at s p own) a)
    unfolding plain_access
    view-done h = go a.store
      where
        go : (t : Bool) → plain_reply (cond t (given 0 0 (with_memory p (stored p.memory (address_at s p own).0 a.width a.value))) (given 0 (number p.memory (address_at s p own).0 a.width) p))
            ≡ plain_reply (cond t (given 0 0 (with_memory q (stored n (address_at s p own).0 a.width a.value))) (given 0 (number n (address_at s p own).0 a.width) q))
        go true = refl
        go false = rw h

    -- the process holds only segments of S
    view-reply : ((segment : ℕ) → holds p.slots process segment ≡ true → S segment ≡ true)
        → plain_reply (plain_user s p process a e) ≡ plain_reply (plain_user s q process a e)
    unfolding plain_user
    view-reply k =
        view-tables (λ (x y : Given). plain_reply x ≡ plain_reply y) (plain_refused p) (plain_refused q) (λ _. refl) _ _ _
        (λ h.
        let r = admitted s p process a e h in
        view-done (number_same p.memory n (address_at s p own).0 (address_at s p own).0 a.width
        (view-byte r (rw r.segment_is (k (slot_segment (slot_word_at p.slots process e)) (admitted-holds s p process a e r))))))

  -- ---- the bytes of a page of a segment of S

  view-look : (page frame line : ℕ) → S (segment_of_page page) ≡ true → mapped_to s p.words page ≡ Some frame → line / page_lines ≡ frame
      → plain_look s p line ≡ plain_look s q line
  unfolding plain_look
  view-look page frame line i e l =
      view-tables (λ (x y : List ℕ). x ≡ y) (λ _. []) (λ _. []) (λ _. refl) _ _ _
      (λ h.
      let f = plain-shaped s p (h 0) in
      let m = mapped-frame s p.words page frame e in
      let b : frame < s.frames = omega (arith, m.inside, f.words_are) in
      let c = f.memory_is in
      line_same p.memory n line v.same_length
      (λ k g.
      let z : (16 * line + k) / 4096 ≡ frame = omega arith in
      v.agree (16 * line + k) page (rw z m.from) (rw z b) m.ordinary (rw z m.names) i))

-- ---- the same of any two machines that are alike

module _ (S : ℕ → Bool) (s : Shape) (p q : Plain) (h : AlikeIn S s p q) where
  pub alike-user : (process : ℕ) (a : Access) (e : Effective) → AlikeIn S s (plain_step s p (user process a e)).after (plain_step s q (user process a e)).after
  unfolding plain_step
  alike-user process a e = rw h.same_rest (view-user S s p q.memory h.view process a e)

  pub alike-supervise : (c : Supervisor) → ((i : ℕ) → i < page_lines → plain_handed S i s p c (moves_of c) ≡ plain_handed S i s q c (moves_of c))
      → AlikeIn S s (plain_step s p (supervisor c)).after (plain_step s q (supervisor c)).after
  unfolding plain_step
  alike-supervise c same = rw h.same_rest (view-supervise S s p q.memory h.view c (λ i l. rw h.same_rest at (same i l)))

  pub alike-aside : (other : ℕ) (a : Access) (e : Effective)
      → ((segment : ℕ) → other < s.processes → holds_for_writing p.slots other segment ≡ true → S segment ≡ false)
      → AlikeIn S s (plain_step s p (user other a e)).after q
  unfolding plain_step
  alike-aside other a e k = rw h.same_rest (view-aside S s p q.memory h.view other a e k)

  pub alike-reply : (process : ℕ) (a : Access) (e : Effective) → ((segment : ℕ) → holds p.slots process segment ≡ true → S segment ≡ true)
      → plain_reply (plain_step s p (user process a e)) ≡ plain_reply (plain_step s q (user process a e))
  unfolding plain_step
  alike-reply process a e k = rw h.same_rest (view-reply S s p q.memory h.view process a e k)

  pub alike-look : (page frame line : ℕ) → S (segment_of_page page) ≡ true → mapped_to s p.words page ≡ Some frame → line / page_lines ≡ frame
      → plain_look s p line ≡ plain_look s q line
  alike-look page frame line i e l = rw h.same_rest (view-look S s p q.memory h.view page frame line i e l)

  pub alike-words : p.words ≡ q.words
  alike-words = sym (ap (λ (x : Plain). x.words) h.same_rest)

-- the other way round
pub alike-other : (S : ℕ → Bool) (s : Shape) (p q : Plain) → AlikeIn S s p q → AlikeIn S s q p
alike-other S s p q h = rw h.same_rest (go h.view)
  where
    go : View S s p.words p.memory q.memory → AlikeIn S s (with_memory p q.memory) p
    go v = record {
      same_rest = refl;
      view = record { same_length = sym v.same_length; agree = λ x page a b c d e. sym (v.agree x page a b c d e) };
    }

pub alike_same : (S : ℕ → Bool) (s : Shape) (p : Plain) → AlikeIn S s p p
alike_same S s p = record { same_rest = refl; view = view-same S s p.words p.memory }
