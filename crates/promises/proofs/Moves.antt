-- Move hands a page over: its table, what it makes of the page map, and what look shows. Stands on Maps, Leaving and demand 2.
use Rattle.std.specs.Prelude.{Some, None}
use Rattle.std.proofs.lemmas.Option.{none-some}
use Prim.Native.Nat.{ℕ, ◌+◌, ◌*◌, ◌/◌, ◌<◌}
use mathlib.Core.Logic.{◌≢◌}
use mathlib.Core.Path.{◌≡◌, refl, sym, ap, ◌∙◌}
use mathlib.Core.Bool.{Bool, true, false, ◌&&◌}
use mathlib.Core.List.{List, ◌∷◌}
use native.Mathlib.Omega.{arith}
use lib.Dec.{leb}
use lib.ListN.{length, get_or, set, length-set}
use lib.Seq.{get_or-set_same, get_or-set_other}
use borrow.Author.Tests.{ne_eqb, leb-true, not-false}
use Rattle.address.specs.Layout.{page_lines, first_page, last_page, table_bytes, table_index}
use Rattle.address.specs.Addresses.{prefix_of, page_of, region_of, ordinary_page, page_of_name}
use Rattle.address.specs.declared.Effective.{Effective}
use Rattle.address.specs.declared.Global.{Global}
use Rattle.address.specs.declared.Region.TheVariants.{Ordinary}
use Rattle.pages.specs.Pages.{frame_word, word_writes, mapped_to}
use Rattle.pages.proofs.Frames.{mapped-ordinary}
use Rattle.board.specs.declared.Shape.{Shape}
use Rattle.board.proofs.Bools.{clash, and_left, and_right}
use Rattle.lines.specs.Records.{line_at}
use Rattle.lines.specs.Holds.{holds_at}
use Rattle.machine.specs.Boards.{Board, Outcome, fits_board, Fresh, refused, done, with_pages, pages_of}
use Rattle.stores.specs.declared.Access.{Access}
use Rattle.machine.specs.Refusals.{by_table, is_ordinary, is_mapped}
use Rattle.machine.specs.Rising.{rising}
use Rattle.machine.specs.Accesses.{user_global, user_access, supervisor_access}
use Rattle.machine.specs.Calls.{found_frame, move_rows, move_table, moved, move_page}
use Rattle.machine.specs.Looks.{look}
use Rattle.machine.proofs.Tables.{Passed, table_done, table-map}
use Rattle.machine.proofs.Rising.{tables-rise, zero-passed}
use Rattle.promises.specs.Plain.{Plain, Given, plain_global, plain_user, plain_supervisor, plain_row1, plain_refused, plain_done, plain_words, plain_move, plain_look}
use Rattle.promises.specs.Runs.{access, move, Call, user, supervisor, supervise, step, after, plain_supervise, plain_step, plain_of}
use Rattle.promises.specs.Sound.{PagesOnce, shown_lines}
use Rattle.promises.specs.Moves.{HandedOver, LeavesRest, MovesHandOver}
use Rattle.page_laws.proofs.Maps.{frame-word-page, frame-word-writes, frame-word-names, word-names-not, mapped-frame, mapped-set, mapped-new, mapped-lost, found_at, found_nothing}
use Rattle.visits.specs.Visits.{move_visit}
use Rattle.store_laws.proofs.Sweeps.{swept-cache}
use Rattle.page_laws.proofs.Remap.{moved-names, moved-kept, moved-elsewhere}
use Rattle.promises.proofs.Shapes.{board-shaped}
use Rattle.promises.proofs.Related.{lengths-same}
use Rattle.promises.proofs.Soundness.{Stands, stands_of, stands-fresh}
use Rattle.promises.proofs.Shown.{shows-some}
use Rattle.promises.proofs.Follows.{follows-after}
use Rattle.promises.proofs.Demand2.{stepped, look-plain}
use Rattle.promises.proofs.Demand3.{unfit-after}

-- ---- a page that is not mapped

-- an address of an ordinary page is ordinary
page-region : (g : Global) → ordinary_page (page_of g) ≡ true → region_of g ≡ Ordinary
unfolding region_of
page-region g o =
    let l = leb-true first_page (page_of g) (and_left (leb first_page (page_of g)) (leb (page_of g) last_page) o) in
    let h = leb-true (page_of g) last_page (and_right (leb first_page (page_of g)) (leb (page_of g) last_page) o) in
    rw (ne_eqb (prefix_of g) 0 (λ e. omega arith), ne_eqb (prefix_of g) 1 (λ e. omega arith), ne_eqb (g.0 / table_bytes) table_index (λ e. omega arith))

-- the plain machine does no access to it: row 8
module _ (s : Shape) (p : Plain) (page : ℕ) (none : mapped_to s p.words page ≡ None) where
  plain-user-refused : (process : ℕ) (a : Access) (e : Effective) → page_of (plain_global p process e) ≡ page → (plain_user s p process a e).number ≡ 0 → ⊥
  unfolding plain_user rising is_mapped
  plain-user-refused process a e q z =
      let h = zero-passed 1 _ _ (omega arith) refl (sym (table-map (λ (x : Given). x.number) (plain_refused p) _ _) ∙ z) in
      let m : is_mapped (mapped_to s p.words (page_of (plain_global p process e))) ≡ false = rw (q, none) in
      clash _ (not-false _ (h 7)) m

  plain-supervisor-refused : ordinary_page page ≡ true → (a : Access) (g : Global) → page_of g ≡ page → (plain_supervisor s p a g).number ≡ 0 → ⊥
  unfolding plain_supervisor rising is_mapped is_ordinary
  plain-supervisor-refused o a g q z =
      let h = zero-passed 1 _ _ (omega arith) refl (sym (table-map (λ (x : Given). x.number) (plain_refused p) _ _) ∙ z) in
      let m : is_mapped (mapped_to s p.words (page_of g)) ≡ false = rw (q, none) in
      let r = page-region g (rw q o) in
      clash true refl (rw (r, m) at (h 4))

-- ---- the table

-- where a move is done, no row applies
module _ (s : Shape) (b : Board) (page new : ℕ) where
  move-number : (move_page s b page new).answer.number ≡ by_table (λ n. n) (move_table s b page new) 0
  unfolding move_page
  move-number = table-map (λ (o : Outcome). o.answer.number) (refused b) (move_table s b page new) _

  module _ (h : (move_page s b page new).answer.number ≡ 0) where
    move-passed : Passed (move_table s b page new)
    move-passed = zero-passed 1 (move_table s b page new) 0 (omega arith) (tables-rise.move s b page new) (sym move-number ∙ h)

    -- so it is done: both pages are ordinary, the old one has a frame, and the new one has none
    old-found : mapped_to s b.words page ≡ Some (found_frame (mapped_to s b.words page))
    old-found = found_at (mapped_to s b.words page) (move-passed 2)

    new-free : mapped_to s b.words new ≡ None
    new-free = found_nothing (mapped_to s b.words new) (move-passed 3)

    new-ordinary : ordinary_page new ≡ true
    new-ordinary = and_right (ordinary_page page) (ordinary_page new) (not-false _ (move-passed 1))

    move-fits : fits_board s b ≡ true
    move-fits = not-false _ (move-passed 0)

    abbrev frame : ℕ
    frame = found_frame (mapped_to s b.words page)

    abbrev word : ℕ
    word = frame_word new (word_writes (get_or b.words frame 0))

    move-is : move_page s b page new ≡ done (with_pages b (moved s page new frame (pages_of b)))
    unfolding move_page
    move-is = table_done (refused b) (move_table s b page new) (done (with_pages b (moved s page new frame (pages_of b)))) move-passed

    after-words : (move_page s b page new).after.words ≡ set b.words frame word
    unfolding moved
    after-words = ap (λ (o : Outcome). o.after.words) move-is

    -- ---- on any board: no line is left

    none_left : (i : ℕ) → holds_at s (move_page s b page new).after.store.records i ≡ true
        → (page_of_name (line_at (move_page s b page new).after.store.records i).name ≢ page)
        × (page_of_name (line_at (move_page s b page new).after.store.records i).name ≢ new)
    unfolding moved
    none_left i =
        let e = move-is in
        rw e (moved-names s b.store (board-shaped s b move-fits).records_are page new i)

    rest-left : LeavesRest s b (move_page s b page new).after page new
    unfolding moved
    rest-left =
        let e = move-is in
        record {
          same_slots = ap (λ (o : Outcome). o.after.slots) e;
          same_tag = ap (λ (o : Outcome). o.after.tag) e;
          same_uses = ap (λ (o : Outcome). o.after.uses) e;
          same_words = λ f n. ap (λ (o : Outcome). get_or o.after.words f 0) e ∙ get_or-set_other b.words frame f word 0 (λ q. n (rw q old-found));
          same_cache = ap (λ (o : Outcome). o.after.store.cache) e ∙ (swept-cache s (move_visit page new) b.store).cache_same;
          same_records = λ i l h. rw e (moved-kept s b.store (board-shaped s b move-fits).records_are page new i l h);
          same_memory = λ line h. rw e (moved-elsewhere s b.store page new line h);
        }

    -- ---- the page map

    inside : frame < length b.words
    inside = (mapped-frame s b.words page frame old-found).inside

    new-here : mapped_to s (set b.words frame word) new ≡ Some frame
    new-here =
        mapped-new s b.words new frame word inside new-ordinary (mapped-frame s b.words page frame old-found).from
        (frame-word-names new (word_writes (get_or b.words frame 0))) new-free

    -- the two pages are not one
    pages-differ : page ≢ new
    pages-differ e = let x = old-found in let y = new-free in none-some frame (sym (rw e y) ∙ x)

    old-gone : PagesOnce s b.words → mapped_to s (set b.words frame word) page ≡ None
    old-gone once =
        let k = mapped-frame s b.words page frame old-found in
        let w = (board-shaped s b move-fits).words_are in
        mapped-lost s b.words page frame word inside
        (word-names-not word page (λ z _. pages-differ (sym z ∙ frame-word-page new (word_writes (get_or b.words frame 0)))))
        (λ g m. once page g frame m.ordinary m.from (omega (arith, m.inside)) k.from (omega (arith, inside)) m.names k.names)

    others_same : (other : ℕ) → other ≢ page → other ≢ new → mapped_to s (set b.words frame word) other ≡ mapped_to s b.words other
    others_same other n o =
        let k = mapped-frame s b.words page frame old-found in
        mapped-set s b.words other frame word inside (word-names-not _ _ (λ z _. n (sym z ∙ k.page_is)))
        (word-names-not _ _ (λ z _. o (sym z ∙ frame-word-page new (word_writes (get_or b.words frame 0)))))

    -- ---- what look shows

    -- the plain machine's memory stays
    plain-shown : (m : List ℕ) → length m ≡ length b.store.memory → (line : ℕ)
        → plain_look s (plain_step s (plain_of b m) (supervisor (move page new))).after line ≡ plain_look s (plain_of b m) line
    unfolding plain_step plain_supervise plain_move plain_look
    plain-shown m l line =
        let e = table_done (plain_refused (plain_of b m)) (plain_row1 s (plain_of b m) ∷ move_rows s b.words page new)
        (plain_done (plain_words (plain_of b m) (set b.words frame word) m)) (rw l move-passed) in
        rw (e, length-set b.words frame word)

    shown-same : (m : List ℕ) → Stands s b m → (line : ℕ) → look s (move_page s b page new).after line ≡ look s b line
    unfolding step supervise
    shown-same m x line =
        let r = stepped s b m (supervisor (move page new)) x in
        look-plain s (move_page s b page new).after r.memory line r.related
        ∙ ap (λ (g : Given). plain_look s g.after line) (sym r.given_is)
        ∙ plain-shown m (lengths-same s b m x.sim) line
        ∙ sym (look-plain s b m line x)

    -- and no access to the old page is done: on the plain machine none is
    old-user : (m : List ℕ) → Stands s b m → (process : ℕ) (a : Access) (e : Effective) → page_of (user_global (move_page s b page new).after.slots process e) ≡ page
        → (user_access s (move_page s b page new).after process a e).answer.number ≡ 0 → ⊥
    unfolding step supervise plain_step
    old-user m x process a e q z =
        let r = stepped s b m (supervisor (move page new)) x in
        let k = stepped s (move_page s b page new).after r.memory (user process a e) r.related in
        let w = after-words in
        plain-user-refused s (plain_of (move_page s b page new).after r.memory) page
        (rw w (old-gone x.pages_once)) process a e q
        (ap (λ (g : Given). g.number) k.given_is ∙ z)

    old-supervisor : (m : List ℕ) → Stands s b m → (a : Access) (g : Global) → page_of g ≡ page
        → (supervisor_access s (move_page s b page new).after a g).answer.number ≡ 0 → ⊥
    unfolding step supervise plain_step plain_supervise
    old-supervisor m x a g q z =
        let r = stepped s b m (supervisor (move page new)) x in
        let k = stepped s (move_page s b page new).after r.memory (supervisor (access a g)) r.related in
        let w = after-words in
        plain-supervisor-refused s (plain_of (move_page s b page new).after r.memory) page
        (rw w (old-gone x.pages_once))
        (mapped-frame s b.words page frame old-found).ordinary a g q
        (ap (λ (o : Given). o.number) k.given_is ∙ z)

    handed-over : (m : List ℕ) → Stands s b m → HandedOver s b (move_page s b page new).after page new
    unfolding found_frame
    handed-over m x =
        let w = after-words in
        let n = new-here in
        record {
          frame = frame;
          old_frame = old-found;
          new_frame = rw w n;
          same_permission = rw (w, get_or-set_same b.words frame word 0 inside) (frame-word-writes new (word_writes (get_or b.words frame 0)));
          same_bytes = λ i l. rw (w, n) (shown-same m x (frame * page_lines + i));
          old_unmapped = rw w (old-gone x.pages_once);
          old_refused_user = old-user m x;
          old_refused_supervisor = old-supervisor m x;
          same_others = λ other a c. rw w (others_same other a c);
          same_look = shown-same m x;
        }

-- ---- the statement

-- a board that fits: the rows after the first
module _ (s : Shape) (b : Board) (fits : fits_board s b ≡ true) where
  done-zero : (page new frame : ℕ) → ordinary_page new ≡ true → mapped_to s b.words page ≡ Some frame → mapped_to s b.words new ≡ None
      → (move_page s b page new).answer.number ≡ 0
  unfolding move_page by_table is_mapped
  done-zero page new frame o e n = let p = mapped-ordinary s b.words page frame (mapped_to s b.words page) refl e in rw (fits, p, o, e, n)

  outside-two : (page new : ℕ) → (ordinary_page page && ordinary_page new) ≡ false → move_page s b page new ≡ refused b 2
  unfolding move_page by_table
  outside-two page new o = rw (fits, o)

  unmapped-eight : (page new : ℕ) → ordinary_page page ≡ true → ordinary_page new ≡ true → mapped_to s b.words page ≡ None → move_page s b page new ≡ refused b 8
  unfolding move_page by_table is_mapped
  unmapped-eight page new o p e = rw (fits, o, p, e)

  mapped-eleven : (page new frame other : ℕ) → mapped_to s b.words page ≡ Some frame → mapped_to s b.words new ≡ Some other → move_page s b page new ≡ refused b 11
  unfolding move_page by_table is_mapped
  mapped-eleven page new frame other e n =
      let p = mapped-ordinary s b.words page frame (mapped_to s b.words page) refl e in
      let o = mapped-ordinary s b.words new other (mapped_to s b.words new) refl n in
      rw (fits, p, o, e, n)

  equal-eleven : (page frame : ℕ) → mapped_to s b.words page ≡ Some frame → move_page s b page page ≡ refused b 11
  equal-eleven page frame e = mapped-eleven page page frame frame e e

  equal-eight : (page : ℕ) → ordinary_page page ≡ true → mapped_to s b.words page ≡ None → move_page s b page page ≡ refused b 8
  equal-eight page o e = unmapped-eight page page o o e

pub moves-hand-over : MovesHandOver
moves-hand-over = record {
  hands_over = λ s b x ks page new h. go s b x ks page new h (fits_board s b) refl;
  hands_over_sound = λ s b x page new h.
      handed-over s b page new h (shown_lines s b.store (page_lines * s.frames)) (stands_of s b _ x (shows-some s b x.shape_holds));
  no_old_line = λ s b page new h i a. (none_left s b page new h i a).0;
  no_new_line = λ s b page new h i a. (none_left s b page new h i a).1;
  is_done_lem = λ s b page new frame f o e n. done-zero s b f page new frame o e n;
  leaves_rest = rest-left;
  refused_2 = λ s b page new f o. outside-two s b f page new o;
  refused_8 = λ s b page new f o p e. unmapped-eight s b f page new o p e;
  refused_11 = λ s b page new frame other f e n. mapped-eleven s b f page new frame other e n;
  equal_mapped = λ s b page frame f e. equal-eleven s b f page frame e;
  equal_unmapped = λ s b page f o e. equal-eight s b f page o e;
}
  where
    go : (s : Shape) (b : Board) → Fresh b → (ks : List Call) (page new : ℕ) → (move_page s (after s b ks) page new).answer.number ≡ 0
        → (t : Bool) → fits_board s b ≡ t → HandedOver s (after s b ks) (move_page s (after s b ks) page new).after page new
    go s b x ks page new h true t =
        let r = follows-after (Stands s) s (stepped s) b b.store.memory ks (stands-fresh s b x t) in
        handed-over s (after s b ks) page new h r.memory r.related
    go s b x ks page new h false t = clash _ (move-fits s (after s b ks) page new h) (rw (unfit-after s b t ks) t)
