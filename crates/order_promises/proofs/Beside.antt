-- The plain machine is one in which accesses by strangers may be swapped (Strangers, Reorder); what is so of it is so of every run that it follows.
use Prim.Native.Nat.{ℕ, suc, ◌<◌}
use mathlib.Core.Path.{◌≡◌, refl, sym, ap, ◌∙◌}
use mathlib.Core.Bool.{true, false, true≢false}
use mathlib.Core.List.{List, [], ◌∷◌, ◌++◌}
use native.Mathlib.Omega.{arith}
use lib.ListN.{length, get_or, take}
use Rattle.board.specs.declared.Shape.{Shape}
use Rattle.machine.specs.Boards.{Board}
use Rattle.machine.specs.Looks.{look_number, look}
use Rattle.promises.specs.Plain.{Plain, plain_look_number, plain_look}
use Rattle.promises.specs.Runs.{ran, gained, Call, user, supervisor, flush_all, Reply, plain_reply, plain_step}
use Rattle.order_promises.specs.Strangers.{MayCross, is_supervisors, Kind, board_after, board_at, replies_in, call_at, reply_at}
use Rattle.order_promises.specs.Reorderings.{Reordering}
use Rattle.order_promises.specs.Order.{SameShown, SameOnward, Swapped, SameReordered, OrderOf}
use Rattle.order_promises.proofs.Turns.{Every, every-both, every_take, every-at, every-from, ran-place}
use Rattle.order_promises.proofs.Reorder.{Swaps, Same, same}
use Rattle.order_promises.proofs.Strangers.{reply-same, after_same, slots_same}
use Rattle.order_promises.proofs.Crossings.{cross-other}
use Rattle.order_promises.proofs.Reorderings.{cross-first, cross-second, Cross, Stays, call-at, moves}

-- ---- the plain machine is one in which accesses by strangers may be swapped, whatever numbers they bring

-- all that who may cross asks of a machine
abbrev pub slots_of : Plain → List ℕ
slots_of p = p.slots

-- calls of two shapes
module _ (s t : Shape) (p : Plain) where
  abbrev first : Call → Plain
  first k = (plain_step s p k).after

  abbrev second : Call → Plain
  second l = (plain_step t p l).after

  calls-gets : (k l : Call) → MayCross p.slots k l → plain_reply (plain_step s p k) ≡ plain_reply (plain_step s (second l) k)
  calls-gets (user u a e) (user v c f) x = sym (reply-same s t p u v a c e f x.second_alone)
  calls-gets (user u a e) (supervisor d) x = absurd x
  calls-gets (supervisor c) (user v d f) x = absurd x
  calls-gets (supervisor c) (supervisor d) x = absurd x

  calls-commute : (k l : Call) → MayCross p.slots k l → (plain_step t (first k) l).after ≡ (plain_step s (second l) k).after
  calls-commute (user u a e) (user v c f) x = after_same s t p u v a c e f x.second_alone
  calls-commute (user u a e) (supervisor d) x = absurd x
  calls-commute (supervisor c) (user v d f) x = absurd x
  calls-commute (supervisor c) (supervisor d) x = absurd x

  access-keeps : (k : Call) → is_supervisors k ≡ false → (plain_step s p k).after.slots ≡ p.slots
  unfolding is_supervisors
  access-keeps (user u a e) h = slots_same s p u a e
  access-keeps (supervisor c) h = absurd (true≢false h)

-- turns of any kind that stand for such calls
module _ {T : Type 0} (w : Kind T) (shape : T → Shape) where
  abbrev pub plain_on : Plain → T → Plain
  plain_on p k = (plain_step (shape k) p (w.call k)).after

  abbrev pub plain_gets : Plain → T → Reply
  plain_gets p k = plain_reply (plain_step (shape k) p (w.call k))

  pub plain-swaps : Swaps plain_on plain_gets slots_of (Cross w) (Stays w)
  plain-swaps = record {
    commute = λ p k l x. calls-commute (shape k) (shape l) p (w.call k) (w.call l) x;
    first_gets = λ p k l x. calls-gets (shape k) (shape l) p (w.call k) (w.call l) x;
    second_gets = λ p k l x. sym (calls-gets (shape l) (shape k) p (w.call l) (w.call k) (cross-other p.slots (w.call k) (w.call l) x));
    first_keeps = λ p k l x. access-keeps (shape k) (shape k) p (w.call k) (cross-first p.slots (w.call k) (w.call l) x);
    second_keeps = λ p k l x. access-keeps (shape l) (shape l) p (w.call l) (cross-second p.slots (w.call k) (w.call l) x);
    first_moves = λ p k l x h. true≢false (sym h ∙ cross-first p.slots (w.call k) (w.call l) x);
    second_moves = λ p k l x h. true≢false (sym h ∙ cross-second p.slots (w.call k) (w.call l) x);
  }

-- ---- a kind of run that the plain machine follows: Q relates the two machines, and each turn passes G

pub record Beside {T : Type 0} (w : Kind T) (s : Shape) (shape : T → Shape) (Q : Board → Plain → Type 0) (G : T → Type 0) : Type 0 where
  pub stays : (b : Board) (p : Plain) (k : T) → Q b p → G k → Q (w.leaves b k) (plain_on w shape p k)
  pub same_reply : (b : Board) (p : Plain) (k : T) → Q b p → G k → w.gets b k ≡ plain_gets w shape p k
  pub shown : (b : Board) (p : Plain) (line : ℕ) → Q b p → look s b line ≡ plain_look s p line
  pub asked : (b : Board) (p : Plain) (line : ℕ) → Q b p → look_number s b line ≡ plain_look_number s p line
  pub slots_are : (b : Board) (p : Plain) → Q b p → b.slots ≡ p.slots
  pub meant : (b : Board) (p : Plain) (ks : List T) → Q b p → w.Meant b ks → Every G ks

module _ {T : Type 0} (w : Kind T) (s : Shape) (shape : T → Shape) (filler : T) (filler-call : w.call filler ≡ supervisor flush_all)
    (Q : Board → Plain → Type 0) (G : T → Type 0) (beside : Beside w s shape Q G) where
  abbrev next : Plain → T → Plain
  next = plain_on w shape

  abbrev gives : Plain → T → Reply
  gives = plain_gets w shape

  along : (b : Board) (p : Plain) (ks : List T) → Q b p → Every G ks → Q (board_after w b ks) (ran next p ks)
  unfolding ran Every
  along b p [] q g = q
  along b p (k ∷ ks) q g = along (w.leaves b k) (next p k) ks (beside.stays b p k q g.0) g.1

  told : (b : Board) (p : Plain) (ks : List T) → Q b p → Every G ks → replies_in w b ks ≡ gained next gives p ks
  unfolding gained Every
  told b p [] q g = refl
  told b p (k ∷ ks) q g =
      let e = beside.same_reply b p k q g.0 in
      let f = told (w.leaves b k) (next p k) ks (beside.stays b p k q g.0) g.1 in
      rw (e, f)

  -- two boards beside one plain machine
  shown-same : (b c : Board) (p q : Plain) → Q b p → Q c q → p ≡ q → SameShown s b c
  shown-same b c p q x y e = record {
    same_bytes = λ line. beside.shown b p line x ∙ ap (λ (z : Plain). plain_look s z line) e ∙ sym (beside.shown c q line y);
    same_numbers = λ line. beside.asked b p line x ∙ ap (λ (z : Plain). plain_look_number s z line) e ∙ sym (beside.asked c q line y);
  }

  same-onward : (b c : Board) (p q : Plain) → Q b p → Q c q → p ≡ q → SameOnward w s b c
  same-onward b c p q x y e = record {
    shown = λ js h.
        let g = beside.meant b p js x h in
        shown-same (board_after w b js) (board_after w c js) (ran next p js) (ran next q js) (along b p js x g) (along c q js y g) (ap (λ (z : Plain). ran next z js) e);
    later_replies = λ js h.
        let g = beside.meant b p js x h in
        told b p js x g ∙ ap (λ (z : Plain). gained next gives z js) e ∙ sym (told c q js y g);
  }

  -- two neighbours
  swapped : (b : Board) (p : Plain) (k l : T) → Q b p → G k → G l → Cross w p.slots k l → Swapped w s b k l
  unfolding ran
  swapped b p k l x g h c =
      let laws = plain-swaps w shape in
      let y = beside.stays b p k x g in
      let z = beside.stays b p l x h in
      record {
        same_first = beside.same_reply b p k x g ∙ laws.first_gets p k l c ∙ sym (beside.same_reply (w.leaves b l) (next p l) k z g);
        same_second = beside.same_reply (w.leaves b k) (next p k) l y h ∙ laws.second_gets p k l c ∙ sym (beside.same_reply b p l x h);
        onward = same-onward (w.leaves (w.leaves b k) l) (w.leaves (w.leaves b l) k) (next (next p k) l) (next (next p l) k)
            (beside.stays (w.leaves b k) (next p k) l y h) (beside.stays (w.leaves b l) (next p l) k z g) (laws.commute p k l c);
      }

  module _ (b : Board) (p : Plain) (x : Q b p) (ks ls : List T) (g : Every G ks) (r : Reordering w b ks ls) where
    abbrev answer : Reply
    answer = record { number = 0; value = 0 }

    moved : Same next gives slots_of (Cross w) (Stays w) (plain-swaps w shape) filler answer p ks ls r.places.to
    moved =
        same next gives slots_of (Cross w) (Stays w) (plain-swaps w shape) filler answer ls p ks
        (moves w filler filler-call next gives slots_of (plain-swaps w shape) answer b p ks ls r
        (λ i. beside.slots_are (board_at w b ks i) (ran next p (take i ks)) (along b p (take i ks) x (every_take G i ks g))))

    -- the turns of the one list are those of the other
    every-moved : Every G ls
    every-moved = every-from G ls filler (λ j h.
        let i : j < length ks = omega (arith, r.places.same_length) in
        let there : G (get_or ls (r.places.to (r.places.from j)) filler) =
        rw (r.places.same_turns (r.places.from j) filler (r.places.from_inside j i)) (every-at G ks (r.places.from j) filler g (r.places.from_inside j i)) in
        rw (r.places.to_from j i) at there)

    at_first : (i : ℕ) → Q (board_at w b ks i) (ran next p (take i ks))
    at_first i = along b p (take i ks) x (every_take G i ks g)

    at_second : (i : ℕ) → Q (board_at w b ls i) (ran next p (take i ls))
    at_second i = along b p (take i ls) x (every_take G i ls every-moved)

    stays-behind : (i : ℕ) → i < length ks → is_supervisors (call_at w ks i) ≡ true
        → ran next p (take (suc (r.places.to i)) ls) ≡ ran next p (take (suc i) ks)
    stays-behind i h y =
        let l : r.places.to i < length ls = omega (arith, r.places.same_length, r.places.to_inside i h) in
        ran-place next p ls (r.places.to i) filler l
        ∙ ap (λ (z : Plain). next z (get_or ls (r.places.to i) filler)) (moved.stays i h (rw (call-at w filler filler-call ks i) at y)).1
        ∙ ap (next (ran next p (take i ks))) (r.places.same_turns i filler h)
        ∙ sym (ran-place next p ks i filler h)

    reordered : SameReordered w s b ks ls r.places.to
    reordered = record {
      same_replies = λ i h.
          ap (λ (l : List Reply). reply_at l i) (told b p ks x g) ∙ sym (moved.told_same i h)
          ∙ sym (ap (λ (l : List Reply). reply_at l (r.places.to i)) (told b p ls x every-moved));
      shown_before = λ i h y.
          shown-same (board_at w b ks i) (board_at w b ls (r.places.to i)) (ran next p (take i ks)) (ran next p (take (r.places.to i) ls)) (at_first i) (at_second (r.places.to i))
          (sym (moved.stays i h (rw (call-at w filler filler-call ks i) at y)).1);
      shown_after = λ i h y.
          shown-same (board_at w b ks (suc i)) (board_at w b ls (suc (r.places.to i))) (ran next p (take (suc i) ks)) (ran next p (take (suc (r.places.to i)) ls))
          (at_first (suc i)) (at_second (suc (r.places.to i))) (sym (stays-behind i h y));
      onward = same-onward (board_after w b ks) (board_after w b ls) (ran next p ks) (ran next p ls) (along b p ks x g) (along b p ls x every-moved) (sym moved.ends_same);
    }

  pub ordered : (b : Board) (p : Plain) → Q b p → OrderOf w s b
  unfolding Every
  ordered b p x = record {
    swap = λ before k l h c.
        let g = every-both G before (k ∷ l ∷ []) (beside.meant b p (before ++ k ∷ l ∷ []) x h) in
        let y = along b p before x g.0 in
        swapped (board_after w b before) (ran next p before) k l y g.1.0 g.1.1.0 (rw (beside.slots_are _ _ y) at c);
    reorder = λ ks ls h r. reordered b p x ks ls (beside.meant b p ks x h) r;
  }
