-- Demand 3 on the plain machine: what one process gets does not depend on the accesses of the others. Stands on Views and Runs.
use Rattle.std.specs.Prelude.{Some}
use Prim.Native.Nat.{ℕ, ◌/◌, ◌<◌}
use mathlib.Core.Path.{◌≡◌, refl, sym, ◌∙◌}
use mathlib.Core.Bool.{Bool, true, false, cond}
use mathlib.Core.List.{List, [], ◌∷◌}
use native.Mathlib.Omega.{arith}
use lib.Dec.{eqb}
use borrow.Author.Tests.{eqb-true, eqb-false}
use Rattle.address.specs.Layout.{page_lines}
use Rattle.address.specs.declared.Effective.{Effective}
use Rattle.pages.specs.Pages.{mapped_to}
use Rattle.board.specs.declared.Shape.{Shape}
use Rattle.stores.specs.declared.Access.{Access}
use Rattle.promises.specs.Plain.{Plain, plain_look}
use Rattle.promises.specs.Runs.{ran, some_moment, Call, user, supervisor, plain_step, plain_next, plain_after}
use Rattle.promises.specs.Demand3.{holds, holds_for_writing, ApartIn, without_others, SameFor, plain_replies_to, segment_of_page, moves_of}
use Rattle.promises.proofs.Runs.{moment-now, moment-later}
use Rattle.promises.proofs.Views.{AlikeIn, plain_handed, alike-user, alike-supervise, alike-aside, alike-reply, alike-look, alike-words, alike-other, alike_same}

-- ---- what is held at some moment of a plain run

abbrev pub plain_ever : (List ℕ → Bool) → Shape → Plain → List Call → Bool
plain_ever test s p ks = some_moment (λ q. test q.slots) (plain_next s) p ks

-- the premise, of a plain run
abbrev pub PlainApart : Shape → Plain → List Call → ℕ → Type 0
PlainApart s p ks process = ApartIn (λ test. plain_ever test s p ks) s process

-- what two runs from one machine have in common for a process
pub record PlainSame (s : Shape) (p : Plain) (ks ls : List Call) (process : ℕ) : Type 0 where
  pub same_replies : plain_replies_to process s p ks ≡ plain_replies_to process s p ls
  pub same_words : (plain_after s p ks).words ≡ (plain_after s p ls).words
  pub same_bytes : (page frame line : ℕ) → plain_ever (λ slots. holds slots process (segment_of_page page)) s p ks ≡ true
      → mapped_to s (plain_after s p ks).words page ≡ Some frame → line / page_lines ≡ frame
      → plain_look s (plain_after s p ks) line ≡ plain_look s (plain_after s p ls) line

-- what `handed_lines` is on the plain machine
unfoldable pub plain_handed_lines : (ℕ → Bool) → ℕ → Shape → Plain → List Call → List (List ℕ)
plain_handed_lines S i s p [] = []
plain_handed_lines S i s p (user q a e ∷ ks) = plain_handed_lines S i s (plain_step s p (user q a e)).after ks
plain_handed_lines S i s p (supervisor c ∷ ks) = plain_handed S i s p c (moves_of c) ∷ plain_handed_lines S i s (plain_step s p (supervisor c)).after ks

-- the premise on moves, of two plain runs from p and q
abbrev pub Handed : (ℕ → Bool) → Shape → Plain → Plain → List Call → List Call → Type 0
Handed S s p q ks ls = (i : ℕ) → i < page_lines → plain_handed_lines S i s p ks ≡ plain_handed_lines S i s q ls

-- ---- two runs side by side, call by call of those they share

-- a call that both runs have: all but the accesses of the others
unfoldable shared : ℕ → Call → Bool
shared process (user q a e) = eqb q process
shared process (supervisor c) = true

data Beside (process : ℕ) : List Call → List Call → Type 0 where
  end : Beside process [] []
  both : (k : Call) {ks ls : List Call} → shared process k ≡ true → Beside process ks ls → Beside process (k ∷ ks) (k ∷ ls)
  first : (q : ℕ) (a : Access) (e : Effective) {ks ls : List Call} → eqb q process ≡ false → Beside process ks ls → Beside process (user q a e ∷ ks) ls
  second : (q : ℕ) (a : Access) (e : Effective) {ks ls : List Call} → eqb q process ≡ false → Beside process ks ls → Beside process ks (user q a e ∷ ls)

-- lists that are equal have equal heads and equal tails
line-head : {x y : List ℕ} {xs ys : List (List ℕ)} → ◌≡◌ {A = List (List ℕ)} (x ∷ xs) (y ∷ ys) → x ≡ y
line-head e = cc

line-tail : {x y : List ℕ} {xs ys : List (List ℕ)} → ◌≡◌ {A = List (List ℕ)} (x ∷ xs) (y ∷ ys) → xs ≡ ys
line-tail e = cc

module _ (process : ℕ) where
  cons_head : (k l : Call) (ks ls : List Call) → ◌≡◌ {A = List Call} (k ∷ ks) (l ∷ ls) → k ≡ l
  cons_head k l ks ls e = cc

  cons_tail : (k l : Call) (ks ls : List Call) → ◌≡◌ {A = List Call} (k ∷ ks) (l ∷ ls) → ks ≡ ls
  cons_tail k l ks ls e = cc

  cons-nil : (k : Call) (ks : List Call) → ◌≡◌ {A = List Call} (k ∷ ks) [] → ⊥
  cons-nil k ks e = absurd (let z : ◌≡◌ {A = ℕ} 0 1 = cc in omega arith)

  -- nothing is shared any more: the second run goes on alone
  alone : (ls : List Call) → [] ≡ without_others process ls → Beside process [] ls
  unfolding without_others
  alone [] e = end
  alone (supervisor c ∷ ls) e = absurd (cons-nil (supervisor c) _ (sym e))
  alone (user q a d ∷ ls) e = go (eqb q process) refl e (alone ls)
    where
      go : (t : Bool) → eqb q process ≡ t → [] ≡ cond t (user q a d ∷ without_others process ls) (without_others process ls)
          → ([] ≡ without_others process ls → Beside process [] ls) → Beside process [] (user q a d ∷ ls)
      go true t e later = absurd (cons-nil (user q a d) _ (sym e))
      go false t e later = second q a d t (later e)

  -- the first run comes to a shared call: the second goes on until it comes to it, too
  meet : (k : Call) (ks : List Call) → shared process k ≡ true → ((ls : List Call) → without_others process ks ≡ without_others process ls → Beside process ks ls)
      → (ls : List Call) → k ∷ without_others process ks ≡ without_others process ls → Beside process (k ∷ ks) ls
  unfolding without_others
  meet k ks h later [] e = absurd (cons-nil k _ e)
  meet k ks h later (supervisor c ∷ ls) e =
      let z = cons_head k (supervisor c) _ _ e in
      rw (← z) (both k h (later ls (cons_tail k (supervisor c) _ _ e)))
  meet k ks h later (user q a d ∷ ls) e = go (eqb q process) refl e (meet k ks h later ls)
    where
      go : (t : Bool) → eqb q process ≡ t → k ∷ without_others process ks ≡ cond t (user q a d ∷ without_others process ls) (without_others process ls)
          → (k ∷ without_others process ks ≡ without_others process ls → Beside process (k ∷ ks) ls) → Beside process (k ∷ ks) (user q a d ∷ ls)
      go true t e more =
          let z = cons_head k (user q a d) _ _ e in
          rw (← z) (both k h (later ls (cons_tail k (user q a d) _ _ e)))
      go false t e more = second q a d t (more e)

  beside : (ks ls : List Call) → SameFor process ks ls → Beside process ks ls
  unfolding without_others shared
  beside [] ls e = alone ls e
  beside (supervisor c ∷ ks) ls e = meet (supervisor c) ks refl (beside ks) ls e
  beside (user q a d ∷ ks) ls e = go (eqb q process) refl e (beside ks)
    where
      go : (t : Bool) → eqb q process ≡ t → cond t (user q a d ∷ without_others process ks) (without_others process ks) ≡ without_others process ls
          → ((ms : List Call) → without_others process ks ≡ without_others process ms → Beside process ks ms) → Beside process (user q a d ∷ ks) ls
      go true t e later = meet (user q a d) ks t later ls e
      go false t e later = first q a d t (later ls e)

-- ---- they stay alike

-- what the process holds is in S, and what another process holds for writing is not
record Split (S : ℕ → Bool) (s : Shape) (p : Plain) (ks : List Call) (process : ℕ) : Type 0 where
  own : (segment : ℕ) → plain_ever (λ slots. holds slots process segment) s p ks ≡ true → S segment ≡ true
  foreign : (segment other : ℕ) → other < s.processes → (other ≡ process → ⊥)
      → plain_ever (λ slots. holds_for_writing slots other segment) s p ks ≡ true → S segment ≡ false

split-later : (S : ℕ → Bool) (s : Shape) (p : Plain) (k : Call) (ks : List Call) (process : ℕ) → Split S s p (k ∷ ks) process → Split S s (plain_step s p k).after ks process
split-later S s p k ks process h = record {
  own = λ segment e. h.own segment (moment-later (plain_next s) (λ q. holds q.slots process segment) p k ks e);
  foreign = λ segment other b d e. h.foreign segment other b d (moment-later (plain_next s) (λ q. holds_for_writing q.slots other segment) p k ks e);
}

record Together (S : ℕ → Bool) (s : Shape) (process : ℕ) (p q : Plain) (ks ls : List Call) : Type 0 where
  replies : plain_replies_to process s p ks ≡ plain_replies_to process s q ls
  ends : AlikeIn S s (plain_after s p ks) (plain_after s q ls)

module _ (S : ℕ → Bool) (s : Shape) (process : ℕ) where
  foreign-now : (p : Plain) (u : ℕ) (a : Access) (e : Effective) (ks : List Call) → Split S s p (user u a e ∷ ks) process → eqb u process ≡ false
      → (segment : ℕ) → u < s.processes → holds_for_writing p.slots u segment ≡ true → S segment ≡ false
  foreign-now p u a e ks k z segment b i =
      k.foreign segment u b (eqb-false u process z) (moment-now (plain_next s) (λ x. holds_for_writing x.slots u segment) p (user u a e ∷ ks) i)

  -- the access of another process in the first run, whose reply is none of ours
  aside : (p q : Plain) (u : ℕ) (a : Access) (e : Effective) (ks ls : List Call) → eqb u process ≡ false
      → Together S s process (plain_step s p (user u a e)).after q ks ls → Together S s process p q (user u a e ∷ ks) ls
  unfolding plain_replies_to ran
  aside p q u a e ks ls t r = record { replies = rw t r.replies; ends = r.ends }

  aside-second : (p q : Plain) (u : ℕ) (a : Access) (e : Effective) (ks ls : List Call) → eqb u process ≡ false
      → Together S s process p (plain_step s q (user u a e)).after ks ls → Together S s process p q ks (user u a e ∷ ls)
  unfolding plain_replies_to ran
  aside-second p q u a e ks ls t r = record { replies = rw t r.replies; ends = r.ends }

  together : (p q : Plain) {ks ls : List Call} → Beside process ks ls → AlikeIn S s p q → Split S s p ks process → Split S s q ls process → Handed S s p q ks ls
      → Together S s process p q ks ls
  unfolding plain_replies_to ran plain_handed_lines shared
  together p q end h k l m = record { replies = refl; ends = h }
  together p q (both (supervisor c) {ks} {ls} t z) h k l m =
      let r = together (plain_step s p (supervisor c)).after (plain_step s q (supervisor c)).after z
      (alike-supervise S s p q h c (λ i b. line-head (m i b)))
      (split-later S s p (supervisor c) ks process k) (split-later S s q (supervisor c) ls process l) (λ i b. line-tail (m i b)) in
      record { replies = r.replies; ends = r.ends }
  together p q (both (user u a e) {ks} {ls} t z) h k l m =
      let r = together (plain_step s p (user u a e)).after (plain_step s q (user u a e)).after z (alike-user S s p q h u a e)
      (split-later S s p (user u a e) ks process k) (split-later S s q (user u a e) ls process l) m in
      let o : u ≡ process = eqb-true u process t in
      let x = alike-reply S s p q h u a e
      (λ segment i. k.own segment (moment-now (plain_next s) (λ y. holds y.slots process segment) p (user u a e ∷ ks) (rw o at i))) in
      record { replies = rw (t, x, r.replies); ends = r.ends }
  together p q (first u a e {ks} {ls} t z) h k l m =
      aside p q u a e ks ls t
      (together (plain_step s p (user u a e)).after q z (alike-aside S s p q h u a e (foreign-now p u a e ks k t)) (split-later S s p (user u a e) ks process k) l m)
  together p q (second u a e {ks} {ls} t z) h k l m =
      aside-second p q u a e ks ls t
      (together p (plain_step s q (user u a e)).after z
      (alike-other S s _ p (alike-aside S s q p (alike-other S s p q h) u a e (foreign-now q u a e ls l t))) k (split-later S s q (user u a e) ls process l) m)

-- ---- demand 3 on the plain machine

-- (that both runs ever hold the same is known of the board: Holding)
module _ (s : Shape) (p : Plain) (ks ls : List Call) (process : ℕ) (same : SameFor process ks ls)
    (ever-same : (test : List ℕ → Bool) → plain_ever test s p ks ≡ plain_ever test s p ls) (apart : PlainApart s p ks process) where
  -- the segments that the process holds at some moment
  abbrev Held : ℕ → Bool
  Held segment = plain_ever (λ slots. holds slots process segment) s p ks

  held-not : (segment other : ℕ) → other < s.processes → (other ≡ process → ⊥) → plain_ever (λ slots. holds_for_writing slots other segment) s p ks ≡ true
      → Held segment ≡ false
  held-not segment other b d e = go (Held segment) refl
    where
      go : (t : Bool) → Held segment ≡ t → t ≡ false
      go true t = absurd (apart segment other b d t e)
      go false t = refl

  split-first : Split Held s p ks process
  split-first = record { own = λ segment e. e; foreign = held-not }

  split-second : Split Held s p ls process
  split-second = record {
    own = λ segment e. ever-same (λ slots. holds slots process segment) ∙ e;
    foreign = λ segment other b d e. held-not segment other b d (ever-same (λ slots. holds_for_writing slots other segment) ∙ e);
  }

  pub plain-apart : Handed Held s p p ks ls → PlainSame s p ks ls process
  plain-apart m =
      let r = together Held s process p p (beside process ks ls same) (alike_same Held s p) split-first split-second m in
      record {
        same_replies = r.replies;
        same_words = alike-words Held s (plain_after s p ks) (plain_after s p ls) r.ends;
        same_bytes = λ page frame line i e l. alike-look Held s (plain_after s p ks) (plain_after s p ls) r.ends page frame line i e l;
      }
