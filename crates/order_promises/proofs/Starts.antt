-- The boards from which runs start, sound or fresh, and the kinds of runs from them: the plain machine follows each. Stands on Beside, Demand2 and Brought.
use Prim.{Unit, tt}
use Prim.Native.Nat.{ℕ, ◌*◌}
use mathlib.Core.Path.{◌≡◌, refl, sym, ap, ◌∙◌}
use mathlib.Core.Bool.{Bool, true, false}
use mathlib.Core.List.{List, [], ◌∷◌}
use lib.ListN.{length}
use Rattle.address.specs.Layout.{page_lines}
use Rattle.board.specs.declared.Shape.{Shape}
use Rattle.machine.specs.Boards.{Board, fits_board, Fresh}
use Rattle.machine.specs.Looks.{look_number, look}
use Rattle.promises.specs.Plain.{Plain, plain_look_number, plain_look}
use Rattle.promises.specs.Runs.{Call, supervisor, flush_all, plain_next, plain_reply, plain_step, plain_of}
use Rattle.promises.specs.Sound.{Sound, shown_lines}
use Rattle.promises.specs.Brought.{Brought, bring, brought_next, brought_reply, Brings, own, unfit, EachBrings}
use Rattle.promises.proofs.Lengths.{fits-same}
use Rattle.promises.proofs.Soundness.{Stands, stands_of, stands-fresh}
use Rattle.promises.proofs.Shown.{shows-some}
use Rattle.promises.proofs.Follows.{Follows, Stepped, follows-now, follows-step, follows-reply}
use Rattle.promises.proofs.Demand2.{stepped, look-plain, look-number-plain, Unfit, unfit-stepped, look-unfit, look-number-unfit}
use Rattle.promises.proofs.Brought.{brought-stepped, stands-lengths, unfit-lengths}
use Rattle.order_promises.specs.Strangers.{calls, call_of, broughts}
use Rattle.order_promises.specs.Order.{OrderOf}
use Rattle.order_promises.proofs.Turns.{Every, every-all}
use Rattle.order_promises.proofs.Beside.{Beside, ordered}

-- ---- the numbers that calls bring

unfoldable shape_of : Brought → Shape
shape_of (bring t k) = t

module _ (s : Shape) (b : Board) where
  -- what fits the first board fits every other, and the numbers are asked of the first
  abbrev FitsAre : Board → Type 0
  FitsAre c = (t : Shape) → fits_board t c ≡ fits_board t b

  abbrev Passes : Brought → Type 0
  Passes k = Brings s b (shape_of k)

  brings-there : (c : Board) (t : Shape) → FitsAre c → Brings s b t → Brings s c t
  brings-there c t e (own h) = own h
  brings-there c t e (unfit h) = unfit (e t ∙ h)

  brings-here : (c : Board) (t : Shape) → FitsAre c → Brings s c t → Brings s b t
  brings-here c t e (own h) = own h
  brings-here c t e (unfit h) = unfit (sym (e t) ∙ h)

  fits_next : (c : Board) (k : Brought) → FitsAre c → FitsAre (brought_next c k)
  unfolding brought_next
  fits_next c (bring t k) e u = fits-same u t c k ∙ e u

  each-passes : (c : Board) (ks : List Brought) → FitsAre c → EachBrings s c ks → Every Passes ks
  unfolding Every EachBrings shape_of brought_next
  each-passes c [] e h = tt
  each-passes c (bring t k ∷ ks) e h = (brings-here c t e h.0, each-passes (brought_next c (bring t k)) ks (fits_next c (bring t k) e) h.1)

-- ---- starts

-- a board and its memory, in a relation that every call keeps beside the plain machine
pub record Start (s : Shape) (b : Board) (m : List ℕ) : Type 1 where
  pub R : Board → List ℕ → Type 0
  pub start : R b m
  pub stepped : (b : Board) (m : List ℕ) (k : Call) → R b m → Stepped R s b m k
  pub lengths : (b : Board) (m : List ℕ) → R b m → length m ≡ length b.store.memory
  pub shown : (b : Board) (m : List ℕ) (line : ℕ) → R b m → look s b line ≡ plain_look s (plain_of b m) line
  pub asked : (b : Board) (m : List ℕ) (line : ℕ) → R b m → look_number s b line ≡ plain_look_number s (plain_of b m) line

start-stands : (s : Shape) (b : Board) (m : List ℕ) → Stands s b m → Start s b m
start-stands s b m x = record {
  R = Stands s;
  start = x;
  stepped = stepped s;
  lengths = stands-lengths s;
  shown = look-plain s;
  asked = look-number-plain s;
}

pub start-sound : (s : Shape) (b : Board) → Sound s b → Start s b (shown_lines s b.store (page_lines * s.frames))
start-sound s b x = start-stands s b _ (stands_of s b _ x (shows-some s b x.shape_holds))

pub start-fresh : (s : Shape) (b : Board) → Fresh b → Start s b b.store.memory
start-fresh s b x = go (fits_board s b) refl
  where
    go : (t : Bool) → fits_board s b ≡ t → Start s b b.store.memory
    go true t = start-stands s b b.store.memory (stands-fresh s b x t)
    go false t = record {
      R = Unfit s;
      start = record { no = t; same_length = refl };
      stepped = unfit-stepped s;
      lengths = unfit-lengths s;
      shown = look-unfit s;
      asked = look-number-unfit s;
    }

module _ (s : Shape) (b : Board) (m : List ℕ) (z : Start s b m) where
  slots-follow : (c : Board) (p : Plain) → Follows z.R c p → c.slots ≡ p.slots
  slots-follow c p f = sym (ap (λ (q : Plain). q.slots) f.plain_is)

  shown-follow : (c : Board) (p : Plain) (line : ℕ) → Follows z.R c p → look s c line ≡ plain_look s p line
  shown-follow c p line f = rw f.plain_is (z.shown c f.memory line f.related)

  asked-follow : (c : Board) (p : Plain) (line : ℕ) → Follows z.R c p → look_number s c line ≡ plain_look_number s p line
  asked-follow c p line f = rw f.plain_is (z.asked c f.memory line f.related)

  -- ---- calls in the shape s

  beside-calls : Beside (calls s) s (λ k. s) (Follows z.R) (λ k. Unit {0})
  beside-calls = record {
    stays = λ c p k f g. follows-step z.R s c p k f (z.stepped c f.memory k f.related);
    same_reply = λ c p k f g. follows-reply z.R s c p k f (z.stepped c f.memory k f.related);
    shown = shown-follow;
    asked = asked-follow;
    slots_are = slots-follow;
    meant = λ c p ks f g. every-all (λ k. Unit {0}) (λ k. tt) ks;
  }

  pub ordered-calls : OrderOf (calls s) s b
  ordered-calls =
      ordered (calls s) s (λ k. s) (supervisor flush_all) refl (Follows z.R) (λ k. Unit {0}) beside-calls b (plain_of b m) (follows-now z.R b m z.start)

  -- ---- calls that bring their numbers

  abbrev Both : Board → Plain → Type 0
  Both c p = Follows z.R c p × FitsAre s b c

  one-call : (t : Shape) (c : Board) (p : Plain) (k : Call) (f : Both c p) → Brings s b t → Stepped z.R t c f.0.memory k
  one-call t c p k f h = brought-stepped z.R s z.stepped z.lengths t c f.0.memory k f.0.related (brings-there s b c t f.1 h)

  beside-brought : Beside (broughts s) s shape_of Both (Passes s b)
  unfolding call_of shape_of brought_next brought_reply
  beside-brought = record {
    stays = still;
    same_reply = λ c p k f g. given c p k f g;
    shown = λ c p line f. shown-follow c p line f.0;
    asked = λ c p line f. asked-follow c p line f.0;
    slots_are = λ c p f. slots-follow c p f.0;
    meant = λ c p ks f h. each-passes s b c ks f.1 h;
  }
    where
      still : (c : Board) (p : Plain) (k : Brought) → Both c p → Passes s b k → Both (brought_next c k) (plain_next (shape_of k) p (call_of k))
      still c p (bring t k) f g = (follows-step z.R t c p k f.0 (one-call t c p k f g), fits_next s b c (bring t k) f.1)

      given : (c : Board) (p : Plain) (k : Brought) → Both c p → Passes s b k → brought_reply c k ≡ plain_reply (plain_step (shape_of k) p (call_of k))
      given c p (bring t k) f g = follows-reply z.R t c p k f.0 (one-call t c p k f g)

  pub ordered-brought : OrderOf (broughts s) s b
  unfolding call_of
  ordered-brought =
      ordered (broughts s) s shape_of (bring s (supervisor flush_all)) refl Both (Passes s b) beside-brought b (plain_of b m)
      (follows-now z.R b m z.start, λ t. refl)
