-- Runs in which each call brings its own numbers. A call whose numbers don't fit is refused by 1 on both machines and changes nothing, so such a run
-- is the run of the calls that fit, and these bring the board's own numbers. Stands on Runs, Demand2, Demand3, Holding and Lengths.
use Prim.{tt}
use Prim.Native.Nat.{ℕ, ◌/◌, ◌≤◌}
use mathlib.Core.Path.{◌≡◌, refl, sym, ap, ◌∙◌}
use mathlib.Core.Bool.{Bool, true, false, ◌||◌, cond}
use mathlib.Core.List.{List, [], ◌∷◌}
use native.Mathlib.Omega.{arith}
use lib.Dec.{eqb}
use lib.ListN.{length, get_or, drop}
use Rattle.board.specs.Shapes.{set_lines, matrices_of}
use Rattle.board.specs.declared.Shape.{Shape}
use Rattle.board.proofs.Bools.{clash, and_left, and_right}
use Rattle.board.proofs.Shapes.{matrices-four, matrices-none, Edition, one_line, four_lines, edition-is}
use Rattle.machine.specs.Boards.{Board, fits_board, Fresh, refused}
use Rattle.machine.specs.Looks.{look_number, look}
use Rattle.promises.specs.Plain.{Plain, plain_look_number, plain_look}
use Rattle.promises.specs.Runs.{ran, gained, some_moment, Call, user, supervisor, Reply, reply, step, next, after, plain_of}
use Rattle.promises.specs.Demand3.{holds, at_some_moment, ever_holds, Apart, without_others, SameFor, replies_to, moves_of, is_nothing, no_move, handed_by, handed_lines, MovesAlike, SameForProcess}
use Rattle.promises.specs.Brought.{Pinned, Brought, bring, brought_next, brought_reply, brought_after, brought_replies, plain_brought_next, plain_brought_reply, plain_brought_after, plain_brought_replies, Brings, own, unfit, EachBrings, bringing, OneShape, BroughtAlike, BroughtDemand2, BroughtDemand2Sound, brought_at_some_moment, BroughtApart, brought_without_others, brought_handed_lines, brought_calls, BroughtMovesAlike, brought_replies_to, plain_brought_replies_to, BroughtSameForProcess, TwoRuns, BroughtDemand3, BroughtDemand3Sound}
use Rattle.promises.proofs.Shapes.{board-shaped}
use Rattle.promises.proofs.Runs.{moment-again, ran-both, gained-both}
use Rattle.promises.proofs.Related.{lengths-same}
use Rattle.promises.proofs.Lengths.{fits-same}
use Rattle.promises.proofs.Soundness.{Stands, sound-of, stands_of, stands-fresh}
use Rattle.promises.proofs.Holding.{ever-same}
use Rattle.promises.proofs.Follows.{Follows, Stepped, follows-now, follows-step, follows-reply, follows-number}
use Rattle.promises.proofs.Demand2.{stepped, look-plain, look-number-plain, Unfit, unfit-call, unfit-keeps, unfit-stepped, look-unfit, look-number-unfit}
use Rattle.promises.proofs.Demand3.{handed-none, handed-by-same, quiet, quiet-without, demand3, demand3-sound}

-- ---- F, P and L are pinned by the lengths, and so is the edition

-- there are matrices with sets of four only
few : (s t : Shape) → s.ways ≡ 1 → t.ways ≡ set_lines → set_lines ≤ t.lines → matrices_of s ≡ matrices_of t → ⊥
few s t e f h m =
    let a : 0 ≡ matrices_of s = matrices-none s (λ z. omega (arith, z, e)) in
    let b : t.lines / set_lines ≡ matrices_of t = matrices-four t _ f refl in
    omega (arith, a, b, m, h)

ways-pinned : (s t : Shape) → Edition s → Edition t → matrices_of s ≡ matrices_of t → s.ways ≡ t.ways
ways-pinned s t (one_line e) (one_line f) m = e ∙ sym f
ways-pinned s t (one_line e) (four_lines f h) m = absurd (few s t e f h m)
ways-pinned s t (four_lines e h) (one_line f) m = absurd (few t s f e h (sym m))
ways-pinned s t (four_lines e h) (four_lines f k) m = e ∙ sym f

pub pinned : Pinned
pinned s t b f g =
    let x = board-shaped s b f in
    let y = board-shaped t b g in
    record {
      same_frames = sym x.words_are ∙ y.words_are;
      same_processes = omega (arith, x.slots_are, y.slots_are);
      same_lines = omega (arith, x.records_are, y.records_are);
      same_ways = ways-pinned s t (edition-is s x.edition) (edition-is t y.edition) (sym x.uses_are ∙ y.uses_are);
    }

-- ---- calls that all bring the same numbers

pub one-shape : OneShape
unfolding bringing EachBrings ran gained brought_next brought_reply
one-shape s b [] = record { premise_met = tt; same_after = refl; same_replies = refl }
one-shape s b (k ∷ ks) =
    let r = one-shape s (step s b k).after ks in
    record { premise_met = (own refl, r.premise_met); same_after = r.same_after; same_replies = ap (λ (l : List Reply). reply (step s b k).answer ∷ l) r.same_replies }

-- ---- demand 2: the two machines, call by call

-- from any board that a plain machine follows
module _ (R : Board → List ℕ → Type 0) (s : Shape) (stepped : (b : Board) (m : List ℕ) (k : Call) → R b m → Stepped R s b m k)
    (lengths : (b : Board) (m : List ℕ) → R b m → length m ≡ length b.store.memory) where
  pub brought-stepped : (t : Shape) (b : Board) (m : List ℕ) (k : Call) → R b m → Brings s b t → Stepped R t b m k
  brought-stepped t b m k x (own e) = rw e (stepped b m k x)
  brought-stepped t b m k x (unfit f) = unfit-keeps t b m (record { no = f; same_length = lengths b m x }) R k x

  -- a plain machine that follows, and the calls that are still to come
  abbrev Followed : Board → Plain → List Brought → Type 0
  Followed b p ks = Follows R b p × EachBrings s b ks

  one-brought : (t : Shape) (b : Board) (p : Plain) (k : Call) (f : Follows R b p) → Brings s b t → Stepped R t b f.memory k
  one-brought t b p k f h = brought-stepped t b f.memory k f.related h

  still : (b : Board) (p : Plain) (k : Brought) (ks : List Brought) → Followed b p (k ∷ ks) → Followed (brought_next b k) (plain_brought_next p k) ks
  unfolding brought_next plain_brought_next EachBrings
  still b p (bring t k) ks f = (follows-step R t b p k f.0 (one-brought t b p k f.0 f.1.0), f.1.1)

  same_reply : (b : Board) (p : Plain) (k : Brought) (ks : List Brought) → Followed b p (k ∷ ks) → brought_reply b k ≡ plain_brought_reply p k
  unfolding brought_reply plain_brought_reply EachBrings
  same_reply b p (bring t k) ks f = follows-reply R t b p k f.0 (one-brought t b p k f.0 f.1.0)

  module _ (b : Board) (m : List ℕ) (ks : List Brought) (x : R b m) (h : EachBrings s b ks) where
    brought-follows : Follows R (brought_after b ks) (plain_brought_after (plain_of b m) ks)
    brought-follows = (ran-both brought_next plain_brought_next Followed still b (plain_of b m) ks (follows-now R b m x, h)).0

    brought-same-replies : brought_replies b ks ≡ plain_brought_replies (plain_of b m) ks
    brought-same-replies =
        gained-both brought_next plain_brought_next Followed still brought_reply plain_brought_reply same_reply b (plain_of b m) ks (follows-now R b m x, h)

  -- the replies to one process
  brought-replies-to : (process : ℕ) (b : Board) (m : List ℕ) (ks : List Brought) → R b m → EachBrings s b ks
      → brought_replies_to process b ks ≡ plain_brought_replies_to process (plain_of b m) ks
  unfolding brought_replies_to plain_brought_replies_to EachBrings
  brought-replies-to process b m [] x h = refl
  brought-replies-to process b m (bring t (user q a e) ∷ ks) x h =
      let r = brought-stepped t b m (user q a e) x h.0 in
      let z = r.given_is in
      let i = brought-replies-to process (step t b (user q a e)).after r.memory ks r.related h.1 in
      rw (z, i)
  brought-replies-to process b m (bring t (supervisor c) ∷ ks) x h =
      let r = brought-stepped t b m (supervisor c) x h.0 in
      let z = r.given_is in
      rw z (brought-replies-to process (step t b (supervisor c)).after r.memory ks r.related h.1)

  module _ (shown : (b : Board) (m : List ℕ) (line : ℕ) → R b m → look s b line ≡ plain_look s (plain_of b m) line)
      (asked : (b : Board) (m : List ℕ) (line : ℕ) → R b m → look_number s b line ≡ plain_look_number s (plain_of b m) line) where
    brought-shown : (t : Shape) (b : Board) (m : List ℕ) (line : ℕ) → R b m → Brings s b t → look t b line ≡ plain_look t (plain_of b m) line
    brought-shown t b m line x (own e) = rw e (shown b m line x)
    brought-shown t b m line x (unfit f) = look-unfit t b m line (record { no = f; same_length = lengths b m x })

    brought-asked : (t : Shape) (b : Board) (m : List ℕ) (line : ℕ) → R b m → Brings s b t → look_number t b line ≡ plain_look_number t (plain_of b m) line
    brought-asked t b m line x (own e) = rw e (asked b m line x)
    brought-asked t b m line x (unfit f) = look-number-unfit t b m line (record { no = f; same_length = lengths b m x })

    brought-alike : (b : Board) (m : List ℕ) (ks : List Brought) → R b m → EachBrings s b ks → BroughtAlike s b m ks
    brought-alike b m ks x h =
        let r = brought-follows b m ks x h in
        record {
          same_replies = brought-same-replies b m ks x h;
          same_bytes = λ t i line. rw r.plain_is (brought-shown t (brought_after b ks) r.memory line r.related i);
          same_look_number = λ t i line. rw r.plain_is (brought-asked t (brought_after b ks) r.memory line r.related i);
          done_at_once = λ t i k n.
              sym (follows-number R t (brought_after b ks) (plain_brought_after (plain_of b m) ks) k r (one-brought t (brought_after b ks) _ k r i)) ∙ n;
        }

pub stands-lengths : (s : Shape) (b : Board) (m : List ℕ) → Stands s b m → length m ≡ length b.store.memory
stands-lengths s b m x = lengths-same s b m x.sim

pub unfit-lengths : (s : Shape) (b : Board) (m : List ℕ) → Unfit s b m → length m ≡ length b.store.memory
unfit-lengths s b m x = x.same_length

pub brought-demand2 : BroughtDemand2
brought-demand2 s b x ks h = go (fits_board s b) refl
  where
    go : (t : Bool) → fits_board s b ≡ t → BroughtAlike s b b.store.memory ks
    go true t = brought-alike (Stands s) s (stepped s) (stands-lengths s) (look-plain s) (look-number-plain s) b b.store.memory ks (stands-fresh s b x t) h
    go false t =
        brought-alike (Unfit s) s (unfit-stepped s) (unfit-lengths s) (look-unfit s) (look-number-unfit s) b b.store.memory ks (record { no = t; same_length = refl }) h

pub brought-demand2-sound : BroughtDemand2Sound
brought-demand2-sound s b m x y ks h =
    let z = stands_of s b m x y in
    let r = brought-follows (Stands s) s (stepped s) (stands-lengths s) b m ks z h in
    record {
      alike = brought-alike (Stands s) s (stepped s) (stands-lengths s) (look-plain s) (look-number-plain s) b m ks z h;
      sound = sound-of s (brought_after b ks) r.memory r.related;
    }

-- ---- the calls that fit

-- `fit` says of numbers whether they fit the buffers, whose lengths no call changes
module _ (fit : Shape → Bool) where
  unfoldable fitting : List Brought → List Call
  fitting [] = []
  fitting (bring t k ∷ ks) = cond (fit t) (k ∷ fitting ks) (fitting ks)

  abbrev refusal : Reply
  refusal = record { number = 1; value = 0 }

  -- the replies to our process, from its calls (and the supervisor's) and the replies to those that fit
  unfoldable woven : List Brought → List Reply → List Reply
  woven [] rs = []
  woven (bring t (user q a e) ∷ ks) rs = cond (fit t) (get_or rs 0 refusal ∷ woven ks (drop 1 rs)) (refusal ∷ woven ks rs)
  woven (bring t (supervisor c) ∷ ks) rs = woven ks rs

  -- what is shown at the supervisor's calls that fit, of what is shown at all of them
  unfoldable sifted : List Brought → List (List ℕ) → List (List ℕ)
  sifted [] rs = []
  sifted (bring t (user q a e) ∷ ks) rs = sifted ks rs
  sifted (bring t (supervisor c) ∷ ks) rs = cond (fit t) (get_or rs 0 [] ∷ sifted ks (drop 1 rs)) (sifted ks (drop 1 rs))

  fitting-without : (process : ℕ) (ks : List Brought) → without_others process (fitting ks) ≡ fitting (brought_without_others process ks)
  unfolding without_others fitting brought_without_others
  fitting-without process [] = refl
  fitting-without process (bring t (supervisor c) ∷ ks) = go (fit t) (fitting-without process ks)
    where
      go : (f : Bool) → without_others process (fitting ks) ≡ fitting (brought_without_others process ks)
          → without_others process (cond f (supervisor c ∷ fitting ks) (fitting ks))
          ≡ cond f (supervisor c ∷ fitting (brought_without_others process ks)) (fitting (brought_without_others process ks))
      go true later = rw later
      go false later = later
  fitting-without process (bring t (user q a e) ∷ ks) = go (fit t) (eqb q process) refl refl (fitting-without process ks)
    where
      go : (f u : Bool) → fit t ≡ f → eqb q process ≡ u → without_others process (fitting ks) ≡ fitting (brought_without_others process ks)
          → without_others process (cond f (user q a e ∷ fitting ks) (fitting ks))
          ≡ fitting (cond u (bring t (user q a e) ∷ brought_without_others process ks) (brought_without_others process ks))
      go true true f u later = rw (f, u, later)
      go true false f u later = rw (u, later)
      go false true f u later = rw (f, later)
      go false false f u later = later

  module _ (s : Shape) where
    -- one call: it brings the board's own numbers, or it changes nothing
    data OneCall (t : Shape) (b : Board) (k : Call) : Type 0 where
      fits : fit t ≡ true → t ≡ s → OneCall t b k
      refuses : fit t ≡ false → step t b k ≡ refused b 1 → OneCall t b k

    abbrev FitsAre : Board → Type 0
    FitsAre b = (t : Shape) → fits_board t b ≡ fit t

    fits-later : (t : Shape) (b : Board) (k : Call) → FitsAre b → FitsAre (step t b k).after
    fits-later t b k h u = fits-same u t b k ∙ h u

    one-call : (t : Shape) (b : Board) (k : Call) → FitsAre b → Brings s b t → OneCall t b k
    one-call t b k h i = go (fit t) refl i
      where
        go : (f : Bool) → fit t ≡ f → Brings s b t → OneCall t b k
        go true f (own e) = fits f e
        go true f (unfit n) = clash (fit t) f (sym (h t) ∙ n)
        go false f i = refuses f (unfit-call t b b.store.memory (record { no = h t ∙ f; same_length = refl }) k).0

    after-fitting : (b : Board) (ks : List Brought) → FitsAre b → EachBrings s b ks → brought_after b ks ≡ after s b (fitting ks)
    unfolding ran brought_next fitting EachBrings
    after-fitting b [] h i = refl
    after-fitting b (bring t k ∷ ks) h i = go (one-call t b k h i.0) (after-fitting (step t b k).after ks (fits-later t b k h) i.1)
      where
        go : OneCall t b k → brought_after (step t b k).after ks ≡ after s (step t b k).after (fitting ks)
            → brought_after (step t b k).after ks ≡ after s b (cond (fit t) (k ∷ fitting ks) (fitting ks))
        go (fits f e) later = later ∙ rw (f, e)
        go (refuses f e) later = later ∙ rw (f, e)

    ever-fitting : (test : List ℕ → Bool) (b : Board) (ks : List Brought) → FitsAre b → EachBrings s b ks
        → brought_at_some_moment test b ks ≡ at_some_moment test s b (fitting ks)
    unfolding some_moment brought_next fitting EachBrings
    ever-fitting test b [] h i = refl
    ever-fitting test b (bring t k ∷ ks) h i = go (one-call t b k h i.0) (ever-fitting test (step t b k).after ks (fits-later t b k h) i.1)
      where
        go : OneCall t b k → brought_at_some_moment test (step t b k).after ks ≡ at_some_moment test s (step t b k).after (fitting ks)
            → (test b.slots || brought_at_some_moment test (step t b k).after ks) ≡ at_some_moment test s b (cond (fit t) (k ∷ fitting ks) (fitting ks))
        go (fits f e) later = rw (later, f, e)
        go (refuses f e) later = rw (later, f, e) (moment-again (next s) (λ c. test c.slots) b (fitting ks))

    -- pages that are moved in, into the segments of S, which are those of T
    module _ (process : ℕ) (S T : ℕ → Bool) (same : (segment : ℕ) → S segment ≡ T segment) (i : ℕ) where
      handed-fitting : (b : Board) (ks : List Brought) → FitsAre b → EachBrings s b ks
          → handed_lines T i s b (fitting ks) ≡ sifted (brought_without_others process ks) (brought_handed_lines S i b ks)
      unfolding handed_lines fitting sifted brought_without_others brought_handed_lines EachBrings
      handed-fitting b [] h j = refl
      handed-fitting b (bring t (supervisor c) ∷ ks) h j =
          go (one-call t b (supervisor c) h j.0) (handed-fitting (step t b (supervisor c)).after ks (fits-later t b (supervisor c) h) j.1)
        where
          go : OneCall t b (supervisor c)
              → handed_lines T i s (step t b (supervisor c)).after (fitting ks) ≡ sifted (brought_without_others process ks) (brought_handed_lines S i (step t b (supervisor c)).after ks)
              → handed_lines T i s b (cond (fit t) (supervisor c ∷ fitting ks) (fitting ks))
              ≡ cond (fit t) (handed_by S i t b c (moves_of c) ∷ sifted (brought_without_others process ks) (brought_handed_lines S i (step t b (supervisor c)).after ks))
              (sifted (brought_without_others process ks) (brought_handed_lines S i (step t b (supervisor c)).after ks))
          go (fits f e) later = let x = handed-by-same S T same i s b c (moves_of c) in rw (← later, f, e, x)
          go (refuses f e) later = rw (← later, f, e)
      handed-fitting b (bring t (user q a d) ∷ ks) h j =
          go (eqb q process) (one-call t b (user q a d) h j.0) (handed-fitting (step t b (user q a d)).after ks (fits-later t b (user q a d) h) j.1)
        where
          go : (u : Bool) → OneCall t b (user q a d)
              → handed_lines T i s (step t b (user q a d)).after (fitting ks) ≡ sifted (brought_without_others process ks) (brought_handed_lines S i (step t b (user q a d)).after ks)
              → handed_lines T i s b (cond (fit t) (user q a d ∷ fitting ks) (fitting ks))
              ≡ sifted (cond u (bring t (user q a d) ∷ brought_without_others process ks) (brought_without_others process ks)) (brought_handed_lines S i (step t b (user q a d)).after ks)
          go true (fits f e) later = rw (← later, f, e)
          go true (refuses f e) later = rw (← later, f, e)
          go false (fits f e) later = rw (← later, f, e)
          go false (refuses f e) later = rw (← later, f, e)

    replies-fitting : (process : ℕ) (b : Board) (ks : List Brought) → FitsAre b → EachBrings s b ks
        → brought_replies_to process b ks ≡ woven (brought_without_others process ks) (replies_to process s b (fitting ks))
    unfolding brought_replies_to replies_to fitting woven brought_without_others EachBrings
    replies-fitting process b [] h i = refl
    replies-fitting process b (bring t (supervisor c) ∷ ks) h i =
        go (one-call t b (supervisor c) h i.0) (replies-fitting process (step t b (supervisor c)).after ks (fits-later t b (supervisor c) h) i.1)
      where
        go : OneCall t b (supervisor c)
            → brought_replies_to process (step t b (supervisor c)).after ks ≡ woven (brought_without_others process ks) (replies_to process s (step t b (supervisor c)).after (fitting ks))
            → brought_replies_to process (step t b (supervisor c)).after ks
            ≡ woven (brought_without_others process ks) (replies_to process s b (cond (fit t) (supervisor c ∷ fitting ks) (fitting ks)))
        go (fits f e) later = later ∙ rw (f, e)
        go (refuses f e) later = later ∙ rw (f, e)
    replies-fitting process b (bring t (user q a d) ∷ ks) h i =
        go (eqb q process) refl (one-call t b (user q a d) h i.0) (replies-fitting process (step t b (user q a d)).after ks (fits-later t b (user q a d) h) i.1)
      where
        go : (u : Bool) → eqb q process ≡ u → OneCall t b (user q a d)
            → brought_replies_to process (step t b (user q a d)).after ks ≡ woven (brought_without_others process ks) (replies_to process s (step t b (user q a d)).after (fitting ks))
            → cond u (reply (step t b (user q a d)).answer ∷ brought_replies_to process (step t b (user q a d)).after ks) (brought_replies_to process (step t b (user q a d)).after ks)
            ≡ woven (cond u (bring t (user q a d) ∷ brought_without_others process ks) (brought_without_others process ks)) (replies_to process s b (cond (fit t) (user q a d ∷ fitting ks) (fitting ks)))
        go true u (fits f e) later = rw (later, f, u, e)
        go true u (refuses f e) later = rw (later, f, e)
        go false u (fits f e) later = rw (later, f, u, e)
        go false u (refuses f e) later = rw (later, f, e)

-- ---- demand 3

module _ (s : Shape) (b : Board) where
  abbrev fit : Shape → Bool
  fit t = fits_board t b

  abbrev calls : List Brought → List Call
  calls ks = fitting fit ks

  brought-after : (ks : List Brought) → EachBrings s b ks → brought_after b ks ≡ after s b (calls ks)
  brought-after ks i = after-fitting fit s b ks (λ t. refl) i

  brought-ever : (test : List ℕ → Bool) (ks : List Brought) → EachBrings s b ks → brought_at_some_moment test b ks ≡ at_some_moment test s b (calls ks)
  brought-ever test ks i = ever-fitting fit s test b ks (λ t. refl) i

  module _ (ks ls : List Brought) (process : ℕ) (two : TwoRuns s b ks ls process) where
    calls_same : SameFor process (calls ks) (calls ls)
    calls_same = fitting-without fit process ks ∙ ap (fitting fit) two.same_calls ∙ sym (fitting-without fit process ls)

    brought-ever-same : (test : List ℕ → Bool) → brought_at_some_moment test b ks ≡ brought_at_some_moment test b ls
    brought-ever-same test =
        brought-ever test ks two.first_brings ∙ ever-same test s process b (calls ks) (calls ls) calls_same ∙ sym (brought-ever test ls two.second_brings)

    brought-either : BroughtApart s b ks process → BroughtApart s b ls process
    brought-either apart segment other low differs h w = apart segment other low differs (brought-ever-same _ ∙ h) (brought-ever-same _ ∙ w)

    calls_apart : BroughtApart s b ks process → Apart s b (calls ks) process
    calls_apart apart segment other low differs h w =
        apart segment other low differs (brought-ever _ ks two.first_brings ∙ h) (brought-ever _ ks two.first_brings ∙ w)

    calls-moves : BroughtMovesAlike b ks ls process → MovesAlike s b (calls ks) (calls ls) process
    calls-moves moved i low =
        handed-fitting fit s process _ _ ever i b ks (λ t. refl) two.first_brings
        ∙ rw (two.same_calls, moved i low) (sym (handed-fitting fit s process _ _ ever i b ls (λ t. refl) two.second_brings))
      where
        ever : (segment : ℕ) → brought_at_some_moment (λ slots. holds slots process segment) b ks ≡ ever_holds s b (calls ks) process segment
        ever segment = brought-ever (λ slots. holds slots process segment) ks two.first_brings

    brought-replies : replies_to process s b (calls ks) ≡ replies_to process s b (calls ls) → brought_replies_to process b ks ≡ brought_replies_to process b ls
    brought-replies e =
        replies-fitting fit s process b ks (λ t. refl) two.first_brings ∙ rw (two.same_calls, e)
        (sym (replies-fitting fit s process b ls (λ t. refl) two.second_brings))

-- ---- the premise on moves

module _ (S T : ℕ → Bool) (same : (segment : ℕ) → S segment ≡ T segment) (i : ℕ) where
  handed-same : (b : Board) (ks : List Brought) → brought_handed_lines S i b ks ≡ brought_handed_lines T i b ks
  unfolding brought_handed_lines
  handed-same b [] = refl
  handed-same b (bring t (user q a e) ∷ ks) = handed-same (step t b (user q a e)).after ks
  handed-same b (bring t (supervisor c) ∷ ks) =
      let e = handed-by-same S T same i t b c (moves_of c) in
      let later = handed-same (step t b (supervisor c)).after ks in
      rw (e, later)

brought-moves-either : (s : Shape) (b : Board) (ks ls : List Brought) (process : ℕ)
    → TwoRuns s b ks ls process → BroughtMovesAlike b ks ls process → BroughtMovesAlike b ls ks process
brought-moves-either s b ks ls process two h i l =
    let e : (segment : ℕ) → brought_at_some_moment (λ slots. holds slots process segment) b ls ≡ brought_at_some_moment (λ slots. holds slots process segment) b ks =
    λ segment. sym (brought-ever-same s b ks ls process two (λ slots. holds slots process segment)) in
    handed-same _ _ e i b ls ∙ sym (h i l) ∙ sym (handed-same _ _ e i b ks)

-- runs without moves: an empty entry for each of the supervisor's calls
handed-quiet : (S : ℕ → Bool) (i : ℕ) (b : Board) (ks : List Brought) → no_move (brought_calls ks) ≡ true → brought_handed_lines S i b ks ≡ quiet (brought_calls ks)
unfolding brought_handed_lines brought_calls no_move quiet
handed-quiet S i b [] h = refl
handed-quiet S i b (bring t (user q a e) ∷ ks) h = handed-quiet S i (step t b (user q a e)).after ks h
handed-quiet S i b (bring t (supervisor c) ∷ ks) h =
    let e = handed-none S i t b c (moves_of c) (and_left (is_nothing (moves_of c)) (no_move (brought_calls ks)) h) in
    let later = handed-quiet S i (step t b (supervisor c)).after ks (and_right (is_nothing (moves_of c)) (no_move (brought_calls ks)) h) in
    rw (e, later)

calls-without : (process : ℕ) (ks : List Brought) → brought_calls (brought_without_others process ks) ≡ without_others process (brought_calls ks)
unfolding brought_calls brought_without_others without_others
calls-without process [] = refl
calls-without process (bring t (supervisor c) ∷ ks) = ap (λ (l : List Call). supervisor c ∷ l) (calls-without process ks)
calls-without process (bring t (user q a e) ∷ ks) = go (eqb q process) (calls-without process ks)
  where
    go : (u : Bool) → brought_calls (brought_without_others process ks) ≡ without_others process (brought_calls ks)
        → brought_calls (cond u (bring t (user q a e) ∷ brought_without_others process ks) (brought_without_others process ks))
        ≡ cond u (user q a e ∷ without_others process (brought_calls ks)) (without_others process (brought_calls ks))
    go true later = ap (λ (l : List Call). user q a e ∷ l) later
    go false later = later

brought-without-moves : (s : Shape) (b : Board) (ks ls : List Brought) (process : ℕ)
    → TwoRuns s b ks ls process → no_move (brought_calls ks) ≡ true → BroughtMovesAlike b ks ls process
brought-without-moves s b ks ls process two h i l =
    let same : without_others process (brought_calls ks) ≡ without_others process (brought_calls ls) =
    sym (calls-without process ks) ∙ ap brought_calls two.same_calls ∙ calls-without process ls in
    let k = quiet-without process (brought_calls ks) in
    let o = quiet-without process (brought_calls ls) in
    handed-quiet _ i b ks h ∙ k.0 ∙ ap quiet same ∙ sym o.0
    ∙ sym (handed-quiet _ i b ls (o.1 ∙ ap no_move (sym same) ∙ sym k.1 ∙ h))

-- the replies to a process are the plain machine's
brought_plain : (s : Shape) (b : Board) → Fresh b → (ks : List Brought) (process : ℕ) → EachBrings s b ks
    → brought_replies_to process b ks ≡ plain_brought_replies_to process (plain_of b b.store.memory) ks
brought_plain s b x ks process h = go (fits_board s b) refl
  where
    go : (t : Bool) → fits_board s b ≡ t → brought_replies_to process b ks ≡ plain_brought_replies_to process (plain_of b b.store.memory) ks
    go true t = brought-replies-to (Stands s) s (stepped s) (stands-lengths s) process b b.store.memory ks (stands-fresh s b x t) h
    go false t = brought-replies-to (Unfit s) s (unfit-stepped s) (unfit-lengths s) process b b.store.memory ks (record { no = t; same_length = refl }) h

-- what demand 3 says of the calls that fit, with the plain machine's replies, is what it says of the run
brought-same : (s : Shape) (b : Board) (m : List ℕ) (ks ls : List Brought) (process : ℕ) (two : TwoRuns s b ks ls process)
    → ((ks : List Brought) → EachBrings s b ks → brought_replies_to process b ks ≡ plain_brought_replies_to process (plain_of b m) ks)
    → SameForProcess s b m (calls s b ks) (calls s b ls) process → BroughtSameForProcess s b m ks ls process
brought-same s b m ks ls process two plain r =
    let k = brought-after s b ks two.first_brings in
    let l = brought-after s b ls two.second_brings in
    record {
      same_replies = brought-replies s b ks ls process two r.same_replies;
      plain_replies_lem = plain ks two.first_brings;
      plain_replies_second = plain ls two.second_brings;
      same_map = rw (k, l) r.same_map;
      same_bytes = λ page frame line e g d. rw (k, l) (r.same_bytes page frame line (sym (brought-ever s b _ ks two.first_brings) ∙ e) (rw k at g) d);
    }

pub brought-demand3 : BroughtDemand3
brought-demand3 = record {
  apart = λ s b x ks ls process two apart moved.
      brought-same s b b.store.memory ks ls process two (λ ks h. brought_plain s b x ks process h)
      (demand3.apart s b x (calls s b ks) (calls s b ls) process (calls_same s b ks ls process two) (calls_apart s b ks ls process two apart)
      (calls-moves s b ks ls process two moved));
  without_moves = brought-without-moves;
  apart_either = brought-either;
  moves_either = brought-moves-either;
  one_copy = λ s b x ks h. let k = brought-after s b ks h in rw k (demand3.one_copy s b x (calls s b ks));
  every_valid_holds = λ s b x ks h. let k = brought-after s b ks h in rw k (demand3.every_valid_holds s b x (calls s b ks));
  one_copy_valid = λ s b x ks h. let k = brought-after s b ks h in rw k (demand3.one_copy_valid s b x (calls s b ks));
}

pub brought-demand3-sound : BroughtDemand3Sound
brought-demand3-sound = record {
  apart = λ s b m x y ks ls process two apart moved.
      brought-same s b m ks ls process two
      (λ ks h. brought-replies-to (Stands s) s (stepped s) (stands-lengths s) process b m ks (stands_of s b m x y) h)
      (demand3-sound.apart s b m x y (calls s b ks) (calls s b ls) process (calls_same s b ks ls process two) (calls_apart s b ks ls process two apart)
      (calls-moves s b ks ls process two moved));
  one_copy = λ s b x ks h. let k = brought-after s b ks h in rw k (demand3-sound.one_copy s b x (calls s b ks));
}
