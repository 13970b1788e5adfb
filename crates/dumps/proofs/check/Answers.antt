-- `check` asks the lengths, then its scratch, then goes through the rules.
use mathlib.Core.Path.{refl}
use mathlib.Core.Bool.{true, false}
use Rattle.dumps.proofs.Checks.{fits-by, unfit-by, one-sized, one-words, one-frames, one-lines, call-unfit, call-done, call-short, call-works, room-frames, room-frame-links, room-lines, room-line-links}
use borrow.Author.Rules.{rules}
use Rattle.dumps.proofs.check.Goals as goal

pub returns-then-is_err : goal.returns-then-is_err
returns-then-is_err c = λ tag. let a = c.args in
    let f = unfit-by _ _ _ c.fit.ensures c.is_err.ensures.value c.if-is_err.true in
    record {
      report_is = call-unfit a.s a.slots.now a.words.now a.records.now a.cache.now a.memory.now _ _ false f tag _ refl c.new.ensures;
      scratch_kept = λ n. search rules;
    }

pub has_room-requires : goal.has_room-requires
has_room-requires c = let a = c.args in
    let f = fits-by _ _ _ c.fit.ensures c.is_err.ensures.value c.if-is_err.false in (
      one-frames a.s a.slots.now a.words.now a.records.now a.cache.now a.memory.now true f refl,
      one-lines a.s a.slots.now a.words.now a.records.now a.cache.now a.memory.now true f refl,
    )

pub returns-then-not-has_room : goal.returns-then-not-has_room
returns-then-not-has_room c = λ tag. let a = c.args in
    let f = fits-by _ _ _ c.fit.ensures c.is_err.ensures.value c.if-is_err.false in
    record {
      report_is = call-short a.s a.slots.now a.words.now a.records.now a.cache.now a.memory.now _ _ true f refl _ c.has_room.ensures tag c.if-not-has_room.true;
      scratch_kept = λ n. search rules;
    }

pub check_pages-requires : goal.check_pages-requires
check_pages-requires c = let a = c.args in
    let f = fits-by _ _ _ c.fit.ensures c.is_err.ensures.value c.if-is_err.false in
    let g = c.has_room.ensures in
    let u = c.if-not-has_room.false in (
      one-sized a.s a.slots.now a.words.now a.records.now a.cache.now a.memory.now true f refl,
      one-words a.s a.slots.now a.words.now a.records.now a.cache.now a.memory.now true f refl,
      room-frames a.s _ _ _ g u,
      room-frame-links a.s _ _ _ g u,
      room-lines a.s _ _ _ g u,
      room-line-links a.s _ _ _ g u,
    )

pub returns : goal.returns
returns c = λ tag. let a = c.args in
    let f = fits-by _ _ _ c.fit.ensures c.is_err.ensures.value c.if-is_err.false in
    let g = c.has_room.ensures in
    let u = c.if-not-has_room.false in
    record {
      report_is = call-done a.s a.slots.now a.words.now a.records.now a.cache.now a.memory.now _ _ true f refl _ g tag _ u c.check_pages.ensures;
      scratch_kept = λ n. call-works a.s a.slots.now a.words.now a.records.now a.cache.now a.memory.now _ _ true f refl _ g u n;
    }
