-- Each call but the accesses: the board and the plain machine stay alike.
-- Stands on Related, Remap (the calls on the page map) and, for load-and-map, Lengths, Reaching and the set laws of `lines`.
use Rattle.std.specs.Prelude.{Some}
use Prim.Native.Nat.{ℕ}
use mathlib.Core.Path.{◌≡◌, refl}
use mathlib.Core.Bool.{Bool, true}
use mathlib.Core.List.{List}
use lib.ListN.{get_or, set}
use lib.Dec.{leb, ltb}
use borrow.Author.Tests.{not-false, ltb-true, eqb-true}
use Rattle.address.specs.Addresses.{ordinary_page}
use Rattle.pages.specs.Pages.{frame_word, word_writes, mapped_to, home_of}
use Rattle.board.specs.Homes.{at_line}
use Rattle.board.specs.Answers.{answer}
use Rattle.board.specs.declared.Shape.{Shape}
use Rattle.board.proofs.Bools.{and_left, and_right}
use Rattle.line_bytes.specs.Bytes.{zeroed_frame}
use Rattle.lines.specs.Victims.{victim_of}
use Rattle.lines.proofs.Sets.{victim-set, victim-inside}
use Rattle.visits.specs.Visits.{flush_visit, visited_all}
use Rattle.machine.specs.Boards.{Board, fits_board, done, no_tag, with_tag, with_store, with_pages, pages_of}
use Rattle.machine.specs.Refusals.{is_frame}
use Rattle.machine.specs.Calls.{found_frame, attach, attach_table, detach, detach_table, map_page, map_table, mapped, unmap, page_table, unmapped, protect, protected, move_page, move_table, moved, flush_all, flush_table, tag, tag_table, load_and_map, load_and_map_table, loaded, on_loaded, name_frame, name_line, name_writes, drop_tag, drop_tag_table}
use Rattle.promises.specs.Plain.{plain_done, plain_tag, plain_words, plain_attach, plain_detach, plain_map, plain_unmap, plain_protect, plain_move, plain_flush, plain_tagging, plain_load_and_map, plain_drop_tag}
use Rattle.promises.specs.Runs.{plain_of}
use Rattle.store_laws.proofs.Sim.{Sim}
use Rattle.page_laws.proofs.Maps.{found_at, found_nothing, mapped-home}
use Rattle.page_laws.proofs.Remap.{sim-cleared, sim-unmapped, sim-moved, sim-protected, sim-flushed}
use Rattle.page_laws.proofs.Reaching.{loaded-same}
use Rattle.promises.proofs.Shapes.{BoardShaped, board-shaped}
use Rattle.promises.proofs.Lengths.{lengths-loaded}
use Rattle.promises.proofs.Related.{Related, board-homes, lengths-same, related-done, related-table}

module _ (s : Shape) (b : Board) (m : List ℕ) (fits : fits_board s b ≡ true) (x : Sim s (home_of s b.words) b.store m) where
  abbrev shape : BoardShaped s b
  shape = board-shaped s b fits

  pub related-attach : (process slot segment : ℕ) (write : Bool) → Related s (attach s b process slot segment write) (plain_attach s (plain_of b m) process slot segment write)
  unfolding attach plain_attach
  related-attach process slot segment write =
      rw (lengths-same s b m x)
      (related-table s b m x (attach_table s b process slot segment) _ _ (λ k. record { memory = m; given_is = refl; sim = x }))

  pub related-detach : (process slot : ℕ) → Related s (detach s b process slot) (plain_detach s (plain_of b m) process slot)
  unfolding detach plain_detach
  related-detach process slot =
      rw (lengths-same s b m x)
      (related-table s b m x (detach_table s b process slot) _ _ (λ k. record { memory = m; given_is = refl; sim = x }))

  pub related-map : (page frame : ℕ) (write : Bool) → Related s (map_page s b page frame write) (plain_map s (plain_of b m) page frame write)
  unfolding map_page plain_map mapped
  related-map page frame write =
      rw (lengths-same s b m x)
      (related-table s b m x (map_table s b page frame) (done (with_pages b (mapped s page frame write (pages_of b))))
      (plain_done (plain_words (plain_of b m) (set b.words frame (frame_word page write)) (zeroed_frame m frame)))
      (λ k.
      let t = not-false _ (k 1) in
      let o = and_left (ordinary_page page) (is_frame s frame) t in
      let f = and_right (ordinary_page page) (is_frame s frame) t in
      related-done s b m x (answer 0 0 0) (with_pages b (mapped s page frame write (pages_of b))) (zeroed_frame m frame) refl
      (sim-cleared s b.words b.store m x shape.words_are shape.frames_max page frame write o
      (ltb-true _ _ (and_right (leb s.uncached frame) (ltb frame s.frames) f))
      (eqb-true _ _ (not-false _ (k 2))) (found_nothing _ (k 3)))))

  pub related-unmap : (page : ℕ) → Related s (unmap s b page) (plain_unmap s (plain_of b m) page)
  unfolding unmap plain_unmap unmapped
  related-unmap page =
      rw (lengths-same s b m x)
      (related-table s b m x (page_table s b page) (done (with_pages b (unmapped s page (found_frame (mapped_to s b.words page)) (pages_of b))))
      (plain_done (plain_words (plain_of b m) (set b.words (found_frame (mapped_to s b.words page)) 0) m))
      (λ k. related-done s b m x (answer 0 0 0) (with_pages b (unmapped s page (found_frame (mapped_to s b.words page)) (pages_of b))) m refl
      (sim-unmapped s b.words b.store m x page _ (found_at _ (k 2)))))

  pub related-protect : (page : ℕ) (write : Bool) → Related s (protect s b page write) (plain_protect s (plain_of b m) page write)
  unfolding protect plain_protect protected
  related-protect page write =
      rw (lengths-same s b m x)
      (related-table s b m x (page_table s b page) (done (with_pages b (protected s page (found_frame (mapped_to s b.words page)) write (pages_of b))))
      (plain_done (plain_words (plain_of b m) (set b.words (found_frame (mapped_to s b.words page)) (frame_word page write)) m))
      (λ k. related-done s b m x (answer 0 0 0) (with_pages b (protected s page (found_frame (mapped_to s b.words page)) write (pages_of b))) m refl
      (sim-protected s b.words b.store m x page _ write (found_at _ (k 2)))))

  pub related-move : (page new : ℕ) → Related s (move_page s b page new) (plain_move s (plain_of b m) page new)
  unfolding move_page plain_move moved
  related-move page new =
      rw (lengths-same s b m x)
      (related-table s b m x (move_table s b page new) (done (with_pages b (moved s page new (found_frame (mapped_to s b.words page)) (pages_of b))))
      (plain_done (plain_words (plain_of b m) (set b.words (found_frame (mapped_to s b.words page)) _) m))
      (λ k. related-done s b m x (answer 0 0 0) (with_pages b (moved s page new (found_frame (mapped_to s b.words page)) (pages_of b))) m refl
      (sim-moved s b.words b.store m x page _ (found_at _ (k 2)) new (word_writes (get_or b.words (found_frame (mapped_to s b.words page)) 0)))))

  pub related-flush : Related s (flush_all s b) (plain_flush s (plain_of b m))
  unfolding flush_all plain_flush
  related-flush =
      rw (lengths-same s b m x)
      (related-table s b m x (flush_table s b) (done (with_store b (visited_all s flush_visit b.store))) (plain_done (plain_of b m))
      (λ k. related-done s b m x (answer 0 0 0) (with_store b (visited_all s flush_visit b.store)) m refl (sim-flushed s b.words b.store m x)))

  pub related-tag : (name : ℕ) → Related s (tag s b name) (plain_tagging s (plain_of b m) name)
  unfolding tag plain_tagging
  related-tag name =
      rw (lengths-same s b m x) (related-table s b m x (tag_table s b name) _ _ (λ k. record { memory = m; given_is = refl; sim = x }))

  -- load-and-map of a name keeps what the store stands for
  loaded-sim : (name line : ℕ) (w : Bool) → home_of s b.words name ≡ Some (at_line line w)
      → Sim s (home_of s b.words) (loaded s name line w b.store b.uses).store m
  unfolding loaded
  loaded-sim name line w h =
      loaded-same s (home_of s b.words) (board-homes s b fits) x (victim_of s b.uses b.store.records name) name line w
      (victim-inside s b.uses b.store.records name x.ways_pos x.sets_pos) (victim-set s b.uses b.store.records name x.ways_pos) h

  pub related-load : (line : ℕ) → Related s (load_and_map s b line) (plain_load_and_map s (plain_of b m) line)
  unfolding load_and_map plain_load_and_map
  related-load line =
      rw (lengths-same s b m x)
      (related-table s b m x (load_and_map_table s b line)
      (done (with_tag (on_loaded b (loaded s b.tag.name line (name_writes s b.words b.tag.name) b.store b.uses)) no_tag))
      (plain_done (plain_tag (plain_of b m) no_tag))
      (λ k.
      let f = found_at (name_frame s b.words b.tag.name) (k 3) in
      let l : line ≡ name_line s b.words b.tag.name = eqb-true _ _ (not-false _ (k 4)) in
      related-done s b m x (answer 0 0 0)
      (with_tag (on_loaded b (loaded s b.tag.name line (name_writes s b.words b.tag.name) b.store b.uses)) no_tag) m
      (lengths-loaded s b b.tag.name line (name_writes s b.words b.tag.name)).uses
      (loaded-sim b.tag.name line (name_writes s b.words b.tag.name) (rw l (mapped-home s b.words b.tag.name _ f)))))

  pub related-drop : Related s (drop_tag s b) (plain_drop_tag s (plain_of b m))
  unfolding drop_tag plain_drop_tag
  related-drop = rw (lengths-same s b m x) (related-table s b m x (drop_tag_table s b) _ _ (λ k. record { memory = m; given_is = refl; sim = x }))
