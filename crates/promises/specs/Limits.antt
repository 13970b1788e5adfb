-- The limits of F, U, P and L, of which CR 7 moved two, as every call gives them: number 1 comes exactly if a number is out of its limits or a buffer is
-- not as long as the numbers say.
use Rattle.std.specs.Prelude.{ℕ, ◌*◌, ◌^◌, ◌≤◌, ◌≢◌, ◌⊎◌, ◌≡◌, true, List, length}
use Rattle.address.specs.Layout.{line_bytes, page_bytes}
use Rattle.board.specs.Shapes.{max_frames, max_processes, max_lines, set_lines, lengths_agree}
use Rattle.board.specs.declared.Shape.{Shape}
use Rattle.board.specs.declared.Answer.{Answer}
use Rattle.machine.specs.Boards.{Board, fresh, refused}
use Rattle.machine.specs.Lists.{access_words, list_refused, user_accesses}
use Rattle.machine.specs.Looks.{look_number}
use Rattle.promises.specs.Runs.{Call, step}

-- F, P and L are 1 to their limits and U is 0 to F; L has one bit set, so it is 2 to the power of some k; a set has one line; or four, and then L is at least 4
pub record Within (s : Shape) (k : ℕ) : Type 0 where
  pub frames_low : 1 ≤ s.frames
  pub frames_high : s.frames ≤ max_frames
  pub uncached_high : s.uncached ≤ s.frames
  pub processes_low : 1 ≤ s.processes
  pub processes_high : s.processes ≤ max_processes
  pub lines_are : s.lines ≡ 2 ^ k
  pub lines_high : s.lines ≤ max_lines
  pub edition : (s.ways ≡ 1) ⊎ ((s.ways ≡ set_lines) × (set_lines ≤ s.lines))

-- each buffer is as long as the numbers say
abbrev pub AsLong : Shape → Board → Type 0
AsLong s b =
    lengths_agree s (length b.slots) (length b.words) (length b.store.records) (length b.store.cache) (length b.store.memory) (length b.uses)
    ≡ true

-- no call is refused by 1, no list with five words for each answer, and no look
pub record NotBy1 (s : Shape) (b : Board) : Type 0 where
  pub calls : (c : Call) → (step s b c).answer.number ≢ 1
  pub lists : (accesses : List ℕ) (answers : List Answer) → length accesses ≡ access_words * length answers
      → (user_accesses s b accesses answers).answer.number ≢ 1
  pub looks : (line : ℕ) → look_number s b line ≢ 1

-- every call and every list is refused by 1 and changes nothing, and every look is refused by 1
pub record By1 (s : Shape) (b : Board) : Type 0 where
  pub calls : (c : Call) → step s b c ≡ refused b 1
  pub lists : (accesses : List ℕ) (answers : List Answer) → user_accesses s b accesses answers ≡ list_refused answers b 1
  pub looks : (line : ℕ) → look_number s b line ≡ 1

pub record LimitsStand : Type 0 where
  -- numbers within their limits are taken where the buffers are as long as they say
  pub taken : (s : Shape) (k : ℕ) (b : Board) → Within s k → AsLong s b → NotBy1 s b
  -- all else is refused by 1
  pub refused_else : (s : Shape) (b : Board) → ((k : ℕ) → Within s k → AsLong s b → ⊥) → By1 s b
  -- there are such buffers for all numbers: those of a fresh board, whatever bytes stand in cache and memory
  pub there_are : (s : Shape) (cache memory : List ℕ) → length cache ≡ line_bytes * s.lines → length memory ≡ page_bytes * s.frames
      → AsLong s (fresh s cache memory)
