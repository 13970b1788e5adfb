-- CR 2's own case, a store of 300 with width 1, and the values at each width's edge, in one run.
use Rattle.std.specs.Prelude.{ℕ, ◌+◌, ◌*◌, ◌-◌, ◌^◌, ◌≡◌, true, false, List, [], ◌∷◌}
use Rattle.address.specs.Layout.{page_bytes}
use Rattle.address.specs.Addresses.{effective, global}
use Rattle.board.specs.Answers.{answer}
use Rattle.machine.specs.Boards.{fits_board}
use Rattle.promises.specs.Runs.{access, tag, Call, user, supervisor, step, after}
use Rattle.promises.specs.Values.{as_user, asks, storing, loading}
use Rattle.example_runs.specs.Examples.{shape, start, save, opening, answers, LowerGiven}

-- process 0 stores a value and loads it again (width, address, value)
abbrev pub keep : ℕ → ℕ → ℕ → List Call → List Call
keep width at value ks = save 0 width at value ∷ user 0 (loading width 0) (effective at) ∷ ks

-- the supervisor stores in one byte (address, value)
abbrev pub save_byte : ℕ → ℕ → Call
save_byte at value = supervisor (access (storing 1 value) (global at))

-- the opening of `Examples` leaves 50 in the first four bytes of process 0's page. Then process 0
--   stores 300 at 3 with width 1, then 256 there; 65,536 at 2 with width 2; and 65,536 at 1, which is misaligned too
--   stores 300 at 3 with width 3, and 1 with width 0; and loads the byte at 3, with 300 as the value of the load
--   keeps the largest value of each width: 255, 65,535 and 2^32 - 1
-- and the supervisor stores 255 in the byte at 3 of that page and in the first byte of memory (prefix 0), then 256 in these, in the first byte of
-- frame 3 (prefix 1) and at the start of the page table region
abbrev pub run : List Call
run =
    opening false (save 0 1 3 300 ∷ save 0 1 3 256 ∷ save 0 2 2 65536 ∷ save 0 2 1 65536
    ∷ save 0 3 3 300 ∷ save 0 0 3 1 ∷ user 0 (loading 1 300) (effective 3)
    ∷ keep 1 3 255 (keep 2 2 65535 (keep 4 0 (2 ^ 32 - 1)
    (save_byte 0x200000003 255 ∷ save_byte 0 255
    ∷ save_byte 0x200000003 256 ∷ save_byte 0 256 ∷ save_byte (2 ^ 32 + page_bytes * 3) 256 ∷ save_byte 0xFFC00000000 256 ∷ []))))

pub record ValuesExample : Type 0 where
  -- the opening is done; what is too large is refused with 2, and leaves the 50; widths 3 and 0 are refused with 4; each largest value is stored, and
  -- read back whole
  pub answers_are : answers shape start run
      ≡ answer 0 0 0 ∷ answer 0 0 0 ∷ answer 0 0 0 ∷ answer 0 0 0 ∷ answer 0 0 0 ∷ answer 0 0 2
      ∷ answer 2 0 0 ∷ answer 2 0 0 ∷ answer 2 0 0 ∷ answer 2 0 0
      ∷ answer 4 0 0 ∷ answer 4 0 0 ∷ answer 0 50 1
      ∷ answer 0 0 1 ∷ answer 0 255 1 ∷ answer 0 0 1 ∷ answer 0 65535 1 ∷ answer 0 0 1 ∷ answer 0 (2 ^ 32 - 1) 1
      ∷ answer 0 0 1 ∷ answer 0 0 4 ∷ answer 2 0 0 ∷ answer 2 0 0 ∷ answer 2 0 0 ∷ answer 2 0 0 ∷ []
  -- 2 comes before a misaligned address's 4, and before the 3 of a pending tag
  pub before_4 : LowerGiven (after shape start (opening false [])) (save 0 2 1 65536) 2 4
  pub before_3 : LowerGiven (after shape start (opening false (supervisor (tag 0x20000000) ∷ []))) (save 0 1 3 256) 2 3
  -- the opening meets the premises of `ValuesFit`, fields `too_large` and `whole`
  pub fits : fits_board shape (after shape start (opening false [])) ≡ true
  pub stores : (step shape (after shape start (opening false [])) (asks (as_user 0 (effective 3)) (storing 1 255))).answer.number ≡ 0
