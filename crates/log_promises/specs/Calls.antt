-- The calls of a run as entries of a log (CR 1): "kind 1 user access, 2 supervisor access, 3 attach, 4 detach, 5 map, 6 unmap, 7 protect, 8 flush all,
-- 9 tag, 10 load-and-map, 11 drop tag, then the fields in the order of 01; load is 0 and store 1"; 12 move (CR 9): page, new page.
use Rattle.std.specs.Prelude.{ℕ, ◌≡◌, Bool, true, ◌&&◌, List, [], ◌∷◌, ◌++◌, leb}
use Rattle.board.specs.Lists.{bit}
use Rattle.board.specs.declared.Shape.{Shape}
use Rattle.log_numbers.specs.Numbers.{bytes_of}
use Rattle.log_entries.specs.Entries.{most}
use Rattle.promises.specs.Runs.{Call, user, supervisor, access, attach, detach, map, unmap, protect, move, flush_all, tag, load_and_map, drop_tag}

-- a call as an entry: its kind, then its fields
unfoldable pub entry_of : Call → List ℕ
entry_of (user process a e) = 1 ∷ process ∷ bit a.store ∷ a.width ∷ e.0 ∷ a.value ∷ []
entry_of (supervisor (access a g)) = 2 ∷ bit a.store ∷ a.width ∷ g.0 ∷ a.value ∷ []
entry_of (supervisor (attach process slot segment write)) = 3 ∷ process ∷ slot ∷ segment ∷ bit write ∷ []
entry_of (supervisor (detach process slot)) = 4 ∷ process ∷ slot ∷ []
entry_of (supervisor (map page frame write)) = 5 ∷ page ∷ frame ∷ bit write ∷ []
entry_of (supervisor (unmap page)) = 6 ∷ page ∷ []
entry_of (supervisor (protect page write)) = 7 ∷ page ∷ bit write ∷ []
entry_of (supervisor flush_all) = 8 ∷ []
entry_of (supervisor (tag name)) = 9 ∷ name ∷ []
entry_of (supervisor (load_and_map line)) = 10 ∷ line ∷ []
entry_of (supervisor drop_tag) = 11 ∷ []
entry_of (supervisor (move page new)) = 12 ∷ page ∷ new ∷ []

-- the header as an entry: F, U, P, L
unfoldable pub header_of : Shape → List ℕ
header_of s = 0 ∷ s.frames ∷ s.uncached ∷ s.processes ∷ s.lines ∷ []

-- no field is larger than it may be, from this one on
unfoldable pub fields_fit : ℕ → List ℕ → List ℕ → Bool
fields_fit kind before [] = true
fields_fit kind before (n ∷ ns) = leb n (most kind before) && fields_fit kind (before ++ n ∷ []) ns

unfoldable pub entry_fits : List ℕ → Bool
entry_fits [] = true
entry_fits (kind ∷ fields) = fields_fit kind [] fields

-- a log can hold it. It can't hold a load that carries a value, nor a number that is too large
abbrev pub Loggable : Call → Type 0
Loggable k = entry_fits (entry_of k) ≡ true

abbrev pub LoggableShape : Shape → Type 0
LoggableShape s = entry_fits (header_of s) ≡ true

pub data AllLoggable : List Call → Type 0 where
  none : AllLoggable []
  also : {k : Call} {ks : List Call} → Loggable k → AllLoggable ks → AllLoggable (k ∷ ks)

-- ---- the log of a board's calls

unfoldable pub calls_bytes : List Call → List ℕ
calls_bytes [] = []
calls_bytes (k ∷ ks) = bytes_of (entry_of k) ++ calls_bytes ks

-- "The log opens with F, U, P, L."
unfoldable pub header_bytes : Shape → List ℕ
header_bytes s = bytes_of (s.frames ∷ s.uncached ∷ s.processes ∷ s.lines ∷ [])

unfoldable pub log_of : Shape → List Call → List ℕ
log_of s ks = header_bytes s ++ calls_bytes ks

unfoldable pub entries_of : List Call → List (List ℕ)
entries_of [] = []
entries_of (k ∷ ks) = entry_of k ∷ entries_of ks
