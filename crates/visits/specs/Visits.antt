-- What map, unmap, protect, move and flush all do to the lines, record by record and by rising record, so by rising place.
use Rattle.std.specs.Prelude.{ℕ, zero, suc, Bool, ◌&&◌, cond}
use Rattle.pages.specs.Pages.{direct_page}
use Rattle.board.specs.declared.Shape.{Shape}
use Rattle.lines.specs.Records.{line_at, permitted_line}
use Rattle.stores.specs.Stores.{Store, written_back, noted, dropped}
use Rattle.lines.specs.Holds.{holds_at}
use Rattle.lines.specs.declared.Line.{Line}
use Rattle.ranges.specs.Ranges.{named, page_names}
use Rattle.ranges.specs.declared.Names.{Names}
use Rattle.ranges.specs.declared.Names.TheVariants.{One, Two, All}
use Rattle.visits.specs.declared.Deed.{Deed}
use Rattle.visits.specs.declared.Deed.TheVariants.{Drop, Retire, Permit}
use Rattle.visits.specs.declared.Visit.{Visit}

-- what is done, and to the lines of which names
abbrev pub visit : Deed → Names → Visit
visit d names = record { deed = d; names = names }

-- map: the lines named in the page or in the frame's prefix 1 range are dropped
abbrev pub map_visit : ℕ → ℕ → Visit
map_visit page frame = visit Drop (Two (page_names page) (page_names (direct_page frame)))

-- unmap: those named in the page are written back if changed, and dropped
abbrev pub unmap_visit : ℕ → Visit
unmap_visit page = visit Retire (One (page_names page))

-- protect: those named in the page get the permission
abbrev pub protect_visit : ℕ → Bool → Visit
protect_visit page write = visit (Permit write) (One (page_names page))

-- move: those named in the old page or in the new one are written back if changed, and dropped (CR 9)
abbrev pub move_visit : ℕ → ℕ → Visit
move_visit page new = visit Retire (Two (page_names page) (page_names new))

-- flush all: all lines are written back if changed, and dropped
abbrev pub flush_visit : Visit
flush_visit = visit Retire All

-- a visit is for this line: its name is one of the visit's
abbrev pub selects : Visit → Line → Bool
selects v l = named v.names l.name

-- what is done to the line of record i: dropped; written back if changed, and dropped; or given the permission
unfoldable pub treated : Shape → Deed → ℕ → Store → Store
treated s Drop i b = dropped i b
treated s Retire i b = dropped i (written_back s i b)
treated s (Permit write) i b = noted i (permitted_line (line_at b.records i) write) b

-- record i visited: only held lines change
unfoldable pub visited : Shape → Visit → ℕ → Store → Store
visited s v i b =
    cond (holds_at s b.records i && selects v (line_at b.records i)) (treated s v.deed i b) b

-- what f does, done to the n records from i on, one after the other
unfoldable pub sweep : (ℕ → Store → Store) → ℕ → ℕ → Store → Store
sweep f zero i b = b
sweep f (suc n) i b = sweep f n (suc i) (f i b)

-- every record visited, by rising record
unfoldable pub visited_all : Shape → Visit → Store → Store
visited_all s v b = sweep (visited s v) s.lines 0 b
