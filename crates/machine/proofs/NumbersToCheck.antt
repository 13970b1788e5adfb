-- P1 to P12 of 01, and CR 5's two pages, hold of the definitions.
use mathlib.Core.Path.{refl}
use Rattle.address.specs.Addresses.{region_of}
use Rattle.address.specs.Entries.{asked_entry, entry_number, entry_value}
use Rattle.board.specs.Lists.{part, splice}
use Rattle.board.specs.Shapes.{edition_holds, matrices_of, fits_shape}
use Rattle.pages.specs.Pages.{lowest_from, lowest_frame, mapped_to, free_frame, direct_home, home_by, home_of}
use Rattle.line_bytes.specs.Bytes.{number, digits, stored, line_of, with_line}
use Rattle.lines.specs.Records.{line_at, put_line}
use Rattle.board.specs.Searches.{first}
use Rattle.lines.specs.Holds.{holds_line, holds_at, holds_name, holder_of}
use Rattle.lines.specs.Victims.{is_empty, victim_by, victim_at, used_in}
use Rattle.stores.specs.Stores.{written_back, filled, noted, inserted, performed_at}
use Rattle.reach.specs.Reach.{way_by_home, way_by, way_of, unreached, may_write}
use lib.Count.{ones, ones_in}
use Rattle.machine.specs.Refusals.{by_table, too_large, aligned_to}
use Rattle.machine.specs.Accesses.{performed_on, accessed_by, uses_by, accessed, user_table, user_access}
use Rattle.machine.specs.Calls.{attach}
use Rattle.machine.specs.Numbers.{numbers_to_check, all, NumbersHold}

pub numbers-hold : NumbersHold
unfolding region_of asked_entry entry_number entry_value part splice edition_holds matrices_of fits_shape lowest_from lowest_frame mapped_to free_frame direct_home home_by home_of number digits stored line_of with_line line_at put_line holds_line holds_at first holds_name holder_of is_empty victim_by victim_at used_in written_back filled noted inserted performed_at way_by_home way_by way_of unreached may_write ones ones_in by_table too_large aligned_to performed_on accessed_by uses_by accessed user_table user_access attach numbers_to_check all
numbers-hold = refl
