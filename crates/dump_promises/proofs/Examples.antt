-- The examples, computed.
use mathlib.Core.Path.{refl}
use lib.Count.{ones, ones_in}
use Rattle.board.specs.Searches.{first}
use Rattle.board.specs.Shapes.{fits_shape, edition_holds, matrices_of}
use Rattle.pages.specs.Pages.{lowest_from, lowest_frame, mapped_to, free_frame, direct_home, home_by, home_of}
use Rattle.board.specs.Lists.{part}
use Rattle.line_bytes.specs.Bytes.{line_of}
use Rattle.lines.specs.Records.{line_at, put_line}
use Rattle.lines.specs.Holds.{holds_line, holds_at, keeps_line}
use Rattle.stores.specs.Stores.{noted, dropped}
use Rattle.visits.specs.Visits.{sweep}
use Rattle.doubles.specs.Doubles.{stands, repeats, keys_from}
use Rattle.dump_pages.specs.Pages.{page_in, page_at, doubled_page}
use Rattle.dump_lines.specs.Lines.{same_list, held_line, doubled_line, home_is, at_home, astray, stale, breaks_alone}
use Rattle.dumps.specs.Checks.{or_else, checked}
use Rattle.repairs.specs.Repairs.{held_below, mended, repaired, how_many, mended_pages, repair_board}
use Rattle.dump_promises.specs.Examples.{DumpExamples}

pub dump-examples : DumpExamples
unfolding ones ones_in first fits_shape edition_holds matrices_of lowest_from lowest_frame mapped_to free_frame direct_home home_by home_of part line_of line_at put_line holds_line holds_at keeps_line noted dropped sweep stands repeats keys_from page_in page_at doubled_page same_list held_line doubled_line home_is at_home astray stale breaks_alone or_else checked held_below mended repaired how_many mended_pages repair_board
dump-examples = record {
  accepted = refl;
  lengths = refl;
  page_twice = refl;
  below_u = refl;
  line_twice = refl;
  used_frame = refl;
  free_frame_lem = refl;
  prefix_1_read_only = refl;
  wrong_permission = refl;
  not_mapped = refl;
  table_region = refl;
  changed_differs = refl;
  differs = refl;
  repaired_report = refl;
  repaired_records_lem = refl;
  repaired_flags = refl;
}
