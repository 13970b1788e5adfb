-- CR 5. Pages below 0x200000 lie under prefixes 0 and 1 and are never translated; and where the entries stand that are given.
use Rattle.std.specs.Prelude.{ℕ, ◌<◌, ◌≤◌, ◌≡◌, true, List, ltb, None, Some}
use Rattle.address.specs.Layout.{first_page}
use Rattle.address.specs.Addresses.{global_of, page_of, prefix_of, region_of, attachable}
use Rattle.address.specs.Entries.{asked_entry}
use Rattle.address.specs.declared.Effective.{Effective}
use Rattle.address.specs.declared.Global.{Global}
use Rattle.address.specs.declared.Region.TheVariants.{PageTable}
use Rattle.board.specs.declared.Shape.{Shape}
use Rattle.pages.specs.Pages.{mapped_to}
use Rattle.stores.specs.declared.Access.{Access}
use Rattle.machine.specs.Boards.{Board}
use Rattle.machine.specs.Accesses.{supervisor_table}
use Rattle.promises.specs.Demand1.{applies_in}

pub record NeverTranslated : Type 0 where
  -- an address lies in such a page exactly if its prefix is 0 or 1
  pub under_prefixes : (g : Global) → ltb (page_of g) first_page ≡ ltb (prefix_of g) 2
  -- such a page is mapped to no frame, whatever the frame words
  pub never_mapped : (s : Shape) (words : List ℕ) (page : ℕ) → page < first_page → mapped_to s words page ≡ None
  -- no segment that may be attached leads to one
  pub never_reached : (segment : ℕ) (e : Effective) → attachable segment ≡ true → first_page ≤ page_of (global_of segment e)

pub record EntriesStand : Type 0 where
  -- an entry that is given stands in the page table region
  pub in_table_region : (page : ℕ) (g : Global) → asked_entry page ≡ Some g → region_of g ≡ PageTable
  -- so a supervisor's access to it is refused: row 12 applies, whatever the board
  pub no_access : (s : Shape) (b : Board) (a : Access) (page : ℕ) (g : Global) → asked_entry page ≡ Some g → applies_in (supervisor_table s b a g) 12 ≡ true
  -- no two pages share an entry
  pub apart : (p q : ℕ) (g : Global) → asked_entry p ≡ Some g → asked_entry q ≡ Some g → p ≡ q
