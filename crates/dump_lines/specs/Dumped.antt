-- A dumped board as the store and the map of homes that the rules speak of.
use Rattle.std.specs.Prelude.{ℕ, Option}
use Rattle.board.specs.declared.Home.{Home}
use Rattle.pages.specs.Pages.{home_of}
use Rattle.stores.specs.Stores.{Store, store}
use Rattle.dump_lines.specs.declared.Dump.{Dump}

abbrev pub store_in : Dump → Store
store_in d = store d.records.now d.cache.now d.memory.now

abbrev pub homes_in : Dump → ℕ → Option Home
homes_in d = home_of d.shape d.words.now
