-- The lines that a visit is lent, as the store that the visits speak of.
use Rattle.std.specs.Prelude.{◌≡◌}
use Rattle.stores.specs.Stores.{Store, store}
use Rattle.visits.specs.declared.Lines.{Lines}

abbrev pub store_in : Lines → Store
store_in l = store l.records.now l.cache.now l.memory.now

-- the same buffers are lent, for the same shape
abbrev pub SameLoan : Lines → Lines → Type 0
SameLoan l m = (m.shape ≡ l.shape) × (m.records.ghost_name ≡ l.records.ghost_name) × (m.cache ≡ l.cache) × (m.memory.ghost_name ≡ l.memory.ghost_name)
