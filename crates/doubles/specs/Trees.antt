-- The tree of places: what the code inside asks of its callers. No promise needs these, but for how often a search turns (`Turns`).
-- Each place has two links, to higher places; 0 is an open link. The search for a key goes from place 0, by the key's bits from the lowest up,
-- to the place that has the key.
use Rattle.std.specs.Prelude.{ℕ, zero, suc, ◌+◌, ◌*◌, ◌/◌, ◌%◌, ◌≤◌, ◌<◌, ◌≡◌, ◌≢◌, List, length, get_or, set}
use Rattle.doubles.specs.declared.Spot.{Spot}
use Rattle.doubles.specs.declared.Spot.TheVariants.{Taken, Open}

-- the link of a place by the low bit of what is left of a key
abbrev pub slot_of : ℕ → ℕ → ℕ
slot_of node rest = 2 * node + rest % 2

-- the search for the key, from this place with this rest, finds a place that has it
pub data Reaches (keys links : List ℕ) (key : ℕ) : ℕ → ℕ → Type 0 where
  here : {rest node : ℕ} → get_or keys node 0 ≡ key → Reaches keys links key rest node
  on : {rest node : ℕ} → get_or links (slot_of node rest) 0 ≢ 0
      → Reaches keys links key (rest / 2) (get_or links (slot_of node rest) 0) → Reaches keys links key rest node

-- the search for the key of place i finds it
abbrev pub Reached : List ℕ → List ℕ → ℕ → Type 0
Reached keys links i = Reaches keys links (get_or keys i 0) (get_or keys i 0) 0

-- what is left of a key after so many turns
unfoldable pub rest_after : ℕ → ℕ → ℕ
rest_after key zero = key
rest_after key (suc turns) = rest_after key turns / 2

-- the search for a key stands at this place after so many turns
pub data Turned (keys links : List ℕ) (key : ℕ) : ℕ → ℕ → Type 0 where
  start : Turned keys links key 0 0
  turn : {turns node : ℕ} → Turned keys links key turns node → get_or keys node 0 ≢ key → get_or links (slot_of node (rest_after key turns)) 0 ≢ 0
      → Turned keys links key (suc turns) (get_or links (slot_of node (rest_after key turns)) 0)

-- two keys have the same low bits, so many
abbrev pub SameBits : ℕ → ℕ → ℕ → Type 0
SameBits n a b = (k : ℕ) → k < n → rest_after a k % 2 ≡ rest_after b k % 2

-- a place hangs at a link of another, one deeper, and its key goes by that link: with `depth` of bits like the other's, then the link's own
pub record Hangs (keys : List ℕ) (depth : ℕ → ℕ) (slot place : ℕ) : Type 0 where
  pub deeper : depth place ≡ suc (depth (slot / 2))
  pub same_bits : SameBits (depth (slot / 2)) (get_or keys place 0) (get_or keys (slot / 2) 0)
  pub own_bit : rest_after (get_or keys place 0) (depth (slot / 2)) % 2 ≡ slot % 2

-- the links are a tree that has the key of each of the n places
pub record Tree (keys links : List ℕ) (n : ℕ) : Type 0 where
  pub rising : (slot : ℕ) → get_or links slot 0 ≢ 0 → (slot / 2 < get_or links slot 0) × (get_or links slot 0 < n)
  pub complete : (g : ℕ) → g < n → get_or keys g 0 ≢ 0 → Reached keys links g
  pub depth : ℕ → ℕ
  pub root : depth 0 ≡ 0
  pub hangs : (slot : ℕ) → get_or links slot 0 ≢ 0 → Hangs keys depth slot (get_or links slot 0)

-- the link at which a search has ended, after so many turns at this place
pub record Ended (keys links : List ℕ) (key slot : ℕ) : Type 0 where
  pub turns : ℕ
  pub node : ℕ
  pub turned : Turned keys links key turns node
  pub slot_is : slot ≡ slot_of node (rest_after key turns)

-- the place at which a search stands after so many turns
pub record Stands (keys links : List ℕ) (key node : ℕ) : Type 0 where
  pub turns : ℕ
  pub turned : Turned keys links key turns node

-- what the search for the key of place i gives: a lower place that has it, or the open link where place i belongs
unfoldable pub Sought : List ℕ → List ℕ → ℕ → Spot → Type 0
Sought keys links i (Taken node) = (node < i) × (get_or keys node 0 ≡ get_or keys i 0) × Stands keys links (get_or keys i 0) node
Sought keys links i (Open slot) =
    (slot < 2 * i) × (get_or links slot 0 ≡ 0) × (Reached keys links i → ⊥) × Reached keys (set links slot i) i × Ended keys links (get_or keys i 0) slot

-- what putting place i into the tree leaves and gives: a lower place that has its key, or i itself if it has no key or no lower place has its key
pub record Placed (keys before after : List ℕ) (i r : ℕ) : Type 0 where
  pub same_length : length after ≡ length before
  pub grown : Tree keys after (i + 1)
  pub at_most : r ≤ i
  pub lower : r < i → (get_or keys r 0 ≡ get_or keys i 0) × (get_or keys i 0 ≢ 0)
  pub first : r ≡ i → (g : ℕ) → g < i → get_or keys g 0 ≡ get_or keys i 0 → get_or keys i 0 ≡ 0
