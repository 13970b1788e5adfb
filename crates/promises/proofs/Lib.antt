-- From the bottom up. Runs of any machine
pub mod Runs
-- the board and the plain machine, call by call
pub mod Shapes
pub mod Lengths
pub mod Related
pub mod RelatedCalls
pub mod RelatedAccesses
pub mod Holding
pub mod PagesOnce
pub mod Valid
pub mod Soundness
pub mod Shown
-- two plain machines
pub mod Admitted
pub mod Views
pub mod Apart
-- runs, and the demands
pub mod Follows
pub mod Places
pub mod Demand1
pub mod Demand2
pub mod Demand3
pub mod Brought
-- what a change request promises beside them
pub mod Lists
pub mod Entries
pub mod Limits
pub mod Kept
pub mod Values
pub mod Marks
pub mod Moves
