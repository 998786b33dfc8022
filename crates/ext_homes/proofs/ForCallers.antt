-- The lemmas on this crate's definitions that other crates cite.

-- the files of a host within the limits are small
pub use Rattle.ext_homes.proofs.BroughtLemmas.{limits_small}
-- a tree has its stamps, whatever homes its files have, and is a tree
pub use Rattle.ext_homes.proofs.PlacedLemmas.{placed_stamps, placed_tree}
-- what is placed of a store is placed of one that lists and tells the same, and gets no home there for the same cause
pub use Rattle.ext_homes.proofs.StoredLemmas.{IsAlike, AreAlike, entries_alike, homes_cause_since}
-- where all is told: a brought file's home is the least one of its bytes, and a host is placed in one way
pub use Rattle.ext_homes.proofs.LawsLemmas.{takes_of_bytes, host_way}
