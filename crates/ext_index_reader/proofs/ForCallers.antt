-- The lemmas on this crate's definitions that other crates cite.

-- bytes say one host, stop nowhere where their lines run through, and stop at one line at most
pub use Rattle.ext_index_reader.proofs.LawLemmas.{no_stop, one_said, one_stop}
-- what lines say that run through is a host that an index lists, and they are its text
pub use Rattle.ext_index_reader.proofs.ListingLemmas.{said_is_listed}
-- and the lines of its text say that host
pub use Rattle.ext_index_reader.proofs.ListedLemmas.{listed_is_said}
-- lines are not more than the bytes of their text
pub use Rattle.ext_index_reader.proofs.FewLemmas.{lines_below_bytes}
-- the lines of a run hold no newline
pub use Rattle.ext_index_reader.proofs.OneStepLemmas.{runs_lack}
-- what holds of each entry holds of what is found, and what holds of each mapped element
pub use Rattle.ext_index_reader.proofs.PartsLemmas.{all_found, all_map, all_unmap}
