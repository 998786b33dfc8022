-- The lemmas on this crate's definitions that other crates cite.

-- what attaching with extensions leaves of the host
pub use Rattle.ext_portext.proofs.LeavesLemmas.{extended_leaves}
-- what comes of attaching with extensions rests on what is told of the files of the host
pub use Rattle.ext_portext.proofs.MovedExtendedLemmas.{extended_alike}
-- where the shelf failed, it did not give the release file of the image or of an extension
pub use Rattle.ext_portext.proofs.MovedExtendedLemmas.{extended_not_given}
-- what is no error of the shelf is the same whatever faults are counted
pub use Rattle.ext_portext.proofs.MovedExtendedLemmas.{extended_counts}
