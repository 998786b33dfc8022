-- The lemmas on this crate's definitions that other crates cite.

-- the files of a base, and of an image in it, are files of its host
pub use Rattle.ext_port.proofs.FilesLemmas.{base_file, tree_files}
-- the host from which an image is attached has the architecture of the host; a shelf that serves the host serves it, and its base
pub use Rattle.ext_port.proofs.StartLemmas.{arch_start, base_served, serves_start}
-- a host has one base
pub use Rattle.ext_port.proofs.StartLemmas.{one_base}
-- what is attached is no refusal
pub use Rattle.ext_port.proofs.LawsLemmas.{no_refusal}
-- what attaching leaves of the host, with the units of an image and with those of another tree
pub use Rattle.ext_port.proofs.LeavesLemmas.{LeavesOthers, LeavesRest, attaches_leaves, body_leaves}
-- one thing comes of an image that was read, with units from a tree and further lines
pub use Rattle.ext_port.proofs.OneAttachLemmas.{one_attach_body}
-- and it is no error of the shelf
pub use Rattle.ext_port.proofs.NotGivenLemmas.{given_uncounted}
-- what comes of attaching, and of inspecting, rests on what is told of the files of the host, and so does what is read of an image
pub use Rattle.ext_port.proofs.MovedLemmas.{attaches_alike, image_alike, inspects_alike}
-- a file of an image in its base is a file of the host
pub use Rattle.ext_port.proofs.MovedLemmas.{start_file}
-- where the shelf failed, it did not give the release file of the image
pub use Rattle.ext_port.proofs.NotGivenLemmas.{ImageFails, attach_not_given, fails_in_host, image_fails, inspect_not_given, shelf_refusal}
-- what is no error of the shelf is the same whatever faults are counted
pub use Rattle.ext_port.proofs.MovedLemmas.{IsUncountedBody, attaches_counts, image_counts, inspects_counts}
