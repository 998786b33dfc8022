-- The lemmas on this crate's definitions that other crates cite.

-- the digits of a generation's name are its number, it is read as that, and what is read is the number of the generation that has the name
pub use Rattle.ext_store_files.proofs.NamesLemmas.{name_value, named_generation, read_generation, one_generation}
-- which names are left-overs, both ways
pub use Rattle.ext_store_files.proofs.NamesLemmas.{left_is, is_left}
-- paths that differ, each of them in a list, are no more than the list has
pub use Rattle.ext_store_files.proofs.LeftOversLemmas.{distinct_no_more}
-- facts of two disks that both tell, or neither
pub use Rattle.ext_store_files.proofs.ToldLemmas.{told_map, told_then, told_itself, told_same}
-- what is made of calls that make and write: nothing, one after another, with a wider reach, and what only rests
pub use Rattle.ext_store_files.proofs.WritingLemmas.{works_itself, works_then, works_wider, rests_works}
-- how the sum of the appended bytes goes up: so many and then so many more, no further than by all of them
pub use Rattle.ext_store_files.proofs.AppendedLemmas.{raised_then, raised_most}
-- by at most so many: where it stays the same, where none may be appended, with a higher limit, one after another, as a sum
pub use Rattle.ext_store_files.proofs.AppendedLemmas.{within_same, within_none, within_wider, within_then, within_most}
-- by exactly so many, from one state of a disk to another: nothing, one after another, as an equal number
pub use Rattle.ext_store_files.proofs.AppendedLemmas.{raises_itself, raises_then, raises_same}
-- where work may append nothing it appends nothing, also before or after what appends exactly so many bytes
pub use Rattle.ext_store_files.proofs.WritingLemmas.{works_raise, raises_after, raises_before}
-- what holds of a disk where it is told: a weaker fact, two facts, and a fact of the disk that follows
pub use Rattle.ext_store_files.proofs.WritingLemmas.{holds_map, holds_both, holds_then}
-- what is synced stays synced where a folder is synced
pub use Rattle.ext_store_files.proofs.WritingLemmas.{still_synced}
-- which places the calls that make a file, append, sync a file and sync a folder work at, done or failed
pub use Rattle.ext_store_files.proofs.WritingLemmas.{make_file_works, append_call_works, sync_file_call_works, sync_dir_call_works}
-- what those calls leave that are done: an empty file, one with more bytes, a synced one, and a synced folder
pub use Rattle.ext_store_files.proofs.WritingLemmas.{file_made, append_more, file_synced, folder_synced}
-- a file with its bytes that is synced is written
pub use Rattle.ext_store_files.proofs.WritingLemmas.{synced_written}
-- one of two lists has what is sought where both together do
pub use Rattle.ext_store_files.proofs.ClearingLemmas.{any_append}
-- where something stands, something stands at each prefix; a path below another as the other and the rest
pub use Rattle.ext_store_files.proofs.ClearingLemmas.{stands_above, rest_of, prefix_append, proper_append, proper_rest}
-- a depot keeps what it has through each call
pub use Rattle.ext_store_files.proofs.CopyingLemmas.{kept_itself, kept_then, kept_told, kept_there}
-- a count that rose lately rose since an earlier time
pub use Rattle.ext_store_files.proofs.CopyingLemmas.{rose_since}
-- a file begins with what was read of it, also with one piece more; and where that is as long as the file, it is all of it
pub use Rattle.ext_store_files.proofs.ReadingLemmas.{begins_more, whole_read}
