-- The lemmas on this crate's definitions that other crates cite.

-- the insertion point: what a search by halves finds, and past the last entry
pub use Rattle.ext_tree.proofs.InsertionPointLemmas.{is_insertion_point, partitioned, past_last}
-- a look-up reads there, a new entry goes in there, and each entry is found by its key
pub use Rattle.ext_tree.proofs.InsertionPointLemmas.{find_here, insert_here, find_there}
-- an entry of a list stands above what is below all of the list
pub use Rattle.ext_tree.proofs.InsertionPointLemmas.{below_at}
-- what is found in two lists one after another, and that a prefix of a list in order is in order
pub use Rattle.ext_tree.proofs.OrderLemmas.{find-join, sorted_prefix, prefix_below}
-- a key above all others: it keeps the order at the end, and is not found; what is found is below it
pub use Rattle.ext_tree.proofs.OrderLemmas.{sorted_push, all_below, find_above, found_below}
-- what holds of each key that is found holds of each entry's key
pub use Rattle.ext_tree.proofs.OrderLemmas.{each_found}
-- the root is no entry's path; each shorter prefix of an entry's path is a directory or the root
pub use Rattle.ext_tree.proofs.PrefixLemmas.{root_none, prefixes}
-- what is a directory or the root: a directory, where it is not the root, and so an entry
pub use Rattle.ext_tree.proofs.PrefixLemmas.{some_dir, directory_dir, dir_directory, directory_some}
-- the empty tree, a tree with one entry more at its end, and without its last one
pub use Rattle.ext_tree.proofs.FollowingLemmas.{empty_tree, push_tree, pop_tree}
-- a tree with one entry more at its insertion point
pub use Rattle.ext_tree.proofs.TreeLemmas.{put_at, tree_put_at}
-- paths below a path: it and the rest, and what is left without that prefix
pub use Rattle.ext_tree.proofs.PartLemmas.{prefix_split, prefix_append, drop_append}
-- below a path the order is that of the rests, and the parent is the path and the rest's parent
pub use Rattle.ext_tree.proofs.PartLemmas.{cmp_prefix, below_append, parent_append, parent_child}
-- a look-up in the part below a path; the part of a tree is a tree
pub use Rattle.ext_tree.proofs.PartLemmas.{lookup_part, root_part, tree_part, tree_part_within}
-- a tree without a path, by look-ups; it is a tree
pub use Rattle.ext_tree.proofs.PartLemmas.{is_cut, tree_cut, tree_cut_within}
-- a tree without many paths, by look-ups; it is a tree; and what lies below a path that they cover is covered
pub use Rattle.ext_tree.proofs.PartLemmas.{is_cut_all, tree_cut_all, tree_cut_all_within, covers_below}
-- a sum over what many paths cut and what stays
pub use Rattle.ext_tree.proofs.PartLemmas.{sum_by-cut_all}
-- entries that pass a test of their paths: each of them, and a look-up among them
pub use Rattle.ext_tree.proofs.SlicesLemmas.{where_all, lookup_where}
-- entries put among others: a look-up, their order, and what is below all
pub use Rattle.ext_tree.proofs.PutLemmas.{first_found, lookup_put_all, sorted_put_all, none_below, below_trans}
-- the first that is put among others, where all before it come first
pub use Rattle.ext_tree.proofs.PutLemmas.{put_all_next, sorted_drop}
-- sums over entries put among others, their number, and what holds of each
pub use Rattle.ext_tree.proofs.PutLemmas.{sum_by-put_all, length-sum, all_put_all}
-- two trees in one: look-ups, its number of entries, that it is a tree, and that what was lacking stands at no old path
pub use Rattle.ext_tree.proofs.JoiningLemmas.{is_with, length-with, tree_with_others, apart_lacking, sorted_lacking, each_is_found}
-- how a path stands to the one of a graft, and what the graft has there in each case; a list that has it is a tree
pub use Rattle.ext_tree.proofs.GraftedLemmas.{Stands, stands, grafted_root, grafted_same, grafted_below, grafted_above, grafted_apart, tree_grafted}
-- a field, its space and what follows are read in one way
pub use Rattle.ext_tree.proofs.FieldsLemmas.{attributes_once, file_attributes_once, number_once, digest_once, target_once}
-- fields and what follows them: joined, printed one after the other, and which bytes they lack
pub use Rattle.ext_tree.proofs.FieldsLemmas.{spaced-append, line_printed, spaced_lacks}
-- fields tell their entry and where they end, and an entry has its line alone
pub use Rattle.ext_tree.proofs.EntryLineLemmas.{fields_once, line_injective}
-- no entry's line is `end`, none holds a newline, and no fields do
pub use Rattle.ext_tree.proofs.EntryLineLemmas.{line_not_end, line_lacks, fields_lack}
-- where what follows the fields is no path's text, no entry has the line
pub use Rattle.ext_tree.proofs.EntryLineLemmas.{no_path_after}
-- the empty tree has a text, and so has a tree without its last entries
pub use Rattle.ext_tree.proofs.TreeTextLemmas.{empty_text, prefix_text}
-- each entry of a tree that has a text has a line
pub use Rattle.ext_tree.proofs.TreeTextLemmas.{lines_of}
-- a text is a sequence of one
pub use Rattle.ext_tree.proofs.OneFaultLemmas.{one_text}
-- the text of a tree has no fault
pub use Rattle.ext_tree.proofs.OneFaultLemmas.{no_fault_in_text}
-- two trees with one text are the same
pub use Rattle.ext_tree.proofs.LawsLemmas.{tree_law}
-- the lines of trees are read in one way
pub use Rattle.ext_tree.proofs.SequenceLemmas.{one_tree, sequence_peeled}
-- where the first or the second of two additions to a text stopped, a prefix of both was added
pub use Rattle.ext_tree.proofs.AppendLemmas.{first_stops, second_stops}
