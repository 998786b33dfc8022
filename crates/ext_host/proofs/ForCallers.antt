-- The lemmas on this crate's definitions that other crates cite.

-- the first elements, one more that comes after each, what comes after the last, and one more that does
pub use Rattle.ext_host.proofs.AscendingLemmas.{ascending_prefix, ascending_push, all_below_last, ascending_next}
-- a name is related to the paths at and below it, and to the root
pub use Rattle.ext_host.proofs.LocksLemmas.{related_name}
-- whether a path is in some names depends on its first name
pub use Rattle.ext_host.proofs.NameLemmas.{in_first}
-- a tree whose entries are changed at their paths, directories into directories: a look-up, that it is a tree, and that
-- it was one
pub use Rattle.ext_host.proofs.ChangedLemmas.{lookup_changed, tree_changed, tree_changed_within, tree_before, tree_before_within}
-- bytes have one stamp
pub use Rattle.ext_host.proofs.StampLemmas.{one_stamp}
-- of themselves, through others, one by one, and of trees that are among others
pub use Rattle.ext_host.proofs.DrawnLemmas.{drawn_from_itself, drawn_through, trees_drawn_through, drawn_one_by_one, trees_are_drawn}
-- of the base, a part, a tree without a path, and a tree into which a part is hung
pub use Rattle.ext_host.proofs.DrawnLemmas.{base_is_drawn, part_is_drawn, cut_is_drawn, graft_is_drawn}
-- what a touch leaves of a valid host is valid, also one of many paths, which is a touch of each
pub use Rattle.ext_host.proofs.TouchLemmas.{touched_is_valid, touched_all_is_valid, touched_one_by_one}
-- the first limit that two trees pass
pub use Rattle.ext_host.proofs.LimitsLemmas.{too_many, too_large, within}
