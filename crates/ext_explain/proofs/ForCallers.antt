-- The lemmas on this crate's definitions that other crates cite.

-- where it is told of each file what it has, a path has one list of lines, and a refresh one list of changes
pub use Rattle.ext_explain.proofs.LawsLemmas.{one_list_of_changes, one_list_of_lines}
