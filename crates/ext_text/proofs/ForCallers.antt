-- The lemmas on this crate's definitions that other crates cite.

-- a test as a proposition, and which ordering a test of orderings tells
pub use Rattle.ext_text.proofs.OrderLemmas.{true_from_T, is_less, is_equal, is_greater}
-- what holds of each element of two lists holds of both, one after the other, and of each of them
pub use Rattle.ext_text.proofs.ListLemmas.{all_append, all_prefix, all_back}
-- the element at an index by what follows the first ones
pub use Rattle.ext_text.proofs.ListLemmas.{get_drop, get_none}
-- two facts of each element, and a weaker one
pub use Rattle.ext_text.proofs.ListLemmas.{all_both, all_weaker}
-- the first names of a path, and the last ones, are within the limits; so are both of two that are short enough
pub use Rattle.ext_text.proofs.PathLemmas.{prefix_path, rest_path, path_of}
-- the bytes of the text of names, and of two lists of them
pub use Rattle.ext_text.proofs.PathLemmas.{length-path_text, length-both}
-- the text of a first name and others
pub use Rattle.ext_text.proofs.PathLemmas.{path_text-cons}
-- the text of a text's parts is the text, and texts of names are equal where the names are
pub use Rattle.ext_text.proofs.CutLemmas.{text_of_parts, same_texts}
-- a text of names is cut at any slash; one name alone; the parts of a name
pub use Rattle.ext_text.proofs.CutLemmas.{IsCut, cut_at_slash, cut_of, one_name, name_parts}
-- the text of names below others
pub use Rattle.ext_text.proofs.CutLemmas.{text_of_names}
-- the order and the prefixes of texts are those of their paths
pub use Rattle.ext_text.proofs.TextOrderLemmas.{texts_cmp, texts_prefix}
-- the text of a path lacks control bytes, and its names lack the slash
pub use Rattle.ext_text.proofs.PathLemmas.{name_lacks, path_lacks}
-- the parts of a path's text are its names, paths with the same text are equal, and only the root's text is empty
pub use Rattle.ext_text.proofs.PathLemmas.{parts_some, parts_text, path_injective, path_not_empty}
-- a text that is refused is no path's
pub use Rattle.ext_text.proofs.PathLemmas.{no_path}
-- equal names tie, and names that tie are equal
pub use Rattle.ext_text.proofs.PrefixLemmas.{same_name, tied_name, names_exact, names_tied}
-- equal paths tie, and paths that tie are equal
pub use Rattle.ext_text.proofs.PrefixLemmas.{same_path, tied_path}
-- a path other than the root has a name
pub use Rattle.ext_text.proofs.PrefixLemmas.{some_name}
-- prefixes: of itself, of a prefix, of each other, and of so many names
pub use Rattle.ext_text.proofs.PrefixLemmas.{prefix_self, prefix_trans, prefix_both, prefix_take, take_prefix}
-- a prefix is the first names, a proper one those and shorter than the whole
pub use Rattle.ext_text.proofs.PrefixLemmas.{prefix_first, proper_first}
-- how long a prefix is; one as long as the whole is the whole
pub use Rattle.ext_text.proofs.PrefixLemmas.{prefix_short, prefix_whole, prefix_shorter}
-- prefixes in path order: each before the whole, and between a prefix and a path all begin with the prefix
pub use Rattle.ext_text.proofs.PrefixLemmas.{prefix_less, prefix_order, convex}
-- the parent: its length, that it is a prefix, that it comes before, that only the root is its own
pub use Rattle.ext_text.proofs.PrefixLemmas.{length-parent, parent_prefix, parent_less, parent_other}
-- what std says of `starts_with` at two lists of names is `is_prefix`
pub use Rattle.ext_text.proofs.PrefixLemmas.{is_prefix-starts_with}
-- leaving out doubles leaves what a test finds
pub use Rattle.ext_text.proofs.SortedPathsLemmas.{any-dedup}
-- a prefix that is among the paths covers a path; where no proper one is, the path itself decides
pub use Rattle.ext_text.proofs.SortedPathsLemmas.{covers_at, covers_last}
-- paths meet a path where they cover it or have one at or below it
pub use Rattle.ext_text.proofs.SortedPathsLemmas.{meets_parts}
-- a look-up in the map is one in the `BTreeMap`; a change at one key; and a map without entries
pub use Rattle.ext_text.proofs.TextMapLemmas.{get-text_map, updated-text_map, get-no_texts}
