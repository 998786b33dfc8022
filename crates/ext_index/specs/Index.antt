-- The index of a generation by printing, which the crate of its readings has.
pub use Rattle.ext_index_reader.specs.Index.{attachment_lines, hierarchy_lines, index_lines, index_text, line_of_item, lines_1, lines_2, machine_lines, manifest_lines, merged_lines, past_lines, record_lines, section_lines, listed_tree_lines}
