-- The lemmas on this crate's definitions that other crates cite.

-- what holds at all holds at each error
pub use Rattle.ext_lines.proofs.MemoryLemmas.{on_err}
-- a byte is another than this one, as a test
pub use Rattle.ext_lines.proofs.SplitLemmas.{Differs, differs}
-- what the empty text lacks, and longer texts
pub use Rattle.ext_lines.proofs.SplitLemmas.{lacks_nil, lacks_cons, lacks_append}
-- that a text lacks a byte, that none passes a test, said of each byte
pub use Rattle.ext_lines.proofs.SplitLemmas.{lacks_all, none_each, each_none}
-- a text lacks a byte or is split at the first; it is split there in one way, and in none where it lacks the byte
pub use Rattle.ext_lines.proofs.SplitLemmas.{split_or_lacks, split_once, split_none}
-- what a split gives is the field before the byte; prefixes of one length are split off in one way
pub use Rattle.ext_lines.proofs.SplitLemmas.{split_field, split_same}
-- the parts of a text: one where the byte is nowhere, and the first at a split
pub use Rattle.ext_lines.proofs.SplitLemmas.{one_part, first_part, one_part_by, first_part_by}
-- what the index of the first byte that passes a test says, and that there is none
pub use Rattle.ext_lines.proofs.SplitLemmas.{split_at_first, none_at_all, split_from_index}
-- `split_of` is the split at the byte, and `None` where the text lacks it
pub use Rattle.ext_lines.proofs.SplitLemmas.{split_of-split, split_of-lacks}
-- the text before its last byte: where the byte was added at the end, and what one that is given says
pub use Rattle.ext_lines.proofs.SplitLemmas.{before_last-push, before_last-whole}
-- a text begins with a prefix where its first bytes are the prefix, and only there
pub use Rattle.ext_lines.proofs.PrefixLemmas.{prefix_taken, taken_prefix}
-- none, one of a longer text, and one after a text that was added whole
pub use Rattle.ext_lines.proofs.PrefixLemmas.{appends_nothing, appends_more, appends_after}
-- the lines of a text: one where no newline is, and the first at a newline
pub use Rattle.ext_lines.proofs.LinesLemmas.{last_line, first_line}
-- the whole lines of a text: none where no newline is, the first at a newline, and those of a text of lines
pub use Rattle.ext_lines.proofs.LinesLemmas.{whole_lines-lacks, whole_lines-split, whole_lines-text}
-- the lines of a text whose last may lack its newline: the first at a newline, and one where no newline is
pub use Rattle.ext_lines.proofs.LinesLemmas.{text_lines-split, text_lines-lacks}
-- the text of lines: one line more, and two lists of them
pub use Rattle.ext_lines.proofs.LinesLemmas.{lines_text-push, lines_text-append}
-- plain text lacks each control byte below the space
pub use Rattle.ext_lines.proofs.PlainLemmas.{plain_lacks}
-- decimal and octal digits lack each byte before `0`, as a newline, a space, a slash
pub use Rattle.ext_lines.proofs.NumbersLemmas.{decimal_lacks, octal_lacks}
-- numbers with the same octal digits are equal; for decimal digits std has `decimal_injective`
pub use Rattle.ext_lines.proofs.NumbersLemmas.{octal_injective}
-- the digits of 32 bytes are 64, read back as the bytes, and are those of no other bytes
pub use Rattle.ext_lines.proofs.HexadecimalLemmas.{hex_count, hex_reads, hex_injective}
-- what 64 digits of either case decode to is 32 bytes
pub use Rattle.ext_lines.proofs.HexadecimalLemmas.{hex_decoded, each_below, bytes_below}
-- hexadecimal digits lack each byte before `0`
pub use Rattle.ext_lines.proofs.HexadecimalLemmas.{hex_lacks, five_lacks}
-- numbers with the same five digits are equal
pub use Rattle.ext_lines.proofs.HexadecimalLemmas.{five_injective}
-- the octal digits of a number below eight; those of a larger one are those of its eighth, and one more
pub use Rattle.ext_lines.proofs.OctalSteps.{octal_digit, octal_step}
