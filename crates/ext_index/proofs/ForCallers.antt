-- The lemmas on this crate's definitions that other crates cite.

-- bytes are the index of one host; faulty ones are that of none, and are faulty at one line
pub use Rattle.ext_index.proofs.LawLemmas.{faulty_is_none, one_faulty_line, one_host}
-- the text that is written has a line for each entry, and a number tells its text
pub use Rattle.ext_index.proofs.OwnersLemmas.{text_number_once, written_is_told}
