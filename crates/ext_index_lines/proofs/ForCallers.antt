-- The lemmas on this crate's definitions that other crates cite.

-- what follows a word is told by the line
pub use Rattle.ext_index_lines.proofs.LineLemmas.{after_once}
-- whether a text lacks a byte can be computed; the names of architectures hold no space
pub use Rattle.ext_index_lines.proofs.LineLemmas.{lacks_by, arch_lacks}
-- the fields of a stamp and a home tell both, and where they end, and hold no newline
pub use Rattle.ext_index_lines.specs.HomedLaws.{homed_once, homed_lack}
