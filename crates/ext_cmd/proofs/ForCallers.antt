-- The lemmas on this crate's definitions that other crates cite.

-- words are those of one command; what reading its words gives
pub use Rattle.ext_cmd.proofs.OneCommandLemmas.{one_command, reads_back}
-- words of a grammar have no fault, and other words one first fault, for any grammar
pub use Rattle.ext_cmd.proofs.OneFaultLemmas.{no_fault, one_fault}
-- the extensions that options name are images
pub use Rattle.ext_cmd.proofs.OptionLemmas.{extensions_are}
