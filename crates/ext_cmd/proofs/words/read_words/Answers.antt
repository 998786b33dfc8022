use Rattle.std.proofs.Common.{◌∙◌, sym}
use Rattle.ext_cmd.proofs.CommandLemmas.{no_command}
use Rattle.ext_cmd.proofs.words.read_words.Goals as goal

pub returns-in-None : goal.returns-in-None
returns-in-None c = no_command c.args.words.now (sym c.as_slice.ensures ∙ (sym c.of_words.ensures ∙ c.in-None.ensures))
