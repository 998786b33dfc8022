use Rattle.std.specs.String.{string_bytes}
use Rattle.ext_text.proofs.ForCallers.{get-no_texts}
use Rattle.ext_release.proofs.release.Release.new.Goals as goal

pub returns : goal.returns
returns c = get-no_texts string_bytes c.new.result.entries c.new.ensures.empty
