use Rattle.std.specs.Prelude.{None}
use Rattle.std.specs.String.{string_bytes}
use Rattle.ext_text.proofs.ForCallers.{updated-text_map}
use Rattle.ext_release.proofs.release.unset.Goals as goal

pub returns : goal.returns
returns c = updated-text_map string_bytes c.args.key.now c.args.values.now c.remove.new.self None c.remove.ensures.updates
