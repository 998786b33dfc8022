use Rattle.std.proofs.lemmas.Bool.Decides.{same_from_decides}
use Rattle.ext_transfer.specs.Versions.{is_version_text}
use Rattle.ext_transfer.proofs.TestLemmas.{version_test}
use Rattle.ext_transfer.proofs.versions.is_version_text.Goals as goal

pub returns : goal.returns
returns c = same_from_decides c.is_version.result (is_version_text c.args.text.now) c.is_version.ensures (version_test c.args.text.now)
