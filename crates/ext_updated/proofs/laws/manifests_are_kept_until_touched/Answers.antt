use Rattle.ext_updated.proofs.KeepingLemmas.{added_kept, kept_untouched}
use Rattle.ext_updated.proofs.laws.manifests_are_kept_until_touched.Goals as goal

pub returns-clause-kept : goal.returns-clause-kept
returns-clause-kept c = kept_untouched

pub returns-clause-added : goal.returns-clause-added
returns-clause-added c = added_kept
