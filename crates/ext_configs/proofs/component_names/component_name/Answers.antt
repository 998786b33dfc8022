use Rattle.ext_configs.specs.Listed.{IsNameOf, NamesComponent}
use Rattle.ext_configs.proofs.FileLemmas.{if_ok}
use Rattle.ext_configs.proofs.ListedLemmas.{between}
use Rattle.ext_configs.proofs.component_names.component_name.Goals as goal

pub returns-in-Some-strip_suffix : goal.returns-in-Some-strip_suffix
returns-in-Some-strip_suffix c =
    let prefix = c.in-Some.ensures.cases in
    let suffix = c.in-Some-strip_suffix.ensures.cases in
    if_ok (IsNameOf c.in-Some-strip_suffix.bytes.now) (NamesComponent c.args.folder.now) c.name_of.result
    (between c.args.folder.now c.in-Some.rest.now c.in-Some-strip_suffix.bytes.now prefix.0 prefix.1 suffix.0 suffix.1) c.name_of.ensures
