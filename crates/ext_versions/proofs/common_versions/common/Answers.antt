use Rattle.ext_versions.proofs.VersionsLemmas.{are_common, first_and_others}
use Rattle.ext_versions.proofs.common_versions.common.Goals as goal

pub returns : goal.returns
returns c =
    let lists =
    first_and_others c.args.lists.items c.remove-first.new.self.items c.remove-first.result
    c.requires c.remove-first.ensures.value c.remove-first.ensures.items in
    rw (lists, c.common_with.ensures.common, c.as_slice.ensures.value)
    (are_common c.remove-first.result c.remove-first.new.self.items c.common_with.ensures.sorted)
