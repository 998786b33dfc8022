use Rattle.std.proofs.Common.{◌-◌, length, take, sym, ap, ◌∙◌, subst}
use Rattle.ext_text.specs.Name.{IsName}
use Rattle.ext_feature.proofs.NameLemmas.{feature_is_name}
use Rattle.ext_feature.proofs.reading.feature_name.Goals as goal

pub of_bytes-requires : goal.of_bytes-requires
of_bytes-requires c =
    subst IsName (sym (c.without_suffix.ensures ∙ ap (λ t. take (length t - 8) t) c.bytes.ensures.same)) (feature_is_name c.args.file.now c.bytes.ensures.name c.requires)
