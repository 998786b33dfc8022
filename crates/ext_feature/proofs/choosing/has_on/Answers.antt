use Rattle.std.proofs.Common.{rules}
use Rattle.std.proofs.lemmas.Fn.{always_returns_same}
use Rattle.ext_lines.specs.ByteOrder.{bytes_cmp, bytes_exact}
use Rattle.ext_feature.specs.declared.feature.Feature.{Feature}
use Rattle.ext_feature.proofs.ChoiceLemmas.{found_none, found_on, searchable}
use Rattle.ext_feature.proofs.choosing.has_on.Goals as goal

pub returns-in-Ok : goal.returns-in-Ok
returns-in-Ok c = λ sorted.
    let d : Feature = c.index-features-index.result in
    found_on c.args.features.now c.args.name.now sorted c.in-Ok.index d c.in-Ok.ensures.bound
    (bytes_exact _ c.args.name.now (c.in-Ok.ensures.position (λ (f : Feature). bytes_cmp f.name c.args.name.now) (always_returns_same _ _ _ (λ a r f h. search rules)) d))

pub returns-in-Err : goal.returns-in-Err
returns-in-Err c = λ sorted.
    found_none c.args.features.now c.args.name.now sorted c.in-Err.field-0
    (c.in-Err.ensures.position (λ (f : Feature). bytes_cmp f.name c.args.name.now) (always_returns_same _ _ _ (λ a r f h. search rules)) (searchable c.args.features.now c.args.name.now sorted))
