use Rattle.std.proofs.Common.{refl}
use Rattle.std.proofs.lemmas.Bool.{false≢true}
use Rattle.ext_layer.proofs.LayeredLemmas.{too_many_at, within_at}
use Rattle.ext_layer.proofs.layered.visible_entries.Goals as goal

pub returns-then-are_too_many : goal.returns-then-are_too_many
returns-then-are_too_many g c =
    too_many_at c.args.host.now c.in_ok-pairs.pairs.items c.as_slice-2.result.now c.in_ok-pairs.ensures c.as_slice.ensures c.as_slice-2.ensures.value (c.if-are_too_many.ensures.0 refl)

pub returns : goal.returns
returns g c =
    within_at c.args.host.now c.in_ok-pairs.pairs.items c.as_slice-2.result.now c.in_ok-pairs.ensures c.as_slice.ensures c.as_slice-2.ensures.value (λ more. false≢true (c.if-are_too_many.ensures.1 more))
