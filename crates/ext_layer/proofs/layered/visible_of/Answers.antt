use Rattle.std.proofs.Common.{ap, ◌∙◌}
use Rattle.std.specs.FinMap.{is_sorted}
use Rattle.std.proofs.lemmas.Result.{IfOk-weaker}
use Rattle.ext_text.specs.Path.{path_cmp}
use Rattle.ext_layer.proofs.JoiningLemmas.{is_sorted-map, joins_host_at}
use Rattle.ext_layer.specs.Item.{all_seen}
use Rattle.ext_layer.specs.Overlay.{marked, over, with_mark}
use Rattle.ext_layer.proofs.layered.visible_of.Goals as goal

pub visible_merged-requires-clause-lower : goal.visible_merged-requires-clause-lower
visible_merged-requires-clause-lower g c = is_sorted-map with_mark c.pairs.result.now ∙ ap (is_sorted path_cmp) c.pairs.ensures.same ∙ c.pairs.ensures.tree.tree.sorted

pub returns : goal.returns
returns g c =
    IfOk-weaker c.visible_merged.result _ _
    (λ pairs is. record {
      marks = over (all_seen c.as_slice.result.now) (marked c.pairs.result.now);
      joins = joins_host_at c.in_ok-upper.ensures c.pairs.ensures.tree c.as_slice.ensures.value c.pairs.ensures.same;
      seen = is;
    })
    c.visible_merged.ensures
