use Rattle.std.proofs.lemmas.Result.{IfOk-weaker}
use Rattle.ext_layer.proofs.JoiningLemmas.{joins_none_at, joins_both_at, joins_parts}
use Rattle.ext_layer.proofs.joining.+joined.Goals as goal

pub returns-in-empty : goal.returns-in-empty
returns-in-empty g t c = joins_none_at c.in-empty.len_below c.new.ensures.items

pub returns-in_ok-lower-in_default : goal.returns-in_ok-lower-in_default
returns-in_ok-lower-in_default g t c =
    IfOk-weaker c.merged.result _ _
    (λ items is. joins_parts _ c.args.layers.now c.split_at.ensures.front c.split_at.ensures.back (joins_both_at c.in_ok-upper-in_default.ensures c.in_ok-lower-in_default.ensures c.as_slice.ensures.value c.as_slice-in_default.ensures.value is))
    c.merged.ensures
