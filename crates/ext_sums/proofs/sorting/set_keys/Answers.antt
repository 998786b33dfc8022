use Rattle.std.proofs.Common.{◌≡◌, ◌∙◌, ◌<◌, ap, drop, get_or, length, rules, slice_set, subst}
use Rattle.std.proofs.lemmas.List.Edits.{map_over_more}
use Rattle.ext_sums.specs.Sorting.{AreBytes, with_key}
use Rattle.ext_sums.proofs.SortingLemmas.{bytes_more, key_given}
use Rattle.ext_sums.proofs.sorting.set_keys.Goals as goal

pub loop-each-preserved : goal.loop-each-preserved
loop-each-preserved c =
    let count = c.args.count in
    let xs = c.args.lines.now in
    let ys = c.loop-each.lines in
    let i = c.loop-each.each-index in
    let n = c.each-item.result in
    let less : i < length xs = search rules in
    let at : n ≡ get_or ys i n = search rules in
    let rest : c.rest_of.result.now ≡ drop count n.listed.name = search rules in
    record {
      keys = ap (slice_set ys i) (key_given count c.key_of-each.result n (get_or ys i n) c.rest_of.result.now at rest c.key_of-each.ensures.key)
          ∙ map_over_more (with_key count) xs ys i n less c.loop-each.invariant.keys at;
      bytes = bytes_more count xs ys n i less c.loop-each.invariant.keys at (subst AreBytes rest c.key_of-each.ensures.bytes) c.loop-each.invariant.bytes;
    }
