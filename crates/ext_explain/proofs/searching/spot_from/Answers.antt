use Rattle.std.proofs.Common.{◌++◌, ◌∷◌, [], ◌+◌, ◌-◌, length, refl, arith}
use Rattle.std.specs.declared.cmp.Ordering.TheVariants.{Less, Equal, Greater}
use Rattle.std.proofs.lemmas.Option.{slice_get_read}
use Rattle.ext_text.specs.Path.{path_cmp}
use Rattle.ext_explain.proofs.SearchLemmas.{point_within, search_all, search_before, search_hits, search_past, told}
use Rattle.ext_explain.proofs.searching.spot_from.Goals as goal

pub overflow_add-index : goal.overflow_add-index
overflow_add-index c =
    let within = point_within path_cmp (c.args.directory.now ++ c.args.name.now ∷ []) c.args.entries.now in
    omega (arith, within, c.doubling.invariant.point, c.doubling.invariant.small)

pub spot_within-requires-clause-within : goal.spot_within-requires-clause-within
spot_within-requires-clause-within c =
    search_all c.args.entries.now c.requires.sorted (c.args.directory.now ++ c.args.name.now ∷ []) c.doubling.passed c.doubling.invariant.point

pub doubling-preserved : goal.doubling-preserved
doubling-preserved c =
    let es = c.args.entries.now in
    let k = c.args.directory.now ++ c.args.name.now ∷ [] in
    let pair = c.in-Some.pair.now in
    let index = c.doubling.passed + (c.doubling.passed - c.args.from) in
    let found = c.in-Some.ensures.lookup in
    let at = slice_get_read es (length es) index pair refl found.3.0 found.1 in
    let past = search_past es c.requires.sorted k index pair at (told k pair.0 c.names.result c.cmp_child.result Less c.names.ensures.same c.cmp_child.ensures c.in-Less.is) in
    record {
      small = c.doubling.invariant.small;
      from = omega (arith, c.doubling.invariant.from);
      point = omega (arith, past);
    }

pub returns-in-Equal : goal.returns-in-Equal
returns-in-Equal c =
    let es = c.args.entries.now in
    let k = c.args.directory.now ++ c.args.name.now ∷ [] in
    let pair = c.in-Some.pair.now in
    let index = c.doubling.passed + (c.doubling.passed - c.args.from) in
    let found = c.in-Some.ensures.lookup in
    let at = slice_get_read es (length es) index pair refl found.3.0 found.1 in
    search_hits es c.requires.sorted k index pair at (told k pair.0 c.names.result c.cmp_child.result Equal c.names.ensures.same c.cmp_child.ensures c.in-Equal.is)

pub spot_within-requires-in-Greater-clause-within : goal.spot_within-requires-in-Greater-clause-within
spot_within-requires-in-Greater-clause-within c =
    let es = c.args.entries.now in
    let k = c.args.directory.now ++ c.args.name.now ∷ [] in
    let pair = c.in-Some.pair.now in
    let index = c.doubling.passed + (c.doubling.passed - c.args.from) in
    let found = c.in-Some.ensures.lookup in
    let at = slice_get_read es (length es) index pair refl found.3.0 found.1 in
    search_before es c.requires.sorted k c.doubling.passed index pair at (told k pair.0 c.names.result c.cmp_child.result Greater c.names.ensures.same c.cmp_child.ensures c.in-Greater.is) c.doubling.invariant.point
