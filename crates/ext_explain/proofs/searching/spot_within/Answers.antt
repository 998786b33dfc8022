use Rattle.std.proofs.Common.{◌++◌, ◌∷◌, [], ◌+◌, ◌-◌, ◌/◌, length, refl, arith}
use Rattle.std.specs.declared.cmp.Ordering.TheVariants.{Less, Equal, Greater}
use Rattle.std.proofs.lemmas.Option.{slice_get_read}
use Rattle.ext_explain.proofs.SearchLemmas.{search_before, search_hits, search_past, told}
use Rattle.ext_explain.proofs.searching.spot_within.Goals as goal

pub halves-preserved-in-Less : goal.halves-preserved-in-Less
halves-preserved-in-Less c =
    let es = c.args.entries.now in
    let k = c.args.directory.now ++ c.args.name.now ∷ [] in
    let pair = c.index-entries-index.result in
    let index = c.halves.low + (c.halves.high - c.halves.low) / 2 in
    let at = slice_get_read es (length es) index pair refl (omega (arith, c.halves-test.true, c.halves.invariant.bound)) c.index-entries-index.is in
    let past = search_past es c.requires.sorted k index pair at (told k pair.0 c.names.result c.cmp_child.result Less c.names.ensures.same c.cmp_child.ensures c.in-Less.is) in
    record {
      first = omega (arith, past);
      last = c.halves.invariant.last;
      bound = c.halves.invariant.bound;
      open_ = c.halves.invariant.open_;
    }

pub returns-in-Equal : goal.returns-in-Equal
returns-in-Equal c =
    let es = c.args.entries.now in
    let k = c.args.directory.now ++ c.args.name.now ∷ [] in
    let pair = c.index-entries-index.result in
    let index = c.halves.low + (c.halves.high - c.halves.low) / 2 in
    let at = slice_get_read es (length es) index pair refl (omega (arith, c.halves-test.true, c.halves.invariant.bound)) c.index-entries-index.is in
    search_hits es c.requires.sorted k index pair at (told k pair.0 c.names.result c.cmp_child.result Equal c.names.ensures.same c.cmp_child.ensures c.in-Equal.is)

pub halves-preserved : goal.halves-preserved
halves-preserved c =
    let es = c.args.entries.now in
    let k = c.args.directory.now ++ c.args.name.now ∷ [] in
    let pair = c.index-entries-index.result in
    let index = c.halves.low + (c.halves.high - c.halves.low) / 2 in
    let at = slice_get_read es (length es) index pair refl (omega (arith, c.halves-test.true, c.halves.invariant.bound)) c.index-entries-index.is in
    search_before es c.requires.sorted k c.halves.low index pair at (told k pair.0 c.names.result c.cmp_child.result Greater c.names.ensures.same c.cmp_child.ensures c.in-Greater.is) c.halves.invariant.first
