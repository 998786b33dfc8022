use Rattle.std.proofs.Common.{◌++◌, ◌∷◌, [], arith, sym, subst}
use Rattle.std.specs.Prelude.{IsTrue}
use Rattle.std.specs.FinMap.{is_sorted}
use Rattle.ext_text.specs.Path.{path_cmp}
use Rattle.ext_explain.proofs.SearchLemmas.{search_all}
use Rattle.ext_explain.proofs.searching.spot_at.Goals as goal

pub spot_within-requires-clause-within : goal.spot_within-requires-clause-within
spot_within-requires-clause-within c =
    search_all c.pairs-entries.result.now (subst (λ es. IsTrue (is_sorted path_cmp es)) (sym c.pairs-entries.ensures.same) c.pairs-entries.ensures.tree.tree.sorted) (c.in-Some.directory ++ c.in-Some.name.now ∷ []) 0 (omega arith)
