use Rattle.std.proofs.Common.{◌∙◌, sym}
use Rattle.ext_text.proofs.SortedPathsLemmas.{meets_covered, meets_uncovered}
use Rattle.ext_text.proofs.sorted_paths.meets.Goals as goal

pub returns-then-covered : goal.returns-then-covered
returns-then-covered c =
    c.covers-covered.ensures ∙ meets_covered c.args.paths.now c.args.names.now (sym c.covers-covered.ensures ∙ c.if-covered.true)

pub returns-else-covered : goal.returns-else-covered
returns-else-covered c =
    c.has_below.ensures ∙ meets_uncovered c.args.paths.now c.args.names.now (sym c.covers-covered.ensures ∙ c.if-covered.false)
