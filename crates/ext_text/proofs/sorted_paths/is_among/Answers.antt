use Rattle.std.proofs.Common.{◌∙◌, ap, sym}
use Rattle.std.specs.Ordering.{eq_by_cmp, is_eq}
use Rattle.ext_text.specs.Path.{path_cmp}
use Rattle.ext_text.proofs.SortedPathsLemmas.{is_among-first, passes}
use Rattle.ext_text.proofs.sorted_paths.is_among.Goals as goal

pub returns-in-None : goal.returns-in-None
returns-in-None c = ap (passes (eq_by_cmp path_cmp c.args.names.now)) c.in-None.ensures ∙ sym (is_among-first c.args.names.now c.args.paths.now c.requires)

pub returns-in-Some : goal.returns-in-Some
returns-in-Some c =
    c.is_eq.ensures ∙ ap is_eq (c.cmp.ensures ∙ ap (path_cmp c.args.names.now) c.names.ensures.same)
    ∙ ap (passes (eq_by_cmp path_cmp c.args.names.now)) c.in-Some.ensures ∙ sym (is_among-first c.args.names.now c.args.paths.now c.requires)
