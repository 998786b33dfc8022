use Rattle.std.proofs.Common.{◌∙◌, ap, sym}
use Rattle.ext_text.specs.Path.{is_prefix}
use Rattle.ext_text.proofs.SortedPathsLemmas.{has_below-first, passes}
use Rattle.ext_text.proofs.sorted_paths.has_below.Goals as goal

pub returns-in-None : goal.returns-in-None
returns-in-None c = ap (passes (is_prefix c.args.names.now)) c.in-None.ensures ∙ sym (has_below-first c.args.names.now c.args.paths.now c.requires)

pub returns-in-Some : goal.returns-in-Some
returns-in-Some c =
    c.starts_with.ensures ∙ ap (is_prefix c.args.names.now) c.names.ensures.same
    ∙ ap (passes (is_prefix c.args.names.now)) c.in-Some.ensures ∙ sym (has_below-first c.args.names.now c.args.paths.now c.requires)
