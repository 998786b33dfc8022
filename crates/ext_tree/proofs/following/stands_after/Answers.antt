use Rattle.std.proofs.Common.{length, arith, sym, ap, ◌∙◌}
use Rattle.ext_text.specs.Path.{is_prefix}
use Rattle.ext_tree.proofs.StandsAfterLemmas.{no_root, stands_apart, stands_rest}
use Rattle.ext_tree.proofs.following.stands_after.Goals as goal

pub returns-in-None : goal.returns-in-None
returns-in-None g c = no_root c.args.path.now c.args.last.now.0 c.args.last.now.1 (omega (arith, ap length c.names.ensures.same, ap length c.in-None.ensures))

pub returns-in-None-after : goal.returns-in-None-after
returns-in-None-after g c =
    stands_apart c.args.path.now c.in-Some.directory c.args.last.now.0 c.in-Some.name.now c.args.last.now.1
    (sym c.names.ensures.same ∙ c.in-Some.ensures.0)
    (ap (is_prefix c.in-Some.directory) (sym c.names-in-Some.ensures.same) ∙ c.in-None-after.ensures)

pub returns-in-Some-after : goal.returns-in-Some-after
returns-in-Some-after g c =
    stands_rest c.args.path.now c.in-Some.directory c.args.last.now.0 c.in-Some-after.rest c.in-Some.name.now c.args.last.now.1 c.comes_after.result
    (sym c.names.ensures.same ∙ c.in-Some.ensures.0)
    (sym c.names-in-Some.ensures.same ∙ c.in-Some-after.ensures)
    c.comes_after.ensures
