use Rattle.std.proofs.Common.{◌<◌, ◌≤◌, length, ap, ◌∙◌, subst, arith}
use Rattle.ext_tree.specs.Tree.{lookup}
use Rattle.ext_find.specs.Content.{is_file_at}
use Rattle.ext_find.proofs.ImageLemmas.{file_in, no_file}
use Rattle.ext_find.proofs.image.is_file_in.Goals as goal

pub returns-then-depth : goal.returns-then-depth
returns-then-depth g c = λ at is.
    c.is_file_at.ensures ∙ ap (λ p. is_file_at (lookup c.args.base.now p)) is
    ∙ file_in c.args.base.now c.args.image.now at (subst (λ p. length c.args.image.now < length p) is (omega arith))

pub returns-else-depth : goal.returns-else-depth
returns-else-depth g c = λ at is.
    no_file c.args.base.now c.args.image.now at (subst (λ p. length p ≤ length c.args.image.now) is (omega arith))
