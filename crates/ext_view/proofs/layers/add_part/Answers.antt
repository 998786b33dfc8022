use Rattle.std.proofs.Common.{◌≡◌, ℕ, true, cond, List, [], ◌∷◌, ◌++◌, ◌∙◌, subst}
use Rattle.std.specs.BTreeMap.{is_at}
use Rattle.std.specs.BTreeSet.{contains}
use Rattle.ext_text.specs.Path.{path_cmp}
use Rattle.ext_view.specs.Parts.{part_below}
use Rattle.ext_view.proofs.PartsLemmas.{added_more, says_again, was_there}
use Rattle.ext_view.proofs.layers.add_part.Goals as goal

pub returns-then-not-branch-clause-says : goal.returns-then-not-branch-clause-says
returns-then-not-branch-clause-says c =
    says_again c.args.base.now c.args.hierarchies.now c.args.image.now c.args.added.now c.args.layers.now.items c.requires
    (subst (λ q. contains path_cmp c.args.added.now q ≡ true) c.again.ensures
    (was_there (contains path_cmp c.args.added.now c.again.result) c.in_ok-insert.field-0 c.in_ok-insert.ensures.added c.if-not-branch.true))

pub returns-clause-added : goal.returns-clause-added
returns-clause-added c =
    let whole : c.push.new.self.items ≡ c.args.layers.now.items ++ part_below c.args.base.now c.args.hierarchies.now c.args.image.now ∷ [] =
    c.in_ok-push.ensures.items ∙ (λ i. c.args.layers.now.items ++ c.in_ok-part_below.ensures i ∷ [])
    in
    added_more c.args.base.now c.args.hierarchies.now c.args.image.now c.args.layers.now.items c.push.new.self.items whole c.args.added.now c.insert.new.self c.requires
    (subst (λ key. (q : List (List ℕ)) → contains path_cmp c.insert.new.self q ≡ cond (is_at (path_cmp key) q) true (contains path_cmp c.args.added.now q)) c.again.ensures c.in_ok-insert.ensures.updates.0)
