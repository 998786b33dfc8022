use Rattle.std.proofs.Common.{ℕ, ◌++◌, List, ap, ◌∙◌, subst}
use Rattle.std.specs.FinMap.Entries.{where_key}
use Rattle.std.specs.Option.{option_copied, option_map}
use Rattle.ext_text.specs.Path.{path_cmp, is_proper_prefix}
use Rattle.ext_changes.specs.Changes.{DiffersBy, stamped, stamped_at}
use Rattle.ext_changes.specs.Told.{all_told}
use Rattle.ext_changes.proofs.BelowLemmas.{below_calls}
use Rattle.ext_changes.proofs.comparing.changes_below.Goals as goal

pub returns : goal.returns
returns g c =
    below_calls g.A.Stamped.stamp g.B.Stamped.stamp c.args.prefix.now c.args.earlier.now c.below.result.now c.args.later.now c.below-2.result.now c.kind_of-kind.result (all_told c.push_found.new.changes.items) (all_told c.push_changes.new.changes.items)
    (subst (λ x. DiffersBy x (stamped_at g.B.Stamped.stamp c.args.later.now c.args.prefix.now) c.kind_of-kind.result) (ap (option_map (stamped g.A.Stamped.stamp)) c.get.ensures)
    (subst (λ y. DiffersBy (option_map (stamped g.A.Stamped.stamp) (option_copied c.get.result)) y c.kind_of-kind.result) (ap (option_map (stamped g.B.Stamped.stamp)) c.get-2.ensures) c.kind_of-kind.ensures))
    (c.in_ok-push_found.ensures ∙ (λ i. all_told (c.new-changes.ensures.items i) ++ c.change_of.ensures i))
    (c.below.ensures.same ∙ ap (λ (n : List (List ℕ)). where_key path_cmp (is_proper_prefix n) c.args.earlier.now) c.names-names.ensures.same)
    (c.below-2.ensures.same ∙ ap (λ (n : List (List ℕ)). where_key path_cmp (is_proper_prefix n) c.args.later.now) c.names-names.ensures.same)
    c.in_ok-push_changes.ensures
