use Rattle.std.proofs.Common.{◌≡◌, ℕ, List, refl, sym, ap, ◌∙◌, subst}
use Rattle.ext_tree.specs.Tree.{IsTreeWithin, is_directory}
use Rattle.ext_tree.specs.declared.entry.Entry.{Entry}
use Rattle.ext_tree.specs.declared.entry.Entry.TheVariants.{Dir, Opaque, File, Link, Hide}
use Rattle.ext_host.specs.Held.{HeldFile}
use Rattle.ext_host.specs.Stamped.{AreStamps, stamped_entry, stamps}
use Rattle.ext_host.proofs.ChangedLemmas.{lookup_changed, tree_changed_within}
use Rattle.ext_host.proofs.stamped.stamps.Goals as goal

keeps : (p : List (List ℕ)) (e : Entry HeldFile) → is_directory (stamped_entry e) ≡ is_directory e
keeps p (Dir attributes) = refl
keeps p (Opaque attributes) = refl
keeps p (File attributes held) = refl
keeps p (Link owner target) = refl
keeps p Hide = refl

pub from_pairs-requires : goal.from_pairs-requires
from_pairs-requires c =
    let tree = tree_changed_within (λ _ e. stamped_entry e) keeps c.args.tree.now c.pairs.ensures.tree in
    subst IsTreeWithin (sym (c.in_ok-pairs.ensures ∙ ap stamps c.pairs.ensures.same)) tree

pub returns-clause-each : goal.returns-clause-each
returns-clause-each c =
    subst (AreStamps c.args.tree.now) (sym (c.from_pairs.ensures ∙ c.in_ok-pairs.ensures ∙ ap stamps c.pairs.ensures.same)) (λ p. lookup_changed (λ _ e. stamped_entry e) p c.args.tree.now)
