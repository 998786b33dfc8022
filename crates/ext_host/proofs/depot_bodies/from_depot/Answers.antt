use Rattle.std.proofs.Common.{◌≡◌, ◌++◌, ℕ, List, refl, sym, ap, ◌∙◌, subst}
use Rattle.ext_tree.specs.Tree.{IsTreeWithin, is_directory}
use Rattle.ext_tree.specs.declared.entry.Entry.{Entry}
use Rattle.ext_tree.specs.declared.entry.Entry.TheVariants.{Dir, Opaque, File, Link, Hide}
use Rattle.ext_tree.specs.declared.stamp.Stamp.{Stamp}
use Rattle.ext_host.specs.DepotBodies.{from_depot, in_depot}
use Rattle.ext_host.proofs.ChangedLemmas.{tree_changed_within}
use Rattle.ext_host.proofs.depot_bodies.from_depot.Goals as goal

keeps : (res p : List (List ℕ)) (e : Entry Stamp) → is_directory (in_depot (res ++ p) e) ≡ is_directory e
keeps res p (Dir attributes) = refl
keeps res p (Opaque attributes) = refl
keeps res p (File attributes stamp) = refl
keeps res p (Link owner target) = refl
keeps res p Hide = refl

pub from_pairs-requires : goal.from_pairs-requires
from_pairs-requires c =
    let tree = tree_changed_within (λ p e. in_depot (c.args.res.now ++ p) e) (keeps c.args.res.now) c.args.tree (subst IsTreeWithin c.into_pairs.ensures.same c.into_pairs.ensures.tree) in
    subst IsTreeWithin (sym (c.in_ok-pairs.ensures.ok.0 ∙ ap (from_depot c.args.res.now) c.into_pairs.ensures.same)) tree
