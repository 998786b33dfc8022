use Rattle.std.proofs.Common.{◌≡◌, ◌++◌, ◌∙◌, drop, length, subst, sym, take}
use Rattle.std.proofs.Math.Seq.{take-append_seam}
use Rattle.ext_tree.specs.Tree.{IsTreeWithin}
use Rattle.ext_homes.specs.Comparing.{stored_in}
use Rattle.ext_homes.proofs.PlacedLemmas.{placed_tree}
use Rattle.ext_homes.proofs.placing.place_tree.Goals as goal

pub from_pairs-requires : goal.from_pairs-requires
from_pairs-requires g c =
    let placed = c.in_ok-place_pairs.ensures.placed in
    let new = c.place_pairs.new.pairs in
    let long : length new ≡ c.into_pairs-pairs.result.len = c.place_pairs.auto.pairs ∙ c.deref_mut.ensures.len in
    let whole : take c.into_pairs-pairs.result.len (new ++ drop (length new) c.into_pairs-pairs.result.items) ≡ new =
    subst (λ k. take k (new ++ drop (length new) c.into_pairs-pairs.result.items) ≡ new) long (take-append_seam new (drop (length new) c.into_pairs-pairs.result.items)) in
    subst IsTreeWithin (sym whole) (placed_tree (stored_in c.args.kept.now (g.D.Disk.state c.args.disk.now)) (g.P.Depot.state c.args.depot.now) c.args.generation c.deref_mut.result.now c.args.files.now new
    placed.written placed.homes (subst IsTreeWithin (sym c.deref_mut.ensures.value) c.into_pairs-pairs.ensures.tree))
