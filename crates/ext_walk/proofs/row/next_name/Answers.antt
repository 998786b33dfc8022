use Rattle.std.proofs.Common.{◌≡◌, ◌-◌, ◌<◌, ℕ, Some, drop, length, refl, subst, sym, take}
use Rattle.std.specs.Prelude.{slice_get}
use Rattle.std.proofs.lemmas.Option.{get_or_from_slice_get}
use Rattle.ext_walk.proofs.NextLemmas.{next_here, others_are}
use Rattle.ext_walk.proofs.RowLemmas.{deeper, first_below}
use Rattle.ext_walk.proofs.row.next_name.Goals as goal

pub name_at-name-requires : goal.name_at-name-requires
name_at-name-requires g c =
    subst (λ (d : ℕ). d < length c.entry-item.result.0) (sym c.depth-depth.ensures)
    (deeper c.args.directory.now c.entry-item.result.0 (first_below c.args.base.now c.args.directory.now c.args.rest.now c.entry-item.result c.in-len1-up.len_at_least c.entry-item.is c.requires))

pub returns-in-len1-up : goal.returns-in-len1-up
returns-in-len1-up g c =
    let here = subst (λ (d : ℕ). slice_get c.entry-item.result.0 d ≡ Some c.name_at-name.result.now) c.depth-depth.ensures c.name_at-name.ensures.same in
    next_here c.args.base.now c.pairs-entries.ensures.tree.tree c.args.directory.now c.args.rest.now (take (length c.args.rest.now - 1) (drop 1 c.args.rest.now)) c.entry-item.result c.entry-item.result.0 c.name_at-name.result.now c.count_named.result
    c.in-len1-up.len_at_least c.entry-item.is c.requires refl (sym (get_or_from_slice_get c.entry-item.result.0 (length c.args.directory.now) c.name_at-name.result.now c.name_at-name.result.now here))
    (others_are c.args.rest.now) c.count_named.ensures.within (rw c.depth-depth.ensures at c.count_named.ensures.point) _ refl refl c.split_at.ensures.front c.split_at.ensures.back
