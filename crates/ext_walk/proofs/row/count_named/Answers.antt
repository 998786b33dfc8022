use Rattle.std.proofs.Common.{◌≡◌, true, false, rules, arith, subst, sym}
use Rattle.std.specs.List.Sorted.{IsPartitionedBy, IsPartitionPoint}
use Rattle.std.proofs.lemmas.List.Sorted.{IsPartitionPoint-from_clause}
use Rattle.ext_walk.specs.Row.{has_name}
use Rattle.ext_walk.proofs.NextLemmas.{first_partitioned, point_of_first}
use Rattle.ext_walk.proofs.row.count_named.Goals as goal

pub returns-clause-point : goal.returns-clause-point
returns-clause-point g c = λ split.
    point_of_first (has_name c.args.depth c.args.name.now) c.args.entries.now c.reach_of.result c.partition_point.result c.reach_of.ensures.within (omega (arith, c.split_at.ensures.front_len, c.partition_point.ensures.bound))
    (subst (λ front. IsPartitionPoint (λ e. has_name c.args.depth c.args.name.now e ≡ true) (λ e. has_name c.args.depth c.args.name.now e ≡ false) front c.partition_point.result) c.split_at.ensures.front
    (IsPartitionPoint-from_clause (has_name c.args.depth c.args.name.now) c.split_at.result.0.now c.partition_point.result c.partition_point.ensures.partitioned
    (subst (IsPartitionedBy (has_name c.args.depth c.args.name.now)) (sym c.split_at.ensures.front) (first_partitioned (has_name c.args.depth c.args.name.now) c.args.entries.now c.reach_of.result c.reach_of.ensures.within split))
    (λ a r f h. search rules)))
    (c.reach_of.ensures.past split)
