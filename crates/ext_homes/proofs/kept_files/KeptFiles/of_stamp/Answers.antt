use Rattle.std.proofs.Common.{◌≡◌, ◌∙◌, drop, true, false, rules, sym, ap, subst}
use Rattle.std.specs.List.{filter}
use Rattle.std.specs.List.Sorted.{IsPartitionPoint}
use Rattle.std.proofs.lemmas.List.Sorted.{IsPartitionPoint-from_clause}
use Rattle.ext_homes.specs.KeptFiles.{AreInOrder, has_stamp, is_before, stamp_key}
use Rattle.ext_homes.proofs.KeptFilesLemmas.{AreSorted, before_partitions, found_files, has_partitions, homes_in_order, rest_files, sorted_files}
use Rattle.ext_homes.proofs.kept_files.KeptFiles.of_stamp.Goals as goal

pub returns-clause-same : goal.returns-clause-same
returns-clause-same c =
    let key = c.of-key.result in
    let files = c.deref.result.now in
    let rest = c.split_at.result.1.now in
    let passed = c.partition_point-passed.result in
    let count = c.partition_point-count.result in
    let order : AreSorted files = subst AreSorted (sym c.deref.ensures.value) (sorted_files c.self.inside.files.items c.self.invariant) in
    let point : IsPartitionPoint (λ f. is_before key f ≡ true) (λ f. is_before key f ≡ false) files passed =
    IsPartitionPoint-from_clause (is_before key) files passed c.partition_point-passed.ensures.partitioned (before_partitions key files order) (λ a r f h. search rules) in
    let back : rest ≡ drop passed files = c.split_at.ensures.back ∙ ap (drop passed) (c.deref-2.ensures.value ∙ sym c.deref.ensures.value) in
    let later = rest_files key files rest passed c.partition_point-passed.ensures.bound back point order in
    let last : IsPartitionPoint (λ f. has_stamp key f ≡ true) (λ f. has_stamp key f ≡ false) rest count =
    IsPartitionPoint-from_clause (has_stamp key) rest count c.partition_point-count.ensures.partitioned (has_partitions key rest later.0 later.1) (λ a r f h. search rules) in
    found_files key files rest c.split_at-2.result.0.now passed count c.partition_point-passed.ensures.bound c.partition_point-count.ensures.bound back c.split_at-2.ensures.front point last
    ∙ ap (λ k. filter (has_stamp k) files) c.of-key.ensures
    ∙ ap (filter (has_stamp (stamp_key c.args.stamp.now))) (c.deref.ensures.value ∙ c.self.view_is)

pub returns-clause-order : goal.returns-clause-order
returns-clause-order c =
    subst AreInOrder (sym (returns-clause-same c)) (homes_in_order (stamp_key c.args.stamp.now) c.args.self.now (subst AreSorted c.self.view_is (sorted_files c.self.inside.files.items c.self.invariant)))
