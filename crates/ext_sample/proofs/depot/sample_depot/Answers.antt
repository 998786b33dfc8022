use Rattle.std.proofs.Common.{length, sym, ap, subst, ◌∙◌, arith}
use Rattle.std.specs.List.{AllByRecursion}
use Rattle.ext_sample.specs.Making.{IsSmallFile}
use Rattle.ext_sample.specs.Sample.{sample_host, sample_images}
use Rattle.ext_sample.proofs.DepotLemmas.{sample_is}
use Rattle.ext_sample.proofs.NamesLemmas.{host_named, host_tree_named, images_named, images_tree_named}
use Rattle.ext_sample.proofs.SampleLemmas.{host_few, host_smalls, images_few, images_smalls}
use Rattle.ext_sample.proofs.depot.sample_depot.Goals as goal

pub tree_text-requires-clause-small : goal.tree_text-requires-clause-small
tree_text-requires-clause-small c = subst (AllByRecursion IsSmallFile) (sym (c.as_slice.ensures.value ∙ c.in_ok-of_host.ensures ∙ ap sample_host c.from.ensures)) (host_smalls c.args.images c.requires)

pub tree_text-requires-clause-few : goal.tree_text-requires-clause-few
tree_text-requires-clause-few c = omega (arith, host_few c.args.images c.requires, ap length (c.as_slice.ensures.value ∙ c.in_ok-of_host.ensures ∙ ap sample_host c.from.ensures))

pub tree_text-requires-2-clause-small : goal.tree_text-requires-2-clause-small
tree_text-requires-2-clause-small c = subst (AllByRecursion IsSmallFile) (sym (c.as_slice-2.ensures.value ∙ c.in_ok-of_images.ensures ∙ ap sample_images c.from-2.ensures)) (images_smalls c.args.images c.requires)

pub tree_text-requires-2-clause-few : goal.tree_text-requires-2-clause-few
tree_text-requires-2-clause-few c = omega (arith, images_few c.args.images c.requires, ap length (c.as_slice-2.ensures.value ∙ c.in_ok-of_images.ensures ∙ ap sample_images c.from-2.ensures))

pub put_files-requires-clause-name : goal.put_files-requires-clause-name
put_files-requires-clause-name c = images_named

pub put_files-requires-clause-small : goal.put_files-requires-clause-small
put_files-requires-clause-small c = subst (AllByRecursion IsSmallFile) (sym (c.in_ok-of_images.ensures ∙ ap sample_images c.from-2.ensures)) (images_smalls c.args.images c.requires)

pub put_files-requires-2-clause-name : goal.put_files-requires-2-clause-name
put_files-requires-2-clause-name c = host_named

pub put_files-requires-2-clause-small : goal.put_files-requires-2-clause-small
put_files-requires-2-clause-small c = subst (AllByRecursion IsSmallFile) (sym (c.in_ok-of_host.ensures ∙ ap sample_host c.from.ensures)) (host_smalls c.args.images c.requires)

pub name_path-requires : goal.name_path-requires
name_path-requires c = images_tree_named

pub name_path-requires-2 : goal.name_path-requires-2
name_path-requires-2 c = host_tree_named

pub returns-clause-sample : goal.returns-clause-sample
returns-clause-sample c =
    let of_host = c.in_ok-of_host.ensures ∙ ap sample_host c.from.ensures in
    let of_images = c.in_ok-of_images.ensures ∙ ap sample_images c.from-2.ensures in
    sample_is c.args.images c.new-depot.result c.put_files.new.depot c.put_files-2.new.depot c.put.new.self c.put-2.new.self c.in_ok-of_host.of_host.items c.in_ok-of_images.of_images.items
    c.as_slice.result.now c.as_slice-2.result.now c.in_ok-host.host c.in_ok-trees.trees c.in_ok-name_path-2.field-0 c.in_ok-name_path.field-0
    (ap (λ d. d.files) c.new-depot.ensures) c.in_ok-put_files.ensures c.in_ok-put_files-2.ensures c.in_ok-put.ensures.ok c.in_ok-put-2.ensures.ok c.in_ok-name_path.ensures c.in_ok-name_path-2.ensures
    of_host of_images c.as_slice.ensures.value c.as_slice-2.ensures.value c.in_ok-host.ensures c.in_ok-trees.ensures
