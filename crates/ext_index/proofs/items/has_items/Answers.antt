use Rattle.std.proofs.Common.{◌≡◌, ◌∷◌, sym, ap, ◌∙◌, subst}
use Rattle.std.specs.Prelude.{IsTrue}
use Rattle.std.specs.FinMap.{is_sorted}
use Rattle.std.specs.FinMap.Entries.{where_key}
use Rattle.ext_text.specs.Path.{is_proper_prefix, path_cmp}
use Rattle.ext_host.specs.declared.manifest.Item.{Item}
use Rattle.ext_index.specs.Items.{items_of}
use Rattle.ext_index.proofs.ItemsLemmas.{says_the_file, says_the_files}
use Rattle.ext_index.proofs.items.has_items.Goals as goal

pub returns-in-Some : goal.returns-in-Some
returns-in-Some c =
    let same = c.as_slice-items.ensures in
    let path = c.args.manifest.now.path in
    let file = c.in-Some.ensures in
    let item : Item = record { path = path; digest = c.in-Some.held.now.stamp.digest } in
    let below : c.below-below.result.now ≡ where_key path_cmp (is_proper_prefix path) c.args.tree.now
    = c.below-below.ensures.same ∙ ap (λ names. where_key path_cmp (is_proper_prefix names) c.args.tree.now) c.names.ensures.same in
    let sorted = subst (λ es. IsTrue (is_sorted path_cmp es)) below c.below-below.ensures.sorted in
    let says = says_the_file c.args.tree.now c.args.manifest.now file.0 c.in-Some.held.now c.requires sorted file.1 in (
      λ yes. says.0 (sym same ∙ c.are_file_and_items.ensures.0 yes ∙ ap (λ es. item ∷ items_of es) below),
      λ has. c.are_file_and_items.ensures.1 (same ∙ says.1 has ∙ ap (λ es. item ∷ items_of es) (sym below)),
    )

pub returns-in-None : goal.returns-in-None
returns-in-None c =
    let same = c.as_slice-items.ensures in
    let path = c.args.manifest.now.path in
    let below : c.below-below.result.now ≡ where_key path_cmp (is_proper_prefix path) c.args.tree.now
    = c.below-below.ensures.same ∙ ap (λ names. where_key path_cmp (is_proper_prefix names) c.args.tree.now) c.names.ensures.same in
    let sorted = subst (λ es. IsTrue (is_sorted path_cmp es)) below c.below-below.ensures.sorted in
    let says = says_the_files c.args.tree.now c.args.manifest.now c.requires sorted c.in-None.ensures in
    (λ yes. says.0 (sym same ∙ c.are_items.ensures.0 yes ∙ ap items_of below), λ has. c.are_items.ensures.1 (same ∙ says.1 has ∙ ap items_of (sym below)))
