use Rattle.std.proofs.Common.{◌≡◌, ◌∙◌, ap, subst, true}
use Rattle.std.specs.FinMap.{is_sorted}
use Rattle.std.specs.FinMap.Entries.{where_key}
use Rattle.std.specs.Option.{option_copied}
use Rattle.ext_text.specs.Path.{is_proper_prefix, path_cmp}
use Rattle.ext_updated.proofs.ManifestLemmas.{items_are, manifest_is}
use Rattle.ext_updated.proofs.manifesting.manifest_at.Goals as goal

pub returns : goal.returns
returns c =
    let tree = c.args.tree.now in
    let path = c.args.path.now in
    let below : c.below.result.now ≡ where_key path_cmp (is_proper_prefix path) tree =
    c.below.ensures.same ∙ ap (λ p. where_key path_cmp (is_proper_prefix p) tree) c.names.ensures.same in
    manifest_is tree path (record { path = c.in_ok-copy.field-0; items = c.from_vec.result }) (subst (λ es. is_sorted path_cmp es ≡ true) below c.below.ensures.sorted) c.in_ok-copy.ensures
    (items_are tree c.below.result.now path c.names.result (option_copied c.get.result) c.new-items.result.items c.append_top.new.items.items c.append_files.new.items.items c.from_vec.result
    c.names.ensures.same c.below.ensures.same c.new-items.ensures.items c.get.ensures c.in_ok-append_top.ensures c.in_ok-append_files.ensures c.from_vec.ensures)
