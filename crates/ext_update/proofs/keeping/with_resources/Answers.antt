use Rattle.std.proofs.Common.{sym, subst, rules}
use Rattle.std.proofs.lemmas.Fn.{always_returns_same}
use Rattle.std.proofs.lemmas.List.Sorted.{ranks_by}
use Rattle.std.specs.Ordering.{is_lt}
use Rattle.ext_text.specs.Order.{paths_total}
use Rattle.ext_text.specs.Path.{path_cmp}
use Rattle.ext_host.specs.declared.manifest.Manifest.{Manifest}
use Rattle.ext_update.specs.Drafts.{AppendManifests, IsInPathOrder}
use Rattle.ext_update.proofs.keeping.with_resources.Goals as goal

pub returns : goal.returns
returns c =
    let key = λ (m : Manifest). m.path in
    subst (IsInPathOrder c.args.kept c.args.root.now c.args.resources.now) (sym c.from_vec.ensures) (record {
      all = c.append_manifests.new.manifests.items;
      appends = subst (λ old. AppendManifests c.args.root.now c.args.resources.now old c.append_manifests.new.manifests.items) c.into_vec-manifests.ensures c.in_ok-append_manifests.ensures;
      same = c.sort_unstable_by.ensures.permutation;
      order = c.sort_unstable_by.ensures.sorted (λ a b. is_lt (path_cmp (key a) (key b))) (ranks_by paths_total key) (always_returns_same _ _ _ (λ a r f h. search rules));
    })
