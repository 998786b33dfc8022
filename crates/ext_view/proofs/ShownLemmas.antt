-- What a host shows at the hierarchies of a class that is not merged is its base.
use Rattle.std.proofs.Common.{◌≡◌, ℕ, true, false, cond, ◌||◌, List, Option, Some, None, is_some, refl, ap, ◌∙◌}
use Rattle.std.proofs.lemmas.Bool.{true≢false}
use Rattle.ext_text.specs.declared.extension.Extension.{Extension}
use Rattle.ext_tree.specs.Tree.{lookup}
use Rattle.ext_host.specs.Host.{base_at, hierarchies_in, is_in, merged_names, present, where_merged}
use Rattle.ext_host.specs.Valid.{IsValidHost}
use Rattle.ext_host.specs.declared.host.Host.{Host}
use Rattle.ext_view.specs.Hierarchies.{hierarchies_at, is_merged}
use Rattle.ext_view.proofs.HostLemmas.{in_other, merged_either, other_apart}

-- no path is in the merged hierarchies of a class that is not merged
in_none : (merged : Option (List (List ℕ))) (names : List (List ℕ)) (p : List (List ℕ)) → is_some merged ≡ false → is_in (where_merged merged names) p ≡ false
in_none None names p none = refl
in_none (Some m) names p none = absurd (true≢false none)

pub base_shown : (class : Extension) (host : Host) (p : List (List ℕ)) → IsValidHost host → is_merged class host ≡ false → is_in (hierarchies_at class host) p ≡ true → base_at (hierarchies_in host) (present host) p ≡ lookup host.root p
base_shown class host p valid unmerged in_ =
    ap (λ b. cond b (lookup host.lower p) (lookup host.root p))
    (merged_either class host p
    ∙ ap (λ b. b || in_other class host p) (in_none (merged_names class (present host)) (hierarchies_at class host) p unmerged)
    ∙ other_apart class host p valid in_)
