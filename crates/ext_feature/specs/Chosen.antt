-- Which transfers are on, by Features= and RequisiteFeatures= of sysupdate.d(5).
use Rattle.std.specs.Prelude.{ℕ, Bool, ◌&&◌, ◌||◌, ◌==◌, List, length}
use Rattle.std.specs.List.{list_all, list_any}
use Rattle.std.specs.Str.{bytes_eq}
use Rattle.ext_transfer.specs.declared.transfer.Transfer.{Transfer}
use Rattle.ext_feature.specs.declared.feature.Feature.{Feature}

-- a feature of this name is on; one that isn't there is off
abbrev pub has_on : List Feature → List ℕ → Bool
has_on features name = list_any (λ feature. bytes_eq feature.name name && feature.on) features

-- one of these names is that of a feature that is on, or there are none
abbrev pub has_one_on : List Feature → List (List ℕ) → Bool
has_one_on features names = length names == 0 || list_any (has_on features) names

-- of the features that it lists one is on, if it lists any, and each is on that it requires
abbrev pub is_on : List Feature → Transfer → Bool
is_on features transfer = has_one_on features transfer.features && list_all (has_on features) transfer.requisite
