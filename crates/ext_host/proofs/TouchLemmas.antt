-- What holds of a host's manifests still holds of those that a change leaves.
use Rattle.std.proofs.Common.{◌≡◌, Bool, true, false, cond, not, ◌||◌, List, [], ◌∷◌, map, refl, sym, ap, ◌∙◌}
use Rattle.std.specs.List.{AllByRecursion, filter}
use Rattle.std.specs.declared.cmp.Ordering.{Ordering}
use Rattle.std.specs.declared.cmp.Ordering.TheVariants.{Less}
use Rattle.ext_text.specs.Path.{are_related, is_prefix, path_cmp}
use Rattle.ext_text.specs.SortedPaths.{meets}
use Rattle.ext_host.specs.Laws.{TouchedAllIsValid, TouchedIsValid, TouchedOneByOne}
use Rattle.ext_host.specs.Touch.{untouched_all}
use Rattle.ext_host.specs.Valid.{AreApart, AreAscending, IsManifest, IsValidHost}
use Rattle.ext_host.specs.declared.host.Host.{Host}
use Rattle.ext_host.specs.declared.manifest.Manifest.{Manifest}

-- what holds of each holds of those that are kept
all_kept : {X : Type 0} (P : X → Type 0) (f : X → Bool) (xs : List X) → AllByRecursion P xs → AllByRecursion P (filter f xs)
all_kept P f [] all = tt
all_kept P f (x ∷ xs) all =
    elim (f x) as (λ b. AllByRecursion P (cond b (x ∷ filter f xs) (filter f xs))) [
      | true ↦ (all.0, all_kept P f xs all.1)
      | false ↦ all_kept P f xs all.1
    ]

-- and what holds of a value of each holds of the values of those that are kept
all_values : {X Y : Type 0} (g : X → Y) (P : Y → Type 0) (f : X → Bool) (xs : List X) → AllByRecursion P (map g xs) → AllByRecursion P (map g (filter f xs))
all_values g P f [] all = tt
all_values g P f (x ∷ xs) all =
    elim (f x) as (λ b. AllByRecursion P (map g (cond b (x ∷ filter f xs) (filter f xs)))) [
      | true ↦ (all.0, all_values g P f xs all.1)
      | false ↦ all_values g P f xs all.1
    ]

ascending_kept : {X Y : Type 0} (R : Y → Y → Ordering) (g : X → Y) (f : X → Bool) (xs : List X) → AreAscending R (map g xs) → AreAscending R (map g (filter f xs))
ascending_kept R g f [] up = tt
ascending_kept R g f (x ∷ xs) up =
    let rest = ascending_kept R g f xs up.1 in
    elim (f x) as (λ b. AreAscending R (map g (cond b (x ∷ filter f xs) (filter f xs)))) [
      | true ↦ (all_values g (λ y. R (g x) y ≡ Less) f xs up.0, rest)
      | false ↦ rest
    ]

apart_kept : (f : Manifest → Bool) (manifests : List Manifest) → AreApart manifests → AreApart (filter f manifests)
apart_kept f [] apart = tt
apart_kept f (m ∷ manifests) apart =
    let rest = apart_kept f manifests apart.1 in
    elim (f m) as (λ b. AreApart (cond b (m ∷ filter f manifests) (filter f manifests))) [
      | true ↦ (all_kept _ f manifests apart.0, rest)
      | false ↦ rest
    ]

-- a host that keeps some of its manifests is as valid as it was
kept_is_valid : (f : Manifest → Bool) (host : Host) → IsValidHost host → IsValidHost (record host { kept = filter f host.kept })
kept_is_valid f host valid =
    let kept = valid.present.kept in
    record {
      scope = valid.scope;
      hierarchies = valid.hierarchies;
      present = record {
        lower = valid.present.lower;
        limits = record { root = valid.present.limits.root; lower = valid.present.limits.lower; entries = valid.present.limits.entries; bytes = valid.present.limits.bytes };
        sysext = valid.present.sysext;
        confext = valid.present.confext;
        attached = valid.present.attached;
        kept = record {
          each = all_kept IsManifest f host.kept kept.each;
          order = ascending_kept path_cmp (λ (m : Manifest). m.path) f host.kept kept.order;
          apart = apart_kept f host.kept kept.apart;
          items = all_kept _ f host.kept kept.items;
        };
      };
      past = valid.past;
      past_count = valid.past_count;
      past_order = valid.past_order;
    }

pub touched_is_valid : TouchedIsValid
touched_is_valid host path valid = kept_is_valid (λ m. not (are_related m.path path)) host valid

pub touched_all_is_valid : TouchedAllIsValid
touched_all_is_valid host paths valid = kept_is_valid (λ m. not (meets paths m.path)) host valid

swapped : (a b : Bool) → a || b ≡ b || a
swapped true true = refl
swapped true false = refl
swapped false true = refl
swapped false false = refl

-- a manifest that the first path leaves and the others leave
left_by_both : (a b : Bool) (m : Manifest) (f : Manifest → Bool) (rest : List Manifest) → f m ≡ not a → cond (not (a || b)) (m ∷ filter f rest) (filter f rest) ≡ filter f (cond (not b) (m ∷ rest) rest)
left_by_both true true m f rest is = refl
left_by_both true false m f rest is = sym (ap (λ t. cond t (m ∷ filter f rest) (filter f rest)) is)
left_by_both false true m f rest is = refl
left_by_both false false m f rest is = sym (ap (λ t. cond t (m ∷ filter f rest) (filter f rest)) is)

pub touched_one_by_one : TouchedOneByOne
touched_one_by_one path paths [] = refl
touched_one_by_one path paths (m ∷ manifests) =
    ap (λ rest. cond (not (are_related path m.path || meets paths m.path)) (m ∷ rest) rest) (touched_one_by_one path paths manifests)
    ∙ left_by_both (are_related path m.path) (meets paths m.path) m (λ n. not (are_related n.path path)) (untouched_all paths manifests) (ap not (swapped (is_prefix m.path path) (is_prefix path m.path)))
