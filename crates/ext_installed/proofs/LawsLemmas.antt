-- What is found is one, and what the versions of it are.
use Rattle.std.proofs.Common.{◌≡◌, ℕ, ◌<◌, true, List, [], ◌∷◌, length, refl, sym, ◌∙◌, arith}
use Rattle.std.specs.Cmp.{both_ways}
use Rattle.std.specs.List.{Contains}
use Rattle.std.proofs.lemmas.Option.{slice_get_within}
use Rattle.ext_tree.specs.Tree.{Entries}
use Rattle.ext_transfer.specs.declared.transfer.Transfer.{Transfer}
use Rattle.ext_vers.specs.Version.{IsVersion}
use Rattle.ext_versions.specs.Versions.{has_version}
use Rattle.ext_versions.proofs.ForCallers.{one_list}
use Rattle.ext_installed.specs.declared.instance.Instance.{Instance}
use Rattle.ext_installed.specs.declared.instance.Instances.{Instances}
use Rattle.ext_installed.specs.Installed.{AreInstalled, instance_cmp}
use Rattle.ext_installed.proofs.OrderLemmas.{instances_total, same_contained}

module _ {C : Type 0} (es : Entries C) where
  -- two lists of what is found are equal
  pub one_found : (transfers : List Transfer) (a b : Instances) → AreInstalled es transfers a → AreInstalled es transfers b → a ≡ b
  one_found transfers a b first other = λ i. record { transfers = count i; items = items i; versions = versions i }
    where
      count : a.transfers ≡ b.transfers
      count = first.count ∙ sym other.count

      items : a.items ≡ b.items
      items = same_contained instance_cmp instances_total a.items b.items first.order other.order (λ item at. other.whole item (first.each item at)) (λ item at. first.whole item (other.each item at))

      versions : a.versions ≡ b.versions
      versions = one_list a.versions b.versions first.ascending other.ascending (λ v. both_ways (has_version a.versions v) (has_version b.versions v) (λ has. (other.versions v).1 ((first.versions v).0 has)) (λ has. (first.versions v).1 ((other.versions v).0 has)))

  -- an item's transfer is below their number
  pub item_within : (transfers : List Transfer) (found : Instances) → AreInstalled es transfers found → (item : Instance) → Contains found.items item → item.transfer < found.transfers
  item_within transfers found are item at = let one = are.each item at in omega (arith, are.count, slice_get_within transfers item.transfer one.0 one.1)

  -- what is installed is a version
  pub installed_version : (transfers : List Transfer) (found : Instances) → 0 < length transfers → AreInstalled es transfers found → (v : List ℕ) → has_version found.versions v ≡ true → IsVersion v
  installed_version [] found some are v has = absurd (omega (arith, some))
  installed_version (transfer ∷ transfers) found some are v has =
      let one = ((are.versions v).0 has).0 in
      let item : Instance = record { transfer = 0; version = v; path = one.0 } in
      are.sound item (are.whole item (transfer, refl, one.1))
