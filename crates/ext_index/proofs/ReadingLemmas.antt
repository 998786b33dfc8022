-- What was read, as an index of a valid host.
use Rattle.std.proofs.Common.{ℕ, ◌≤◌, List, [], ◌∷◌, length}
use Rattle.std.specs.List.{AllByRecursion}
use Rattle.ext_host.specs.Host.{Hierarchies, HostTree, hierarchies_in, past_tree, present}
use Rattle.ext_host.specs.Valid.{IsManifest, IsValidHost, IsValidTree}
use Rattle.ext_host.specs.declared.past.Past.{Past}
use Rattle.ext_host.specs.declared.host.Host.{Host}
use Rattle.ext_index_reader.specs.Listed.{IsListedHost, IsListedTree}
use Rattle.ext_index_reader.specs.Reading.{IsSaid}
use Rattle.ext_index_reader.specs.declared.said.Said.{Said}
use Rattle.ext_index_reader.proofs.ForCallers.{said_is_listed}
use Rattle.ext_index.specs.Faulty.{AreRight, IsRight}
use Rattle.ext_index.specs.ValidIndex.{IsIndexOf, most_index_bytes}

valid_tree : (h : Hierarchies) (tree : HostTree) → IsListedTree h tree → AreRight h tree → IsValidTree h tree
valid_tree h tree listed right = record {
  lower = listed.lower;
  limits = listed.limits;
  sysext = listed.sysext;
  confext = listed.confext;
  attached = listed.attached;
  kept = record { each = listed.manifests; order = listed.order; apart = listed.apart; items = right };
}

valid_pasts : (h : Hierarchies) (pasts : List Past) → AllByRecursion (λ past. IsListedTree h (past_tree past)) pasts → AllByRecursion (λ past. AreRight h (past_tree past)) pasts
    → AllByRecursion (λ past. IsValidTree h (past_tree past)) pasts
valid_pasts h [] listed right = tt
valid_pasts h (past ∷ pasts) listed right = (valid_tree h (past_tree past) listed.0 right.0, valid_pasts h pasts listed.1 right.1)

valid_host : (g : ℕ) (host : Host) → IsListedHost g host → IsRight host → IsValidHost host
valid_host g host listed right = record {
  scope = listed.scope;
  hierarchies = listed.hierarchies;
  present = valid_tree (hierarchies_in host) (present host) listed.now right.now;
  past = valid_pasts (hierarchies_in host) host.past listed.past right.past;
  past_count = listed.past_count;
  past_order = listed.past_order;
}

-- the lines say an index, where no manifest says other than the base has
pub index_said : (g : ℕ) (bytes : List ℕ) (said : Said) → g ≤ 4294967295 → length bytes ≤ most_index_bytes → IsSaid g bytes said → IsRight said.host → IsIndexOf said.text g said.host bytes
index_said g bytes said small fits is right =
    let listing = said_is_listed g bytes said small is in
    record {
      formed = listing.formed;
      valid = record {
        valid = valid_host g said.host listing.listed right;
        kept = listing.listed.homes.kept;
        agree = listing.listed.homes.agree;
        past = listing.listed.past_before;
      };
      text = listing.text;
      told = listing.told;
      text_1 = listing.text_1;
      fits = fits;
    }

manifests_of_pasts : (h : Hierarchies) (pasts : List Past) → AllByRecursion (λ past. IsListedTree h (past_tree past)) pasts → AllByRecursion (λ (past : Past). AllByRecursion IsManifest past.kept) pasts
manifests_of_pasts h [] listed = tt
manifests_of_pasts h (past ∷ pasts) listed = (listed.0.manifests, manifests_of_pasts h pasts listed.1)

pub manifests_now : (g : ℕ) (bytes : List ℕ) (said : Said) → g ≤ 4294967295 → IsSaid g bytes said → AllByRecursion IsManifest said.host.kept
manifests_now g bytes said small is = (said_is_listed g bytes said small is).listed.now.manifests

pub manifests_past : (g : ℕ) (bytes : List ℕ) (said : Said) → g ≤ 4294967295 → IsSaid g bytes said → AllByRecursion (λ (past : Past). AllByRecursion IsManifest past.kept) said.host.past
manifests_past g bytes said small is = manifests_of_pasts (hierarchies_in said.host) said.host.past (said_is_listed g bytes said small is).listed.past
