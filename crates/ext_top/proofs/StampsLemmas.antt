-- A valid host is valid whichever homes its files have: it has the same stamps.
use Rattle.std.proofs.Common.{◌≡◌, ℕ, ◌+◌, if◌then◌else◌, true, false, List, [], ◌∷◌, length, Option, Some, None, is_some, refl, sym, ap, ◌∙◌, subst, arith}
use Rattle.std.specs.Prelude.{Contains, IsTrue}
use Rattle.std.specs.List.{AllByRecursion}
use Rattle.std.specs.Option.{option_map}
use Rattle.std.proofs.lemmas.List.Sums.{sum_by-cons}
use Rattle.ext_attributes.specs.Attributes.{OfFile}
use Rattle.ext_text.specs.Path.{is_prefix}
use Rattle.ext_depot.specs.Depot.{DepotState}
use Rattle.ext_tree.specs.EntryLine.{IsWritable}
use Rattle.ext_tree.specs.Tree.{Entries, lookup}
use Rattle.ext_tree.specs.TreeText.{stamp_form}
use Rattle.ext_tree.specs.declared.entry.Entry.{Entry}
use Rattle.ext_tree.specs.declared.entry.Entry.TheVariants.{Dir, Opaque, File, Link, Hide}
use Rattle.ext_tree.specs.declared.stamp.Stamp.{Stamp}
use Rattle.ext_host.specs.Held.{HeldFile}
use Rattle.ext_host.specs.Host.{base_at, hierarchies_in, is_in, merged_hierarchies, present}
use Rattle.ext_host.specs.Stamped.{stamped_entry, stamps}
use Rattle.ext_host.specs.Valid.{AreInRange, HasItems, IsValidHost, all_bytes, bytes_of, held_form}
use Rattle.ext_host.specs.declared.host.Host.{Host}
use Rattle.ext_host.specs.declared.manifest.Item.{Item}
use Rattle.ext_host.specs.declared.manifest.Manifest.{Manifest}
use Rattle.ext_host.proofs.ForCallers.{lookup_changed}
use Rattle.ext_homes.specs.Placed.{IsHostPlaced, Stored}
use Rattle.ext_homes.proofs.ForCallers.{placed_stamps}

-- what is said of an entry by its stamp alone
abbrev stamp_bytes : Entry Stamp → ℕ
stamp_bytes (Dir attributes) = 0
stamp_bytes (Opaque attributes) = 0
stamp_bytes (File attributes stamp) = stamp.size
stamp_bytes (Link owner target) = 0
stamp_bytes Hide = 0

bytes_stamped : (e : Entry HeldFile) → bytes_of e ≡ stamp_bytes (stamped_entry e)
bytes_stamped (Dir attributes) = refl
bytes_stamped (Opaque attributes) = refl
bytes_stamped (File attributes held) = refl
bytes_stamped (Link owner target) = refl
bytes_stamped Hide = refl

range_stamped : (e : Entry HeldFile) → IsWritable held_form e → IsWritable stamp_form (stamped_entry e)
range_stamped (Dir attributes) range = range
range_stamped (Opaque attributes) range = range
range_stamped (File attributes held) range = range
range_stamped (Link owner target) range = range
range_stamped Hide range = range

range_held : (e : Entry HeldFile) → IsWritable stamp_form (stamped_entry e) → IsWritable held_form e
range_held (Dir attributes) range = range
range_held (Opaque attributes) range = range
range_held (File attributes held) range = range
range_held (Link owner target) range = range
range_held Hide range = range

entry_bytes : (a b : Entry HeldFile) → stamped_entry a ≡ stamped_entry b → bytes_of a ≡ bytes_of b
entry_bytes a b same = bytes_stamped a ∙ ap stamp_bytes same ∙ sym (bytes_stamped b)

entry_range : (a b : Entry HeldFile) → stamped_entry a ≡ stamped_entry b → IsWritable held_form b → IsWritable held_form a
entry_range a b same range = range_held a (subst (IsWritable stamp_form) (sym same) (range_stamped b range))

-- entries of the same stamps
nil_cons : {X : Type 0} (x : X) (xs : List X) → [] ≡ x ∷ xs → ⊥
nil_cons x xs same = cc

heads : {X : Type 0} (x y : X) (xs ys : List X) → x ∷ xs ≡ y ∷ ys → x ≡ y
heads x y xs ys same = cc

tails : {X : Type 0} (x y : X) (xs ys : List X) → x ∷ xs ≡ y ∷ ys → xs ≡ ys
tails x y xs ys same = cc

first_same : (x y : List (List ℕ) × Entry HeldFile) (xs ys : Entries HeldFile) → stamps (x ∷ xs) ≡ stamps (y ∷ ys) → stamped_entry x.1 ≡ stamped_entry y.1
first_same x y xs ys same = ap (λ (e : List (List ℕ) × Entry Stamp). e.1) (heads (x.0, stamped_entry x.1) (y.0, stamped_entry y.1) (stamps xs) (stamps ys) same)

rest_same : (x y : List (List ℕ) × Entry HeldFile) (xs ys : Entries HeldFile) → stamps (x ∷ xs) ≡ stamps (y ∷ ys) → stamps xs ≡ stamps ys
rest_same x y xs ys same = tails (x.0, stamped_entry x.1) (y.0, stamped_entry y.1) (stamps xs) (stamps ys) same

total_same : (xs ys : Entries HeldFile) → stamps xs ≡ stamps ys → all_bytes xs ≡ all_bytes ys
total_same [] [] same = refl
total_same [] (y ∷ ys) same = absurd (nil_cons (y.0, stamped_entry y.1) (stamps ys) same)
total_same (x ∷ xs) [] same = absurd (nil_cons (x.0, stamped_entry x.1) (stamps xs) (sym same))
total_same (x ∷ xs) (y ∷ ys) same =
    let size : List (List ℕ) × Entry HeldFile → ℕ = λ e. bytes_of e.1 in
    omega (arith, sum_by-cons size x xs, sum_by-cons size y ys, entry_bytes x.1 y.1 (first_same x y xs ys same), total_same xs ys (rest_same x y xs ys same))

range_same : (xs ys : Entries HeldFile) → stamps xs ≡ stamps ys → AreInRange ys → AreInRange xs
range_same [] ys same range = tt
range_same (x ∷ xs) [] same range = absurd (nil_cons (x.0, stamped_entry x.1) (stamps xs) (sym same))
range_same (x ∷ xs) (y ∷ ys) same range = (entry_range x.1 y.1 (first_same x y xs ys same) range.0, range_same xs ys (rest_same x y xs ys same) range.1)

count_same : (xs ys : Entries HeldFile) → stamps xs ≡ stamps ys → length xs ≡ length ys
count_same [] [] same = refl
count_same [] (y ∷ ys) same = absurd (nil_cons (y.0, stamped_entry y.1) (stamps ys) same)
count_same (x ∷ xs) [] same = absurd (nil_cons (x.0, stamped_entry x.1) (stamps xs) (sym same))
count_same (x ∷ xs) (y ∷ ys) same = omega (arith, count_same xs ys (rest_same x y xs ys same))

-- what stands at a path, with the stamp of its file alone
abbrev SameStamp : Option (Entry HeldFile) → Option (Entry HeldFile) → Type 0
SameStamp a b = option_map stamped_entry a ≡ option_map stamped_entry b

lookup_same : (xs ys : Entries HeldFile) (p : List (List ℕ)) → stamps xs ≡ stamps ys → SameStamp (lookup xs p) (lookup ys p)
lookup_same xs ys p same = sym (lookup_changed (λ _ e. stamped_entry e) p xs) ∙ ap (λ es. lookup es p) same ∙ lookup_changed (λ _ e. stamped_entry e) p ys

base_same : (host : Host) (root lower : Entries HeldFile) (p : List (List ℕ)) → stamps root ≡ stamps host.root → stamps lower ≡ stamps host.lower
    → SameStamp (base_at (hierarchies_in host) (present (record host { root = root; lower = lower })) p) (base_at (hierarchies_in host) (present host) p)
base_same host root lower p one two =
    elim (is_in (merged_hierarchies (hierarchies_in host) (present host)) p) as (λ b. SameStamp (if b then lookup lower p else lookup root p) (if b then lookup host.lower p else lookup host.root p)) [
      | true ↦ lookup_same lower host.lower p two
      | false ↦ lookup_same root host.root p one
    ]

some_same : (a b : Option (Entry HeldFile)) → SameStamp a b → is_some a ≡ is_some b
some_same None None same = refl
some_same None (Some f) same = cc
some_same (Some e) None same = cc
some_same (Some e) (Some f) same = refl

-- where a file stands in the one, one with its stamp stands in the other
file_same : (attributes : OfFile) (held : HeldFile) (a b : Option (Entry HeldFile)) → SameStamp a b → a ≡ Some (File attributes held) → (other : HeldFile) × (b ≡ Some (File attributes other)) × (other.stamp ≡ held.stamp)
file_same attributes held a b same is = of_other b (sym (ap (option_map stamped_entry) is) ∙ same)
  where
    of_other : (b : Option (Entry HeldFile)) → Some (File attributes held.stamp) ≡ option_map stamped_entry b → (other : HeldFile) × (b ≡ Some (File attributes other)) × (other.stamp ≡ held.stamp)
    of_other None there = cc
    of_other (Some (Dir m)) there = cc
    of_other (Some (Opaque m)) there = cc
    of_other (Some (File m other)) there =
        let modes : attributes ≡ m = cc in
        let stamp : held.stamp ≡ other.stamp = cc in
        (other, ap (λ n. Some (File n other)) (sym modes), sym stamp)
    of_other (Some (Link owner target)) there = cc
    of_other (Some Hide) there = cc

module _ (old new : List (List ℕ) → Option (Entry HeldFile)) (same : (p : List (List ℕ)) → SameStamp (new p) (old p)) where
  each_item : (manifest : Manifest) (items : List Item)
      → AllByRecursion (λ item. IsTrue (is_prefix manifest.path item.path) × ((attributes : OfFile) × (held : HeldFile) × (old item.path ≡ Some (File attributes held)) × (held.stamp.digest ≡ item.digest))) items
      → AllByRecursion (λ item. IsTrue (is_prefix manifest.path item.path) × ((attributes : OfFile) × (held : HeldFile) × (new item.path ≡ Some (File attributes held)) × (held.stamp.digest ≡ item.digest))) items
  each_item manifest [] all = tt
  each_item manifest (item ∷ items) all =
      let one = all.0.1 in
      let there = file_same one.0 one.1 (old item.path) (new item.path) (sym (same item.path)) one.2 in
      ((all.0.0, (one.0, there.0, there.1, ap (λ (s : Stamp). s.digest) there.2 ∙ one.3)), each_item manifest items all.1)

  items_same : (manifest : Manifest) → HasItems old manifest → HasItems new manifest
  items_same manifest items = record {
    each = each_item manifest manifest.items items.each;
    whole = λ path attributes held below is.
        let there = file_same attributes held (new path) (old path) (same path) is in
        subst (λ digest. Contains manifest.items (record { path = path; digest = digest })) (ap (λ (s : Stamp). s.digest) there.2) (items.whole path attributes there.0 below there.1);
  }

  all_items_same : (manifests : List Manifest) → AllByRecursion (HasItems old) manifests → AllByRecursion (HasItems new) manifests
  all_items_same [] all = tt
  all_items_same (manifest ∷ manifests) all = (items_same manifest all.0, all_items_same manifests all.1)

-- a valid host with other trees of the same stamps
valid_same : (host : Host) (root lower : Entries HeldFile) → stamps root ≡ stamps host.root → stamps lower ≡ stamps host.lower → IsValidHost host → IsValidHost (record host { root = root; lower = lower })
valid_same host root lower one two valid =
    let tree = valid.present in
    record {
      scope = valid.scope;
      hierarchies = valid.hierarchies;
      present = record {
        lower = λ path there. tree.lower path (sym (some_same (lookup lower path) (lookup host.lower path) (lookup_same lower host.lower path two)) ∙ there);
        limits = record {
          root = range_same root host.root one tree.limits.root;
          lower = range_same lower host.lower two tree.limits.lower;
          entries = omega (arith, tree.limits.entries, count_same root host.root one, count_same lower host.lower two);
          bytes = omega (arith, tree.limits.bytes, total_same root host.root one, total_same lower host.lower two);
        };
        sysext = tree.sysext;
        confext = tree.confext;
        attached = tree.attached;
        kept = record {
          each = tree.kept.each;
          order = tree.kept.order;
          apart = tree.kept.apart;
          items = all_items_same (base_at (hierarchies_in host) (present host)) (base_at (hierarchies_in host) (present (record host { root = root; lower = lower })))
              (λ p. base_same host root lower p one two) host.kept tree.kept.items;
        };
      };
      past = valid.past;
      past_count = valid.past_count;
      past_order = valid.past_order;
    }

-- a valid host stays valid where its files are given homes
pub placed_valid : (old : Stored) (depot : DepotState) (n : ℕ) (host new : Host) (written : List (List ℕ)) → IsHostPlaced old depot n host new written → IsValidHost host → IsValidHost new
placed_valid old depot n host new written (root, lower, (first, rest, one, two, parts), is) valid =
    subst IsValidHost (sym is) (valid_same host root lower (placed_stamps old depot n host.root 0 root first one) (placed_stamps old depot n host.lower (0 + length first) lower rest two) valid)
