-- A valid host is valid whichever homes its files have.
use Rattle.std.proofs.Common.{◌≡◌, ℕ, ◌+◌, true, false, cond, List, [], ◌∷◌, length, Option, Some, None, refl, sym, ap, ◌∙◌, subst, arith}
use Rattle.std.specs.Prelude.{IsTrue}
use Rattle.std.specs.List.{AllByRecursion}
use Rattle.std.specs.Option.{is_some}
use Rattle.std.specs.Ordering.{eq_by_cmp}
use Rattle.std.proofs.lemmas.Bool.{false≢true}
use Rattle.std.proofs.lemmas.List.Sums.{sum_by-cons}
use Rattle.ext_attributes.specs.Attributes.{OfFile}
use Rattle.ext_text.specs.Path.{is_prefix, path_cmp}
use Rattle.ext_tree.specs.EntryLine.{IsWritable}
use Rattle.ext_tree.specs.Tree.{Entries, lookup}
use Rattle.ext_tree.specs.declared.entry.Entry.{Entry}
use Rattle.ext_tree.specs.declared.entry.Entry.TheVariants.{Dir, Opaque, File, Link, Hide}
use Rattle.ext_host.specs.Held.{HeldFile}
use Rattle.ext_host.specs.Host.{Hierarchies, HostTree, base_at, hierarchies_in, is_in, merged_hierarchies, present}
use Rattle.ext_host.specs.Valid.{AreInRange, HasItems, IsValidHost, all_bytes, bytes_of, held_form}
use Rattle.ext_host.specs.declared.host.Host.{Host}
use Rattle.ext_host.specs.declared.manifest.Manifest.{Manifest}
use Rattle.ext_gen.proofs.PreparingIndexLemmas.{EntryNoLonger, AreNoLonger}

-- nothing stands in either, or entries of one kind, and files with one stamp
abbrev pub OptionAlike : ℕ → ℕ → Option (Entry HeldFile) → Option (Entry HeldFile) → Type 0
OptionAlike n m None o = o ≡ None
OptionAlike n m (Some e) o = (f : Entry HeldFile) × (o ≡ Some f) × EntryNoLonger n m e f

lookup_alike : (n m : ℕ) (fs es : Entries HeldFile) (p : List (List ℕ)) → AreNoLonger n m fs es → OptionAlike n m (lookup fs p) (lookup es p)
lookup_alike n m [] es p alike = ap (λ l. lookup l p) alike
lookup_alike n m (x ∷ fs) es p (f, rest, same, one, more) =
    let there = lookup_alike n m fs rest p more in
    subst (λ l. OptionAlike n m (lookup (x ∷ fs) p) (lookup l p)) (sym same)
    (elim (eq_by_cmp path_cmp p x.0) as (λ b. OptionAlike n m (cond b (Some x.1) (lookup fs p)) (cond b (Some f) (lookup rest p))) [
      | true ↦ (f, refl, one)
      | false ↦ there
    ])

base_alike : (n m : ℕ) (hierarchies : Hierarchies) (tree : HostTree) (root lower : Entries HeldFile) (p : List (List ℕ)) → AreNoLonger n m root tree.root → AreNoLonger n m lower tree.lower
    → OptionAlike n m (base_at hierarchies (record tree { root = root; lower = lower }) p) (base_at hierarchies tree p)
base_alike n m hierarchies tree root lower p one two =
    elim (is_in (merged_hierarchies hierarchies tree) p) as (λ b. OptionAlike n m (cond b (lookup lower p) (lookup root p)) (cond b (lookup tree.lower p) (lookup tree.root p))) [
      | true ↦ lookup_alike n m lower tree.lower p two
      | false ↦ lookup_alike n m root tree.root p one
    ]

none_is : {X : Type 0} (x : X) → None ≡ Some x → ⊥
none_is x same = false≢true (ap is_some same)

some_is : {X : Type 0} (x y : X) → Some x ≡ Some y → x ≡ y
some_is x y same = cc

alike_some : (n m : ℕ) (x y : Option (Entry HeldFile)) → OptionAlike n m x y → is_some x ≡ is_some y
alike_some n m None y alike = sym (ap is_some alike)
alike_some n m (Some e) y alike = sym (ap is_some alike.1)

-- a file of the one, as that of the other
file_forth : (n m : ℕ) (attributes : OfFile) (a : HeldFile) (x y : Option (Entry HeldFile)) → OptionAlike n m x y → x ≡ Some (File attributes a) → (b : HeldFile) × (y ≡ Some (File attributes b)) × (a.stamp ≡ b.stamp)
file_forth n m attributes a None y alike is = absurd (none_is (File attributes a) is)
file_forth n m attributes a (Some e) y alike is =
    let here : EntryNoLonger n m (File attributes a) alike.0 = subst (λ z. EntryNoLonger n m z alike.0) (some_is e (File attributes a) is) alike.2 in
    (here.0, alike.1 ∙ ap Some here.1, here.2.stamp)

file_back : (n m : ℕ) (attributes : OfFile) (b : HeldFile) (x y : Option (Entry HeldFile)) → OptionAlike n m x y → y ≡ Some (File attributes b) → (a : HeldFile) × (x ≡ Some (File attributes a)) × (a.stamp ≡ b.stamp)
file_back n m attributes b None y alike is = absurd (none_is (File attributes b) (sym alike ∙ is))
file_back n m attributes b (Some e) y alike is = of_kind e alike.0 alike.2 (some_is alike.0 (File attributes b) (sym alike.1 ∙ is))
  where
    in_file : Entry HeldFile → HeldFile
    in_file (Dir k) = b
    in_file (Opaque k) = b
    in_file (File k h) = h
    in_file (Link owner t) = b
    in_file Hide = b

    attributes_in : Entry HeldFile → OfFile
    attributes_in (Dir k) = attributes
    attributes_in (Opaque k) = attributes
    attributes_in (File k h) = k
    attributes_in (Link owner t) = attributes
    attributes_in Hide = attributes

    of_kind : (e f : Entry HeldFile) → EntryNoLonger n m e f → f ≡ File attributes b → (a : HeldFile) × (Some e ≡ Some (File attributes a)) × (a.stamp ≡ b.stamp)
    of_kind (Dir k) f same is = cc
    of_kind (Opaque k) f same is = cc
    of_kind (File k a) f (c, same, within) is =
        (a, ap (λ j. Some (File j a)) (ap attributes_in (sym same ∙ is)), within.stamp ∙ ap (λ (h : HeldFile). h.stamp) (ap in_file (sym same ∙ is)))
    of_kind (Link owner t) f same is = cc
    of_kind Hide f same is = cc

entry_in_range : (n m : ℕ) (e f : Entry HeldFile) → EntryNoLonger n m e f → IsWritable held_form f → IsWritable held_form e
entry_in_range n m (Dir k) f same range = subst (IsWritable held_form) same range
entry_in_range n m (Opaque k) f same range = subst (IsWritable held_form) same range
entry_in_range n m (File k a) f (b, same, within) range =
    let here : IsWritable held_form (File k b) = subst (IsWritable held_form) same range in
    (here.0, subst Rattle.ext_tree.specs.Fields.IsStamp (sym within.stamp) here.1)
entry_in_range n m (Link owner t) f same range = subst (IsWritable held_form) same range
entry_in_range n m Hide f same range = tt

tree_in_range : (n m : ℕ) (fs es : Entries HeldFile) → AreNoLonger n m fs es → AreInRange es → AreInRange fs
tree_in_range n m [] es alike range = tt
tree_in_range n m (x ∷ fs) es (f, rest, same, one, more) range =
    let here : AreInRange ((x.0, f) ∷ rest) = subst AreInRange same range in
    (entry_in_range n m x.1 f one here.0, tree_in_range n m fs rest more here.1)

entry_bytes : (n m : ℕ) (e f : Entry HeldFile) → EntryNoLonger n m e f → bytes_of e ≡ bytes_of f
entry_bytes n m (Dir k) f same = sym (ap bytes_of same)
entry_bytes n m (Opaque k) f same = sym (ap bytes_of same)
entry_bytes n m (File k a) f (b, same, within) = ap (λ (s : Rattle.ext_tree.specs.declared.stamp.Stamp.Stamp). s.size) within.stamp ∙ sym (ap bytes_of same)
entry_bytes n m (Link owner t) f same = sym (ap bytes_of same)
entry_bytes n m Hide f same = sym (ap bytes_of same)

tree_bytes : (n m : ℕ) (fs es : Entries HeldFile) → AreNoLonger n m fs es → all_bytes fs ≡ all_bytes es
tree_bytes n m [] es alike = sym (ap all_bytes alike)
tree_bytes n m (x ∷ fs) es (f, rest, same, one, more) =
    let here = entry_bytes n m x.1 f one in
    let there = tree_bytes n m fs rest more in
    let ours : all_bytes (x ∷ fs) ≡ bytes_of x.1 + all_bytes fs = sum_by-cons (λ (e : List (List ℕ) × Entry HeldFile). bytes_of e.1) x fs in
    let theirs : all_bytes ((x.0, f) ∷ rest) ≡ bytes_of f + all_bytes rest = sum_by-cons (λ (e : List (List ℕ) × Entry HeldFile). bytes_of e.1) (x.0, f) rest in
    omega (arith, here, there, ours, theirs, ap all_bytes same)

tree_count : (n m : ℕ) (fs es : Entries HeldFile) → AreNoLonger n m fs es → length fs ≡ length es
tree_count n m [] es alike = sym (ap length alike)
tree_count n m (x ∷ fs) es (f, rest, same, one, more) = omega (arith, tree_count n m fs rest more, ap length same)

each_items : (n m : ℕ) (base other : List (List ℕ) → Option (Entry HeldFile)) (manifest : Manifest) → ((p : List (List ℕ)) → OptionAlike n m (base p) (other p)) → HasItems other manifest
    → HasItems base manifest
each_items n m base other manifest alike items = record {
  each = each_of manifest.items items.each;
  whole = λ path attributes held below is.
      let there = file_forth n m attributes held (base path) (other path) (alike path) is in
      subst (λ d. Rattle.std.specs.List.Contains manifest.items (record { path = path; digest = d })) (ap (λ (s : Rattle.ext_tree.specs.declared.stamp.Stamp.Stamp). s.digest) (sym there.2))
      (items.whole path attributes there.0 below there.1);
}
  where
    each_of : (xs : List Rattle.ext_host.specs.declared.manifest.Item.Item)
        → AllByRecursion (λ item. IsTrue (is_prefix manifest.path item.path) × ((attributes : OfFile) × (held : HeldFile) × (other item.path ≡ Some (File attributes held)) × (held.stamp.digest ≡ item.digest))) xs
        → AllByRecursion (λ item. IsTrue (is_prefix manifest.path item.path) × ((attributes : OfFile) × (held : HeldFile) × (base item.path ≡ Some (File attributes held)) × (held.stamp.digest ≡ item.digest))) xs
    each_of [] all = tt
    each_of (item ∷ xs) all =
        let one = all.0.1 in
        let there = file_back n m one.0 one.1 (base item.path) (other item.path) (alike item.path) one.2 in
        ((all.0.0, (one.0, there.0, there.1, ap (λ (s : Rattle.ext_tree.specs.declared.stamp.Stamp.Stamp). s.digest) there.2 ∙ one.3)), each_of xs all.1)

all_items : (n m : ℕ) (base other : List (List ℕ) → Option (Entry HeldFile)) (kept : List Manifest) → ((p : List (List ℕ)) → OptionAlike n m (base p) (other p)) → AllByRecursion (HasItems other) kept
    → AllByRecursion (HasItems base) kept
all_items n m base other [] alike all = tt
all_items n m base other (manifest ∷ kept) alike all = (each_items n m base other manifest alike all.0, all_items n m base other kept alike all.1)

-- a valid host with other homes, and the same stamps, is valid
pub placed_is_valid : (n m : ℕ) (host : Host) (root lower : Entries HeldFile) → AreNoLonger n m root host.root → AreNoLonger n m lower host.lower → IsValidHost host
    → IsValidHost (record host { root = root; lower = lower })
placed_is_valid n m host root lower one two valid =
    let tree = valid.present in
    record {
      scope = valid.scope;
      hierarchies = valid.hierarchies;
      present = record {
        lower = λ path there. tree.lower path (sym (alike_some n m (lookup lower path) (lookup host.lower path) (lookup_alike n m lower host.lower path two)) ∙ there);
        limits = record {
          root = tree_in_range n m root host.root one tree.limits.root;
          lower = tree_in_range n m lower host.lower two tree.limits.lower;
          entries = omega (arith, tree.limits.entries, tree_count n m root host.root one, tree_count n m lower host.lower two);
          bytes = omega (arith, tree.limits.bytes, tree_bytes n m root host.root one, tree_bytes n m lower host.lower two);
        };
        sysext = tree.sysext;
        confext = tree.confext;
        attached = tree.attached;
        kept = record {
          each = tree.kept.each;
          order = tree.kept.order;
          apart = tree.kept.apart;
          items = all_items n m (base_at (hierarchies_in host) (record (present host) { root = root; lower = lower })) (base_at (hierarchies_in host) (present host)) host.kept
              (λ p. base_alike n m (hierarchies_in host) (present host) root lower p one two) tree.kept.items;
        };
      };
      past = valid.past;
      past_count = valid.past_count;
      past_order = valid.past_order;
    }
