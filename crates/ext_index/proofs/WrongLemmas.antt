-- Which tree the base is around a manifest's path, and what a search among manifests has found.
use Rattle.std.proofs.Common.{◌≡◌, ◌≢◌, ℕ, suc, ◌+◌, ◌<◌, true, false, List, [], ◌∷◌, ◌++◌, length, take, drop, get_or, length-append, Option, Some, refl, sym, ap, ◌∙◌, subst, arith}
use mathlib.Core.Logic.{inl, inr}
use Rattle.std.specs.Prelude.{◌↔◌, IsTrue, if◌then◌else◌}
use Rattle.std.specs.List.{AllByRecursion}
use Rattle.std.proofs.lemmas.Bool.{and_parts, false≢true}
use Rattle.ext_attributes.specs.Attributes.{OfFile}
use Rattle.ext_text.specs.Path.{is_prefix}
use Rattle.ext_text.proofs.ForCallers.{all_weaker, same_name}
use Rattle.ext_tree.specs.Tree.{Entries, lookup}
use Rattle.ext_tree.specs.declared.entry.Entry.{Entry}
use Rattle.ext_tree.specs.declared.entry.Entry.TheVariants.{File}
use Rattle.ext_host.specs.Held.{HeldFile}
use Rattle.ext_host.specs.Host.{Hierarchies, HostTree, base_at, hierarchies_in, is_in, merged_hierarchies, past_tree, present}
use Rattle.ext_host.specs.Valid.{HasItems, IsManifest}
use Rattle.ext_host.specs.declared.manifest.Item.{Item}
use Rattle.ext_host.specs.declared.manifest.Manifest.{Manifest}
use Rattle.ext_host.specs.declared.past.Past.{Past}
use Rattle.ext_host.specs.declared.host.Host.{Host}
use Rattle.ext_host.proofs.ForCallers.{in_first}
use Rattle.ext_index_lines.specs.Out.{at_most_64_bits}
use Rattle.ext_index_lines.specs.declared.text_number.TextNumber.{TextNumber}
use Rattle.ext_index.specs.Faulty.{AreRight, IsFirstWrong, IsWrongAt, head_lines, lines_to_kept, lines_to_past}
use Rattle.ext_index.proofs.ItemsLemmas.{parted_at}

-- a path below the root and what lies below it are in the same names
in_same : (names : List (List ℕ)) (p q : List (List ℕ)) → p ≢ [] → is_prefix p q ≡ true → is_in names q ≡ is_in names p
in_same names [] q some prefix = absurd (some refl)
in_same names (n ∷ p) [] some prefix = absurd (false≢true prefix)
in_same names (n ∷ p) (m ∷ q) some prefix = in_first names m n q p (sym (same_name n m (and_parts _ _ prefix).0))

-- an item says what a base has
abbrev Says : (List (List ℕ) → Option (Entry HeldFile)) → Manifest → Item → Type 0
Says base m item = IsTrue (is_prefix m.path item.path) × ((attributes : OfFile) × (held : HeldFile) × (base item.path ≡ Some (File attributes held)) × (held.stamp.digest ≡ item.digest))

-- a manifest says of two bases the same, where they have the same at and below its path
same_said : (a b : List (List ℕ) → Option (Entry HeldFile)) (m : Manifest) → ((q : List (List ℕ)) → is_prefix m.path q ≡ true → a q ≡ b q) → HasItems a m → HasItems b m
same_said a b m same has = record {
  each = all_weaker (Says a m) (Says b m) (λ item h. (h.0, (h.1.0, h.1.1, sym (same item.path h.0) ∙ h.1.2, h.1.3))) m.items has.each;
  whole = λ q attributes held prefix found. has.whole q attributes held prefix (same q prefix ∙ found);
}

-- the base around a manifest's path is one tree
pub said_by_one : (hierarchies : Hierarchies) (tree : HostTree) (m : Manifest) (es : Entries HeldFile) → IsManifest m
    → es ≡ (if is_in (merged_hierarchies hierarchies tree) m.path then tree.lower else tree.root) → HasItems (lookup es) m ↔ HasItems (base_at hierarchies tree) m
said_by_one hierarchies tree m es manifest is =
    let names = merged_hierarchies hierarchies tree in
    let same : (q : List (List ℕ)) → is_prefix m.path q ≡ true → lookup es q ≡ base_at hierarchies tree q
    = λ q prefix. ap (λ xs. lookup xs q) is
    ∙ elim (is_in names m.path) as (λ b. lookup (if b then tree.lower else tree.root) q ≡ (if b then lookup tree.lower q else lookup tree.root q)) [ true ↦ refl | false ↦ refl ]
    ∙ ap (λ b. if b then lookup tree.lower q else lookup tree.root q) (sym (in_same names m.path q manifest.path prefix)) in
    (same_said (lookup es) (base_at hierarchies tree) m same, same_said (base_at hierarchies tree) (lookup es) m (λ q prefix. sym (same q prefix)))

-- the first manifest that says other than the base has
pub first_wrong_at : (hierarchies : Hierarchies) (tree : HostTree) (kept : List Manifest) (n : ℕ) (m : Manifest) → kept ≡ tree.kept → n < length kept → m ≡ get_or kept n m
    → AllByRecursion (HasItems (base_at hierarchies tree)) (take n tree.kept) → ¬ HasItems (base_at hierarchies tree) m
    → (n < length tree.kept) × IsFirstWrong hierarchies tree (take n tree.kept)
first_wrong_at hierarchies tree kept n m same within at right differs = (
  subst (λ ms. n < length ms) same within,
  record {
    wrong = m;
    after = drop (suc n) tree.kept;
    parted = subst (λ ms. ms ≡ take n ms ++ m ∷ drop (suc n) ms) same (parted_at kept n m within at);
    right = right;
    differs = differs;
  },
)

-- two counts and one line more
two_counts : (x y z a b s t : ℕ) → z ≡ x + y → a ≡ at_most_64_bits x → b ≡ at_most_64_bits y → s ≡ at_most_64_bits (a + b) → t ≡ at_most_64_bits (s + 1) → t ≡ at_most_64_bits (z + 1)
two_counts x y z a b s t whole one number three four = grind (arith)

-- its line, where it is the host's own
pub wrong_now : (number : TextNumber) (g : ℕ) (host : Host) (tree : HostTree) (before : List Manifest) (n a b s t : ℕ) → tree ≡ present host
    → IsFirstWrong (hierarchies_in host) tree (take n tree.kept) → before ≡ take n host.kept
    → a ≡ at_most_64_bits (length (head_lines number host)) → b ≡ at_most_64_bits (length (lines_to_kept tree before)) → s ≡ at_most_64_bits (a + b) → t ≡ at_most_64_bits (s + 1)
    → (line : ℕ) × IsWrongAt number g host line × (t ≡ at_most_64_bits line)
wrong_now number g host tree before n a b s t same wrong parted head kept sum more =
    let lines = lines_to_kept (present host) (take n host.kept) in (
      length (head_lines number host ++ lines) + 1,
      inl (record { before = take n host.kept; wrong = subst (λ x. IsFirstWrong (hierarchies_in host) x (take n x.kept)) same wrong; counted = refl }),
      two_counts (length (head_lines number host)) (length lines) (length (head_lines number host ++ lines)) a b s t
          (length-append (head_lines number host) lines) head (kept ∙ (λ i. at_most_64_bits (length (lines_to_kept (same i) (parted i))))) sum more,
    )

-- and where it is one of a past tree
pub wrong_past : (number : TextNumber) (g : ℕ) (host : Host) (tree : HostTree) (past : Past) (pasts trees : List Past) (at n t : ℕ) → pasts ≡ host.past → at < length pasts → past ≡ get_or pasts at past → trees ≡ take at pasts
    → AreRight (hierarchies_in host) (present host) → AllByRecursion (λ p. AreRight (hierarchies_in host) (past_tree p)) (take at host.past)
    → tree ≡ past_tree past → IsFirstWrong (hierarchies_in host) tree (take n tree.kept)
    → t ≡ at_most_64_bits (length (lines_to_past number g host trees past ++ lines_to_kept (past_tree past) (take n past.kept)) + 1)
    → (line : ℕ) × IsWrongAt number g host line × (t ≡ at_most_64_bits line)
wrong_past number g host tree past pasts trees at n t same within is parted now right of_past wrong counted = (
  length (lines_to_past number g host trees past ++ lines_to_kept (past_tree past) (take n past.kept)) + 1,
  inr (record {
    now = now;
    trees = trees;
    tree = past;
    more = drop (suc at) host.past;
    parted = sym same ∙ parted_at pasts at past within is ∙ (λ i. sym parted i ++ past ∷ drop (suc at) (same i));
    right = subst (AllByRecursion (λ p. AreRight (hierarchies_in host) (past_tree p))) (sym (parted ∙ ap (take at) same)) right;
    before = take n past.kept;
    wrong = subst (λ x. IsFirstWrong (hierarchies_in host) x (take n x.kept)) of_past wrong;
    counted = refl;
  }),
  counted,
)
