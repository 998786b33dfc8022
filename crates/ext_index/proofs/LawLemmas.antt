-- An index is that of one host, and none is faulty; faulty bytes are faulty at one line.
use Rattle.std.proofs.Common.{◌≡◌, ◌≢◌, ℕ, ◌≤◌, true, inl, inr, List, [], ◌∷◌, length, refl, sym, ap, ◌∙◌, subst, arith}
use Rattle.std.proofs.lemmas.Bool.{false≢true}
use Rattle.std.specs.Prelude.{IsTrue, Option, Some}
use Rattle.std.specs.List.{AllByRecursion}
use Rattle.ext_attributes.specs.Attributes.{OfFile}
use Rattle.ext_text.specs.Path.{is_prefix}
use Rattle.ext_text.proofs.ForCallers.{all_weaker}
use Rattle.ext_tree.specs.declared.entry.Entry.{Entry}
use Rattle.ext_tree.specs.declared.entry.Entry.TheVariants.{File}
use Rattle.ext_host.specs.Held.{HeldFile}
use Rattle.ext_host.specs.Host.{Hierarchies, HostTree, base_at, hierarchies_in, past_tree, present}
use Rattle.ext_host.specs.Valid.{HasItems, IsManifest, IsValidTree}
use Rattle.ext_host.specs.declared.host.Host.{Host}
use Rattle.ext_host.specs.declared.manifest.Item.{Item}
use Rattle.ext_host.specs.declared.manifest.Manifest.{Manifest}
use Rattle.ext_host.specs.declared.past.Past.{Past}
use Rattle.ext_index_lines.specs.declared.text_number.TextNumber.{TextNumber}
use Rattle.ext_index_reader.specs.Listed.{IsListedHost, IsListedTree}
use Rattle.ext_index_reader.specs.Reading.{IsSaid}
use Rattle.ext_index_reader.specs.declared.said.Said.{Said}
use Rattle.ext_index_reader.proofs.ForCallers.{listed_is_said, no_stop, one_said, one_stop}
use Rattle.ext_index.specs.Faulty.{AreRight, IsFaulty, IsRight, IsWrongAt}
use Rattle.ext_index.specs.ValidIndex.{GivesIndex, IsIndexOf, IsValidFor, text_number}
use Rattle.ext_index.proofs.WrongLineLemmas.{one_wrong_line, right_has_none}

-- what lies at or below a path that is not the root is not the root
below_some : (p q : List (List ℕ)) → p ≢ [] → is_prefix p q ≡ true → q ≢ []
below_some [] q some prefix = absurd (some refl)
below_some (n ∷ p) [] some prefix = absurd (false≢true prefix)
below_some (n ∷ p) (m ∷ q) some prefix = λ root. let zero : length (m ∷ q) ≡ 0 = ap length root in omega arith

abbrev IsBelowRoot : Item → Type 0
IsBelowRoot item = item.path ≢ []

-- so no item of a manifest that says what the base has is the root
items_some : (base : List (List ℕ) → Option (Entry HeldFile)) (kept : List Manifest) → AllByRecursion IsManifest kept → AllByRecursion (HasItems base) kept → AllByRecursion (λ (m : Manifest). AllByRecursion IsBelowRoot m.items) kept
items_some base [] each right = tt
items_some base (m ∷ kept) each right = (
  all_weaker (λ item. IsTrue (is_prefix m.path item.path) × ((attributes : OfFile) × (held : HeldFile) × (base item.path ≡ Some (File attributes held)) × (held.stamp.digest ≡ item.digest))) IsBelowRoot (λ item has. below_some m.path item.path each.0.path has.0) m.items right.0.each,
  items_some base kept each.1 right.1,
)

listed_tree : (h : Hierarchies) (tree : HostTree) → IsValidTree h tree → IsListedTree h tree
listed_tree h tree valid = record {
  lower = valid.lower;
  limits = valid.limits;
  sysext = valid.sysext;
  confext = valid.confext;
  attached = valid.attached;
  manifests = valid.kept.each;
  items = items_some (base_at h tree) tree.kept valid.kept.each valid.kept.items;
  order = valid.kept.order;
  apart = valid.kept.apart;
}

pasts_listed : (h : Hierarchies) (pasts : List Past) → AllByRecursion (λ past. IsValidTree h (past_tree past)) pasts → AllByRecursion (λ past. IsListedTree h (past_tree past)) pasts
pasts_listed h [] valid = tt
pasts_listed h (past ∷ pasts) valid = (listed_tree h (past_tree past) valid.0, pasts_listed h pasts valid.1)

pasts_right : (h : Hierarchies) (pasts : List Past) → AllByRecursion (λ past. IsValidTree h (past_tree past)) pasts → AllByRecursion (λ past. AreRight h (past_tree past)) pasts
pasts_right h [] valid = tt
pasts_right h (past ∷ pasts) valid = (valid.0.kept.items, pasts_right h pasts valid.1)

right_host : (g : ℕ) (host : Host) → IsValidFor g host → IsRight host
right_host g host valid = record { now = valid.valid.present.kept.items; past = pasts_right (hierarchies_in host) host.past valid.valid.past }

listed_host : (g : ℕ) (host : Host) → IsValidFor g host → IsListedHost g host
listed_host g host valid = record {
  scope = valid.valid.scope;
  hierarchies = valid.valid.hierarchies;
  now = listed_tree (hierarchies_in host) (present host) valid.valid.present;
  past = pasts_listed (hierarchies_in host) host.past valid.valid.past;
  past_count = valid.valid.past_count;
  past_order = valid.valid.past_order;
  past_before = valid.past;
  homes = record { kept = valid.kept; agree = valid.agree };
}

abbrev said_with : TextNumber → Host → Said
said_with number host = record { host = host; text = number }

index_says : (number : TextNumber) (g : ℕ) (host : Host) (bytes : List ℕ) → g ≤ 4294967295 → IsIndexOf number g host bytes → IsSaid g bytes (said_with number host)
index_says number g host bytes last index =
    let fits = index.fits in
    listed_is_said g bytes (said_with number host) last (omega arith) (record { formed = index.formed; listed = listed_host g host index.valid; told = index.told; text_1 = index.text_1; text = index.text })

-- bytes are the index of one host
pub one_host : (g : ℕ) (bytes : List ℕ) (a b : Host × ℕ) → g ≤ 4294967295 → GivesIndex g bytes a → GivesIndex g bytes b → a ≡ b
one_host g bytes a b last one other =
    let same = one_said g bytes (said_with one.0 a.0) (said_with other.0 b.0) last (index_says one.0 g a.0 bytes last one.2) (index_says other.0 g b.0 bytes last other.2) in
    λ i. ((same i).host, (one.1 ∙ (λ j. text_number (same j).text) ∙ sym other.1) i)

-- they are no index
pub faulty_is_none : (g : ℕ) (bytes : List ℕ) (line : ℕ) (a : Host × ℕ) → g ≤ 4294967295 → IsFaulty g bytes line → ¬ GivesIndex g bytes a
faulty_is_none g bytes line a last (inl (long, _)) gives = let fits = gives.2.fits in omega arith
faulty_is_none g bytes line a last (inr (_, inl stop)) gives = no_stop g bytes _ line last (index_says gives.0 g a.0 bytes last gives.2).through stop
faulty_is_none g bytes line a last (inr (_, inr wrong)) gives =
    let same = one_said g bytes wrong.said (said_with gives.0 a.0) last wrong.is_said (index_says gives.0 g a.0 bytes last gives.2) in
    right_has_none gives.0 g a.0 line (right_host g a.0 gives.2.valid) (subst (λ (s : Said). IsWrongAt s.text g s.host line) same wrong.wrong)

-- and are faulty at one line
pub one_faulty_line : (g : ℕ) (bytes : List ℕ) (k l : ℕ) → g ≤ 4294967295 → IsFaulty g bytes k → IsFaulty g bytes l → k ≡ l
one_faulty_line g bytes k l last (inl (_, one)) (inl (_, other)) = one ∙ sym other
one_faulty_line g bytes k l last (inl (long, _)) (inr (fits, _)) = absurd (omega arith)
one_faulty_line g bytes k l last (inr (fits, _)) (inl (long, _)) = absurd (omega arith)
one_faulty_line g bytes k l last (inr (_, inl one)) (inr (_, inl other)) = one_stop g bytes k l last one other
one_faulty_line g bytes k l last (inr (_, inl one)) (inr (_, inr other)) = absurd (no_stop g bytes _ k last other.is_said.through one)
one_faulty_line g bytes k l last (inr (_, inr one)) (inr (_, inl other)) = absurd (no_stop g bytes _ l last one.is_said.through other)
one_faulty_line g bytes k l last (inr (_, inr one)) (inr (_, inr other)) =
    let same = one_said g bytes one.said other.said last one.is_said other.is_said in
    one_wrong_line other.said.text g other.said.host k l (subst (λ (s : Said). IsWrongAt s.text g s.host k) same one.wrong) other.wrong
