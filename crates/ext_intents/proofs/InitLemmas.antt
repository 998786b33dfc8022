-- The host of `init` is valid, and keeps no file.
use Rattle.std.proofs.Common.{◌≡◌, ℕ, zero, suc, ◌<◌, ◌≤◌, Bool, true, false, List, [], ◌∷◌, length, Some, None, refl, sym, ap, ◌∙◌, subst, arith}
use Rattle.std.specs.Prelude.{◌≢◌, Contains, IfSome, codes, get_or, is_some, map}
use Rattle.std.specs.List.{AllByRecursion, AllPairs, IsDistinct, flat_map}
use Rattle.std.specs.List.Sorted.{IsSorted}
use Rattle.std.specs.Ordering.{eq_by_cmp, is_eq, is_lt, nat_cmp, ordering_reverse}
use Rattle.std.specs.declared.cmp.Ordering.{Ordering}
use Rattle.std.specs.declared.cmp.Ordering.TheVariants.{Less, Equal, Greater}
use Rattle.std.proofs.lemmas.Bool.{false≢true, true≢false}
use Rattle.std.proofs.lemmas.List.Elements.{All-from_recursion, recursion_from_All}
use Rattle.std.proofs.lemmas.List.MinMax.{ranks_by}
use Rattle.std.proofs.lemmas.List.Sorted.{All-permutation, Contains-permutation, IsPermutation-sym, length_permutation, sorted_far}
use Rattle.std.proofs.lemmas.Map.Keys.{IsDistinct-IsPermutation, IsDistinct-cons, IsDistinct-head, IsDistinct-tail}
use Rattle.ext_lines.specs.ByteOrder.{bytes_cmp, bytes_total}
use Rattle.ext_text.specs.declared.arch.Arch.{Arch}
use Rattle.ext_text.specs.declared.extension.Extension.TheVariants as extensions
use Rattle.ext_text.specs.declared.scope.Scope.{Scope}
use Rattle.ext_text.specs.declared.scope.Scope.TheVariants.{Portable}
use Rattle.ext_text.proofs.ForCallers.{same_name, tied_name}
use Rattle.ext_tree.specs.Tree.{Entries, lookup}
use Rattle.ext_tree.specs.declared.entry.Entry.TheVariants.{File}
use Rattle.ext_host.specs.Drawn.{IsFileOf}
use Rattle.ext_host.specs.Held.{HeldFile}
use Rattle.ext_host.specs.Host.{base_at, default_hierarchies, hierarchies_in, past_tree, present}
use Rattle.ext_host.specs.Valid as valid
use Rattle.ext_host.specs.Valid.{AreAscending, AreAttachments, AreInRange, AreManifests, AreMerged, AreOfClasses, IsValidHost, IsValidTree, all_bytes}
use Rattle.ext_host.specs.declared.past.Past.{Past}
use Rattle.ext_host.specs.declared.host.Host.{Host}
use Rattle.ext_cmd.specs.Words.{AreDisjoint, AreChosen, AreDistinct, IsHierarchyList, IsNone}
use Rattle.ext_cmd.specs.declared.command.Chosen.{Chosen}
use Rattle.ext_cmd.specs.declared.command.Chosen.TheVariants as chosen
use Rattle.ext_intents.specs.Init.{IsInOrder, IsNewHost, chosen_confext, chosen_sysext}
use Rattle.ext_intents.specs.Intents.{IsPlanned}

abbrev eq : List ℕ → List ℕ → Bool
eq = eq_by_cmp bytes_cmp

reversed_eq : (o : Ordering) → is_eq (ordering_reverse o) ≡ is_eq o
reversed_eq Less = refl
reversed_eq Equal = refl
reversed_eq Greater = refl

eq_flips : (a b : List ℕ) → eq a b ≡ eq b a
eq_flips a b = ap is_eq (bytes_total.antisymm a b) ∙ reversed_eq (bytes_cmp b a)

-- names that differ are no equal keys
is_false : (b : Bool) → (b ≡ true → ⊥) → b ≡ false
is_false true not = absurd (not refl)
is_false false not = refl

none_equal : (name : List ℕ) (names : List (List ℕ)) → IsNone name names → AllByRecursion (λ other. eq name other ≡ false) names
none_equal name [] none = tt
none_equal name (other ∷ names) none = (is_false (eq name other) (λ is. none.0 (same_name name other is)), none_equal name names none.1)

distinct : (names : List (List ℕ)) → AreDistinct names → IsDistinct eq names
unfolding IsDistinct
distinct [] are = tt
distinct (name ∷ names) are = IsDistinct-cons eq name names (none_equal name names are.0) (distinct names are.1)

-- neither after nor equal is before
reversed_less : (o : Ordering) → is_lt o ≡ false → is_eq o ≡ false → ordering_reverse o ≡ Less
reversed_less Less low apart = absurd (true≢false low)
reversed_less Equal low apart = absurd (true≢false apart)
reversed_less Greater low apart = refl

before : (a b : List ℕ) → is_lt (bytes_cmp b a) ≡ false → eq a b ≡ false → bytes_cmp a b ≡ Less
before a b low apart = bytes_total.antisymm a b ∙ reversed_less (bytes_cmp b a) low (sym (eq_flips a b) ∙ apart)

all_before : (a : List ℕ) (names : List (List ℕ)) → AllByRecursion (λ b. is_lt (bytes_cmp b a) ≡ false) names → AllByRecursion (λ b. eq a b ≡ false) names → AllByRecursion (λ b. bytes_cmp a b ≡ Less) names
all_before a [] low apart = tt
all_before a (b ∷ names) low apart = (before a b low.0 apart.0, all_before a names low.1 apart.1)

ascending : (names : List (List ℕ)) → AllPairs (λ a b. is_lt (bytes_cmp b a) ≡ false) names → IsDistinct eq names → AreAscending bytes_cmp names
ascending [] far apart = tt
ascending (a ∷ names) far apart = (
  all_before a names (recursion_from_All (λ b. is_lt (bytes_cmp b a) ≡ false) names (λ j d inside. far zero (suc j) d (omega arith) (omega arith))) (IsDistinct-head eq a names apart),
  ascending names (λ i j d below inside. far (suc i) (suc j) d (omega arith) (omega arith)) (IsDistinct-tail eq a names apart),
)

pub far_apart : (names : List (List ℕ)) → IsSorted bytes_cmp names → AllPairs (λ a b. is_lt (bytes_cmp b a) ≡ false) names
far_apart names order = λ i j d below inside. sorted_far _ (ranks_by bytes_total (λ name. name)) names order i j d (omega arith) inside

hierarchies_in_order : (names ordered : List (List ℕ)) → 0 < length names → length names ≤ 16 → IsDistinct eq names → IsInOrder names ordered → valid.AreHierarchies ordered
hierarchies_in_order names ordered some few apart is =
    let long = length_permutation names ordered is.same in
    record {
      non_empty = omega arith;
      at_most_16 = omega arith;
      order = ascending ordered (far_apart ordered is.order) (IsDistinct-IsPermutation eq eq_flips names ordered is.same apart);
    }

listed_in_order : (names ordered : List (List ℕ)) → IsHierarchyList names → IsInOrder names ordered → valid.AreHierarchies ordered
listed_in_order names ordered are is = hierarchies_in_order names ordered are.non_empty are.at_most_16 (distinct names are.distinct) is

abbrev opt : List ℕ
opt = codes "opt"

abbrev usr : List ℕ
usr = codes "usr"

abbrev etc : List ℕ
etc = codes "etc"

differ : (a b : List ℕ) → eq a b ≡ false → a ≢ b
differ a b apart is = true≢false (sym (tied_name a b is) ∙ apart)

sysext_default : (ordered : List (List ℕ)) → IsInOrder (default_hierarchies extensions.Sysext) ordered → valid.AreHierarchies ordered
unfolding IsDistinct
sysext_default ordered is = hierarchies_in_order (opt ∷ usr ∷ []) ordered (omega arith) (omega arith) (IsDistinct-cons eq opt (usr ∷ []) (refl, tt) (IsDistinct-cons eq usr [] tt tt)) is

confext_default : (ordered : List (List ℕ)) → IsInOrder (default_hierarchies extensions.Confext) ordered → valid.AreHierarchies ordered
unfolding IsDistinct
confext_default ordered is = hierarchies_in_order (etc ∷ []) ordered (omega arith) (omega arith) (IsDistinct-cons eq etc [] tt tt) is

defaults_apart : AreDisjoint (default_hierarchies extensions.Sysext) (default_hierarchies extensions.Confext)
defaults_apart = ((differ opt etc refl, tt), ((differ usr etc refl, tt), tt))

-- what is none of some names is none of them in order
none_of : (name : List ℕ) (names : List (List ℕ)) → IsNone name names → ¬ Contains names name
none_of name [] none (k, lt, is) = absurd (omega arith)
none_of name (other ∷ names) none (zero, lt, is) = none.0 (sym is)
none_of name (other ∷ names) none (suc k, lt, is) = none_of name names none.1 (k, omega arith, is)

all_apart : (names others : List (List ℕ)) → AreDisjoint names others → AllByRecursion (λ name. ¬ Contains others name) names
all_apart [] others apart = tt
all_apart (name ∷ names) others apart = (none_of name others apart.0, all_apart names others apart.1)

apart_in_order : (names others ordered_names ordered_others : List (List ℕ)) → AreDisjoint names others → IsInOrder names ordered_names → IsInOrder others ordered_others
    → AllByRecursion (λ name. ¬ Contains ordered_others name) ordered_names
apart_in_order names others ordered_names ordered_others apart first second =
    let none = all_apart names others apart in
    let moved = All-permutation (λ name. ¬ Contains others name) names ordered_names first.same (All-from_recursion (λ name. ¬ Contains others name) names none) in
    recursion_from_All (λ name. ¬ Contains ordered_others name) ordered_names (λ j d inside has. moved j d inside (Contains-permutation ordered_others others (get_or ordered_names j d) (IsPermutation-sym others ordered_others second.same) has))

classes_in_order : (hierarchies : Chosen) (sysext confext : List (List ℕ)) → AreChosen hierarchies → IsInOrder (chosen_sysext hierarchies) sysext → IsInOrder (chosen_confext hierarchies) confext
    → AreOfClasses (record { sysext = sysext; confext = confext })
classes_in_order chosen.Default sysext confext are first second = record {
  sysext = sysext_default sysext first;
  confext = confext_default confext second;
  apart = apart_in_order (default_hierarchies extensions.Sysext) (default_hierarchies extensions.Confext) sysext confext defaults_apart first second;
}
classes_in_order (chosen.Sysext names) sysext confext are first second = record {
  sysext = listed_in_order names sysext are.0 first;
  confext = confext_default confext second;
  apart = apart_in_order names (default_hierarchies extensions.Confext) sysext confext are.1 first second;
}
classes_in_order (chosen.Both names others) sysext confext (named, listed, apart) first second = record {
  sysext = listed_in_order names sysext named first;
  confext = listed_in_order others confext listed second;
  apart = apart_in_order names others sysext confext apart first second;
}

in_new : (arch : Arch) (scope : Scope) (hierarchies : Chosen) (host : Host) → AreChosen hierarchies → IsNewHost arch scope hierarchies host → IsValidTree (hierarchies_in host) (present host)
in_new arch scope hierarchies host are is =
    let root = ap length is.root in
    let lower = ap length is.lower in
    let root_bytes = ap all_bytes is.root in
    let lower_bytes = ap all_bytes is.lower in
    record {
      lower = λ path there. absurd (false≢true (subst (λ es. is_some (lookup es path) ≡ true) is.lower there));
      limits = record {
        root = subst AreInRange (sym is.root) tt;
        lower = subst AreInRange (sym is.lower) tt;
        entries = omega arith;
        bytes = omega arith;
      };
      sysext = subst (λ names. IfSome names AreMerged) (sym is.sysext) tt;
      confext = subst (λ names. IfSome names AreMerged) (sym is.confext) tt;
      attached = subst AreAttachments (sym is.attached) (record { each = tt; order = tt });
      kept = subst (AreManifests (base_at (hierarchies_in host) (present host))) (sym is.kept) (record { each = tt; order = tt; apart = tt; items = tt });
    }

new_is_valid : (arch : Arch) (scope : Scope) (hierarchies : Chosen) (host : Host) → scope ≢ Portable → AreChosen hierarchies → IsNewHost arch scope hierarchies host → IsValidHost host
new_is_valid arch scope hierarchies host kind are is =
    let past = ap length is.past in
    record {
      scope = λ portable. kind (sym is.scope_is ∙ portable);
      hierarchies = classes_in_order hierarchies host.sysext_hier host.confext_hier are is.sysext_hier is.confext_hier;
      present = in_new arch scope hierarchies host are is;
      past = subst (AllByRecursion (λ past. IsValidTree (hierarchies_in host) (past_tree past))) (sym is.past) tt;
      past_count = omega arith;
      past_order = subst (λ pasts. AreAscending nat_cmp (map (λ past. past.generation) pasts)) (sym is.past) tt;
    }

-- it has no file
no_tree : (tree : Entries HeldFile) → Contains ([] ∷ [] ∷ []) tree → tree ≡ []
no_tree tree (zero, lt, is) = sym is
no_tree tree (suc zero, lt, is) = sym is
no_tree tree (suc (suc k), lt, is) = absurd (omega arith)

no_file : (held : HeldFile) → ¬ IsFileOf ([] ∷ [] ∷ []) held
no_file held file =
    let there = subst (λ es. lookup es file.file.path ≡ Some (File file.file.attributes held)) (no_tree file.tree file.among) file.file.stands in
    false≢true (ap is_some there)

trees_of_parts : (root lower : Entries HeldFile) (past : List Past) → root ≡ [] → lower ≡ [] → past ≡ [] → root ∷ lower ∷ flat_map (λ (p : Past). p.root ∷ p.lower ∷ []) past ≡ [] ∷ [] ∷ []
trees_of_parts root lower past r l p = ap (λ es. es ∷ lower ∷ flat_map (λ (p : Past). p.root ∷ p.lower ∷ []) past) r ∙ (ap (λ es. [] ∷ es ∷ flat_map (λ (p : Past). p.root ∷ p.lower ∷ []) past) l ∙ ap (λ ps. [] ∷ [] ∷ flat_map (λ (p : Past). p.root ∷ p.lower ∷ []) ps) p)

pub new_is_planned : (coming : ℕ) (arch : Arch) (scope : Scope) (hierarchies : Chosen) (host : Host) → scope ≢ Portable → AreChosen hierarchies → IsNewHost arch scope hierarchies host → IsPlanned coming None host
new_is_planned coming arch scope hierarchies host kind are is = record {
  valid = new_is_valid arch scope hierarchies host kind are is;
  drawn = λ held home kept file. absurd (no_file held (subst (λ trees. IsFileOf trees held) (trees_of_parts host.root host.lower host.past is.root is.lower is.past) file));
  past = is.past;
}
