-- Hosts with another view: their base, that they are valid, and where their files come from.
use Rattle.std.proofs.Common.{◌≡◌, ℕ, zero, suc, ◌+◌, ◌≤◌, Bool, true, false, cond, ◌&&◌, ◌||◌, List, [], ◌∷◌, length, Option, Some, None, is_some, refl, sym, ap, ◌∙◌, subst, arith}
use Rattle.std.specs.Prelude.{◌⊎◌, Contains, IfSome}
use mathlib.Core.Logic.{inl, inr}
use Rattle.std.proofs.lemmas.Bool.{false≢true, true≢false}
use Rattle.std.proofs.lemmas.List.Folds.{list_any-append}
use Rattle.std.specs.List.{AllByRecursion, flat_map}
use Rattle.std.specs.Ordering.{eq_by_cmp}
use Rattle.ext_attributes.specs.Attributes.{OfFile}
use Rattle.ext_lines.specs.ByteOrder.{bytes_cmp}
use Rattle.ext_text.specs.Path.{is_prefix}
use Rattle.ext_text.specs.declared.extension.Extension.{Extension}
use Rattle.ext_text.specs.declared.extension.Extension.TheVariants.{Sysext, Confext}
use Rattle.ext_text.proofs.ForCallers.{same_name}
use Rattle.ext_tree.specs.Tree.{Entries, lookup, most_entries}
use Rattle.ext_tree.specs.declared.entry.Entry.{Entry}
use Rattle.ext_tree.specs.declared.entry.Entry.TheVariants.{File}
use Rattle.ext_host.specs.Drawn.{AreDrawnFrom, HasFile, IsDrawnFrom, trees_of}
use Rattle.ext_host.specs.Held.{HeldFile}
use Rattle.ext_host.specs.Host.{base_at, hierarchies_in, is_in, merged_hierarchies, merged_names, present, where_merged}
use Rattle.ext_host.specs.Valid.{AreInRange, AreManifests, AreMerged, IsValidHost, all_bytes, most_bytes}
use Rattle.ext_host.specs.declared.host.Host.{Host}
use Rattle.ext_host.specs.declared.past.Past.{Past}
use Rattle.ext_host.proofs.ForCallers.{drawn_one_by_one, trees_are_drawn}
use Rattle.ext_view.specs.Hierarchies.{hierarchies_at}
use Rattle.ext_view.specs.View.{with_view}

-- a name that a path is in is among the names
in_contains : (names : List (List ℕ)) (n : List ℕ) (p : List (List ℕ)) → is_in names (n ∷ p) ≡ true → Contains names n
in_contains [] n p in_ = absurd (false≢true in_)
in_contains (m ∷ names) n p in_ =
    elim (eq_by_cmp bytes_cmp m n) as (λ b. eq_by_cmp bytes_cmp m n ≡ b → ((b && true) || is_in names (n ∷ p)) ≡ true → Contains (m ∷ names) n) [
      | true ↦ λ tied _. (zero, omega arith, same_name m n tied)
      | false ↦ λ _ later. let rest = in_contains names n p later in (suc rest.0, omega (arith, rest.1), rest.2)
    ] refl in_

-- a path is not in the names of both of two lists that have none in common
pub in_apart : (names others : List (List ℕ)) (p : List (List ℕ)) → AllByRecursion (λ n. Contains others n → ⊥) names → is_in names p ≡ true → is_in others p ≡ false
in_apart [] others p apart in_ = absurd (false≢true in_)
in_apart (n ∷ names) others [] apart in_ = in_apart names others [] apart.1 in_
in_apart (n ∷ names) others (a ∷ p) apart in_ =
    elim (eq_by_cmp bytes_cmp n a) as (λ b. eq_by_cmp bytes_cmp n a ≡ b → ((b && true) || is_in names (a ∷ p)) ≡ true → is_in others (a ∷ p) ≡ false) [
      | true ↦ λ tied _. elim (is_in others (a ∷ p)) as (λ b. is_in others (a ∷ p) ≡ b → b ≡ false) [
        | true ↦ λ there. absurd (apart.0 (subst (Contains others) (sym (same_name n a tied)) (in_contains others a p there)))
        | false ↦ λ _. refl
      ] refl
      | false ↦ λ _ later. in_apart names others (a ∷ p) apart.1 later
    ] refl in_

or_false : (b : Bool) → (b || false) ≡ b
or_false true = refl
or_false false = refl

or_swap : (a b : Bool) → (a || b) ≡ (b || a)
or_swap true true = refl
or_swap true false = refl
or_swap false true = refl
or_swap false false = refl

-- where a path is in the merged hierarchies of the class, and of the other one
abbrev pub in_own : Extension → Host → List (List ℕ) → Bool
in_own class host p = is_in (where_merged (merged_names class (present host)) (hierarchies_at class host)) p

abbrev pub in_other : Extension → Host → List (List ℕ) → Bool
in_other Sysext host p = is_in (where_merged host.confext host.confext_hier) p
in_other Confext host p = is_in (where_merged host.sysext host.sysext_hier) p

abbrev pub in_merged : Host → List (List ℕ) → Bool
in_merged host p = is_in (merged_hierarchies (hierarchies_in host) (present host)) p

pub merged_either : (class : Extension) (host : Host) (p : List (List ℕ)) → in_merged host p ≡ (in_own class host p || in_other class host p)
merged_either Sysext host p = list_any-append (λ name. is_prefix (name ∷ []) p) (where_merged host.sysext host.sysext_hier) (where_merged host.confext host.confext_hier)
merged_either Confext host p = list_any-append (λ name. is_prefix (name ∷ []) p) (where_merged host.sysext host.sysext_hier) (where_merged host.confext host.confext_hier) ∙ or_swap (is_in (where_merged host.sysext host.sysext_hier) p) (is_in (where_merged host.confext host.confext_hier) p)

-- with another view the other class is as it was
other_stays : (class : Extension) (host : Host) (names : Option (List (List ℕ))) (root lower : Entries HeldFile) (p : List (List ℕ)) → in_other class (with_view class names root lower host) p ≡ in_other class host p
other_stays Sysext host names root lower p = refl
other_stays Confext host names root lower p = refl

-- and the class is merged where there are names
own_is : (class : Extension) (host : Host) (names : Option (List (List ℕ))) (root lower : Entries HeldFile) (p : List (List ℕ)) → in_own class (with_view class names root lower host) p ≡ is_in (where_merged names (hierarchies_at class host)) p
own_is Sysext host names root lower p = refl
own_is Confext host names root lower p = refl

pub merged_with : (class : Extension) (host : Host) (names : Option (List (List ℕ))) (root lower : Entries HeldFile) (p : List (List ℕ)) → in_merged (with_view class names root lower host) p ≡ (is_in (where_merged names (hierarchies_at class host)) p || in_other class host p)
merged_with class host names root lower p =
    merged_either class (with_view class names root lower host) p
    ∙ (λ i. own_is class host names root lower p i || other_stays class host names root lower p i)

-- a path that is in no hierarchy of the class is in no merged one
out_where : (merged : Option (List (List ℕ))) (names : List (List ℕ)) (p : List (List ℕ)) → is_in names p ≡ false → is_in (where_merged merged names) p ≡ false
out_where None names p out = refl
out_where (Some m) names p out = out

pub out_own : (class : Extension) (host : Host) (p : List (List ℕ)) → is_in (hierarchies_at class host) p ≡ false → in_merged host p ≡ in_other class host p
out_own class host p out =
    merged_either class host p ∙ ap (λ b. b || in_other class host p) (out_where (merged_names class (present host)) (hierarchies_at class host) p out)

out_with : (class : Extension) (host : Host) (names : Option (List (List ℕ))) (root lower : Entries HeldFile) (p : List (List ℕ)) → is_in (hierarchies_at class host) p ≡ false → in_merged (with_view class names root lower host) p ≡ in_merged host p
out_with class host names root lower p out =
    merged_with class host names root lower p ∙ ap (λ b. b || in_other class host p) (out_where names (hierarchies_at class host) p out)
    ∙ sym (out_own class host p out)

-- a path in a hierarchy of the class is in none of the other
pub other_apart : (class : Extension) (host : Host) (p : List (List ℕ)) → IsValidHost host → is_in (hierarchies_at class host) p ≡ true → in_other class host p ≡ false
other_apart Sysext host p valid in_ = out_where host.confext host.confext_hier p (in_apart host.sysext_hier host.confext_hier p valid.hierarchies.apart in_)
other_apart Confext host p valid in_ =
    out_where host.sysext host.sysext_hier p
    (elim (is_in host.sysext_hier p) as (λ b. is_in host.sysext_hier p ≡ b → b ≡ false) [
      | true ↦ λ there. absurd (true≢false (sym in_ ∙ in_apart host.sysext_hier host.confext_hier p valid.hierarchies.apart there))
      | false ↦ λ _. refl
    ] refl)

abbrev pub base_of : Host → List (List ℕ) → Option (Entry HeldFile)
base_of host p = base_at (hierarchies_in host) (present host) p

pub root_with : (class : Extension) (host : Host) (names : Option (List (List ℕ))) (root lower : Entries HeldFile) → ((with_view class names root lower host).root ≡ root) × ((with_view class names root lower host).lower ≡ lower)
root_with Sysext host names root lower = (refl, refl)
root_with Confext host names root lower = (refl, refl)

module _ (class : Extension) (host : Host) (root lower : Entries HeldFile)
    (seen : (p : List (List ℕ)) → is_in (hierarchies_at class host) p ≡ false → lookup root p ≡ lookup host.root p)
    (under : (p : List (List ℕ)) → is_in (hierarchies_at class host) p ≡ false → lookup lower p ≡ lookup host.lower p) where
  module _ (names : Option (List (List ℕ))) where
    trees_at : (p : List (List ℕ)) → base_of (with_view class names root lower host) p ≡ cond (in_merged (with_view class names root lower host) p) (lookup lower p) (lookup root p)
    trees_at p =
        let trees = root_with class host names root lower in
        λ i. cond (in_merged (with_view class names root lower host) p) (lookup (trees.1 i) p) (lookup (trees.0 i) p)

    -- outside the hierarchies the base stays
    base_outside : (p : List (List ℕ)) → is_in (hierarchies_at class host) p ≡ false → base_of (with_view class names root lower host) p ≡ base_of host p
    base_outside p out =
        trees_at p ∙ (λ i. cond (out_with class host names root lower p out i) (under p out i) (seen p out i))

  -- it stays where the class is unmerged and the base is seen
  pub base_unmerged : IsValidHost host → ((p : List (List ℕ)) → is_in (hierarchies_at class host) p ≡ true → lookup root p ≡ base_of host p) → (p : List (List ℕ)) → base_of (with_view class None root lower host) p ≡ base_of host p
  base_unmerged valid base p =
      elim (is_in (hierarchies_at class host) p) as (λ b. is_in (hierarchies_at class host) p ≡ b → base_of (with_view class None root lower host) p ≡ base_of host p) [
        | true ↦ λ in_. trees_at None p ∙ ap (λ b. cond b (lookup lower p) (lookup root p)) (merged_with class host None root lower p ∙ other_apart class host p valid in_) ∙ base p in_
        | false ↦ λ out. base_outside None p out
      ] refl

  -- and where it is merged and the base lies under it
  pub base_merged : (names : List (List ℕ)) → ((p : List (List ℕ)) → is_in (hierarchies_at class host) p ≡ true → lookup lower p ≡ base_of host p) → (p : List (List ℕ)) → base_of (with_view class (Some names) root lower host) p ≡ base_of host p
  base_merged names base p =
      elim (is_in (hierarchies_at class host) p) as (λ b. is_in (hierarchies_at class host) p ≡ b → base_of (with_view class (Some names) root lower host) p ≡ base_of host p) [
        | true ↦ λ in_. trees_at (Some names) p ∙ ap (λ b. cond b (lookup lower p) (lookup root p)) (merged_with class host (Some names) root lower p ∙ ap (λ b. b || in_other class host p) in_) ∙ base p in_
        | false ↦ λ out. base_outside (Some names) p out
      ] refl

-- the host with another view is valid where its trees are within the limits, its lower tree lies in merged hierarchies and
-- its base has not changed
pub valid_with : (class : Extension) (host : Host) (names : Option (List (List ℕ))) (root lower : Entries HeldFile) → IsValidHost host → AreInRange root → AreInRange lower → length root + length lower ≤ most_entries → all_bytes root + all_bytes lower ≤ most_bytes → IfSome names AreMerged → ((p : List (List ℕ)) → is_some (lookup lower p) ≡ true → in_merged (with_view class names root lower host) p ≡ true) → ((p : List (List ℕ)) → base_of (with_view class names root lower host) p ≡ base_of host p) → IsValidHost (with_view class names root lower host)
valid_with Sysext host names root lower valid root_range lower_range entries bytes merged lies base = record {
  scope = valid.scope;
  hierarchies = valid.hierarchies;
  present = record {
    lower = lies;
    limits = record { root = root_range; lower = lower_range; entries = entries; bytes = bytes };
    sysext = merged;
    confext = valid.present.confext;
    attached = valid.present.attached;
    kept = subst (λ b. AreManifests b host.kept) (λ i p. sym (base p) i) valid.present.kept;
  };
  past = valid.past;
  past_count = valid.past_count;
  past_order = valid.past_order;
}
valid_with Confext host names root lower valid root_range lower_range entries bytes merged lies base = record {
  scope = valid.scope;
  hierarchies = valid.hierarchies;
  present = record {
    lower = lies;
    limits = record { root = root_range; lower = lower_range; entries = entries; bytes = bytes };
    sysext = valid.present.sysext;
    confext = merged;
    attached = valid.present.attached;
    kept = subst (λ b. AreManifests b host.kept) (λ i p. sym (base p) i) valid.present.kept;
  };
  past = valid.past;
  past_count = valid.past_count;
  past_order = valid.past_order;
}

-- a file that a host has, seen or under what is seen
abbrev pub HasHeld : Host → HeldFile → Type 0
HasHeld host held = HasFile host.root held ⊎ HasFile host.lower held

only_tree : (es tree : Entries HeldFile) → Contains (es ∷ []) tree → tree ≡ es
only_tree es tree (zero, lt, same) = sym same
only_tree es tree (suc k, lt, same) = absurd (omega arith)

tree_drawn : (host : Host) (es : Entries HeldFile) → ((p : List (List ℕ)) (attributes : OfFile) (held : HeldFile) → lookup es p ≡ Some (File attributes held) → HasHeld host held) → AreDrawnFrom (trees_of host) (es ∷ [])
tree_drawn host es comes held home kept file =
    let f = subst (λ tree. HasFile tree held) (only_tree es file.tree file.among) file.file in
    elim (comes f.path f.attributes held f.stands) [
      | inl seen ↦ record { tree = host.root; among = (zero, omega arith, refl); file = seen }
      | inr under ↦ record { tree = host.lower; among = (suc zero, omega arith, refl); file = under }
    ]

one_more : {X : Type 0} (x y : X) (xs : List X) → Contains xs y → Contains (x ∷ xs) y
one_more x y xs among = (suc among.0, omega (arith, among.1), among.2)

all_among : {X : Type 0} (P : X → Type 0) (xs : List X) → ((x : X) → Contains xs x → P x) → AllByRecursion P xs
all_among P [] each = tt
all_among P (x ∷ xs) each = (each x (zero, omega arith, refl), all_among P xs (λ y among. each y (one_more x y xs among)))

-- the trees of the past
abbrev pub past_trees : Host → List (Entries HeldFile)
past_trees host = flat_map (λ (past : Past). past.root ∷ past.lower ∷ []) host.past

trees_drawn : (host : Host) (root lower : Entries HeldFile) → ((p : List (List ℕ)) (attributes : OfFile) (held : HeldFile) → lookup root p ≡ Some (File attributes held) → HasHeld host held) → ((p : List (List ℕ)) (attributes : OfFile) (held : HeldFile) → lookup lower p ≡ Some (File attributes held) → HasHeld host held) → AreDrawnFrom (trees_of host) (root ∷ lower ∷ flat_map (λ past. past.root ∷ past.lower ∷ []) host.past)
trees_drawn host root lower root_comes lower_comes =
    drawn_one_by_one (trees_of host) (root ∷ lower ∷ past_trees host) (tree_drawn host root root_comes, (tree_drawn host lower lower_comes, all_among (λ es. AreDrawnFrom (trees_of host) (es ∷ [])) (past_trees host) past_drawn))
  where
    past_drawn : (es : Entries HeldFile) → Contains (past_trees host) es → AreDrawnFrom (trees_of host) (es ∷ [])
    past_drawn es among = trees_are_drawn (trees_of host) (es ∷ []) (one_more host.root es (host.lower ∷ (past_trees host)) (one_more host.lower es (past_trees host) among), tt)

pub drawn_with : (class : Extension) (host : Host) (names : Option (List (List ℕ))) (root lower : Entries HeldFile) → ((p : List (List ℕ)) (attributes : OfFile) (held : HeldFile) → lookup root p ≡ Some (File attributes held) → HasHeld host held) → ((p : List (List ℕ)) (attributes : OfFile) (held : HeldFile) → lookup lower p ≡ Some (File attributes held) → HasHeld host held) → IsDrawnFrom host (with_view class names root lower host)
drawn_with Sysext host names root lower root_comes lower_comes = trees_drawn host root lower root_comes lower_comes
drawn_with Confext host names root lower root_comes lower_comes = trees_drawn host root lower root_comes lower_comes
