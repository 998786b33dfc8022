-- No view brings a file: those of the planned host are of the host before.
use Rattle.std.proofs.Common.{◌≡◌, ℕ, zero, suc, ◌<◌, true, false, if◌then◌else◌, List, [], ◌∷◌, ◌++◌, length, Option, Some, None, Ok, refl, sym, ap, ◌∙◌, subst, arith}
use Rattle.std.specs.Prelude.{Contains, reverse}
use Rattle.std.specs.List.{AllByRecursion, flat_map}
use Rattle.std.proofs.lemmas.List.{reverse-append}
use Rattle.ext_attributes.specs.Attributes.{OfFile}
use Rattle.ext_text.specs.declared.extension.Extension.{Extension}
use Rattle.ext_text.specs.declared.extension.Extension.TheVariants as extensions
use Rattle.ext_text.proofs.ForCallers.{all_append, all_back}
use Rattle.ext_tree.specs.Part.{part}
use Rattle.ext_tree.specs.Tree.{Entries, IsTree, as_shown, lookup}
use Rattle.ext_tree.specs.declared.entry.Entry.{Entry}
use Rattle.ext_tree.specs.declared.entry.Entry.TheVariants.{Dir, Opaque, File, Link, Hide}
use Rattle.ext_tree.proofs.ForCallers.{lookup_part, root_part}
use Rattle.ext_layer.specs.Layered.{IsVisible}
use Rattle.ext_host.specs.Drawn.{HasFile, IsFileOf, trees_of}
use Rattle.ext_host.specs.Held.{HeldFile}
use Rattle.ext_host.specs.Host.{hierarchies_in, is_in, merged_hierarchies, present}
use Rattle.ext_host.specs.Planning.{IsBaseTree}
use Rattle.ext_host.specs.declared.host.Host.{Host}
use Rattle.ext_host.specs.declared.host.Plan.{Plan}
use Rattle.ext_host.specs.declared.past.Past.{Past}
use Rattle.ext_view.specs.Hierarchies.{hierarchies_at}
use Rattle.ext_view.specs.Laws.{host_after}
use Rattle.ext_view.specs.Merging.{PlansView, Unmerges}
use Rattle.ext_view.specs.View.{AreImagesOf, AreViewTrees, HasView, IsUnmerged, with_view}
use Rattle.ext_view.specs.declared.surveyed.SurveyItem.{SurveyItem}

-- files of one host that are files of another
abbrev pub FromHost : Host → Host → Type 0
FromHost host next = (held : HeldFile) → IsFileOf (trees_of next) held → IsFileOf (trees_of host) held

-- the files of a tree are
abbrev ComesFrom : Host → Entries HeldFile → Type 0
ComesFrom host es = (p : List (List ℕ)) (attributes : OfFile) (held : HeldFile) → lookup es p ≡ Some (File attributes held) → IsFileOf (trees_of host) held

pub root_file : (host : Host) → ComesFrom host host.root
root_file host p attributes held found = record { tree = host.root; among = (zero, omega arith, refl); file = record { path = p; attributes = attributes; stands = found } }

pub lower_file : (host : Host) → ComesFrom host host.lower
lower_file host p attributes held found = record { tree = host.lower; among = (suc zero, omega arith, refl); file = record { path = p; attributes = attributes; stands = found } }

-- what is seen of the base, or lies under the view
base_at_file : (host : Host) (p : List (List ℕ)) (attributes : OfFile) (held : HeldFile)
    → (if is_in (merged_hierarchies (hierarchies_in host) (present host)) p then lookup host.lower p else lookup host.root p) ≡ Some (File attributes held) → IsFileOf (trees_of host) held
base_at_file host p attributes held found = elim (is_in (merged_hierarchies (hierarchies_in host) (present host)) p) as (λ b. (if b then lookup host.lower p else lookup host.root p) ≡ Some (File attributes held) → IsFileOf (trees_of host) held) [
  | true ↦ λ here. lower_file host p attributes held here
  | false ↦ λ here. root_file host p attributes held here
] found

base_file : (host : Host) (base : Entries HeldFile) → IsBaseTree host base → ComesFrom host base
base_file host base is p attributes held found = base_at_file host p attributes held (sym (is.is_base p) ∙ found)

none_some : (e : Entry HeldFile) → None ≡ Some e → ⊥
none_some e same = cc

part_file : (host : Host) (base : Entries HeldFile) (end : List (List ℕ)) → IsBaseTree host base → ComesFrom host (part end base)
part_file host base end is [] attributes held found = absurd (none_some (File attributes held) (sym (root_part end base) ∙ found))
part_file host base end is (n ∷ p) attributes held found = base_file host base is (end ++ n ∷ p) attributes held (sym (lookup_part end n p base) ∙ found)

more_of : {X : Type 0} (y : X) (xs : List X) (x : X) → Contains xs x → Contains (y ∷ xs) x
more_of y xs x (k, lt, is) = (suc k, omega arith, is)

-- the past is the same
with_past : (class : Extension) (names : Option (List (List ℕ))) (root lower : Entries HeldFile) (host : Host) → (with_view class names root lower host).past ≡ host.past
with_past extensions.Sysext names root lower host = refl
with_past extensions.Confext names root lower host = refl

of_trees : (host next : Host) → ComesFrom host next.root → ComesFrom host next.lower → next.past ≡ host.past → FromHost host next
of_trees host next root lower past held file = of_tree file.tree file.among file.file
  where
    of_past : (tree : Entries HeldFile) (k : ℕ) (lt : suc (suc k) < length (trees_of next)) → Contains (flat_map (λ (past : Past). past.root ∷ past.lower ∷ []) next.past) tree → HasFile tree held → IsFileOf (trees_of host) held
    of_past tree k lt among file = record {
      tree = tree;
      among = more_of host.root (host.lower ∷ flat_map (λ (past : Past). past.root ∷ past.lower ∷ []) host.past) tree
          (more_of host.lower (flat_map (λ (past : Past). past.root ∷ past.lower ∷ []) host.past) tree (subst (λ (pasts : List Past). Contains (flat_map (λ (past : Past). past.root ∷ past.lower ∷ []) pasts) tree) past among));
      file = file;
    }

    of_tree : (tree : Entries HeldFile) → Contains (trees_of next) tree → HasFile tree held → IsFileOf (trees_of host) held
    of_tree tree (zero, lt, is) file = let f = subst (λ t. HasFile t held) (sym is) file in root f.path f.attributes held f.stands
    of_tree tree (suc zero, lt, is) file = let f = subst (λ t. HasFile t held) (sym is) file in lower f.path f.attributes held f.stands
    of_tree tree (suc (suc k), lt, is) file = of_past tree k lt (k, omega arith, is) file

unmerged_root : (host next : Host) (class : Extension) → IsUnmerged host class next → ComesFrom host next.root
unmerged_root host next class is p attributes held found = elim (is_in (hierarchies_at class host) p) as (λ b. is_in (hierarchies_at class host) p ≡ b → IsFileOf (trees_of host) held) [
  | true ↦ λ in_. base_at_file host p attributes held (sym (is.base p in_) ∙ found)
  | false ↦ λ out. root_file host p attributes held (sym (is.root_outside p out) ∙ found)
] refl

unmerged_lower : (host next : Host) (class : Extension) → IsUnmerged host class next → ComesFrom host next.lower
unmerged_lower host next class is p attributes held found = elim (is_in (hierarchies_at class host) p) as (λ b. is_in (hierarchies_at class host) p ≡ b → IsFileOf (trees_of host) held) [
  | true ↦ λ in_. absurd (none_some (File attributes held) (sym (is.gone p in_) ∙ found))
  | false ↦ λ out. lower_file host p attributes held (sym (is.lower_outside p out) ∙ found)
] refl

-- a file shows as itself
shown_file : (attributes : OfFile) (held : HeldFile) (stored : Entry HeldFile) → File attributes held ≡ as_shown stored → stored ≡ File attributes held
shown_file attributes held (Dir m) is = cc
shown_file attributes held (Opaque m) is = cc
shown_file attributes held (File m h) is = sym is
shown_file attributes held (Link owner target) is = cc
shown_file attributes held Hide is = cc

reverse_cons : {X : Type 0} (x : X) (xs : List X) → reverse (x ∷ xs) ≡ reverse xs ++ x ∷ []
reverse_cons x xs = reverse-append (x ∷ []) xs

all_reverse : {X : Type 0} (P : X → Type 0) (xs : List X) → AllByRecursion P xs → AllByRecursion P (reverse xs)
all_reverse P [] all = tt
all_reverse P (x ∷ xs) all = subst (AllByRecursion P) (sym (reverse_cons x xs)) (all_append P (reverse xs) (x ∷ []) (all_reverse P xs all.1) (all.0, tt))

images_come : (host : Host) (base : Entries HeldFile) (items : List SurveyItem) (images : List (Entries HeldFile)) → IsBaseTree host base → AreImagesOf base items images → AllByRecursion (ComesFrom host) images
images_come host base [] [] is are = tt
images_come host base [] (image ∷ images) is are = absurd are
images_come host base (item ∷ items) [] is are = absurd are
images_come host base (item ∷ items) (image ∷ images) is are =
    (subst (ComesFrom host) (sym are.0.2) (part_file host base are.0.0 is), images_come host base items images is are.1)

view_root : (host : Host) (class : Extension) (base : Entries HeldFile) (items : List SurveyItem) (images : List (Entries HeldFile)) (root lower : Entries HeldFile) → IsBaseTree host base → AreImagesOf base items images → AreViewTrees host class base images root lower
    → ComesFrom host root
view_root host class base items images root lower is are trees p attributes held found = elim (is_in (hierarchies_at class host) p) as (λ b. is_in (hierarchies_at class host) p ≡ b → IsFileOf (trees_of host) held) [
  | true ↦ λ in_. visible_file (trees.visible p (File attributes held) in_ found)
  | false ↦ λ out. root_file host p attributes held (sym (trees.root_outside p out) ∙ found)
] refl
  where
    visible_file : IsVisible (reverse images ++ base ∷ []) p (File attributes held) → IsFileOf (trees_of host) held
    visible_file v =
        let all : AllByRecursion (ComesFrom host) (reverse images ++ base ∷ []) = all_append (ComesFrom host) (reverse images) (base ∷ []) (all_reverse (ComesFrom host) images (images_come host base items images is are)) (base_file host base is, tt) in
        let layer : ComesFrom host v.layer = (all_back (ComesFrom host) v.above (v.layer ∷ v.below) (subst (AllByRecursion (ComesFrom host)) v.split all)).0 in
        layer p attributes held (v.stands ∙ ap Some (shown_file attributes held v.stored v.shown))

view_lower : (host : Host) (class : Extension) (base : Entries HeldFile) (images : List (Entries HeldFile)) (root lower : Entries HeldFile) → IsBaseTree host base → AreViewTrees host class base images root lower → ComesFrom host lower
view_lower host class base images root lower is trees p attributes held found = elim (is_in (hierarchies_at class host) p) as (λ b. is_in (hierarchies_at class host) p ≡ b → IsFileOf (trees_of host) held) [
  | true ↦ λ in_. base_file host base is p attributes held (sym (trees.base_lower p in_) ∙ found)
  | false ↦ λ out. lower_file host p attributes held (sym (trees.lower_outside p out) ∙ found)
] refl

-- what is said of a planned host: its trees are trees, and its files are of the host before
pub record IsViewOf (host next : Host) : Type 0 where
  pub root : IsTree next.root
  pub lower : IsTree next.lower
  pub files : FromHost host next

abbrev pub PlansViewOf : Host → Option Plan → Type 0
PlansViewOf host None = Unit {0}
PlansViewOf host (Some plan) = IsViewOf host plan.next

unmerged_view : (host next : Host) (class : Extension) → IsUnmerged host class next → IsViewOf host next
unmerged_view host next class is = record {
  root = is.root;
  lower = is.lower;
  files = of_trees host next (unmerged_root host next class is) (unmerged_lower host next class is) (ap (λ (h : Host). h.past) is.same ∙ with_past class None next.root next.lower host);
}

merged_view : (host next : Host) (class : Extension) (base : Entries HeldFile) (items : List SurveyItem) → IsBaseTree host base → HasView host class base items next → IsViewOf host next
merged_view host next class base items is view = record {
  root = view.trees.root_tree;
  lower = view.trees.lower_tree;
  files = of_trees host next (view_root host class base items view.images next.root next.lower is view.are_images view.trees) (view_lower host class base view.images next.root next.lower is view.trees)
      (ap (λ (h : Host). h.past) view.same ∙ with_past class _ next.root next.lower host);
}

pub plan_view : (host : Host) (class : Extension) (base : Entries HeldFile) (items : List SurveyItem) (plan : Option Plan) → IsBaseTree host base → PlansView host class base items plan → PlansViewOf host plan
plan_view host class base items None is plans = tt
plan_view host class base [] (Some plan) is plans = unmerged_view host plan.next class plans.1
plan_view host class base (item ∷ items) (Some plan) is plans = merged_view host plan.next class base (item ∷ items) is plans

pub unmerge_view : (host : Host) (class : Extension) (plan : Option Plan) → Unmerges host class (Ok plan) → PlansViewOf host plan
unmerge_view host class None unmerges = tt
unmerge_view host class (Some plan) unmerges = unmerged_view host plan.next class unmerges.1

pub after_files : (host : Host) (plan : Option Plan) → PlansViewOf host plan → FromHost host (host_after host plan)
after_files host None view = λ held file. file
after_files host (Some plan) view = view.files
