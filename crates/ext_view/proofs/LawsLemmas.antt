-- The laws of views.
use Rattle.std.proofs.Common.{◌≡◌, ℕ, Bool, true, false, List, [], ◌∷◌, length, Option, Some, None, is_some, refl, sym, ap, ◌∙◌, subst, arith}
use Rattle.std.specs.Prelude.{not}
use Rattle.std.proofs.lemmas.Bool.{false≢true, true≢false}
use Rattle.std.proofs.lemmas.Float.{T_from_true}
use Rattle.std.specs.FinMap.{FinMap}
use Rattle.std.specs.FinMap.Entries.{same_entries}
use Rattle.ext_lines.specs.ByteOrder.{bytes_cmp}
use Rattle.ext_text.specs.Order.{paths_exact, paths_total}
use Rattle.ext_text.specs.Path.{path_cmp}
use Rattle.ext_text.specs.Extension.{class_of}
use Rattle.ext_text.specs.declared.extension.Extension.{Extension}
use Rattle.ext_text.specs.declared.extension.Extension.TheVariants.{Sysext, Confext}
use Rattle.ext_tree.specs.Part.{part}
use Rattle.ext_tree.specs.Tree.{Entries, IsTree, is_hide, is_opaque, lookup}
use Rattle.ext_tree.specs.declared.entry.Entry.{Entry}
use Rattle.ext_walk.specs.Walk.{walk}
use Rattle.ext_walk.proofs.ForCallers.{one_end}
use Rattle.ext_host.specs.Held.{HeldFile}
use Rattle.ext_host.specs.Host.{is_in}
use Rattle.ext_host.specs.Planning.{IsBaseTree, content_size}
use Rattle.ext_host.specs.Shelf.{Told}
use Rattle.ext_host.specs.Valid.{IsValidHost}
use Rattle.ext_host.specs.declared.host.Host.{Host}
use Rattle.ext_host.specs.declared.host.Plan.{Plan}
use Rattle.ext_match.specs.Verdict.{IsVerdict}
use Rattle.ext_find.specs.Found.{AreFound}
use Rattle.ext_find.specs.declared.found.FoundItem.{FoundItem}
use Rattle.ext_find.specs.declared.found.FoundKind.{FoundKind}
use Rattle.ext_find.specs.declared.found.FoundKind.TheVariants as found
use Rattle.ext_view.specs.Hierarchies.{hierarchies_at, is_merged}
use Rattle.ext_view.specs.Laws.{MergingKeepsTheBase, NothingHidesInViews, OneView, RefreshIsUnmergeThenMerge, UnmergeThenMergeIsRefresh, UnmergeUndoesMerge, host_after}
use Rattle.ext_view.specs.Matched.{AreMatched}
use Rattle.ext_view.specs.Merging.{PlansView}
use Rattle.ext_view.specs.Surveying.{IsFoundIn, IsItemOf, IsKindOf, IsSurveyOf, MakesOf}
use Rattle.ext_view.specs.View.{AreImagesOf, AreViewTrees, HasView, IsMergedHost, IsUnmerged, chosen, names_of, with_view}
use Rattle.ext_view.specs.declared.surveyed.SurveyItem.{SurveyItem}
use Rattle.ext_view.specs.declared.surveyed.SurveyKind.{SurveyKind}
use Rattle.ext_view.specs.declared.surveyed.SurveyKind.TheVariants.{Masked, Raw, Broken, BadRelease, Image}
use Rattle.ext_view.proofs.EntryLemmas.{shown_plain}
use Rattle.ext_view.proofs.HostLemmas.{base_merged, base_of, base_unmerged}

record AreLike (class : Extension) (a b : Host) : Type 0 where
  arch : a.arch ≡ b.arch
  scope : a.scope ≡ b.scope
  names : hierarchies_at class a ≡ hierarchies_at class b
  root : (p : List (List ℕ)) → is_in (hierarchies_at class a) p ≡ false → lookup a.root p ≡ lookup b.root p
  lower : (p : List (List ℕ)) → is_in (hierarchies_at class a) p ≡ false → lookup a.lower p ≡ lookup b.lower p
  view : (names : Option (List (List ℕ))) (root lower : Entries HeldFile) → with_view class names root lower a ≡ with_view class names root lower b

-- where a path is in the hierarchies of the one, it is in those of the other
same_in : (class : Extension) (a b : Host) (p : List (List ℕ)) (v : Bool) → hierarchies_at class a ≡ hierarchies_at class b → is_in (hierarchies_at class b) p ≡ v → is_in (hierarchies_at class a) p ≡ v
same_in class a b p v names in_ = ap (λ ns. is_in ns p) names ∙ in_

like_back : (class : Extension) (a b : Host) → AreLike class a b → AreLike class b a
like_back class a b like = record {
  arch = sym like.arch;
  scope = sym like.scope;
  names = sym like.names;
  root = λ p out. sym (like.root p (same_in class a b p false like.names out));
  lower = λ p out. sym (like.lower p (same_in class a b p false like.names out));
  view = λ names root lower. sym (like.view names root lower);
}

module _ (host : Host) (names : Option (List (List ℕ))) (root lower : Entries HeldFile) where
  like_with : (class : Extension) → ((p : List (List ℕ)) → is_in (hierarchies_at class host) p ≡ false → lookup root p ≡ lookup host.root p) → ((p : List (List ℕ)) → is_in (hierarchies_at class host) p ≡ false → lookup lower p ≡ lookup host.lower p) → AreLike class (with_view class names root lower host) host
  like_with Sysext seen under = record { arch = refl; scope = refl; names = refl; root = seen; lower = under; view = λ names root lower. refl }
  like_with Confext seen under = record { arch = refl; scope = refl; names = refl; root = seen; lower = under; view = λ names root lower. refl }

  merged_by : (class : Extension) → names ≡ None → is_merged class (with_view class names root lower host) ≡ false
  merged_by Sysext none = ap is_some none
  merged_by Confext none = ap is_some none

module _ (host : Host) (class : Extension) (next : Host) where
  unmerged_like : IsUnmerged host class next → AreLike class next host
  unmerged_like u = subst (λ h. AreLike class h host) (sym u.same) (like_with host None next.root next.lower class u.root_outside u.lower_outside)

  unmerged_not : IsUnmerged host class next → is_merged class next ≡ false
  unmerged_not u = ap (is_merged class) u.same ∙ merged_by host None next.root next.lower class refl

  view_like : (base : Entries HeldFile) (items : List SurveyItem) → HasView host class base items next → AreLike class next host
  view_like base items v = subst (λ h. AreLike class h host) (sym v.same) (like_with host (Some (names_of items)) next.root next.lower class v.trees.root_outside v.trees.lower_outside)

  module _ (valid : IsValidHost host) where
    unmerged_base : IsUnmerged host class next → (p : List (List ℕ)) → base_of next p ≡ base_of host p
    unmerged_base u p =
        ap (λ h. base_of h p) u.same ∙ base_unmerged class host next.root next.lower u.root_outside u.lower_outside valid u.base p

    view_base : (base : Entries HeldFile) (items : List SurveyItem) → ((p : List (List ℕ)) → lookup base p ≡ base_of host p) → HasView host class base items next → (p : List (List ℕ)) → base_of next p ≡ base_of host p
    view_base base items is v p =
        ap (λ h. base_of h p) v.same
        ∙ base_merged class host next.root next.lower v.trees.root_outside v.trees.lower_outside (names_of items) (λ q in_. v.trees.base_lower q in_ ∙ is q) p

module _ (told : HeldFile → Told) (base : Entries HeldFile) (class : Extension) (force : Bool) (a b : Host) (like : AreLike class a b) where
  module _ (release : FinMap bytes_cmp (List ℕ)) where
    makes_like : (bytes : List ℕ) (kind : SurveyKind) → MakesOf release a class force bytes kind → MakesOf release b class force bytes kind
    makes_like bytes Masked makes = makes
    makes_like bytes Raw makes = makes
    makes_like bytes (Broken why) makes = makes
    makes_like bytes (BadRelease line) makes = makes
    makes_like bytes (Image verdict) makes = (
      makes.0,
      makes.1,
      subst (λ scope. IsVerdict release makes.0 class scope b.arch force verdict) like.scope (subst (λ arch. IsVerdict release makes.0 class a.scope arch force verdict) like.arch makes.2),
    )

    kind_like : (place : List (List ℕ)) (name : List ℕ) (found_kind : FoundKind) (kind : SurveyKind) → IsKindOf told a base class force release place name found_kind kind → IsKindOf told b base class force release place name found_kind kind
    kind_like place name found.Masked kind is = is
    kind_like place name found.Raw kind is = is
    kind_like place name (found.Broken why) kind is = is
    kind_like place name found.Image kind is = record {
      file = is.file;
      is_file = is.is_file;
      bytes = is.bytes;
      given = is.given;
      makes = makes_like is.bytes kind is.makes;
    }

    each_like : (found_items : List FoundItem) (items : List SurveyItem) → AreMatched (IsItemOf told a base class force release) found_items items → AreMatched (IsItemOf told b base class force release) found_items items
    each_like [] [] each = tt
    each_like [] (item ∷ items) each = absurd each
    each_like (f ∷ found_items) [] each = absurd each
    each_like (f ∷ found_items) (item ∷ items) each = (
      record { name = each.0.name; place = each.0.place; kind = kind_like f.place f.name f.kind item.kind each.0.kind },
      each_like found_items items each.1,
    )

  found_like : (found_items : List FoundItem) → IsFoundIn a base class found_items → IsFoundIn b base class found_items
  found_like found_items is =
      subst (λ names. AreFound content_size base (class_of class) b.arch names found_items) like.names (subst (λ arch. AreFound content_size base (class_of class) arch (hierarchies_at class a) found_items) like.arch is)

  survey_like : (items : List SurveyItem) → IsSurveyOf told a base class force items → IsSurveyOf told b base class force items
  survey_like items is =
      let surveyed = is.surveyed in
      record {
        release = is.release;
        is_release = is.is_release;
        surveyed = record { found_items = surveyed.found_items; are_found = found_like surveyed.found_items surveyed.are_found; each = each_like is.release surveyed.found_items items surveyed.each };
      }

module _ (class : Extension) (a b : Host) (like : AreLike class a b) where
  to : (p : List (List ℕ)) (v : Bool) → is_in (hierarchies_at class b) p ≡ v → is_in (hierarchies_at class a) p ≡ v
  to p v in_ = same_in class a b p v like.names in_

  trees_like : (base : Entries HeldFile) (images : List (Entries HeldFile)) (root lower : Entries HeldFile) → AreViewTrees a class base images root lower → AreViewTrees b class base images root lower
  trees_like base images root lower trees = record {
    root_tree = trees.root_tree;
    lower_tree = trees.lower_tree;
    visible = λ p e in_ there. trees.visible p e (to p true in_) there;
    whole = λ p e in_ v. trees.whole p e (to p true in_) v;
    root_outside = λ p out. trees.root_outside p (to p false out) ∙ like.root p (to p false out);
    base_lower = λ p in_. trees.base_lower p (to p true in_);
    lower_outside = λ p out. trees.lower_outside p (to p false out) ∙ like.lower p (to p false out);
  }

  has_like : (base : Entries HeldFile) (items : List SurveyItem) (next : Host) → HasView a class base items next → HasView b class base items next
  has_like base items next v = record {
    images = v.images;
    are_images = v.are_images;
    trees = trees_like base v.images next.root next.lower v.trees;
    same = v.same ∙ like.view (Some (names_of items)) next.root next.lower;
  }

  -- the unmerged host of the one is that of the other, where they have one base
  back_like : ((p : List (List ℕ)) → base_of a p ≡ base_of b p) → (back : Host) → IsUnmerged a class back → IsUnmerged b class back
  back_like base back u = record {
    root = u.root;
    lower = u.lower;
    base = λ p in_. u.base p (to p true in_) ∙ base p;
    root_outside = λ p out. u.root_outside p (to p false out) ∙ like.root p (to p false out);
    gone = λ p in_. u.gone p (to p true in_);
    lower_outside = λ p out. u.lower_outside p (to p false out) ∙ like.lower p (to p false out);
    same = u.same ∙ like.view None back.root back.lower;
  }

-- a tree is one by its look-ups
pub one_tree : (a b : Entries HeldFile) → IsTree a → IsTree b → ((p : List (List ℕ)) → lookup a p ≡ lookup b p) → a ≡ b
one_tree a b x y same = same_entries path_cmp paths_total paths_exact a b (T_from_true _ x.sorted) (T_from_true _ y.sorted) same

-- what is the same in the names and elsewhere is the same
in_or_out : (names : List (List ℕ)) (p : List (List ℕ)) (o w : Option (Entry HeldFile)) → (is_in names p ≡ true → o ≡ w) → (is_in names p ≡ false → o ≡ w) → o ≡ w
in_or_out names p o w in_ out =
    elim (is_in names p) as (λ b. is_in names p ≡ b → o ≡ w) [
      | true ↦ in_
      | false ↦ out
    ] refl

-- a host has one unmerged host
pub one_unmerged : (host : Host) (class : Extension) (a b : Host) → IsUnmerged host class a → IsUnmerged host class b → a ≡ b
one_unmerged host class a b x y =
    let names = hierarchies_at class host in
    let root = one_tree a.root b.root x.root y.root (λ p. in_or_out names p (lookup a.root p) (lookup b.root p) (λ in_. x.base p in_ ∙ sym (y.base p in_)) (λ out. x.root_outside p out ∙ sym (y.root_outside p out))) in
    let lower = one_tree a.lower b.lower x.lower y.lower (λ p. in_or_out names p (lookup a.lower p) (lookup b.lower p) (λ in_. x.gone p in_ ∙ sym (y.gone p in_)) (λ out. x.lower_outside p out ∙ sym (y.lower_outside p out))) in
    x.same ∙ (λ i. with_view class None (root i) (lower i) host) ∙ sym y.same

-- items have one list of images
pub one_images : (base : Entries HeldFile) (items : List SurveyItem) (images others : List (Entries HeldFile)) → AreImagesOf base items images → AreImagesOf base items others → images ≡ others
one_images base [] [] [] x y = refl
one_images base [] [] (b ∷ others) x y = absurd y
one_images base [] (a ∷ images) others x y = absurd x
one_images base (item ∷ items) [] others x y = absurd x
one_images base (item ∷ items) (a ∷ images) [] x y = absurd y
one_images base (item ∷ items) (a ∷ images) (b ∷ others) x y =
    let first : a ≡ b = x.0.2 ∙ ap (λ end. part end base) (one_end base (walk [] item.place 0) x.0.0 y.0.0 x.0.1 y.0.1) ∙ sym y.0.2 in
    let rest = one_images base items images others x.1 y.1 in
    (λ i. first i ∷ rest i)

same_options : {X : Type 0} (o w : Option X) → ((x : X) → o ≡ Some x → w ≡ Some x) → ((x : X) → w ≡ Some x → o ≡ Some x) → o ≡ w
same_options (Some x) w there back = sym (there x refl)
same_options None None there back = refl
same_options None (Some x) there back = back x refl

-- the trees of a view are the same for the same items
pub one_pair_of_trees : (host : Host) (class : Extension) (base : Entries HeldFile) (items : List SurveyItem) (images others : List (Entries HeldFile)) (root lower other_root other_lower : Entries HeldFile) → AreImagesOf base items images → AreImagesOf base items others → AreViewTrees host class base images root lower → AreViewTrees host class base others other_root other_lower → (root ≡ other_root) × (lower ≡ other_lower)
one_pair_of_trees host class base items images others root lower other_root other_lower x y s other_trees =
    let names = hierarchies_at class host in
    let t : AreViewTrees host class base images other_root other_lower = subst (λ images. AreViewTrees host class base images other_root other_lower) (one_images base items others images y x) other_trees in (
      one_tree root other_root s.root_tree t.root_tree (λ p. in_or_out names p (lookup root p) (lookup other_root p) (λ in_. same_options (lookup root p) (lookup other_root p) (λ e there. t.whole p e in_ (s.visible p e in_ there)) (λ e there. s.whole p e in_ (t.visible p e in_ there))) (λ out. s.root_outside p out ∙ sym (t.root_outside p out))),
      one_tree lower other_lower s.lower_tree t.lower_tree (λ p. in_or_out names p (lookup lower p) (lookup other_lower p) (λ in_. s.base_lower p in_ ∙ sym (t.base_lower p in_)) (λ out. s.lower_outside p out ∙ sym (t.lower_outside p out))),
    )

pub one_view : (host : Host) (class : Extension) (base : Entries HeldFile) (items : List SurveyItem) (a b : Host) → HasView host class base items a → HasView host class base items b → a ≡ b
one_view host class base items a b x y =
    let trees = one_pair_of_trees host class base items x.images y.images a.root a.lower b.root b.lower x.are_images y.are_images x.trees y.trees in
    x.same ∙ (λ i. with_view class (Some (names_of items)) (trees.0 i) (trees.1 i) host) ∙ sym y.same

pub one_view_law : OneView
one_view_law host class base [] next other x y = one_unmerged host class next other x y
one_view_law host class base (item ∷ items) next other x y = one_view host class base (item ∷ items) next other x y

pub nothing_hides_in_views : NothingHidesInViews
nothing_hides_in_views host class base items next path e view in_ stands =
    let v = view.trees.visible path e in_ stands in
    subst (λ e. (not (is_hide e) ≡ true) × (not (is_opaque e) ≡ true)) (sym v.shown) (shown_plain v.stored v.no_hide)

merged_base : (host : Host) (class : Extension) (base : Entries HeldFile) (items : List SurveyItem) (next : Host) → IsValidHost host → ((p : List (List ℕ)) → lookup base p ≡ base_of host p) → IsMergedHost host class base items next → (p : List (List ℕ)) → base_of next p ≡ base_of host p
merged_base host class base [] next valid is merged p = unmerged_base host class next valid merged p
merged_base host class base (item ∷ items) next valid is merged p = view_base host class next valid base (item ∷ items) is merged p

pub merging_keeps_the_base : MergingKeepsTheBase
merging_keeps_the_base host class base items next valid is merged p = is p ∙ sym (merged_base host class base items next valid is merged p)

merged_like : (host : Host) (class : Extension) (base : Entries HeldFile) (items : List SurveyItem) (next : Host) → IsMergedHost host class base items next → AreLike class next host
merged_like host class base [] next merged = unmerged_like host class next merged
merged_like host class base (item ∷ items) next merged = view_like host class next base (item ∷ items) merged

pub unmerge_undoes_merge : UnmergeUndoesMerge
unmerge_undoes_merge host class base items next back valid is merged unmerged =
    back_like class next host (merged_like host class base items next merged) (merged_base host class base items next valid is merged) back unmerged

module _ (host : Host) (class : Extension) (valid : IsValidHost host) (merged : is_merged class host ≡ true) (mid : Host) (unmerged : IsUnmerged host class mid) (base : Entries HeldFile) where
  like_mid : AreLike class mid host
  like_mid = unmerged_like host class mid unmerged

  base_there : IsBaseTree host base → IsBaseTree mid base
  base_there is = record { tree = is.tree; is_base = λ p. is.is_base p ∙ sym (unmerged_base host class mid valid unmerged p) }

  base_here : IsBaseTree mid base → IsBaseTree host base
  base_here is = record { tree = is.tree; is_base = λ p. is.is_base p ∙ unmerged_base host class mid valid unmerged p }

  -- a plan of the merged host as one of the unmerged host, and back
  plan_there : (items : List SurveyItem) (plan : Option Plan) → PlansView host class base items plan → (other : Option Plan) × PlansView mid class base items other × (host_after mid other ≡ host_after host plan)
  plan_there items None plans = absurd (true≢false (sym merged ∙ plans.1))
  plan_there [] (Some plan) plans = (None, (refl, unmerged_not host class mid unmerged), one_unmerged host class mid plan.next unmerged plans.1)
  plan_there (item ∷ items) (Some plan) plans = (Some plan, has_like class host mid (like_back class mid host like_mid) base (item ∷ items) plan.next plans, refl)

  plan_here : (items : List SurveyItem) (plan : Option Plan) → PlansView mid class base items plan → (other : Option Plan) × PlansView host class base items other × (host_after host other ≡ host_after mid plan)
  plan_here [] None plans = (Some (record { next = mid }), (merged, unmerged), refl)
  plan_here (item ∷ items) None plans = absurd (no_items item items plans.0)
    where
      no_items : (item : SurveyItem) (items : List SurveyItem) → item ∷ items ≡ [] → ⊥
      no_items item items none = let len = ap length none in omega (arith, len)
  plan_here [] (Some plan) plans = absurd (false≢true (sym (unmerged_not host class mid unmerged) ∙ plans.0))
  plan_here (item ∷ items) (Some plan) plans = (Some plan, has_like class mid host like_mid base (item ∷ items) plan.next plans, refl)

pub refresh_is_unmerge_then_merge : RefreshIsUnmergeThenMerge
refresh_is_unmerge_then_merge told old new host class force None refreshed valid unmerged refreshes = (refreshed.plan, (unmerged, refreshes), refl)
refresh_is_unmerge_then_merge told old new host class force (Some plan) refreshed valid unmerged refreshes =
    let mid = plan.next in
    let base = refreshes.0 in
    let is = refreshes.2 in
    let other = plan_there host class valid unmerged.0 mid unmerged.1 base (chosen is.items) refreshed.plan is.plan in (
      other.0,
      (
        unmerged_not host class mid unmerged.1,
        (
          base,
          base_there host class valid unmerged.0 mid unmerged.1 base refreshes.1,
          record {
            items = is.items;
            surveyed = survey_like told base class force host mid (like_back class mid host (unmerged_like host class mid unmerged.1)) is.items is.surveyed;
            names = is.names;
            plan = other.1;
          },
        ),
      ),
      other.2,
    )

pub unmerge_then_merge_is_refresh : UnmergeThenMergeIsRefresh
unmerge_then_merge_is_refresh told old new host class force None merged valid unmerged merges = (merged.plan, merges.1, refl)
unmerge_then_merge_is_refresh told old new host class force (Some plan) merged valid unmerged merges =
    let mid = plan.next in
    let base = merges.1.0 in
    let is = merges.1.2 in
    let other = plan_here host class valid unmerged.0 mid unmerged.1 base (chosen is.items) merged.plan is.plan in (
      other.0,
      (
        base,
        base_here host class valid unmerged.0 mid unmerged.1 base merges.1.1,
        record {
          items = is.items;
          surveyed = survey_like told base class force mid host (unmerged_like host class mid unmerged.1) is.items is.surveyed;
          names = is.names;
          plan = other.1;
        },
      ),
      other.2,
    )
