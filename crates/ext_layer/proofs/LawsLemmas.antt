-- The laws of layered trees.
use Rattle.std.proofs.Common.{◌≡◌, ℕ, zero, true, false, cond, not, List, [], ◌∷◌, ◌++◌, Option, Some, None, is_some, refl, sym, ap, ◌∙◌, subst, arith}
use Rattle.std.proofs.lemmas.Bool.{false≢true, and_parts}
use Rattle.std.proofs.lemmas.Float.{T_from_true}
use Rattle.std.proofs.lemmas.List.Elements.{Contains-append_right}
use Rattle.std.specs.List.{AllByRecursion, Contains}
use Rattle.std.specs.Ordering.{eq_by_cmp}
use Rattle.std.specs.FinMap.{find, is_sorted}
use Rattle.std.specs.FinMap.Entries.{below_all, same_entries}
use Rattle.ext_text.specs.Path.{path_cmp}
use Rattle.ext_text.specs.Order.{paths_exact, paths_total}
use Rattle.ext_text.proofs.ForCallers.{all_back}
use Rattle.ext_text.proofs.ForCallers.{same_path, tied_path, prefix_self}
use Rattle.ext_tree.specs.Tree.{Entries, as_shown, is_file, is_hide, is_opaque, lookup}
use Rattle.ext_tree.specs.EntryLine.{IsWritable}
use Rattle.ext_tree.specs.TreeText.{HasText, stamp_form}
use Rattle.ext_tree.specs.declared.entry.Entry.{Entry}
use Rattle.ext_tree.specs.declared.entry.Entry.TheVariants.{Dir, Opaque, File, Link, Hide}
use Rattle.ext_tree.specs.declared.stamp.Stamp.{Stamp}
use Rattle.ext_layer.specs.Laws.{EntriesAreOfLayers, FilesAreOfLayers, IsOfLayer, LayeredHasText, LowerEqualShowsNothing, NothingHides, OneLayeredTree}
use Rattle.ext_layer.proofs.JoiningLemmas.{layered_same, lower_equal}
use Rattle.ext_layer.proofs.Prefixes.{not_found}

same_options : {X : Type 0} (o w : Option X) → ((x : X) → o ≡ Some x → w ≡ Some x) → ((x : X) → w ≡ Some x → o ≡ Some x) → o ≡ w
same_options (Some x) w there back = sym (there x refl)
same_options None None there back = refl
same_options None (Some x) there back = back x refl

same_some : {X : Type 0} (x y : X) → Some x ≡ Some y → x ≡ y
same_some x y h = cc

pub one_layered_tree : {C : Type 0} → OneLayeredTree C
one_layered_tree layers a b x y =
    same_entries path_cmp paths_total paths_exact a b (T_from_true _ x.tree.sorted) (T_from_true _ y.tree.sorted) (λ q.
    same_options (lookup a q) (lookup b q) (λ e h. y.whole q e (x.visible q e h)) (λ e h. x.whole q e (y.visible q e h)))

-- the layer that a list is split at is among its layers
among : {X : Type 0} (above below : List X) (x : X) → Contains (above ++ x ∷ below) x
among above below x = Contains-append_right above (x ∷ below) x (zero, omega arith, refl)

pub entries_are_of_layers : {C : Type 0} → EntriesAreOfLayers C
entries_are_of_layers layers es p e layered stands =
    let v = layered.visible p e stands in
    (v.stored, record { layer = v.layer; among = subst (λ l. Contains l v.layer) (sym v.split) (among v.above v.below v.layer); stands = v.stands }, v.shown)

-- what is shown as a file is that file
file_shown : {C : Type 0} (e : Entry C) → is_file (as_shown e) ≡ true → as_shown e ≡ e
file_shown (Dir attributes) h = absurd (false≢true h)
file_shown (Opaque attributes) h = absurd (false≢true h)
file_shown (File attributes content) h = refl
file_shown (Link owner target) h = refl
file_shown Hide h = refl

pub files_are_of_layers : {C : Type 0} → FilesAreOfLayers C
files_are_of_layers layers es p e layered stands file =
    let x = entries_are_of_layers layers es p e layered stands in
    let same : e ≡ x.0 = x.2 ∙ file_shown x.0 (sym (ap is_file x.2) ∙ file) in
    subst (IsOfLayer layers p) (sym same) x.1

shown_plain : {C : Type 0} (e : Entry C) → not (is_hide e) ≡ true → (not (is_hide (as_shown e)) ≡ true) × (not (is_opaque (as_shown e)) ≡ true)
shown_plain (Dir attributes) h = (refl, refl)
shown_plain (Opaque attributes) h = (refl, refl)
shown_plain (File attributes content) h = (refl, refl)
shown_plain (Link owner target) h = (refl, refl)
shown_plain Hide h = absurd (false≢true h)

pub nothing_hides : {C : Type 0} → NothingHides C
nothing_hides layers es p e layered stands =
    let v = layered.visible p e stands in
    let x = shown_plain v.stored v.no_hide in
    (ap (λ f. not (is_hide f)) v.shown ∙ x.0, ap (λ f. not (is_opaque f)) v.shown ∙ x.1)

-- an entry that has a line has one as it shows
shown_writable : (e : Entry Stamp) → IsWritable stamp_form e → IsWritable stamp_form (as_shown e)
shown_writable (Dir attributes) h = h
shown_writable (Opaque attributes) h = h
shown_writable (File attributes content) h = h
shown_writable (Link owner target) h = h
shown_writable Hide h = h

module _ {C : Type 0} (P : Entry C → Type 0) where
  -- what holds of each entry holds of what stands at a path
  all_at : (es : Entries C) (p : List (List ℕ)) (e : Entry C) → AllByRecursion (λ x. P x.1) es → lookup es p ≡ Some e → P e
  all_at [] p e all h = absurd (false≢true (ap is_some h))
  all_at (x ∷ es) p e all h =
      let rest = all_at es p e all.1 in
      elim (eq_by_cmp path_cmp p x.0) as (λ b. cond b (Some x.1) (find path_cmp p es) ≡ Some e → P e) [
        | true ↦ λ is. subst P (same_some x.1 e is) all.0
        | false ↦ λ is. rest is
      ] h

  -- what holds of what stands at each path holds of each entry of a list in order
  all_from_lookup : (es : Entries C) → is_sorted path_cmp es ≡ true → ((p : List (List ℕ)) (e : Entry C) → lookup es p ≡ Some e → P e) → AllByRecursion (λ x. P x.1) es
  all_from_lookup [] sorted at = tt
  all_from_lookup (x ∷ es) sorted at =
      let parts = and_parts (below_all path_cmp x.0 es) (is_sorted path_cmp es) sorted in
      let apart : (p : List (List ℕ)) (e : Entry C) → lookup es p ≡ Some e → eq_by_cmp path_cmp p x.0 ≡ false = λ p e h. elim (eq_by_cmp path_cmp p x.0) as (λ b. eq_by_cmp path_cmp p x.0 ≡ b → b ≡ false) [
        | true ↦ λ t.
            let none : lookup es p ≡ None = ap (lookup es) (same_path p x.0 t) ∙ not_found x.0 x.0 (prefix_self x.0) es (T_from_true _ parts.0) in
            absurd (false≢true (sym (ap is_some none) ∙ ap is_some h))
        | false ↦ λ t. refl
      ] refl in (
        at x.0 x.1 (ap (λ b. cond b (Some x.1) (find path_cmp x.0 es)) (tied_path x.0 x.0 refl)),
        all_from_lookup es parts.1 (λ p e h. at p e (ap (λ b. cond b (Some x.1) (find path_cmp p es)) (apart p e h) ∙ h)),
      )

-- a layered tree has a text
pub layered_has_text : LayeredHasText
layered_has_text layers es all layered count = record {
  within = record { tree = layered.tree; count = count };
  each = all_from_lookup (IsWritable stamp_form) es layered.tree.sorted (λ p e h.
      let v = layered.visible p e h in
      let text : HasText v.layer = (all_back HasText v.above (v.layer ∷ v.below) (subst (AllByRecursion HasText) v.split all)).0 in
      subst (IsWritable stamp_form) (sym v.shown) (shown_writable v.stored (all_at (IsWritable stamp_form) v.layer p v.stored text.each v.stands)));
}

-- without the lower of two equal layers
pub lower_equal_shows_nothing : {C : Type 0} → LowerEqualShowsNothing C
lower_equal_shows_nothing uppers between lowers layer es =
    let both = uppers ++ layer ∷ between ++ layer ∷ lowers in
    let one = uppers ++ layer ∷ between ++ lowers in
    let same = lower_equal uppers between lowers layer in
    (layered_same both one es same, layered_same one both es (λ p. sym (same p)))
