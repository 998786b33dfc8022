-- Found images that can be used have a release file.
use Rattle.std.proofs.Common.{◌≡◌, ℕ, true, cond, List, [], ◌∷◌, map, Option, Some, None, ap, ◌∙◌}
use Rattle.std.proofs.lemmas.Bool.{and_parts}
use Rattle.std.specs.Cmp.{tied_itself}
use Rattle.std.specs.List.{AllByRecursion}
use Rattle.std.specs.Ordering.{is_eq, is_lt, ordering_reverse}
use Rattle.std.specs.FinMap.{find, is_sorted}
use Rattle.std.specs.FinMap.Entries.{below_all}
use Rattle.ext_text.specs.declared.arch.Arch.{Arch}
use Rattle.ext_text.specs.Extension.{class_of}
use Rattle.ext_text.specs.declared.extension.Extension.{Extension}
use Rattle.ext_text.specs.declared.extension.Extension.TheVariants.{Sysext, Confext}
use Rattle.ext_text.proofs.ForCallers.{all_weaker, is_less}
use Rattle.ext_tree.specs.Tree.{Entries}
use Rattle.ext_vers.specs.Order.{orders_total}
use Rattle.ext_vers.specs.Version.{order_of}
use Rattle.ext_walk.specs.Walk.{Ends}
use Rattle.ext_host.specs.Held.{HeldFile}
use Rattle.ext_find.specs.Found.{AreFound, IsReleaseOf, by_name}
use Rattle.ext_find.specs.Image.{IsReleaseIn}
use Rattle.ext_find.specs.declared.found.FoundItem.{FoundItem}
use Rattle.ext_find.specs.declared.found.FoundKind.{FoundKind}
use Rattle.ext_find.specs.declared.found.FoundKind.TheVariants.{Image, Masked, Raw, Broken}
use Rattle.ext_view.specs.Image.{HasReleaseAt}
use Rattle.ext_view.specs.Judging.{IsSound, WhereImage}

module _ {X : Type 0} where
  -- what is found in a list is found after an entry that comes before all
  found_after : (e : List ℕ × X) (all es : List (List ℕ × X)) → below_all order_of e.0 es ≡ true → AllByRecursion (λ f. find order_of f.0 all ≡ Some f.1) es → AllByRecursion (λ f. find order_of f.0 (e ∷ all) ≡ Some f.1) es
  found_after e all [] below found = tt
  found_after e all (f ∷ es) below found =
      let parts = and_parts (is_lt (order_of e.0 f.0)) (below_all order_of e.0 es) below in (
        ap (λ o. cond (is_eq o) (Some e.1) (find order_of f.0 all)) (orders_total.antisymm f.0 e.0 ∙ ap ordering_reverse (is_less _ parts.0)) ∙ found.0,
        found_after e all es parts.1 found.1,
      )

  -- each entry of a list in order is found by its key
  found_each : (es : List (List ℕ × X)) → is_sorted order_of es ≡ true → AllByRecursion (λ f. find order_of f.0 es ≡ Some f.1) es
  found_each [] sorted = tt
  found_each (e ∷ es) sorted =
      let parts = and_parts (below_all order_of e.0 es) (is_sorted order_of es) sorted in (
        ap (λ o. cond (is_eq o) (Some e.1) (find order_of e.0 es)) (tied_itself orders_total e.0),
        found_after e es es parts.0 (found_each es parts.1),
      )

  -- a fact of entries as one of the items that they are made of
  of_items : (P : List ℕ × X → Type 0) (key : X → List ℕ) (items : List X) → AllByRecursion P (map (λ item. (key item, item)) items) → AllByRecursion (λ item. P (key item, item)) items
  of_items P key [] all = tt
  of_items P key (item ∷ items) all = (all.0, of_items P key items all.1)

-- where a search says that the release file of an extension is
release_at : (base : Entries HeldFile) (class : Extension) (place end : List (List ℕ)) (name : List ℕ) (release : Option (List (List ℕ))) → Ends base place end → IsReleaseIn base end (class_of class) name release → HasReleaseAt base class place name release
release_at base Sysext place end name None leads none = none
release_at base Sysext place end name (Some path) leads file = record { image = end; leads = leads; file = file }
release_at base Confext place end name None leads none = none
release_at base Confext place end name (Some path) leads file = record { image = end; leads = leads; file = file }

module _ (size : HeldFile → ℕ) (base : Entries HeldFile) (class : Extension) (arch : Arch) (hierarchies : List (List ℕ)) where
  -- an image that can be used has a release file
  sound_kind : (place : List (List ℕ)) (name : List ℕ) (kind : FoundKind) (release : Option (List (List ℕ))) → IsReleaseOf size base (class_of class) arch hierarchies place name kind release → WhereImage kind (HasReleaseAt base class place name release)
  sound_kind place name Masked release none = tt
  sound_kind place name Raw release none = tt
  sound_kind place name (Broken why) release none = tt
  sound_kind place name Image release is = release_at base class place is.0 name release is.1 is.2

  -- so each found item that is one has
  pub all_sound : (items : List FoundItem) → AreFound size base (class_of class) arch hierarchies items → AllByRecursion (IsSound base class) items
  all_sound items found =
      all_weaker (λ item. find order_of item.name (by_name items) ≡ Some item) (IsSound base class) sound items
      (of_items (λ e. find order_of e.0 (by_name items) ≡ Some e.1) (λ (item : FoundItem). item.name) items (found_each (by_name items) found.ordered))
    where
      sound : (item : FoundItem) → find order_of item.name (by_name items) ≡ Some item → IsSound base class item
      sound item at =
          let least = found.least item.name item at in
          let usable = least.2.usable in
          sound_kind item.place item.name item.kind item.release usable.entry.release
