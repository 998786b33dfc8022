-- Images that are found, where they lead, and their trees.
use Rattle.std.proofs.Common.{◌≡◌, ℕ, zero, suc, Bool, true, false, cond, List, [], ◌∷◌, ◌++◌, length, Option, Some, None, is_some, refl, sym, ap, ◌∙◌, subst, arith}
use Rattle.std.specs.Prelude.{Contains, IsTrue}
use Rattle.std.specs.FinMap.{find as find_in, is_sorted}
use Rattle.std.specs.List.{find}
use Rattle.std.specs.Option.{option_map, unwrap_or}
use Rattle.std.proofs.lemmas.Bool.{and_from, and_parts, false≢true}
use Rattle.std.proofs.lemmas.Option.{slice_get-map, slice_get_read}
use Rattle.ext_text.specs.declared.arch.Arch.{Arch}
use Rattle.ext_text.specs.declared.class.Class.TheVariants as classes
use Rattle.ext_text.proofs.ForCallers.{same_name, tied_name}
use Rattle.ext_tree.specs.Part.{part}
use Rattle.ext_tree.specs.Tree.{Entries}
use Rattle.ext_tree.proofs.ForCallers.{find_there, lookup_part, root_part}
use Rattle.ext_vers.specs.Order.{orders_total}
use Rattle.ext_vers.specs.Version.{order_of}
use Rattle.ext_walk.specs.Leads.{LeadsToDirectory}
use Rattle.ext_host.specs.Held.{HeldFile}
use Rattle.ext_host.specs.Planning.{ServesAll, content_size}
use Rattle.ext_find.specs.Found.{AreFound, Gives, by_name}
use Rattle.ext_find.specs.Laws.{OneFound}
use Rattle.ext_find.specs.declared.found.FoundItem.{FoundItem}
use Rattle.ext_find.specs.declared.found.FoundKind.{FoundKind}
use Rattle.ext_find.specs.declared.found.FoundKind.TheVariants as kinds
use Rattle.ext_units.specs.Body.{IsTreeOf}
use Rattle.ext_units.specs.Image.{FindsImage, IsImageItem, is_image, is_image_of}

-- what is found among elements is one of them, and passes the test
found_among : {X : Type 0} (test : X → Bool) (xs : List X) (x : X) → find test xs ≡ Some x → Contains xs x × (test x ≡ true)
found_among test [] x at = absurd (false≢true (ap is_some at))
found_among test (y ∷ xs) x at =
    elim (test y) as (λ b. test y ≡ b → cond b (Some y) (find test xs) ≡ Some x → Contains (y ∷ xs) x × (test x ≡ true)) [
      | true ↦ λ passes here. let same : y ≡ x = ap (λ o. unwrap_or o x) here in ((zero, omega arith, same), subst (λ z. test z ≡ true) same passes)
      | false ↦ λ _ later. let rest = found_among test xs x later in ((suc rest.0.0, (let low = rest.0.1 in omega arith), rest.0.2), rest.1)
    ] refl at

skipped : {X : Type 0} (b : Bool) (x : X) (o : Option X) → cond b (Some x) o ≡ None → (b ≡ false) × (o ≡ None)
skipped true x o none = absurd (false≢true (sym (ap is_some none)))
skipped false x o none = (refl, none)

-- where none is found, none passes
found_nowhere : {X : Type 0} (test : X → Bool) (xs : List X) (x : X) → find test xs ≡ None → Contains xs x → ¬ (test x ≡ true)
found_nowhere test [] x none (k, within, is) passes = omega (arith, within)
found_nowhere test (y ∷ xs) x none (zero, within, is) passes =
    false≢true (sym (skipped (test y) y (find test xs) none).0 ∙ ap test is ∙ passes)
found_nowhere test (y ∷ xs) x none (suc k, within, is) passes =
    found_nowhere test xs x (skipped (test y) y (find test xs) none).1 (k, omega arith, is) passes

-- what the test of an item says
kind_is : (kind : FoundKind) → is_image kind ≡ true → kind ≡ kinds.Image
kind_is kinds.Image is = refl
kind_is kinds.Masked is = absurd (false≢true is)
kind_is kinds.Raw is = absurd (false≢true is)
kind_is (kinds.Broken why) is = absurd (false≢true is)

pub item_is : (name : List ℕ) (item : FoundItem) → is_image_of name item ≡ true → IsImageItem name item.place item
item_is name item passes =
    let parts = and_parts _ _ passes in
    record { name_is = same_name item.name name parts.0; place_is = refl; image = kind_is item.kind parts.1 }

pub item_passes : (name : List ℕ) (place : List (List ℕ)) (item : FoundItem) → IsImageItem name place item → is_image_of name item ≡ true
item_passes name place item is = and_from _ _ (tied_name item.name name is.name_is) (ap is_image is.image)

module _ (base : Entries HeldFile) (arch : Arch) where
  -- an item among those that are found is found by its name
  found_by_name : (items : List FoundItem) (item : FoundItem) → IsTrue (is_sorted order_of (by_name items)) → Contains items item → find_in order_of item.name (by_name items) ≡ Some item
  found_by_name items item ordered among =
      find_there order_of orders_total (by_name items) among.0 (item.name, item) ordered
      (slice_get-map (λ (i : FoundItem). (i.name, i)) items among.0
      ∙ ap (option_map (λ (i : FoundItem). (i.name, i))) (slice_get_read items (length items) among.0 item refl among.1 (sym among.2)))

  -- its place leads to a directory, where it is an image
  pub image_leads : (name : List ℕ) (place : List (List ℕ)) → FindsImage base arch name place → LeadsToDirectory base place
  image_leads name place finds =
      let least = finds.found.least finds.item.name finds.item (found_by_name finds.items finds.item finds.found.ordered finds.among) in
      let gives = subst (Gives content_size base classes.Portable arch [] _ least.1 finds.item.place) finds.is_item.image least.2.usable.entry.gives in
      subst (LeadsToDirectory base) finds.is_item.place_is (gives.2.0, gives.2.1, gives.2.2)

  -- an item that passes is the image, and where none passes there is none
  pub finds : (name : List ℕ) (items : List FoundItem) (item : FoundItem) → AreFound content_size base classes.Portable arch [] items → find (is_image_of name) items ≡ Some item → FindsImage base arch name item.place
  finds name items item are at =
      let among = found_among (is_image_of name) items item at in
      record { items = items; found = are; item = item; among = among.0; is_item = item_is name item among.1 }

  pub finds_none : OneFound content_size → (name : List ℕ) (items : List FoundItem) → AreFound content_size base classes.Portable arch [] items → find (is_image_of name) items ≡ None → (place : List (List ℕ)) → ¬ FindsImage base arch name place
  finds_none one name items are none place other =
      let same : other.items ≡ items = one base classes.Portable arch [] other.items items other.found are in
      found_nowhere (is_image_of name) items other.item none (subst (λ xs. Contains xs other.item) same other.among) (item_passes name place other.item other.is_item)

-- a shelf that serves each file of a base serves each file of an image
pub image_served : (serves : HeldFile → Bool) (base : Entries HeldFile) (place : List (List ℕ)) (tree : Entries HeldFile) → ServesAll serves base → IsTreeOf base place tree → ServesAll serves tree
image_served serves base place tree all is = subst (ServesAll serves) (sym is.below) below
  where
    below : ServesAll serves (part is.directory base)
    below [] attributes held at = absurd (false≢true (sym (ap is_some (root_part is.directory base)) ∙ ap is_some at))
    below (n ∷ path) attributes held at = all (is.directory ++ n ∷ path) attributes held (sym (lookup_part is.directory n path base) ∙ at)

-- an image of a name has one place
pub one_place : (base : Entries HeldFile) (arch : Arch) → OneFound content_size → (name : List ℕ) (p q : List (List ℕ)) → FindsImage base arch name p → FindsImage base arch name q → p ≡ q
one_place base arch one name p q x y =
    let items : x.items ≡ y.items = one base classes.Portable arch [] x.items y.items x.found y.found in
    let first = found_by_name base arch y.items x.item y.found.ordered (subst (λ xs. Contains xs x.item) items x.among) in
    let other = found_by_name base arch y.items y.item y.found.ordered y.among in
    let names : x.item.name ≡ y.item.name = x.is_item.name_is ∙ sym y.is_item.name_is in
    let same : x.item ≡ y.item = ap (λ o. unwrap_or o x.item) (sym first ∙ ap (λ n. find_in order_of n (by_name y.items)) names ∙ other) in
    sym x.is_item.place_is ∙ ap (λ (i : FoundItem). i.place) same ∙ y.is_item.place_is
