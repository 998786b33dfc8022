-- Extensions: where they are, where that leads, and their release files.
use Rattle.std.proofs.Common.{◌≡◌, ℕ, zero, suc, Bool, true, false, cond, List, [], ◌∷◌, length, Option, Some, None, is_some, refl, sym, ap, ◌∙◌, subst, arith}
use Rattle.std.specs.Prelude.{Contains, IsTrue}
use Rattle.std.specs.FinMap.{find as find_in, is_sorted}
use Rattle.std.specs.List.{find}
use Rattle.std.specs.Option.{option_map, unwrap_or}
use Rattle.std.proofs.lemmas.Bool.{and_from, and_parts, false≢true}
use Rattle.std.proofs.lemmas.Option.{slice_get-map, slice_get_read}
use Rattle.ext_text.specs.declared.class.Class.TheVariants as classes
use Rattle.ext_text.specs.declared.extension.Extension.TheVariants.{Sysext}
use Rattle.ext_text.proofs.ForCallers.{same_name, tied_name}
use Rattle.ext_tree.specs.Part.{part}
use Rattle.ext_tree.specs.Tree.{Entries, is_directory_or_root}
use Rattle.ext_tree.proofs.ForCallers.{find_there}
use Rattle.ext_vers.specs.Order.{orders_total}
use Rattle.ext_vers.specs.Version.{order_of}
use Rattle.ext_walk.specs.Leads.{LeadsTo, LeadsToDirectory}
use Rattle.ext_walk.specs.Walk.{Ends, parts}
use Rattle.ext_walk.proofs.ForCallers.{same_end}
use Rattle.ext_host.specs.Held.{HeldFile}
use Rattle.ext_host.specs.Planning.{content_size}
use Rattle.ext_host.specs.declared.host.Host.{Host}
use Rattle.ext_find.specs.Content.{is_file_at}
use Rattle.ext_find.specs.ExtensionRelease.{release_text}
use Rattle.ext_find.specs.Found.{AreFound, Gives, by_name}
use Rattle.ext_find.specs.Image.{Breaks}
use Rattle.ext_find.specs.Laws.{OneFound}
use Rattle.ext_find.specs.declared.found.BreakWhy.{BreakWhy}
use Rattle.ext_find.specs.declared.found.FoundItem.{FoundItem}
use Rattle.ext_units.specs.Body.{IsTreeOf}
use Rattle.ext_units.specs.ImageName.{image_name, last_name}
use Rattle.ext_units.specs.declared.image.Image.{Image}
use Rattle.ext_units.specs.declared.image.Image.TheVariants.{Named, At}
use Rattle.ext_portext.specs.Extension.{FindsExtension, IsExtensionAt, IsExtensionPath, IsNoExtension, is_extension_of, is_looked_into, kind_of_break, system_hierarchies}
use Rattle.ext_portext.specs.Judged.{LeadsToExtensionFile}

-- what is found among elements is one of them, and passes the test
pub found_among : {X : Type 0} (test : X → Bool) (xs : List X) (x : X) → find test xs ≡ Some x → Contains xs x × (test x ≡ true)
found_among test [] x at = absurd (false≢true (ap is_some at))
found_among test (y ∷ xs) x at =
    elim (test y) as (λ b. test y ≡ b → cond b (Some y) (find test xs) ≡ Some x → Contains (y ∷ xs) x × (test x ≡ true)) [
      | true ↦ λ passes here. let same : y ≡ x = ap (λ o. unwrap_or o x) here in ((zero, omega arith, same), subst (λ z. test z ≡ true) same passes)
      | false ↦ λ _ later. let rest = found_among test xs x later in ((suc rest.0.0, (let low = rest.0.1 in omega arith), rest.0.2), rest.1)
    ] refl at

skipped : {X : Type 0} (b : Bool) (x : X) (o : Option X) → cond b (Some x) o ≡ None → (b ≡ false) × (o ≡ None)
skipped true x o none = absurd (false≢true (sym (ap is_some none)))
skipped false x o none = (refl, none)

-- where none is found, none passes
found_nowhere : {X : Type 0} (test : X → Bool) (xs : List X) (x : X) → find test xs ≡ None → Contains xs x → ¬ (test x ≡ true)
found_nowhere test [] x none (k, within, is) passes = omega (arith, within)
found_nowhere test (y ∷ xs) x none (zero, within, is) passes =
    false≢true (sym (skipped (test y) y (find test xs) none).0 ∙ ap test is ∙ passes)
found_nowhere test (y ∷ xs) x none (suc k, within, is) passes =
    found_nowhere test xs x (skipped (test y) y (find test xs) none).1 (k, omega arith, is) passes

looked_into : (why : Option BreakWhy) → is_looked_into (kind_of_break why) ≡ true
looked_into None = refl
looked_into (Some why) = refl

-- what is found is looked into
pub looked_item : (name : List ℕ) (items : List FoundItem) (item : FoundItem) → find (is_extension_of name) items ≡ Some item → is_looked_into item.kind ≡ true
looked_item name items item at = (and_parts _ _ (found_among (is_extension_of name) items item at).1).1

module _ (host : Host) (base : Entries HeldFile) where
  -- an item that passes is the extension, and where none passes there is none
  pub finds_extension : (name : List ℕ) (items : List FoundItem) (item : FoundItem) (place : List (List ℕ)) (why : Option BreakWhy) → AreFound content_size base classes.Sysext host.arch (system_hierarchies host) items
      → find (is_extension_of name) items ≡ Some item → place ≡ item.place → item.kind ≡ kind_of_break why → FindsExtension host base name place why
  finds_extension name items item place why are at place_is kind_is =
      let among = found_among (is_extension_of name) items item at in
      record { items = items; found = are; item = item; among = among.0; name_is = same_name item.name name (and_parts _ _ among.1).0; place_is = sym place_is; kind_is = kind_is }

  pub finds_no_extension : OneFound content_size → (name : List ℕ) (items : List FoundItem) → AreFound content_size base classes.Sysext host.arch (system_hierarchies host) items
      → find (is_extension_of name) items ≡ None → IsNoExtension host base (Named name)
  finds_no_extension one name items are none place why other =
      let same : other.items ≡ items = one base classes.Sysext host.arch (system_hierarchies host) other.items items other.found are in
      found_nowhere (is_extension_of name) items other.item none (subst (λ xs. Contains xs other.item) same other.among)
      (and_from _ _ (tied_name other.item.name name other.name_is) (ap is_looked_into other.kind_is ∙ looked_into why))

  found_by_name : (items : List FoundItem) (item : FoundItem) → IsTrue (is_sorted order_of (by_name items)) → Contains items item → find_in order_of item.name (by_name items) ≡ Some item
  found_by_name items item ordered among =
      find_there order_of orders_total (by_name items) among.0 (item.name, item) ordered
      (slice_get-map (λ (i : FoundItem). (i.name, i)) items among.0
      ∙ ap (option_map (λ (i : FoundItem). (i.name, i))) (slice_get_read items (length items) among.0 item refl among.1 (sym among.2)))

  -- what is found leads to a directory, and to a release file where it can be used
  found_leads : (name : List ℕ) (place : List (List ℕ)) (why : Option BreakWhy) → FindsExtension host base name place why → LeadsToDirectory base place
  found_leads name place None finds =
      let least = finds.found.least finds.item.name finds.item (found_by_name finds.items finds.item finds.found.ordered finds.among) in
      let gives = subst (Gives content_size base classes.Sysext host.arch (system_hierarchies host) _ least.1 finds.item.place) finds.kind_is least.2.usable.entry.gives in
      subst (LeadsToDirectory base) finds.place_is (gives.2.0, gives.2.1, gives.2.2)
  found_leads name place (Some why) finds =
      let least = finds.found.least finds.item.name finds.item (found_by_name finds.items finds.item finds.found.ordered finds.among) in
      let gives = subst (Gives content_size base classes.Sysext host.arch (system_hierarchies host) _ least.1 finds.item.place) finds.kind_is least.2.usable.entry.gives in
      subst (LeadsToDirectory base) finds.place_is (gives.2.0, gives.2.1, gives.2.2)

  pub extension_leads : (image : Image) (place : List (List ℕ)) (why : Option BreakWhy) → IsExtensionAt host base image place why → LeadsToDirectory base place
  extension_leads (Named name) place why finds = found_leads name place why finds
  extension_leads (At path) place why at = subst (LeadsToDirectory base) (sym at.0) (at.1.directory, at.1.leads, at.1.open_)

  file_in : (image name : List ℕ) (directory other : List (List ℕ)) → directory ≡ other → name ≡ image → LeadsTo is_file_at (part directory base) (parts (release_text Sysext name)) → LeadsTo is_file_at (part other base) (parts (release_text Sysext image))
  file_in image name directory other same named leads =
      subst (λ d. LeadsTo is_file_at (part d base) (parts (release_text Sysext image))) same (subst (λ n. LeadsTo is_file_at (part directory base) (parts (release_text Sysext n))) named leads)

  pub extension_file_leads : (image : Image) (place : List (List ℕ)) (tree : Entries HeldFile) → IsExtensionAt host base image place None → IsTreeOf base place tree → LeadsToExtensionFile tree (image_name image)
  extension_file_leads (Named name) place tree finds is =
      let least = finds.found.least finds.item.name finds.item (found_by_name finds.items finds.item finds.found.ordered finds.among) in
      let entry = least.2.usable.entry in
      let gives = subst (Gives content_size base classes.Sysext host.arch (system_hierarchies host) _ least.1 finds.item.place) finds.kind_is entry.gives in
      let same = same_end base place gives.2.0 is.directory (subst (λ p. Ends base p gives.2.0) finds.place_is gives.2.1) is.leads in
      subst (λ es. LeadsToExtensionFile es name) (sym is.below) (file_in name _ gives.2.0 is.directory same (sym entry.stem ∙ finds.name_is) gives.2.3.2)
  extension_file_leads (At path) place tree at is =
      let same = same_end base place at.1.directory is.directory (subst (λ p. Ends base p at.1.directory) (sym at.0) at.1.leads) is.leads in
      subst (λ es. LeadsToExtensionFile es (image_name (At path))) (sym is.below) (file_in (image_name (At path)) (image_name (At path)) at.1.directory is.directory same refl at.1.breaks.2)

  -- a path that leads to a directory is an extension's, and one that leads to none is none's
  pub no_extension_path : (path : List (List ℕ)) → ¬ LeadsToDirectory base path → IsNoExtension host base (At path)
  no_extension_path path none place why at = none (at.1.directory, at.1.leads, at.1.open_)

  pub extension_path : (path directory : List (List ℕ)) (name : List ℕ) (why : Option BreakWhy) → Ends base path directory → IsTrue (is_directory_or_root base directory) → name ≡ last_name path
      → Breaks (part directory base) classes.Sysext (system_hierarchies host) name why → IsExtensionPath host base path why
  extension_path path directory name why leads open_ named breaks = record {
    directory = directory;
    leads = leads;
    open_ = open_;
    breaks = subst (λ (n : List ℕ). Breaks (part directory base) classes.Sysext (system_hierarchies host) n why) named breaks;
  }
