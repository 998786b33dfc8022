-- What is made of an image of a valid host is made of files of that host alone.
use Rattle.std.proofs.Common.{◌≡◌, ◌≢◌, ℕ, true, List, [], ◌∷◌, ◌++◌, length, Option, Some, None, is_some, inl, inr, refl, sym, ap, ◌∙◌, subst, arith, length-append}
use Rattle.std.specs.Prelude.{Contains, IsTrue}
use Rattle.std.specs.FinMap.{find as find_in, is_sorted}
use Rattle.std.specs.List.{AllByRecursion}
use Rattle.std.specs.Option.{option_map}
use Rattle.std.proofs.lemmas.Option.{slice_get-map, slice_get_read}
use Rattle.ext_attributes.proofs.ForCallers.{mode_in_range}
use Rattle.ext_attributes.specs.Attributes.{IsAttributes}
use Rattle.ext_text.specs.Digest.{IsDigest}
use Rattle.ext_text.specs.Path.{IsPath}
use Rattle.ext_text.specs.declared.class.Class.TheVariants as classes
use Rattle.ext_tree.specs.EntryLine.{IsWritable}
use Rattle.ext_tree.specs.Tree.{Entries, IsTree, is_directory_at, is_directory_or_root, lookup}
use Rattle.ext_tree.specs.declared.entry.Entry.{Entry}
use Rattle.ext_tree.specs.declared.entry.Entry.TheVariants.{Dir, Opaque, File, Link, Hide}
use Rattle.ext_tree.proofs.ForCallers.{find_there}
use Rattle.ext_vers.specs.Order.{orders_total}
use Rattle.ext_vers.specs.Version.{order_of}
use Rattle.ext_walk.proofs.ForCallers.{same_end}
use Rattle.ext_host.specs.Held.{HeldFile}
use Rattle.ext_host.specs.Planning.{IsBaseTree, content_size}
use Rattle.ext_host.specs.Valid.{IsValidHost, held_form}
use Rattle.ext_host.specs.declared.host.Host.{Host}
use Rattle.ext_find.specs.Content.{is_file_at}
use Rattle.ext_find.specs.Found.{Gives, IsPlace, by_name}
use Rattle.ext_find.specs.Ending.{ending_of, stem_of}
use Rattle.ext_find.specs.declared.ending.Ending.{Ending}
use Rattle.ext_find.specs.declared.ending.Ending.TheVariants.{Plain, DotRaw, DotV, DotRawV}
use Rattle.ext_find.specs.declared.found.FoundItem.{FoundItem}
use Rattle.ext_units.specs.Image.{FindsImage, IsImageAt}
use Rattle.ext_units.specs.Laws.{UnitsAscend}
use Rattle.ext_units.specs.Units.{AreUnits, IsUnit, has_unit_suffix}
use Rattle.ext_units.specs.declared.body.Body.{Body}
use Rattle.ext_units.specs.declared.image.Image.{Image}
use Rattle.ext_units.specs.declared.image.Image.TheVariants.{Named, At}
use Rattle.ext_units.specs.declared.unit_file.UnitFile.{UnitFile}
use Rattle.ext_units.proofs.ForCallers.{each_unit}
use Rattle.ext_added.specs.Attaching.{IsAttaching, directory_attributes, is_outside, shown_for}
use Rattle.ext_added.specs.DropIn.{own_text}
use Rattle.ext_added.specs.Entries.{IsWellMade}
use Rattle.ext_added.specs.Profile.{IsProfile, LeadsToProfile}
use Rattle.ext_added.specs.declared.ask.Ask.{Ask}
use Rattle.ext_added.specs.declared.attaching.Attaching.{Attaching}
use Rattle.ext_added.specs.declared.profile.Profile.{Profile}
use Rattle.ext_port.specs.Given.{AreFilesOf, AreUnitsIn, IsAsked, IsBodyIn, IsHostFile, IsSoundMade}
use Rattle.ext_port.proofs.ContainLemmas.{each_contained, found_holds}
use Rattle.ext_port.proofs.FilesLemmas.{base_entry, base_file, part_entry, tree_files}

module _ (host : Host) (base : Entries HeldFile) (valid : IsValidHost host) (is_base : IsBaseTree host base) where
  -- an entry of the base is in range
  pub base_range : (q : List (List ℕ)) (e : Entry HeldFile) → lookup base q ≡ Some e → IsWritable held_form e
  base_range q e found = elim (base_entry host base is_base q e found) [
    | inl seen ↦ found_holds (IsWritable held_form) host.root q e valid.present.limits.root seen
    | inr under ↦ found_holds (IsWritable held_form) host.lower q e valid.present.limits.lower under
  ]

  -- the attributes of a directory are in their ranges
  attributes_are : (o : Option (Entry HeldFile)) → ((e : Entry HeldFile) → o ≡ Some e → IsWritable held_form e) → IsAttributes (directory_attributes o)
  attributes_are None range = mode_in_range 493 (omega arith)
  attributes_are (Some (Dir attributes)) range = range (Dir attributes) refl
  attributes_are (Some (Opaque attributes)) range = range (Opaque attributes) refl
  attributes_are (Some (File attributes held)) range = mode_in_range 493 (omega arith)
  attributes_are (Some (Link owner target)) range = mode_in_range 493 (omega arith)
  attributes_are (Some Hide) range = mode_in_range 493 (omega arith)

  directory_there : (o : Option (Entry HeldFile)) → is_directory_at o ≡ true → is_some o ≡ true
  directory_there None directory = directory
  directory_there (Some e) directory = refl

  directory_path : (d : List (List ℕ)) → is_directory_or_root base d ≡ true → IsPath d
  directory_path [] directory = record { each = tt; depth = omega arith; size = omega arith }
  directory_path (n ∷ d) directory = is_base.tree.paths (n ∷ d) (directory_there (lookup base (n ∷ d)) directory)

  -- the place of an image is below the root
  some_below : (directory : List (List ℕ)) (n : List ℕ) → directory ++ n ∷ [] ≢ []
  some_below directory n none = let long = ap length none in omega (arith, long, length-append directory (n ∷ []))

  placed : (path : List (List ℕ)) (stem : List ℕ) (ending : Ending) (place : List (List ℕ)) → path ≢ [] → IsPlace content_size base classes.Portable host.arch [] path stem ending place → place ≢ []
  placed path stem Plain place below is root = below (sym is ∙ root)
  placed path stem DotRaw place below is root = absurd is
  placed path stem DotV place below is root = some_below path is.0 (sym is.1 ∙ root)
  placed path stem DotRawV place below is root = absurd is

  found_by_name : (items : List FoundItem) (item : FoundItem) → IsTrue (is_sorted order_of (by_name items)) → Contains items item → find_in order_of item.name (by_name items) ≡ Some item
  found_by_name items item ordered among =
      find_there order_of orders_total (by_name items) among.0 (item.name, item) ordered
      (slice_get-map (λ (i : FoundItem). (i.name, i)) items among.0
      ∙ ap (option_map (λ (i : FoundItem). (i.name, i))) (slice_get_read items (length items) among.0 item refl among.1 (sym among.2)))

  found_below : (name : List ℕ) (place : List (List ℕ)) → FindsImage base host.arch name place → place ≢ []
  found_below name place finds root =
      let least = finds.found.least finds.item.name finds.item (found_by_name finds.items finds.item finds.found.ordered finds.among) in
      let usable = least.2.usable in
      let path = usable.directory ++ least.1 ∷ [] in
      let gives = subst (Gives content_size base classes.Portable host.arch [] path least.1 finds.item.place) finds.is_item.image usable.entry.gives in
      placed path (stem_of least.1) (ending_of least.1) finds.item.place (some_below usable.directory least.1) gives.1 (finds.is_item.place_is ∙ root)

  image_below : (image : Image) (place : List (List ℕ)) → IsAsked image → IsImageAt base host.arch image place → place ≢ []
  image_below (Named name) place asked at = found_below name place at
  image_below (At path) place asked at = λ root. asked (sym at.0 ∙ root)

  -- a profile is a file of the host, at a path
  profile_leads : (name : List ℕ) (profile : Profile) → IsProfile base name profile → (names : List (List ℕ)) × LeadsToProfile base names profile
  profile_leads name profile (inl first) = (_, first)
  profile_leads name profile (inr (inl second)) = (_, second.1)
  profile_leads name profile (inr (inr third)) = (_, third.2)

  module _ (ask : Ask) (body : Body) (tree : Entries HeldFile) (units : List UnitFile) (profile : Profile) (lines : List ℕ) (made : Attaching)
      (asked : IsAsked ask.image) (body_in : IsBodyIn host base ask.image body) (files : AreFilesOf host tree) (are : AreUnitsIn tree units) (ascend : UnitsAscend HeldFile)
      (is_tree : IsTree tree) (place : IsPath body.place) (is_profile : IsProfile base ask.profile profile) (is : IsAttaching base ask body units profile lines made)
      (digest : IsDigest made.own.stamp.digest.0) where
    unit_of : (u : UnitFile) → Contains units u → IsUnit tree are.0 u.name u.file
    unit_of u at = each_unit tree are.0 units u are.1 at

    each : (P : UnitFile → Type 0) → ((u : UnitFile) → IsUnit tree are.0 u.name u.file → P u) → AllByRecursion P made.units
    each P holds = subst (AllByRecursion P) (sym is.units_are) (each_contained P units (λ u at. holds u (unit_of u at)))

    file_there : (o : Option (Entry HeldFile)) → is_file_at o ≡ true → is_some o ≡ true
    file_there None file = file
    file_there (Some e) file = refl

    same_directory : made.directory ≡ body_in.is_tree.directory
    same_directory = same_end base body.place made.directory body_in.is_tree.directory is.leads body_in.is_tree.leads

    leads : (names : List (List ℕ)) × LeadsToProfile base names profile
    leads = profile_leads ask.profile profile is_profile

    image_entry : (q : List (List ℕ)) (e : Entry HeldFile) → lookup body.tree q ≡ Some e → (r : List (List ℕ)) × (lookup base r ≡ Some e)
    image_entry q e found = part_entry host base is_base body_in.is_tree.directory q e (sym (ap (λ es. lookup es q) body_in.is_tree.below) ∙ found)

    well : IsWellMade made
    well = record {
      directory = subst IsPath (sym same_directory) (directory_path body_in.is_tree.directory body_in.is_tree.open_);
      files = each (λ u. IsPath u.file) (λ u unit. is_tree.paths u.file (file_there (lookup tree u.file) unit.is_file));
      profile = subst IsPath (ap (λ (p : Profile). p.path) (sym is.profile_is)) (is_base.tree.paths profile.path (ap is_some leads.1.stands));
      place = subst IsPath (sym is.place) place;
      attributes = subst IsAttributes (sym is.attributes) (attributes_are (lookup base made.directory) (λ e found. base_range made.directory e found));
    }

    -- so what is made is sound
    pub sound_made : IsSoundMade host made body.tree tree
    sound_made = record {
      well = well;
      place = λ root. image_below ask.image body.place asked body_in.is_image (sym is.place ∙ root);
      sorted = ascend tree are.0 made.units (subst (AreUnits tree are.0) (sym is.units_are) are.1);
      unit_names = each (λ u. has_unit_suffix u.name ≡ true) (λ u unit. unit.is_name.suffix);
      unit_files = each (λ u. is_file_at (lookup tree u.file) ≡ true) (λ u unit. unit.is_file);
      profile = subst (λ (p : Profile). IsHostFile host p.file) (sym is.profile_is) (base_file host base is_base profile.file (record { path = profile.path; attributes = leads.1.attributes; stands = leads.1.stands }));
      text = own_text body.place (shown_for ask.runtime ask.copy (is_outside ask.image) body.place) lines;
      own = is.own;
      digest = digest;
      image_range = λ q e found. let r = image_entry q e found in base_range r.0 e r.1;
      image_files = tree_files host base is_base body.place body.tree body_in.is_tree;
      tree_files = files;
    }
