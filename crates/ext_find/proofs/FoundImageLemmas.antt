-- What an entry gives, by its ending.
use Rattle.std.proofs.Common.{◌≡◌, ℕ, Bool, true, false, List, [], ◌∷◌, ◌++◌, Option, Some, None, is_some, refl, sym, ap, ◌∙◌, subst}
use Rattle.std.specs.Prelude.{IsTrue, ◌↔◌, IfOk, Result, Ok, Err}
use Rattle.std.specs.Option.{option_map}
use Rattle.std.proofs.lemmas.Bool.{false≢true}
use Rattle.ext_text.specs.Name.{IsName}
use Rattle.ext_text.specs.Path.{IsPath}
use Rattle.ext_text.specs.declared.arch.Arch.{Arch}
use Rattle.ext_text.specs.declared.class.Class.{Class}
use Rattle.ext_tree.specs.Tree.{Entries, IsTree, lookup}
use Rattle.ext_walk.specs.Leads.{DirectoryAt, LeadsTo, LeadsToDirectory}
use Rattle.ext_walk.specs.Walk.{is_idle, is_up}
use Rattle.ext_find.specs.Content.{is_full_at, is_mask_at}
use Rattle.ext_find.specs.Ending.{ending_of, is_hidden, stem_of}
use Rattle.ext_find.specs.Found.{Gives, IsPlace, IsReleaseOf, LeadsToRaw}
use Rattle.ext_find.specs.Pick.{IsPick, Picks}
use Rattle.ext_find.specs.Usable.{FoundImageAt, ImageAt, IsBelow, IsCheck, IsKind, IsMaskAt, IsRawAt, IsSeen, IsStem, PickedAt, UsableAt, found_image_of, item_with}
use Rattle.ext_find.specs.declared.ending.Ending.{Ending}
use Rattle.ext_find.specs.declared.ending.Ending.TheVariants.{Plain, DotRaw, DotV, DotRawV}
use Rattle.ext_find.specs.declared.found.FoundKind.{FoundKind}
use Rattle.ext_find.specs.declared.found.FoundKind.TheVariants.{Image, Masked, Raw, Broken}
use Rattle.ext_find.specs.declared.found_image.FoundImage.{FoundImage}
use Rattle.ext_find.specs.declared.image.ImageCheck.{ImageCheck}
use Rattle.ext_find.specs.declared.image.ImageCheck.TheVariants as checks
use Rattle.ext_find.proofs.PartedLemmas.{path_leads, plain_name, not_up}
use Rattle.ext_find.proofs.PickLemmas.{one_pick}

-- whether names lead to a directory
pub directory_some : {C : Type 0} (es : Entries C) (names : List (List ℕ)) (o : Option (List (List ℕ))) → DirectoryAt es names o → IsTrue (is_some o) ↔ LeadsToDirectory es names
directory_some es names None none = (λ some. absurd (false≢true some), λ leads. absurd (none leads))
directory_some es names (Some end) leads = (λ _. (end, leads.0, leads.1), λ _. refl)

module _ {C : Type 0} (size : C → ℕ) (es : Entries C) (class : Class) (arch : Arch) (hierarchies : List (List ℕ)) where
  -- what is found at the place is what a look into the image there says
  pub found_image_seen : (place : List (List ℕ)) (stem : List ℕ) (check : ImageCheck) → IsCheck size es class arch hierarchies place stem check → IsSeen size es class arch hierarchies stem (found_image_of place check)
  found_image_seen place stem (checks.Usable release) check = ((check.0, check.1, check.2, check.3.0), (check.0, check.1, check.3.1))
  found_image_seen place stem (checks.Broken why) check = ((check.0, check.1, check.2, check.3), refl)

  pub found_image_place : (place : List (List ℕ)) (check : ImageCheck) → (found_image_of place check).place ≡ place
  found_image_place place (checks.Usable release) = refl
  found_image_place place (checks.Broken why) = refl

  pub found_image_checked : (place : List (List ℕ)) (stem : List ℕ) (check : ImageCheck) → IsPath place → IsCheck size es class arch hierarchies place stem check → ImageAt size es class arch hierarchies place stem (Some (found_image_of place check))
  found_image_checked place stem check within is = (found_image_place place check, within, found_image_seen place stem check is)

  kind_leads : (place : List (List ℕ)) (stem : List ℕ) (kind : FoundKind) → IsKind size es class arch hierarchies place stem kind → LeadsToDirectory es place
  kind_leads place stem Image image = (image.0, image.1, image.2)
  kind_leads place stem Masked none = absurd none
  kind_leads place stem Raw none = absurd none
  kind_leads place stem (Broken why) image = (image.0, image.1, image.2)

  pick_leads : IsTree es → (path : List (List ℕ)) (stem name : List ℕ) → IsPick es arch path stem name → LeadsToDirectory es path
  pick_leads tree path stem name pick =
      path_leads es tree path pick.candidate.leads.0 name pick.candidate.leads.1 (ap is_idle pick.candidate.named ∙ plain_name stem pick.candidate.text) (ap is_up pick.candidate.named ∙ not_up stem pick.candidate.text)

  pub none_without_directory : IsTree es → (path : List (List ℕ)) (stem : List ℕ) → ¬ LeadsToDirectory es path → PickedAt size es class arch hierarchies path stem None
  none_without_directory tree path stem none place within at leads = none (pick_leads tree path stem at.0 at.2)

  pub none_picked : (path : List (List ℕ)) (stem : List ℕ) → Picks es arch path stem None → PickedAt size es class arch hierarchies path stem None
  none_picked path stem none place within at leads = none at.0 at.2

  pub none_within : (path : List (List ℕ)) (stem name : List ℕ) → IsPick es arch path stem name → IsBelow path name None → PickedAt size es class arch hierarchies path stem None
  none_within path stem name pick past place within at leads =
      past (subst IsPath (at.1 ∙ ap (λ n. path ++ n ∷ []) (one_pick es arch path stem at.0 name at.2 pick)) within)

  pub one_picked : (path : List (List ℕ)) (stem name : List ℕ) (place : List (List ℕ)) → IsPick es arch path stem name → IsBelow path name (Some place) → (found_image : Option FoundImage) → ImageAt size es class arch hierarchies place stem found_image → PickedAt size es class arch hierarchies path stem found_image
  one_picked path stem name place pick is None none = λ other within at leads.
      none (subst (LeadsToDirectory es) (at.1 ∙ ap (λ n. path ++ n ∷ []) (one_pick es arch path stem at.0 name at.2 pick) ∙ sym is.1) leads)
  one_picked path stem name place pick is (Some found_image) image = (
    (name, image.0 ∙ is.1, pick),
    subst IsPath (sym image.0) image.1,
    image.2,
  )

  module _ (path : List (List ℕ)) (name : List ℕ) where
    pub mask_found_image : is_mask_at size (lookup es path) ≡ true → (found_image : Option FoundImage) → IsMaskAt path found_image → FoundImageAt size es class arch hierarchies path name found_image
    mask_found_image mask None none = absurd none
    mask_found_image mask (Some found_image) is = (
      subst (Gives size es class arch hierarchies path name found_image.place) (sym is.1) (mask, is.0),
      subst IsPath (sym is.0) is.3,
      subst (λ k. IsReleaseOf size es class arch hierarchies found_image.place (stem_of name) k found_image.release) (sym is.1) is.2,
    )

    module _ (plain : is_mask_at size (lookup es path) ≡ false) where
      -- nothing is given where no image and no image in a file is there
      gives_none : ((place : List (List ℕ)) → IsPath place → IsPlace size es class arch hierarchies path (stem_of name) (ending_of name) place → ¬ LeadsToDirectory es place) → ¬ LeadsToRaw size es class arch hierarchies path (ending_of name) → FoundImageAt size es class arch hierarchies path name None
      gives_none images raw place Image within gives = images place within gives.1 (kind_leads place (stem_of name) Image gives.2)
      gives_none images raw place Masked within gives = false≢true (sym plain ∙ gives.0)
      gives_none images raw place Raw within gives = raw gives.2
      gives_none images raw place (Broken why) within gives = images place within gives.1 (kind_leads place (stem_of name) (Broken why) gives.2)

      gives_image : (place : List (List ℕ)) (kind : FoundKind) → IsPlace size es class arch hierarchies path (stem_of name) (ending_of name) place → IsKind size es class arch hierarchies place (stem_of name) kind → Gives size es class arch hierarchies path name place kind
      gives_image place Image at is = (plain, at, is)
      gives_image place Masked at none = absurd none
      gives_image place Raw at none = absurd none
      gives_image place (Broken why) at is = (plain, at, is)

      at_ending : (ending : Ending) → ending_of name ≡ ending → (place : List (List ℕ)) → IsPlace size es class arch hierarchies path (stem_of name) ending place → IsPlace size es class arch hierarchies path (stem_of name) (ending_of name) place
      at_ending ending is place = subst (λ e. IsPlace size es class arch hierarchies path (stem_of name) e place) (sym is)

      from_ending : (ending : Ending) → ending_of name ≡ ending → (place : List (List ℕ)) → IsPlace size es class arch hierarchies path (stem_of name) (ending_of name) place → IsPlace size es class arch hierarchies path (stem_of name) ending place
      from_ending ending is place = subst (λ e. IsPlace size es class arch hierarchies path (stem_of name) e place) is

      raw_ending : (ending : Ending) → ending_of name ≡ ending → LeadsToRaw size es class arch hierarchies path (ending_of name) → LeadsToRaw size es class arch hierarchies path ending
      raw_ending ending is = subst (LeadsToRaw size es class arch hierarchies path) is

      pub plain_found_image : ending_of name ≡ Plain → (found_image : Option FoundImage) → ImageAt size es class arch hierarchies path (stem_of name) found_image → FoundImageAt size es class arch hierarchies path name found_image
      plain_found_image ending None none =
          gives_none (λ place within at leads. none (subst (LeadsToDirectory es) (from_ending Plain ending place at) leads)) (raw_ending Plain ending)
      plain_found_image ending (Some found_image) is = (gives_image found_image.place found_image.kind (at_ending Plain ending found_image.place is.0) is.2.0, subst IsPath (sym is.0) is.1, is.2.1)

      pub picked_found_image : ending_of name ≡ DotV → (found_image : Option FoundImage) → PickedAt size es class arch hierarchies path (stem_of name) found_image → FoundImageAt size es class arch hierarchies path name found_image
      picked_found_image ending None none = gives_none (λ place within at. none place within (from_ending DotV ending place at)) (raw_ending DotV ending)
      picked_found_image ending (Some found_image) is = (gives_image found_image.place found_image.kind (at_ending DotV ending found_image.place is.0) is.2.0, is.1, is.2.1)

      found_image_in_file : (ending : Ending) → ending_of name ≡ ending → ((place : List (List ℕ)) → ¬ IsPlace size es class arch hierarchies path (stem_of name) ending place) → (leads : Bool) → IsTrue leads ↔ LeadsToRaw size es class arch hierarchies path ending → (found_image : Option FoundImage) → IsRawAt path leads found_image → FoundImageAt size es class arch hierarchies path name found_image
      found_image_in_file ending is no_place leads tells None none =
          gives_none (λ place within at. absurd (no_place place (from_ending ending is place at))) (λ raw. false≢true (sym none ∙ tells.1 (raw_ending ending is raw)))
      found_image_in_file ending is no_place leads tells (Some found_image) at = (
        subst (Gives size es class arch hierarchies path name found_image.place) (sym at.2) (plain, at.1, subst (LeadsToRaw size es class arch hierarchies path) (sym is) (tells.0 at.0)),
        subst IsPath (sym at.1) at.4,
        subst (λ k. IsReleaseOf size es class arch hierarchies found_image.place (stem_of name) k found_image.release) (sym at.2) at.3,
      )

      pub raw_found_image : ending_of name ≡ DotRaw → (leads : Bool) → IsTrue leads ↔ LeadsTo (is_full_at size) es path → (found_image : Option FoundImage) → IsRawAt path leads found_image → FoundImageAt size es class arch hierarchies path name found_image
      raw_found_image is = found_image_in_file DotRaw is (λ place none. none)

      pub raw_v_found_image : ending_of name ≡ DotRawV → (leads : Bool) → IsTrue leads ↔ LeadsToDirectory es path → (found_image : Option FoundImage) → IsRawAt path leads found_image → FoundImageAt size es class arch hierarchies path name found_image
      raw_v_found_image is = found_image_in_file DotRawV is (λ place none. none)

  module _ (directory : List (List ℕ)) (name : List ℕ) where
    pub item_hidden : is_hidden name ≡ true → UsableAt size es class arch hierarchies directory name None
    item_hidden hidden item usable = false≢true (sym usable.shown ∙ hidden)

    pub item_absent : lookup es (directory ++ name ∷ []) ≡ None → UsableAt size es class arch hierarchies directory name None
    item_absent none item usable = false≢true (sym (ap is_some none) ∙ usable.there)

    pub item_unnamed : IsStem name None → UsableAt size es class arch hierarchies directory name None
    item_unnamed none item usable = none (subst IsName usable.stem usable.named)

    pub item_named : (stem : List ℕ) → IsTrue (is_some (lookup es (directory ++ name ∷ []))) → is_hidden name ≡ false → IsStem name (Some stem) → (found_image : Option FoundImage) → FoundImageAt size es class arch hierarchies (directory ++ name ∷ []) name found_image → UsableAt size es class arch hierarchies directory name (option_map (item_with stem) found_image)
    item_named stem there shown named None none = λ item usable. none item.place item.kind usable.path usable.gives
    item_named stem there shown named (Some found_image) is = record { there = there; shown = shown; stem = named.1; named = named.0; gives = is.0; path = is.1; release = subst (λ s. IsReleaseOf size es class arch hierarchies found_image.place s found_image.kind found_image.release) (sym named.1) is.2 }

-- what follows of the value of a result
pub if_ok : {A E : Type 0} (P Q : A → Type 0) (r : Result A E) → ((x : A) → P x → Q x) → IfOk r P → IfOk r Q
if_ok P Q (Ok x) then_ is = then_ x is
if_ok P Q (Err e) then_ is = tt
