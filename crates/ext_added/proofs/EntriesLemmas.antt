-- What each entry is that an attachment puts.
use Rattle.std.proofs.Common.{◌≡◌, ℕ, true, false, cond, ◌||◌, if◌then◌else◌, List, [], ◌∷◌, ◌++◌, map, Option, Some, None, inl, inr, refl, sym, subst, arith}
use Rattle.std.specs.Prelude.{codes}
use Rattle.std.specs.List.{AllByRecursion, list_any}
use Rattle.std.specs.Ordering.{eq_by_cmp}
use Rattle.std.proofs.lemmas.Bool.{false≢true}
use Rattle.std.proofs.lemmas.Option.{none-some, same_Some}
use Rattle.ext_attributes.specs.Attributes.{OfFile, root_owner}
use Rattle.ext_attributes.proofs.ForCallers.{mode_in_range}
use Rattle.ext_text.specs.Absolute.{absolute}
use Rattle.ext_text.specs.Path.{IsPath, path_cmp}
use Rattle.ext_text.proofs.ForCallers.{all_append}
use Rattle.ext_tree.specs.Tree.{Entries, lookup}
use Rattle.ext_tree.specs.declared.entry.Entry.{Entry}
use Rattle.ext_tree.specs.declared.entry.Entry.TheVariants.{Dir, Opaque, File, Link, Hide}
use Rattle.ext_host.specs.Drawn.{HasFile}
use Rattle.ext_host.specs.Held.{HeldFile}
use Rattle.ext_find.specs.Content.{is_file_at}
use Rattle.ext_units.specs.declared.unit_file.UnitFile.{UnitFile}
use Rattle.ext_added.specs.Added.{copied, copies_images, copies_profiles, drop_ins, image_piece, image_piece_by, image_pieces, is_service, links_units, made_attributes, pieces_of, profile_entry, service_piece, services, unit_entry, unit_piece, unit_target}
use Rattle.ext_added.specs.Entries.{IsAddedEntry, IsAddedPiece, IsMadeEntry, IsWellMade}
use Rattle.ext_added.specs.Tops.{FitsAttaching, FitsProfile, FitsService, FitsUnit}
use Rattle.ext_added.specs.declared.attaching.Attaching.{Attaching}
use Rattle.ext_added.proofs.TextLemmas.{absolute_target, both_target}

-- where no unit is a service there are no services
none_served : (us : List UnitFile) → list_any is_service us ≡ false → services us ≡ []
none_served [] none = refl
none_served (u ∷ us) none = elim (is_service u) as (λ b. (b || list_any is_service us) ≡ false → cond b (u ∷ services us) (services us) ≡ []) [
  | true ↦ λ some. absurd (false≢true (sym some))
  | false ↦ λ rest. none_served us rest
] none

module _ (made : Attaching) (image tree : Entries HeldFile) (well : IsWellMade made) where
  copied_made : (o : Option (Entry HeldFile)) → is_file_at o ≡ true → ((attributes : OfFile) (held : HeldFile) → o ≡ Some (File attributes held) → HasFile tree held) → IsMadeEntry made image tree (copied o)
  copied_made None file has = absurd (false≢true file)
  copied_made (Some (Dir attributes)) file has = absurd (false≢true file)
  copied_made (Some (Opaque attributes)) file has = absurd (false≢true file)
  copied_made (Some (File attributes held)) file has = (refl, inr (inr (has attributes held refl)))
  copied_made (Some (Link owner target)) file has = absurd (false≢true file)
  copied_made (Some Hide) file has = absurd (false≢true file)

  unit_made : (u : UnitFile) → is_file_at (lookup tree u.file) ≡ true → IsPath u.file → FitsUnit made u → IsMadeEntry made image tree (unit_entry made tree u)
  unit_made u file path fits =
      elim (links_units made.copy) as (λ b. links_units made.copy ≡ b → IsMadeEntry made image tree (if b then Link root_owner (unit_target made u) else copied (lookup tree u.file))) [
        | true ↦ λ linked. (refl, both_target made.directory u.file well.directory path (fits linked))
        | false ↦ λ _. copied_made (lookup tree u.file) file (λ attributes held stands. record { path = u.file; attributes = attributes; stands = stands })
      ] refl

  profile_made : FitsProfile made → IsMadeEntry made image tree (profile_entry made)
  profile_made fits =
      elim (copies_profiles made.copy) as (λ b. copies_profiles made.copy ≡ b → IsMadeEntry made image tree (if b then File made_attributes made.profile.file else Link root_owner (absolute made.profile.path))) [
        | true ↦ λ _. (refl, inr (inl refl))
        | false ↦ λ linked. (refl, absolute_target made.profile.path well.profile.each (fits linked))
      ] refl

  nothing_in : (path : List (List ℕ)) (e : Entry HeldFile) → lookup [] path ≡ Some e → IsAddedEntry made image tree e
  nothing_in path e found = absurd (none-some e found)

  units_added : (units : List UnitFile) → AllByRecursion (λ (u : UnitFile). is_file_at (lookup tree u.file) ≡ true) units → AllByRecursion (λ (u : UnitFile). IsPath u.file) units → AllByRecursion (FitsUnit made) units
      → AllByRecursion (IsAddedPiece made image tree) (map (unit_piece made tree) units)
  units_added [] files paths fits = tt
  units_added (u ∷ units) files paths fits =
      (record { top = inl (unit_made u files.0 paths.0 fits.0); part = nothing_in }, units_added units files.1 paths.1 fits.1)

  drop_in_added : list_any is_service made.units ≡ true → FitsProfile made → (path : List (List ℕ)) (e : Entry HeldFile) → lookup (drop_ins made) path ≡ Some e → IsAddedEntry made image tree e
  drop_in_added some fits path e found =
      elim (eq_by_cmp path_cmp path (codes "10-profile.conf" ∷ [])) as (λ b. cond b (Some (profile_entry made)) (cond (eq_by_cmp path_cmp path (codes "20-portable.conf" ∷ [])) (Some (File made_attributes made.own)) None) ≡ Some e → IsAddedEntry made image tree e) [
        | true ↦ λ first. subst (IsAddedEntry made image tree) (same_Some (profile_entry made) e first) (inl (profile_made fits))
        | false ↦ elim (eq_by_cmp path_cmp path (codes "20-portable.conf" ∷ [])) as (λ b. cond b (Some (File made_attributes made.own)) None ≡ Some e → IsAddedEntry made image tree e) [
          | true ↦ λ second. subst (IsAddedEntry made image tree) (same_Some (File made_attributes made.own) e second) (inl (refl, inl (refl, some)))
          | false ↦ λ none. absurd (none-some e none)
        ]
      ] found

  services_added : list_any is_service made.units ≡ true → (units : List UnitFile) → AllByRecursion (FitsService made) units → AllByRecursion (IsAddedPiece made image tree) (map (service_piece made) units)
  services_added some [] fits = tt
  services_added some (u ∷ units) fits = (record { top = inl (mode_in_range 493 (omega arith)); part = drop_in_added some (fits.0).profile }, services_added some units fits.1)

  all_services : AllByRecursion (FitsService made) (services made.units) → AllByRecursion (IsAddedPiece made image tree) (map (service_piece made) (services made.units))
  all_services fits =
      elim (list_any is_service made.units) as (λ b. list_any is_service made.units ≡ b → AllByRecursion (IsAddedPiece made image tree) (map (service_piece made) (services made.units))) [
        | true ↦ λ some. services_added some (services made.units) fits
        | false ↦ λ none. subst (λ us. AllByRecursion (IsAddedPiece made image tree) (map (service_piece made) us)) (sym (none_served made.units none)) tt
      ] refl

  image_added : (copies_images made.copy ≡ false → IsMadeEntry made image tree (Link root_owner (absolute made.place))) → IsAddedPiece made image tree (image_piece made image)
  image_added linked =
      elim (copies_images made.copy) as (λ b. copies_images made.copy ≡ b → IsAddedPiece made image tree (image_piece_by made image b)) [
        | true ↦ λ _. record { top = inl well.attributes; part = λ path e found. inr (path, found) }
        | false ↦ λ links. record { top = inl (linked links); part = nothing_in }
      ] refl

  -- each piece is made of a made directory, a link, a file that was made or copied, or of the image
  pub pieces_added : AllByRecursion (λ (u : UnitFile). is_file_at (lookup tree u.file) ≡ true) made.units → FitsAttaching made → AllByRecursion (IsAddedPiece made image tree) (pieces_of made image tree)
  pieces_added files fits =
      all_append (IsAddedPiece made image tree) (map (unit_piece made tree) made.units ++ map (service_piece made) (services made.units)) (image_pieces made image)
      (all_append (IsAddedPiece made image tree) (map (unit_piece made tree) made.units) (map (service_piece made) (services made.units))
      (units_added made.units files well.files fits.units) (all_services fits.services_fit))
      (elim made.outside as (λ b. made.outside ≡ b → AllByRecursion (IsAddedPiece made image tree) (if b then image_piece made image ∷ [] else [])) [
        | true ↦ λ outside. (image_added (λ links. (refl, absolute_target made.place well.place.each (fits.image outside links))), tt)
        | false ↦ λ _. tt
      ] refl)
