-- Where an attachment puts something: its pieces may be put, and where they fit they are put at its tops.
use Rattle.std.proofs.Common.{◌≡◌, ℕ, zero, suc, ◌<◌, Bool, true, false, cond, ◌||◌, ◌&&◌, if◌then◌else◌, List, [], ◌∷◌, ◌++◌, length, map, take, None, inl, inr, refl, sym, ap, ◌∙◌, subst, arith}
use Rattle.std.specs.Prelude.{◌⊎◌, codes}
use Rattle.std.specs.List.{AllByRecursion, filter}
use Rattle.std.specs.List.Sorted.{IsStrictlySortedBy}
use Rattle.std.specs.Ordering.{eq_by_cmp}
use Rattle.std.proofs.lemmas.Bool.{false≢true, or_cases}
use Rattle.ext_lines.specs.ByteOrder.{bytes_cmp}
use Rattle.ext_text.specs.Path.{is_proper_prefix, path_cmp}
use Rattle.ext_text.specs.SortedPaths.{is_among}
use Rattle.ext_text.proofs.ForCallers.{all_append, proper_first, same_path}
use Rattle.ext_tree.specs.Graft.{is_non_directory_at}
use Rattle.ext_tree.specs.Tree.{Entries, lookup}
use Rattle.ext_host.specs.Held.{HeldFile}
use Rattle.ext_units.specs.ImageName.{last_name}
use Rattle.ext_units.specs.Units.{has_unit_suffix, names_of}
use Rattle.ext_units.specs.declared.unit_file.UnitFile.{UnitFile}
use Rattle.ext_updated.specs.Clash.{MeetsAnother}
use Rattle.ext_updated.specs.Pieces.{IsPiece, MayBePut, paths_of}
use Rattle.ext_updated.specs.declared.piece.Piece.{Piece}
use Rattle.ext_updated.proofs.ForCallers.{among_cases}
use Rattle.ext_added.specs.Added.{copies_images, image_piece, image_piece_by, image_pieces, image_top, is_service, pieces_of, service_piece, services, unit_piece}
use Rattle.ext_added.specs.Destination.{destination, drop_in_name, fits_name, image_directory, upper_directory}
use Rattle.ext_added.specs.Tops.{FitsAttaching, FitsService, has_drop_ins, image_tops, image_ways, tops_of, ways_of}
use Rattle.ext_added.specs.declared.attaching.Attaching.{Attaching}
use Rattle.ext_added.proofs.ApartLemmas.{AreUnrelated, image_apart, image_far, in_directory, made_distinct, names_apart, one_distinct, unrelated_apart}

map_append : {X Y : Type 0} (f : X → Y) (xs ys : List X) → map f (xs ++ ys) ≡ map f xs ++ map f ys
map_append f [] ys = refl
map_append f (x ∷ xs) ys = ap (λ zs. f x ∷ zs) (map_append f xs ys)

abbrev drop_ins_named : List UnitFile → List (List ℕ)
drop_ins_named units = map (λ (u : UnitFile). drop_in_name u.name) units

-- the names in the directory of images
abbrev images_named : Attaching → List (List ℕ)
images_named made = cond made.outside (last_name made.place ∷ []) []

-- paths in both directories
abbrev in_both : Attaching → List UnitFile → List (List (List ℕ))
in_both made some = in_directory (destination made.runtime) (names_of made.units ++ drop_ins_named some) ++ in_directory (image_directory made.runtime) (images_named made)

abbrev path_of : Piece HeldFile → List (List ℕ)
path_of piece = piece.path

module _ (made : Attaching) where
  units_paths : (tree : Entries HeldFile) (units : List UnitFile) → paths_of (map (unit_piece made tree) units) ≡ in_directory (destination made.runtime) (names_of units)
  units_paths tree [] = refl
  units_paths tree (u ∷ units) = ap (λ ps. (destination made.runtime ++ u.name ∷ []) ∷ ps) (units_paths tree units)

  services_paths : (units : List UnitFile) → paths_of (map (service_piece made) units) ≡ in_directory (destination made.runtime) (drop_ins_named units)
  services_paths [] = refl
  services_paths (u ∷ units) = ap (λ ps. (destination made.runtime ++ drop_in_name u.name ∷ []) ∷ ps) (services_paths units)

  image_path : (image : Entries HeldFile) → (image_piece made image).path ≡ image_top made
  image_path image = elim (copies_images made.copy) as (λ b. path_of (image_piece_by made image b) ≡ image_top made) [ true ↦ refl | false ↦ refl ]

  images_paths : (image : Entries HeldFile) → paths_of (image_pieces made image) ≡ in_directory (image_directory made.runtime) (images_named made)
  images_paths image = elim made.outside as (λ b. paths_of (if b then image_piece made image ∷ [] else []) ≡ in_directory (image_directory made.runtime) (cond b (last_name made.place ∷ []) [])) [
    | true ↦ ap (λ p. p ∷ []) (image_path image)
    | false ↦ refl
  ]

  -- the paths of the pieces
  pub pieces_paths : (image tree : Entries HeldFile) → paths_of (pieces_of made image tree) ≡ in_both made (services made.units)
  pieces_paths image tree =
      map_append path_of (map (unit_piece made tree) made.units ++ map (service_piece made) (services made.units)) (image_pieces made image)
      ∙ ap (λ ps. ps ++ paths_of (image_pieces made image)) (map_append path_of (map (unit_piece made tree) made.units) (map (service_piece made) (services made.units)))
      ∙ (λ i. (units_paths tree made.units i ++ services_paths (services made.units) i) ++ images_paths image i)
      ∙ ap (λ ps. ps ++ in_directory (image_directory made.runtime) (images_named made)) (sym (map_append (λ n. destination made.runtime ++ n ∷ []) (names_of made.units) (drop_ins_named (services made.units))))

  -- each is the path of a name in one of the directories
  tops_named : (units : List UnitFile) → map (λ (unit : UnitFile). destination made.runtime ++ unit.name ∷ []) units ≡ in_directory (destination made.runtime) (names_of units)
  tops_named [] = refl
  tops_named (u ∷ units) = ap (λ ps. (destination made.runtime ++ u.name ∷ []) ∷ ps) (tops_named units)

  drop_in_tops_named : (units : List UnitFile) → map (λ (unit : UnitFile). destination made.runtime ++ drop_in_name unit.name ∷ []) units ≡ in_directory (destination made.runtime) (drop_ins_named units)
  drop_in_tops_named [] = refl
  drop_in_tops_named (u ∷ units) = ap (λ ps. (destination made.runtime ++ drop_in_name u.name ∷ []) ∷ ps) (drop_in_tops_named units)

  image_tops_named : image_tops made ≡ in_directory (image_directory made.runtime) (images_named made)
  image_tops_named = elim made.outside as (λ b. (if b then image_top made ∷ [] else []) ≡ in_directory (image_directory made.runtime) (cond b (last_name made.place ∷ []) [])) [ true ↦ refl | false ↦ refl ]

  pub tops_paths : tops_of made ≡ in_both made (filter has_drop_ins made.units)
  tops_paths =
      (λ i. (tops_named made.units i ++ drop_in_tops_named (filter has_drop_ins made.units) i) ++ image_tops_named i)
      ∙ ap (λ ps. ps ++ in_directory (image_directory made.runtime) (images_named made)) (sym (map_append (λ n. destination made.runtime ++ n ∷ []) (names_of made.units) (drop_ins_named (filter has_drop_ins made.units))))

  -- where all names fit, each service has drop-ins
  all_have : (units : List UnitFile) → AllByRecursion (FitsService made) (services units) → filter has_drop_ins units ≡ services units
  all_have [] fit = refl
  all_have (u ∷ units) fit = elim (is_service u) as (λ b. is_service u ≡ b → AllByRecursion (FitsService made) (cond b (u ∷ services units) (services units))
      → cond (b && fits_name (drop_in_name u.name)) (u ∷ filter has_drop_ins units) (filter has_drop_ins units) ≡ cond b (u ∷ services units) (services units)) [
        | true ↦ λ _ all. ap (λ b. cond b (u ∷ filter has_drop_ins units) (filter has_drop_ins units)) (all.0).name ∙ ap (λ us. u ∷ us) (all_have units all.1)
        | false ↦ λ _ all. all_have units all
      ] refl fit

  -- so the pieces are put at the tops
  pub tops_fit : (image tree : Entries HeldFile) → FitsAttaching made → paths_of (pieces_of made image tree) ≡ tops_of made
  tops_fit image tree fit =
      pieces_paths image tree ∙ ap (in_both made) (sym (all_have made.units fit.services_fit)) ∙ sym tops_paths

  -- none is put at the root
  no_root : (d : List (List ℕ)) (ns : List (List ℕ)) (a : List ℕ) (rest : List (List ℕ)) → d ≡ a ∷ rest → is_among (in_directory d ns) [] ≡ false
  no_root d [] a rest is = refl
  no_root d (n ∷ ns) a rest is = ap (λ e. eq_by_cmp path_cmp [] (e ++ n ∷ []) || is_among (in_directory d ns) []) is ∙ no_root d ns a rest is

  among_none : (xs ys : List (List (List ℕ))) → is_among xs [] ≡ false → is_among ys [] ≡ false → is_among (xs ++ ys) [] ≡ false
  among_none [] ys first second = second
  among_none (x ∷ xs) ys first second = elim (eq_by_cmp path_cmp [] x) as (λ b. (b || is_among xs []) ≡ false → (b || is_among (xs ++ ys) []) ≡ false) [
    | true ↦ λ none. none
    | false ↦ λ none. among_none xs ys none second
  ] first

  -- so it is no top
  pub no_top_root : is_among (tops_of made) [] ≡ false
  no_top_root =
      ap (λ ps. is_among ps []) tops_paths
      ∙ among_none (in_directory (destination made.runtime) (names_of made.units ++ drop_ins_named (filter has_drop_ins made.units))) (in_directory (image_directory made.runtime) (images_named made))
      (no_root (destination made.runtime) (names_of made.units ++ drop_ins_named (filter has_drop_ins made.units)) (upper_directory made.runtime) (codes "systemd" ∷ codes "system.attached" ∷ []) refl)
      (no_root (image_directory made.runtime) (images_named made) (upper_directory made.runtime) (codes "portables" ∷ []) refl)

  module _ (sorted : IsStrictlySortedBy bytes_cmp (names_of made.units)) (unit : AllByRecursion (λ (u : UnitFile). has_unit_suffix u.name ≡ true) made.units) where
    -- no two of them are related
    unrelated : AreUnrelated (in_both made (services made.units))
    unrelated =
        names_apart made.runtime (names_of made.units ++ drop_ins_named (services made.units)) (images_named made)
        (made_distinct is_service made.units sorted unit) (one_distinct (last_name made.place) made.outside) (image_far made.runtime (last_name made.place) made.outside)
        (image_apart made.runtime (last_name made.place) made.outside)

    -- each piece has a part only below a directory
    units_pieces : (tree : Entries HeldFile) (units : List UnitFile) → AllByRecursion IsPiece (map (unit_piece made tree) units)
    units_pieces tree [] = tt
    units_pieces tree (u ∷ units) = ((λ _. refl), units_pieces tree units)

    services_pieces : (units : List UnitFile) → AllByRecursion IsPiece (map (service_piece made) units)
    services_pieces [] = tt
    services_pieces (u ∷ units) = ((λ none. absurd (false≢true (sym none))), services_pieces units)

    image_is_piece : (image : Entries HeldFile) → IsPiece (image_piece made image)
    image_is_piece image = elim (copies_images made.copy) as (λ b. IsPiece (image_piece_by made image b)) [
      | true ↦ λ none. absurd (false≢true (sym none))
      | false ↦ λ _. refl
    ]

    images_pieces : (image : Entries HeldFile) → AllByRecursion IsPiece (image_pieces made image)
    images_pieces image = elim made.outside as (λ b. AllByRecursion IsPiece (if b then image_piece made image ∷ [] else [])) [
      | true ↦ (image_is_piece image, tt)
      | false ↦ tt
    ]

    all_pieces : (image tree : Entries HeldFile) → AllByRecursion IsPiece (pieces_of made image tree)
    all_pieces image tree =
        all_append IsPiece (map (unit_piece made tree) made.units ++ map (service_piece made) (services made.units)) (image_pieces made image)
        (all_append IsPiece (map (unit_piece made tree) made.units) (map (service_piece made) (services made.units)) (units_pieces tree made.units) (services_pieces (services made.units)))
        (images_pieces image)

    -- what stands above one is a directory
    above_units : (runtime : Bool) (n : List ℕ) (rest : List (List (List ℕ))) (q : List (List ℕ)) (k : ℕ) → q ≡ take k (destination runtime ++ n ∷ []) → k < 4
        → (q ≡ []) ⊎ (is_among ((upper_directory runtime ∷ []) ∷ (upper_directory runtime ∷ codes "systemd" ∷ []) ∷ destination runtime ∷ rest) q ≡ true)
    above_units runtime n rest q zero is low = inl is
    above_units true n rest q (suc zero) is low = inr (ap (is_among ((codes "run" ∷ []) ∷ (codes "run" ∷ codes "systemd" ∷ []) ∷ destination true ∷ rest)) is)
    above_units false n rest q (suc zero) is low = inr (ap (is_among ((codes "etc" ∷ []) ∷ (codes "etc" ∷ codes "systemd" ∷ []) ∷ destination false ∷ rest)) is)
    above_units true n rest q (suc (suc zero)) is low = inr (ap (is_among ((codes "run" ∷ []) ∷ (codes "run" ∷ codes "systemd" ∷ []) ∷ destination true ∷ rest)) is)
    above_units false n rest q (suc (suc zero)) is low = inr (ap (is_among ((codes "etc" ∷ []) ∷ (codes "etc" ∷ codes "systemd" ∷ []) ∷ destination false ∷ rest)) is)
    above_units true n rest q (suc (suc (suc zero))) is low = inr (ap (is_among ((codes "run" ∷ []) ∷ (codes "run" ∷ codes "systemd" ∷ []) ∷ destination true ∷ rest)) is)
    above_units false n rest q (suc (suc (suc zero))) is low = inr (ap (is_among ((codes "etc" ∷ []) ∷ (codes "etc" ∷ codes "systemd" ∷ []) ∷ destination false ∷ rest)) is)
    above_units runtime n rest q (suc (suc (suc (suc k)))) is low = absurd (omega arith)

    above_images : (runtime : Bool) (n : List ℕ) (q : List (List ℕ)) (k : ℕ) → q ≡ take k (image_directory runtime ++ n ∷ []) → k < 3
        → (q ≡ []) ⊎ (is_among ((upper_directory runtime ∷ []) ∷ (upper_directory runtime ∷ codes "systemd" ∷ []) ∷ destination runtime ∷ image_directory runtime ∷ []) q ≡ true)
    above_images runtime n q zero is low = inl is
    above_images true n q (suc zero) is low = inr (ap (is_among ((codes "run" ∷ []) ∷ (codes "run" ∷ codes "systemd" ∷ []) ∷ destination true ∷ image_directory true ∷ [])) is)
    above_images false n q (suc zero) is low = inr (ap (is_among ((codes "etc" ∷ []) ∷ (codes "etc" ∷ codes "systemd" ∷ []) ∷ destination false ∷ image_directory false ∷ [])) is)
    above_images true n q (suc (suc zero)) is low = inr (ap (is_among ((codes "run" ∷ []) ∷ (codes "run" ∷ codes "systemd" ∷ []) ∷ destination true ∷ image_directory true ∷ [])) is)
    above_images false n q (suc (suc zero)) is low = inr (ap (is_among ((codes "etc" ∷ []) ∷ (codes "etc" ∷ codes "systemd" ∷ []) ∷ destination false ∷ image_directory false ∷ [])) is)
    above_images runtime n q (suc (suc (suc k))) is low = absurd (omega arith)

    named_in : (d : List (List ℕ)) (ns : List (List ℕ)) (p : List (List ℕ)) → is_among (in_directory d ns) p ≡ true → (n : List ℕ) × (p ≡ d ++ n ∷ [])
    named_in d [] p among = absurd (false≢true among)
    named_in d (n ∷ ns) p among = elim (or_cases (eq_by_cmp path_cmp p (d ++ n ∷ [])) (is_among (in_directory d ns) p) among) [
      | inl here ↦ (n, same_path p (d ++ n ∷ []) here)
      | inr later ↦ named_in d ns p later
    ]

    module _ (root : Entries HeldFile) (top : lookup root [] ≡ None)
        (open_ : (path : List (List ℕ)) → is_among (ways_of made) path ≡ true → is_non_directory_at (lookup root path) ≡ false) where
      opened : (q : List (List ℕ)) → ((q ≡ []) ⊎ (is_among (ways_of made) q ≡ true)) → is_non_directory_at (lookup root q) ≡ false
      opened q (inl root_is) = ap (λ p. is_non_directory_at (lookup root p)) root_is ∙ ap is_non_directory_at top
      opened q (inr way) = open_ q way

      -- below the directory of units, and below that of images
      units_open : (p q : List (List ℕ)) (n : List ℕ) → p ≡ destination made.runtime ++ n ∷ [] → is_proper_prefix q p ≡ true → is_non_directory_at (lookup root q) ≡ false
      units_open p q n is proper =
          let first = (proper_first q p).0 proper in
          let shorter = first.1 in
          let long = long_units made.runtime n in
          opened q (above_units made.runtime n (image_ways made) q (length q) (first.0 ∙ ap (take (length q)) is) (omega (arith, shorter, ap length is, long)))
        where
          long_units : (runtime : Bool) (n : List ℕ) → length (destination runtime ++ n ∷ []) ≡ 4
          long_units runtime n = refl

      images_open : (p q : List (List ℕ)) (n : List ℕ) → made.outside ≡ true → p ≡ image_directory made.runtime ++ n ∷ [] → is_proper_prefix q p ≡ true → is_non_directory_at (lookup root q) ≡ false
      images_open p q n outside is proper =
          let first = (proper_first q p).0 proper in
          let shorter = first.1 in
          opened q (moved (above_images made.runtime n q (length q) (first.0 ∙ ap (take (length q)) is) (omega (arith, shorter, ap length is))))
        where
          moved : ((q ≡ []) ⊎ (is_among ((upper_directory made.runtime ∷ []) ∷ (upper_directory made.runtime ∷ codes "systemd" ∷ []) ∷ destination made.runtime ∷ image_directory made.runtime ∷ []) q ≡ true))
              → (q ≡ []) ⊎ (is_among (ways_of made) q ≡ true)
          moved (inl root_is) = inl root_is
          moved (inr way) = inr (ap (λ b. is_among ((upper_directory made.runtime ∷ []) ∷ (upper_directory made.runtime ∷ codes "systemd" ∷ []) ∷ destination made.runtime ∷ (if b then image_directory made.runtime ∷ [] else [])) q) outside ∙ way)

      none_outside : (p : List (List ℕ)) → made.outside ≡ false → is_among (in_directory (image_directory made.runtime) (images_named made)) p ≡ true → ⊥
      none_outside p inside among = false≢true (sym (ap (λ b. is_among (in_directory (image_directory made.runtime) (cond b (last_name made.place ∷ []) [])) p) inside) ∙ among)

      all_open : (p q : List (List ℕ)) → is_among (in_both made (services made.units)) p ≡ true → is_proper_prefix q p ≡ true → is_non_directory_at (lookup root q) ≡ false
      all_open p q among proper =
          elim (among_cases (in_directory (destination made.runtime) (names_of made.units ++ drop_ins_named (services made.units))) (in_directory (image_directory made.runtime) (images_named made)) p among) [
            | inl unit_is ↦ let n = named_in (destination made.runtime) (names_of made.units ++ drop_ins_named (services made.units)) p unit_is in units_open p q n.0 n.1 proper
            | inr image_is ↦ elim made.outside as (λ b. made.outside ≡ b → is_non_directory_at (lookup root q) ≡ false) [
              | true ↦ λ outside. let n = named_in (image_directory made.runtime) (images_named made) p image_is in images_open p q n.0 outside n.1 proper
              | false ↦ λ inside. absurd (none_outside p inside image_is)
            ] refl
          ]

      -- so they may be put
      pub may_put : (image tree : Entries HeldFile) → MayBePut root [] (pieces_of made image tree)
      may_put image tree =
          let paths = pieces_paths image tree in
          record {
            each = all_pieces image tree;
            apart = λ p. subst (λ ps. ¬ MeetsAnother ps p) (sym paths) (unrelated_apart (in_both made (services made.units)) p unrelated);
            below_root = ap (λ ps. is_among ps []) paths
                ∙ among_none (in_directory (destination made.runtime) (names_of made.units ++ drop_ins_named (services made.units))) (in_directory (image_directory made.runtime) (images_named made))
                (no_root (destination made.runtime) (names_of made.units ++ drop_ins_named (services made.units)) (upper_directory made.runtime) (codes "systemd" ∷ codes "system.attached" ∷ []) refl)
                (no_root (image_directory made.runtime) (images_named made) (upper_directory made.runtime) (codes "portables" ∷ []) refl);
            opens = λ p q among proper. all_open p q (ap (λ ps. is_among ps p) (sym paths) ∙ among) proper;
          }
