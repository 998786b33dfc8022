-- What the search for components lists, visit by visit.
use Rattle.std.proofs.Common.{◌≡◌, ◌⊎◌, ℕ, zero, suc, ◌+◌, ◌-◌, ◌<◌, ◌≤◌, true, false, cond, List, [], ◌∷◌, ◌++◌, length, take, drop, Option, Some, None, is_some, inl, inr, refl, sym, ap, ◌∙◌, subst, arith}
use Rattle.std.specs.Prelude.{codes, nat_eq, nat_lt}
use Rattle.std.specs.Cmp.Lexicographic.{pointwise, texts_ties}
use Rattle.std.specs.FinMap.Entries.{where_key}
use Rattle.std.specs.List.{Contains, starts_with}
use Rattle.std.specs.List.Sorted.{IsStrictlySortedBy}
use Rattle.std.specs.Option.{option_to_list}
use Rattle.std.proofs.Math.Seq.{drop-append_seam, take-append_seam}
use Rattle.std.proofs.lemmas.Bool.{false≢true, ltb-false, ltb-true}
use Rattle.std.proofs.lemmas.List.{append_cancel_left, append_cancel_right, length-append, take-append-drop}
use Rattle.std.proofs.lemmas.List.Elements.{Contains-append_cases, Contains-append_left, Contains-append_right}
use Rattle.std.proofs.lemmas.Option.{slice_get_within}
use Rattle.ext_lines.specs.ByteOrder.{bytes_cmp}
use Rattle.ext_text.specs.Name.{IsName}
use Rattle.ext_text.specs.Path.{path_cmp}
use Rattle.ext_text.proofs.ForCallers.{same_name, tied_name}
use Rattle.ext_tree.specs.Slices.{is_named}
use Rattle.ext_tree.specs.Tree.{Entries, lookup}
use Rattle.ext_tree.proofs.ForCallers.{lookup_where}
use Rattle.ext_transfer.specs.Component.{component_folder}
use Rattle.ext_walk.specs.Leads.{DirectoryAt, LeadsToDirectory}
use Rattle.ext_walk.specs.Row.{Passes}
use Rattle.ext_walk.proofs.ForCallers.{named_child}
use Rattle.ext_configs.specs.Components.{AreComponents, HasFolderAt, HasFolderIn, IsComponentIn}
use Rattle.ext_configs.specs.Folders.{OpensRoot, config_roots}
use Rattle.ext_configs.specs.Listed.{ComponentAt, IsNameOf, ListsComponents, NamesComponent, in_folders_passed, in_roots_before}
use Rattle.ext_configs.proofs.FolderLemmas.{one_opened}

abbrev start : List ℕ
start = codes "sysupdate."

abbrev suffix : List ℕ
suffix = codes ".d"

-- folders of one name are of one component
one_component : (a b : List ℕ) → component_folder a ≡ component_folder b → a ≡ b
one_component a b same = append_cancel_right a b suffix (append_cancel_left start (a ++ suffix) (b ++ suffix) same)

tied : (xs ys : List ℕ) → xs ≡ ys → pointwise nat_eq xs ys ≡ true
tied xs ys same = texts_ties xs ys ∙ tied_name xs ys same

-- bytes that are equal by their tests are equal
pub untied : (xs ys : List ℕ) → pointwise nat_eq xs ys ≡ true → xs ≡ ys
untied xs ys same = same_name xs ys (sym (texts_ties xs ys) ∙ same)

-- each component's folder begins so
begins : (name : List ℕ) → starts_with nat_eq (component_folder name) start ≡ true
begins name = tied start (take (length start) (component_folder name)) (sym (take-append_seam start (name ++ suffix)))

-- a folder that does not begin so is no component's
pub no_start : (folder : List ℕ) → pointwise nat_eq (take (length start) folder) start ≡ false → NamesComponent folder None
no_start folder other name is named =
    false≢true (sym other ∙ tied (take (length start) folder) start (ap (take (length start)) named ∙ take-append_seam start (name ++ suffix)))

rest_of : (folder rest : List ℕ) → pointwise nat_eq (take (length start) folder) start ≡ true → rest ≡ drop (length start) folder → folder ≡ start ++ rest
rest_of folder rest begins is =
    sym (take-append-drop (length start) folder) ∙ (λ i. untied (take (length start) folder) start begins i ++ sym is i)

length_before : (name : List ℕ) → length (name ++ suffix) - length suffix ≡ length name
length_before name = let both = length-append name suffix in omega arith

-- nor is one that does not end so
pub no_end : (folder rest : List ℕ) → pointwise nat_eq (take (length start) folder) start ≡ true → rest ≡ drop (length start) folder → pointwise nat_eq (drop (length rest - length suffix) rest) suffix ≡ false → NamesComponent folder None
no_end folder rest begins is other name named whole =
    let same : rest ≡ name ++ suffix = append_cancel_left start rest (name ++ suffix) (sym (rest_of folder rest begins is) ∙ whole) in
    false≢true (sym other ∙ tied (drop (length rest - length suffix) rest) suffix
    (ap (λ r. drop (length r - length suffix) r) same ∙ ap (λ n. drop n (name ++ suffix)) (length_before name) ∙ drop-append_seam name suffix))

-- one that begins and ends so is that of the name between, if it is one
pub between : (folder rest bytes : List ℕ) → pointwise nat_eq (take (length start) folder) start ≡ true → rest ≡ drop (length start) folder → pointwise nat_eq (drop (length rest - length suffix) rest) suffix ≡ true → bytes ≡ take (length rest - length suffix) rest → (found : Option (List ℕ)) → IsNameOf bytes found → NamesComponent folder found
between folder rest bytes begins is ends within found named = by_case found named
  where
    whole : folder ≡ component_folder bytes
    whole =
        rest_of folder rest begins is
        ∙ ap (λ r. start ++ r) (sym (take-append-drop (length rest - length suffix) rest)
        ∙ (λ i. sym within i ++ untied (drop (length rest - length suffix) rest) suffix ends i))

    by_case : (found : Option (List ℕ)) → IsNameOf bytes found → NamesComponent folder found
    by_case None none = λ name is named. none (subst IsName (one_component name bytes (sym named ∙ whole)) is)
    by_case (Some name) is = (is.0, whole ∙ ap component_folder (sym is.1))

module _ {C : Type 0} (es : Entries C) where
  -- a folder that is no component's is that of none
  pub unnamed_at : (directory : List (List ℕ)) (folder : List ℕ) → NamesComponent folder None → ComponentAt es directory folder None
  unnamed_at directory folder none name named has = none name has.is_name named

  -- an entry that leads to no directory is no folder
  pub closed_at : (directory : List (List ℕ)) (folder name : List ℕ) (path : List (List ℕ)) → path ≡ directory ++ folder ∷ [] → ¬ LeadsToDirectory es path → ComponentAt es directory folder None
  closed_at directory folder name path at none other named has =
      none (subst (LeadsToDirectory es) (ap (λ f. directory ++ f ∷ []) (sym named) ∙ sym at) has.leads)

  -- one that leads to a directory is
  pub open_at : (directory : List (List ℕ)) (folder name : List ℕ) (path end : List (List ℕ)) → path ≡ directory ++ folder ∷ [] → is_some (lookup es path) ≡ true → NamesComponent folder (Some name) → DirectoryAt es path (Some end) → ComponentAt es directory folder (Some name)
  open_at directory folder name path end at there named leads =
      let same : path ≡ directory ++ component_folder name ∷ [] = at ∙ ap (λ f. directory ++ f ∷ []) named.1 in (
        named.1,
        record {
          is_name = named.0;
          there = subst (λ p. is_some (lookup es p) ≡ true) same there;
          leads = subst (LeadsToDirectory es) same (end, leads.0, leads.1);
        },
      )

  -- before any visit nothing is listed
  pub lists_none : (names : List (List ℕ)) → names ≡ [] → ListsComponents es (in_roots_before 0) names
  lists_none names empty = record {
    each = λ name among. absurd (none name (subst (λ ns. Contains ns name) empty among));
    all = λ index name made has. absurd (omega (arith, made));
  }
    where
      none : (name : List ℕ) → Contains [] name → ⊥
      none name among = omega (arith, among.1)

  less_or_same : (j i : ℕ) → j < i + 1 → (j < i) ⊎ (j ≡ i)
  less_or_same j i within =
      elim (nat_lt j i) as (λ b. nat_lt j i ≡ b → (j < i) ⊎ (j ≡ i)) [
        | true ↦ λ less. inl (ltb-true j i less)
        | false ↦ λ other. let above : i ≤ j = ltb-false j i other in inr (omega arith)
      ] refl

  -- what holds of a directory's visits holds of all visits up to the next directory
  at_index : (names : List (List ℕ)) (index : ℕ) → ((name : List ℕ) → Contains names name → IsComponentIn es name) → ((j : ℕ) (name : List ℕ) → j < index → HasFolderAt es j name → Contains names name) → ((name : List ℕ) → HasFolderAt es index name → Contains names name) → ListsComponents es (in_roots_before (index + 1)) names
  at_index names index each before here = record { each = each; all = λ j name made has. by_case j name has (less_or_same j index made) }
    where
      by_case : (j : ℕ) (name : List ℕ) → HasFolderAt es j name → (j < index) ⊎ (j ≡ index) → Contains names name
      by_case j name has (inl less) = before j name less has
      by_case j name has (inr same) = here name (subst (λ i. HasFolderAt es i name) same has)

  -- visits to a directory that is not there
  pub lists_closed : (names : List (List ℕ)) (index : ℕ) → ((directory : List (List ℕ)) → ¬ OpensRoot es index directory) → ListsComponents es (in_roots_before index) names → ListsComponents es (in_roots_before (index + 1)) names
  lists_closed names index closed lists = at_index names index lists.each lists.all (λ name has. absurd (closed has.directory has.opens))

  module _ (index : ℕ) (directory : List (List ℕ)) (opens : OpensRoot es index directory) where
    has_here : (name : List ℕ) → HasFolderAt es index name → HasFolderIn es directory name
    has_here name has =
        subst (λ d. HasFolderIn es d name) (one_opened es config_roots index has.directory directory has.opens opens) has.folder

    -- at the start all names that begin so are left
    pub lists_start : (names : List (List ℕ)) (rest : Entries C) → rest ≡ where_key path_cmp (is_named directory start) es → ListsComponents es (in_roots_before index) names → ListsComponents es (in_folders_passed index directory rest) names
    lists_start names rest is lists = record { each = lists.each; all = all }
      where
        all : (j : ℕ) (name : List ℕ) → in_folders_passed index directory rest j name → HasFolderAt es j name → Contains names name
        all j name (inl less) has = lists.all j name less has
        all j name (inr here) has =
            let path : List (List ℕ) = directory ++ component_folder name ∷ [] in
            let there : is_some (lookup es path) ≡ true = (has_here name (subst (λ i. HasFolderAt es i name) here.0 has)).there in
            absurd (false≢true (sym (ap is_some here.1) ∙ ap (λ fs. is_some (lookup fs path)) is
            ∙ ap is_some (lookup_where (is_named directory start) path es
            ∙ ap (λ b. cond b (lookup es path) None) (named_child directory start (component_folder name) ∙ begins name)) ∙ there))

    -- at the end none is left
    pub lists_end : (names : List (List ℕ)) (rest : Entries C) → ((folder : List ℕ) → lookup rest (directory ++ folder ∷ []) ≡ None) → ListsComponents es (in_folders_passed index directory rest) names → ListsComponents es (in_roots_before (index + 1)) names
    lists_end names rest none lists =
        at_index names index lists.each (λ j name less has. lists.all j name (inl less) has)
        (λ name has. lists.all index name (inr (refl, none (component_folder name))) has)

    module _ (rest more : Entries C) (folder : List ℕ) (next : Passes directory rest folder more) (old new : List (List ℕ)) (lists : ListsComponents es (in_folders_passed index directory rest) old) where
      pub lists_next : (found : Option (List ℕ)) → ComponentAt es directory folder found → new ≡ old ++ option_to_list found → ListsComponents es (in_folders_passed index directory more) new
      lists_next found at adds = record { each = λ name among. each name (Contains-append_cases old (option_to_list found) name (subst (λ ns. Contains ns name) adds among)); all = all }
        where
          from_found : (found : Option (List ℕ)) → ComponentAt es directory folder found → (name : List ℕ) → Contains (option_to_list found) name → IsComponentIn es name
          from_found None none name among = absurd (omega (arith, among.1))
          from_found (Some x) is name (zero, within, same) = (index, record { directory = directory; opens = opens; folder = subst (HasFolderIn es directory) same is.1 })
          from_found (Some x) is name (suc k, within, same) = absurd (omega (arith, within))

          each : (name : List ℕ) → Contains old name ⊎ Contains (option_to_list found) name → IsComponentIn es name
          each name (inl before) = lists.each name before
          each name (inr own) = from_found found at name own

          added : (name : List ℕ) → Contains (old ++ option_to_list found) name → Contains new name
          added name among = subst (λ ns. Contains ns name) (sym adds) among

          old_made : (j : ℕ) (name : List ℕ) → in_folders_passed index directory rest j name → HasFolderAt es j name → Contains new name
          old_made j name made has = added name (Contains-append_left old (option_to_list found) name (lists.all j name made has))

          own_made : (found : Option (List ℕ)) → ComponentAt es directory folder found → (name : List ℕ) → folder ≡ component_folder name → HasFolderIn es directory name → Contains (option_to_list found) name
          own_made None none name same has = absurd (none name same has)
          own_made (Some x) is name same has = (0, omega arith, one_component x name (sym is.0 ∙ same))

          here : (name : List ℕ) → HasFolderAt es index name → (lookup rest (directory ++ component_folder name ∷ []) ≡ None) ⊎ (component_folder name ≡ folder) → Contains new name
          here name has (inl gone) = old_made index name (inr (refl, gone)) has
          here name has (inr same) = added name (Contains-append_right old (option_to_list found) name (own_made found at name (sym same) (has_here name has)))

          all : (j : ℕ) (name : List ℕ) → in_folders_passed index directory more j name → HasFolderAt es j name → Contains new name
          all j name (inl less) has = old_made j name (inl less) has
          all j name (inr at_) has = here name (subst (λ i. HasFolderAt es i name) at_.0 has) (next.passed (component_folder name) at_.1)

  -- what was listed after the last directory, in order
  pub components_listed : (names sorted : List (List ℕ)) → ListsComponents es (in_roots_before (length config_roots)) names → IsStrictlySortedBy bytes_cmp sorted → ((name : List ℕ) → Contains names name → Contains sorted name) → ((name : List ℕ) → Contains sorted name → Contains names name) → AreComponents es sorted
  components_listed names sorted lists ascending whole alone = record {
    sorted = ascending;
    whole = λ name. (
      λ among. lists.each name (alone name among),
      λ is. whole name (lists.all is.0 name (slice_get_within config_roots is.0 is.1.opens.path is.1.opens.searched) is.1),
    );
  }
