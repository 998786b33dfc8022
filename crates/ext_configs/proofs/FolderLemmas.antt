-- The texts of folders, and where they lead.
use Rattle.std.proofs.Common.{◌≡◌, ℕ, ◌<◌, Bool, true, false, eqb, List, [], ◌∷◌, ◌++◌, length, Option, Some, None, refl, sym, ap, ◌∙◌, subst, arith}
use Rattle.std.specs.Prelude.{slice_get}
use Rattle.std.specs.List.{onto_first, slice_split}
use Rattle.std.specs.Option.{option_map, unwrap_or}
use Rattle.std.proofs.lemmas.List.Splits.{length-slice_split, slice_split-cons_no, slice_split-cons_yes}
use Rattle.std.proofs.lemmas.Option.{slice_get-map}
use Rattle.ext_text.specs.Name.{IsName}
use Rattle.ext_text.proofs.ForCallers.{name_parts, parts_some}
use Rattle.ext_tree.specs.Tree.{Entries}
use Rattle.ext_walk.specs.Leads.{DirectoryAt, LeadsToDirectory}
use Rattle.ext_walk.specs.Walk.{Ends, parts}
use Rattle.ext_walk.proofs.ForCallers.{same_end}
use Rattle.ext_configs.specs.Folders.{OpensAmong, config_folder, config_folders, config_roots}

abbrev slash : ℕ → Bool
slash b = eqb b 47

onto_first-append : (x : ℕ) (xs ys : List (List ℕ)) → 0 < length xs → onto_first x (xs ++ ys) ≡ onto_first x xs ++ ys
onto_first-append x [] ys some = absurd (omega arith)
onto_first-append x (part ∷ xs) ys some = refl

-- the parts of two texts with a slash between are the parts of both
parts_append : (xs ys : List ℕ) → slice_split slash (xs ++ 47 ∷ ys) ≡ slice_split slash xs ++ slice_split slash ys
parts_append [] ys = refl
parts_append (x ∷ xs) ys =
    elim (slash x) as (λ t. slash x ≡ t → slice_split slash (x ∷ (xs ++ 47 ∷ ys)) ≡ slice_split slash (x ∷ xs) ++ slice_split slash ys) [
      | true ↦ λ is.
          slice_split-cons_yes slash x (xs ++ 47 ∷ ys) is
          ∙ ap (λ (l : List (List ℕ)). [] ∷ l) (parts_append xs ys)
          ∙ ap (λ (l : List (List ℕ)). l ++ slice_split slash ys) (sym (slice_split-cons_yes slash x xs is))
      | false ↦ λ is.
          slice_split-cons_no slash x (xs ++ 47 ∷ ys) is
          ∙ ap (onto_first x) (parts_append xs ys)
          ∙ onto_first-append x (slice_split slash xs) (slice_split slash ys) (omega (arith, length-slice_split slash xs))
          ∙ ap (λ (l : List (List ℕ)). l ++ slice_split slash ys) (sym (slice_split-cons_no slash x xs is))
    ] refl

-- a name is its only part
pub one_part_of_name : (name bytes : List ℕ) → bytes ≡ name → IsName name → parts bytes ≡ name ∷ []
one_part_of_name name bytes same is = ap parts same ∙ sym (parts_some name is.non_empty) ∙ name_parts name name refl is

-- no folder has an index that no directory has
pub no_folder : (component : Option (List ℕ)) (index : ℕ) → slice_get config_roots index ≡ None → slice_get (config_folders component) index ≡ None
no_folder component index none =
    slice_get-map (λ root. root ++ config_folder component ∷ []) config_roots index
    ∙ ap (option_map (λ root. root ++ config_folder component ∷ [])) none

-- the text of a folder: that of its directory, a slash, and its name
pub folder_below : (component : Option (List ℕ)) (index : ℕ) (root folder text : List ℕ) → slice_get config_roots index ≡ Some (parts root) → parts folder ≡ config_folder component ∷ [] → text ≡ root ++ 47 ∷ folder → slice_get (config_folders component) index ≡ Some (parts text)
folder_below component index root folder text at one same =
    slice_get-map (λ r. r ++ config_folder component ∷ []) config_roots index
    ∙ ap (option_map (λ r. r ++ config_folder component ∷ [])) at
    ∙ ap (λ p. Some (parts root ++ p)) (sym one)
    ∙ ap Some (sym (parts_append root folder))
    ∙ ap (λ t. Some (parts t)) (sym same)

module _ {C : Type 0} (es : Entries C) where
  -- a path of a list leads to one directory
  pub one_opened : (paths : List (List (List ℕ))) (index : ℕ) (a b : List (List ℕ)) → OpensAmong es paths index a → OpensAmong es paths index b → a ≡ b
  one_opened paths index a b first other =
      let same : first.path ≡ other.path = ap (λ o. unwrap_or o first.path) (sym first.searched ∙ other.searched) in
      same_end es other.path a b (subst (λ p. Ends es p a) same first.leads) other.leads

  -- an index past the last opens nothing
  pub past_closed : (paths : List (List (List ℕ))) (index : ℕ) → slice_get paths index ≡ None → (directory : List (List ℕ)) → ¬ OpensAmong es paths index directory
  past_closed paths index none directory opens = none_some (sym none ∙ opens.searched)
    where
      none_some : {X : Type 0} {x : X} → None ≡ Some x → ⊥
      none_some e = subst (λ o. elim o as (λ _. Type 0) [ None ↦ Unit {0} | Some x ↦ ⊥ ]) e tt

  -- a path that leads to no directory opens nothing
  pub path_closed : (paths : List (List (List ℕ))) (index : ℕ) (path : List (List ℕ)) → slice_get paths index ≡ Some path → ¬ LeadsToDirectory es path → (directory : List (List ℕ)) → ¬ OpensAmong es paths index directory
  path_closed paths index path at none directory opens =
      let same : opens.path ≡ path = ap (λ o. unwrap_or o path) (sym opens.searched ∙ at) in
      none (directory, subst (λ p. Ends es p directory) same opens.leads, opens.open_)

  -- a path that leads to a directory opens it
  pub path_opens : (paths : List (List (List ℕ))) (index : ℕ) (path directory : List (List ℕ)) → slice_get paths index ≡ Some path → DirectoryAt es path (Some directory) → OpensAmong es paths index directory
  path_opens paths index path directory at leads = record { path = path; searched = at; leads = leads.0; open_ = leads.1 }
