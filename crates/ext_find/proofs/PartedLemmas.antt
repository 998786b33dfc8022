-- A walk along names one after another is two walks: what leads on from the end of the first ones. Belongs to ext_walk.
use Rattle.std.proofs.Common.{◌≡◌, ℕ, suc, zero, ◌+◌, true, false, cond, List, [], ◌∷◌, ◌++◌, Option, Some, None, is_some, refl, sym, ap, ◌∙◌, subst}
use Rattle.std.specs.Prelude.{nat_eq, nat_le}
use Rattle.std.specs.Option.{option_and_then, option_map}
use Rattle.std.proofs.lemmas.List.{append_assoc}
use Rattle.ext_text.specs.Path.{parent}
use Rattle.ext_tree.specs.declared.entry.Entry.{Entry}
use Rattle.ext_tree.specs.declared.entry.Entry.TheVariants.{Dir, Opaque, File, Link, Hide}
use Rattle.ext_tree.specs.Tree.{Entries, IsTree, lookup, is_directory_or_root}
use Rattle.ext_tree.proofs.ForCallers.{parent_child}
use Rattle.ext_walk.specs.Leads.{LeadsToDirectory}
use Rattle.ext_walk.specs.Walk.{Walk, walk, Ends, EndsFrom, enter, follow, is_absolute, is_idle, is_up, most_links, parts, step, steps}
use Rattle.ext_walk.specs.Steps.{Same}
use Rattle.ext_walk.proofs.ForCallers.{from_some, no_some, same_self, same_step, step_into, stuck}

-- the walk with more names left
abbrev with_more : List (List ℕ) → Walk → Walk
with_more more (walk at left links) = walk at (left ++ more) links

module _ {C : Type 0} (es : Entries C) (more : List (List ℕ)) where
  more_followed : (target : List ℕ) (at left : List (List ℕ)) (links : ℕ) → follow target at (left ++ more) links ≡ option_map (with_more more) (follow target at left links)
  more_followed target at left links =
      elim (nat_le most_links links) as (λ b. cond b None (Some (walk (cond (is_absolute target) [] at) (parts target ++ (left ++ more)) (links + 1))) ≡ option_map (with_more more) (cond b None (Some (walk (cond (is_absolute target) [] at) (parts target ++ left) (links + 1))))) [
        | true ↦ refl
        | false ↦ ap (λ l. Some (walk (cond (is_absolute target) [] at) l (links + 1))) (sym (append_assoc (parts target) left more))
      ]

  more_entered : (o : Option (Entry C)) (at : List (List ℕ)) (name : List ℕ) (left : List (List ℕ)) (links : ℕ) → enter o at name (left ++ more) links ≡ option_map (with_more more) (enter o at name left links)
  more_entered None at name left links = refl
  more_entered (Some (Dir attributes)) at name left links = refl
  more_entered (Some (Opaque attributes)) at name left links = refl
  more_entered (Some (File attributes content)) at name left links = refl
  more_entered (Some (Link owner target)) at name left links = more_followed target at left links
  more_entered (Some Hide) at name left links = refl

  more_stepped : (at : List (List ℕ)) (name : List ℕ) (left : List (List ℕ)) (links : ℕ) → step es (walk at (name ∷ (left ++ more)) links) ≡ option_map (with_more more) (step es (walk at (name ∷ left) links))
  more_stepped at name left links =
      elim (is_idle name) as (λ b. cond b (Some (walk at (left ++ more) links)) (cond (is_up name) (cond (is_directory_or_root es at) (Some (walk (parent at) (left ++ more) links)) None) (cond (is_directory_or_root es at) (enter (lookup es (at ++ name ∷ [])) at name (left ++ more) links) None))
      ≡ option_map (with_more more) (cond b (Some (walk at left links)) (cond (is_up name) (cond (is_directory_or_root es at) (Some (walk (parent at) left links)) None) (cond (is_directory_or_root es at) (enter (lookup es (at ++ name ∷ [])) at name left links) None)))) [
        | true ↦ refl
        | false ↦ elim (is_up name) as (λ b. cond b (cond (is_directory_or_root es at) (Some (walk (parent at) (left ++ more) links)) None) (cond (is_directory_or_root es at) (enter (lookup es (at ++ name ∷ [])) at name (left ++ more) links) None)
            ≡ option_map (with_more more) (cond b (cond (is_directory_or_root es at) (Some (walk (parent at) left links)) None) (cond (is_directory_or_root es at) (enter (lookup es (at ++ name ∷ [])) at name left links) None))) [
              | true ↦ elim (is_directory_or_root es at) as (λ b. cond b (Some (walk (parent at) (left ++ more) links)) None ≡ option_map (with_more more) (cond b (Some (walk (parent at) left links)) None)) [
                | true ↦ refl
                | false ↦ refl
              ]
              | false ↦ elim (is_directory_or_root es at) as (λ b. cond b (enter (lookup es (at ++ name ∷ [])) at name (left ++ more) links) None ≡ option_map (with_more more) (cond b (enter (lookup es (at ++ name ∷ [])) at name left links) None)) [
                | true ↦ more_entered (lookup es (at ++ name ∷ [])) at name left links
                | false ↦ refl
              ]
            ]
      ]

  -- the walk's end along the first names, and the ends from there
  pub parted_from : (count : ℕ) (w : Walk) (at : List (List ℕ)) (links : ℕ) → steps es count w ≡ Some (walk at [] links) → Same es (with_more more w) (walk at more links)
  parted_from zero w at links ends = subst (λ v. Same es (with_more more w) (with_more more v)) (from_some ends) (same_self es (with_more more w))
  parted_from (suc count) (walk from [] used) at links ends = absurd (no_some ends)
  parted_from (suc count) (walk from (name ∷ left) used) at links ends =
      by_step (λ v rest. parted_from count v at links rest) (step es (walk from (name ∷ left) used)) refl ends
    where
      by_step : ((v : Walk) → steps es count v ≡ Some (walk at [] links) → Same es (with_more more v) (walk at more links)) → (o : Option Walk) → step es (walk from (name ∷ left) used) ≡ o → option_and_then (steps es count) o ≡ Some (walk at [] links) → Same es (walk from ((name ∷ left) ++ more) used) (walk at more links)
      by_step later None is rest = absurd (no_some rest)
      by_step later (Some v) is rest =
          let first = same_step es (walk from (name ∷ (left ++ more)) used) (with_more more v) (more_stepped from name left used ∙ ap (option_map (with_more more)) is) in
          let then_ = later v rest in
          record { there = λ end ends. then_.there end (first.there end ends); back = λ end ends. first.back end (then_.back end ends) }

-- a name below a path that leads anywhere stands in the directory to which the path leads
pub child_leads : {C : Type 0} (es : Entries C) → IsTree es → (path directory end : List (List ℕ)) (name : List ℕ) → Ends es path directory → Ends es (path ++ name ∷ []) end → is_idle name ≡ false → is_up name ≡ false → is_some (lookup es (directory ++ name ∷ [])) ≡ true
child_leads {C = C} es tree path directory end name first whole plain below =
    by_entry (lookup es (directory ++ name ∷ [])) refl
  where
    rest : EndsFrom es (walk directory (name ∷ []) first.1) end
    rest = (parted_from es (name ∷ []) first.0 (walk [] path 0) directory first.1 first.2).there end whole

    by_entry : (o : Option (Entry C)) → lookup es (directory ++ name ∷ []) ≡ o → is_some (lookup es (directory ++ name ∷ [])) ≡ true
    by_entry None is = absurd (stuck es directory name [] first.1 (step_into es directory name [] first.1 tree plain below ∙ ap (λ o. enter o directory name [] first.1) is) end rest)
    by_entry (Some e) is = ap is_some is

-- names with a `_` after some bytes are neither idle nor `..`
pub plain_name : (stem text : List ℕ) → is_idle (stem ++ 95 ∷ text) ≡ false
plain_name [] [] = refl
plain_name [] (c ∷ text) = refl
plain_name (b ∷ []) text = refl
plain_name (b ∷ c ∷ stem) text = refl

pub not_up : (stem text : List ℕ) → is_up (stem ++ 95 ∷ text) ≡ false
not_up [] [] = refl
not_up [] (c ∷ []) = refl
not_up [] (c ∷ d ∷ text) = refl
not_up (b ∷ []) [] = elim (nat_eq b 46) as (λ t. cond t (nat_eq 95 46) false ≡ false) [ true ↦ refl | false ↦ refl ]
not_up (b ∷ []) (c ∷ text) = refl
not_up (b ∷ c ∷ []) text = refl
not_up (b ∷ c ∷ d ∷ stem) text = refl

left_none : (at : List (List ℕ)) (name : List ℕ) (left : List (List ℕ)) (links : ℕ) (end : List (List ℕ)) (used : ℕ) → walk at (name ∷ left) links ≡ walk end [] used → ⊥
left_none at name left links end used same = no_names (ap left_of same)
  where
    left_of : Walk → List (List ℕ)
    left_of (walk a l k) = l

    no_names : name ∷ left ≡ [] → ⊥
    no_names is = cc is

module _ {C : Type 0} (es : Entries C) (name : List ℕ) where
  -- a walk that ends past one more name has an end before it
  first_ends : (count : ℕ) (w : Walk) (used : ℕ) (end : List (List ℕ)) → steps es count (with_more (name ∷ []) w) ≡ Some (walk end [] used) → (directory : List (List ℕ)) × EndsFrom es w directory
  first_ends count (walk at [] links) used end ends = (at, (0, links, refl))
  first_ends zero (walk at (n ∷ left) links) used end ends = absurd (left_none at n (left ++ name ∷ []) links end used (from_some ends))
  first_ends (suc count) (walk at (n ∷ left) links) used end ends =
      by_step (λ v rest. first_ends count v used end rest) (step es (walk at (n ∷ left) links)) refl (sym (ap (option_and_then (steps es count)) (more_stepped es (name ∷ []) at n left links)) ∙ ends)
    where
      by_step : ((v : Walk) → steps es count (with_more (name ∷ []) v) ≡ Some (walk end [] used) → (directory : List (List ℕ)) × EndsFrom es v directory) → (o : Option Walk) → step es (walk at (n ∷ left) links) ≡ o → option_and_then (steps es count) (option_map (with_more (name ∷ [])) o) ≡ Some (walk end [] used) → (directory : List (List ℕ)) × EndsFrom es (walk at (n ∷ left) links) directory
      by_step next None is rest = absurd (no_some rest)
      by_step next (Some v) is rest =
          let there = next v rest in
          (there.0, (same_step es (walk at (n ∷ left) links) v is).back there.0 there.1)

-- a path below which a name leads anywhere leads to a directory
pub path_leads : {C : Type 0} (es : Entries C) → IsTree es → (path end : List (List ℕ)) (name : List ℕ) → Ends es (path ++ name ∷ []) end → is_idle name ≡ false → is_up name ≡ false → LeadsToDirectory es path
path_leads es tree path end name whole plain below =
    let first = first_ends es name whole.0 (walk [] path 0) whole.1 end whole.2 in
    let there = child_leads es tree path first.0 end name first.1 whole plain below in
    (first.0, first.1, subst (λ p. is_directory_or_root es p ≡ true) (parent_child first.0 name) (tree.parents (first.0 ++ name ∷ []) there))
