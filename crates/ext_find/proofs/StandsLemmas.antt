-- Where nothing has to be followed: a path at which a directory or a file stands leads to itself, and a name in a
-- directory to which names lead leads to what stands there. Belongs to ext_walk.
use Rattle.std.proofs.Common.{◌≡◌, ℕ, ◌<◌, true, false, cond, List, [], ◌∷◌, ◌++◌, length, Option, Some, None, is_some, refl, sym, ap, ◌∙◌, subst, arith, length-append}
use Rattle.std.specs.Prelude.{IsTrue, ◌↔◌, nat_eq}
use Rattle.std.specs.List.{AllByRecursion}
use Rattle.std.proofs.lemmas.Bool.{false≢true, false_from_ne_true, eqb-true}
use Rattle.std.proofs.lemmas.List.{append-nil, append_assoc}
use Rattle.ext_text.specs.Name.{IsName}
use Rattle.ext_text.specs.Path.{is_prefix}
use Rattle.ext_text.proofs.ForCallers.{all_back}
use Rattle.ext_tree.specs.declared.entry.Entry.{Entry}
use Rattle.ext_tree.specs.declared.entry.Entry.TheVariants.{Dir, Opaque, File, Link, Hide}
use Rattle.ext_tree.specs.Tree.{Entries, IsTree, lookup, is_directory, is_directory_at, is_directory_or_root}
use Rattle.ext_tree.proofs.ForCallers.{dir_directory, directory_dir, prefix_append, prefixes}
use Rattle.ext_walk.specs.Leads.{LeadsToDirectory}
use Rattle.ext_walk.specs.Walk.{Ends, EndsFrom, enter, is_idle, is_standing, is_up, step, walk}
use Rattle.ext_walk.proofs.ForCallers.{other_directory, same_step, step_into, stuck}
use Rattle.ext_find.specs.Content.{is_file_at, is_link}
use Rattle.ext_find.proofs.PartedLemmas.{parted_from}

pub name_plain : (n : List ℕ) → IsName n → is_idle n ≡ false
name_plain [] is = absurd (omega (arith, is.non_empty))
name_plain (b ∷ []) is = false_from_ne_true (nat_eq b 46) (λ dot. is.not_dot (ap (λ x. x ∷ []) (eqb-true b 46 dot)))
name_plain (b ∷ c ∷ n) is = refl

pub name_not_up : (n : List ℕ) → IsName n → is_up n ≡ false
name_not_up [] is = refl
name_not_up (b ∷ []) is = refl
name_not_up (b ∷ c ∷ []) is =
    elim (nat_eq b 46) as (λ t. nat_eq b 46 ≡ t → cond t (nat_eq c 46) false ≡ false) [
      | true ↦ λ dot. false_from_ne_true (nat_eq c 46) (λ other. is.not_dot_dot (λ i. eqb-true b 46 dot i ∷ eqb-true c 46 other i ∷ []))
      | false ↦ λ _. refl
    ] refl
name_not_up (b ∷ c ∷ d ∷ n) is = refl

directory_stands : {C : Type 0} (o : Option (Entry C)) → is_directory_at o ≡ true → is_standing o ≡ true
directory_stands None is = absurd (false≢true is)
directory_stands (Some (Dir attributes)) is = refl
directory_stands (Some (Opaque attributes)) is = refl
directory_stands (Some (File attributes content)) is = absurd (false≢true is)
directory_stands (Some (Link owner target)) is = absurd (false≢true is)
directory_stands (Some Hide) is = absurd (false≢true is)

file_stands : {C : Type 0} (o : Option (Entry C)) → is_file_at o ≡ true → is_standing o ≡ true
file_stands None is = absurd (false≢true is)
file_stands (Some (Dir attributes)) is = absurd (false≢true is)
file_stands (Some (Opaque attributes)) is = absurd (false≢true is)
file_stands (Some (File attributes content)) is = refl
file_stands (Some (Link owner target)) is = absurd (false≢true is)
file_stands (Some Hide) is = absurd (false≢true is)

standing_some : {C : Type 0} (o : Option (Entry C)) → is_standing o ≡ true → is_some o ≡ true
standing_some None is = absurd (false≢true is)
standing_some (Some e) is = refl

entered : {C : Type 0} (o : Option (Entry C)) (at : List (List ℕ)) (name : List ℕ) (left : List (List ℕ)) (links : ℕ) → is_standing o ≡ true → enter o at name left links ≡ Some (walk (at ++ name ∷ []) left links)
entered None at name left links stands = absurd (false≢true stands)
entered (Some (Dir attributes)) at name left links stands = refl
entered (Some (Opaque attributes)) at name left links stands = refl
entered (Some (File attributes content)) at name left links stands = refl
entered (Some (Link owner target)) at name left links stands = absurd (false≢true stands)
entered (Some Hide) at name left links stands = absurd (false≢true stands)

module _ {C : Type 0} (es : Entries C) (tree : IsTree es) where
  -- above what stands there are directories
  stands_above : (at : List (List ℕ)) (n : List ℕ) (rest : List (List ℕ)) → is_standing (lookup es (at ++ n ∷ rest)) ≡ true → is_standing (lookup es (at ++ n ∷ [])) ≡ true
  stands_above at n [] stands = stands
  stands_above at n (m ∷ rest) stands =
      let prefix : is_prefix (at ++ n ∷ []) (at ++ n ∷ m ∷ rest) ≡ true = ap (is_prefix (at ++ n ∷ [])) (sym (append_assoc at (n ∷ []) (m ∷ rest))) ∙ prefix_append (at ++ n ∷ []) (m ∷ rest) in
      let short : length (at ++ n ∷ []) < length (at ++ n ∷ m ∷ rest) = omega (arith, length-append at (n ∷ []), length-append at (n ∷ m ∷ rest)) in
      let some : 0 < length (at ++ n ∷ []) = omega (arith, length-append at (n ∷ [])) in
      directory_stands (lookup es (at ++ n ∷ [])) (directory_dir es (at ++ n ∷ []) some (prefixes es tree (at ++ n ∷ []) (at ++ n ∷ m ∷ rest) (standing_some (lookup es (at ++ n ∷ m ∷ rest)) stands) prefix short))

  goes : (rest at : List (List ℕ)) (links : ℕ) → AllByRecursion IsName rest → is_standing (lookup es (at ++ rest)) ≡ true → EndsFrom es (walk at rest links) (at ++ rest)
  goes [] at links names stands = subst (EndsFrom es (walk at [] links)) (sym (append-nil at)) (0, links, refl)
  goes (n ∷ rest) at links names stands =
      let longer : (at ++ n ∷ []) ++ rest ≡ at ++ n ∷ rest = append_assoc at (n ∷ []) rest in
      let stepped : step es (walk at (n ∷ rest) links) ≡ Some (walk (at ++ n ∷ []) rest links) = step_into es at n rest links tree (name_plain n names.0) (name_not_up n names.0) ∙ entered (lookup es (at ++ n ∷ [])) at n rest links (stands_above at n rest stands) in
      subst (EndsFrom es (walk at (n ∷ rest) links)) longer
      ((same_step es (walk at (n ∷ rest) links) (walk (at ++ n ∷ []) rest links) stepped).back ((at ++ n ∷ []) ++ rest)
      (goes rest (at ++ n ∷ []) links names.1 (ap (λ p. is_standing (lookup es p)) longer ∙ stands)))

  own_end : (p : List (List ℕ)) → is_standing (lookup es p) ≡ true → Ends es p p
  own_end p stands = goes p [] 0 (tree.paths p (standing_some (lookup es p) stands)).each stands

  pub own_directory : (p : List (List ℕ)) → is_directory_at (lookup es p) ≡ true → Ends es p p × (is_directory_or_root es p ≡ true)
  own_directory p directory = (own_end p (directory_stands (lookup es p) directory), dir_directory es p directory)

  pub own_file : (p : List (List ℕ)) → is_file_at (lookup es p) ≡ true → Ends es p p
  own_file p file = own_end p (file_stands (lookup es p) file)

  module _ (path directory : List (List ℕ)) (name : List ℕ) (first : Ends es path directory) (is : is_some (lookup es (directory ++ name ∷ [])) ≡ true) where
    named : IsName name
    named = (all_back IsName directory (name ∷ []) (tree.paths (directory ++ name ∷ []) is).each).0

    entering : (o : Option (Entry C)) → lookup es (directory ++ name ∷ []) ≡ o → step es (walk directory (name ∷ []) first.1) ≡ enter o directory name [] first.1
    entering o at = step_into es directory name [] first.1 tree (name_plain name named) (name_not_up name named) ∙ ap (λ o. enter o directory name [] first.1) at

    child_ends : (o : Option (Entry C)) → lookup es (directory ++ name ∷ []) ≡ o → is_standing o ≡ true → Ends es (path ++ name ∷ []) (directory ++ name ∷ [])
    child_ends o at stands =
        (parted_from es (name ∷ []) first.0 (walk [] path 0) directory first.1 first.2).back (directory ++ name ∷ [])
        ((same_step es (walk directory (name ∷ []) first.1) (walk (directory ++ name ∷ []) [] first.1) (entering o at ∙ entered o directory name [] first.1 stands)).back (directory ++ name ∷ []) (0, first.1, refl))

    not_root : (p : List (List ℕ)) → 0 < length p → is_directory_at (lookup es p) ≡ false → is_directory_or_root es p ≡ false
    not_root [] some none = absurd (omega arith)
    not_root (n ∷ p) some none = none

    -- where no link stands there, it leads to a directory exactly where one stands there
    pub child_leads_on : (e : Entry C) → lookup es (directory ++ name ∷ []) ≡ Some e → is_link e ≡ false → IsTrue (is_directory e) ↔ LeadsToDirectory es (path ++ name ∷ [])
    child_leads_on (Dir attributes) at plain = (λ _. (directory ++ name ∷ [], child_ends (Some (Dir attributes)) at refl, dir_directory es (directory ++ name ∷ []) (ap is_directory_at at)), λ _. refl)
    child_leads_on (Opaque attributes) at plain = (λ _. (directory ++ name ∷ [], child_ends (Some (Opaque attributes)) at refl, dir_directory es (directory ++ name ∷ []) (ap is_directory_at at)), λ _. refl)
    child_leads_on (File attributes content) at plain = (
      λ is. absurd (false≢true is),
      λ leads. absurd (other_directory es (path ++ name ∷ []) (directory ++ name ∷ []) (child_ends (Some (File attributes content)) at refl) (not_root (directory ++ name ∷ []) (omega (arith, length-append directory (name ∷ []))) (ap is_directory_at at)) leads),
    )
    child_leads_on (Link owner target) at plain = absurd (false≢true (sym plain))
    child_leads_on Hide at plain = (
      λ is. absurd (false≢true is),
      λ leads. absurd (stuck es directory name [] first.1 (entering (Some Hide) at) leads.0 ((parted_from es (name ∷ []) first.0 (walk [] path 0) directory first.1 first.2).there leads.0 leads.1)),
    )
