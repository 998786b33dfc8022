-- Where the directories of units lead.
use Rattle.std.proofs.Common.{◌≡◌, ℕ, List, Some, None, sym, ap, ◌∙◌, subst}
use Rattle.std.specs.Prelude.{slice_get}
use Rattle.std.specs.Option.{unwrap_or}
use Rattle.ext_tree.specs.Tree.{Entries}
use Rattle.ext_walk.specs.Leads.{DirectoryAt, LeadsToDirectory}
use Rattle.ext_walk.specs.Walk.{Ends}
use Rattle.ext_walk.proofs.ForCallers.{same_end}
use Rattle.ext_units.specs.Units.{OpensUnits, unit_directories}

module _ {C : Type 0} (es : Entries C) (index : ℕ) where
  -- a directory of units leads to one directory
  pub one_opened : (a b : List (List ℕ)) → OpensUnits es index a → OpensUnits es index b → a ≡ b
  one_opened a b first other =
      let same : first.path ≡ other.path = ap (λ o. unwrap_or o first.path) (sym first.searched ∙ other.searched) in
      same_end es other.path a b (subst (λ p. Ends es p a) same first.leads) other.leads

  -- an index past the last opens nothing
  pub past_closed : slice_get unit_directories index ≡ None → (directory : List (List ℕ)) → ¬ OpensUnits es index directory
  past_closed none directory opens = none_some (sym none ∙ opens.searched)
    where
      none_some : {X : Type 0} {x : X} → None ≡ Some x → ⊥
      none_some e = subst (λ o. elim o as (λ _. Type 0) [ None ↦ Unit {0} | Some x ↦ ⊥ ]) e tt

  -- a path that leads to no directory opens nothing
  pub path_closed : (path : List (List ℕ)) → slice_get unit_directories index ≡ Some path → ¬ LeadsToDirectory es path → (directory : List (List ℕ)) → ¬ OpensUnits es index directory
  path_closed path at none directory opens =
      let same : opens.path ≡ path = ap (λ o. unwrap_or o path) (sym opens.searched ∙ at) in
      none (directory, subst (λ p. Ends es p directory) same opens.leads, opens.open_)

  -- a path that leads to a directory opens it
  pub path_opens : (path directory : List (List ℕ)) → slice_get unit_directories index ≡ Some path → DirectoryAt es path (Some directory) → OpensUnits es index directory
  path_opens path directory at leads = record { path = path; searched = at; leads = leads.0; open_ = leads.1 }
