-- What one entry says of the unit of its name.
use Rattle.std.proofs.Common.{◌≡◌, ℕ, false, List, [], ◌∷◌, ◌++◌, Some, None, sym, ap, ◌∙◌, subst}
use Rattle.std.proofs.lemmas.Bool.{false≢true}
use Rattle.ext_tree.specs.Tree.{Entries, lookup}
use Rattle.ext_walk.specs.Walk.{Ends, Resolves}
use Rattle.ext_walk.proofs.ForCallers.{same_end}
use Rattle.ext_find.specs.Content.{is_file_at}
use Rattle.ext_units.specs.Kept.{EntryAt, FileAt}
use Rattle.ext_units.specs.Units.{IsUnitName}
use Rattle.ext_units.specs.declared.unit_entry.UnitEntry.TheVariants.{NoFile, Leads}

module _ {C : Type 0} (es : Entries C) where
  -- names without an end lead to no file, nor do those that end elsewhere
  pub no_end : (names : List (List ℕ)) → Resolves es names None → FileAt es names None
  no_end names none leads = none leads.0 leads.1

  pub no_file : (names end : List (List ℕ)) → Ends es names end → is_file_at (lookup es end) ≡ false → FileAt es names None
  no_file names end ends other leads =
      false≢true (sym other ∙ ap (λ p. is_file_at (lookup es p)) (same_end es names end leads.0 ends leads.1) ∙ leads.2)

  module _ (prefixes directory path : List (List ℕ)) (name : List ℕ) (at : path ≡ directory ++ name ∷ []) (named : IsUnitName prefixes name) where
    pub entry_without : FileAt es path None → EntryAt es prefixes directory name (Some NoFile)
    entry_without none = (named, subst (λ p. FileAt es p None) at none)

    pub entry_with : (file : List (List ℕ)) → FileAt es path (Some file) → EntryAt es prefixes directory name (Some (Leads file))
    entry_with file is = (named, subst (λ p. FileAt es p (Some file)) at is)
