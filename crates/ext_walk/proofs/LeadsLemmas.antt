-- Where names lead: to one end.
use Rattle.std.proofs.Common.{◌≡◌, ℕ, Bool, false, List, [], Option, None, sym, ap, ◌∙◌}
use Rattle.std.specs.Prelude.{IsTrue, ◌↔◌}
use Rattle.std.proofs.lemmas.Bool.{false≢true}
use Rattle.ext_tree.specs.declared.entry.Entry.{Entry}
use Rattle.ext_tree.specs.Tree.{Entries, lookup, is_directory_or_root}
use Rattle.ext_walk.specs.Walk.{Ends, Resolves, walk}
use Rattle.ext_walk.proofs.WalkLemmas.{one_end}
use Rattle.ext_walk.specs.Leads.{LeadsTo, LeadsToDirectory}

-- a walk along names has one end
pub same_end : {C : Type 0} (es : Entries C) (names a b : List (List ℕ)) → Ends es names a → Ends es names b → a ≡ b
same_end es names a b first second = one_end es (walk [] names 0) a b first second

-- no directory where there is no end, or another one
pub no_directory : {C : Type 0} (es : Entries C) (names : List (List ℕ)) → Resolves es names None → ¬ LeadsToDirectory es names
no_directory es names none leads = none leads.0 leads.1

pub other_directory : {C : Type 0} (es : Entries C) (names end : List (List ℕ)) → Ends es names end → is_directory_or_root es end ≡ false → ¬ LeadsToDirectory es names
other_directory es names end ends other leads =
    false≢true (sym other ∙ ap (is_directory_or_root es) (same_end es names end leads.0 ends leads.1) ∙ leads.2)

-- whether names lead to what passes a test
pub leads_iff : {C : Type 0} (test : Option (Entry C) → Bool) (es : Entries C) (names end : List (List ℕ)) (b : Bool) → Ends es names end → b ≡ test (lookup es end) → IsTrue b ↔ LeadsTo test es names
leads_iff test es names end b ends is = (
  λ passes. (end, ends, sym is ∙ passes),
  λ leads. is ∙ ap (λ p. test (lookup es p)) (same_end es names end leads.0 ends leads.1) ∙ leads.2,
)

pub leads_none : {C : Type 0} (test : Option (Entry C) → Bool) (es : Entries C) (names : List (List ℕ)) → Resolves es names None → IsTrue false ↔ LeadsTo test es names
leads_none test es names none = (λ passes. absurd (false≢true passes), λ leads. absurd (none leads.0 leads.1))
