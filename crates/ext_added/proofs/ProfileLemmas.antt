-- What a path of a profile leads to.
use Rattle.std.proofs.Common.{◌≡◌, ℕ, false, List, Option, Some, None, Ok, Err, inl, inr, sym, ap, ◌∙◌, subst}
use Rattle.std.specs.Prelude.{IfOk, Result}
use Rattle.std.proofs.lemmas.Bool.{false≢true}
use Rattle.ext_tree.specs.Tree.{Entries, lookup}
use Rattle.ext_walk.specs.Leads.{LeadsTo}
use Rattle.ext_walk.specs.Walk.{Ends, parts}
use Rattle.ext_walk.proofs.ForCallers.{same_end}
use Rattle.ext_host.specs.Held.{HeldFile}
use Rattle.ext_find.specs.Content.{is_file_at}
use Rattle.ext_added.specs.Profile.{LaterProfileAt, NoProfileIn, ProfileAt, ProfileIn, ProfileWhere, etc_profiles, profile_text, run_profiles, vendor_profiles}
use Rattle.ext_added.specs.declared.profile.Profile.{Profile}

-- names without an end lead to no file, nor do those that end elsewhere
pub no_end : (es : Entries HeldFile) (names : List (List ℕ)) → ((end : List (List ℕ)) → Ends es names end → ⊥) → ¬ LeadsTo is_file_at es names
no_end es names none leads = none leads.0 leads.1

pub no_file : (es : Entries HeldFile) (names end : List (List ℕ)) → Ends es names end → is_file_at (lookup es end) ≡ false → ¬ LeadsTo is_file_at es names
no_file es names end ends other leads =
    false≢true (sym other ∙ ap (λ p. is_file_at (lookup es p)) (same_end es names end leads.0 ends leads.1) ∙ leads.2)

-- what stands at their end is the profile to which names lead
pub profile_there : {E : Type 0} (es : Entries HeldFile) (names end : List (List ℕ)) (r : Result (Option Profile) E) → Ends es names end → IfOk r (ProfileWhere es end) → IfOk r (ProfileIn es names)
profile_there es names end (Ok None) ends none = no_file es names end ends none
profile_there es names end (Ok (Some profile)) ends there = record {
  leads = subst (Ends es names) (sym there.0) ends;
  attributes = there.1.0;
  stands = ap (lookup es) there.0 ∙ there.1.1;
}
profile_there es names end (Err e) ends is = tt

-- what a later directory has counts where an earlier one has none
pub later_there : {E : Type 0} (base : Entries HeldFile) (name : List ℕ) (r : Result (Option Profile) E) → NoProfileIn base name etc_profiles → IfOk r (LaterProfileAt base name) → IfOk r (ProfileAt base name)
later_there base name (Ok None) none rest = (none, rest.0, rest.1)
later_there base name (Ok (Some profile)) none (inl second) = inr (inl (none, second))
later_there base name (Ok (Some profile)) none (inr third) = inr (inr (none, third.0, third.1))
later_there base name (Err e) none rest = tt

pub last_there : {E : Type 0} (base : Entries HeldFile) (name : List ℕ) (r : Result (Option Profile) E) → NoProfileIn base name run_profiles
    → IfOk r (ProfileIn base (parts (profile_text vendor_profiles name))) → IfOk r (LaterProfileAt base name)
last_there base name (Ok None) none rest = (none, rest)
last_there base name (Ok (Some profile)) none third = inr (none, third)
last_there base name (Err e) none rest = tt
