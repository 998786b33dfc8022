-- What one entry says, by what stands at its path and where that leads.
use Rattle.std.proofs.Common.{◌≡◌, ℕ, true, false, List, [], ◌∷◌, ◌++◌, Some, None, is_some, sym, ap, ◌∙◌, subst}
use Rattle.std.specs.Prelude.{◌⊎◌, nat_eq}
use mathlib.Core.Logic.{inl, inr}
use Rattle.std.specs.Borrow.{Bor}
use Rattle.std.specs.List.{ends_with}
use Rattle.std.proofs.lemmas.Bool.{false≢true}
use Rattle.ext_tree.specs.declared.entry.Entry.{Entry}
use Rattle.ext_tree.specs.Tree.{Entries, lookup}
use Rattle.ext_find.specs.Content.{is_file_at, is_mask, is_mask_at}
use Rattle.ext_find.specs.Ending.{is_hidden}
use Rattle.ext_find.specs.HostRelease.{ContentAt, LeadsToContent}
use Rattle.ext_walk.specs.Leads.{LeadsTo}
use Rattle.ext_configs.specs.Configs.{CountsIn, config_suffix}
use Rattle.ext_configs.specs.Kept.{EntryAt}
use Rattle.ext_configs.specs.declared.entry.ConfigEntry.TheVariants.{Mask, Content}
use Rattle.ext_configs.specs.declared.kind.ConfigKind.{ConfigKind}

-- names that lead to a content lead to a file
pub content_leads : {C : Type 0} (es : Entries C) (path : List (List ℕ)) (content : C) → LeadsToContent es path content → LeadsTo is_file_at es path
content_leads es path content leads = (leads.0, leads.2, ap is_file_at leads.3)

module _ {C : Type 0} (size : C → ℕ) (es : Entries C) (kind : ConfigKind) (directory : List (List ℕ)) (name : List ℕ) where
  -- a hidden name does not count, nor one without the suffix
  pub hidden_none : is_hidden name ≡ true → ¬ CountsIn size es kind directory name
  hidden_none hidden counts = false≢true (sym counts.shown ∙ hidden)

  pub suffix_none : ends_with nat_eq name (config_suffix kind) ≡ false → ¬ CountsIn size es kind directory name
  suffix_none other counts = false≢true (sym other ∙ counts.suffix)

  module _ (path : List (List ℕ)) (entry : Entry C) (at : path ≡ directory ++ name ∷ []) (there : lookup es path ≡ Some entry) where
    here : lookup es (directory ++ name ∷ []) ≡ Some entry
    here = ap (lookup es) (sym at) ∙ there

    module _ (shown : is_hidden name ≡ false) (suffix : ends_with nat_eq name (config_suffix kind) ≡ true) where
      -- a mask counts
      pub mask_counts : is_mask size entry ≡ true → EntryAt size es kind directory name (Some Mask)
      mask_counts mask =
          let masked : is_mask_at size (lookup es (directory ++ name ∷ [])) ≡ true = ap (is_mask_at size) here ∙ mask in
          (record { there = ap is_some here; shown = shown; suffix = suffix; counts = inl masked }, masked)

      -- what leads to a file counts, and nothing else where no mask stands
      pub content_counts : is_mask size entry ≡ false → (content : Bor C) → ContentAt es path (Some content) → EntryAt size es kind directory name (Some (Content content))
      content_counts other content leads =
          let unmasked : is_mask_at size (lookup es (directory ++ name ∷ [])) ≡ false = ap (is_mask_at size) here ∙ other in
          let to : LeadsToContent es (directory ++ name ∷ []) content.now = subst (λ p. LeadsToContent es p content.now) at leads in
          (record { there = ap is_some here; shown = shown; suffix = suffix; counts = inr (content_leads es (directory ++ name ∷ []) content.now to) }, (unmasked, to))

    pub nothing_counts : is_mask size entry ≡ false → ContentAt es path None → EntryAt size es kind directory name None
    nothing_counts other none counts = by_case counts.counts
      where
        by_case : (is_mask_at size (lookup es (directory ++ name ∷ [])) ≡ true) ⊎ LeadsTo is_file_at es (directory ++ name ∷ []) → ⊥
        by_case (inl masked) = false≢true (sym other ∙ sym (ap (is_mask_at size) here) ∙ masked)
        by_case (inr leads) = none (subst (LeadsTo is_file_at es) (sym at) leads)
