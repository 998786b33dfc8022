-- What holds of each entry of a list in order, and what an entry shows as.
use Rattle.std.proofs.Common.{◌≡◌, ℕ, true, false, cond, not, List, [], ◌∷◌, Some, is_some, refl, sym, ap, ◌∙◌, subst}
use Rattle.std.proofs.lemmas.Bool.{and_parts, false≢true}
use Rattle.std.specs.List.{AllByRecursion}
use Rattle.std.specs.Cmp.{tied_itself}
use Rattle.std.specs.Ordering.{eq_by_cmp, is_eq}
use Rattle.std.specs.FinMap.{is_sorted}
use Rattle.std.specs.FinMap.Entries.{below_all}
use Rattle.ext_attributes.specs.Attributes.{OfFile}
use Rattle.ext_text.specs.Order.{paths_total}
use Rattle.ext_text.specs.Path.{path_cmp}
use Rattle.ext_text.proofs.ForCallers.{same_path}
use Rattle.ext_tree.specs.EntryLine.{IsWritable, LineForm}
use Rattle.ext_tree.specs.Tree.{Entries, as_shown, is_file, is_hide, is_opaque, lookup}
use Rattle.ext_tree.specs.declared.entry.Entry.{Entry}
use Rattle.ext_tree.specs.declared.entry.Entry.TheVariants.{Dir, Opaque, File, Link, Hide}
use Rattle.ext_tree.proofs.ForCallers.{none_below}

some_same : {X : Type 0} (x y : X) → Some x ≡ Some y → x ≡ y
some_same x y h = cc

module _ {C : Type 0} (P : Entry C → Type 0) where
  -- what holds of each entry holds of what stands at a path
  pub all_at : (es : Entries C) (p : List (List ℕ)) (e : Entry C) → AllByRecursion (λ x. P x.1) es → lookup es p ≡ Some e → P e
  all_at [] p e all h = absurd (false≢true (ap is_some h))
  all_at (x ∷ es) p e all h =
      let rest = all_at es p e all.1 in
      elim (eq_by_cmp path_cmp p x.0) as (λ b. cond b (Some x.1) (lookup es p) ≡ Some e → P e) [
        | true ↦ λ is. subst P (some_same x.1 e is) all.0
        | false ↦ λ is. rest is
      ] h

  -- what holds of what stands at each path holds of each entry of a list in order
  pub all_from_lookup : (es : Entries C) → is_sorted path_cmp es ≡ true → ((p : List (List ℕ)) (e : Entry C) → lookup es p ≡ Some e → P e) → AllByRecursion (λ x. P x.1) es
  all_from_lookup [] sorted at = tt
  all_from_lookup (x ∷ es) sorted at =
      let parts = and_parts (below_all path_cmp x.0 es) (is_sorted path_cmp es) sorted in (
        at x.0 x.1 (ap (λ o. cond (is_eq o) (Some x.1) (lookup es x.0)) (tied_itself paths_total x.0)),
        all_from_lookup es parts.1 (λ p e there. at p e (ap (λ b. cond b (Some x.1) (lookup es p)) (apart p e there) ∙ there)),
      )
    where
      apart : (p : List (List ℕ)) (e : Entry C) → lookup es p ≡ Some e → eq_by_cmp path_cmp p x.0 ≡ false
      apart p e there =
          elim (eq_by_cmp path_cmp p x.0) as (λ b. eq_by_cmp path_cmp p x.0 ≡ b → b ≡ false) [
            | true ↦ λ tied. absurd (false≢true (sym (ap is_some (ap (lookup es) (same_path p x.0 tied) ∙ none_below x.0 es (and_parts (below_all path_cmp x.0 es) (is_sorted path_cmp es) sorted).0)) ∙ ap is_some there))
            | false ↦ λ _. refl
          ] refl

-- an entry in its ranges is in them as it shows
pub shown_writable : {C : Type 0} (form : LineForm C) (e : Entry C) → IsWritable form e → IsWritable form (as_shown e)
shown_writable form (Dir attributes) h = h
shown_writable form (Opaque attributes) h = h
shown_writable form (File attributes content) h = h
shown_writable form (Link owner target) h = h
shown_writable form Hide h = h

-- what shows as a file is that file
pub file_shown : {C : Type 0} (e : Entry C) (attributes : OfFile) (content : C) → File attributes content ≡ as_shown e → e ≡ File attributes content
file_shown (Dir m) attributes content is = absurd (false≢true (sym (ap is_file is)))
file_shown (Opaque m) attributes content is = absurd (false≢true (sym (ap is_file is)))
file_shown (File m c) attributes content is = sym is
file_shown (Link owner target) attributes content is = absurd (false≢true (sym (ap is_file is)))
file_shown Hide attributes content is = absurd (false≢true (sym (ap is_file is)))

-- what is no whiteout shows as none, and as no opaque directory
pub shown_plain : {C : Type 0} (e : Entry C) → not (is_hide e) ≡ true → (not (is_hide (as_shown e)) ≡ true) × (not (is_opaque (as_shown e)) ≡ true)
shown_plain (Dir attributes) h = (refl, refl)
shown_plain (Opaque attributes) h = (refl, refl)
shown_plain (File attributes content) h = (refl, refl)
shown_plain (Link owner target) h = (refl, refl)
shown_plain Hide h = absurd (false≢true h)
