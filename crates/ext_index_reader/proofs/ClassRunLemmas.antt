-- The lines of hierarchies of two classes lead on.
use Rattle.std.proofs.Common.{◌≡◌, ℕ, suc, ◌+◌, ◌<◌, ◌≤◌, not, inl, inr, List, [], ◌∷◌, ◌++◌, length, refl, sym, ap, ◌∙◌, subst, arith, append_assoc, append-nil, length-append}
use Rattle.std.specs.Prelude.{Contains, map}
use Rattle.std.specs.List.{AllByRecursion}
use Rattle.ext_lines.specs.ByteOrder.{bytes_cmp}
use Rattle.ext_text.specs.Name.{IsName}
use Rattle.ext_text.specs.declared.extension.Extension.TheVariants.{Sysext, Confext}
use Rattle.ext_host.specs.Valid.{AreAscending}
use Rattle.ext_index_lines.specs.Lines.{hierarchy_line}
use Rattle.ext_index_reader.specs.State.{at_part, then_hierarchies, with_confext_hier, with_sysext_hier}
use Rattle.ext_index_reader.specs.declared.state.PartStage.TheVariants as parts
use Rattle.ext_index_reader.specs.declared.state.SoFar.{SoFar}
use Rattle.ext_index_reader.proofs.HierarchyLemmas.{class_lines, more_confext, more_sysext, no_more, none_of, plain_follows, with_classes}
use Rattle.ext_index_reader.proofs.SectionLemmas.{ToEnd}

module _ (g : ℕ) (e : SoFar) where
  abbrev Leads : SoFar → ℕ → List (List ℕ) → Type 0
  Leads s n lines = ToEnd g e (then_hierarchies s n) lines

  -- those of configuration extensions, where there are some of system extensions
  confext_classes : (s : SoFar) (ys rest : List (List ℕ)) → 0 < length s.sysext_hier → AreAscending bytes_cmp (s.confext_hier ++ ys) → length (s.confext_hier ++ ys) ≤ 16
      → AllByRecursion (λ name. ¬ Contains (s.confext_hier ++ ys) name) s.sysext_hier → AllByRecursion IsName ys → ToEnd g e (at_part (with_classes s [] ys) parts.Sysext) rest → Leads s (length ys) (map (hierarchy_line Confext) ys ++ rest)
  confext_classes s [] rest some up few apart names run = subst (λ z. ToEnd g e (at_part z parts.Sysext) rest) (no_more s) run
  confext_classes s (y ∷ ys) rest some up few apart names run =
      let shape = append_assoc s.confext_hier (y ∷ []) ys in
      let long = length-append s.confext_hier (y ∷ ys) in
      let next = with_confext_hier s y in
      let more = confext_classes next ys rest some (subst (AreAscending bytes_cmp) (sym shape) up) (subst (λ (ns : List (List ℕ)). length ns ≤ 16) (sym shape) few)
      (subst (λ (ns : List (List ℕ)). AllByRecursion (λ name. ¬ Contains ns name) s.sysext_hier) (sym shape) apart) names.1
      (subst (λ z. ToEnd g e (at_part z parts.Sysext) rest) (sym (more_confext s y [] ys)) run) in (
        then_hierarchies next (length ys),
        inr (y, names.0, record { order = plain_follows s.confext_hier y ys up; few = omega arith; other = ap not (none_of s.sysext_hier s.confext_hier ys y apart); last = inr some }, refl, refl),
        more,
      )

  -- those of system extensions before them
  sysext_classes : (s : SoFar) (xs ys rest : List (List ℕ)) → s.confext_hier ≡ [] → 0 < length ys → AreAscending bytes_cmp (s.sysext_hier ++ xs) → length (s.sysext_hier ++ xs) ≤ 16 → AllByRecursion IsName xs
      → Leads (with_classes s xs []) (length ys) rest → Leads s (length xs + length ys) (map (hierarchy_line Sysext) xs ++ rest)
  sysext_classes s [] ys rest none some up few names run =
      let same : length ys ≡ length {A = List ℕ} [] + length ys = omega arith in
      subst (λ n. Leads s n rest) same (subst (λ z. Leads z (length ys) rest) (no_more s) run)
  sysext_classes s (x ∷ xs) ys rest none some up few names run =
      let shape = append_assoc s.sysext_hier (x ∷ []) xs in
      let long = length-append s.sysext_hier (x ∷ xs) in
      let next = with_sysext_hier s x in
      let more = sysext_classes next xs ys rest none some (subst (AreAscending bytes_cmp) (sym shape) up) (subst (λ (ns : List (List ℕ)). length ns ≤ 16) (sym shape) few) names.1
      (subst (λ z. Leads z (length ys) rest) (sym (more_sysext s x xs [])) run) in
      let count : suc (length xs + length ys) ≡ length (x ∷ xs) + length ys = omega arith in
      subst (λ n. Leads s n (hierarchy_line Sysext x ∷ (map (hierarchy_line Sysext) xs ++ rest))) count (
        then_hierarchies next (length xs + length ys),
        inl (x, names.0, record { first = none; order = plain_follows s.sysext_hier x xs up; few = omega arith; last = omega arith }, refl, refl),
        more,
      )

  -- both
  pub classes_run : (s : SoFar) (xs ys rest : List (List ℕ)) → s.sysext_hier ≡ [] → s.confext_hier ≡ [] → 0 < length xs → 0 < length ys → AreAscending bytes_cmp xs → AreAscending bytes_cmp ys → length xs ≤ 16 → length ys ≤ 16
      → AllByRecursion (λ name. ¬ Contains ys name) xs → AllByRecursion IsName xs → AllByRecursion IsName ys → ToEnd g e (at_part (with_classes s xs ys) parts.Sysext) rest → Leads s (length xs + length ys) (class_lines xs ys ++ rest)
  classes_run s xs ys rest first second some_x some_y up_x up_y few_x few_y apart names_x names_y run =
      let no_first : s.sysext_hier ++ xs ≡ xs = λ i. first i ++ xs in
      let back : s.confext_hier ++ ys ≡ ys = λ i. second i ++ ys in
      let middle = with_classes s xs [] in
      let none : middle.confext_hier ≡ [] = append-nil s.confext_hier ∙ second in
      let no_second : middle.confext_hier ++ ys ≡ ys = λ i. none i ++ ys in
      let whole : with_classes s xs ys ≡ with_classes middle [] ys = λ i. record s { sysext_hier = sym (append-nil (s.sysext_hier ++ xs)) i; confext_hier = sym (append-nil s.confext_hier) i ++ ys } in
      let confext = confext_classes middle ys rest (subst (λ (ns : List (List ℕ)). 0 < length ns) (sym no_first) some_x) (subst (AreAscending bytes_cmp) (sym no_second) up_y) (subst (λ (ns : List (List ℕ)). length ns ≤ 16) (sym no_second) few_y)
      (subst (λ (ns : List (List ℕ)). AllByRecursion (λ name. ¬ Contains (middle.confext_hier ++ ys) name) ns) (sym no_first) (subst (λ (ns : List (List ℕ)). AllByRecursion (λ name. ¬ Contains ns name) xs) (sym no_second) apart)) names_y
      (subst (λ z. ToEnd g e (at_part z parts.Sysext) rest) whole run) in
      let sysext = sysext_classes s xs ys (map (hierarchy_line Confext) ys ++ rest) second some_y (subst (AreAscending bytes_cmp) (sym no_first) up_x) (subst (λ (ns : List (List ℕ)). length ns ≤ 16) (sym no_first) few_x) names_x confext in
      subst (Leads s (length xs + length ys)) (sym (append_assoc (map (hierarchy_line Sysext) xs) (map (hierarchy_line Confext) ys) rest)) sysext
