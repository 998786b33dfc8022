-- The lines of merged names, read and printed.
use Rattle.std.proofs.Common.{◌≡◌, ℕ, zero, suc, ◌<◌, ◌≤◌, inl, inr, List, [], ◌∷◌, ◌++◌, length, Option, Some, None, IfSome, refl, sym, ap, ◌∙◌, subst, arith, codes}
use Rattle.std.specs.Prelude.{map}
use Rattle.std.specs.List.{AllByRecursion, flat_map}
use Rattle.ext_text.specs.Name.{IsName}
use Rattle.ext_vers.specs.Version.{order_of}
use Rattle.ext_host.specs.Valid.{AreAscending, AreMerged}
use Rattle.ext_index_lines.specs.Lines.{number_line, worded}
use Rattle.ext_index_reader.specs.Index.{merged_lines}
use Rattle.ext_index_reader.specs.State.{at_part, no_parts, then_confext, then_sysext}
use Rattle.ext_index_reader.specs.Step.{most_count}
use Rattle.ext_index_reader.specs.declared.state.PartStage.TheVariants as parts
use Rattle.ext_index_reader.specs.declared.state.Parts.{Parts}
use Rattle.ext_index_reader.specs.declared.state.Reading.{Reading}
use Rattle.ext_index_reader.specs.declared.state.SoFar.{SoFar}
use Rattle.ext_index_reader.proofs.FollowLemmas.{MayJoin, after_snoc, joined, joins, order_total, snoc}
use Rattle.ext_index_reader.proofs.SectionLemmas.{FirstLine, Opened, ToEnd, again, first_line_of, peel}

-- with other parts
abbrev pub with_parts : SoFar → Parts → SoFar
with_parts s p = record s { parts = p }

-- items of one line each
pub flat_single : {X : Type 0} (f : X → List ℕ) (xs : List X) → flat_map (λ x. f x ∷ []) xs ≡ map f xs
flat_single f [] = refl
flat_single f (x ∷ xs) = ap (λ (l : List (List ℕ)). f x ∷ l) (flat_single f xs)

pub map_same : {X : Type 0} (xs : List X) → map (λ x. x) xs ≡ xs
map_same [] = refl
map_same (x ∷ xs) = ap (λ (l : List _). x ∷ l) (map_same xs)

abbrev pub NameJoins : List (List ℕ) → List ℕ → Type 0
NameJoins names name = MayJoin order_of (λ n. n) IsName names name

abbrev pub name_lines : List ℕ → List (List ℕ)
name_lines name = worded (codes "n") name ∷ []

module _ (g : ℕ) (e : SoFar) where
  -- the merged names of a class, or none, and what is read then
  pub record MergedRead (word : List ℕ) (next : Option (List (List ℕ)) → Reading) (lines : List (List ℕ)) : Type 0 where
    pub names : Option (List (List ℕ))
    pub rest : List (List ℕ)
    pub text : lines ≡ merged_lines word names ++ rest
    pub run : ToEnd g e (next names) rest
    pub formed : IfSome names (AllByRecursion IsName)
    pub merged : IfSome names AreMerged

  module _ (word : List ℕ) (state : List (List ℕ) → ℕ → Reading) (next : Option (List (List ℕ)) → Reading) (ends : (names : List (List ℕ)) → state names zero ≡ next (Some names)) where
    -- so many names
    names_read : ((names : List (List ℕ)) (n : ℕ) (lines : List (List ℕ)) → ToEnd g e (state names (suc n)) lines → Opened g e snoc NameJoins name_lines state names n lines)
        → (n : ℕ) (lines rest : List (List ℕ)) → 0 < n → lines ≡ number_line word n ∷ rest → ToEnd g e (state [] n) rest → MergedRead word next lines
    names_read opens n lines rest some text run =
        let all = peel g e snoc NameJoins name_lines state opens [] n rest run in
        let chain = joined order_of (λ n. n) IsName order_total.trans [] all.items tt all.may in
        record {
          names = Some all.items;
          rest = all.rest;
          text = text ∙ (λ i. number_line word (sym all.count i) ∷ all.text i) ∙ (λ i. number_line word (length all.items) ∷ (flat_single (worded (codes "n")) all.items i ++ all.rest));
          run = subst (λ r. ToEnd g e r all.rest) (ap (λ (ns : List (List ℕ)). state ns zero) (after_snoc [] all.items) ∙ ends all.items) all.run;
          formed = chain.1;
          merged = record {
            non_empty = let count = all.count in omega arith;
            order = subst (AreAscending order_of) (map_same all.items) chain.0;
          };
        }

    -- and their lines lead on
    names_run : ((names : List (List ℕ)) (n : ℕ) (name : List ℕ) (rest : List (List ℕ)) → NameJoins names name → ToEnd g e (state (snoc names name) n) rest → ToEnd g e (state names (suc n)) (name_lines name ++ rest))
        → (names rest : List (List ℕ)) → AreMerged names → AllByRecursion IsName names → ToEnd g e (next (Some names)) rest → ToEnd g e (state [] (length names)) (map (worded (codes "n")) names ++ rest)
    names_run closes names rest merged formed run =
        let up = subst (AreAscending order_of) (sym (map_same names)) merged.order in
        let end = subst (λ r. ToEnd g e r rest) (sym (ap (λ (ns : List (List ℕ)). state ns zero) (after_snoc [] names) ∙ ends names)) run in
        subst (λ (ls : List (List ℕ)). ToEnd g e (state [] (length names)) (ls ++ rest)) (flat_single (worded (codes "n")) names)
        (again g e snoc NameJoins name_lines state closes [] names rest (joins order_of (λ n. n) IsName [] names up formed) end)

  module _ (s : SoFar) where
    abbrev sysext_state : List (List ℕ) → ℕ → Reading
    sysext_state names n = then_sysext (with_parts s no_parts) n names

    -- what is read after the system extensions
    abbrev pub with_first : Option (List (List ℕ)) → Reading
    with_first names = at_part (with_parts s (record no_parts { sysext = names })) parts.Confext

    sysext_opens : (names : List (List ℕ)) (n : ℕ) (lines : List (List ℕ)) → ToEnd g e (sysext_state names (suc n)) lines → Opened g e snoc NameJoins name_lines sysext_state names n lines
    sysext_opens names n lines run =
        let first = first_line_of g e (at_part (with_parts s no_parts) (parts.SysextName n names)) lines (λ z. cc) run in
        record {
          item = first.step.0;
          may = (first.step.1, first.step.3);
          rest = first.rest;
          text = first.text ∙ ap (λ l. l ∷ first.rest) first.step.2;
          run = subst (λ r. ToEnd g e r first.rest) first.step.4 first.run;
        }

    sysext_closes : (names : List (List ℕ)) (n : ℕ) (name : List ℕ) (rest : List (List ℕ)) → NameJoins names name → ToEnd g e (sysext_state (snoc names name) n) rest → ToEnd g e (sysext_state names (suc n)) (name_lines name ++ rest)
    sysext_closes names n name rest may run = (sysext_state (snoc names name) n, (name, may.0, refl, may.1, refl), run)

    pub sysext_read : (lines : List (List ℕ)) → ToEnd g e (at_part (with_parts s no_parts) parts.Sysext) lines → MergedRead (codes "sysext") with_first lines
    sysext_read lines run = by_step (first_line_of g e (at_part (with_parts s no_parts) parts.Sysext) lines (λ z. cc) run)
      where
        by_step : FirstLine g e (at_part (with_parts s no_parts) parts.Sysext) lines → MergedRead (codes "sysext") with_first lines
        by_step first = elim first.step [
          | inl f ↦ names_read (codes "sysext") sysext_state with_first (λ names. refl) sysext_opens f.0 lines first.rest f.1 (first.text ∙ ap (λ l. l ∷ first.rest) f.3) (subst (λ r. ToEnd g e r first.rest) f.4 first.run)
          | inr f ↦ record { names = None; rest = lines; text = refl; run = subst (ToEnd g e (with_first None)) (sym first.text) (first.next, f, first.run); formed = tt; merged = tt }
        ]

    pub sysext_run : (names : Option (List (List ℕ))) (rest : List (List ℕ)) → IfSome names AreMerged → IfSome names (AllByRecursion IsName) → IfSome names (λ ns. length ns ≤ most_count) → ToEnd g e (with_first names) rest
        → ToEnd g e (at_part (with_parts s no_parts) parts.Sysext) (merged_lines (codes "sysext") names ++ rest)
    sysext_run None rest merged formed few run = earlier rest run
      where
        earlier : (lines : List (List ℕ)) → ToEnd g e (with_first None) lines → ToEnd g e (at_part (with_parts s no_parts) parts.Sysext) lines
        earlier lines run =
            let first = first_line_of g e (with_first None) lines (λ z. cc) run in
            subst (ToEnd g e (at_part (with_parts s no_parts) parts.Sysext)) (sym first.text) (first.next, inr first.step, first.run)
    sysext_run (Some names) rest merged formed few run =
        (sysext_state [] (length names), inl (length names, merged.non_empty, few, refl, refl), names_run (codes "sysext") sysext_state with_first (λ ns. refl) sysext_closes names rest merged formed run)

    module _ (sysext : Option (List (List ℕ))) where
      abbrev confext_state : List (List ℕ) → ℕ → Reading
      confext_state names n = then_confext (with_parts s (record no_parts { sysext = sysext })) n names

      -- what is read after the configuration extensions
      abbrev pub with_second : Option (List (List ℕ)) → Reading
      with_second names = at_part (with_parts s (record no_parts { sysext = sysext; confext = names })) parts.Attached

      confext_opens : (names : List (List ℕ)) (n : ℕ) (lines : List (List ℕ)) → ToEnd g e (confext_state names (suc n)) lines → Opened g e snoc NameJoins name_lines confext_state names n lines
      confext_opens names n lines run =
          let first = first_line_of g e (at_part (with_parts s (record no_parts { sysext = sysext })) (parts.ConfextName n names)) lines (λ z. cc) run in
          record {
            item = first.step.0;
            may = (first.step.1, first.step.3);
            rest = first.rest;
            text = first.text ∙ ap (λ l. l ∷ first.rest) first.step.2;
            run = subst (λ r. ToEnd g e r first.rest) first.step.4 first.run;
          }

      confext_closes : (names : List (List ℕ)) (n : ℕ) (name : List ℕ) (rest : List (List ℕ)) → NameJoins names name → ToEnd g e (confext_state (snoc names name) n) rest → ToEnd g e (confext_state names (suc n)) (name_lines name ++ rest)
      confext_closes names n name rest may run = (confext_state (snoc names name) n, (name, may.0, refl, may.1, refl), run)

      pub confext_read : (lines : List (List ℕ)) → ToEnd g e (with_first sysext) lines → MergedRead (codes "confext") with_second lines
      confext_read lines run = by_step (first_line_of g e (with_first sysext) lines (λ z. cc) run)
        where
          by_step : FirstLine g e (with_first sysext) lines → MergedRead (codes "confext") with_second lines
          by_step first = elim first.step [
            | inl f ↦ names_read (codes "confext") confext_state with_second (λ names. refl) confext_opens f.0 lines first.rest f.1 (first.text ∙ ap (λ l. l ∷ first.rest) f.3) (subst (λ r. ToEnd g e r first.rest) f.4 first.run)
            | inr f ↦ record { names = None; rest = lines; text = refl; run = subst (ToEnd g e (with_second None)) (sym first.text) (first.next, f, first.run); formed = tt; merged = tt }
          ]

      pub confext_run : (names : Option (List (List ℕ))) (rest : List (List ℕ)) → IfSome names AreMerged → IfSome names (AllByRecursion IsName) → IfSome names (λ ns. length ns ≤ most_count) → ToEnd g e (with_second names) rest
          → ToEnd g e (with_first sysext) (merged_lines (codes "confext") names ++ rest)
      confext_run None rest merged formed few run = earlier rest run
        where
          earlier : (lines : List (List ℕ)) → ToEnd g e (with_second None) lines → ToEnd g e (with_first sysext) lines
          earlier lines run =
              let first = first_line_of g e (with_second None) lines (λ z. cc) run in
              subst (ToEnd g e (with_first sysext)) (sym first.text) (first.next, inr first.step, first.run)
      confext_run (Some names) rest merged formed few run =
          (confext_state [] (length names), inl (length names, merged.non_empty, few, refl, refl), names_run (codes "confext") confext_state with_second (λ ns. refl) confext_closes names rest merged formed run)
