-- No text of a version that none of its lines needs ends among the lines of trees, and of one that has not ended.
use Rattle.std.proofs.Common.{◌≡◌, ◌≢◌, ℕ, ◌<◌, List, [], ◌∷◌, ◌++◌, drop, take, take-append-drop, refl, sym, ap, ◌∙◌, subst, arith, append_assoc}
use Rattle.std.specs.Prelude.{codes, map}
use Rattle.std.specs.List.{AllByRecursion, flat_map}
use Rattle.ext_text.proofs.ForCallers.{all_back}
use Rattle.ext_tree.specs.declared.stamp.Stamp.{Stamp}
use Rattle.ext_tree.specs.Tree.{Entries}
use Rattle.ext_tree.specs.TreeText.{HasText, header, version_of, printed_lines, tree_line, tree_lines}
use Rattle.ext_tree.specs.FirstFault.{EndsIdle}
use Rattle.ext_tree.proofs.TreeLineLemmas.{end_not_header, line_not_end, line_not_header, one_version}
use Rattle.ext_tree.proofs.TreeTextLemmas.{lines_of}
use Rattle.ext_tree.proofs.SequenceLemmas.{ended, one_body}

-- none of the lines is `end`
abbrev pub Unended : List (List ℕ) → Type 0
Unended lines = AllByRecursion (λ l. l ≢ codes "end") lines

-- the lines of a tree that has not ended
pub open_unended : (v : ℕ) (es : Entries Stamp) → Unended (header v ∷ map tree_line es)
open_unended v es = ((λ e. end_not_header v (sym e)), each es)
  where
    each : (es : Entries Stamp) → Unended (map tree_line es)
    each [] = tt
    each (x ∷ es) = (line_not_end x, each es)

regrouped : (d : Entries Stamp) (done : List (Entries Stamp)) (tail : List (List ℕ)) → (tree_lines d ++ flat_map tree_lines done) ++ tail ≡ header (version_of d) ∷ (map tree_line d ++ codes "end" ∷ (flat_map tree_lines done ++ tail))
regrouped d done tail = append_assoc (tree_lines d) (flat_map tree_lines done) tail ∙ ended (version_of d) d (flat_map tree_lines done ++ tail)

module _ (fs : Entries Stamp) (text : HasText fs) (w : ℕ) (none : version_of fs < w) where
  -- the lines of a text of that version, and more
  abbrev idle : List (List ℕ) → List (List ℕ)
  idle more = header w ∷ (map tree_line fs ++ codes "end" ∷ more)

  after_header : (rest more : List (List ℕ)) → ((before : List (List ℕ)) → before ++ idle more ≡ rest → ⊥) → (ds : Entries Stamp) (before : List (List ℕ)) → before ++ idle more ≡ map tree_line ds ++ codes "end" ∷ rest → ⊥
  after_header rest more later [] [] same = let head : header w ≡ codes "end" = cc in end_not_header w (sym head)
  after_header rest more later [] (b ∷ before) same = let tail : before ++ idle more ≡ rest = cc in later before tail
  after_header rest more later (x ∷ ds) [] same = let head : header w ≡ tree_line x = cc in line_not_header x w (sym head)
  after_header rest more later (x ∷ ds) (b ∷ before) same = let tail : before ++ idle more ≡ map tree_line ds ++ codes "end" ∷ rest = cc in after_header rest more later ds before tail

  none_among : (done : List (Entries Stamp)) (tail before more : List (List ℕ)) → AllByRecursion HasText done → Unended tail → before ++ idle more ≡ flat_map tree_lines done ++ tail → ⊥
  none_among [] tail before more each unended same =
      let all : Unended (before ++ idle more) = subst Unended (sym same) unended in
      let later : Unended (idle more) = all_back (λ l. l ≢ codes "end") before (idle more) all in
      (all_back (λ l. l ≢ codes "end") (map tree_line fs) (codes "end" ∷ more) later.1).0 refl
  none_among (d ∷ done) tail [] more each unended same =
      let whole : idle more ≡ header (version_of d) ∷ (map tree_line d ++ codes "end" ∷ (flat_map tree_lines done ++ tail)) = same ∙ regrouped d done tail in
      let head : header w ≡ header (version_of d) = cc in
      let bodies : map tree_line fs ++ codes "end" ∷ more ≡ map tree_line d ++ codes "end" ∷ (flat_map tree_lines done ++ tail) = cc in
      let same_tree : fs ≡ d = (one_body fs d more (flat_map tree_lines done ++ tail) (lines_of fs text) (lines_of d each.0) bodies).0 in
      omega (arith, none, ap version_of same_tree, one_version w (version_of d) head)
  none_among (d ∷ done) tail (b ∷ before) more each unended same =
      let whole : b ∷ (before ++ idle more) ≡ header (version_of d) ∷ (map tree_line d ++ codes "end" ∷ (flat_map tree_lines done ++ tail)) = same ∙ regrouped d done tail in
      let rest : before ++ idle more ≡ map tree_line d ++ codes "end" ∷ (flat_map tree_lines done ++ tail) = cc in
      after_header (flat_map tree_lines done ++ tail) more (λ later found. none_among done tail later more each.1 unended found) d before rest

-- no prefix of such lines ends so
pub none_ends_idle : (done : List (Entries Stamp)) (tail : List (List ℕ)) → AllByRecursion HasText done → Unended tail → (k : ℕ) → EndsIdle (take k (flat_map tree_lines done ++ tail)) → ⊥
none_ends_idle done tail each unended k idle =
    none_among idle.entries idle.tree idle.version idle.none done tail idle.before (drop k (flat_map tree_lines done ++ tail)) each unended
    (ap (λ xs. idle.before ++ xs) (sym (ended idle.version idle.entries (drop k (flat_map tree_lines done ++ tail))))
    ∙ sym (append_assoc idle.before (printed_lines idle.version idle.entries) (drop k (flat_map tree_lines done ++ tail)))
    ∙ ap (λ xs. xs ++ drop k (flat_map tree_lines done ++ tail)) (sym idle.text)
    ∙ take-append-drop k (flat_map tree_lines done ++ tail))
