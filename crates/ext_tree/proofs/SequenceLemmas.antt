-- Sequences of texts' lines are read in one way only, and what may stand next in them. Versions that a rule does not allow
-- are among them.
use Rattle.std.proofs.Common.{◌≡◌, ℕ, ◌≤◌, List, [], ◌∷◌, ◌++◌, refl, sym, ap, ◌∙◌, subst, arith, append_assoc}
use Rattle.std.proofs.lemmas.List.{append-nil}
use Rattle.std.proofs.lemmas.List.Folds.{flat_map-map}
use Rattle.std.proofs.Math.Nat.{le-max_left, le-max_right}
use Rattle.std.specs.Prelude.{codes, map, ◌⊎◌}
use mathlib.Core.Logic.{inl, inr}
use Rattle.std.specs.List.{AllByRecursion, flat_map}
use Rattle.ext_tree.specs.declared.entry.Entry.{Entry}
use Rattle.ext_tree.specs.declared.stamp.Stamp.{Stamp}
use Rattle.ext_tree.specs.Tree.{Entries}
use Rattle.ext_tree.specs.TreeText.{HasText, HasTreeLine, IsLoose, header, loose_lines, needed_version, version_of, printed_lines, tree_line, tree_lines}
use Rattle.ext_tree.specs.Reading.{MayAdd}
use Rattle.ext_tree.proofs.TreeLineLemmas.{line_injective, line_not_end, one_version}
use Rattle.ext_tree.proofs.TreeTextLemmas.{lines_of, prefix_next, version_high}

-- v lists of entries with the same lines and `end` after them are one list, and the rests are one
pub one_body : (es fs : Entries Stamp) (a b : List (List ℕ)) → AllByRecursion HasTreeLine es → AllByRecursion HasTreeLine fs → map tree_line es ++ codes "end" ∷ a ≡ map tree_line fs ++ codes "end" ∷ b → (es ≡ fs) × (a ≡ b)
one_body [] [] a b he hf same = (refl, cc)
one_body [] (y ∷ fs) a b he hf same = let head : codes "end" ≡ tree_line y = cc in absurd (line_not_end y (sym head))
one_body (x ∷ es) [] a b he hf same = let head : tree_line x ≡ codes "end" = cc in absurd (line_not_end x head)
one_body (x ∷ es) (y ∷ fs) a b he hf same =
    let head : tree_line x ≡ tree_line y = cc in
    let tail : map tree_line es ++ codes "end" ∷ a ≡ map tree_line fs ++ codes "end" ∷ b = cc in
    let entry : x ≡ y = line_injective x y he.0 hf.0 head in
    let rest : (es ≡ fs) × (a ≡ b) = one_body es fs a b he.1 hf.1 tail in
    (λ i. entry i ∷ rest.0 i, rest.1)

-- the version has a line for each of some entries, and so for one of them
one_needs : (es : Entries Stamp) (x : List (List ℕ) × Entry Stamp) (more : Entries Stamp) → needed_version x.1 ≤ version_of (es ++ x ∷ more)
one_needs [] x more = le-max_left (needed_version x.1) (version_of more)
one_needs (y ∷ es) x more = omega (arith, one_needs es x more, le-max_right (needed_version y.1) (version_of (es ++ x ∷ more)))

-- what follows the lines of a tree's first entries: the last line, or that of one entry more
abbrev pub Next : ℕ → Entries Stamp → List ℕ → Type 0
Next v es l = (l ≡ codes "end") ⊎ ((x : List (List ℕ) × Entry Stamp) × MayAdd v es x × (l ≡ tree_line x))

pub next_line : (v : ℕ) (done es fs : Entries Stamp) (l : List ℕ) (a b : List (List ℕ)) → AllByRecursion HasTreeLine es → AllByRecursion HasTreeLine fs → HasText (done ++ fs) → (version_of (done ++ fs) ≤ v)
    → map tree_line es ++ l ∷ a ≡ map tree_line fs ++ codes "end" ∷ b → Next v (done ++ es) l
next_line v done [] [] l a b he hf text version same = let head : l ≡ codes "end" = cc in inl head
next_line v done [] (y ∷ fs) l a b he hf text version same =
    let head : l ≡ tree_line y = cc in
    inr (
      y,
      record {
        longer = subst (λ xs. HasText (xs ++ y ∷ [])) (sym (append-nil done)) (prefix_next done y fs text);
        needed = omega (arith, one_needs done y fs, version);
      },
      head,
    )
next_line v done (x ∷ es) [] l a b he hf text version same = let head : tree_line x ≡ codes "end" = cc in absurd (line_not_end x head)
next_line v done (x ∷ es) (y ∷ fs) l a b he hf text version same =
    let head : tree_line x ≡ tree_line y = cc in
    let tail : map tree_line es ++ l ∷ a ≡ map tree_line fs ++ codes "end" ∷ b = cc in
    let entry : x ≡ y = line_injective x y he.0 hf.0 head in
    let regrouped : done ++ y ∷ fs ≡ (done ++ x ∷ []) ++ fs = ap (λ z. done ++ z ∷ fs) (sym entry) ∙ sym (append_assoc done (x ∷ []) fs) in
    subst (λ xs. Next v xs l) (append_assoc done (x ∷ []) es)
    (next_line v (done ++ x ∷ []) es fs l a b he.1 hf.1 (subst HasText regrouped text) (omega (arith, ap version_of regrouped, version)) tail)

-- lines of entries alone are no tree's
pub open_body : (es fs : Entries Stamp) (b : List (List ℕ)) → map tree_line es ≡ map tree_line fs ++ codes "end" ∷ b → ⊥
open_body [] [] b same = cc
open_body [] (y ∷ fs) b same = cc
open_body (x ∷ es) [] b same = let head : tree_line x ≡ codes "end" = cc in line_not_end x head
open_body (x ∷ es) (y ∷ fs) b same = let tail : map tree_line es ≡ map tree_line fs ++ codes "end" ∷ b = cc in open_body es fs b tail

pub ended : (v : ℕ) (es : Entries Stamp) (a : List (List ℕ)) → printed_lines v es ++ a ≡ header v ∷ (map tree_line es ++ codes "end" ∷ a)
ended v es a = ap (λ xs. header v ∷ xs) (append_assoc (map tree_line es) (codes "end" ∷ []) a)

pub head_of : (x y : List ℕ) (xs ys : List (List ℕ)) → x ∷ xs ≡ y ∷ ys → (x ≡ y) × (xs ≡ ys)
head_of x y xs ys same = (cc, cc)

pub one_text_lines : (t u : ℕ × Entries Stamp) (a b : List (List ℕ)) → HasText t.1 → HasText u.1 → loose_lines t ++ a ≡ loose_lines u ++ b → (t.0 ≡ u.0) × ((t.1 ≡ u.1) × (a ≡ b))
one_text_lines t u a b ht hu same =
    let parts = head_of (header t.0) (header u.0) (map tree_line t.1 ++ codes "end" ∷ a) (map tree_line u.1 ++ codes "end" ∷ b) (sym (ended t.0 t.1 a) ∙ same ∙ ended u.0 u.1 b) in
    (one_version t.0 u.0 parts.0, one_body t.1 u.1 a b (lines_of t.1 ht) (lines_of u.1 hu) parts.1)

-- lines begin with the text of one tree
pub one_tree : (t u : Entries Stamp) (a b : List (List ℕ)) → HasText t → HasText u → tree_lines t ++ a ≡ tree_lines u ++ b → (t ≡ u) × (a ≡ b)
one_tree t u a b ht hu same = (one_text_lines (version_of t, t) (version_of u, u) a b ht hu same).1

-- the lines of texts and what follows, where they are a sequence's: the sequence begins with these texts
pub loosely_peeled : (done texts : List (ℕ × Entries Stamp)) (a : List (List ℕ)) → AllByRecursion IsLoose done → AllByRecursion IsLoose texts → flat_map loose_lines done ++ a ≡ flat_map loose_lines texts
    → (more : List (ℕ × Entries Stamp)) × (texts ≡ done ++ more) × (a ≡ flat_map loose_lines more) × AllByRecursion IsLoose more
loosely_peeled [] texts a hd ht same = (texts, refl, same, ht)
loosely_peeled (d ∷ done) [] a hd ht same = absurd (no_sequence (flat_map loose_lines done) same)
  where
    no_sequence : (rest : List (List ℕ)) → (loose_lines d ++ rest) ++ a ≡ [] → ⊥
    no_sequence rest none = cc
loosely_peeled (d ∷ done) (t ∷ texts) a hd ht same =
    let first = one_text_lines d t (flat_map loose_lines done ++ a) (flat_map loose_lines texts) hd.0.tree ht.0.tree (sym (append_assoc (loose_lines d) (flat_map loose_lines done) a) ∙ same) in
    let rest = loosely_peeled done texts a hd.1 ht.1 first.1.1 in
    let version : t.0 ≡ d.0 = sym first.0 in
    let tree : t.1 ≡ d.1 = sym first.1.0 in
    (rest.0, (λ i. (version i, tree i) ∷ rest.1 i), rest.2, rest.3)

abbrev pub loosely : Entries Stamp → ℕ × Entries Stamp
loosely es = (version_of es, es)

pub loosely_lines : (trees : List (Entries Stamp)) → flat_map loose_lines (map loosely trees) ≡ flat_map tree_lines trees
loosely_lines trees = flat_map-map loose_lines loosely trees

pub loosely_each : (trees : List (Entries Stamp)) → AllByRecursion HasText trees → AllByRecursion IsLoose (map loosely trees)
loosely_each [] each = tt
loosely_each (t ∷ trees) each = (record { tree = each.0; version = omega arith; known = version_high t }, loosely_each trees each.1)

pub loosely_trees : (trees : List (Entries Stamp)) → map (λ t. t.1) (map loosely trees) ≡ trees
loosely_trees [] = refl
loosely_trees (t ∷ trees) = ap (λ xs. t ∷ xs) (loosely_trees trees)

-- one text more
pub loosely_push : (trees : List (Entries Stamp)) (t : ℕ × Entries Stamp) → map (λ u. u.1) (map loosely trees ++ t ∷ []) ≡ trees ++ t.1 ∷ []
loosely_push [] t = refl
loosely_push (u ∷ trees) t = ap (λ xs. u ∷ xs) (loosely_push trees t)

-- the trees of a sequence begin with these
pub sequence_peeled : (done trees : List (Entries Stamp)) (a : List (List ℕ)) → AllByRecursion HasText done → AllByRecursion HasText trees → flat_map tree_lines done ++ a ≡ flat_map tree_lines trees
    → (more : List (Entries Stamp)) × (trees ≡ done ++ more) × (a ≡ flat_map tree_lines more) × AllByRecursion HasText more
sequence_peeled [] trees a hd ht same = (trees, refl, same, ht)
sequence_peeled (d ∷ done) [] a hd ht same = absurd (no_sequence (flat_map tree_lines done) same)
  where
    no_sequence : (rest : List (List ℕ)) → (tree_lines d ++ rest) ++ a ≡ [] → ⊥
    no_sequence rest none = cc
sequence_peeled (d ∷ done) (t ∷ trees) a hd ht same =
    let first : (d ≡ t) × (flat_map tree_lines done ++ a ≡ flat_map tree_lines trees) =
    one_tree d t (flat_map tree_lines done ++ a) (flat_map tree_lines trees) hd.0 ht.0 (sym (append_assoc (tree_lines d) (flat_map tree_lines done) a) ∙ same) in
    let rest = sequence_peeled done trees a hd.1 ht.1 first.1 in
    let head : t ≡ d = sym first.0 in
    (rest.0, (λ i. head i ∷ rest.1 i), rest.2, rest.3)
