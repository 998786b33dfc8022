-- The text of a tree, line by line.
use Rattle.std.proofs.Common.{Bor, ◌≡◌, ℕ, suc, ◌+◌, ◌<◌, ◌≤◌, max, get_or, List, [], ◌∷◌, ◌++◌, length, map, take, refl, sym, ap, ◌∙◌, subst, append_assoc, arith}
use Rattle.std.specs.Prelude.{codes}
use Rattle.std.specs.List.{flat_map}
use Rattle.std.proofs.lemmas.List.{append-nil, map-append, take_all}
use Rattle.std.proofs.lemmas.List.Concat.{flat_map-append}
use Rattle.std.proofs.Math.Seq.{take-suc}
use Rattle.std.proofs.lemmas.List.Folds.{flat_map-map}
use Rattle.ext_tree.specs.declared.entry.Entry.{Entry}
use Rattle.ext_tree.proofs.TreeTextLemmas.{version_known, version_push}
use Rattle.ext_lines.specs.Lines.{lines_text}
use Rattle.ext_tree.specs.declared.stamp.Stamp.{Stamp}
use Rattle.ext_tree.specs.Tree.{Entries, all_shown, as_shown}
use Rattle.ext_tree.specs.TreeText.{IsVersion, header, needed_version, version_of, printed_lines, tree_line, tree_text}

-- an entry's line with its newline
abbrev pub whole_line : List (List ℕ) × Entry Stamp → List ℕ
whole_line x = tree_line x ++ 10 ∷ []

lines_then_end : (es : Entries Stamp) → flat_map (λ line. line ++ 10 ∷ []) (map tree_line es ++ codes "end" ∷ []) ≡ flat_map whole_line es ++ codes "end\n"
lines_then_end [] = refl
lines_then_end (e ∷ es) = ap (λ rest. whole_line e ++ rest) (lines_then_end es) ∙ sym (append_assoc (whole_line e) (flat_map whole_line es) (codes "end\n"))

-- all lines have been printed
pub all_printed : (es : Entries Stamp) (v : ℕ) (i : ℕ) (text : List ℕ) → length es ≤ i → v ≡ version_of es → text ≡ (header v ++ 10 ∷ []) ++ flat_map whole_line (take i es) → text ++ codes "end\n" ≡ tree_text es
all_printed es v i text h version is =
    ap (λ t. t ++ codes "end\n") (is ∙ ap (λ done. (header v ++ 10 ∷ []) ++ flat_map whole_line done) (take_all i es h))
    ∙ append_assoc (header v ++ 10 ∷ []) (flat_map whole_line es) (codes "end\n")
    ∙ ap (λ rest. (header v ++ 10 ∷ []) ++ rest) (sym (lines_then_end es))
    ∙ ap (λ v. lines_text (printed_lines v es)) version

-- an entry as it shows, with its path
abbrev pub shown : Bor (List (List ℕ) × Entry Stamp) → List (List ℕ) × Entry Stamp
shown x = (x.now.0, as_shown x.now.1)

-- all lines of entries that are borrowed have been printed
pub all_printed_borrowed : (es : List (Bor (List (List ℕ) × Entry Stamp))) (v : ℕ) (i : ℕ) (text : List ℕ) → length es ≤ i → v ≡ version_of (all_shown es) → text ≡ (header v ++ 10 ∷ []) ++ flat_map (λ x. whole_line (shown x)) (take i es) → text ++ codes "end\n" ≡ tree_text (all_shown es)
all_printed_borrowed es v i text h version is =
    all_printed (map shown es) v (length (map shown es)) text (omega arith) version
    (is ∙ ap (λ done. (header v ++ 10 ∷ []) ++ flat_map (λ x. whole_line (shown x)) done) (take_all i es h)
    ∙ ap (λ lines. (header v ++ 10 ∷ []) ++ lines) (sym (flat_map-map whole_line shown es) ∙ ap (flat_map whole_line) (sym (take_all (length (map shown es)) (map shown es) (omega arith)))))

-- what tells the version of all entries, looked at one after another
pub version_told : (es : List (Bor (List (List ℕ) × Entry Stamp))) (i v : ℕ) → length es ≤ i → v ≡ version_of (all_shown (take i es)) → v ≡ version_of (all_shown es)
version_told es i v h is = is ∙ ap (λ xs. version_of (all_shown xs)) (take_all i es h)

-- one more
pub version_shown : (es : List (Bor (List (List ℕ) × Entry Stamp))) (x : Bor (List (List ℕ) × Entry Stamp)) (v : ℕ) → v ≡ version_of (all_shown es) → max v (needed_version (as_shown x.now.1)) ≡ version_of (all_shown (es ++ x ∷ []))
version_shown es x v is =
    ap (λ (n : ℕ). max n (needed_version (as_shown x.now.1))) is ∙ sym (version_push (map shown es) (shown x)) ∙ ap version_of (sym (map-append shown es (x ∷ [])))

-- the version of the first entries, and of one more
pub version_next : (es : Entries Stamp) (i : ℕ) (x : List (List ℕ) × Entry Stamp) (v n w : ℕ) → v ≡ version_of (take i es) → x ≡ get_or es i x → i < length es → n ≡ needed_version x.1 → w ≡ max v n → w ≡ version_of (take (i + 1) es)
version_next es i x v n w is there within needed higher =
    higher ∙ ap (λ (k : ℕ). max k n) is ∙ ap (max (version_of (take i es))) needed ∙ sym (version_push (take i es) x)
    ∙ ap (λ y. version_of (take i es ++ y ∷ [])) there ∙ ap version_of (sym (take-suc es i x within)) ∙ ap (λ (k : ℕ). version_of (take k es)) (add-one i)
  where
    add-one : (k : ℕ) → suc k ≡ k + 1
    add-one k = omega arith

pub counted_known : (es : Entries Stamp) (i v : ℕ) → v ≡ version_of (take i es) → IsVersion v
counted_known es i v is = subst IsVersion (sym is) (version_known (take i es))

-- the same of borrowed entries as they show
pub shown_next : (es : List (Bor (List (List ℕ) × Entry Stamp))) (i : ℕ) (x : Bor (List (List ℕ) × Entry Stamp)) (v n w : ℕ) → v ≡ version_of (all_shown (take i es)) → x ≡ get_or es i x → i < length es → n ≡ needed_version (as_shown x.now.1) → w ≡ max v n → w ≡ version_of (all_shown (take (i + 1) es))
shown_next es i x v n w is there within needed higher =
    higher ∙ ap (max v) needed ∙ version_shown (take i es) x v is
    ∙ ap (λ y. version_of (all_shown (take i es ++ y ∷ []))) there ∙ ap (λ ys. version_of (all_shown ys)) (sym (take-suc es i x within)) ∙ ap (λ (k : ℕ). version_of (all_shown (take k es))) (add-one i)
  where
    add-one : (k : ℕ) → suc k ≡ k + 1
    add-one k = omega arith

pub shown_known : (es : List (Bor (List (List ℕ) × Entry Stamp))) (i v : ℕ) → v ≡ version_of (all_shown (take i es)) → IsVersion v
shown_known es i v is = subst IsVersion (sym is) (version_known (all_shown (take i es)))

-- the texts of the first items, and of one more
pub text_next : {X : Type 0} (f : X → List ℕ) (es : List X) (i : ℕ) (x : X) (front text new : List ℕ) → text ≡ front ++ flat_map f (take i es) → x ≡ get_or es i x → i < length es → new ≡ text ++ f x → new ≡ front ++ flat_map f (take (i + 1) es)
text_next f es i x front text new is there within grown =
    grown ∙ ap (λ t. t ++ f x) is ∙ append_assoc front (flat_map f (take i es)) (f x)
    ∙ ap (λ t. front ++ (flat_map f (take i es) ++ t)) (sym (append-nil (f x)))
    ∙ ap (λ t. front ++ t) (sym (flat_map-append f (take i es) (x ∷ [])))
    ∙ ap (λ y. front ++ flat_map f (take i es ++ y ∷ [])) there
    ∙ ap (λ ys. front ++ flat_map f ys) (sym (take-suc es i x within))
    ∙ ap (λ (k : ℕ). front ++ flat_map f (take k es)) (add-one i)
  where
    add-one : (k : ℕ) → suc k ≡ k + 1
    add-one k = omega arith
