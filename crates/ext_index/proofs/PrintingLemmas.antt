-- Lists of lines that are printed one after another.
use Rattle.std.proofs.Common.{◌≡◌, ℕ, ◌+◌, Bool, List, [], ◌∷◌, ◌++◌, length, sym, ap, ◌∙◌, subst, append_assoc, append-nil, codes}
use Rattle.std.specs.Prelude.{map}
use Rattle.std.specs.List.{flat_map}
use Rattle.ext_text.specs.declared.extension.Extension.TheVariants.{Sysext, Confext}
use Rattle.ext_host.specs.Host.{HostTree, present}
use Rattle.ext_host.specs.declared.host.Host.{Host}
use Rattle.ext_host.specs.declared.past.Past.{Past}
use Rattle.ext_index_lines.specs.Lines.{hierarchy_line, number_line}
use Rattle.ext_index.specs.ValidIndex.{host_has_owners, written_index}
use Rattle.ext_index.specs.Index.{hierarchy_lines, machine_lines, past_lines, section_lines}
use Rattle.ext_lines.specs.Lines.{lines_text}
use Rattle.ext_lines.proofs.ForCallers.{lines_text-append}

-- two lists, what was printed before them, and the list that they make
pub both : (before : List ℕ) (xs ys : List (List ℕ)) → (before ++ lines_text xs) ++ lines_text ys ≡ before ++ lines_text (xs ++ ys)
both before xs ys = append_assoc before (lines_text xs) (lines_text ys) ∙ ap (λ t. before ++ t) (sym (lines_text-append xs ys))

pub three : (before : List ℕ) (xs ys zs : List (List ℕ)) → ((before ++ lines_text xs) ++ lines_text ys) ++ lines_text zs ≡ before ++ lines_text (xs ++ (ys ++ zs))
three before xs ys zs = both (before ++ lines_text xs) ys zs ∙ both before xs (ys ++ zs)

pub four : (before : List ℕ) (xs ys zs vs : List (List ℕ)) → (((before ++ lines_text xs) ++ lines_text ys) ++ lines_text zs) ++ lines_text vs ≡ before ++ lines_text (xs ++ (ys ++ (zs ++ vs)))
four before xs ys zs vs = three (before ++ lines_text xs) ys zs vs ∙ both before xs (ys ++ (zs ++ vs))

pub five : (before : List ℕ) (xs ys zs vs ws : List (List ℕ)) → ((((before ++ lines_text xs) ++ lines_text ys) ++ lines_text zs) ++ lines_text vs) ++ lines_text ws ≡ before ++ lines_text (xs ++ (ys ++ (zs ++ (vs ++ ws))))
five before xs ys zs vs ws = four (before ++ lines_text xs) ys zs vs ws ∙ both before xs (ys ++ (zs ++ (vs ++ ws)))

-- one line
pub one_line : (line : List ℕ) → line ++ 10 ∷ [] ≡ lines_text (line ∷ [])
one_line line = sym (append-nil (line ++ 10 ∷ []))

-- the hierarchies of both classes, after their number
pub classes_put : (H : List ℕ → Type 0) (before : List ℕ) (n : ℕ) (xs ys : List (List ℕ)) (host : Host) → n ≡ length host.sysext_hier + length host.confext_hier → xs ≡ host.sysext_hier → ys ≡ host.confext_hier
    → H (((before ++ (number_line (codes "hierarchies") n ++ 10 ∷ [])) ++ lines_text (map (hierarchy_line Sysext) xs)) ++ lines_text (map (hierarchy_line Confext) ys))
    → H (before ++ lines_text (hierarchy_lines host))
classes_put H before n xs ys host count sysext confext held =
    subst H
    (ap (λ t. ((before ++ t) ++ lines_text (map (hierarchy_line Sysext) xs)) ++ lines_text (map (hierarchy_line Confext) ys)) (one_line (number_line (codes "hierarchies") n))
    ∙ three before (number_line (codes "hierarchies") n ∷ []) (map (hierarchy_line Sysext) xs) (map (hierarchy_line Confext) ys)
    ∙ (λ i. before ++ lines_text (number_line (codes "hierarchies") (count i) ∷ (map (hierarchy_line Sysext) (sysext i) ++ map (hierarchy_line Confext) (confext i)))))
    held

-- the whole index
pub index_put : (H : List ℕ → Type 0) (before : List ℕ) (generation : ℕ) (owners : Bool) (host : Host) (tree : HostTree) (n : ℕ) (pasts : List Past) → owners ≡ host_has_owners host → tree ≡ present host → n ≡ length host.past → pasts ≡ host.past
    → H (((((before ++ lines_text (machine_lines owners host)) ++ lines_text (section_lines generation tree)) ++ (number_line (codes "past") n ++ 10 ∷ [])) ++ lines_text (flat_map (past_lines generation) pasts)) ++ (codes "end" ++ 10 ∷ []))
    → H (before ++ written_index generation host)
index_put H before generation owners host tree n pasts tells same count past held =
    let number = number_line (codes "past") n in
    let first_lines = (before ++ lines_text (machine_lines owners host)) ++ lines_text (section_lines generation tree) in
    subst H
    ((λ i. ((first_lines ++ one_line number i) ++ lines_text (flat_map (past_lines generation) pasts)) ++ one_line (codes "end") i)
    ∙ five before (machine_lines owners host) (section_lines generation tree) (number ∷ []) (flat_map (past_lines generation) pasts) (codes "end" ∷ [])
    ∙ (λ i. before ++ lines_text (machine_lines (tells i) host ++ (section_lines generation (same i) ++ (number_line (codes "past") (count i) ∷ (flat_map (past_lines generation) (past i) ++ codes "end" ∷ []))))))
    held
