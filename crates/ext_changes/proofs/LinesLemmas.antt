-- The lines of changes tell the changes.
use Rattle.std.proofs.Common.{◌≡◌, ℕ, List, [], ◌∷◌, ◌++◌, map, refl, sym, ap, ◌∙◌, arith}
use Rattle.std.proofs.lemmas.List.{append-nil}
use Rattle.std.specs.List.{AllByRecursion}
use Rattle.ext_lines.specs.Lines.{whole_lines}
use Rattle.ext_lines.specs.Split.{Lacks}
use Rattle.ext_lines.proofs.ForCallers.{lacks_cons, lacks_nil, whole_lines-lacks, whole_lines-text}
use Rattle.ext_text.specs.Absolute.{absolute}
use Rattle.ext_text.specs.Path.{IsPath, path_text}
use Rattle.ext_text.proofs.ForCallers.{path_injective, path_lacks}
use Rattle.ext_changes.specs.Changes.{Changes}
use Rattle.ext_changes.specs.Laws.{OneListOfText}
use Rattle.ext_changes.specs.Lines.{change_line, changes_text, sign}
use Rattle.ext_changes.specs.declared.change.ChangeKind.{ChangeKind}
use Rattle.ext_changes.specs.declared.change.ChangeKind.TheVariants.{Added, Removed, Changed}

-- no line holds a newline
sign_lacks : (kind : ChangeKind) (rest : List ℕ) → Lacks 10 rest → Lacks 10 (sign kind ∷ rest)
sign_lacks Added rest lacks = lacks_cons 10 43 rest refl lacks
sign_lacks Removed rest lacks = lacks_cons 10 45 rest refl lacks
sign_lacks Changed rest lacks = lacks_cons 10 42 rest refl lacks

line_lacks : (change : List (List ℕ) × ChangeKind) → IsPath change.0 → Lacks 10 (change_line change)
line_lacks change path =
    sign_lacks change.1 (32 ∷ absolute change.0) (lacks_cons 10 32 (absolute change.0) refl (lacks_cons 10 47 (path_text change.0) refl (path_lacks 10 change.0 (omega arith) path.each)))

lines_lack : (changes : Changes) → AllByRecursion (λ change. IsPath change.0) changes → AllByRecursion (Lacks 10) (map change_line changes)
lines_lack [] paths = tt
lines_lack (change ∷ changes) paths = (line_lacks change paths.0, lines_lack changes paths.1)

-- so a text has the lines of its changes
lines_back : (changes : Changes) → AllByRecursion (λ change. IsPath change.0) changes → whole_lines (changes_text changes) ≡ map change_line changes
lines_back changes paths =
    ap whole_lines (sym (append-nil (changes_text changes))) ∙ whole_lines-text (map change_line changes) [] (lines_lack changes paths)
    ∙ ap (λ more. map change_line changes ++ more) (whole_lines-lacks [] (lacks_nil 10)) ∙ append-nil (map change_line changes)

-- a line is that of one change
one_sign : (j k : ChangeKind) → sign j ≡ sign k → j ≡ k
one_sign Added Added same = refl
one_sign Added Removed same = absurd (omega arith)
one_sign Added Changed same = absurd (omega arith)
one_sign Removed Added same = absurd (omega arith)
one_sign Removed Removed same = refl
one_sign Removed Changed same = absurd (omega arith)
one_sign Changed Added same = absurd (omega arith)
one_sign Changed Removed same = absurd (omega arith)
one_sign Changed Changed same = refl

one_line : (c d : List (List ℕ) × ChangeKind) → IsPath c.0 → IsPath d.0 → change_line c ≡ change_line d → c ≡ d
one_line c d first second same =
    let signs : sign c.1 ≡ sign d.1 = cc in
    let texts : path_text c.0 ≡ path_text d.0 = cc in
    λ i. (path_injective c.0 d.0 first second texts i, one_sign c.1 d.1 signs i)

same_lines : (cs ds : Changes) → AllByRecursion (λ change. IsPath change.0) cs → AllByRecursion (λ change. IsPath change.0) ds → map change_line cs ≡ map change_line ds → cs ≡ ds
same_lines [] [] first second same = refl
same_lines [] (d ∷ ds) first second same = absurd (cc)
same_lines (c ∷ cs) [] first second same = absurd (cc)
same_lines (c ∷ cs) (d ∷ ds) first second same =
    let line : change_line c ≡ change_line d = cc in
    let lines : map change_line cs ≡ map change_line ds = cc in
    λ i. one_line c d first.0 second.0 line i ∷ same_lines cs ds first.1 second.1 lines i

pub one_list_of_text : OneListOfText
one_list_of_text cs ds first second same = same_lines cs ds first second (sym (lines_back cs first) ∙ ap whole_lines same ∙ lines_back ds second)
