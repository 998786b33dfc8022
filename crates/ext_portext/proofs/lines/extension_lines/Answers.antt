use Rattle.std.proofs.Common.{◌≡◌, ℕ, ◌+◌, ◌<◌, List, ◌++◌, length, get_or, drop, append_assoc, sym, ap, ◌∙◌}
use Rattle.std.proofs.lemmas.List.{at_drop_more}
use Rattle.ext_portext.specs.Lines.{extension_lines, line_of_place}
use Rattle.ext_portext.specs.declared.extending.Extending.{Extending}
use Rattle.ext_portext.proofs.lines.extension_lines.Goals as goal

-- the lines so far, with that of the next extension, and those of the rest are all
next_line : (xs : List Extending) (i : ℕ) (x : Extending) (lines more : List ℕ) → i < length xs → x ≡ get_or xs i x → more ≡ lines ++ line_of_place x.place
    → lines ++ extension_lines (drop i xs) ≡ extension_lines xs → more ++ extension_lines (drop (i + 1) xs) ≡ extension_lines xs
next_line xs i x lines more below is appended so_far =
    let rest = extension_lines (drop (i + 1) xs) in
    ap (λ (ls : List ℕ). ls ++ rest) appended
    ∙ append_assoc lines (line_of_place x.place) rest
    ∙ ap (λ (y : Extending). lines ++ (line_of_place y.place ++ rest)) is
    ∙ ap (λ (ls : List ℕ). lines ++ ls) (sym (at_drop_more extension_lines xs i x below))
    ∙ so_far

pub extensions-preserved : goal.extensions-preserved
extensions-preserved c =
    next_line c.args.extensions.now c.extensions.extending-index c.extending-item.result c.extensions.lines.items c.append_line.new.lines.items
    c.extensions-test.true c.extending-item.is c.in_ok-append_line.ensures c.extensions.invariant
