use Rattle.std.proofs.Common.{ℕ, List, [], ◌∷◌, ◌++◌, append_assoc, subst, sym, ap, ◌∙◌}
use Rattle.std.specs.Prelude.{OnOk}
use Rattle.ext_text.specs.Path.{path_text}
use Rattle.ext_tree.specs.EntryLine.{entry_fields}
use Rattle.ext_tree.specs.Fields.{spaced}
use Rattle.ext_tree.proofs.ForCallers.{spaced-append}
use Rattle.ext_index_lines.specs.Homed.{homed_form}
use Rattle.ext_index_lines.specs.Homes.{listed_entry}
use Rattle.ext_index_lines.proofs.printing.put_entry.Goals as goal

pub returns : goal.returns
returns g c = λ before held.
    let names : List (List ℕ) = entry_fields homed_form (listed_entry c.args.generation c.args.entry.now) in
    let fields : List ℕ = spaced names [] in
    let text : List ℕ = path_text c.args.path.now in
    let P : List ℕ → Type 0 = λ xs. OnOk c.put_byte.result (g.O.Out.holds c.put_byte.new.self xs) in
    subst P
    (append_assoc (before ++ fields) text (10 ∷ []) ∙ append_assoc before fields (text ++ 10 ∷ [])
    ∙ ap (λ xs. before ++ xs) (sym (append_assoc fields text (10 ∷ [])) ∙ ap (λ xs. xs ++ 10 ∷ []) (spaced-append names text)))
    (c.put_byte.ensures ((before ++ fields) ++ text) (c.in_ok-put_text.ensures (before ++ fields) (c.in_ok-put_fields.ensures before held)))
