use Rattle.std.proofs.Common.{sym, ap, ◌∙◌, ◌∷◌, ◌++◌, [], List, ℕ}
use Rattle.ext_text.proofs.CutLemmas.{last_of, only_name}
use Rattle.ext_text.proofs.path_ref.PathRef.split_last.Goals as goal

pub returns-in-None : goal.returns-in-None
returns-in-None c =
    let one = only_name c.text-text.result.now c.args.self.now c.text-text.ensures.parts c.text-text.ensures.names c.if-is_empty.ensures c.in-None.ensures in
    (one.0 ∙ ap (λ (l : List (List ℕ)). l ++ c.text-text.result.now ∷ []) (sym c.root.ensures), one.1)

pub returns-in-Some : goal.returns-in-Some
returns-in-Some c =
    let found = c.in-Some.ensures in
    let parts = last_of c.text-text.result.now c.in-Some.above.now c.in-Some.last.now c.args.self.now c.text-text.ensures.parts c.text-text.ensures.names found.0 found.1 in
    (parts.0, parts.1)

pub invariant_of-result : goal.invariant_of-result
invariant_of-result c =
    let found = c.in-Some.ensures in
    (last_of c.text-text.result.now c.in-Some.above.now c.in-Some.last.now c.args.self.now c.text-text.ensures.parts c.text-text.ensures.names found.0 found.1).2
