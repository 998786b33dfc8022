use Rattle.std.proofs.Common.{◌++◌, ℕ, List, ◌∙◌, ap, codes, length, sym}
use Rattle.std.proofs.lemmas.Bool.{eqb-true, eqb-false}
use Rattle.std.proofs.lemmas.Result.{err_from_is_err_and}
use Rattle.ext_cmd.proofs.JoinLemmas.{empty_refused, names_of_word, is_resource, is_tree_path, tree_refused}
use Rattle.ext_cmd.proofs.arguments.read_resource.Goals as goal

pub returns-then-is_empty : goal.returns-then-is_empty
returns-then-is_empty c = empty_refused c.args.word.now c.args.place (eqb-true (length c.args.word.now) 0 (sym c.if-is_empty.ensures))

pub returns-in_err-text : goal.returns-in_err-text
returns-in_err-text c =
    let p = err_from_is_err_and c.from_residual-in_err-text.result c.from_residual-in_err-text.ensures.1 in
    rw (p.1, p.2) (tree_refused c.args.word.now c.as_slice.result.now c.args.place _ (c.as_slice.ensures.value ∙ c.in_ok-name.ensures) c.in_err-text.ensures)

pub new-requires-clause-resource : goal.new-requires-clause-resource
new-requires-clause-resource c =
    let path = c.in_ok-path.ensures in
    let text = c.in_ok-text.ensures in
    let names = names_of_word c.in_ok-path.path c.args.word.now (eqb-false (length c.args.word.now) 0 (sym c.if-is_empty.ensures)) path.1 in
    is_resource c.in_ok-path.path c.in_ok-text.text names path.0 text.0 (sym text.1 ∙ c.as_slice.ensures.value ∙ c.in_ok-name.ensures ∙ ap (λ (l : List ℕ). l ++ codes ".tree") path.1)

pub new-requires-clause-text : goal.new-requires-clause-text
new-requires-clause-text c =
    let path = c.in_ok-path.ensures in
    let text = c.in_ok-text.ensures in
    let names = names_of_word c.in_ok-path.path c.args.word.now (eqb-false (length c.args.word.now) 0 (sym c.if-is_empty.ensures)) path.1 in
    is_tree_path c.in_ok-path.path c.in_ok-text.text names path.0 text.0 (sym text.1 ∙ c.as_slice.ensures.value ∙ c.in_ok-name.ensures ∙ ap (λ (l : List ℕ). l ++ codes ".tree") path.1)
