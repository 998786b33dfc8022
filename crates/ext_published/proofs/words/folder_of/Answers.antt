use Rattle.std.proofs.Common.{refl, ◌∙◌}
use Rattle.std.proofs.lemmas.Bool.{false≢true}
use Rattle.std.proofs.lemmas.Result.{err_from_is_err_and}
use Rattle.ext_published.proofs.WordLemmas.{root_is_none, is_folder, not_folder_err}
use Rattle.ext_published.proofs.words.folder_of.Goals as goal

pub returns-then-is_root : goal.returns-then-is_root
returns-then-is_root c = (refl, root_is_none c.args.text.now c.in_ok-path.path (c.if-is_root.ensures.0 refl) c.in_ok-path.ensures.1)

pub returns-in_err-_longer : goal.returns-in_err-_longer
returns-in_err-_longer c =
    let p = err_from_is_err_and c.from_residual-in_err-_longer.result c.from_residual-in_err-_longer.ensures.1 in
    rw (p.1, p.2) (not_folder_err c.args.text.now c.bytes.result.now c.args.place _ (c.bytes.ensures ∙ c.in_ok-longer.ensures) c.in_err-_longer.ensures)

pub returns : goal.returns
returns c =
    let path = c.in_ok-path.ensures in
    let wide = c.in_ok-_longer.ensures in (
      is_folder c.args.text.now c.bytes.result.now c.in_ok-path.path _ (λ none. false≢true (c.if-is_root.ensures.1 none)) path.0 path.1 (c.bytes.ensures ∙ c.in_ok-longer.ensures) wide.0 wide.1,
      path.1,
    )
