use Rattle.std.proofs.Common.{arith, sym, ◌∙◌}
use Rattle.std.proofs.lemmas.Result.{err_from_is_err_and}
use Rattle.ext_published.proofs.WordLemmas.{path_err, folder_err, name_err, whole_words, wrong_end}
use Rattle.ext_published.proofs.words.read_words.Goals as goal

pub returns-in_err-path : goal.returns-in_err-path
returns-in_err-path c =
    let p = err_from_is_err_and c.from_residual.result c.from_residual.ensures.1 in
    rw (p.1, p.2) (path_err c.args.words.now _ _ c.word_at.ensures c.in_err-path.ensures)

pub returns-in_err-folder : goal.returns-in_err-folder
returns-in_err-folder c =
    let p = err_from_is_err_and c.from_residual-in_err-folder.result c.from_residual-in_err-folder.ensures.1 in
    let path = c.in_ok-path.ensures in
    rw (p.1, p.2) (folder_err c.args.words.now c.in_ok-path.path _ _ _ c.word_at.ensures c.word_at-2.ensures path.0 path.1 c.in_err-folder.ensures)

pub returns-in_err-name : goal.returns-in_err-name
returns-in_err-name c =
    let p = err_from_is_err_and c.from_residual-in_err-name.result c.from_residual-in_err-name.ensures.1 in
    let path = c.in_ok-path.ensures in
    let folder = c.in_ok-folder.ensures in
    rw (p.1, p.2) (name_err c.args.words.now c.in_ok-path.path c.in_ok-folder.folder _ _ _ _ c.word_at.ensures c.word_at-2.ensures c.word_at-3.ensures path.0 path.1 folder.0 folder.1 c.in_err-name.ensures.err)

pub returns-then-len-gt3 : goal.returns-then-len-gt3
returns-then-len-gt3 c =
    let path = c.in_ok-path.ensures in
    let folder = c.in_ok-folder.ensures in
    let name = c.in_ok-name.ensures.ok in
    wrong_end c.in_ok-path.path c.in_ok-folder.folder c.in_ok-name.name c.args.words.now path.0 folder.0 name.0 (sym c.word_at.ensures ∙ path.1) (sym c.word_at-2.ensures ∙ folder.1) (sym c.word_at-3.ensures ∙ name.1)
    (omega (arith, c.if-len-gt3.true, c.len.ensures))

pub returns : goal.returns
returns c =
    let path = c.in_ok-path.ensures in
    let folder = c.in_ok-folder.ensures in
    let name = c.in_ok-name.ensures.ok in
    rw c.new.ensures (
      record { path = path.0; folder = folder.0; name = name.0 },
      whole_words c.in_ok-path.path c.in_ok-folder.folder c.in_ok-name.name c.args.words.now (sym c.word_at.ensures ∙ path.1) (sym c.word_at-2.ensures ∙ folder.1) (sym c.word_at-3.ensures ∙ name.1)
          (omega (arith, c.if-len-gt3.false, c.len.ensures)),
    )
