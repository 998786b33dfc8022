use Rattle.std.proofs.Common.{◌∷◌, ◌++◌, sym, ap, ◌∙◌}
use Rattle.std.proofs.lemmas.Bool.{false≢true}
use Rattle.ext_find.proofs.VersionLemmas.{no_arch, no_bar, no_version, read_none, read_some}
use Rattle.ext_find.proofs.version.split_at_arch.Goals as goal
use Rattle.ext_find.proofs.version.split_at_arch.Goals.{else-is_version-via-then-is_version+else-is_some, else-is_version-via-else-is_version}

pub returns-in-None : goal.returns-in-None
returns-in-None c = no_bar c.args.text.now c.in-None.ensures

pub returns-else-is_version : goal.returns-else-is_version
returns-else-is_version c =
    elim c.else-is_version.branch [
      | else-is_version-via-then-is_version+else-is_some w ↦ no_arch c.args.text.now c.in-Some.version.now c.in-Some.word.now c.in-Some.ensures.0 c.in-Some.ensures.1 (read_none c.in-Some.word.now w.read.result w.read.ensures (sym w.is_some.ensures ∙ w.if-is_some.false))
      | else-is_version-via-else-is_version w ↦ no_version c.args.text.now c.in-Some.version.now c.in-Some.word.now c.in-Some.ensures.0 c.in-Some.ensures.1 (λ is. false≢true (sym w.if-is_version.false ∙ c.is_version.ensures.1 is))
    ]

pub returns-then-is_some : goal.returns-then-is_some
returns-then-is_some c =
    let read = read_some c.in-Some.word.now c.read.result c.read.ensures (sym c.is_some.ensures ∙ c.if-is_some.true) in
    (read.0, record { whole = c.in-Some.ensures.0 ∙ ap (λ w. c.in-Some.version.now ++ 95 ∷ w) read.1; is_version = c.is_version.ensures.0 c.if-is_version.true }, read.1)
