use Rattle.std.proofs.Common.{sym, subst}
use Rattle.std.specs.Prelude.{Option}
use Rattle.ext_portext.specs.Judged.{FitsBy}
use Rattle.ext_portext.specs.declared.errors.ExtWhy.{ExtWhy}
use Rattle.ext_portext.proofs.ContentLemmas.{fits_by}
use Rattle.ext_portext.proofs.judging.said.Goals as goal

pub returns-in-Ok : goal.returns-in-Ok
returns-in-Ok c =
    subst (λ (why : Option ExtWhy). FitsBy c.args.release.now c.args.arch c.args.bytes.now why) (sym c.why_of.ensures)
    (fits_by c.args.release.now c.args.arch c.args.bytes.now c.in-Ok.own c.judge-verdict.result c.in-Ok.ensures c.judge-verdict.ensures)
