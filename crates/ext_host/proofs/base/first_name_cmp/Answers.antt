use Rattle.std.proofs.Common.{◌∙◌, ap, sym}
use Rattle.ext_host.specs.Base.{first_name_cmp}
use Rattle.ext_host.proofs.base.first_name_cmp.Goals as goal

pub returns-in-None : goal.returns-in-None
returns-in-None c = ap (first_name_cmp c.args.name.now) (sym c.in-None.ensures ∙ c.names.ensures.same)

pub returns-in-Some : goal.returns-in-Some
returns-in-Some c =
    rw c.bytes.ensures.same at c.cmp.ensures ∙ ap (first_name_cmp c.args.name.now) (sym c.in-Some.ensures.0 ∙ c.names.ensures.same)
