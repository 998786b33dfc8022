use Rattle.std.proofs.Common.{sym, subst}
use Rattle.std.specs.Prelude.{IfOk}
use Rattle.ext_port.specs.Given.{IsAsked}
use Rattle.ext_portext.specs.Steps.{ExtensionPlace}
use Rattle.ext_portext.proofs.extension.extension_at.Goals as goal

pub extension_of_path-requires : goal.extension_of_path-requires
extension_of_path-requires c = subst IsAsked c.in-At.is c.requires

pub returns-in-Named : goal.returns-in-Named
returns-in-Named c =
    subst (λ image. IfOk c.extension_named.result (ExtensionPlace c.args.host.now c.args.base.now image)) (sym c.in-Named.is) c.extension_named.ensures

pub returns-in-At : goal.returns-in-At
returns-in-At c =
    subst (λ image. IfOk c.extension_of_path.result (ExtensionPlace c.args.host.now c.args.base.now image)) (sym c.in-At.is) c.extension_of_path.ensures
