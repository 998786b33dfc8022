use Rattle.std.proofs.Common.{subst}
use Rattle.std.specs.Prelude.{ℕ, List}
use Rattle.ext_walk.specs.Leads.{DirectoryAt}
use Rattle.ext_portext.proofs.ExtensionLemmas.{extension_path, no_extension_path}
use Rattle.ext_portext.proofs.extension.extension_of_path.Goals as goal

pub returns-in-None : goal.returns-in-None
returns-in-None c =
    no_extension_path c.args.host.now c.args.base.now c.args.path.now
    (subst (DirectoryAt c.args.base.now c.args.path.now) c.in-None.is
    (subst (λ (p : List (List ℕ)). DirectoryAt c.args.base.now p c.in_ok-directory_at.field-0) c.names.ensures.same c.in_ok-directory_at.ensures))

pub returns-in_ok-place-in-Some : goal.returns-in_ok-place-in-Some
returns-in_ok-place-in-Some c =
    let path = c.args.path.now in
    let at = subst (DirectoryAt c.args.base.now path) c.in-Some.is
    (subst (λ (p : List (List ℕ)). DirectoryAt c.args.base.now p c.in_ok-directory_at.field-0) c.names.ensures.same c.in_ok-directory_at.ensures)
    in (
      c.in_ok-place-in-Some.ensures,
      extension_path c.args.host.now c.args.base.now path c.in-Some.directory c.in_ok-name-in-Some.name c.in_ok-broken-in-Some.broken at.0 at.1 c.in_ok-name-in-Some.ensures c.in_ok-broken-in-Some.ensures,
    )
