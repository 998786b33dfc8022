use Rattle.std.proofs.Common.{◌∙◌, sym, subst, ap}
use Rattle.std.specs.Ordering.{is_eq}
use Rattle.ext_text.specs.Path.{IsPath, path_cmp}
use Rattle.ext_disk.proofs.NamesLemmas.{in_folder, not_in_folder, root_in_none}
use Rattle.ext_disk.proofs.disk_entries.name_in.Goals as goal

pub returns-in-None-clause-name : goal.returns-in-None-clause-name
returns-in-None-clause-name c = root_in_none c.args.dir.now c.args.path.now (sym c.names.ensures.same ∙ c.in-None.ensures)

pub returns-then-is_eq-clause-name : goal.returns-then-is_eq-clause-name
returns-then-is_eq-clause-name c =
    (in_folder c.args.dir.now c.args.path.now c.in-Some.above c.in-Some.last.now (sym c.names.ensures.same ∙ c.in-Some.ensures.0)
    (sym c.if-is_eq.true ∙ c.is_eq.ensures ∙ ap is_eq c.cmp.ensures ∙ ap (λ d. is_eq (path_cmp d c.in-Some.above)) c.names-in-Some.ensures.same)).0

pub returns-then-is_eq-clause-path : goal.returns-then-is_eq-clause-path
returns-then-is_eq-clause-path c =
    subst IsPath
    (in_folder c.args.dir.now c.args.path.now c.in-Some.above c.in-Some.last.now (sym c.names.ensures.same ∙ c.in-Some.ensures.0)
    (sym c.if-is_eq.true ∙ c.is_eq.ensures ∙ ap is_eq c.cmp.ensures ∙ ap (λ d. is_eq (path_cmp d c.in-Some.above)) c.names-in-Some.ensures.same)).1
    c.names.ensures.path

pub returns-else-is_eq-clause-name : goal.returns-else-is_eq-clause-name
returns-else-is_eq-clause-name c =
    not_in_folder c.args.dir.now c.args.path.now c.in-Some.above c.in-Some.last.now (sym c.names.ensures.same ∙ c.in-Some.ensures.0)
    (sym c.if-is_eq.false ∙ c.is_eq.ensures ∙ ap is_eq c.cmp.ensures ∙ ap (λ d. is_eq (path_cmp d c.in-Some.above)) c.names-in-Some.ensures.same)
