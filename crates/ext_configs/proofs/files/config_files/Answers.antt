use Rattle.std.proofs.Common.{◌≡◌, subst, sym, ◌∙◌, arith}
use Rattle.std.specs.List.{filter_map}
use Rattle.std.specs.Option.{option_copied}
use Rattle.ext_configs.specs.Configs.{AreConfigs}
use Rattle.ext_configs.specs.Kept.{KeepsConfigs, file_with, in_folders_before}
use Rattle.ext_configs.proofs.FileLemmas.{files_kept, if_ok}
use Rattle.ext_configs.proofs.KeptLemmas.{keeps_none}
use Rattle.ext_configs.proofs.files.config_files.Goals as goal

pub folders-init : goal.folders-init
folders-init g c = keeps_none g.C.Measured.size c.args.base.now (option_copied c.args.component) c.args.kind c.new-kept.result c.new-kept.ensures.empty

pub returns : goal.returns
returns g c =
    let reached : c.folders.index ≡ c.count_of_roots-index-end.result = omega (arith, c.folders-test.false) in
    if_ok (λ files. files.items ≡ filter_map (λ e. file_with e.0 e.1) c.folders.kept.entries)
    (λ files. AreConfigs g.C.Measured.size c.args.base.now (option_copied c.args.component) c.args.kind files.items) c.files_of.result
    (λ files same. subst (AreConfigs g.C.Measured.size c.args.base.now (option_copied c.args.component) c.args.kind) (sym same)
    (files_kept g.C.Measured.size c.args.base.now (option_copied c.args.component) c.args.kind c.folders.kept
    (subst (λ i. KeepsConfigs g.C.Measured.size c.args.base.now (option_copied c.args.component) c.args.kind (in_folders_before i) c.folders.kept) (reached ∙ c.count_of_roots-index-end.ensures) c.folders.invariant)
    c.files_of.ensures.ordered))
    c.files_of.ensures.files
