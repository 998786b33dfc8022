use Rattle.std.specs.Option.{option_copied}
use Rattle.ext_configs.specs.Kept.{KeepsConfigs, in_folders_before}
use Rattle.ext_configs.proofs.files.config_files.Given as goal

abbrev pub invariant-folders : goal.invariant-folders
invariant-folders g l = KeepsConfigs g.C.Measured.size l.base (option_copied l.fn.component) l.fn.kind (in_folders_before l.index) l.kept
