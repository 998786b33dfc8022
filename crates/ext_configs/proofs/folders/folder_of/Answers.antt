use Rattle.std.proofs.Common.{◌≡◌, sym, ap, ◌∙◌, subst}
use Rattle.std.specs.Option.{option_copied}
use Rattle.ext_text.specs.Name.{IsName}
use Rattle.ext_configs.specs.Folders.{config_folder}
use Rattle.ext_configs.proofs.FolderLemmas.{one_part_of_name}
use Rattle.ext_configs.proofs.folders.folder_of.Goals as goal

pub returns-in-Some-clause-part : goal.returns-in-Some-clause-part
returns-in-Some-clause-part c =
    let is : c.folder.result.now ≡ config_folder (option_copied c.args.component) =
    c.folder.ensures ∙ ap (λ o. config_folder (option_copied o)) (sym c.in-Some.is)
    in
    one_part_of_name (config_folder (option_copied c.args.component)) c.bytes.result.now (c.bytes.ensures.same ∙ is) (subst IsName is c.bytes.ensures.name)
