-- What a transfer file says, after sysupdate.d(5), or its first fault. The keys are looked at in the order in which they stand
-- here, which is this project's own.
use Rattle.std.specs.Prelude.{ℕ, List, codes, Option, None, Result, Ok, Err}
use Rattle.std.specs.FinMap.{FinMap}
use Rattle.std.specs.List.{after_last, flat_map, last_or}
use Rattle.ext_lines.specs.ByteOrder.{bytes_cmp}
use Rattle.ext_lines.specs.Words.{words_of}
use Rattle.ext_text.specs.declared.arch.Arch.{Arch}
use Rattle.ext_ini.specs.Reading.{ini_of}
use Rattle.ext_ini.specs.Sections.{is_reset, settings_of}
use Rattle.ext_ini.specs.declared.err.IniErr.{IniErr}
use Rattle.ext_ini.specs.declared.err.IniErr.TheVariants as ini
use Rattle.ext_ini.specs.declared.sections.Section.{Section}
use Rattle.ext_ini.specs.declared.sections.Setting.{Setting}
use Rattle.ext_transfer.specs.declared.err.TransferErr.{TransferErr}
use Rattle.ext_transfer.specs.declared.err.TransferErr.TheVariants.{OutOfMemory, BadTransfer}
use Rattle.ext_transfer.specs.declared.err.TransferFault.TheVariants.{Syntax, SourcePattern}
use Rattle.ext_transfer.specs.declared.reading.Keeping.{Keeping}
use Rattle.ext_transfer.specs.declared.reading.Source.{Source}
use Rattle.ext_transfer.specs.declared.reading.Versions.{Versions}
use Rattle.ext_transfer.specs.declared.transfer.Location.{Location}
use Rattle.ext_transfer.specs.declared.transfer.ResourceType.{ResourceType}
use Rattle.ext_transfer.specs.declared.transfer.Transfer.{Transfer}
use Rattle.ext_transfer.specs.Choices.{is_url_file, relative_set, resource_type, source_type_set, target_type_set, verify_set}
use Rattle.ext_transfer.specs.Fault.{if_sound}
use Rattle.ext_transfer.specs.Numbers.{instances_set, mode_set}
use Rattle.ext_transfer.specs.Paths.{link_set, source_path_set, target_path_set}
use Rattle.ext_transfer.specs.Patterns.{patterns_of, target_patterns}
use Rattle.ext_transfer.specs.Specifiers.{specified}
use Rattle.ext_transfer.specs.Versions.{min_version_set, protected_set}

-- the last setting of a key, if it is set
abbrev pub last_setting : List Section → List ℕ → List ℕ → Option Setting
last_setting sections section key = last_or None (settings_of sections section key)

-- the settings of a key that is a list, since the last empty one
abbrev pub all_settings : List Section → List ℕ → List ℕ → List Setting
all_settings sections section key = after_last is_reset (settings_of sections section key)

-- [Source], and Verify= before it
abbrev pub source_in : (ℕ → Option (List ℕ)) → List Section → Result Source TransferErr
source_in meaning sections =
    let stated = last_setting sections (codes "Source") (codes "Type") in
    if_sound (verify_set (is_url_file stated) (last_setting sections (codes "Transfer") (codes "Verify"))) (λ sound.
    if_sound (source_type_set stated) (λ kind.
    if_sound (source_path_set meaning kind (last_setting sections (codes "Source") (codes "Path"))) (λ path.
    if_sound (patterns_of meaning SourcePattern (all_settings sections (codes "Source") (codes "MatchPattern"))) (λ patterns.
    Ok (record { resources = resource_type kind; location = record { path = path; patterns = patterns } })))))

-- Type=, Path= and MatchPattern= of [Target]
abbrev pub target_in : (ℕ → Option (List ℕ)) → ResourceType → List Section → Result Location TransferErr
target_in meaning resources sections =
    let of_source = all_settings sections (codes "Source") (codes "MatchPattern") in
    let settings = all_settings sections (codes "Target") (codes "MatchPattern") in
    if_sound (target_type_set resources (last_setting sections (codes "Target") (codes "Type"))) (λ sound.
    if_sound (target_path_set meaning (last_setting sections (codes "Target") (codes "Path"))) (λ path.
    if_sound (target_patterns meaning of_source settings) (λ patterns.
    Ok (record { path = path; patterns = patterns }))))

-- how the target is kept: the other keys of [Target], and that paths are relative to the root
abbrev pub keeping_in : (ℕ → Option (List ℕ)) → List (List ℕ) → List Section → Result Keeping TransferErr
keeping_in meaning target sections =
    if_sound (mode_set (last_setting sections (codes "Target") (codes "Mode"))) (λ mode.
    if_sound (instances_set (last_setting sections (codes "Target") (codes "InstancesMax"))) (λ instances.
    if_sound (link_set meaning target (last_setting sections (codes "Target") (codes "CurrentSymlink"))) (λ link.
    if_sound (relative_set (last_setting sections (codes "Source") (codes "PathRelativeTo"))) (λ sound.
    if_sound (relative_set (last_setting sections (codes "Target") (codes "PathRelativeTo"))) (λ sound.
    Ok (record { mode = mode; instances = instances; link = link }))))))

-- MinVersion= and ProtectVersion=
abbrev pub versions_of : (ℕ → Option (List ℕ)) → List Section → Result Versions TransferErr
versions_of meaning sections =
    if_sound (min_version_set meaning (last_setting sections (codes "Transfer") (codes "MinVersion"))) (λ min.
    if_sound (protected_set meaning (all_settings sections (codes "Transfer") (codes "ProtectVersion"))) (λ protect.
    Ok (record { min = min; protect = protect })))

-- the words of settings, one setting after another
abbrev pub words_in : List Setting → List (List ℕ)
words_in settings = flat_map (λ setting. words_of setting.value) settings

-- the names of features that a key of [Transfer] lists, without specifiers
abbrev pub names_in : List Section → List ℕ → List (List ℕ)
names_in sections key = words_in (all_settings sections (codes "Transfer") key)

-- the transfer of a name that these sections say, or the first fault
abbrev pub transfer_in : List ℕ → (ℕ → Option (List ℕ)) → List Section → Result Transfer TransferErr
transfer_in file meaning sections =
    if_sound (source_in meaning sections) (λ source.
    if_sound (target_in meaning source.resources sections) (λ target.
    if_sound (keeping_in meaning target.path sections) (λ keeping.
    if_sound (versions_of meaning sections) (λ versions.
    Ok (record {
      file = file;
      resources = source.resources;
      source = source.location;
      target = target;
      mode = keeping.mode;
      instances = keeping.instances;
      link = keeping.link;
      min = versions.min;
      protect = versions.protect;
      features = names_in sections (codes "Features");
      requisite = names_in sections (codes "RequisiteFeatures");
    })))))

-- the sections of a file, or the first line at which its syntax is faulty
abbrev pub sections_or_fault : Result (List Section) IniErr → Result (List Section) TransferErr
sections_or_fault (Ok sections) = Ok sections
sections_or_fault (Err ini.OutOfMemory) = Err OutOfMemory
sections_or_fault (Err (ini.BadIni line why)) = Err (BadTransfer line Syntax)

-- the transfer that a file of this name and these bytes says on a host, or its first fault
abbrev pub transfer_of : List ℕ → List ℕ → Option (FinMap bytes_cmp (List ℕ)) → Arch → Result Transfer TransferErr
transfer_of file bytes host arch = if_sound (sections_or_fault (ini_of bytes)) (λ sections. transfer_in file (specified host arch) sections)
