-- Feature files, after sysupdate.features(5): `Enabled=` of [Feature] says whether a feature is on. That a feature is off where it
-- is absent is the manual's; at which line a file is faulty is this project's own.
use Rattle.std.specs.Prelude.{◌≡◌, ℕ, Bool, true, false, if◌then◌else◌, List, codes, Option, Some, None, Result, Ok, Err}
use Rattle.ext_ini.specs.Reading.{ini_of}
use Rattle.ext_ini.specs.declared.err.IniErr.{IniErr}
use Rattle.ext_ini.specs.declared.err.IniErr.TheVariants as ini
use Rattle.ext_ini.specs.declared.sections.Section.{Section}
use Rattle.ext_ini.specs.declared.sections.Setting.{Setting}
use Rattle.ext_transfer.specs.declared.feature.FeatureErr.{FeatureErr}
use Rattle.ext_transfer.specs.declared.feature.FeatureErr.TheVariants.{OutOfMemory, BadFeature}
use Rattle.ext_transfer.specs.declared.feature.FeatureFault.TheVariants.{Syntax, Enabled}
use Rattle.ext_transfer.specs.Choices.{is_no, is_yes}
use Rattle.ext_transfer.specs.Transfer.{last_setting}

-- Enabled= of [Feature]
abbrev pub enabled_set : Option Setting → Result Bool FeatureErr
enabled_set None = Ok false
enabled_set (Some setting) =
    if is_yes setting.value then Ok true
    else if is_no setting.value then Ok false
    else Err (BadFeature setting.line Enabled)

-- whether the feature is on that these sections say, or the fault of a file without them
abbrev pub feature_in : Result (List Section) IniErr → Result Bool FeatureErr
feature_in (Ok sections) = enabled_set (last_setting sections (codes "Feature") (codes "Enabled"))
feature_in (Err ini.OutOfMemory) = Err OutOfMemory
feature_in (Err (ini.BadIni line why)) = Err (BadFeature line Syntax)

-- whether the feature is on that a file of these bytes says, or its first fault
abbrev pub feature_of : List ℕ → Result Bool FeatureErr
feature_of bytes = feature_in (ini_of bytes)

-- what a call gives is what is defined; memory may run out for any file
abbrev pub GivesFeature : Result Bool FeatureErr → Result Bool FeatureErr → Type 0
GivesFeature (Ok on) defined = defined ≡ Ok on
GivesFeature (Err OutOfMemory) defined = Unit {0}
GivesFeature (Err (BadFeature line why)) defined = defined ≡ Err (BadFeature line why)
