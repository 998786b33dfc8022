-- Keys whose values are words: Verify=, Type= and PathRelativeTo=. The keys and the words are those of sysupdate.d(5); which of
-- them this project takes is its own.
use Rattle.std.specs.Prelude.{ℕ, Bool, false, not, ◌&&◌, ◌||◌, if◌then◌else◌, List, codes, Option, Some, None, Result, Ok, Err}
use Rattle.std.specs.Str.{bytes_eq}
use Rattle.ext_ini.specs.declared.sections.Setting.{Setting}
use Rattle.ext_transfer.specs.declared.choices.SourceType.{SourceType}
use Rattle.ext_transfer.specs.declared.choices.SourceType.TheVariants.{UrlFile, RegularFile, Directory}
use Rattle.ext_transfer.specs.declared.err.TransferErr.{TransferErr}
use Rattle.ext_transfer.specs.declared.err.TransferErr.TheVariants.{BadTransfer}
use Rattle.ext_transfer.specs.declared.err.TransferFault.TheVariants.{Verify, SourceType as BadSourceType, TargetType, Relative}
use Rattle.ext_transfer.specs.declared.transfer.ResourceType.{ResourceType}
use Rattle.ext_transfer.specs.declared.transfer.ResourceType.TheVariants as resources
use Rattle.ext_transfer.specs.Fault.{or_fault}

-- a boolean that is false, by the words of systemd.syntax(7)
abbrev pub is_no : List ℕ → Bool
is_no word =
    bytes_eq word (codes "no") || bytes_eq word (codes "false") || bytes_eq word (codes "off")
    || bytes_eq word (codes "0") || bytes_eq word (codes "n") || bytes_eq word (codes "f")

-- a boolean that is true
abbrev pub is_yes : List ℕ → Bool
is_yes word =
    bytes_eq word (codes "yes") || bytes_eq word (codes "true") || bytes_eq word (codes "on")
    || bytes_eq word (codes "1") || bytes_eq word (codes "y") || bytes_eq word (codes "t")

-- whether the source is stated to be files at a URL
abbrev pub is_url_file : Option Setting → Bool
is_url_file None = false
is_url_file (Some stated) = bytes_eq stated.value (codes "url-file")

-- a word of Verify=: no signature is looked at, so for files at a URL it has to be one for no
abbrev pub may_verify : Bool → List ℕ → Bool
may_verify url word = is_no word || (not url && is_yes word)

-- Verify= of [Transfer], by whether the source is files at a URL
abbrev pub verify_set : Bool → Option Setting → Result (Unit {0}) TransferErr
verify_set url None = if url then Err (BadTransfer 0 Verify) else Ok tt
verify_set url (Some setting) = if may_verify url setting.value then Ok tt else Err (BadTransfer setting.line Verify)

-- the type of a source that a word names
abbrev pub source_type_named : List ℕ → Option SourceType
source_type_named word =
    if bytes_eq word (codes "url-file") then Some UrlFile
    else if bytes_eq word (codes "regular-file") then Some RegularFile
    else if bytes_eq word (codes "directory") then Some Directory
    else None

-- Type= of [Source]
abbrev pub source_type_set : Option Setting → Result SourceType TransferErr
source_type_set None = Err (BadTransfer 0 BadSourceType)
source_type_set (Some setting) = or_fault (source_type_named setting.value) setting.line BadSourceType

-- the resources of a source of this type
abbrev pub resource_type : SourceType → ResourceType
resource_type UrlFile = resources.File
resource_type RegularFile = resources.File
resource_type Directory = resources.Directory

-- the type of the target that such resources have
abbrev pub target_word : ResourceType → List ℕ
target_word resources.File = codes "regular-file"
target_word resources.Directory = codes "directory"

-- Type= of [Target]
abbrev pub target_type_set : ResourceType → Option Setting → Result (Unit {0}) TransferErr
target_type_set resources None = Err (BadTransfer 0 TargetType)
target_type_set resources (Some setting) =
    if bytes_eq setting.value (target_word resources) then Ok tt else Err (BadTransfer setting.line TargetType)

-- PathRelativeTo= of [Source] or of [Target]
abbrev pub relative_set : Option Setting → Result (Unit {0}) TransferErr
relative_set None = Ok tt
relative_set (Some setting) = if bytes_eq setting.value (codes "root") then Ok tt else Err (BadTransfer setting.line Relative)
