-- Keys whose values are paths: Path= of [Source] and of [Target], and CurrentSymlink=. The keys are those of sysupdate.d(5). The
-- limits on a source's path, which leave room for a resource and its manifest below it, are this project's own.
use Rattle.std.specs.Prelude.{ℕ, Bool, not, ◌&&◌, ◌==◌, nat_le, if◌then◌else◌, List, [], ◌∷◌, ◌++◌, length, reverse, codes, Option, Some, None, Result, Ok, Err}
use Rattle.std.specs.List.{list_all}
use Rattle.std.specs.Option.{option_and_then, option_map}
use Rattle.std.specs.Str.{bytes_eq, is_utf8}
use Rattle.ext_text.specs.Name.{is_name_byte}
use Rattle.ext_text.specs.Path.{path_parts, path_text}
use Rattle.ext_text.specs.declared.path.PathErr.{PathErr}
use Rattle.ext_text.specs.declared.path.PathErr.TheVariants as paths
use Rattle.ext_ini.specs.declared.sections.Setting.{Setting}
use Rattle.ext_transfer.specs.declared.choices.SourceType.{SourceType}
use Rattle.ext_transfer.specs.declared.choices.SourceType.TheVariants.{UrlFile, RegularFile, Directory}
use Rattle.ext_transfer.specs.declared.err.TransferErr.{TransferErr}
use Rattle.ext_transfer.specs.declared.err.TransferErr.TheVariants.{OutOfMemory, BadTransfer}
use Rattle.ext_transfer.specs.declared.err.TransferFault.{TransferFault}
use Rattle.ext_transfer.specs.declared.err.TransferFault.TheVariants.{SourcePath, TargetPath, Link}
use Rattle.ext_transfer.specs.Fault.{if_sound, or_fault}
use Rattle.ext_transfer.specs.Specifiers.{expanded_value}

-- the rule of names, as a test
abbrev pub is_name_text : List ℕ → Bool
is_name_text text =
    not (length text == 0) && nat_le (length text) 255 && not (bytes_eq text (codes ".")) && not (bytes_eq text (codes ".."))
    && list_all is_name_byte text && is_utf8 text

-- 4,096 bytes, 64 names and the rule of names, as a test of a path's text
abbrev pub is_path_text : List ℕ → Bool
is_path_text text = nat_le (length text) 4096 && nat_le (length (path_parts text)) 64 && list_all is_name_text (path_parts text)

-- the path of a text, if it has one; of the empty text it is the root
abbrev pub path_read : List ℕ → Option (List (List ℕ))
path_read text = if is_path_text text then Some (path_parts text) else None

-- what it means for a file that a text at a line is no path, or that there was no memory for it
abbrev pub path_fault : PathErr → ℕ → TransferFault → TransferErr
path_fault paths.OutOfMemory line why = OutOfMemory
path_fault paths.TooLong line why = BadTransfer line why
path_fault paths.TooDeep line why = BadTransfer line why
path_fault paths.BadName line why = BadTransfer line why

-- a text after a prefix, if it begins so
abbrev pub after_prefix : List ℕ → List ℕ → Option (List ℕ)
after_prefix [] text = Some text
after_prefix (p ∷ ps) [] = None
after_prefix (p ∷ ps) (b ∷ bs) = if b == p then after_prefix ps bs else None

-- without the slashes that a text begins with
abbrev pub after_slashes : List ℕ → List ℕ
after_slashes [] = []
after_slashes (b ∷ bs) = if b == 47 then after_slashes bs else b ∷ bs

-- without the slashes at the end
abbrev pub before_slashes : List ℕ → List ℕ
before_slashes text = reverse (after_slashes (reverse text))

-- the path that stands after a prefix, any slashes at its end left out
abbrev pub path_after : List ℕ → List ℕ → Option (List (List ℕ))
path_after prefix text = option_and_then (λ rest. path_read (before_slashes rest)) (after_prefix prefix text)

-- what stands before the path of a source of this type
abbrev pub source_prefix : SourceType → List ℕ
source_prefix UrlFile = codes "file:///"
source_prefix RegularFile = codes "/"
source_prefix Directory = codes "/"

-- a path that leaves room below it: at most 63 names, and 3,840 bytes
abbrev pub with_room : List (List ℕ) → Option (List (List ℕ))
with_room path = if nat_le (length path) 63 && nat_le (length (path_text path)) 3840 then Some path else None

-- the path of a source of this type that a text writes, if it is one
abbrev pub source_path_of : SourceType → List ℕ → Option (List (List ℕ))
source_path_of kind text = option_and_then with_room (path_after (source_prefix kind) text)

-- Path= of [Source]
abbrev pub source_path_set : (ℕ → Option (List ℕ)) → SourceType → Option Setting → Result (List (List ℕ)) TransferErr
source_path_set meaning kind None = Err (BadTransfer 0 SourcePath)
source_path_set meaning kind (Some setting) =
    if_sound (expanded_value meaning setting) (λ text. or_fault (source_path_of kind text) setting.line SourcePath)

-- Path= of [Target]
abbrev pub target_path_set : (ℕ → Option (List ℕ)) → Option Setting → Result (List (List ℕ)) TransferErr
target_path_set meaning None = Err (BadTransfer 0 TargetPath)
target_path_set meaning (Some setting) =
    if_sound (expanded_value meaning setting) (λ text. or_fault (path_after (codes "/") text) setting.line TargetPath)

-- names that are a path, by their number and their bytes
abbrev pub within_limits : List (List ℕ) → Option (List (List ℕ))
within_limits names = if nat_le (length (path_text names)) 4096 && nat_le (length names) 64 then Some names else None

-- the path of a text, but not the root
abbrev pub path_below_root : List ℕ → Option (List (List ℕ))
path_below_root [] = None
path_below_root (b ∷ bs) = path_read (b ∷ bs)

-- the path of a name in a directory, if the text is a name and this a path
abbrev pub name_in : List (List ℕ) → List ℕ → Option (List (List ℕ))
name_in directory text = if is_name_text text then within_limits (directory ++ text ∷ []) else None

-- the path of a link: what stands after a `/`, or the name in the target's directory
abbrev pub link_path : List (List ℕ) → List ℕ → Option (List (List ℕ))
link_path target [] = None
link_path target (b ∷ bs) = if b == 47 then path_below_root bs else name_in target (b ∷ bs)

-- the path of a link that a text at a line writes; the empty text writes none
abbrev pub link_at : List (List ℕ) → ℕ → List ℕ → Result (Option (List (List ℕ))) TransferErr
link_at target line [] = Ok None
link_at target line (b ∷ bs) = or_fault (option_map Some (link_path target (b ∷ bs))) line Link

-- CurrentSymlink= of [Target]
abbrev pub link_set : (ℕ → Option (List ℕ)) → List (List ℕ) → Option Setting → Result (Option (List (List ℕ))) TransferErr
link_set meaning target None = Ok None
link_set meaning target (Some setting) = if_sound (expanded_value meaning setting) (λ text. link_at target setting.line text)
