-- Keys whose values are versions: MinVersion= and ProtectVersion=, as sysupdate.d(5) has them. Of a key that is a list, first the
-- specifiers of all its settings are replaced, and then each setting is read.
use Rattle.std.specs.Prelude.{ℕ, Bool, not, ◌&&◌, ◌==◌, nat_le, if◌then◌else◌, List, [], ◌∷◌, ◌++◌, length, Option, Some, None, Result, Ok, Err}
use Rattle.std.specs.Char.{is_ascii_alphanumeric}
use Rattle.std.specs.List.{list_all, list_any}
use Rattle.ext_lines.specs.Words.{words_of}
use Rattle.ext_vers.specs.Version.{is_version_byte}
use Rattle.ext_ini.specs.declared.sections.Setting.{Setting}
use Rattle.ext_transfer.specs.declared.err.TransferErr.{TransferErr}
use Rattle.ext_transfer.specs.declared.err.TransferErr.TheVariants.{BadTransfer}
use Rattle.ext_transfer.specs.declared.err.TransferFault.TheVariants.{MinVersion, ProtectVersion}
use Rattle.ext_transfer.specs.Fault.{if_sound}
use Rattle.ext_transfer.specs.Specifiers.{expanded_value}

-- the rule of versions, as a test
abbrev pub is_version_text : List ℕ → Bool
is_version_text text =
    not (length text == 0) && nat_le (length text) 128 && list_all is_version_byte text && list_any is_ascii_alphanumeric text

-- the version that a text at a line writes; the empty text writes none
abbrev pub min_at : ℕ → List ℕ → Result (Option (List ℕ)) TransferErr
min_at line [] = Ok None
min_at line (b ∷ bs) = if is_version_text (b ∷ bs) then Ok (Some (b ∷ bs)) else Err (BadTransfer line MinVersion)

-- MinVersion= of [Transfer]
abbrev pub min_version_set : (ℕ → Option (List ℕ)) → Option Setting → Result (Option (List ℕ)) TransferErr
min_version_set meaning None = Ok None
min_version_set meaning (Some setting) = if_sound (expanded_value meaning setting) (λ text. min_at setting.line text)

-- a setting with its specifiers replaced
abbrev pub expanded_setting : (ℕ → Option (List ℕ)) → Setting → Result Setting TransferErr
expanded_setting meaning setting = if_sound (expanded_value meaning setting) (λ text. Ok (record { line = setting.line; value = text }))

-- settings, and after them others with their specifiers replaced
abbrev pub expanded_settings : (ℕ → Option (List ℕ)) → List Setting → List Setting → Result (List Setting) TransferErr
expanded_settings meaning before [] = Ok before
expanded_settings meaning before (setting ∷ settings) =
    if_sound (expanded_setting meaning setting) (λ made. expanded_settings meaning (before ++ made ∷ []) settings)

-- versions, and after them those that are the words of settings
abbrev pub versions_in : List (List ℕ) → List Setting → Result (List (List ℕ)) TransferErr
versions_in before [] = Ok before
versions_in before (setting ∷ settings) =
    if list_all is_version_text (words_of setting.value) then versions_in (before ++ words_of setting.value) settings
    else Err (BadTransfer setting.line ProtectVersion)

-- ProtectVersion= of [Transfer]
abbrev pub protected_set : (ℕ → Option (List ℕ)) → List Setting → Result (List (List ℕ)) TransferErr
protected_set meaning settings = if_sound (expanded_settings meaning [] settings) (λ made. versions_in [] made)
