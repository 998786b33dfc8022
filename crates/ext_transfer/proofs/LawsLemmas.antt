-- A file says a transfer or has a fault: nothing that is defined is out of memory.
use Rattle.std.proofs.Common.{◌≡◌, ℕ, Bool, true, false, cond, List, [], ◌∷◌, ◌++◌, Option, Some, None, Ok, Err, codes, refl, ap, ◌⊎◌, inl, inr}
use Rattle.std.specs.Prelude.{Result}
use Rattle.std.specs.List.{list_all}
use Rattle.std.specs.Option.{option_map}
use Rattle.std.specs.Str.{bytes_eq}
use Rattle.ext_lines.specs.Words.{words_of}
use Rattle.ext_ini.specs.Laws.{FirstRefused, IsFirstRefused, RefusalsName}
use Rattle.ext_ini.specs.Reading.{ini_of}
use Rattle.ext_ini.specs.Taking.{nothing}
use Rattle.ext_ini.specs.Whole.{file_wholes}
use Rattle.ext_ini.specs.declared.err.IniErr.{IniErr}
use Rattle.ext_ini.specs.declared.err.IniErr.TheVariants as errs
use Rattle.ext_ini.specs.declared.sections.Section.{Section}
use Rattle.ext_ini.specs.declared.sections.Setting.{Setting}
use Rattle.ext_pattern.specs.Pattern.{PatternView}
use Rattle.ext_transfer.specs.declared.choices.SourceType.{SourceType}
use Rattle.ext_transfer.specs.declared.err.TransferErr.{TransferErr}
use Rattle.ext_transfer.specs.declared.err.TransferErr.TheVariants.{OutOfMemory, BadTransfer}
use Rattle.ext_transfer.specs.declared.err.TransferFault.{TransferFault}
use Rattle.ext_transfer.specs.declared.err.TransferFault.TheVariants as faults
use Rattle.ext_transfer.specs.declared.transfer.ResourceType.{ResourceType}
use Rattle.ext_transfer.specs.declared.transfer.Transfer.{Transfer}
use Rattle.ext_transfer.specs.Choices.{is_url_file, may_verify, relative_set, resource_type, source_type_named, source_type_set, target_type_set, target_word, verify_set}
use Rattle.ext_transfer.specs.Fault.{if_sound, or_fault}
use Rattle.ext_transfer.specs.Numbers.{instances_of, instances_set, mode_of, mode_set}
use Rattle.ext_transfer.specs.Paths.{link_at, link_path, link_set, path_after, source_path_of, source_path_set, target_path_set}
use Rattle.ext_transfer.specs.Patterns.{patterns_and_value, patterns_in, patterns_of, target_patterns}
use Rattle.ext_transfer.specs.Specifiers.{expanded, expanded_value, specified}
use Rattle.ext_transfer.specs.Laws.{TransferOrFault}
use Rattle.ext_transfer.specs.Transfer.{all_settings, keeping_in, last_setting, names_in, sections_or_fault, source_in, target_in, transfer_in, transfer_of, versions_of}
use Rattle.ext_transfer.specs.Versions.{expanded_setting, expanded_settings, is_version_text, min_at, min_version_set, protected_set, versions_in}

-- what is defined is not out of memory
record HasMemory {X : Type 0} (r : Result X TransferErr) : Type 0 where
  pub never : r ≡ Err OutOfMemory → ⊥

ok_has : {X : Type 0} (x : X) → HasMemory {X = X} (Ok x)
ok_has x = record { never = λ e. cc }

bad_has : {X : Type 0} (line : ℕ) (why : TransferFault) → HasMemory {X = X} (Err (BadTransfer line why))
bad_has line why = record { never = λ e. cc }

or_has : {X : Type 0} (o : Option X) (line : ℕ) (why : TransferFault) → HasMemory (or_fault o line why)
or_has None line why = bad_has line why
or_has (Some x) line why = ok_has x

then_has : {X Y : Type 0} (r : Result X TransferErr) (next : X → Result Y TransferErr) → HasMemory r → ((x : X) → HasMemory (next x)) → HasMemory (if_sound r next)
then_has (Ok x) next has more = more x
then_has (Err e) next has more = record { never = λ is. has.never (let same : e ≡ OutOfMemory = cc is in ap Err same) }

cond_has : {X : Type 0} (b : Bool) (r s : Result X TransferErr) → HasMemory r → HasMemory s → HasMemory (cond b r s)
cond_has true r s one other = one
cond_has false r s one other = other

text_has : (m : ℕ → Option (List ℕ)) (s : Setting) → HasMemory (expanded_value m s)
text_has m s = or_has (expanded m s.value) s.line faults.Specifier

verify_has : (url : Bool) (s : Option Setting) → HasMemory (verify_set url s)
verify_has url None = cond_has url (Err (BadTransfer 0 faults.Verify)) (Ok tt) (bad_has 0 faults.Verify) (ok_has tt)
verify_has url (Some s) = cond_has (may_verify url s.value) (Ok tt) (Err (BadTransfer s.line faults.Verify)) (ok_has tt) (bad_has s.line faults.Verify)

source_type_has : (s : Option Setting) → HasMemory (source_type_set s)
source_type_has None = bad_has 0 faults.SourceType
source_type_has (Some s) = or_has (source_type_named s.value) s.line faults.SourceType

source_path_has : (m : ℕ → Option (List ℕ)) (kind : SourceType) (s : Option Setting) → HasMemory (source_path_set m kind s)
source_path_has m kind None = bad_has 0 faults.SourcePath
source_path_has m kind (Some s) = then_has (expanded_value m s) _ (text_has m s) (λ text. or_has (source_path_of kind text) s.line faults.SourcePath)

target_type_has : (resources : ResourceType) (s : Option Setting) → HasMemory (target_type_set resources s)
target_type_has resources None = bad_has 0 faults.TargetType
target_type_has resources (Some s) =
    cond_has (bytes_eq s.value (target_word resources)) (Ok tt) (Err (BadTransfer s.line faults.TargetType)) (ok_has tt) (bad_has s.line faults.TargetType)

target_path_has : (m : ℕ → Option (List ℕ)) (s : Option Setting) → HasMemory (target_path_set m s)
target_path_has m None = bad_has 0 faults.TargetPath
target_path_has m (Some s) = then_has (expanded_value m s) _ (text_has m s) (λ text. or_has (path_after (codes "/") text) s.line faults.TargetPath)

link_at_has : (target : List (List ℕ)) (line : ℕ) (text : List ℕ) → HasMemory (link_at target line text)
link_at_has target line [] = ok_has None
link_at_has target line (b ∷ bs) = or_has (option_map Some (link_path target (b ∷ bs))) line faults.Link

link_has : (m : ℕ → Option (List ℕ)) (target : List (List ℕ)) (s : Option Setting) → HasMemory (link_set m target s)
link_has m target None = ok_has None
link_has m target (Some s) = then_has (expanded_value m s) _ (text_has m s) (λ text. link_at_has target s.line text)

mode_has : (s : Option Setting) → HasMemory (mode_set s)
mode_has None = ok_has 420
mode_has (Some s) = or_has (mode_of s.value) s.line faults.Mode

instances_has : (s : Option Setting) → HasMemory (instances_set s)
instances_has None = ok_has 2
instances_has (Some s) = or_has (instances_of s.value) s.line faults.Instances

relative_has : (s : Option Setting) → HasMemory (relative_set s)
relative_has None = ok_has tt
relative_has (Some s) =
    cond_has (bytes_eq s.value (codes "root")) (Ok tt) (Err (BadTransfer s.line faults.Relative)) (ok_has tt) (bad_has s.line faults.Relative)

min_at_has : (line : ℕ) (text : List ℕ) → HasMemory (min_at line text)
min_at_has line [] = ok_has None
min_at_has line (b ∷ bs) =
    cond_has (is_version_text (b ∷ bs)) (Ok (Some (b ∷ bs))) (Err (BadTransfer line faults.MinVersion)) (ok_has (Some (b ∷ bs))) (bad_has line faults.MinVersion)

min_has : (m : ℕ → Option (List ℕ)) (s : Option Setting) → HasMemory (min_version_set m s)
min_has m None = ok_has None
min_has m (Some s) = then_has (expanded_value m s) _ (text_has m s) (λ text. min_at_has s.line text)

setting_has : (m : ℕ → Option (List ℕ)) (s : Setting) → HasMemory (expanded_setting m s)
setting_has m s = then_has (expanded_value m s) _ (text_has m s) (λ text. ok_has (record { line = s.line; value = text }))

settings_has : (m : ℕ → Option (List ℕ)) (before settings : List Setting) → HasMemory (expanded_settings m before settings)
settings_has m before [] = ok_has before
settings_has m before (s ∷ ss) = then_has (expanded_setting m s) _ (setting_has m s) (λ made. settings_has m (before ++ made ∷ []) ss)

versions_has : (before : List (List ℕ)) (settings : List Setting) → HasMemory (versions_in before settings)
versions_has before [] = ok_has before
versions_has before (s ∷ ss) =
    cond_has (list_all is_version_text (words_of s.value)) (versions_in (before ++ words_of s.value) ss) (Err (BadTransfer s.line faults.ProtectVersion)) (versions_has (before ++ words_of s.value) ss) (bad_has s.line faults.ProtectVersion)

protected_has : (m : ℕ → Option (List ℕ)) (settings : List Setting) → HasMemory (protected_set m settings)
protected_has m settings = then_has (expanded_settings m [] settings) _ (settings_has m [] settings) (λ made. versions_has [] made)

patterns_in_has : (why : TransferFault) (before : List PatternView) (settings : List Setting) → HasMemory (patterns_in why before settings)
patterns_in_has why before [] = ok_has before
patterns_in_has why before (s ∷ ss) =
    then_has (or_fault (patterns_and_value before s.value) s.line why) _ (or_has (patterns_and_value before s.value) s.line why) (λ patterns. patterns_in_has why patterns ss)

patterns_has : (m : ℕ → Option (List ℕ)) (why : TransferFault) (settings : List Setting) → HasMemory (patterns_of m why settings)
patterns_has m why [] = bad_has 0 why
patterns_has m why (s ∷ ss) = then_has (expanded_settings m [] (s ∷ ss)) _ (settings_has m [] (s ∷ ss)) (λ made. patterns_in_has why [] made)

target_patterns_has : (m : ℕ → Option (List ℕ)) (of_source settings : List Setting) → HasMemory (target_patterns m of_source settings)
target_patterns_has m of_source [] = patterns_has m faults.SourcePattern of_source
target_patterns_has m of_source (s ∷ ss) = patterns_has m faults.TargetPattern (s ∷ ss)

source_has : (m : ℕ → Option (List ℕ)) (ini : List Section) → HasMemory (source_in m ini)
source_has m ini =
    let stated = last_setting ini (codes "Source") (codes "Type") in
    then_has (verify_set (is_url_file stated) (last_setting ini (codes "Transfer") (codes "Verify"))) _ (verify_has (is_url_file stated) (last_setting ini (codes "Transfer") (codes "Verify"))) (λ sound.
    then_has (source_type_set stated) _ (source_type_has stated) (λ kind.
    then_has (source_path_set m kind (last_setting ini (codes "Source") (codes "Path"))) _ (source_path_has m kind (last_setting ini (codes "Source") (codes "Path"))) (λ path.
    then_has (patterns_of m faults.SourcePattern (all_settings ini (codes "Source") (codes "MatchPattern"))) _ (patterns_has m faults.SourcePattern (all_settings ini (codes "Source") (codes "MatchPattern"))) (λ patterns.
    ok_has (record { resources = resource_type kind; location = record { path = path; patterns = patterns } })))))

target_has : (m : ℕ → Option (List ℕ)) (resources : ResourceType) (ini : List Section) → HasMemory (target_in m resources ini)
target_has m resources ini =
    let of_source = all_settings ini (codes "Source") (codes "MatchPattern") in
    let settings = all_settings ini (codes "Target") (codes "MatchPattern") in
    then_has (target_type_set resources (last_setting ini (codes "Target") (codes "Type"))) _ (target_type_has resources (last_setting ini (codes "Target") (codes "Type"))) (λ sound.
    then_has (target_path_set m (last_setting ini (codes "Target") (codes "Path"))) _ (target_path_has m (last_setting ini (codes "Target") (codes "Path"))) (λ path.
    then_has (target_patterns m of_source settings) _ (target_patterns_has m of_source settings) (λ patterns.
    ok_has (record { path = path; patterns = patterns }))))

keeping_has : (m : ℕ → Option (List ℕ)) (target : List (List ℕ)) (ini : List Section) → HasMemory (keeping_in m target ini)
keeping_has m target ini =
    then_has (mode_set (last_setting ini (codes "Target") (codes "Mode"))) _ (mode_has (last_setting ini (codes "Target") (codes "Mode"))) (λ mode.
    then_has (instances_set (last_setting ini (codes "Target") (codes "InstancesMax"))) _ (instances_has (last_setting ini (codes "Target") (codes "InstancesMax"))) (λ instances.
    then_has (link_set m target (last_setting ini (codes "Target") (codes "CurrentSymlink"))) _ (link_has m target (last_setting ini (codes "Target") (codes "CurrentSymlink"))) (λ link.
    then_has (relative_set (last_setting ini (codes "Source") (codes "PathRelativeTo"))) _ (relative_has (last_setting ini (codes "Source") (codes "PathRelativeTo"))) (λ sound.
    then_has (relative_set (last_setting ini (codes "Target") (codes "PathRelativeTo"))) _ (relative_has (last_setting ini (codes "Target") (codes "PathRelativeTo"))) (λ sound.
    ok_has (record { mode = mode; instances = instances; link = link }))))))

named_has : (m : ℕ → Option (List ℕ)) (ini : List Section) → HasMemory (versions_of m ini)
named_has m ini =
    then_has (min_version_set m (last_setting ini (codes "Transfer") (codes "MinVersion"))) _ (min_has m (last_setting ini (codes "Transfer") (codes "MinVersion"))) (λ min.
    then_has (protected_set m (all_settings ini (codes "Transfer") (codes "ProtectVersion"))) _ (protected_has m (all_settings ini (codes "Transfer") (codes "ProtectVersion"))) (λ protect.
    ok_has (record { min = min; protect = protect })))

transfer_in_has : (file : List ℕ) (m : ℕ → Option (List ℕ)) (ini : List Section) → HasMemory (transfer_in file m ini)
transfer_in_has file m ini =
    then_has (source_in m ini) _ (source_has m ini) (λ source.
    then_has (target_in m source.resources ini) _ (target_has m source.resources ini) (λ target.
    then_has (keeping_in m target.path ini) _ (keeping_has m target.path ini) (λ keeping.
    then_has (versions_of m ini) _ (named_has m ini) (λ versions.
    ok_has (record {
      file = file;
      resources = source.resources;
      source = source.location;
      target = target;
      mode = keeping.mode;
      instances = keeping.instances;
      link = keeping.link;
      min = versions.min;
      protect = versions.protect;
      features = names_in ini (codes "Features");
      requisite = names_in ini (codes "RequisiteFeatures");
    })))))

-- the syntax of a file is faulty at a line, or not
ini_has : FirstRefused → RefusalsName → (bytes : List ℕ) → ini_of bytes ≡ Err errs.OutOfMemory → ⊥
ini_has refused named bytes is =
    let first : IsFirstRefused nothing (file_wholes bytes) errs.OutOfMemory = (refused bytes errs.OutOfMemory).0 is in
    named first.so_far first.whole.number first.whole.text first.whole.fault errs.OutOfMemory first.refused

sections_have : (r : Result (List Section) IniErr) → (r ≡ Err errs.OutOfMemory → ⊥) → HasMemory (sections_or_fault r)
sections_have (Ok sections) other = ok_has sections
sections_have (Err errs.OutOfMemory) other = absurd (other refl)
sections_have (Err (errs.BadIni line why)) other = bad_has line faults.Syntax

one_of_both : (r : Result Transfer TransferErr) → HasMemory r → ((t : Transfer) × (r ≡ Ok t)) ⊎ ((line : ℕ) × (why : TransferFault) × (r ≡ Err (BadTransfer line why)))
one_of_both (Ok t) has = inl (t, refl)
one_of_both (Err OutOfMemory) has = absurd (has.never refl)
one_of_both (Err (BadTransfer line why)) has = inr (line, why, refl)

-- a file says a transfer, or has a first fault
pub transfer_or_fault : FirstRefused → RefusalsName → TransferOrFault
transfer_or_fault refused named file bytes host arch =
    one_of_both (transfer_of file bytes host arch) (then_has (sections_or_fault (ini_of bytes)) _ (sections_have (ini_of bytes) (ini_has refused named bytes)) (λ ini. transfer_in_has file (specified host arch) ini))
