-- What holds of each transfer that a file says.
use Rattle.std.proofs.Common.{◌≡◌, ◌≢◌, ℕ, ◌+◌, ◌<◌, ◌≤◌, Bool, true, false, ◌&&◌, cond, eqb, leb, ltb, List, [], ◌∷◌, ◌++◌, length, length-append, Option, Some, None, Ok, Err, codes, refl, sym, ap, ◌∙◌, subst, inl, inr, arith}
use Rattle.std.specs.Prelude.{IfOk, IfSome, Result}
use Rattle.std.specs.FinMap.{FinMap}
use Rattle.std.specs.List.{AllByRecursion, list_all}
use Rattle.std.specs.Option.{option_map}
use Rattle.std.specs.Result.{result_ok}
use Rattle.std.specs.Str.{bytes_eq}
use Rattle.std.specs.Str.Parse.{digits_value}
use Rattle.std.proofs.Common.{decimal}
use Rattle.std.proofs.lemmas.Bool.{and_parts, cases_Bool, leb-true, ltb-true, ne_eqb}
use Rattle.std.proofs.lemmas.Option.{option_and_then_some}
use Rattle.ext_lines.specs.ByteOrder.{bytes_cmp}
use Rattle.ext_lines.specs.Words.{words_of}
use Rattle.ext_text.specs.Path.{path_parts, path_text}
use Rattle.ext_text.specs.declared.arch.Arch.{Arch}
use Rattle.ext_text.proofs.ForCallers.{all_append, text_of_parts}
use Rattle.ext_vers.specs.Version.{IsVersion}
use Rattle.ext_ini.specs.Reading.{ini_of}
use Rattle.ext_ini.specs.declared.sections.Section.{Section}
use Rattle.ext_ini.specs.declared.sections.Setting.{Setting}
use Rattle.ext_pattern.specs.Pattern.{PatternView}
use Rattle.ext_pattern.specs.Reading.{pattern_of}
use Rattle.ext_transfer.specs.declared.choices.SourceType.{SourceType}
use Rattle.ext_transfer.specs.declared.err.TransferErr.{TransferErr}
use Rattle.ext_transfer.specs.declared.err.TransferErr.TheVariants.{BadTransfer}
use Rattle.ext_transfer.specs.declared.err.TransferFault.{TransferFault}
use Rattle.ext_transfer.specs.declared.err.TransferFault.TheVariants as faults
use Rattle.ext_transfer.specs.declared.reading.Keeping.{Keeping}
use Rattle.ext_transfer.specs.declared.reading.Source.{Source}
use Rattle.ext_transfer.specs.declared.reading.Versions.{Versions}
use Rattle.ext_transfer.specs.declared.transfer.Location.{Location}
use Rattle.ext_transfer.specs.declared.transfer.ResourceType.{ResourceType}
use Rattle.ext_transfer.specs.declared.transfer.Transfer.{Transfer}
use Rattle.ext_transfer.specs.Bounds.{AreKeyPatterns, KeepsBounds}
use Rattle.ext_transfer.specs.Choices.{is_url_file, relative_set, resource_type, source_type_set, target_type_set, verify_set}
use Rattle.ext_transfer.specs.Fault.{GivesOrFaults, if_sound, or_fault}
use Rattle.ext_transfer.specs.Numbers.{are_instances, instances_of, instances_set, mode_set}
use Rattle.ext_transfer.specs.Paths.{is_name_text, is_path_text, link_at, link_path, link_set, name_in, path_after, path_below_root, source_path_of, source_path_set, source_prefix, target_path_set, with_room, within_limits}
use Rattle.ext_transfer.specs.Patterns.{next_pattern, patterns_and_value, patterns_and_words, patterns_in, patterns_of, target_patterns}
use Rattle.ext_transfer.specs.Specifiers.{expanded_value, specified}
use Rattle.ext_transfer.specs.Transfer.{all_settings, keeping_in, last_setting, names_in, sections_or_fault, source_in, target_in, transfer_in, transfer_of, versions_of}
use Rattle.ext_transfer.specs.Versions.{expanded_setting, expanded_settings, is_version_text, min_at, min_version_set, protected_set, versions_in}
use Rattle.ext_transfer.proofs.TestLemmas.{version_test}

-- what is given in the end was given by each step
got : {X Y P : Type 0} (r : Result X TransferErr) (next : X → Result Y TransferErr) (y : Y) → if_sound r next ≡ Ok y → ((x : X) → r ≡ Ok x → next x ≡ Ok y → P) → P
got (Err e) next y is more = absurd (cc is)
got (Ok x) next y is more = more x refl is

-- what is given was found
found : {X : Type 0} (o : Option X) (line : ℕ) (why : TransferFault) (x : X) → or_fault o line why ≡ Ok x → o ≡ Some x
found None line why x is = absurd (cc is)
found (Some y) line why x is = cc is

-- what a test lets through
passed : {X : Type 0} (b : Bool) (v w : X) → cond b (Some v) None ≡ Some w → (b ≡ true) × (v ≡ w)
passed true v w is = (refl, cc is)
passed false v w is = absurd (cc is)

chosen : {X : Type 0} (b : Bool) (o : Option X) (x : X) → cond b o None ≡ Some x → (b ≡ true) × (o ≡ Some x)
chosen true o x is = (refl, is)
chosen false o x is = absurd (cc is)

abbrev HasRoom : List (List ℕ) → Type 0
HasRoom path = (length path ≤ 63) × (length (path_text path) ≤ 3840)

room : (p q : List (List ℕ)) → with_room p ≡ Some q → HasRoom q
room p q is =
    let h = passed (leb (length p) 63 && leb (length (path_text p)) 3840) p q is in
    let parts = and_parts (leb (length p) 63) (leb (length (path_text p)) 3840) h.0 in
    subst HasRoom h.1 (leb-true (length p) 63 parts.0, leb-true (length (path_text p)) 3840 parts.1)

source_room : (m : ℕ → Option (List ℕ)) (kind : SourceType) (s : Option Setting) (p : List (List ℕ)) → source_path_set m kind s ≡ Ok p → HasRoom p
source_room m kind None p is = absurd (cc is)
source_room m kind (Some s) p is =
    got (expanded_value m s) (λ text. or_fault (source_path_of kind text) s.line faults.SourcePath) p is (λ text made rest.
    option_and_then_some with_room (path_after (source_prefix kind) text) p (found (source_path_of kind text) s.line faults.SourcePath p rest) (λ q read roomy. room q p roomy))

-- patterns that were added to others: no fewer, and no more than there may be
abbrev GrowTo : List PatternView → List PatternView → Type 0
GrowTo before all = (length before ≤ length all) × (length before ≤ 64 → length all ≤ 64)

words_grow : (before : List PatternView) (words : List (List ℕ)) (all : List PatternView) → patterns_and_words before words ≡ Some all → GrowTo before all
words_grow before [] all is = let same : before ≡ all = cc is in (omega (arith, ap length same), λ few. omega (arith, few, ap length same))
words_grow before (word ∷ words) all is =
    option_and_then_some (λ pattern. patterns_and_words (before ++ pattern ∷ []) words) (next_pattern (length before) word) all is (λ pattern first rest.
    let more = words_grow (before ++ pattern ∷ []) words all rest in
    let low = ltb-true (length before) 64 (chosen (ltb (length before) 64) (result_ok (pattern_of word)) pattern first).0 in
    let count = length-append before (pattern ∷ []) in
    (omega (arith, more.0, count), λ few. more.1 (omega (arith, low, count))))

abbrev GrowMore : List PatternView → List PatternView → Type 0
GrowMore before all = (length before < length all) × (length all ≤ 64)

some_grow : (before : List PatternView) (words : List (List ℕ)) (all : List PatternView) → cond (eqb (length words) 0) None (patterns_and_words before words) ≡ Some all → GrowMore before all
some_grow before [] all is = absurd (cc is)
some_grow before (word ∷ words) all is =
    let some : eqb (length (word ∷ words)) 0 ≡ false = ne_eqb (length (word ∷ words)) 0 (λ e. omega arith) in
    let on : patterns_and_words before (word ∷ words) ≡ Some all =
    sym (ap (λ (x : Bool). cond x None (patterns_and_words before (word ∷ words))) some) ∙ is
    in
    option_and_then_some (λ pattern. patterns_and_words (before ++ pattern ∷ []) words) (next_pattern (length before) word) all on (λ pattern first rest.
    let more = words_grow (before ++ pattern ∷ []) words all rest in
    let low = ltb-true (length before) 64 (chosen (ltb (length before) 64) (result_ok (pattern_of word)) pattern first).0 in
    let count = length-append before (pattern ∷ []) in
    (omega (arith, more.0, count), more.1 (omega (arith, low, count))))

settings_grow : (why : TransferFault) (before : List PatternView) (settings : List Setting) (all : List PatternView) → patterns_in why before settings ≡ Ok all → GrowTo before all
settings_grow why before [] all is = let same : before ≡ all = cc is in (omega (arith, ap length same), λ few. omega (arith, few, ap length same))
settings_grow why before (s ∷ ss) all is =
    got (or_fault (patterns_and_value before s.value) s.line why) (λ patterns. patterns_in why patterns ss) all is (λ patterns first rest.
    let here = some_grow before (words_of s.value) patterns (found (patterns_and_value before s.value) s.line why patterns first) in
    let more = settings_grow why patterns ss all rest in
    (omega (arith, here.0, more.0), λ few. more.1 here.1))

settings_made : (m : ℕ → Option (List ℕ)) (before settings all : List Setting) → expanded_settings m before settings ≡ Ok all → length all ≡ length before + length settings
settings_made m before [] all is = let same : before ≡ all = cc is in omega (arith, ap length same)
settings_made m before (s ∷ ss) all is =
    got (expanded_setting m s) (λ made. expanded_settings m (before ++ made ∷ []) ss) all is (λ made first rest.
    omega (arith, settings_made m (before ++ made ∷ []) ss all rest, length-append before (made ∷ [])))

made_patterns : (why : TransferFault) (made : List Setting) (all : List PatternView) → 0 < length made → patterns_in why [] made ≡ Ok all → AreKeyPatterns all
made_patterns why [] all some is = absurd (omega (arith, some))
made_patterns why (s ∷ ss) all some is =
    got (or_fault (patterns_and_value [] s.value) s.line why) (λ patterns. patterns_in why patterns ss) all is (λ patterns first rest.
    let here = some_grow [] (words_of s.value) patterns (found (patterns_and_value [] s.value) s.line why patterns first) in
    let more = settings_grow why patterns ss all rest in
    (omega (arith, here.0, more.0), more.1 here.1))

key_patterns : (m : ℕ → Option (List ℕ)) (why : TransferFault) (settings : List Setting) (all : List PatternView) → patterns_of m why settings ≡ Ok all → AreKeyPatterns all
key_patterns m why [] all is = absurd (cc is)
key_patterns m why (s ∷ ss) all is =
    got (expanded_settings m [] (s ∷ ss)) (λ made. patterns_in why [] made) all is (λ made first rest.
    made_patterns why made all (omega (arith, settings_made m [] (s ∷ ss) made first)) rest)

both_patterns : (m : ℕ → Option (List ℕ)) (of_source settings : List Setting) (all : List PatternView) → target_patterns m of_source settings ≡ Ok all → AreKeyPatterns all
both_patterns m of_source [] all is = key_patterns m faults.SourcePattern of_source all is
both_patterns m of_source (s ∷ ss) all is = key_patterns m faults.TargetPattern (s ∷ ss) all is

abbrev AreInstances : ℕ → Type 0
AreInstances n = (2 ≤ n) × (n ≤ 1000000)

some_instances : (s : Option Setting) (n : ℕ) → instances_set s ≡ Ok n → AreInstances n
some_instances None n is = subst AreInstances (let same : 2 ≡ n = cc is in same) (omega arith, omega arith)
some_instances (Some s) n is =
    let v = digits_value 10 s.value in
    let h = passed (bytes_eq s.value (decimal v) && are_instances v) v n (found (instances_of s.value) s.line faults.Instances n is) in
    let within = and_parts (leb 2 v) (leb v 1000000) (and_parts (bytes_eq s.value (decimal v)) (are_instances v) h.0).1 in
    subst AreInstances h.1 (leb-true 2 v within.0, leb-true v 1000000 within.1)

abbrev IsLink : Option (List (List ℕ)) → Type 0
IsLink link = IfSome link (λ path. path ≢ [])

below : (bs : List ℕ) (p : List (List ℕ)) → path_below_root bs ≡ Some p → p ≢ []
below [] p is root = absurd (cc is)
below (b ∷ bs) p is root =
    let h = passed (is_path_text (b ∷ bs)) (path_parts (b ∷ bs)) p is in
    let none : b ∷ bs ≡ path_text [] = sym (text_of_parts (b ∷ bs)) ∙ ap path_text (h.1 ∙ root) in
    absurd (omega (arith, ap length none))

beside : (target : List (List ℕ)) (text : List ℕ) (p : List (List ℕ)) → name_in target text ≡ Some p → p ≢ []
beside target text p is root =
    let names = target ++ text ∷ [] in
    let h = chosen (is_name_text text) (within_limits names) p is in
    let same = (passed (leb (length (path_text names)) 4096 && leb (length names) 64) names p h.1).1 in
    omega (arith, length-append target (text ∷ []), ap length (same ∙ root))

linked : (target : List (List ℕ)) (text : List ℕ) (p : List (List ℕ)) → link_path target text ≡ Some p → p ≢ []
linked target [] p is = absurd (cc is)
linked target (b ∷ bs) p is =
    elim (cases_Bool (eqb b 47)) [
      | inl slash ↦ below bs p (sym (ap (λ (x : Bool). cond x (path_below_root bs) (name_in target (b ∷ bs))) slash) ∙ is)
      | inr other ↦ beside target (b ∷ bs) p (sym (ap (λ (x : Bool). cond x (path_below_root bs) (name_in target (b ∷ bs))) other) ∙ is)
    ]

some_link : (o : Option (List (List ℕ))) (link : Option (List (List ℕ))) → ((p : List (List ℕ)) → o ≡ Some p → p ≢ []) → option_map Some o ≡ Some link → IsLink link
some_link None link below is = absurd (cc is)
some_link (Some p) link below is = subst IsLink (let same : Some p ≡ link = cc is in same) (below p refl)

text_link : (target : List (List ℕ)) (line : ℕ) (text : List ℕ) (link : Option (List (List ℕ))) → link_at target line text ≡ Ok link → IsLink link
text_link target line [] link is = subst IsLink (let same : None ≡ link = cc is in same) tt
text_link target line (b ∷ bs) link is =
    some_link (link_path target (b ∷ bs)) link (linked target (b ∷ bs)) (found (option_map Some (link_path target (b ∷ bs))) line faults.Link link is)

set_link : (m : ℕ → Option (List ℕ)) (target : List (List ℕ)) (s : Option Setting) (link : Option (List (List ℕ))) → link_set m target s ≡ Ok link → IsLink link
set_link m target None link is = subst IsLink (let same : None ≡ link = cc is in same) tt
set_link m target (Some s) link is =
    got (expanded_value m s) (λ text. link_at target s.line text) link is (λ text made rest. text_link target s.line text link rest)

abbrev IsMin : Option (List ℕ) → Type 0
IsMin min = IfSome min IsVersion

tested_min : (line : ℕ) (t : List ℕ) (b : Bool) (min : Option (List ℕ)) → (b ≡ true → IsVersion t) → cond b (Ok (Some t)) (Err (BadTransfer line faults.MinVersion)) ≡ Ok min → IsMin min
tested_min line t true min version is = subst IsMin (let same : Some t ≡ min = cc is in same) (version refl)
tested_min line t false min version is = absurd (cc is)

text_min : (line : ℕ) (text : List ℕ) (min : Option (List ℕ)) → min_at line text ≡ Ok min → IsMin min
text_min line [] min is = subst IsMin (let same : None ≡ min = cc is in same) tt
text_min line (b ∷ bs) min is = tested_min line (b ∷ bs) (is_version_text (b ∷ bs)) min (version_test (b ∷ bs)).0 is

set_min : (m : ℕ → Option (List ℕ)) (s : Option Setting) (min : Option (List ℕ)) → min_version_set m s ≡ Ok min → IsMin min
set_min m None min is = subst IsMin (let same : None ≡ min = cc is in same) tt
set_min m (Some s) min is = got (expanded_value m s) (λ text. min_at s.line text) min is (λ text made rest. text_min s.line text min rest)

all_versions : (words : List (List ℕ)) → list_all is_version_text words ≡ true → AllByRecursion IsVersion words
all_versions [] is = tt
all_versions (word ∷ words) is =
    let parts = and_parts (is_version_text word) (list_all is_version_text words) is in
    ((version_test word).0 parts.0, all_versions words parts.1)

settings_versions : (before : List (List ℕ)) (settings : List Setting) (all : List (List ℕ)) → AllByRecursion IsVersion before → versions_in before settings ≡ Ok all → AllByRecursion IsVersion all
settings_versions before [] all sound is = let P : List (List ℕ) → Type 0 = λ vs. AllByRecursion IsVersion vs in subst P (let same : before ≡ all = cc is in same) sound
settings_versions before (s ∷ ss) all sound is =
    let words = words_of s.value in
    elim (cases_Bool (list_all is_version_text words)) [
      | inl versions ↦ settings_versions (before ++ words) ss all (all_append IsVersion before words sound (all_versions words versions)) (sym (ap (λ (x : Bool). cond x (versions_in (before ++ words) ss) (Err (BadTransfer s.line faults.ProtectVersion))) versions) ∙ is)
      | inr other ↦ absurd (cc (sym (ap (λ (x : Bool). cond x (versions_in (before ++ words) ss) (Err (BadTransfer s.line faults.ProtectVersion))) other) ∙ is))
    ]

set_versions : (m : ℕ → Option (List ℕ)) (settings : List Setting) (all : List (List ℕ)) → protected_set m settings ≡ Ok all → AllByRecursion IsVersion all
set_versions m settings all is =
    got (expanded_settings m [] settings) (λ made. versions_in [] made) all is (λ made first rest. settings_versions [] made all tt rest)

-- [Source]
source_bounds : (m : ℕ → Option (List ℕ)) (ini : List Section) (source : Source) → source_in m ini ≡ Ok source → HasRoom source.location.path × AreKeyPatterns source.location.patterns
source_bounds m ini source is =
    let stated = last_setting ini (codes "Source") (codes "Type") in
    let P : Source → Type 0 = λ s. HasRoom s.location.path × AreKeyPatterns s.location.patterns in
    got (verify_set (is_url_file stated) (last_setting ini (codes "Transfer") (codes "Verify"))) _ source is (λ sound _ from_type.
    got (source_type_set stated) _ source from_type (λ kind _ from_path.
    got (source_path_set m kind (last_setting ini (codes "Source") (codes "Path"))) _ source from_path (λ path path_is from_patterns.
    got (patterns_of m faults.SourcePattern (all_settings ini (codes "Source") (codes "MatchPattern"))) _ source from_patterns (λ patterns patterns_are last.
    let same : record { resources = resource_type kind; location = record { path = path; patterns = patterns } } ≡ source = cc last in
    subst P same (source_room m kind (last_setting ini (codes "Source") (codes "Path")) path path_is, key_patterns m faults.SourcePattern (all_settings ini (codes "Source") (codes "MatchPattern")) patterns patterns_are)))))

-- [Target]
target_bounds : (m : ℕ → Option (List ℕ)) (resources : ResourceType) (ini : List Section) (target : Location) → target_in m resources ini ≡ Ok target → AreKeyPatterns target.patterns
target_bounds m resources ini target is =
    let of_source = all_settings ini (codes "Source") (codes "MatchPattern") in
    let settings = all_settings ini (codes "Target") (codes "MatchPattern") in
    let P : Location → Type 0 = λ l. AreKeyPatterns l.patterns in
    got (target_type_set resources (last_setting ini (codes "Target") (codes "Type"))) _ target is (λ sound _ from_path.
    got (target_path_set m (last_setting ini (codes "Target") (codes "Path"))) _ target from_path (λ path _ from_patterns.
    got (target_patterns m of_source settings) _ target from_patterns (λ patterns patterns_are last.
    let same : record { path = path; patterns = patterns } ≡ target = cc last in
    subst P same (both_patterns m of_source settings patterns patterns_are))))

-- how the target is kept
keeping_bounds : (m : ℕ → Option (List ℕ)) (target : List (List ℕ)) (ini : List Section) (keeping : Keeping) → keeping_in m target ini ≡ Ok keeping → AreInstances keeping.instances × IsLink keeping.link
keeping_bounds m target ini keeping is =
    let P : Keeping → Type 0 = λ k. AreInstances k.instances × IsLink k.link in
    got (mode_set (last_setting ini (codes "Target") (codes "Mode"))) _ keeping is (λ mode _ from_instances.
    got (instances_set (last_setting ini (codes "Target") (codes "InstancesMax"))) _ keeping from_instances (λ instances instances_are from_link.
    got (link_set m target (last_setting ini (codes "Target") (codes "CurrentSymlink"))) _ keeping from_link (λ link link_is from_source.
    got (relative_set (last_setting ini (codes "Source") (codes "PathRelativeTo"))) _ keeping from_source (λ sound _ from_target.
    got (relative_set (last_setting ini (codes "Target") (codes "PathRelativeTo"))) _ keeping from_target (λ sound _ last.
    let same : record { mode = mode; instances = instances; link = link } ≡ keeping = cc last in
    subst P same (some_instances (last_setting ini (codes "Target") (codes "InstancesMax")) instances instances_are, set_link m target (last_setting ini (codes "Target") (codes "CurrentSymlink")) link link_is))))))

-- the versions of [Transfer]
versions_bounds : (m : ℕ → Option (List ℕ)) (ini : List Section) (versions : Versions) → versions_of m ini ≡ Ok versions → IsMin versions.min × AllByRecursion IsVersion versions.protect
versions_bounds m ini versions is =
    let P : Versions → Type 0 = λ v. IsMin v.min × AllByRecursion IsVersion v.protect in
    got (min_version_set m (last_setting ini (codes "Transfer") (codes "MinVersion"))) _ versions is (λ min min_is from_protect.
    got (protected_set m (all_settings ini (codes "Transfer") (codes "ProtectVersion"))) _ versions from_protect (λ protect protect_are last.
    let same : record { min = min; protect = protect } ≡ versions = cc last in
    subst P same (set_min m (last_setting ini (codes "Transfer") (codes "MinVersion")) min min_is, set_versions m (all_settings ini (codes "Transfer") (codes "ProtectVersion")) protect protect_are)))

in_bounds : (file : List ℕ) (m : ℕ → Option (List ℕ)) (ini : List Section) (t : Transfer) → transfer_in file m ini ≡ Ok t → KeepsBounds t
in_bounds file m ini t is =
    got (source_in m ini) _ t is (λ source source_is from_target.
    got (target_in m source.resources ini) _ t from_target (λ target target_is from_keeping.
    got (keeping_in m target.path ini) _ t from_keeping (λ keeping keeping_is from_versions.
    got (versions_of m ini) _ t from_versions (λ versions versions_are last.
    let s = source_bounds m ini source source_is in
    let k = keeping_bounds m target.path ini keeping keeping_is in
    let v = versions_bounds m ini versions versions_are in
    let made : Transfer = record {
      file = file;
      resources = source.resources;
      source = source.location;
      target = target;
      mode = keeping.mode;
      instances = keeping.instances;
      link = keeping.link;
      min = versions.min;
      protect = versions.protect;
      features = names_in ini (codes "Features");
      requisite = names_in ini (codes "RequisiteFeatures");
    } in
    let same : made ≡ t = cc last in
    let P : Transfer → Type 0 = λ x. KeepsBounds x in
    subst P same (record {
      source_names = s.0.0;
      source_bytes = s.0.1;
      source_patterns = s.1;
      target_patterns = target_bounds m source.resources ini target target_is;
      least_instances = k.0.0;
      most_instances = k.0.1;
      link = k.1;
      min = v.0;
      protect = v.1;
    })))))

-- each transfer that a file says keeps the bounds
pub transfer_bounds : (file bytes : List ℕ) (host : Option (FinMap bytes_cmp (List ℕ))) (arch : Arch) (t : Transfer) → transfer_of file bytes host arch ≡ Ok t → KeepsBounds t
transfer_bounds file bytes host arch t is =
    got (sections_or_fault (ini_of bytes)) (λ ini. transfer_in file (specified host arch) ini) t is (λ ini _ rest. in_bounds file (specified host arch) ini t rest)

-- so does what a call gives
pub bounds_given : (file bytes : List ℕ) (host : Option (FinMap bytes_cmp (List ℕ))) (arch : Arch) (r : Result Transfer TransferErr) → GivesOrFaults r (transfer_of file bytes host arch) → IfOk r KeepsBounds
bounds_given file bytes host arch (Ok t) gives = transfer_bounds file bytes host arch t gives
bounds_given file bytes host arch (Err e) gives = tt
