-- What a run looks at, part by part: what each part leaves for the next, and why each stops the whole.
use Rattle.std.proofs.Common.{◌≡◌, ℕ, ◌<◌, ◌≤◌, Bool, true, false, cond, List, [], ◌∷◌, ◌++◌, length, Option, Some, None, IfSome, refl, sym, ap, ◌∙◌, subst, arith, append_assoc, inl, inr}
use Rattle.std.specs.Prelude.{nat_le, IfErr, IfOk, Ok, Err, Result}
use Rattle.std.specs.List.{AllByRecursion}
use Rattle.std.proofs.lemmas.Bool.{cond-true, cond-false, leb-false}
use Rattle.std.proofs.lemmas.Option.{none-some}
use Rattle.ext_text.specs.Path.{IsPath}
use Rattle.ext_disk.specs.Disk.{Node, folder, file, Tree, Told, DiskState, is_file, is_folder, now}
use Rattle.ext_disk.specs.Since.{Rests}
use Rattle.ext_disk.proofs.ForCallers.{rests_then}
use Rattle.ext_store_files.specs.Reading.{IsFoundAt, found_of}
use Rattle.ext_store_files.specs.declared.reading.Found.{Found}
use Rattle.ext_store_files.specs.declared.reading.Found.TheVariants as found
use Rattle.ext_store_files.proofs.ForCallers.{rose_since}
use Rattle.ext_published.specs.Asked.{AskedOf}
use Rattle.ext_sums.specs.Manifest.{IsFirstFault}
use Rattle.ext_published.specs.Manifest.{ListsNeither, ListsOne, most_published_text}
use Rattle.ext_published.specs.Places.{ChecksFiles, GivesPlaces, published_manifest_path, places_in, published_resource_path}
use Rattle.ext_published.specs.declared.payload.Payload.{Payload}
use Rattle.ext_published.specs.declared.payload.Payload.TheVariants.{Directory, File}
use Rattle.ext_published.specs.declared.places.PlacesErr.{PlacesErr}
use Rattle.ext_published.specs.declared.places.PlacesErr.TheVariants as places_errors
use Rattle.ext_publish.specs.Out.{file_bytes, bytes_or_none, first_file, folder_manifest, first_of_paths, manifest_bytes, wrong_kind}
use Rattle.ext_publish.specs.Refusing.{HasDepotPaths, HasShortManifest, HasShortText, HasShortTexts}
use Rattle.ext_publish.specs.Looking.{ChecksPayload, KindOfFileCause, HoldsNow, KindCause, LookCause, ManifestKindCause, MayPublish, NewCause, NoPaths, OldCause, ShortTextCause, ManifestFound, look_err_of_places}
use Rattle.ext_publish.specs.declared.look_err.LookErr.{LookErr}
use Rattle.ext_publish.specs.declared.look_err.LookErr.TheVariants.{OutOfMemory, OutFault, LimitPath, OutKind, LimitText, OutManifest, Listed}

-- facts of what stands: a weaker one, two of them, and one of a disk that rests
module _ (P Q S : Tree → Type 0) where
  holds_weaker : ((t : Tree) → P t → Q t) → (x : Option Told) → IfSome x (λ d. P (now d.places)) → IfSome x (λ d. Q (now d.places))
  holds_weaker gives None is = tt
  holds_weaker gives (Some d) is = gives (now d.places) is

  holds_two : ((t : Tree) → P t → Q t → S t) → (x : Option Told) → IfSome x (λ d. P (now d.places)) → IfSome x (λ d. Q (now d.places)) → IfSome x (λ d. S (now d.places))
  holds_two gives None one two = tt
  holds_two gives (Some d) one two = gives (now d.places) one two

pub holds_before : (P : Tree → Type 0) (old new : DiskState) → Rests old new → HoldsNow new P → HoldsNow old P
holds_before P old new rests is = subst (λ (x : Option Told). IfSome x (λ d. P (now d.places))) rests.told is

pub holds_after : (P : Tree → Type 0) (old new : DiskState) → Rests old new → HoldsNow old P → HoldsNow new P
holds_after P old new rests is = subst (λ (x : Option Told). IfSome x (λ d. P (now d.places))) (sym rests.told) is

-- the paths are within their limits, or not all are
pub paths_are : (asked : AskedOf) (payload : Payload) (resource : List (List ℕ)) (x : Unit {0}) → resource ≡ published_resource_path asked → AllByRecursion IsPath (places_in asked) → ChecksPayload resource payload (Ok x) → HasDepotPaths asked payload
paths_are asked (Directory tree) resource x is places checks = record { places = places; files = subst (λ (at : List (List ℕ)). ChecksFiles at tree (Ok x)) is checks }
paths_are asked (File held) resource x is places checks = record { places = places; files = tt }

pub places_refused : (asked : AskedOf) (payload : Payload) (e : PlacesErr) → GivesPlaces asked (Err e) → NoPaths asked payload (look_err_of_places e)
places_refused asked payload places_errors.OutOfMemory why = tt
places_refused asked payload places_errors.Limit why = λ has. why has.places

pub files_refused : (asked : AskedOf) (payload : Payload) (resource : List (List ℕ)) (e : PlacesErr) → resource ≡ published_resource_path asked → ChecksPayload resource payload (Err e) → NoPaths asked payload (look_err_of_places e)
files_refused asked payload resource places_errors.OutOfMemory is why = tt
files_refused asked (Directory tree) resource places_errors.Limit is why = λ has. why (subst (λ (at : List (List ℕ)). ChecksFiles at tree (Ok tt)) (sym is) has.files)
files_refused asked (File held) resource places_errors.Limit is why = absurd why

-- why each part stops the whole
pub paths_stop : (old new : DiskState) (asked : AskedOf) (payload : Payload) (e : LookErr) → NoPaths asked payload e → LookCause old new asked payload e
paths_stop old new asked payload OutOfMemory why = tt
paths_stop old new asked payload OutFault why = absurd why
paths_stop old new asked payload LimitPath why = why
paths_stop old new asked payload (OutKind path) why = absurd why
paths_stop old new asked payload LimitText why = absurd why
paths_stop old new asked payload (OutManifest line) why = absurd why
paths_stop old new asked payload Listed why = absurd why

pub kinds_stop : (old new : DiskState) (asked : AskedOf) (payload : Payload) (e : LookErr) → HasDepotPaths asked payload → KindCause old new (λ t. wrong_kind t asked) e → LookCause old new asked payload e
kinds_stop old new asked payload OutOfMemory paths why = tt
kinds_stop old new asked payload OutFault paths why = why
kinds_stop old new asked payload LimitPath paths why = absurd why
kinds_stop old new asked payload (OutKind path) paths why = (paths, why)
kinds_stop old new asked payload LimitText paths why = absurd why
kinds_stop old new asked payload (OutManifest line) paths why = absurd why
kinds_stop old new asked payload Listed paths why = absurd why

module _ (old : DiskState) (asked : AskedOf) (payload : Payload) (paths : HasDepotPaths asked payload) (kinds : HoldsNow old (λ t. wrong_kind t asked ≡ None)) where
  pub text_stop : (new : DiskState) (e : LookErr) → ShortTextCause payload e → LookCause old new asked payload e
  text_stop new OutOfMemory why = tt
  text_stop new OutFault why = absurd why
  text_stop new LimitPath why = absurd why
  text_stop new (OutKind path) why = absurd why
  text_stop new LimitText why =
      (paths, holds_weaker (λ t. wrong_kind t asked ≡ None) (λ t. (wrong_kind t asked ≡ None) × ¬ HasShortTexts asked payload t) (λ t. Unit {0}) (λ t is. (is, λ has. why has.text)) old.told kinds)
  text_stop new (OutManifest line) why = absurd why
  text_stop new Listed why = absurd why

  no_folder : (t : Tree) → wrong_kind t asked ≡ None → is_folder (t (published_manifest_path asked)) ≡ true → ⊥
  no_folder t none is = by_first (first_file t [] asked.folder) none
    where
      by_first : (x : Option (List (List ℕ))) → first_of_paths x (folder_manifest t asked) ≡ None → ⊥
      by_first None none = none-some (published_manifest_path asked) (sym none ∙ cond-true (is_folder (t (published_manifest_path asked))) (Some (published_manifest_path asked)) None is)
      by_first (Some path) none = none-some path (sym none)

  pub old_stop : (mid new : DiskState) (e : LookErr) → Rests old mid → OldCause mid new asked e → LookCause old new asked payload e
  old_stop mid new OutOfMemory rests why = tt
  old_stop mid new OutFault rests why = rose_since old.faults mid.faults new.faults rests.count why
  old_stop mid new LimitPath rests why = absurd why
  old_stop mid new (OutKind path) rests why = (
    paths,
    holds_two (λ t. wrong_kind t asked ≡ None) (λ t. (path ≡ published_manifest_path asked) × (is_folder (t (published_manifest_path asked)) ≡ true)) (λ t. wrong_kind t asked ≡ Some path) (λ t none is. absurd (no_folder t none is.1)) old.told
        kinds (holds_before (λ t. (path ≡ published_manifest_path asked) × (is_folder (t (published_manifest_path asked)) ≡ true)) old mid rests why),
  )
  old_stop mid new LimitText rests why = (
    paths,
    holds_two (λ t. wrong_kind t asked ≡ None) (λ t. most_published_text < length (manifest_bytes t asked)) (λ t. (wrong_kind t asked ≡ None) × ¬ HasShortTexts asked payload t) (λ t none long. (none, λ has. let short = has.old in omega arith)) old.told
        kinds (holds_before (λ t. most_published_text < length (manifest_bytes t asked)) old mid rests why),
  )
  old_stop mid new (OutManifest line) rests why = absurd why
  old_stop mid new Listed rests why = absurd why

  module _ (short : HasShortText payload) (text : List ℕ) (fits : length text ≤ most_published_text) (is : HoldsNow old (λ t. text ≡ manifest_bytes t asked)) where
    texts_at : (t : Tree) → text ≡ manifest_bytes t asked → HasShortManifest asked payload text → HasShortTexts asked payload t
    texts_at t same new = record { text = short; old = subst (λ (l : List ℕ). length l ≤ most_published_text) same fits; new = subst (HasShortManifest asked payload) same new }

    pub new_stop : (new : DiskState) (e : LookErr) → NewCause asked payload text e → LookCause old new asked payload e
    new_stop new OutOfMemory why = tt
    new_stop new OutFault why = absurd why
    new_stop new LimitPath why = absurd why
    new_stop new (OutKind path) why = absurd why
    new_stop new LimitText why = (
      paths,
      holds_two (λ t. wrong_kind t asked ≡ None) (λ t. text ≡ manifest_bytes t asked) (λ t. (wrong_kind t asked ≡ None) × ¬ HasShortTexts asked payload t)
          (λ t none same. (none, λ has. why (subst (HasShortManifest asked payload) (sym same) has.new))) old.told kinds is,
    )
    new_stop new (OutManifest line) why = (
      paths,
      holds_two (λ t. wrong_kind t asked ≡ None) (λ t. text ≡ manifest_bytes t asked) (λ t. (wrong_kind t asked ≡ None) × HasShortTexts asked payload t × IsFirstFault (manifest_bytes t asked) line)
          (λ t none same. (none, texts_at t same why.0, subst (λ (l : List ℕ). IsFirstFault l line) same why.1)) old.told kinds is,
    )
    new_stop new Listed why = (
      paths,
      holds_two (λ t. wrong_kind t asked ≡ None) (λ t. text ≡ manifest_bytes t asked) (λ t. (wrong_kind t asked ≡ None) × HasShortTexts asked payload t × ListsOne (manifest_bytes t asked) asked.name)
          (λ t none same. (none, texts_at t same why.0, subst (λ (l : List ℕ). ListsOne l asked.name) same why.1)) old.told kinds is,
    )

    -- nothing stands in its way
    pub may_publish : HasShortManifest asked payload text → ListsNeither text asked.name → MayPublish old asked payload
    may_publish new neither = record {
      paths = paths;
      told = holds_two (λ t. wrong_kind t asked ≡ None) (λ t. text ≡ manifest_bytes t asked) (λ t. (wrong_kind t asked ≡ None) × HasShortTexts asked payload t × ListsNeither (manifest_bytes t asked) asked.name)
          (λ t none same. (none, texts_at t same new, subst (λ (l : List ℕ). ListsNeither l asked.name) same neither)) old.told kinds is;
    }

-- going down: what was looked at so far
pub record IsDown (old new : DiskState) (names above left : List (List ℕ)) : Type 0 where
  pub rests : Rests old new
  pub path : names ≡ above ++ left
  pub same : HoldsNow old (λ t. first_file t above left ≡ first_file t [] names)

pub starts_down : (old : DiskState) (names : List (List ℕ)) (x : Option Told) → IfSome x (λ d. first_file (now d.places) [] names ≡ first_file (now d.places) [] names)
starts_down old names None = tt
starts_down old names (Some d) = refl

-- one step further
down_at : (old mid new : DiskState) (names above left below : List (List ℕ)) (name : List ℕ) → IsDown old mid names above left → left ≡ name ∷ below → Rests mid new
    → HoldsNow mid (λ t. false ≡ is_file (t (above ++ name ∷ []))) → IsDown old new names (above ++ name ∷ []) below
down_at old mid new names above left below name so split rests none = record {
  rests = rests_then old mid new so.rests rests;
  path = so.path ∙ ap (λ (l : List (List ℕ)). above ++ l) split ∙ sym (append_assoc above (name ∷ []) below);
  same = holds_two (λ t. first_file t above left ≡ first_file t [] names) (λ t. false ≡ is_file (t (above ++ name ∷ []))) (λ t. first_file t (above ++ name ∷ []) below ≡ first_file t [] names)
      (λ t same no. sym (ap (first_file t above) split ∙ cond-false (is_file (t (above ++ name ∷ []))) (Some (above ++ name ∷ [])) (first_file t (above ++ name ∷ []) below) (sym no)) ∙ same)
      old.told so.same (holds_before (λ t. false ≡ is_file (t (above ++ name ∷ []))) old mid so.rests none);
}

-- no file stands at the next path
pub goes_down : (old mid new : DiskState) (names above left below next : List (List ℕ)) (name : List ℕ) → IsDown old mid names above left → left ≡ name ∷ below → next ≡ above ++ name ∷ [] → Rests mid new
    → HoldsNow mid (λ t. false ≡ is_file (t next)) → IsDown old new names next below
goes_down old mid new names above left below next name so split is rests none =
    subst (λ (p : List (List ℕ)). IsDown old new names p below) (sym is)
    (down_at old mid new names above left below name so split rests (subst (λ (p : List (List ℕ)). HoldsNow mid (λ t. false ≡ is_file (t p))) is none))

file_there : (old mid : DiskState) (names above left below : List (List ℕ)) (name : List ℕ) → IsDown old mid names above left → left ≡ name ∷ below
    → HoldsNow mid (λ t. true ≡ is_file (t (above ++ name ∷ []))) → HoldsNow old (λ t. first_file t [] names ≡ Some (above ++ name ∷ []))
file_there old mid names above left below name so split is =
    holds_two (λ t. first_file t above left ≡ first_file t [] names) (λ t. true ≡ is_file (t (above ++ name ∷ []))) (λ t. first_file t [] names ≡ Some (above ++ name ∷ []))
    (λ t same yes. sym same ∙ ap (first_file t above) split ∙ cond-true (is_file (t (above ++ name ∷ []))) (Some (above ++ name ∷ [])) (first_file t (above ++ name ∷ []) below) (sym yes))
    old.told so.same (holds_before (λ t. true ≡ is_file (t (above ++ name ∷ []))) old mid so.rests is)

-- a file stands at the next path, or it is not known
pub stops_down : (old mid new : DiskState) (names above left below : List (List ℕ)) (name : List ℕ) (e : LookErr) → IsDown old mid names above left → left ≡ name ∷ below
    → KindOfFileCause mid new (above ++ name ∷ []) e → KindCause old new (λ t. first_file t [] names) e
stops_down old mid new names above left below name OutOfMemory so split why = tt
stops_down old mid new names above left below name OutFault so split why = rose_since old.faults mid.faults new.faults (let rests = so.rests in rests.count) why
stops_down old mid new names above left below name LimitPath so split why = absurd why
stops_down old mid new names above left below name (OutKind path) so split why =
    subst (λ (p : List (List ℕ)). HoldsNow old (λ t. first_file t [] names ≡ Some p)) (sym why.0)
    (file_there old mid names above left below name so split (subst (λ (p : List (List ℕ)). HoldsNow mid (λ t. true ≡ is_file (t p))) why.0 why.1))
stops_down old mid new names above left below name LimitText so split why = absurd why
stops_down old mid new names above left below name (OutManifest line) so split why = absurd why
stops_down old mid new names above left below name Listed so split why = absurd why

-- no name is left
pub ends_down : (old new : DiskState) (names above left : List (List ℕ)) → IsDown old new names above left → left ≡ [] → HoldsNow old (λ t. first_file t [] names ≡ None)
ends_down old new names above left so none =
    holds_weaker (λ t. first_file t above left ≡ first_file t [] names) (λ t. first_file t [] names ≡ None) (λ t. Unit {0}) (λ t same. sym same ∙ ap (first_file t above) none) old.told so.same

-- a file is not there, and the manifest is no folder
pub kinds_are : (asked : AskedOf) (old mid : DiskState) → Rests old mid → HoldsNow old (λ t. first_file t [] asked.folder ≡ None) → HoldsNow mid (λ t. is_folder (t (published_manifest_path asked)) ≡ false)
    → HoldsNow old (λ t. wrong_kind t asked ≡ None)
kinds_are asked old mid rests files folders =
    holds_two (λ t. first_file t [] asked.folder ≡ None) (λ t. is_folder (t (published_manifest_path asked)) ≡ false) (λ t. wrong_kind t asked ≡ None)
    (λ t none no. ap (λ (x : Option (List (List ℕ))). first_of_paths x (folder_manifest t asked)) none ∙ cond-false (is_folder (t (published_manifest_path asked))) (Some (published_manifest_path asked)) None no)
    old.told files (holds_before (λ t. is_folder (t (published_manifest_path asked)) ≡ false) old mid rests folders)

pub files_stop : (asked : AskedOf) (old new : DiskState) (e : LookErr) → KindCause old new (λ t. first_file t [] asked.folder) e → KindCause old new (λ t. wrong_kind t asked) e
files_stop asked old new OutOfMemory why = tt
files_stop asked old new OutFault why = why
files_stop asked old new LimitPath why = absurd why
files_stop asked old new (OutKind path) why =
    holds_weaker (λ t. first_file t [] asked.folder ≡ Some path) (λ t. wrong_kind t asked ≡ Some path) (λ t. Unit {0}) (λ t is. ap (λ (x : Option (List (List ℕ))). first_of_paths x (folder_manifest t asked)) is) old.told why
files_stop asked old new LimitText why = absurd why
files_stop asked old new (OutManifest line) why = absurd why
files_stop asked old new Listed why = absurd why

pub manifest_stops : (asked : AskedOf) (old mid new : DiskState) (manifest : List (List ℕ)) (e : LookErr) → manifest ≡ published_manifest_path asked → Rests old mid → HoldsNow old (λ t. first_file t [] asked.folder ≡ None)
    → ManifestKindCause mid new manifest e → KindCause old new (λ t. wrong_kind t asked) e
manifest_stops asked old mid new manifest OutOfMemory is rests files why = tt
manifest_stops asked old mid new manifest OutFault is rests files why = rose_since old.faults mid.faults new.faults rests.count why
manifest_stops asked old mid new manifest LimitPath is rests files why = absurd why
manifest_stops asked old mid new manifest (OutKind path) is rests files why =
    let at : path ≡ published_manifest_path asked = why.0 ∙ is in
    holds_two (λ t. first_file t [] asked.folder ≡ None) (λ t. is_folder (t manifest) ≡ true) (λ t. wrong_kind t asked ≡ Some path)
    (λ t none yes.
    ap (λ (x : Option (List (List ℕ))). first_of_paths x (folder_manifest t asked)) none
    ∙ cond-true (is_folder (t (published_manifest_path asked))) (Some (published_manifest_path asked)) None (ap (λ (p : List (List ℕ)). is_folder (t p)) (sym is) ∙ yes) ∙ ap Some (sym at))
    old.told files (holds_before (λ t. is_folder (t manifest) ≡ true) old mid rests why.1)
manifest_stops asked old mid new manifest LimitText is rests files why = absurd why
manifest_stops asked old mid new manifest (OutManifest line) is rests files why = absurd why
manifest_stops asked old mid new manifest Listed is rests files why = absurd why

-- the manifest that was found: what stands there, by what was found
file_text : (node : Option Node) (text : List ℕ) → found.File text ≡ found_of most_published_text node → text ≡ bytes_or_none (file_bytes node)
file_text None text is = absurd (cc is)
file_text (Some folder) text is = absurd (cc is)
file_text (Some (file bytes)) text is = by_size (nat_le (length bytes) most_published_text) is
  where
    by_size : (b : Bool) → found.File text ≡ cond b (found.File bytes) found.TooLong → text ≡ bytes
    by_size true same = cc
    by_size false same = absurd (cc same)

too_long : (node : Option Node) → found.TooLong ≡ found_of most_published_text node → most_published_text < length (bytes_or_none (file_bytes node))
too_long None is = absurd (cc is)
too_long (Some folder) is = absurd (cc is)
too_long (Some (file bytes)) is = by_size (nat_le (length bytes) most_published_text) refl is
  where
    by_size : (b : Bool) → nat_le (length bytes) most_published_text ≡ b → found.TooLong ≡ cond b (found.File bytes) found.TooLong → most_published_text < length bytes
    by_size true le same = absurd (cc same)
    by_size false le same = leb-false (length bytes) most_published_text le

is_a_folder : (node : Option Node) → found.Folder ≡ found_of most_published_text node → is_folder node ≡ true
is_a_folder None is = absurd (cc is)
is_a_folder (Some folder) is = refl
is_a_folder (Some (file bytes)) is = by_size (nat_le (length bytes) most_published_text) is
  where
    by_size : (b : Bool) → found.Folder ≡ cond b (found.File bytes) found.TooLong → is_folder (Some (file bytes)) ≡ true
    by_size true same = absurd (cc same)
    by_size false same = absurd (cc same)

pub text_short : (manifest : List (List ℕ)) (f : Found) (r : Result (List ℕ) LookErr) → ManifestFound manifest f r → IfOk r (λ text. length text ≤ most_published_text)
text_short manifest (found.File text) (Ok bytes) says = subst (λ (l : List ℕ). length l ≤ most_published_text) (sym says.0) says.1
text_short manifest (found.File text) (Err e) says = tt
text_short manifest found.Absent (Ok bytes) says = subst (λ (l : List ℕ). length l ≤ most_published_text) (sym says) (omega arith)
text_short manifest found.Absent (Err e) says = tt
text_short manifest found.TooLong (Ok bytes) says = absurd says
text_short manifest found.TooLong (Err e) says = tt
text_short manifest found.Folder (Ok bytes) says = absurd says
text_short manifest found.Folder (Err e) says = tt

-- why there is none
pub text_cause : (asked : AskedOf) (old new : DiskState) (f : Found) (r : Result (List ℕ) LookErr) → IsFoundAt old (published_manifest_path asked) most_published_text f
    → ManifestFound (published_manifest_path asked) f r → IfErr r (OldCause old new asked)
text_cause asked old new (found.File text) (Ok bytes) at says = tt
text_cause asked old new (found.File text) (Err e) at says =
    subst (OldCause old new asked) (sym says.0)
    (holds_weaker (λ t. found.File text ≡ found_of most_published_text (t (published_manifest_path asked))) (λ t. most_published_text < length (manifest_bytes t asked)) (λ t. Unit {0})
    (λ t is. subst (λ (l : List ℕ). most_published_text < length l) (file_text (t (published_manifest_path asked)) text is) says.1) old.told at)
text_cause asked old new found.Absent (Ok bytes) at says = tt
text_cause asked old new found.Absent (Err e) at says = absurd says
text_cause asked old new found.TooLong (Ok bytes) at says = tt
text_cause asked old new found.TooLong (Err e) at says =
    subst (OldCause old new asked) (sym says)
    (holds_weaker (λ t. found.TooLong ≡ found_of most_published_text (t (published_manifest_path asked))) (λ t. most_published_text < length (manifest_bytes t asked)) (λ t. Unit {0})
    (λ t is. too_long (t (published_manifest_path asked)) is) old.told at)
text_cause asked old new found.Folder (Ok bytes) at says = tt
text_cause asked old new found.Folder (Err e) at (inl same) = subst (OldCause old new asked) (sym same) tt
text_cause asked old new found.Folder (Err e) at (inr same) =
    subst (OldCause old new asked) (sym same)
    (holds_weaker (λ t. found.Folder ≡ found_of most_published_text (t (published_manifest_path asked)))
    (λ t. (published_manifest_path asked ≡ published_manifest_path asked) × (is_folder (t (published_manifest_path asked)) ≡ true)) (λ t. Unit {0})
    (λ t is. (refl, is_a_folder (t (published_manifest_path asked)) is)) old.told at)
