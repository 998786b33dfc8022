-- What is published, written and synced: first the tree text, then the files, then the folders that have them.
use Rattle.std.proofs.Common.{◌≡◌, ◌≢◌, ℕ, ◌≤◌, Bool, true, false, ◌||◌, List, [], ◌∷◌, ◌++◌, length, IfSome, Result, Ok, Err, refl, sym, ap, ◌∙◌, subst, arith, length-append}
use Rattle.std.specs.Prelude.{codes, OnOk}
use Rattle.std.proofs.lemmas.Bool.{false≢true, or_left, or_right}
use Rattle.ext_text.specs.Path.{is_prefix}
use Rattle.ext_text.proofs.ForCallers.{prefix_self, same_path}
use Rattle.ext_disk.specs.Disk.{Told, DiskState, BothTold, is_file}
use Rattle.ext_disk.specs.Calls.{IsFree, MayCall, make_file}
use Rattle.ext_disk.specs.Fixed.{IsUnchangedAt, Spares}
use Rattle.ext_disk.proofs.ForCallers.{spares_wider}
use Rattle.ext_tree.specs.Tree.{Entries}
use Rattle.ext_host.specs.Held.{HeldFile}
use Rattle.ext_store_files.specs.HeldFiles.{body_told}
use Rattle.ext_store_files.specs.Writing.{Holds, IsWritten, Works, is_at, nowhere}
use Rattle.ext_store_files.proofs.ForCallers.{rose_since}
use Rattle.ext_gen.specs.declared.bad_store.BadStore.TheVariants as bad_stores
use Rattle.ext_published.specs.Asked.{AskedOf}
use Rattle.ext_published.specs.Names.{coming_manifest_name, tree_text_name}
use Rattle.ext_published.specs.Places.{published_resource_path, tree_text_path}
use Rattle.ext_published.specs.Published.{published_text}
use Rattle.ext_published.specs.declared.payload.Payload.{Payload}
use Rattle.ext_published.specs.declared.payload.Payload.TheVariants.{Directory, File}
use Rattle.ext_publish.specs.Out.{is_left_at}
use Rattle.ext_publish.specs.Copying.{OnlyChangesAt, HeldCause, IsCopyOf, WorksAt}
use Rattle.ext_publish.specs.Filling.{AreNamed, EndsFilled, FilesCause, HasFilesOf, IsFilledWith, IsFilling, IsOpenFor, is_filled_at}
use Rattle.ext_publish.specs.Stopping.{OutCause}
use Rattle.ext_publish.specs.declared.stop.Stop.{Stop}
use Rattle.ext_publish.specs.declared.stop.Stop.TheVariants as stops
use Rattle.ext_publish.proofs.FilesLemmas.{filling_first}
use Rattle.ext_publish.proofs.FillingLemmas.{filled_told}
use Rattle.ext_publish.proofs.PrefixLemmas.{above_child, names_apart}
use Rattle.ext_publish.proofs.TwoDisks.{if_map, if_two, told_second}

-- a name is not that of its tree text, which is longer
text_apart : (name : List ℕ) → name ≢ tree_text_name name
text_apart name same = absurd (omega (arith, ap length same, length-append name (codes ".tree")))

-- the tree text does not stand at or below the resource, nor at the folder
text_out : (asked : AskedOf) → is_prefix (published_resource_path asked) (tree_text_path asked) ≡ false
text_out asked = names_apart asked.folder asked.name (tree_text_name asked.name) [] (text_apart asked.name)

below_apart : (asked : AskedOf) (p : List (List ℕ)) → is_prefix (published_resource_path asked) p ≡ true → is_at (tree_text_path asked) p ≡ false
below_apart asked p below = none (is_at (tree_text_path asked) p) refl
  where
    none : (b : Bool) → is_at (tree_text_path asked) p ≡ b → is_at (tree_text_path asked) p ≡ false
    none false is = is
    none true tied = absurd (false≢true (sym (text_out asked) ∙ subst (λ q. is_prefix (published_resource_path asked) q ≡ true) (sym (same_path (tree_text_path asked) p tied)) below))

folder_apart : (asked : AskedOf) → is_at (tree_text_path asked) asked.folder ≡ false
folder_apart asked = above_child asked.folder (tree_text_name asked.name) asked.folder (prefix_self asked.folder)

-- what is at or below either is cleared
text_left : (asked : AskedOf) (p : List (List ℕ)) → is_prefix (tree_text_path asked) p ≡ true → is_left_at asked p ≡ true
text_left asked p below = or_right (is_prefix (asked.folder ++ coming_manifest_name ∷ []) p) _ (or_left (is_prefix (tree_text_path asked) p) _ below)

resource_left : (asked : AskedOf) (p : List (List ℕ)) → is_prefix (published_resource_path asked) p ≡ true → is_left_at asked p ≡ true
resource_left asked p below =
    or_right (is_prefix (asked.folder ++ coming_manifest_name ∷ []) p) _ (or_right (is_prefix (tree_text_path asked) p) _ (or_left (is_prefix (published_resource_path asked) p) false below))

-- the tree text may be made, and the file that is published
pub may_make_text : (asked : AskedOf) (path : List (List ℕ)) (s : DiskState) → path ≡ tree_text_path asked → IfSome s.told (λ d. IsOpenFor asked d.places) → MayCall (make_file path) s
may_make_text asked path s path_is open_ =
    subst (λ q. MayCall (make_file q) s) (sym path_is)
    (if_map (λ d. IsOpenFor asked d.places) (λ d. IsFree d.places (tree_text_path asked))
    (λ d is. record {
      dir = asked.folder;
      name = tree_text_name asked.name;
      path_is = refl;
      dir_there = is.folder;
      path_absent = is.clear (tree_text_path asked) (text_left asked (tree_text_path asked) (prefix_self (tree_text_path asked)));
    }) s.told open_)

pub may_make_resource : (asked : AskedOf) (path : List (List ℕ)) (s : DiskState) → path ≡ published_resource_path asked → IfSome s.told (λ d. IsOpenFor asked d.places) → MayCall (make_file path) s
may_make_resource asked path s path_is open_ =
    subst (λ q. MayCall (make_file q) s) (sym path_is)
    (if_map (λ d. IsOpenFor asked d.places) (λ d. IsFree d.places (published_resource_path asked))
    (λ d is. record {
      dir = asked.folder;
      name = asked.name;
      path_is = refl;
      dir_there = is.folder;
      path_absent = is.clear (published_resource_path asked) (resource_left asked (published_resource_path asked) (prefix_self (published_resource_path asked)));
    }) s.told open_)

-- after the tree text was written nothing stands below the resource
pub filling_begins : (asked : AskedOf) (store old mid : DiskState) (dir text resource : List (List ℕ)) (tree : Entries HeldFile) → dir ≡ asked.folder → text ≡ tree_text_path asked → resource ≡ published_resource_path asked
    → IfSome old.told (λ d. IsOpenFor asked d.places) → WorksAt text old mid → Holds (IsFilling store dir resource tree []) mid
filling_begins asked store old mid dir text resource tree dir_is text_is resource_is open_ works =
    subst (λ q. Holds (IsFilling store q resource tree []) mid) (sym dir_is) (subst (λ q. Holds (IsFilling store asked.folder q tree []) mid) (sym resource_is)
    (told_second (λ d. IsOpenFor asked d.places) (λ e. IsFilling store asked.folder (published_resource_path asked) tree [] e.places) (OnlyChangesAt (is_at (tree_text_path asked)))
    (λ d e is changes. filling_first store asked.folder (published_resource_path asked) tree e.places
    (changes asked.folder (folder_apart asked) ∙ is.folder)
    (λ p below. changes p (below_apart asked p below) ∙ is.clear p (resource_left asked p below))) old.told mid.told open_ (subst (λ q. BothTold (OnlyChangesAt (is_at q)) old.told mid.told) text_is works.told)))

-- all files of a directory that is written stand
pub has_files : (store : DiskState) (dir resource : List (List ℕ)) (tree : Entries HeldFile) (s : DiskState) → Holds (IsFilling store dir resource tree tree) s → IfSome s.told (λ d. HasFilesOf tree resource d.places)
has_files store dir resource tree s filling =
    if_map (λ d. IsFilling store dir resource tree tree d.places) (λ d. HasFilesOf tree resource d.places) (λ d fills path held has. ap is_file (fills.files path held has).3.node) s.told filling

-- what is not touched stays as it was written
written_stays : (path : List (List ℕ)) (bytes : List ℕ) (d e : Told) → IsWritten path bytes d.places → IsUnchangedAt d e path → IsWritten path bytes e.places
written_stays path bytes d e written unchanged = record { node = unchanged.stays.node ∙ written.node; hard = unchanged.stays.hard written.hard }

filling_stays : (store : DiskState) (dir resource : List (List ℕ)) (tree es : Entries HeldFile) (d e : Told) → IsFilling store dir resource tree es d.places → ((p : List (List ℕ)) → IsUnchangedAt d e p) → IsFilling store dir resource tree es e.places
filling_stays store dir resource tree es d e filling unchanged = record {
  base = (unchanged dir).stays.node ∙ filling.base;
  files = λ path held has.
      let was = filling.files path held has in
      let stay = (unchanged (resource ++ path)).stays in
      (was.0, was.1, was.2, record { node = stay.node ∙ was.3.node; hard = stay.hard was.3.hard });
  only = λ path is. filling.only path (ap is_file (sym (unchanged (resource ++ path)).stays.node) ∙ is);
  folders = λ path is. filling.folders path (sym (unchanged (resource ++ path)).stays.node ∙ is);
  calm = λ path is.
      let was = filling.calm path (sym (unchanged (resource ++ path)).stays.node ∙ is) in
      let stay = (unchanged (resource ++ path)).stays in
      record { synced = stay.synced was.synced; hard = stay.hard was.hard };
}

-- the file that is published was copied
pub filled_file : (T : Type 0) (result : Result T Stop) (asked : AskedOf) (store new : DiskState) (held : HeldFile) (path : List (List ℕ)) → path ≡ published_resource_path asked → OnOk result (IsCopyOf (body_told store held.body) held.stamp path new)
    → EndsFilled result store asked (File held) new
filled_file T (Err stop) asked store new held path path_is copied = tt
filled_file T (Ok x) asked store new held path path_is copied = subst (λ q. IfSome new.told (λ e. IsFilledWith store held q e.places)) path_is (filled_told store held path new copied)

-- the files and the tree text of the directory that is published were written, and the folders synced
pub filled_tree : (T : Type 0) (result : Result T Stop) (asked : AskedOf) (store first mid new : DiskState) (dir text resource : List (List ℕ)) (tree : Entries HeldFile) → dir ≡ asked.folder → text ≡ tree_text_path asked → resource ≡ published_resource_path asked
    → Holds (IsWritten text (published_text tree)) first → Spares (is_prefix resource) first mid → Holds (IsFilling store dir resource tree tree) mid → Works nowhere nowhere 0 mid new → OnOk result (Holds (AreNamed resource tree) new)
    → EndsFilled result store asked (Directory tree) new
filled_tree T (Err stop) asked store first mid new dir text resource tree dir_is text_is resource_is written spares filling works named = tt
filled_tree T (Ok x) asked store first mid new dir text resource tree dir_is text_is resource_is written spares filling works named =
    let Text : Told → Type 0 = λ e. IsWritten (tree_text_path asked) (published_text tree) e.places in
    let Files : Told → Type 0 = λ e. IsFilling store asked.folder (published_resource_path asked) tree tree e.places in
    let Names : Told → Type 0 = λ e. AreNamed (published_resource_path asked) tree e.places in
    let first_text : IfSome first.told Text = subst (λ q. IfSome first.told (λ e. IsWritten q (published_text tree) e.places)) text_is written in
    let mid_text : IfSome mid.told Text =
    told_second Text Text (λ d e. (p : List (List ℕ)) → is_prefix (published_resource_path asked) p ≡ false → IsUnchangedAt d e p)
    (λ d e is unchanged. written_stays (tree_text_path asked) (published_text tree) d e is (unchanged (tree_text_path asked) (text_out asked))) first.told mid.told first_text
    (subst (λ q. BothTold (λ d e. (p : List (List ℕ)) → is_prefix q p ≡ false → IsUnchangedAt d e p) first.told mid.told) resource_is spares.told) in
    let mid_files : IfSome mid.told Files =
    subst (λ q. IfSome mid.told (λ e. IsFilling store asked.folder q tree tree e.places)) resource_is (subst (λ q. IfSome mid.told (λ e. IsFilling store q resource tree tree e.places)) dir_is filling) in
    let Unchanged : Told → Told → Type 0 = λ d e. (p : List (List ℕ)) → nowhere p ≡ false → IsUnchangedAt d e p in
    let new_text : IfSome new.told Text =
    told_second Text Text Unchanged (λ d e is unchanged. written_stays (tree_text_path asked) (published_text tree) d e is (unchanged (tree_text_path asked) refl)) mid.told new.told mid_text works.spares.told in
    let new_files : IfSome new.told Files =
    told_second Files Files Unchanged (λ d e is unchanged. filling_stays store asked.folder (published_resource_path asked) tree tree d e is (λ p. unchanged p refl)) mid.told new.told mid_files works.spares.told in
    let new_names : IfSome new.told Names = subst (λ q. IfSome new.told (λ e. AreNamed q tree e.places)) resource_is named in
    if_two (λ e. Text e × Files e) Names (λ e. Text e × Files e × Names e) (λ e both names. (both.0, both.1, names)) new.told (if_two Text Files (λ e. Text e × Files e) (λ e text files. (text, files)) new.told new_text new_files) new_names

-- where it stopped nothing is said
pub ends_stopped : (T : Type 0) (stop : Stop) (store : DiskState) (asked : AskedOf) (payload : Payload) (new : DiskState) → EndsFilled {T = T} (Err stop) store asked payload new
ends_stopped T stop store asked payload new = tt

-- what is touched lies at or below the tree text or the resource
out_text : (asked : AskedOf) (p : List (List ℕ)) → is_filled_at asked p ≡ false → is_prefix (tree_text_path asked) p ≡ false
out_text asked p out = side (is_prefix (tree_text_path asked) p) out
  where
    side : (b : Bool) → (b || is_prefix (published_resource_path asked) p) ≡ false → b ≡ false
    side false out = refl
    side true out = absurd (false≢true (sym out))

out_resource : (asked : AskedOf) (p : List (List ℕ)) → is_filled_at asked p ≡ false → is_prefix (published_resource_path asked) p ≡ false
out_resource asked p out = side (is_prefix (tree_text_path asked) p) out
  where
    side : (b : Bool) → (b || is_prefix (published_resource_path asked) p) ≡ false → is_prefix (published_resource_path asked) p ≡ false
    side false out = out
    side true out = absurd (false≢true (sym out))

pub text_spares : (asked : AskedOf) (path : List (List ℕ)) (old new : DiskState) → path ≡ tree_text_path asked → Spares (is_prefix path) old new → Spares (is_filled_at asked) old new
text_spares asked path old new path_is spares = spares_wider (is_prefix (tree_text_path asked)) (is_filled_at asked) old new (out_text asked) (subst (λ q. Spares (is_prefix q) old new) path_is spares)

pub resource_spares : (asked : AskedOf) (path : List (List ℕ)) (old new : DiskState) → path ≡ published_resource_path asked → Spares (is_prefix path) old new → Spares (is_filled_at asked) old new
resource_spares asked path old new path_is spares = spares_wider (is_prefix (published_resource_path asked)) (is_filled_at asked) old new (out_resource asked) (subst (λ q. Spares (is_prefix q) old new) path_is spares)

pub nowhere_spares : (asked : AskedOf) (old new : DiskState) → Spares nowhere old new → Spares (is_filled_at asked) old new
nowhere_spares asked old new spares = spares_wider nowhere (is_filled_at asked) old new (λ p out. refl) spares

-- why work in the depot's folder stopped, as why what is published was not written
pub fill_cause_out : (payload : Payload) (store after old mid new : DiskState) (stop : Stop) → old.faults ≤ mid.faults → OutCause mid new stop → FilesCause payload store after old new stop
fill_cause_out payload store after old mid new stops.OutOfMemory count cause = tt
fill_cause_out payload store after old mid new (stops.Refused refusal) count cause = cause
fill_cause_out payload store after old mid new stops.DiskFault count cause = absurd cause
fill_cause_out payload store after old mid new stops.OutFault count cause = rose_since old.faults mid.faults new.faults count cause
fill_cause_out payload store after old mid new (stops.BadStore why) count cause = absurd cause
fill_cause_out payload store after old mid new stops.Unfinished count cause = cause

-- why a file was not written, since an earlier time
pub fill_cause_since : (payload : Payload) (store after old mid new : DiskState) (stop : Stop) → old.faults ≤ mid.faults → FilesCause payload store after mid new stop → FilesCause payload store after old new stop
fill_cause_since payload store after old mid new stops.OutOfMemory count cause = tt
fill_cause_since payload store after old mid new (stops.Refused refusal) count cause = cause
fill_cause_since payload store after old mid new stops.DiskFault count cause = cause
fill_cause_since payload store after old mid new stops.OutFault count cause = rose_since old.faults mid.faults new.faults count cause
fill_cause_since payload store after old mid new (stops.BadStore (bad_stores.Broken line)) count cause = cause
fill_cause_since payload store after old mid new (stops.BadStore (bad_stores.Damaged damage)) count cause = cause
fill_cause_since payload store after old mid new stops.Unfinished count cause = cause

-- and why the file that is published was not copied
pub fill_cause_file : (held : HeldFile) (store after old new : DiskState) (stop : Stop) → HeldCause held store after old new stop → FilesCause (File held) store after old new stop
fill_cause_file held store after old new stops.OutOfMemory cause = tt
fill_cause_file held store after old new (stops.Refused refusal) cause = cause
fill_cause_file held store after old new stops.DiskFault cause = cause
fill_cause_file held store after old new stops.OutFault cause = cause
fill_cause_file held store after old new (stops.BadStore (bad_stores.Broken line)) cause = cause
fill_cause_file held store after old new (stops.BadStore (bad_stores.Damaged damage)) cause = (held, refl, cause.0, cause.1)
fill_cause_file held store after old new stops.Unfinished cause = cause
