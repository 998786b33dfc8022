-- The moves of a change: the conditions of each, and what it syncs.
use Rattle.std.proofs.Common.{◌≡◌, ◌⊎◌, ℕ, ◌+◌, ◌/◌, ◌%◌, ◌<◌, ◌≤◌, Bool, true, false, List, [], ◌∷◌, ◌++◌, drop, Option, Some, None, IfSome, refl, sym, ap, ◌∙◌, subst, inl, inr, arith}
use Rattle.std.proofs.lemmas.Bool.{false≢true, cases_lt}
use Rattle.ext_lines.specs.Hexadecimal.{five_digits, hex_digit}
use Rattle.ext_text.specs.Path.{is_prefix}
use Rattle.ext_disk.specs.Disk.{Node, folder, file, Place, Places, Told, DiskState, BothTold, IsDisk, is_folder, is_synced}
use Rattle.ext_disk.specs.Calls.{IsFree}
use Rattle.ext_disk.specs.Fixed.{Spares, IsUnchangedAt, Stays}
use Rattle.ext_store_files.specs.Names.{home_folder, home_path}
use Rattle.ext_store_files.specs.Writing.{is_at, nowhere, Holds, IsWritten, SyncsIn, Works, WorksTold}
use Rattle.ext_store_files.proofs.ForCallers.{holds_map, holds_both, holds_then, works_itself, works_then, works_wider}
use Rattle.ext_gen.specs.PreparingStages.{AreSynced, AreSyncedIn, HasHomeFolders, IsAbsent, IsFolderAt, IsPutSynced}

folder_of : (node : Option Node) → is_folder node ≡ true → node ≡ Some folder
folder_of None is = absurd (false≢true is)
folder_of (Some folder) is = refl
folder_of (Some (file bytes)) is = absurd (false≢true is)

-- something may be made in a folder where nothing stands
pub free_in : (dir : List (List ℕ)) (name : List ℕ) (p : List (List ℕ)) → p ≡ dir ++ name ∷ [] → (x : Option Told)
    → IfSome x (λ d. IsFolderAt dir d.places) → IfSome x (λ d. IsAbsent (dir ++ name ∷ []) d.places) → IfSome x (λ d. IsFree d.places p)
free_in dir name p is None there none = tt
free_in dir name p is (Some d) there none = record {
  dir = dir;
  name = name;
  path_is = is;
  dir_there = folder_of (d.places dir).node there;
  path_absent = subst (λ q. IsAbsent q d.places) (sym is) none;
}

-- the root of a disk is a folder
pub root_folder : (x : Option Told) → IfSome x IsDisk → IfSome x (λ d. IsFolderAt [] d.places)
root_folder None disk = tt
root_folder (Some d) disk = ap (λ (place : Place). is_folder place.node) disk.tree.root

-- what stands elsewhere than where it works is as before
pub works_keep_folder : (reach at : List (List ℕ) → Bool) (most : ℕ) (dir : List (List ℕ)) (old new : DiskState) → at dir ≡ false → Works reach at most old new
    → Holds (IsFolderAt dir) old → Holds (IsFolderAt dir) new
works_keep_folder reach at most dir old new out works there =
    holds_then (IsFolderAt dir) (IsFolderAt dir) (WorksTold at most) (λ d e is told. ap is_folder (told.now dir out) ∙ is) old.told new.told there works.told

-- a weaker fact on what is told
pub told_fact : (P : Places → Type 0) (R : Told → Told → Type 0) → ((d e : Told) → R d e → P e.places) → (x y : Option Told) → BothTold R x y → IfSome y (λ e. P e.places)
told_fact P R gives None None both = tt
told_fact P R gives None (Some e) both = absurd both
told_fact P R gives (Some d) None both = absurd both
told_fact P R gives (Some d) (Some e) both = gives d e both

-- what holds of a disk and is moved by what each path out of reach keeps holds of the disk that spares them
pub stays_holds : (reach : List (List ℕ) → Bool) (P Q : Places → Type 0) (old new : DiskState)
    → ((d e : Places) → ((p : List (List ℕ)) → reach p ≡ false → Stays d e p) → P d → Q e) → Spares reach old new → Holds P old → Holds Q new
stays_holds reach P Q old new gives spares is =
    holds_then P Q (λ d e. (p : List (List ℕ)) → reach p ≡ false → IsUnchangedAt d e p) (λ d e was unchanged. gives d.places e.places (λ p out. (unchanged p out).stays) was) old.told new.told is spares.told

pub still_written : (path : List (List ℕ)) (bytes : List ℕ) (d e : Places) → Stays d e path → IsWritten path bytes d → IsWritten path bytes e
still_written path bytes d e stays is = record { node = stays.node ∙ is.node; hard = stays.hard is.hard }

pub put_after : (dir path : List (List ℕ)) (bytes : List ℕ) (mid new : DiskState) → Holds (IsWritten path bytes) mid → Works nowhere nowhere 0 mid new
    → BothTold (SyncsIn dir) mid.told new.told → Holds (IsPutSynced dir path bytes) new
put_after dir path bytes mid new written works syncs =
    holds_both (IsWritten path bytes) (AreSyncedIn dir) (IsPutSynced dir path bytes) (λ d is names. record { written = is; names = names }) new.told
    (stays_holds nowhere (IsWritten path bytes) (IsWritten path bytes) mid new (λ d e stays is. still_written path bytes d e (stays path refl) is) works.spares written)
    (told_fact (AreSyncedIn dir) (SyncsIn dir) (λ d e told. told.names) mid.told new.told syncs)

-- writing, and then syncing
pub works_synced : (p : List (List ℕ)) (most : ℕ) (r s t : DiskState) → Works (is_prefix p) (is_at p) most r s → Works nowhere nowhere 0 s t → Works (is_prefix p) (is_at p) most r t
works_synced p most r s t one two =
    works_then (is_prefix p) (is_at p) most 0 most r s t (omega arith) one
    (works_wider nowhere (is_prefix p) nowhere (is_at p) 0 0 s t (omega arith) (λ q out. refl) (λ q out. refl) two)

-- nothing was done
pub works_nothing : (p : List (List ℕ)) (most : ℕ) (s : DiskState) → Works (is_prefix p) (is_at p) most s s
works_nothing p most s =
    works_wider (is_prefix p) (is_prefix p) (is_at p) (is_at p) 0 most s s (omega arith) (λ q out. out) (λ q out. out) (works_itself (is_prefix p) (is_at p) s)

-- so many files of a generation have one folder
same_folder : (n j k : ℕ) → j % 256 ≡ 0 → j ≤ k → k < j + 256 → home_folder n k ≡ home_folder n j
same_folder n j k first from upto =
    let a : k / 65536 ≡ j / 65536 = omega arith in
    let b : k / 4096 % 16 ≡ j / 4096 % 16 = omega arith in
    let c : k / 256 % 16 ≡ j / 256 % 16 = omega arith in
    λ i. Rattle.ext_store_files.specs.Names.generation_name n ∷ (hex_digit (a i) ∷ hex_digit (b i) ∷ hex_digit (c i) ∷ []) ∷ []

one_synced : (n j k : ℕ) (e : Places) → j % 256 ≡ 0 → j ≤ k → k < j + 256 → AreSyncedIn (home_folder n j) e → is_synced (e (home_path n k)) ≡ true
one_synced n j k e first from upto names =
    ap (λ dir. is_synced (e (dir ++ drop 3 (five_digits k) ∷ []))) (same_folder n j k first from upto) ∙ names (drop 3 (five_digits k))

some_synced : (n j k : ℕ) (d e : Places) → ((p : List (List ℕ)) → Stays d e p) → AreSynced n j d → j % 256 ≡ 0 → AreSyncedIn (home_folder n j) e → k < j + 256
    → (k < j) ⊎ (j ≤ k) → is_synced (e (home_path n k)) ≡ true
some_synced n j k d e stays are first names upto (inl before) = (stays (home_path n k)).synced (are k before)
some_synced n j k d e stays are first names upto (inr from) = one_synced n j k e first from upto names

-- the names of so many files more are synced
pub synced_more : (n j : ℕ) (mid new : DiskState) → j % 256 ≡ 0 → Holds (AreSynced n j) mid → Works nowhere nowhere 0 mid new → BothTold (SyncsIn (home_folder n j)) mid.told new.told
    → Holds (AreSynced n (j + 256)) new
synced_more n j mid new first are works syncs =
    holds_both (AreSyncedIn (home_folder n j)) (λ e. (f : AreSyncedIn (home_folder n j) e) → AreSynced n (j + 256) e) (AreSynced n (j + 256)) (λ e names gives. gives names) new.told
    (told_fact (AreSyncedIn (home_folder n j)) (SyncsIn (home_folder n j)) (λ d e told. told.names) mid.told new.told syncs)
    (stays_holds nowhere (AreSynced n j) (λ e. AreSyncedIn (home_folder n j) e → AreSynced n (j + 256) e) mid new
    (λ d e stays was names k upto. some_synced n j k d e (λ p. stays p refl) was first names upto (cases_lt k j)) works.spares are)

-- of fewer files, the first
pub fewer_synced : (n less more : ℕ) (s : DiskState) → less ≤ more → Holds (AreSynced n more) s → Holds (AreSynced n less) s
fewer_synced n less more s fits are = holds_map (AreSynced n more) (AreSynced n less) (λ d is k below. is k (omega arith)) s.told are

pub none_synced : (n : ℕ) (x : Option Told) → IfSome x (λ d. AreSynced n 0 d.places)
none_synced n None = tt
none_synced n (Some d) = λ k below. absurd (omega (arith, below))

-- the folders of the files stand after a syncing as before
pub folders_stand : (n files : ℕ) (old new : DiskState) → Works nowhere nowhere 0 old new → Holds (HasHomeFolders n files) old → Holds (HasHomeFolders n files) new
folders_stand n files old new works are =
    holds_then (HasHomeFolders n files) (HasHomeFolders n files) (WorksTold nowhere 0) (λ d e is told k below. ap is_folder (told.now (home_folder n k) refl) ∙ is k below) old.told new.told are works.told

pub one_folder : (n files j : ℕ) (x : Option Told) → j < files → IfSome x (λ d. HasHomeFolders n files d.places) → IfSome x (λ d. IsFolderAt (home_folder n j) d.places)
one_folder n files j None below are = tt
one_folder n files j (Some d) below are = are j below

pub works_nowhere_then : (r s t : DiskState) → Works nowhere nowhere 0 r s → Works nowhere nowhere 0 s t → Works nowhere nowhere 0 r t
works_nowhere_then r s t one two = works_then nowhere nowhere 0 0 0 r s t (omega arith) one two
