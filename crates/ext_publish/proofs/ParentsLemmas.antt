-- The folders that have the files of a directory, synced one after the other.
use Rattle.std.proofs.Common.{◌≡◌, ◌≢◌, ◌⊎◌, ℕ, ◌+◌, ◌<◌, true, false, List, [], ◌∷◌, ◌++◌, length, take, get_or, Option, Some, None, IfSome, Result, Ok, Err, refl, sym, ap, ◌∙◌, subst, inl, inr, append_assoc}
use Rattle.std.specs.Prelude.{OnOk}
use Rattle.std.proofs.lemmas.Bool.{false≢true, or_left}
use Rattle.std.proofs.lemmas.Option.{none-some}
use Rattle.std.specs.Option.{is_some}
use Rattle.std.specs.Result.{is_ok}
use Rattle.ext_attributes.specs.Attributes.{OfFile}
use Rattle.ext_text.specs.Path.{parent}
use Rattle.ext_disk.specs.Disk.{Node, Place, Places, Told, DiskState, BothTold, IsDisk, is_file, is_folder, is_synced, is_taken}
use Rattle.ext_disk.specs.Calls.{Does, MayCall, sync_dir}
use Rattle.ext_disk.specs.Fixed.{IsUnchangedAt}
use Rattle.ext_tree.specs.Tree.{Entries, IsTree as IsEntryTree, lookup}
use Rattle.ext_tree.specs.declared.entry.Entry.{Entry}
use Rattle.ext_tree.specs.declared.entry.Entry.TheVariants as entries
use Rattle.ext_tree.proofs.ForCallers.{parent_append}
use Rattle.ext_host.specs.Held.{HeldFile}
use Rattle.ext_store_files.specs.Writing.{SyncsIn, Works, WorksTold, nowhere}
use Rattle.ext_store_files.proofs.ForCallers.{told_map, folder_synced}
use Rattle.ext_published.specs.Payload.{HasHeldFileAt}
use Rattle.ext_publish.specs.Filling.{AreNamed, HasFilesOf, StaySynced, held_of}
use Rattle.ext_publish.specs.declared.stop.Stop.{Stop}
use Rattle.ext_publish.proofs.EntriesLemmas.{found_there, has_split, stands_there}
use Rattle.ext_publish.proofs.FilesLemmas.{held_is}
use Rattle.ext_publish.proofs.FillingLemmas.{last_of}
use Rattle.ext_publish.proofs.TwoDisks.{if_map, if_two, told_second}

-- the last name of a path below another one
pub last_below : (a below : List (List ℕ)) → below ≢ [] → (k : List ℕ) × (a ++ below ≡ parent (a ++ below) ++ k ∷ [])
last_below a [] some = absurd (some refl)
last_below a (n ∷ q) some =
    let last = last_of n q in
    (last.0, ap (λ r. a ++ r) last.1 ∙ sym (append_assoc a (parent (n ∷ q)) (last.0 ∷ [])) ∙ ap (λ r. r ++ last.0 ∷ []) (sym (parent_append a n q)))

some_file : (o : Option Node) → is_file o ≡ true → is_some o ≡ true
some_file None is = absurd (false≢true is)
some_file (Some node) is = refl

taken : (x : Place) → is_file x.node ≡ true → is_taken x ≡ true
taken x is = or_left (is_some x.node) (is_some x.unsynced_rename) (some_file x.node is)

-- the folder that has a file may be synced
pub may_sync_parent : (path dir : List (List ℕ)) (s : DiskState) → (k : List ℕ) × (path ≡ parent path ++ k ∷ []) → dir ≡ parent path → IfSome s.told (λ d. is_file (d.places path).node ≡ true) → IfSome s.told IsDisk → MayCall (sync_dir dir) s
may_sync_parent path dir s last dir_is stands disk =
    subst (λ q. MayCall (sync_dir q) s) (sym dir_is)
    (if_two (λ d. is_file (d.places path).node ≡ true) IsDisk (λ d. is_folder (d.places (parent path)).node ≡ true)
    (λ d is disk. ap is_folder (disk.tree.parents (parent path) last.0 (taken (d.places (parent path ++ last.0 ∷ [])) (ap (λ q. is_file (d.places q).node) (sym last.1) ∙ is)))) s.told stands disk)

second_of : (R : Told → Told → Type 0) (Q : Told → Type 0) → ((d e : Told) → R d e → Q e) → (x y : Option Told) → BothTold R x y → IfSome y Q
second_of R Q gives None None both = tt
second_of R Q gives None (Some e) both = absurd both
second_of R Q gives (Some d) None both = absurd both
second_of R Q gives (Some d) (Some e) both = gives d e both

-- and then the file's name is synced
pub named_by_sync : (T : Type 0) (result : Result T Stop) (path dir : List (List ℕ)) (old new : DiskState) → (k : List ℕ) × (path ≡ parent path ++ k ∷ []) → dir ≡ parent path → Does (sync_dir dir) old new (is_ok result)
    → OnOk result (IfSome new.told (λ e. is_synced (e.places path) ≡ true))
named_by_sync T (Err stop) path dir old new last dir_is does = tt
named_by_sync T (Ok x) path dir old new last dir_is does =
    second_of (SyncsIn dir) (λ e. is_synced (e.places path) ≡ true) (λ d e syncs. ap (λ q. is_synced (e.places q)) (last.1 ∙ ap (λ r. r ++ last.0 ∷ []) (sym dir_is)) ∙ syncs.names last.0) old.told new.told
    (folder_synced dir old.told new.told does.told)

-- work that only syncs leaves what is synced so
pub stay_synced : (old new : DiskState) → Works nowhere nowhere 0 old new → BothTold StaySynced old.told new.told
stay_synced old new works =
    told_map (λ d e. (p : List (List ℕ)) → nowhere p ≡ false → IsUnchangedAt d e p) StaySynced (λ d e unchanged p is. (unchanged p refl).stays.synced is) old.told new.told works.spares.told

-- the entry at an index is not the root
pub entry_below : (tree : Entries HeldFile) (i : ℕ) (x : List (List ℕ) × Entry HeldFile) → IsEntryTree tree → i < length tree → x ≡ get_or tree i x → x.0 ≢ []
entry_below tree i x is_tree inside item same = none-some x.1 (sym is_tree.root ∙ ap (lookup tree) (sym same) ∙ found_there tree i x is_tree inside item)

-- and stands in the depot, where it is a file
pub entry_stands : (tree : Entries HeldFile) (resource : List (List ℕ)) (i : ℕ) (x : List (List ℕ) × Entry HeldFile) (old mid : DiskState) → IsEntryTree tree → i < length tree → x ≡ get_or tree i x → IfSome old.told (λ d. HasFilesOf tree resource d.places)
    → Works nowhere nowhere 0 old mid → (o : Option HeldFile) → held_of x.1 ≡ o → IfSome o (λ held. IfSome mid.told (λ d. is_file (d.places (resource ++ x.0)).node ≡ true))
entry_stands tree resource i x old mid is_tree inside item has works None is = tt
entry_stands tree resource i x old mid is_tree inside item has works (Some held) is =
    let one = held_is x.1 held is in
    told_second (λ d. HasFilesOf tree resource d.places) (λ e. is_file (e.places (resource ++ x.0)).node ≡ true) (WorksTold nowhere 0)
    (λ d e has told. ap is_file (told.now (resource ++ x.0) refl) ∙ has x.0 held (stands_there tree i x one.0 held is_tree inside item one.1)) old.told mid.told has works.told

module _ (tree : Entries HeldFile) (resource : List (List ℕ)) (i : ℕ) (x : List (List ℕ) × Entry HeldFile) (inside : i < length tree) (item : x ≡ get_or tree i x) where
  named_file : (e : Places) → AreNamed resource (take i tree) e → is_synced (e (resource ++ x.0)) ≡ true → AreNamed resource (take (i + 1) tree) e
  named_file e named here path held has = side (has_split tree i x path held inside item has)
    where
      side : HasHeldFileAt (take i tree) path held ⊎ ((path ≡ x.0) × ((attributes : OfFile) × (x.1 ≡ entries.File attributes held))) → is_synced (e (resource ++ path)) ≡ true
      side (inl before) = named path held before
      side (inr now) = ap (λ q. is_synced (e (resource ++ q))) now.0 ∙ here

  named_other : (e : Places) → held_of x.1 ≡ None → AreNamed resource (take i tree) e → AreNamed resource (take (i + 1) tree) e
  named_other e none named path held has = side (has_split tree i x path held inside item has)
    where
      side : HasHeldFileAt (take i tree) path held ⊎ ((path ≡ x.0) × ((attributes : OfFile) × (x.1 ≡ entries.File attributes held))) → is_synced (e (resource ++ path)) ≡ true
      side (inl before) = named path held before
      side (inr now) = absurd (none-some held (sym none ∙ ap held_of now.1.1))

  still_named : (mid new : DiskState) → Works nowhere nowhere 0 mid new → IfSome mid.told (λ e. AreNamed resource (take i tree) e.places) → IfSome new.told (λ e. AreNamed resource (take i tree) e.places)
  still_named mid new works named =
      told_second (λ e. AreNamed resource (take i tree) e.places) (λ e. AreNamed resource (take i tree) e.places) StaySynced (λ d e was stay path held has. stay (resource ++ path) (was path held has)) mid.told new.told named
      (stay_synced mid new works)

  -- the names of the files up to it are synced
  pub named_next : (mid new : DiskState) → Works nowhere nowhere 0 mid new → IfSome mid.told (λ e. AreNamed resource (take i tree) e.places) → (o : Option HeldFile) → held_of x.1 ≡ o
      → IfSome o (λ held. IfSome new.told (λ e. is_synced (e.places (resource ++ x.0)) ≡ true)) → IfSome new.told (λ e. AreNamed resource (take (i + 1) tree) e.places)
  named_next mid new works named None is here =
      if_map (λ e. AreNamed resource (take i tree) e.places) (λ e. AreNamed resource (take (i + 1) tree) e.places) (λ e was. named_other e.places is was) new.told (still_named mid new works named)
  named_next mid new works named (Some held) is here =
      if_two (λ e. AreNamed resource (take i tree) e.places) (λ e. is_synced (e.places (resource ++ x.0)) ≡ true) (λ e. AreNamed resource (take (i + 1) tree) e.places) (λ e was here. named_file e.places was here) new.told
      (still_named mid new works named) here

-- none is to be synced at first
pub named_none : (resource : List (List ℕ)) (x : Option Told) → IfSome x (λ d. AreNamed resource [] d.places)
named_none resource None = tt
named_none resource (Some d) = λ path held has. absurd (none-some (entries.File has.attributes held) has.stands)
