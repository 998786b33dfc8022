-- The entries of a directory, written one after the other: what is there so far, and that the next one may be written.
use Rattle.std.proofs.Common.{◌≡◌, ◌≢◌, ◌⊎◌, ℕ, ◌+◌, ◌<◌, ◌≤◌, Bool, true, false, not, ◌&&◌, List, [], ◌∷◌, ◌++◌, length, take, drop, get_or, Option, Some, None, IfSome, Result, Ok, Err, refl, sym, ap, ◌∙◌, subst, inl, inr, arith, append_assoc}
use Rattle.std.specs.Prelude.{IfErr, OnOk}
use Rattle.std.proofs.lemmas.Bool.{false≢true, and_parts, and_from}
use Rattle.std.proofs.lemmas.Option.{none-some, same_Some}
use Rattle.std.specs.Option.{is_some}
use Rattle.std.specs.Ordering.{eq_by_cmp}
use Rattle.ext_attributes.specs.Attributes.{OfFile}
use Rattle.ext_text.specs.Name.{bytes_cmp}
use Rattle.ext_text.specs.Path.{is_prefix, parent}
use Rattle.ext_text.proofs.ForCallers.{length-parent, parent_prefix, prefix_both, prefix_short, prefix_trans, proper_first, same_name, tied_name}
use Rattle.ext_disk.specs.Disk.{Node, folder, file, Places, Told, DiskState, is_file, now}
use Rattle.ext_disk.specs.Fixed.{Spares}
use Rattle.ext_disk.specs.Since.{Rests}
use Rattle.ext_disk.proofs.ForCallers.{spares_then, spares_wider}
use Rattle.ext_tree.specs.Tree.{Entries, IsTree as IsEntryTree, is_directory_at, is_directory_or_root}
use Rattle.ext_tree.specs.declared.entry.Entry.{Entry}
use Rattle.ext_tree.specs.declared.entry.Entry.TheVariants as entries
use Rattle.ext_tree.proofs.ForCallers.{parent_append, prefixes}
use Rattle.ext_host.specs.Held.{HeldFile}
use Rattle.ext_host.specs.Shelf.{IsFound, IsTold}
use Rattle.ext_store_files.specs.HeldFiles.{is_served}
use Rattle.ext_store_files.proofs.ForCallers.{prefix_append, rose_since}
use Rattle.ext_gen.specs.declared.bad_store.BadStore.TheVariants as bad_stores
use Rattle.ext_published.specs.Payload.{HasHeldFileAt}
use Rattle.ext_published.specs.declared.payload.Payload.TheVariants as payloads
use Rattle.ext_publish.specs.Out.{first_file}
use Rattle.ext_publish.specs.Copying.{HeldCause, WorksAt}
use Rattle.ext_publish.specs.Filling.{WrittenEntryCause, FilesCause, IsAboveFile, IsFilledWith, IsFilling, IsOneMore, IsReadable, MayWriteOne, WritesEntry, held_of}
use Rattle.ext_publish.specs.Folders.{MakesDown}
use Rattle.ext_publish.specs.Stopping.{OutCause}
use Rattle.ext_publish.specs.declared.stop.Stop.{Stop}
use Rattle.ext_publish.specs.declared.stop.Stop.TheVariants as stops
use Rattle.ext_publish.proofs.CopyingLemmas.{told_rests}
use Rattle.ext_publish.proofs.EntriesLemmas.{has_more, has_split, has_whole, not_before, stands_now, stands_there}
use Rattle.ext_publish.proofs.FillingLemmas.{down_spares, no_file_down}
use Rattle.ext_publish.proofs.PrefixLemmas.{drop_back}
use Rattle.ext_publish.proofs.TwoDisks.{if_map, told_second}

-- below one path the prefixes are those of the rests
pub prefix_rests : (a p q : List (List ℕ)) → is_prefix (a ++ p) (a ++ q) ≡ is_prefix p q
prefix_rests [] p q = refl
prefix_rests (n ∷ a) p q = ap (λ b. b && is_prefix (a ++ p) (a ++ q)) (tied_name n n refl) ∙ prefix_rests a p q

-- and equal paths have equal rests
pub same_rest : (a p q : List (List ℕ)) → a ++ p ≡ a ++ q → p ≡ q
same_rest a p q same = sym (drop_back a p) ∙ ap (drop (length a)) same ∙ drop_back a q

-- what is not at or below a path is not so below a longer one
pub below_out : (a b p : List (List ℕ)) → is_prefix a b ≡ true → is_prefix a p ≡ false → is_prefix b p ≡ false
below_out a b p below out = none (is_prefix b p) refl
  where
    none : (c : Bool) → is_prefix b p ≡ c → is_prefix b p ≡ false
    none false is = is
    none true is = absurd (false≢true (sym out ∙ prefix_trans a b p below is))

-- a path below a resource, in the folder that has it
pub path_in : (dir resource below path : List (List ℕ)) (name : List ℕ) → resource ≡ dir ++ name ∷ [] → path ≡ resource ++ below → path ≡ dir ++ name ∷ below
path_in dir resource below path name resource_is path_is = path_is ∙ ap (λ r. r ++ below) resource_is ∙ append_assoc dir (name ∷ []) below

-- the names down to its parent
pub names_down : (dir : List (List ℕ)) (name : List ℕ) (below path : List (List ℕ)) → path ≡ dir ++ name ∷ below → drop (length dir) (parent path) ≡ parent (name ∷ below)
names_down dir name below path path_is = ap (λ p. drop (length dir) (parent p)) path_is ∙ ap (drop (length dir)) (parent_append dir name below) ∙ drop_back dir (parent (name ∷ below))

same_file : (m n : OfFile) (g h : HeldFile) → entries.File m g ≡ entries.File n h → g ≡ h
same_file m n g h is = ap (content g) is
  where
    content : HeldFile → Entry HeldFile → HeldFile
    content other (entries.Dir attributes) = other
    content other (entries.Opaque attributes) = other
    content other (entries.File attributes held) = held
    content other (entries.Link owner target) = other
    content other entries.Hide = other

-- the entry is a file where it has one
pub held_is : (entry : Entry HeldFile) (held : HeldFile) → held_of entry ≡ Some held → (attributes : OfFile) × (entry ≡ entries.File attributes held)
held_is (entries.Dir attributes) held is = absurd (none-some held is)
held_is (entries.Opaque attributes) held is = absurd (none-some held is)
held_is (entries.File attributes one) held is = (attributes, ap (entries.File attributes) (same_Some one held is))
held_is (entries.Link owner target) held is = absurd (none-some held is)
held_is entries.Hide held is = absurd (none-some held is)

-- no file stands above a file of a tree
no_file_above : (tree : Entries HeldFile) → IsEntryTree tree → (p q : List (List ℕ)) (one other : HeldFile) → HasHeldFileAt tree p one → HasHeldFileAt tree q other → is_prefix q p ≡ true → length q < length p → ⊥
no_file_above tree is_tree p q one other has above pre short = none q above (prefixes tree is_tree q p (ap is_some has.stands) pre short)
  where
    none : (q : List (List ℕ)) → HasHeldFileAt tree q other → is_directory_or_root tree q ≡ true → ⊥
    none [] above directory = none-some (entries.File above.attributes other) (sym is_tree.root ∙ above.stands)
    none (n ∷ r) above directory = false≢true (sym (ap is_directory_at above.stands) ∙ directory)

-- a file that was written as a store tells it that rested
pub filled_rests : (store after : DiskState) (held : HeldFile) (path : List (List ℕ)) (e : Places) → Rests store after → IsFilledWith after held path e → IsFilledWith store held path e
filled_rests store after held path e rests filled = (filled.0, subst (λ told. IsTold told filled.0) (told_rests held.body store after rests) filled.1, filled.2, filled.3)

-- at first nothing stands below the resource
pub filling_first : (store : DiskState) (dir resource : List (List ℕ)) (tree : Entries HeldFile) (e : Places) → (e dir).node ≡ Some folder → ((p : List (List ℕ)) → is_prefix resource p ≡ true → (e p).node ≡ None) → IsFilling store dir resource tree [] e
filling_first store dir resource tree e base none = record {
  base = base;
  files = λ path held has. absurd (none-some (entries.File has.attributes held) has.stands);
  only = λ path is. absurd (false≢true (sym (ap is_file (none (resource ++ path) (prefix_append resource path))) ∙ is));
  folders = λ path is. absurd (none-some folder (sym (none (resource ++ path) (prefix_append resource path)) ∙ is));
  calm = λ path is. absurd (none-some folder (sym (none (resource ++ path) (prefix_append resource path)) ∙ is));
}

-- the entry of a tree at an index, which is a file
module _ (store : DiskState) (dir resource : List (List ℕ)) (name : List ℕ) (tree : Entries HeldFile) (i : ℕ) (x : List (List ℕ) × Entry HeldFile) (attributes : OfFile) (held : HeldFile) (resource_is : resource ≡ dir ++ name ∷ [])
    (is_tree : IsEntryTree tree) (inside : i < length tree) (item : x ≡ get_or tree i x) (file_is : x.1 ≡ entries.File attributes held) where
  here : HasHeldFileAt tree x.0 held
  here = stands_there tree i x attributes held is_tree inside item file_is

  way_free : (d : Places) → IsFilling store dir resource tree (take i tree) d → (q : List (List ℕ)) → is_prefix q (parent (name ∷ x.0)) ≡ true → q ≢ [] → is_file (d (dir ++ q)).node ≡ false
  way_free d filling [] pre some = absurd (some refl)
  way_free d filling (m ∷ q) pre some = none (is_file (d (dir ++ m ∷ q)).node) refl
    where
      shorter : length q < length x.0
      shorter = omega (arith, prefix_short (m ∷ q) (parent (name ∷ x.0)) pre, length-parent (name ∷ x.0) (omega arith))

      parts : (eq_by_cmp bytes_cmp m name ≡ true) × (is_prefix q x.0 ≡ true)
      parts = and_parts (eq_by_cmp bytes_cmp m name) (is_prefix q x.0) (prefix_trans (m ∷ q) (parent (name ∷ x.0)) (name ∷ x.0) pre (parent_prefix (name ∷ x.0)))

      same : dir ++ m ∷ q ≡ resource ++ q
      same = ap (λ k. dir ++ k ∷ q) (same_name m name parts.0) ∙ sym (append_assoc dir (name ∷ []) q) ∙ ap (λ r. r ++ q) (sym resource_is)

      none : (b : Bool) → is_file (d (dir ++ m ∷ q)).node ≡ b → is_file (d (dir ++ m ∷ q)).node ≡ false
      none false is = is
      none true is =
          let there = filling.only q (ap (λ p. is_file (d p).node) (sym same) ∙ is) in
          absurd (no_file_above tree is_tree x.0 q held there.0 here (has_whole tree i q there.0 there.1) parts.1 shorter)

  place_free : (d : Places) → IsFilling store dir resource tree (take i tree) d → (o : Option Node) → (d (resource ++ x.0)).node ≡ o → (d (resource ++ x.0)).node ≡ None
  place_free d filling None is = is
  place_free d filling (Some folder) is =
      let above = filling.folders x.0 is in
      absurd (no_file_above tree is_tree above.0 x.0 above.1 held above.2 here (and_parts (is_prefix x.0 above.0) (not (is_prefix above.0 x.0)) above.3).0 ((proper_first x.0 above.0).0 above.3).1)
  place_free d filling (Some (file bytes)) is =
      let before = filling.only x.0 (ap is_file is) in
      absurd (none-some (entries.File before.1.attributes before.0) (sym (not_before tree i x is_tree inside item) ∙ before.1.stands))

  -- the file may be written
  pub may_write : (d : Places) → IsFilling store dir resource tree (take i tree) d → MayWriteOne dir (resource ++ x.0) d
  may_write d filling = record {
    base = filling.base;
    way = subst (λ l. first_file (now d) dir l ≡ None) (sym (names_down dir name x.0 (resource ++ x.0) (path_in dir resource x.0 (resource ++ x.0) name resource_is refl)))
        (no_file_down (now d) dir (parent (name ∷ x.0)) (way_free d filling));
    free = place_free d filling (d (resource ++ x.0)).node refl;
  }

  next_files : (d e : Places) → IsFilling store dir resource tree (take i tree) d → IsOneMore store held (resource ++ x.0) d e → (path : List (List ℕ)) (one : HeldFile) → HasHeldFileAt (take i tree) path one ⊎ ((path ≡ x.0) × ((attributes : OfFile) × (x.1 ≡ entries.File attributes one)))
      → IsFilledWith store one (resource ++ path) e
  next_files d e filling more path one (inl before) =
      let was = filling.files path one before in
      (was.0, was.1, was.2, record { node = more.keeps (resource ++ path) (ap is_some was.3.node) ∙ was.3.node; hard = more.hard (resource ++ path) (ap is_file was.3.node) was.3.hard })
  next_files d e filling more path one (inr now_) =
      subst (λ h. IsFilledWith store h (resource ++ path) e) (same_file attributes now_.1.0 held one (sym file_is ∙ now_.1.1)) (subst (λ q. IsFilledWith store held (resource ++ q) e) (sym now_.0) more.there)

  next_only : (d : Places) → IsFilling store dir resource tree (take i tree) d → (path : List (List ℕ)) → (is_file (d (resource ++ path)).node ≡ true) ⊎ (resource ++ path ≡ resource ++ x.0)
      → (one : HeldFile) × HasHeldFileAt (take (i + 1) tree) path one
  next_only d filling path (inl was) =
      let before = filling.only path was in
      (before.0, has_more tree i x path before.0 inside item before.1)
  next_only d filling path (inr same) =
      (held, subst (λ q. HasHeldFileAt (take (i + 1) tree) q held) (sym (same_rest resource path x.0 same)) (stands_now tree i x attributes held is_tree inside item file_is))

  next_folders : (d e : Places) → IsFilling store dir resource tree (take i tree) d → IsOneMore store held (resource ++ x.0) d e → (path : List (List ℕ)) → (e (resource ++ path)).node ≡ Some folder → (o : Option Node) → (d (resource ++ path)).node ≡ o
      → IsAboveFile tree path
  next_folders d e filling more path is (Some node) was = filling.folders path (sym (more.keeps (resource ++ path) (ap is_some was)) ∙ is)
  next_folders d e filling more path is None was = side (is_prefix (resource ++ path) (resource ++ x.0)) refl
    where
      apart : (b : Bool) → is_prefix x.0 path ≡ b → is_prefix path x.0 ≡ true → is_prefix x.0 path ≡ false
      apart false out pre = out
      apart true back pre =
          let same : path ≡ x.0 = prefix_both path x.0 pre back in
          absurd (false≢true (sym (ap is_file is) ∙ ap (λ q. is_file (e (resource ++ q)).node) same ∙ ap is_file more.there.3.node))

      side : (b : Bool) → is_prefix (resource ++ path) (resource ++ x.0) ≡ b → IsAboveFile tree path
      side false out = absurd (none-some folder (sym (more.others (resource ++ path) out ∙ was) ∙ is))
      side true pre =
          let below : is_prefix path x.0 ≡ true = sym (prefix_rests resource path x.0) ∙ pre in
          (x.0, held, here, and_from _ _ below (ap not (apart (is_prefix x.0 path) refl below)))

  -- and then it is one of those that are written
  pub filling_next : (d e : Places) → IsFilling store dir resource tree (take i tree) d → IsOneMore store held (resource ++ x.0) d e → IsFilling store dir resource tree (take (i + 1) tree) e
  filling_next d e filling more = record {
    base = more.keeps dir (ap is_some filling.base) ∙ filling.base;
    files = λ path one has. next_files d e filling more path one (has_split tree i x path one inside item has);
    only = λ path is. next_only d filling path (more.files (resource ++ path) is);
    folders = λ path is. next_folders d e filling more path is (d (resource ++ path)).node refl;
    calm = λ path is. more.calm (resource ++ path) is (λ was. filling.calm path was);
  }

-- an entry that is no file adds nothing
pub filling_still : (store : DiskState) (dir resource : List (List ℕ)) (tree : Entries HeldFile) (i : ℕ) (x : List (List ℕ) × Entry HeldFile) (e : Places) → i < length tree → x ≡ get_or tree i x → held_of x.1 ≡ None
    → IsFilling store dir resource tree (take i tree) e → IsFilling store dir resource tree (take (i + 1) tree) e
filling_still store dir resource tree i x e inside item none filling = record {
  base = filling.base;
  files = λ path held has. before path held (has_split tree i x path held inside item has);
  only = λ path is. let there = filling.only path is in (there.0, has_more tree i x path there.0 inside item there.1);
  folders = filling.folders;
  calm = filling.calm;
}
  where
    before : (path : List (List ℕ)) (held : HeldFile) → HasHeldFileAt (take i tree) path held ⊎ ((path ≡ x.0) × ((attributes : OfFile) × (x.1 ≡ entries.File attributes held))) → IsFilledWith store held (resource ++ path) e
    before path held (inl has) = filling.files path held has
    before path held (inr here) = absurd (none-some held (sym none ∙ ap held_of here.1.1))

-- so far these entries are written
pub record IsSoFar (store : DiskState) (dir resource : List (List ℕ)) (tree es : Entries HeldFile) (after old new : DiskState) : Type 0 where
  pub spares : Spares (is_prefix resource) old new
  pub rests : Rests store after
  pub filled : IfSome new.told (λ e. IsFilling store dir resource tree es e.places)

-- the entry at an index may be written, where it is a file
pub may_write_entry : (store : DiskState) (dir resource : List (List ℕ)) (tree : Entries HeldFile) (i : ℕ) (x : List (List ℕ) × Entry HeldFile) → (name : List ℕ) × (resource ≡ dir ++ name ∷ []) → IsEntryTree tree → i < length tree → x ≡ get_or tree i x
    → (o : Option HeldFile) → held_of x.1 ≡ o → (told : Option Told) → IfSome told (λ d. IsFilling store dir resource tree (take i tree) d.places) → IfSome o (λ held. IfSome told (λ d. MayWriteOne dir (resource ++ x.0) d.places))
may_write_entry store dir resource tree i x child is_tree inside item None is told filling = tt
may_write_entry store dir resource tree i x child is_tree inside item (Some held) is None filling = tt
may_write_entry store dir resource tree i x child is_tree inside item (Some held) is (Some d) filling =
    let one = held_is x.1 held is in
    may_write store dir resource child.0 tree i x one.0 held child.1 is_tree inside item one.1 d.places filling

-- it can be read
pub entry_served : (tree : Entries HeldFile) (i : ℕ) (x : List (List ℕ) × Entry HeldFile) → IsEntryTree tree → i < length tree → x ≡ get_or tree i x → IsReadable (payloads.Directory tree) → (o : Option HeldFile) → held_of x.1 ≡ o
    → IfSome o (λ held. is_served held.body ≡ true)
entry_served tree i x is_tree inside item readable None is = tt
entry_served tree i x is_tree inside item readable (Some held) is =
    let one = held_is x.1 held is in
    readable held (x.0, stands_there tree i x one.0 held is_tree inside item one.1)

more_rests : (store after : DiskState) (held : HeldFile) (path : List (List ℕ)) (d e : Places) → Rests store after → IsOneMore after held path d e → IsOneMore store held path d e
more_rests store after held path d e rests more = record {
  there = filled_rests store after held path e rests more.there;
  others = more.others;
  keeps = more.keeps;
  files = more.files;
  calm = more.calm;
  hard = more.hard;
}

-- the entry was written
pub filled_next : (store after old new : DiskState) (dir resource : List (List ℕ)) (tree : Entries HeldFile) (i : ℕ) (x : List (List ℕ) × Entry HeldFile) → (name : List ℕ) × (resource ≡ dir ++ name ∷ []) → IsEntryTree tree → i < length tree
    → x ≡ get_or tree i x → Rests store after → IfSome old.told (λ d. IsFilling store dir resource tree (take i tree) d.places) → (o : Option HeldFile) → held_of x.1 ≡ o → WritesEntry after o (resource ++ x.0) old new
    → IfSome new.told (λ e. IsFilling store dir resource tree (take (i + 1) tree) e.places)
filled_next store after old new dir resource tree i x child is_tree inside item rests filling None is writes =
    subst (λ t. IfSome t (λ e. IsFilling store dir resource tree (take (i + 1) tree) e.places)) (sym writes)
    (if_map (λ e. IsFilling store dir resource tree (take i tree) e.places) (λ e. IsFilling store dir resource tree (take (i + 1) tree) e.places)
    (λ e fills. filling_still store dir resource tree i x e.places inside item is fills) old.told filling)
filled_next store after old new dir resource tree i x child is_tree inside item rests filling (Some held) is writes =
    let one = held_is x.1 held is in
    told_second (λ d. IsFilling store dir resource tree (take i tree) d.places) (λ e. IsFilling store dir resource tree (take (i + 1) tree) e.places)
    (λ d e. IsOneMore after held (resource ++ x.0) d.places e.places)
    (λ d e fills more. filling_next store dir resource child.0 tree i x one.0 held child.1 is_tree inside item one.1 d.places e.places fills (more_rests store after held (resource ++ x.0) d.places e.places rests more)) old.told new.told filling writes

-- folders that were made on the way to a path below the resource
pub way_spares : (T : Type 0) (result : Result T Stop) (dir : List (List ℕ)) (name : List ℕ) (below path names resource : List (List ℕ)) (old mid : DiskState) → resource ≡ dir ++ name ∷ [] → path ≡ resource ++ below → names ≡ drop (length dir) (parent path)
    → MakesDown dir names result old mid → Spares (is_prefix resource) old mid
way_spares T result dir name below path names resource old mid resource_is path_is names_is makes =
    down_spares T result dir name below dir names resource old mid refl (names_is ∙ names_down dir name below path (path_in dir resource below path name resource_is path_is)) resource_is makes

-- what was touched at a path below the resource, and before it on the way to it
pub one_spares : (T : Type 0) (result : Result T Stop) (dir : List (List ℕ)) (name : List ℕ) (below path names resource : List (List ℕ)) (old mid new : DiskState) → resource ≡ dir ++ name ∷ [] → path ≡ resource ++ below → names ≡ drop (length dir) (parent path)
    → MakesDown dir names result old mid → WorksAt path mid new → Spares (is_prefix resource) old new
one_spares T result dir name below path names resource old mid new resource_is path_is names_is makes works =
    spares_then (is_prefix resource) old mid new (way_spares T result dir name below path names resource old mid resource_is path_is names_is makes)
    (spares_wider (is_prefix path) (is_prefix resource) mid new (λ p out. below_out resource path p (subst (λ q. is_prefix resource q ≡ true) (sym path_is) (prefix_append resource below)) out) works.spares)

-- why a file was not copied, as why what is published was not written
pub fill_cause : (tree : Entries HeldFile) (path : List (List ℕ)) (held : HeldFile) (store now_ after old mid new : DiskState) (stop : Stop) → HasHeldFileAt tree path held → Rests store now_ → old.faults ≤ mid.faults → HeldCause held now_ after mid new stop
    → FilesCause (payloads.Directory tree) store after old new stop
fill_cause tree path held store now_ after old mid new stops.OutOfMemory has rests count cause = tt
fill_cause tree path held store now_ after old mid new (stops.Refused refusal) has rests count cause = cause
fill_cause tree path held store now_ after old mid new stops.DiskFault has rests count cause = rose_since store.faults now_.faults after.faults rests.count cause
fill_cause tree path held store now_ after old mid new stops.OutFault has rests count cause = rose_since old.faults mid.faults new.faults count cause
fill_cause tree path held store now_ after old mid new (stops.BadStore (bad_stores.Broken line)) has rests count cause = cause
fill_cause tree path held store now_ after old mid new (stops.BadStore (bad_stores.Damaged damage)) has rests count cause =
    (held, (path, has), cause.0, subst (λ told. IsFound damage.listed told damage.found) (told_rests held.body store now_ rests) cause.1)
fill_cause tree path held store now_ after old mid new stops.Unfinished has rests count cause = cause

-- why an entry was not written
pub fill_entry_cause : (tree : Entries HeldFile) (i : ℕ) (x : List (List ℕ) × Entry HeldFile) (store now_ after old mid new : DiskState) (stop : Stop) → IsEntryTree tree → i < length tree → x ≡ get_or tree i x → Rests store now_ → old.faults ≤ mid.faults
    → (o : Option HeldFile) → held_of x.1 ≡ o → WrittenEntryCause o now_ after mid new stop → FilesCause (payloads.Directory tree) store after old new stop
fill_entry_cause tree i x store now_ after old mid new stop is_tree inside item rests count None is cause = absurd cause
fill_entry_cause tree i x store now_ after old mid new stop is_tree inside item rests count (Some held) is cause =
    let one = held_is x.1 held is in
    fill_cause tree x.0 held store now_ after old mid new stop (stands_there tree i x one.0 held is_tree inside item one.1) rests count cause

-- why folders were not made, as why the file was not written; and so since an earlier time
pub copy_cause_out : (held : HeldFile) (store old new : DiskState) (stop : Stop) → OutCause old new stop → HeldCause held store store old new stop
copy_cause_out held store old new stops.OutOfMemory cause = tt
copy_cause_out held store old new (stops.Refused refusal) cause = cause
copy_cause_out held store old new stops.DiskFault cause = absurd cause
copy_cause_out held store old new stops.OutFault cause = cause
copy_cause_out held store old new (stops.BadStore why) cause = absurd cause
copy_cause_out held store old new stops.Unfinished cause = cause

pub copy_cause_since : (held : HeldFile) (store after old mid new : DiskState) (stop : Stop) → old.faults ≤ mid.faults → HeldCause held store after mid new stop → HeldCause held store after old new stop
copy_cause_since held store after old mid new stops.OutOfMemory count cause = tt
copy_cause_since held store after old mid new (stops.Refused refusal) count cause = cause
copy_cause_since held store after old mid new stops.DiskFault count cause = cause
copy_cause_since held store after old mid new stops.OutFault count cause = rose_since old.faults mid.faults new.faults count cause
copy_cause_since held store after old mid new (stops.BadStore (bad_stores.Broken line)) count cause = cause
copy_cause_since held store after old mid new (stops.BadStore (bad_stores.Damaged damage)) count cause = cause
copy_cause_since held store after old mid new stops.Unfinished count cause = cause

-- a cause that is given as another one
pub err_map : (T : Type 0) (result : Result T Stop) (P Q : Stop → Type 0) → ((stop : Stop) → P stop → Q stop) → IfErr result P → IfErr result Q
err_map T (Ok x) P Q gives is = tt
err_map T (Err stop) P Q gives is = gives stop is

-- and what holds where it is done
pub ok_map : (T : Type 0) (result : Result T Stop) (P Q : Type 0) → (P → Q) → OnOk result P → OnOk result Q
ok_map T (Ok x) P Q gives is = gives is
ok_map T (Err stop) P Q gives is = tt
