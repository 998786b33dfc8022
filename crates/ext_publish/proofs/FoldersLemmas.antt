-- Folders that are made where they are missing.
use Rattle.std.proofs.Common.{◌≡◌, ◌⊎◌, ℕ, ◌≤◌, Bool, true, false, cond, ◌||◌, List, [], ◌∷◌, ◌++◌, take, drop, Option, Some, None, IfSome, Result, Ok, Err, refl, sym, ap, ◌∙◌, subst, inl, inr, append_assoc}
use Rattle.std.proofs.lemmas.Bool.{false≢true, true≢false}
use Rattle.std.proofs.lemmas.List.{append-nil, take-append-drop}
use Rattle.std.specs.Option.{is_some}
use Rattle.std.specs.Result.{is_ok}
use Rattle.std.specs.Ordering.{eq_by_cmp}
use Rattle.ext_text.specs.Path.{is_prefix, path_cmp}
use Rattle.ext_text.proofs.ForCallers.{same_path, prefix_self, prefix_trans}
use Rattle.ext_disk.specs.Disk.{Node, folder, file, Place, Places, Told, DiskState, BothTold, IsTree, IsDisk, is_file, is_folder, is_synced, now}
use Rattle.ext_disk.specs.Calls.{make_dir, sync_dir, IsFree, MayCall, Does, DoesTold, put, with_unsynced_name, synced, synced_in, is_child}
use Rattle.ext_disk.specs.Fixed.{IsUnchangedAt, Spares}
use Rattle.ext_disk.specs.Lookups.{IsKindAt, MayList, kind_of}
use Rattle.ext_disk.specs.Since.{Follows, IsLater, Rests}
use Rattle.ext_disk.specs.declared.kind.Kind.{Kind}
use Rattle.ext_disk.proofs.ForCallers.{later_itself, later_then, unchanged_itself, unchanged_then, follows_itself, call_spares_out_of_reach, follows_then, rests_follow, rests_spares, spares_then}
use Rattle.ext_store_files.specs.Writing.{SyncsIn, Works, WorksTold, nowhere}
use Rattle.ext_publish.specs.Out.{first_file, first_missing, is_at_or_below}
use Rattle.ext_publish.specs.Folders.{IsCalmAt, IsMadeDown, IsMadeIn, MakesFolder, MakesDown, MakesDownTold, MakesFolderTold, MayMake, MayMakeDown}
use Rattle.ext_text.specs.Causes.{Rose}
use Rattle.ext_store_files.proofs.ForCallers.{told_map, told_same, prefix_append, folder_synced, rose_since}
use Rattle.ext_publish.specs.Stopping.{OutCause}
use Rattle.ext_publish.specs.declared.stop.Stop.{Stop}
use Rattle.ext_publish.specs.declared.stop.Stop.TheVariants as stops
use Rattle.ext_publish.proofs.PrefixLemmas.{longer_apart}
use Rattle.ext_publish.proofs.TwoDisks.{if_map, if_two, put_at, put_off, told_second, told_two, told_with}

is_folder_from : (o : Option Node) → is_folder o ≡ true → o ≡ Some folder
is_folder_from None is = absurd (false≢true is)
is_folder_from (Some folder) is = refl
is_folder_from (Some (file bytes)) is = absurd (false≢true is)

-- a folder, where something stands that is no file
folder_or : (o : Option Node) → is_some o ≡ true → is_file o ≡ false → o ≡ Some folder
folder_or None some apart = absurd (false≢true some)
folder_or (Some folder) some apart = refl
folder_or (Some (file bytes)) some apart = absurd (true≢false apart)

-- above a folder there are folders
pub folder_above : (d : Places) → IsTree d → (p r : List (List ℕ)) → (d (p ++ r)).node ≡ Some folder → (d p).node ≡ Some folder
folder_above d tree p [] is = ap (λ q. (d q).node) (sym (append-nil p)) ∙ is
folder_above d tree p (n ∷ r) is =
    let child : (d (p ++ n ∷ [])).node ≡ Some folder = folder_above d tree (p ++ n ∷ []) r (ap (λ q. (d q).node) (append_assoc p (n ∷ []) r) ∙ is) in
    tree.parents p n (taken (d (p ++ n ∷ [])) child)
  where
    taken : (x : Place) → x.node ≡ Some folder → Rattle.ext_disk.specs.Disk.is_taken x ≡ true
    taken x is = ap (λ o. is_some o || is_some x.unsynced_rename) is

-- a name that is not synced, of a folder in a folder that is then synced
child_synced : (above : List (List ℕ)) (n : List ℕ) (d e : Told) → SyncsIn above d e → is_synced (e.places (above ++ n ∷ [])) ≡ true
child_synced above n d e syncs = syncs.names n

stays_calm : (b : Bool) (x : Place) → (is_synced x ≡ true) × (x.unsynced_bytes ≡ false) → (is_synced (cond b (synced x) x) ≡ true) × ((cond b (synced x) x).unsynced_bytes ≡ false)
stays_calm true x calm = (refl, calm.1)
stays_calm false x calm = calm

sync_node : (b : Bool) (x : Place) → (cond b (synced x) x).node ≡ x.node
sync_node true x = refl
sync_node false x = refl

-- the places after a sync of a folder
synced_is : (dir : List (List ℕ)) (d e : Places) (q : List (List ℕ)) → e ≡ synced_in dir d → e q ≡ cond (is_child dir q) (synced (d q)) (d q)
synced_is dir d e q is = ap (λ (x : Places). x q) is

made_node : (path above : List (List ℕ)) (c d e : Places) → d ≡ put path (with_unsynced_name (Some folder) false) c → e ≡ synced_in above d → (e path).node ≡ Some folder
made_node path above c d e made sync =
    ap (λ (x : Place). x.node) (synced_is above d e path sync) ∙ sync_node (is_child above path) (d path) ∙ ap (λ (x : Place). x.node) (put_at path _ c d made)

made_others : (path above : List (List ℕ)) (c d e : Places) (p : List (List ℕ)) → d ≡ put path (with_unsynced_name (Some folder) false) c → e ≡ synced_in above d → eq_by_cmp path_cmp path p ≡ false
    → (e p).node ≡ (c p).node
made_others path above c d e p made sync out =
    ap (λ (x : Place). x.node) (synced_is above d e p sync) ∙ sync_node (is_child above p) (d p) ∙ ap (λ (x : Place). x.node) (put_off path _ c d p made out)

made_calm : (above : List (List ℕ)) (n : List ℕ) (c d e : Told) (p : List (List ℕ)) → d.places ≡ put (above ++ n ∷ []) (with_unsynced_name (Some folder) false) c.places → e.places ≡ synced_in above d.places → SyncsIn above d e
    → IsCalmAt c.places p → (b : Bool) → eq_by_cmp path_cmp (above ++ n ∷ []) p ≡ b → IsCalmAt e.places p
made_calm above n c d e p made sync syncs calm true tied =
    let same = same_path (above ++ n ∷ []) p tied in
    subst (IsCalmAt e.places) same (record {
      synced = syncs.names n;
      hard = ap (λ (x : Place). x.unsynced_bytes) (synced_is above d.places e.places (above ++ n ∷ []) sync) ∙ hard (is_child above (above ++ n ∷ [])) (d.places (above ++ n ∷ []))
          ∙ ap (λ (x : Place). x.unsynced_bytes) (put_at (above ++ n ∷ []) _ c.places d.places made);
    })
  where
    hard : (b : Bool) (x : Place) → (cond b (synced x) x).unsynced_bytes ≡ x.unsynced_bytes
    hard true x = refl
    hard false x = refl
made_calm above n c d e p made sync syncs calm false out =
    let same : d.places p ≡ c.places p = put_off (above ++ n ∷ []) _ c.places d.places p made out in
    let both = stays_calm (is_child above p) (d.places p) (ap is_synced same ∙ calm.synced, ap (λ (x : Place). x.unsynced_bytes) same ∙ calm.hard) in
    record {
      synced = ap is_synced (synced_is above d.places e.places p sync) ∙ both.0;
      hard = ap (λ (x : Place). x.unsynced_bytes) (synced_is above d.places e.places p sync) ∙ both.1;
    }

made_fresh : (above : List (List ℕ)) (n : List ℕ) (c d e : Told) (p : List (List ℕ)) → d.places ≡ put (above ++ n ∷ []) (with_unsynced_name (Some folder) false) c.places → e.places ≡ synced_in above d.places → SyncsIn above d e
    → (c.places p).node ≡ None → (e.places p).node ≡ Some folder → (b : Bool) → eq_by_cmp path_cmp (above ++ n ∷ []) p ≡ b → IsCalmAt e.places p
made_fresh above n c d e p made sync syncs none is true tied =
    subst (IsCalmAt e.places) (same_path (above ++ n ∷ []) p tied) (record {
      synced = syncs.names n;
      hard = ap (λ (x : Place). x.unsynced_bytes) (synced_is above d.places e.places (above ++ n ∷ []) sync) ∙ hard (is_child above (above ++ n ∷ [])) (d.places (above ++ n ∷ []))
          ∙ ap (λ (x : Place). x.unsynced_bytes) (put_at (above ++ n ∷ []) _ c.places d.places made);
    })
  where
    hard : (b : Bool) (x : Place) → (cond b (synced x) x).unsynced_bytes ≡ x.unsynced_bytes
    hard true x = refl
    hard false x = refl
made_fresh above n c d e p made sync syncs none is false out =
    absurd (false≢true (sym (ap is_some none) ∙ sym (ap is_some (made_others (above ++ n ∷ []) above c.places d.places e.places p made sync out)) ∙ ap is_some is))

same_hard : (b : Bool) (x : Place) → (cond b (synced x) x).unsynced_bytes ≡ x.unsynced_bytes
same_hard true x = refl
same_hard false x = refl

made_hard : (path above : List (List ℕ)) (c d e : Places) (p : List (List ℕ)) → d ≡ put path (with_unsynced_name (Some folder) false) c → e ≡ synced_in above d → (c p).unsynced_bytes ≡ false
    → (b : Bool) → eq_by_cmp path_cmp path p ≡ b → (e p).unsynced_bytes ≡ false
made_hard path above c d e p made sync was true tied =
    ap (λ (x : Place). x.unsynced_bytes) (synced_is above d e p sync) ∙ same_hard (is_child above p) (d p) ∙ ap (λ q. (d q).unsynced_bytes) (sym (same_path path p tied)) ∙ ap (λ (x : Place). x.unsynced_bytes) (put_at path _ c d made)
made_hard path above c d e p made sync was false out =
    ap (λ (x : Place). x.unsynced_bytes) (synced_is above d e p sync) ∙ same_hard (is_child above p) (d p) ∙ ap (λ (x : Place). x.unsynced_bytes) (put_off path _ c d p made out) ∙ was

made_keeps : (path above : List (List ℕ)) (c d e : Places) (p : List (List ℕ)) → d ≡ put path (with_unsynced_name (Some folder) false) c → e ≡ synced_in above d → (c path).node ≡ None → is_some (c p).node ≡ true
    → (b : Bool) → eq_by_cmp path_cmp path p ≡ b → (e p).node ≡ (c p).node
made_keeps path above c d e p made sync none some true tied = absurd (false≢true (sym (ap is_some none) ∙ (ap (λ q. is_some (c q).node) (same_path path p tied) ∙ some)))
made_keeps path above c d e p made sync none some false out = made_others path above c d e p made sync out

-- the folder was made, and the one above it synced
made_in : (above : List (List ℕ)) (n : List ℕ) (c d e : Told) → (c.places (above ++ n ∷ [])).node ≡ None → DoesTold (make_dir (above ++ n ∷ [])) true c d → DoesTold (sync_dir above) true d e → SyncsIn above d e
    → IsMadeIn (above ++ n ∷ []) c.places e.places
made_in above n c d e none made sync syncs = record {
  there = made_node (above ++ n ∷ []) above c.places d.places e.places made.ends.0 sync.ends.0;
  others = λ p out. made_others (above ++ n ∷ []) above c.places d.places e.places p made.ends.0 sync.ends.0 out;
  keeps = λ p some. made_keeps (above ++ n ∷ []) above c.places d.places e.places p made.ends.0 sync.ends.0 none some (eq_by_cmp path_cmp (above ++ n ∷ []) p) refl;
  calm = λ p calm. made_calm above n c d e p made.ends.0 sync.ends.0 syncs calm (eq_by_cmp path_cmp (above ++ n ∷ []) p) refl;
  hard = λ p was. made_hard (above ++ n ∷ []) above c.places d.places e.places p made.ends.0 sync.ends.0 was (eq_by_cmp path_cmp (above ++ n ∷ []) p) refl;
  fresh = λ p none is. made_fresh above n c d e p made.ends.0 sync.ends.0 syncs none is (eq_by_cmp path_cmp (above ++ n ∷ []) p) refl;
}

-- where nothing stands, a stretch of calls at and below the path changes nothing else
spared : (path : List (List ℕ)) (d e : Told) → (d.places path).node ≡ None → ((p : List (List ℕ)) → is_prefix path p ≡ false → IsUnchangedAt d e p)
    → (p : List (List ℕ)) → ((d.places path).node ≡ Some folder) ⊎ (is_prefix path p ≡ false) → IsUnchangedAt d e p
spared path d e none spares p (inl is) = absurd (false≢true (sym (ap is_some none) ∙ ap is_some is))
spared path d e none spares p (inr out) = spares p out

abbrev AbsentAt : List (List ℕ) → Told → Type 0
AbsentAt path d = (d.places path).node ≡ None

absent_kind : (o : Option Node) → None ≡ kind_of o → o ≡ None
absent_kind None is = refl
absent_kind (Some folder) is = absurd (false≢true (ap is_some is))
absent_kind (Some (file bytes)) is = absurd (false≢true (ap is_some is))

some_kind : (o : Option Node) (k : Option Kind) → is_some k ≡ true → k ≡ kind_of o → is_some o ≡ true
some_kind None k some is = absurd (false≢true (sym (ap is_some is) ∙ some))
some_kind (Some node) k some is = refl

-- it failed, after calls at and below the path
pub makes_failed : (T : Type 0) (stop : Stop) (path : List (List ℕ)) (old new : DiskState) → IfSome old.told (AbsentAt path) → Spares (is_prefix path) old new → MakesFolder {T = T} path (Err stop) old new
makes_failed T stop path old new none spares = record {
  follows = spares.follows;
  told = told_with (AbsentAt path) (λ d e. (p : List (List ℕ)) → is_prefix path p ≡ false → IsUnchangedAt d e p) (MakesFolderTold {T = T} path (Err stop))
      (λ d e absent out. record { spares = spared path d e absent out; ends = tt }) old.told new.told none spares.told;
}

told_still : (P : Told → Type 0) (R : Told → Told → Type 0) → ((d : Told) → P d → R d d) → (x y : Option Told) → y ≡ x → IfSome x P → BothTold R x y
told_still P R gives x y same is = subst (BothTold R x) (sym same) (here x is)
  where
    here : (x : Option Told) → IfSome x P → BothTold R x x
    here None is = tt
    here (Some d) is = gives d is

-- it failed before anything was called that changes something
pub makes_stopped : (T : Type 0) (stop : Stop) (path : List (List ℕ)) (old new : DiskState) → Rests old new → MakesFolder {T = T} path (Err stop) old new
makes_stopped T stop path old new rests = record {
  follows = rests_follow old new rests;
  told = told_same (MakesFolderTold {T = T} path (Err stop)) (λ d. record { spares = λ p side. unchanged_itself d p; ends = tt }) old.told new.told rests.told;
}

-- something stood there, and no file
pub makes_nothing : {T : Type 0} (x : T) (above path : List (List ℕ)) (kind : Option Kind) (old new : DiskState) → MayMake above path old → is_some kind ≡ true → IsKindAt old path kind → Rests old new → MakesFolder path (Ok x) old new
makes_nothing {T} x above path kind old new may some is rests = record {
  follows = rests_follow old new rests;
  told = told_still (λ d. (d.places path).node ≡ Some folder) (MakesFolderTold {T = T} path (Ok x))
      (λ d there. record {
        spares = λ p side. unchanged_itself d p;
        ends = record { there = there; others = λ p out. refl; keeps = λ p stood. refl; calm = λ p calm. calm; hard = λ p was. was; fresh = λ p none is. absurd (false≢true (sym (ap is_some none) ∙ ap is_some is)) };
      }) old.told new.told rests.told
      (if_two (λ d. ((d.places above).node ≡ Some folder) × (is_file (d.places path).node ≡ false)) (λ d. kind ≡ kind_of (d.places path).node) (λ d. (d.places path).node ≡ Some folder)
      (λ d may kind_is. folder_or (d.places path).node (some_kind (d.places path).node kind some kind_is) may.1) old.told may is);
}

-- nothing stands there
pub absent_at : (path : List (List ℕ)) (kind : Option Kind) (old new : DiskState) → kind ≡ None → IsKindAt old path kind → Rests old new → IfSome new.told (AbsentAt path)
absent_at path kind old new none is rests =
    subst (λ o. IfSome o (AbsentAt path)) (sym rests.told)
    (if_map (λ d. kind ≡ kind_of (d.places path).node) (AbsentAt path) (λ d kind_is. absent_kind (d.places path).node (sym none ∙ kind_is)) old.told is)

pub may_moved : (above path : List (List ℕ)) (old new : DiskState) → MayMake above path old → Rests old new → MayMake above path new
may_moved above path old new may rests = subst (λ o. IfSome o (λ d. ((d.places above).node ≡ Some folder) × (is_file (d.places path).node ≡ false))) (sym rests.told) may

-- the condition of making it
pub may_make_dir : (above path : List (List ℕ)) (s : DiskState) → (name : List ℕ) × (path ≡ above ++ name ∷ []) → MayMake above path s → IfSome s.told (AbsentAt path) → MayCall (make_dir path) s
may_make_dir above path s child may none =
    if_two (λ d. ((d.places above).node ≡ Some folder) × (is_file (d.places path).node ≡ false)) (AbsentAt path) (λ d. IsFree d.places path)
    (λ d may absent. record { dir = above; name = child.0; path_is = child.1; dir_there = may.0; path_absent = absent }) s.told may none

-- and of syncing the folder above
pub may_sync_above : (above path : List (List ℕ)) (old new : DiskState) → (name : List ℕ) × (path ≡ above ++ name ∷ []) → MayMake above path old → Does (make_dir path) old new true → MayCall (sync_dir above) new
may_sync_above above path old new child may does =
    told_second (λ d. ((d.places above).node ≡ Some folder) × (is_file (d.places path).node ≡ false)) (λ e. is_folder (e.places above).node ≡ true) (DoesTold (make_dir path) true)
    (λ d e may told. still (eq_by_cmp path_cmp path above) refl d e may.0 told) old.told new.told may does.told
  where
    still : (b : Bool) → eq_by_cmp path_cmp path above ≡ b → (d e : Told) → (d.places above).node ≡ Some folder → DoesTold (make_dir path) true d e → is_folder (e.places above).node ≡ true
    still true tied d e there told = ap (λ q. is_folder (e.places q).node) (sym (same_path path above tied)) ∙ ap (λ (x : Place). is_folder x.node) (put_at path _ d.places e.places told.ends.0)
    still false out d e there told = ap (λ (x : Place). is_folder x.node) (put_off path _ d.places e.places above told.ends.0 out) ∙ ap is_folder there

-- calls at the path, and a sync, spare what is not at or below it
pub dir_spares : (path : List (List ℕ)) (done : Bool) (old new : DiskState) → Does (make_dir path) old new done → Spares (is_prefix path) old new
dir_spares path done old new does = call_spares_out_of_reach (is_prefix path) (make_dir path) old new done (λ p out. out) does

pub sync_spares : (reach : List (List ℕ) → Bool) (dir : List (List ℕ)) (done : Bool) (old new : DiskState) → Does (sync_dir dir) old new done → Spares reach old new
sync_spares reach dir done old new does = call_spares_out_of_reach reach (sync_dir dir) old new done (λ p out. refl) does

pub rests_spare : (path : List (List ℕ)) (old new : DiskState) → Rests old new → Spares (is_prefix path) old new
rests_spare path old new rests = rests_spares (is_prefix path) old new rests

ends_made : (above : List (List ℕ)) (n : List ℕ) (x y z : Option Told) → IfSome x (AbsentAt (above ++ n ∷ [])) → BothTold (DoesTold (make_dir (above ++ n ∷ [])) true) x y → BothTold (DoesTold (sync_dir above) true) y z → BothTold (SyncsIn above) y z
    → BothTold (λ d e. IsMadeIn (above ++ n ∷ []) d.places e.places) x z
ends_made above n None None None none one two syncs = tt
ends_made above n None None (Some e) none one two syncs = absurd two
ends_made above n None (Some d) z none one two syncs = absurd one
ends_made above n (Some c) None z none one two syncs = absurd one
ends_made above n (Some c) (Some d) None none one two syncs = absurd two
ends_made above n (Some c) (Some d) (Some e) none one two syncs = made_in above n c d e none one two syncs

-- it was made, and the folder above synced, or not
pub makes_new : (result : Result (Unit {0}) Stop) (above : List (List ℕ)) (path : List (List ℕ)) (old mid new : DiskState) → (name : List ℕ) × (path ≡ above ++ name ∷ []) → IfSome old.told (AbsentAt path)
    → Does (make_dir path) old mid true → Does (sync_dir above) mid new (is_ok result) → MakesFolder path result old new
makes_new (Err stop) above path old mid new child none made sync =
    makes_failed (Unit {0}) stop path old new none (spares_then (is_prefix path) old mid new (dir_spares path true old mid made) (sync_spares (is_prefix path) above false mid new sync))
makes_new (Ok x) above path old mid new child none made sync =
    let spares = spares_then (is_prefix path) old mid new (dir_spares path true old mid made) (sync_spares (is_prefix path) above true mid new sync) in
    let path_is = child.1 in
    let ends : BothTold (λ d e. IsMadeIn path d.places e.places) old.told new.told =
    subst (λ q. BothTold (λ d e. IsMadeIn q d.places e.places) old.told new.told) (sym path_is)
    (ends_made above child.0 old.told mid.told new.told (subst (λ q. IfSome old.told (AbsentAt q)) path_is none)
    (subst (λ q. BothTold (DoesTold (make_dir q) true) old.told mid.told) path_is made.told) sync.told (folder_synced above mid.told new.told sync.told)) in
    record {
      follows = spares.follows;
      told = told_with (AbsentAt path) (λ d e. ((p : List (List ℕ)) → is_prefix path p ≡ false → IsUnchangedAt d e p) × IsMadeIn path d.places e.places) (MakesFolderTold {T = Unit {0}} path (Ok x))
          (λ d e absent both. record { spares = spared path d e absent both.0; ends = both.1 }) old.told new.told none
          (told_two (λ d e. (p : List (List ℕ)) → is_prefix path p ≡ false → IsUnchangedAt d e p) (λ d e. IsMadeIn path d.places e.places)
          (λ d e. ((p : List (List ℕ)) → is_prefix path p ≡ false → IsUnchangedAt d e p) × IsMadeIn path d.places e.places) (λ d e one two. (one, two)) old.told new.told spares.told ends);
    }

-- what is at or below the first missing folder is below where the way begins
pub below_first : (t : List (List ℕ) → Option Node) (a names p : List (List ℕ)) → is_at_or_below (first_missing t a names) p ≡ true → is_prefix a p ≡ true
below_first t a [] p is = absurd (false≢true is)
below_first t a (n ∷ names) p is = side (is_folder (t (a ++ n ∷ []))) is (below_first t (a ++ n ∷ []) names p)
  where
    side : (b : Bool) → is_at_or_below (cond b (first_missing t (a ++ n ∷ []) names) (Some (a ++ n ∷ []))) p ≡ true
        → (is_at_or_below (first_missing t (a ++ n ∷ []) names) p ≡ true → is_prefix (a ++ n ∷ []) p ≡ true) → is_prefix a p ≡ true
    side true here rest = prefix_trans a (a ++ n ∷ []) p (prefix_append a (n ∷ [])) (rest here)
    side false here rest = prefix_trans a (a ++ n ∷ []) p (prefix_append a (n ∷ [])) here

first_file_parts : (t : List (List ℕ) → Option Node) (a : List (List ℕ)) (n : List ℕ) (names : List (List ℕ)) → first_file t a (n ∷ names) ≡ None
    → (is_file (t (a ++ n ∷ [])) ≡ false) × (first_file t (a ++ n ∷ []) names ≡ None)
first_file_parts t a n names none = side (is_file (t (a ++ n ∷ []))) refl none
  where
    side : (b : Bool) → is_file (t (a ++ n ∷ [])) ≡ b → cond b (Some (a ++ n ∷ [])) (first_file t (a ++ n ∷ []) names) ≡ None → (is_file (t (a ++ n ∷ [])) ≡ false) × (first_file t (a ++ n ∷ []) names ≡ None)
    side true is none = absurd (false≢true (sym (ap is_some none)))
    side false is none = (is, none)

-- on the way: so far all folders stand, and what is missing below is missing from the beginning
pub record IsOnWay (base names above left : List (List ℕ)) (d e : Told) : Type 0 where
  pub split : above ++ left ≡ base ++ names
  pub made : IsMadeDown above d.places e.places
  pub spares : (p : List (List ℕ)) → is_at_or_below (first_missing (now d.places) base names) p ≡ false → IsUnchangedAt d e p
  pub missing : (p : List (List ℕ)) → is_at_or_below (first_missing (now d.places) above left) p ≡ true → is_at_or_below (first_missing (now d.places) base names) p ≡ true
  pub free : first_file (now d.places) above left ≡ None
  pub later : IsLater d e

pub record GoesDown (base names above left : List (List ℕ)) (old new : DiskState) : Type 0 where
  pub follows : Follows old new
  pub told : BothTold (IsOnWay base names above left) old.told new.told

pub goes_nowhere : (base names above left : List (List ℕ)) (s : DiskState) → above ≡ base → left ≡ names → MayMakeDown base names s → GoesDown base names above left s s
goes_nowhere base names above left s above_is left_is may =
    subst (λ a. GoesDown base names a left s s) (sym above_is) (subst (λ l. GoesDown base names base l s s) (sym left_is) (record {
      follows = follows_itself s;
      told = told_still (λ d. ((d.places base).node ≡ Some folder) × (first_file (now d.places) base names ≡ None)) (IsOnWay base names base names)
          (λ d may. record {
            split = refl;
            made = record { there = may.0; others = λ p out. refl; keeps = λ p some. refl; calm = λ p calm. calm; hard = λ p was. was; fresh = λ p none is. absurd (false≢true (sym (ap is_some none) ∙ ap is_some is)) };
            spares = λ p out. unchanged_itself d p;
            missing = λ p is. is;
            free = may.1;
            later = later_itself d;
          }) s.told s.told refl may;
    }))

file_was : (above : List (List ℕ)) (n : List ℕ) (d e : Told) → IsMadeDown above d.places e.places → (e.places (above ++ n ∷ [])).node ≡ (d.places (above ++ n ∷ [])).node
file_was above n d e made = made.others (above ++ n ∷ []) (longer_apart above n)

-- the next folder may be made
pub may_step : (base names above left rest : List (List ℕ)) (n : List ℕ) (path : List (List ℕ)) (old mid : DiskState) → left ≡ n ∷ rest → path ≡ above ++ n ∷ [] → GoesDown base names above left old mid → MayMake above path mid
may_step base names above left rest n path old mid left_is path_is goes =
    subst (λ p. MayMake above p mid) (sym path_is)
    (step old.told mid.told (subst (λ l. BothTold (IsOnWay base names above l) old.told mid.told) left_is goes.told))
  where
    step : (x y : Option Told) → BothTold (IsOnWay base names above (n ∷ rest)) x y → IfSome y (λ e. ((e.places above).node ≡ Some folder) × (is_file (e.places (above ++ n ∷ [])).node ≡ false))
    step None None on = tt
    step None (Some e) on = absurd on
    step (Some d) None on = absurd on
    step (Some d) (Some e) on = (on.made.there, ap is_file (file_was above n d e on.made) ∙ (first_file_parts (now d.places) above n rest on.free).0)

-- where the next folder stood, or the path is out of reach from the beginning
side_of : (base names above rest : List (List ℕ)) (n : List ℕ) (d e : Told) → IsOnWay base names above (n ∷ rest) d e → (p : List (List ℕ)) → is_at_or_below (first_missing (now d.places) base names) p ≡ false
    → (b : Bool) → is_folder (d.places (above ++ n ∷ [])).node ≡ b → ((e.places (above ++ n ∷ [])).node ≡ Some folder) ⊎ (is_prefix (above ++ n ∷ []) p ≡ false)
side_of base names above rest n d e on p out true is = inl (file_was above n d e on.made ∙ is_folder_from _ is)
side_of base names above rest n d e on p out false is = inr (none (is_prefix (above ++ n ∷ []) p) refl)
  where
    first : first_missing (now d.places) above (n ∷ rest) ≡ Some (above ++ n ∷ [])
    first = ap (λ b. cond b (first_missing (now d.places) (above ++ n ∷ []) rest) (Some (above ++ n ∷ []))) is

    none : (b : Bool) → is_prefix (above ++ n ∷ []) p ≡ b → is_prefix (above ++ n ∷ []) p ≡ false
    none false is = is
    none true is = absurd (false≢true (sym out ∙ on.missing p (ap (λ o. is_at_or_below o p) first ∙ is)))

missing_next : (base names above rest : List (List ℕ)) (n : List ℕ) (d e : Told) → IsOnWay base names above (n ∷ rest) d e → (p : List (List ℕ)) → is_at_or_below (first_missing (now d.places) (above ++ n ∷ []) rest) p ≡ true
    → (b : Bool) → is_folder (d.places (above ++ n ∷ [])).node ≡ b → is_at_or_below (first_missing (now d.places) base names) p ≡ true
missing_next base names above rest n d e on p is true there =
    on.missing p (ap (λ b. is_at_or_below (cond b (first_missing (now d.places) (above ++ n ∷ []) rest) (Some (above ++ n ∷ []))) p) there ∙ is)
missing_next base names above rest n d e on p is false there =
    on.missing p (ap (λ b. is_at_or_below (cond b (first_missing (now d.places) (above ++ n ∷ []) rest) (Some (above ++ n ∷ []))) p) there ∙ below_first (now d.places) (above ++ n ∷ []) rest p is)

prefix_out : (p above : List (List ℕ)) (n : List ℕ) → is_prefix p (above ++ n ∷ []) ≡ false → is_prefix p above ≡ false
prefix_out p above n out = none (is_prefix p above) refl
  where
    none : (b : Bool) → is_prefix p above ≡ b → is_prefix p above ≡ false
    none false is = is
    none true is = absurd (false≢true (sym out ∙ prefix_trans p above (above ++ n ∷ []) is (prefix_append above (n ∷ []))))

not_same : (p path : List (List ℕ)) → is_prefix p path ≡ false → eq_by_cmp path_cmp path p ≡ false
not_same p path out = none (eq_by_cmp path_cmp path p) refl
  where
    none : (b : Bool) → eq_by_cmp path_cmp path p ≡ b → eq_by_cmp path_cmp path p ≡ false
    none false is = is
    none true tied = absurd (false≢true (sym out ∙ subst (λ q. is_prefix q path ≡ true) (same_path path p tied) (prefix_self path)))

on_way_next : {T : Type 0} (x : T) (base names above rest : List (List ℕ)) (n : List ℕ) (c d e : Told) → IsLater d e → IsOnWay base names above (n ∷ rest) c d → MakesFolderTold {T = T} (above ++ n ∷ []) (Ok x) d e
    → IsOnWay base names (above ++ n ∷ []) rest c e
on_way_next x base names above rest n c d e later on makes =
    let made = makes.ends in
    record {
      split = append_assoc above (n ∷ []) rest ∙ on.split;
      made = record {
        there = made.there;
        others = λ p out. made.others p (not_same p (above ++ n ∷ []) out) ∙ on.made.others p (prefix_out p above n out);
        keeps = λ p some. let was = on.made.keeps p some in made.keeps p (ap is_some was ∙ some) ∙ was;
        calm = λ p calm. made.calm p (on.made.calm p calm);
        hard = λ p was. made.hard p (on.made.hard p was);
        fresh = λ p none is. fresh_then p none is (d.places p).node refl;
      };
      spares = λ p out. unchanged_then c d e p on.later (on.spares p out) (makes.spares p (side_of base names above rest n c d on p out (is_folder (c.places (above ++ n ∷ [])).node) refl));
      missing = λ p is. missing_next base names above rest n c d on p is (is_folder (c.places (above ++ n ∷ [])).node) refl;
      free = (first_file_parts (now c.places) above n rest on.free).1;
      later = later_then c d e on.later later;
    }
  where
    fresh_then : (p : List (List ℕ)) → (c.places p).node ≡ None → (e.places p).node ≡ Some folder → (o : Option Node) → (d.places p).node ≡ o → IsCalmAt e.places p
    fresh_then p none is None was = makes.ends.fresh p was is
    fresh_then p none is (Some node) was = makes.ends.calm p (on.made.fresh p none (sym (makes.ends.keeps p (ap is_some was)) ∙ is))

-- a step down
pub goes_on : {T : Type 0} (x : T) (base names above left rest : List (List ℕ)) (n : List ℕ) (path : List (List ℕ)) (old mid new : DiskState) → left ≡ n ∷ rest → path ≡ above ++ n ∷ [] → GoesDown base names above left old mid
    → MakesFolder {T = T} path (Ok x) mid new → GoesDown base names path rest old new
goes_on {T} x base names above left rest n path old mid new left_is path_is goes makes =
    let here = subst (λ l. BothTold (IsOnWay base names above l) old.told mid.told) left_is goes.told in
    let there = subst (λ p. BothTold (MakesFolderTold {T = T} p (Ok x)) mid.told new.told) path_is makes.told in
    record {
      follows = follows_then old mid new goes.follows makes.follows;
      told = subst (λ p. BothTold (IsOnWay base names p rest) old.told new.told) (sym path_is) (three old.told mid.told new.told here there makes.follows.told);
    }
  where
    three : (a b c : Option Told) → BothTold (IsOnWay base names above (n ∷ rest)) a b → BothTold (MakesFolderTold {T = T} (above ++ n ∷ []) (Ok x)) b c → BothTold IsLater b c → BothTold (IsOnWay base names (above ++ n ∷ []) rest) a c
    three None None None on makes later = tt
    three None None (Some e) on makes later = absurd makes
    three None (Some d) c on makes later = absurd on
    three (Some a) None c on makes later = absurd on
    three (Some a) (Some d) None on makes later = absurd makes
    three (Some a) (Some d) (Some e) on makes later = on_way_next x base names above rest n a d e later on makes

-- a step that stopped
pub goes_wrong : (T U : Type 0) (stop : Stop) (base names above left rest : List (List ℕ)) (n : List ℕ) (path : List (List ℕ)) (old mid new : DiskState) → left ≡ n ∷ rest → path ≡ above ++ n ∷ [] → GoesDown base names above left old mid
    → MakesFolder {T = T} path (Err stop) mid new → MakesDown {T = U} base names (Err stop) old new
goes_wrong T U stop base names above left rest n path old mid new left_is path_is goes makes =
    let here = subst (λ l. BothTold (IsOnWay base names above l) old.told mid.told) left_is goes.told in
    let there = subst (λ p. BothTold (MakesFolderTold {T = T} p (Err stop)) mid.told new.told) path_is makes.told in
    record { follows = follows_then old mid new goes.follows makes.follows; told = three old.told mid.told new.told here there }
  where
    three : (a b c : Option Told) → BothTold (IsOnWay base names above (n ∷ rest)) a b → BothTold (MakesFolderTold {T = T} (above ++ n ∷ []) (Err stop)) b c → BothTold (MakesDownTold {T = U} base names (Err stop)) a c
    three None None None on makes = tt
    three None None (Some e) on makes = absurd makes
    three None (Some d) c on makes = absurd on
    three (Some a) None c on makes = absurd on
    three (Some a) (Some d) None on makes = absurd makes
    three (Some a) (Some d) (Some e) on makes = record {
      spares = λ p out. unchanged_then a d e p on.later (on.spares p out) (makes.spares p (side_of base names above rest n a d on p out (is_folder (a.places (above ++ n ∷ [])).node) refl));
      ends = tt;
    }

-- it stopped before a step
pub goes_short : (U : Type 0) (stop : Stop) (base names above left : List (List ℕ)) (old new : DiskState) → GoesDown base names above left old new → MakesDown {T = U} base names (Err stop) old new
goes_short U stop base names above left old new goes = record {
  follows = goes.follows;
  told = told_map (IsOnWay base names above left) (MakesDownTold {T = U} base names (Err stop)) (λ d e on. record { spares = on.spares; ends = tt }) old.told new.told goes.told;
}

-- the way is done
pub goes_to_end : {U : Type 0} (x : U) (base names above left : List (List ℕ)) (old new : DiskState) → left ≡ [] → GoesDown base names above left old new → MakesDown {T = U} base names (Ok x) old new
goes_to_end {U} x base names above left old new left_is goes = record {
  follows = goes.follows;
  told = told_map (IsOnWay base names above left) (MakesDownTold {T = U} base names (Ok x))
      (λ d e on. record {
        spares = on.spares;
        ends = subst (λ q. IsMadeDown q d.places e.places) (sym (append-nil above) ∙ ap (λ l. above ++ l) (sym left_is) ∙ on.split) on.made;
      }) old.told new.told goes.told;
}

-- where the disk rests first, it is made as from the beginning
pub rests_makes : {T : Type 0} (result : Result T Stop) (path : List (List ℕ)) (old mid new : DiskState) → Rests old mid → MakesFolder path result mid new → MakesFolder path result old new
rests_makes result path old mid new rests makes = record {
  follows = follows_then old mid new (rests_follow old mid rests) makes.follows;
  told = subst (λ o. BothTold (MakesFolderTold path result) o new.told) rests.told makes.told;
}

-- the folders above one that stands may be synced, where nothing changed what stands
pub may_sync_prefix : (end path : List (List ℕ)) (k : ℕ) (old mid : DiskState) → path ≡ take k end → MayList old end → Works nowhere nowhere 0 old mid → IfSome mid.told IsDisk → MayCall (sync_dir path) mid
may_sync_prefix end path k old mid path_is may works disk =
    subst (λ q. MayCall (sync_dir q) mid) (sym path_is)
    (if_two (λ e. (e.places end).node ≡ Some folder) IsDisk (λ e. is_folder (e.places (take k end)).node ≡ true)
    (λ e there disk. ap is_folder (folder_above e.places disk.tree (take k end) (drop k end) (ap (λ q. (e.places q).node) (take-append-drop k end) ∙ there))) mid.told
    (told_second (λ d. is_folder (d.places end).node ≡ true) (λ e. (e.places end).node ≡ Some folder) (WorksTold nowhere 0) (λ d e is told. told.now end refl ∙ is_folder_from _ is) old.told mid.told may works.told) disk)

-- a fault that comes late counts as one since the beginning
pub out_fault_since : (old mid new : DiskState) (e : Stop) → old.faults ≤ mid.faults → (e ≡ stops.OutFault) × Rose mid.faults new.faults → OutCause old new e
out_fault_since old mid new e count cause = subst (OutCause old new) (sym cause.0) (rose_since old.faults mid.faults new.faults count cause.1)

pub out_cause_since : (old mid new : DiskState) (e : Stop) → old.faults ≤ mid.faults → OutCause mid new e → OutCause old new e
out_cause_since old mid new stops.OutOfMemory count cause = tt
out_cause_since old mid new (stops.Refused refusal) count cause = cause
out_cause_since old mid new stops.DiskFault count cause = cause
out_cause_since old mid new stops.OutFault count cause = rose_since old.faults mid.faults new.faults count cause
out_cause_since old mid new (stops.BadStore why) count cause = cause
out_cause_since old mid new stops.Unfinished count cause = cause

-- and so below the first name of the way
pub below_name : (t : List (List ℕ) → Option Node) (a : List (List ℕ)) (n : List ℕ) (names p : List (List ℕ)) → is_at_or_below (first_missing t a (n ∷ names)) p ≡ true → is_prefix (a ++ n ∷ []) p ≡ true
below_name t a n names p is = side (is_folder (t (a ++ n ∷ []))) is
  where
    side : (b : Bool) → is_at_or_below (cond b (first_missing t (a ++ n ∷ []) names) (Some (a ++ n ∷ []))) p ≡ true → is_prefix (a ++ n ∷ []) p ≡ true
    side true here = below_first t (a ++ n ∷ []) names p here
    side false here = here
