-- A brought file written as the file of a number: what stands before, between and after.
use Rattle.std.proofs.Common.{◌≡◌, ◌≢◌, ◌⊎◌, ℕ, ◌+◌, ◌-◌, ◌%◌, ◌<◌, ◌≤◌, true, false, List, [], ◌∷◌, length, take, drop, Option, Some, None, IfSome, refl, sym, ap, ◌∙◌, subst, inl, inr, arith}
use Rattle.std.proofs.lemmas.Bool.{cases_Bool, cases_lt}
use Rattle.std.specs.List.{sum_by}
use Rattle.std.specs.Option.{is_some}
use Rattle.ext_lines.specs.Hexadecimal.{five_digits}
use Rattle.ext_text.specs.Path.{is_prefix}
use Rattle.ext_text.proofs.ForCallers.{same_path}
use Rattle.ext_disk.specs.Disk.{Node, folder, Places, Told, DiskState, BothTold}
use Rattle.ext_disk.specs.Calls.{IsFree, MayCall, make_dir, make_file}
use Rattle.ext_disk.specs.Fixed.{IsUnchangedAt}
use Rattle.ext_tree.specs.declared.stamp.Stamp.{Stamp}
use Rattle.ext_host.specs.Shelf as shelf
use Rattle.ext_store_files.specs.Names.{generation_path, home_folder, home_path}
use Rattle.ext_store_files.specs.Appended.{raised, RaisesTold, RaisesWithin, Raises}
use Rattle.ext_store_files.specs.Writing.{is_at, Works, WorksTold, IsMade, IsWritten, Holds}
use Rattle.ext_store_files.proofs.ForCallers.{holds_map, holds_then, proper_append, within_none, works_then, works_wider}
use Rattle.ext_homes.specs.Written.{is_below, HasOnlyHomes, HasHomes, Writes}
use Rattle.ext_homes.specs.Writing.{IsNumberOpen, Opens, IsPut, WritesBrought}
use Rattle.ext_homes.proofs.HomePathsLemmas.{apart_from_folder, apart_from_home, home_no_folder, new_folder, not_at, one_home_path, outside, out_of_folder, out_of_home, same_folder}

none_at : (o : Option Node) → (is_some o ≡ true → ⊥) → o ≡ None
none_at None out = refl
none_at (Some node) out = absurd (out refl)

-- with a higher limit no more homes are among them
pub more_homes : (n low high : ℕ) (d : Places) → low ≤ high → HasOnlyHomes n low d → HasOnlyHomes n high d
more_homes n low high d fits only p below some = let at = only p below some in let less = at.1 in (at.0, omega arith, at.2)

-- nothing stands at the home of the next number
home_free : (n k : ℕ) (d : Places) → k < 262144 → HasOnlyHomes n k d → (d (home_path n k)).node ≡ None
home_free n k d high only = none_at (d (home_path n k)).node (λ some.
    let at = only (home_path n k) (proper_append (generation_path n) (take 3 (five_digits k)) (drop 3 (five_digits k) ∷ [])) some in
    let less = at.1 in
    elim at.2 [
      | inl is ↦ home_no_folder n k at.0 is
      | inr is ↦ let same = one_home_path n k at.0 high (omega arith) is in absurd (omega arith)
    ])

-- nor at its folder, where the file is the first one there
folder_free : (n k : ℕ) (d : Places) → k < 262144 → k % 256 ≡ 0 → HasOnlyHomes n k d → (d (home_folder n k)).node ≡ None
folder_free n k d high first only = none_at (d (home_folder n k)).node (λ some.
    let at = only (home_folder n k) (proper_append (generation_path n) (take 3 (five_digits k)) []) some in
    elim at.2 [
      | inl is ↦ new_folder n at.0 k at.1 high first is
      | inr is ↦ home_no_folder n at.0 k (sym is)
    ])

-- the folder may be made
pub may_make_folder : (n k : ℕ) (s : DiskState) → k < 262144 → k % 256 ≡ 0 → Holds (HasHomes n k) s → MayCall (make_dir (home_folder n k)) s
may_make_folder n k s high first homes = holds_map (HasHomes n k) (λ d. IsFree d (home_folder n k))
    (λ d has. record {
      dir = generation_path n;
      name = take 3 (five_digits k);
      path_is = refl;
      dir_there = has.root;
      path_absent = folder_free n k d high first has.only;
    }) s.told homes

-- the folder is there already
still_open : (n k : ℕ) (d : Places) → k < 262144 → k % 256 ≢ 0 → HasHomes n k d → IsNumberOpen n k d
still_open n k d high inside has = record {
  root = has.root;
  folders = λ j less. elim (cases_lt j k) [
    | inl before ↦ has.folders j before
    | inr at ↦
        let same : j ≡ k = omega arith in
        subst (λ i. (d (home_folder n i)).node ≡ Some folder) (sym same)
        (subst (λ q. (d q).node ≡ Some folder) (same_folder n k high inside) (has.folders (k - 1) (let some = inside in omega arith)))
  ];
  free = home_free n k d high has.only;
  only = more_homes n k (k + 1) d (omega arith) has.only;
}

pub opens_itself : (n k : ℕ) (s : DiskState) → k < 262144 → k % 256 ≢ 0 → Holds (HasHomes n k) s → BothTold (Opens n k) s.told s.told
opens_itself n k s high inside homes = itself s.told homes
  where
    itself : (x : Option Told) → IfSome x (λ d. HasHomes n k d.places) → BothTold (Opens n k) x x
    itself None has = tt
    itself (Some d) has = record { open' = still_open n k d.places high inside has; earlier = λ j bytes less written. written }

other_at : (q p : List (List ℕ)) → q ≢ p → is_at q p ≡ false
other_at q p other = outside (is_at q p) false (λ tied. absurd (other (same_path q p tied))) refl

-- where a home or a folder changes alone, there are only homes and folders afterwards
only_after : (n k count : ℕ) (q : List (List ℕ)) (d e : Places) → (q ≡ home_folder n k) ⊎ (q ≡ home_path n k) → k < count → HasOnlyHomes n count d
    → ((p : List (List ℕ)) → is_at q p ≡ false → (e p).node ≡ (d p).node) → HasOnlyHomes n count e
only_after n k count q d e is less only now p below some = elim (cases_Bool (is_at q p)) [
  | inl at ↦
      let same : p ≡ q = sym (same_path q p at) in
      (k, less, elim is [ inl folder' ↦ inl (same ∙ folder') | inr home ↦ inr (same ∙ home) ])
  | inr out ↦ only p below (ap is_some (sym (now p out)) ∙ some)
]

-- what stays as it was stays as it was written
stays_written : (p : List (List ℕ)) (bytes : List ℕ) (d e : Told) → IsUnchangedAt d e p → IsWritten p bytes d.places → IsWritten p bytes e.places
stays_written p bytes d e unchanged written = record { node = unchanged.stays.node ∙ written.node; hard = unchanged.stays.hard written.hard }

opened : (n k : ℕ) (d e : Told) → k < 262144 → k % 256 ≡ 0 → HasHomes n k d.places → ((p : List (List ℕ)) → is_prefix (home_folder n k) p ≡ false → IsUnchangedAt d e p)
    → WorksTold (is_at (home_folder n k)) 0 d e → IsMade (home_folder n k) e.places → Opens n k d e
opened n k d e high first has unchanged works made = record {
  open' = record {
    root = works.now (generation_path n) (other_at (home_folder n k) (generation_path n) (λ same. let long = ap length same in absurd (omega arith))) ∙ has.root;
    folders = λ j less. elim (cases_lt j k) [
      | inl before ↦ works.now (home_folder n j) (other_at (home_folder n k) (home_folder n j) (new_folder n j k before high first)) ∙ has.folders j before
      | inr at ↦ let same : j ≡ k = omega arith in subst (λ i. (e.places (home_folder n i)).node ≡ Some folder) (sym same) made.node
    ];
    free = made.empty (home_path n k) (proper_append (home_folder n k) (drop 3 (five_digits k)) []);
    only = only_after n k (k + 1) (home_folder n k) d.places e.places (inl refl) (omega arith) (more_homes n k (k + 1) d.places (omega arith) has.only) works.now;
  };
  earlier = λ j bytes less written. stays_written (home_path n j) bytes d e (unchanged (home_path n j) (apart_from_folder n j k less high first)) written;
}

pub folder_opens : (n k : ℕ) (old new : DiskState) → k < 262144 → k % 256 ≡ 0 → Holds (HasHomes n k) old → Works (is_prefix (home_folder n k)) (is_at (home_folder n k)) 0 old new
    → Holds (IsMade (home_folder n k)) new → BothTold (Opens n k) old.told new.told
folder_opens n k old new high first homes works made = go old.told new.told homes works.spares.told works.told made
  where
    go : (x y : Option Told) → IfSome x (λ d. HasHomes n k d.places) → BothTold (λ d e. (p : List (List ℕ)) → is_prefix (home_folder n k) p ≡ false → IsUnchangedAt d e p) x y
        → BothTold (WorksTold (is_at (home_folder n k)) 0) x y → IfSome y (λ e. IsMade (home_folder n k) e.places) → BothTold (Opens n k) x y
    go None None has unchanged works made = tt
    go None (Some e) has unchanged works made = absurd works
    go (Some d) None has unchanged works made = absurd works
    go (Some d) (Some e) has unchanged works made = opened n k d e high first has unchanged works made

-- however the making of the folder ends
pub folder_only : (n k : ℕ) (old new : DiskState) → Holds (HasHomes n k) old → Works (is_prefix (home_folder n k)) (is_at (home_folder n k)) 0 old new → Holds (HasOnlyHomes n (k + 1)) new
folder_only n k old new homes works =
    holds_then (HasHomes n k) (HasOnlyHomes n (k + 1)) (WorksTold (is_at (home_folder n k)) 0)
    (λ d e has told. only_after n k (k + 1) (home_folder n k) d.places e.places (inl refl) (omega arith) (more_homes n k (k + 1) d.places (omega arith) has.only) told.now) old.told new.told homes works.told

pub folder_works : (n k : ℕ) (old new : DiskState) → Works (is_prefix (home_folder n k)) (is_at (home_folder n k)) 0 old new → Works (is_below n) (is_below n) 0 old new
folder_works n k old new works =
    works_wider (is_prefix (home_folder n k)) (is_below n) (is_at (home_folder n k)) (is_below n) 0 0 old new (omega arith)
    (λ p out. out_of_folder n k p out) (λ p out. not_at (home_folder n k) p (out_of_folder n k p out)) works

pub still_only : (n k : ℕ) (s : DiskState) → Holds (HasHomes n k) s → Holds (HasOnlyHomes n (k + 1)) s
still_only n k s homes = holds_map (HasHomes n k) (HasOnlyHomes n (k + 1)) (λ d has. more_homes n k (k + 1) d (omega arith) has.only) s.told homes

-- the file may be made
pub may_make_file : (n k : ℕ) (old new : DiskState) → BothTold (Opens n k) old.told new.told → MayCall (make_file (home_path n k)) new
may_make_file n k old new opens = go old.told new.told opens
  where
    go : (x y : Option Told) → BothTold (Opens n k) x y → IfSome y (λ e. IsFree e.places (home_path n k))
    go None None opens = tt
    go None (Some e) opens = absurd opens
    go (Some d) None opens = absurd opens
    go (Some d) (Some e) opens = record {
      dir = home_folder n k;
      name = drop 3 (five_digits k);
      path_is = refl;
      dir_there = opens.open'.folders k (omega arith);
      path_absent = opens.open'.free;
    }

-- nothing was appended, and then these bytes
raised_by : (bytes : List ℕ) (before amid after : ℕ) → RaisesWithin 0 before amid → after ≡ raised amid (length bytes) → after ≡ raised before (sum_by length (bytes ∷ []))
raised_by bytes before amid after first then =
    let one : length bytes ≡ sum_by length (bytes ∷ []) = omega arith in
    then ∙ ap (λ k. raised k (length bytes)) (within_none before amid first) ∙ ap (λ k. raised before k) one

wrote : (n k most : ℕ) (bytes : List ℕ) (c d e : Told) → k < 262144 → RaisesWithin 0 c.appended d.appended → Opens n k c d
    → ((p : List (List ℕ)) → is_prefix (home_path n k) p ≡ false → IsUnchangedAt d e p) → WorksTold (is_at (home_path n k)) most d e → IsWritten (home_path n k) bytes e.places
    → RaisesTold (length bytes) d e → Writes n k (bytes ∷ []) c e
wrote n k most bytes c d e high before opens unchanged works written raises = record {
  files = (written, tt);
  homes = record {
    root = works.now (generation_path n) (other_at (home_path n k) (generation_path n) (λ same. let more = ap length same in absurd (omega arith))) ∙ opens.open'.root;
    folders = λ j less. works.now (home_folder n j) (other_at (home_path n k) (home_folder n j) (home_no_folder n k j)) ∙ opens.open'.folders j less;
    only = only_after n k (k + 1) (home_path n k) d.places e.places (inr refl) (omega arith) opens.open'.only works.now;
  };
  earlier = λ j other less was.
      stays_written (home_path n j) other d e (unchanged (home_path n j) (apart_from_home n j k (omega arith) high (omega arith))) (opens.earlier j other less was);
  appended = raised_by bytes c.appended d.appended e.appended before raises;
}

pub file_written : (n k most : ℕ) (bytes : List ℕ) (old mid new : DiskState) → k < 262144 → Works (is_below n) (is_below n) 0 old mid → BothTold (Opens n k) old.told mid.told
    → Works (is_prefix (home_path n k)) (is_at (home_path n k)) most mid new → Holds (IsWritten (home_path n k) bytes) new → Raises (length bytes) mid new → BothTold (Writes n k (bytes ∷ [])) old.told new.told
file_written n k most bytes old mid new high first opens works written raises = go old.told mid.told new.told first.told opens works.spares.told works.told written raises
  where
    go : (x y z : Option Told) → BothTold (WorksTold (is_below n) 0) x y → BothTold (Opens n k) x y → BothTold (λ d e. (p : List (List ℕ)) → is_prefix (home_path n k) p ≡ false → IsUnchangedAt d e p) y z
        → BothTold (WorksTold (is_at (home_path n k)) most) y z → IfSome z (λ e. IsWritten (home_path n k) bytes e.places) → BothTold (RaisesTold (length bytes)) y z → BothTold (Writes n k (bytes ∷ [])) x z
    go None None None first opens unchanged works written raises = tt
    go None None (Some e) first opens unchanged works written raises = absurd works
    go None (Some d) z first opens unchanged works written raises = absurd opens
    go (Some c) None z first opens unchanged works written raises = absurd opens
    go (Some c) (Some d) None first opens unchanged works written raises = absurd works
    go (Some c) (Some d) (Some e) first opens unchanged works written raises = wrote n k most bytes c d e high first.appended opens unchanged works written raises

pub put_written : (n k : ℕ) (brought : shelf.Told) (stamp : Stamp) (old mid new : DiskState) → k < 262144 → Works (is_below n) (is_below n) 0 old mid → BothTold (Opens n k) old.told mid.told
    → Works (is_prefix (home_path n k)) (is_at (home_path n k)) stamp.size mid new → IsPut brought stamp (home_path n k) mid new → WritesBrought n k brought stamp old new
put_written n k brought stamp old mid new high first opens works put =
    (put.0, put.1, put.2, file_written n k stamp.size put.0 old mid new high first opens works put.3 put.4)

-- however the writing of the file ends
pub file_only : (n k most : ℕ) (old mid new : DiskState) → BothTold (Opens n k) old.told mid.told → Works (is_prefix (home_path n k)) (is_at (home_path n k)) most mid new
    → Holds (HasOnlyHomes n (k + 1)) new
file_only n k most old mid new opens works = go old.told mid.told new.told opens works.told
  where
    go : (x y z : Option Told) → BothTold (Opens n k) x y → BothTold (WorksTold (is_at (home_path n k)) most) y z → IfSome z (λ e. HasOnlyHomes n (k + 1) e.places)
    go None None None opens works = tt
    go None None (Some e) opens works = absurd works
    go None (Some d) z opens works = absurd opens
    go (Some c) None z opens works = absurd opens
    go (Some c) (Some d) None opens works = absurd works
    go (Some c) (Some d) (Some e) opens works = only_after n k (k + 1) (home_path n k) d.places e.places (inr refl) (omega arith) opens.open'.only works.now

pub file_works : (n k most : ℕ) (old mid new : DiskState) → Works (is_below n) (is_below n) 0 old mid → Works (is_prefix (home_path n k)) (is_at (home_path n k)) most mid new
    → Works (is_below n) (is_below n) most old new
file_works n k most old mid new first works =
    works_then (is_below n) (is_below n) 0 most most old mid new (omega arith) first
    (works_wider (is_prefix (home_path n k)) (is_below n) (is_at (home_path n k)) (is_below n) most most mid new (omega arith)
    (λ p out. out_of_home n k p out) (λ p out. not_at (home_path n k) p (out_of_home n k p out)) works)

pub only_folder_works : (n most : ℕ) (old mid : DiskState) → Works (is_below n) (is_below n) 0 old mid → Works (is_below n) (is_below n) most old mid
only_folder_works n most old mid works = works_wider (is_below n) (is_below n) (is_below n) (is_below n) 0 most old mid (omega arith) (λ p out. out) (λ p out. out) works
