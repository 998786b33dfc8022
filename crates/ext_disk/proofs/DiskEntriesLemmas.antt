-- What a change of the map does to the places that it says.
use Rattle.std.proofs.Common.{◌≡◌, ◌≢◌, ℕ, Bool, true, false, cond, List, [], ◌∷◌, Option, Some, None, IsSome, Result, Ok, Err, OnOk, OnErr, refl, sym, ap, ◌∙◌, subst}
use Rattle.std.proofs.lemmas.Bool.{false≢true, true≢false}
use Rattle.std.specs.BTreeMap.{get, is_at, Updates, WritesThrough}
use Rattle.std.specs.Option.{is_some}
use Rattle.std.specs.Ordering.{eq_by_cmp}
use Rattle.ext_text.specs.Path.{path_cmp}
use Rattle.ext_text.proofs.ForCallers.{same_path}
use Rattle.ext_disk.specs.Disk.{Place, Places, absent, is_file}
use Rattle.ext_disk.specs.Calls.{put, is_child}
use Rattle.ext_disk.specs.DiskEntries.{DiskEntries, place_of, place_at, found_place}
use Rattle.ext_disk.specs.declared.disk_entry.DiskEntry.{DiskEntry}

found_either : (b : Bool) (x y : Option DiskEntry) → found_place (cond b x y) ≡ cond b (found_place x) (found_place y)
found_either true x y = refl
found_either false x y = refl

-- a entry that is put into the map is put at its path, which is not the root
pub put_at : (m n : DiskEntries) (p : List (List ℕ)) (disk_entry : DiskEntry) → p ≢ [] → ((q : List (List ℕ)) → get path_cmp n q ≡ cond (is_at (path_cmp p) q) (Some disk_entry) (get path_cmp m q))
    → (q : List (List ℕ)) → place_at n q ≡ put p (place_of disk_entry) (place_at m) q
put_at m n [] disk_entry some updates q = absurd (some refl)
put_at m n (k ∷ p) disk_entry some updates [] = refl
put_at m n (k ∷ p) disk_entry some updates (l ∷ q) = ap found_place (updates (l ∷ q)) ∙ found_either (eq_by_cmp path_cmp (k ∷ p) (l ∷ q)) (Some disk_entry) (get path_cmp m (l ∷ q))

-- where a file stands, it is not at the root
pub file_no_root : (m : DiskEntries) (p : List (List ℕ)) → is_file (place_at m p).node ≡ true → p ≢ []
file_no_root m p file root = false≢true (subst (λ q. is_file (place_at m q).node ≡ true) root file)

-- and the map has a entry there
pub file_found : (m : DiskEntries) (p : List (List ℕ)) → is_file (place_at m p).node ≡ true → get path_cmp m p ≡ None → ⊥
file_found m [] file none = false≢true file
file_found m (k ∷ p) file none = false≢true (subst (λ o. is_file (found_place o).node ≡ true) none file)

pub found_at : (m : DiskEntries) (p : List (List ℕ)) (disk_entry : DiskEntry) → p ≢ [] → get path_cmp m p ≡ Some disk_entry → place_at m p ≡ place_of disk_entry
found_at m [] disk_entry some is = absurd (some refl)
found_at m (k ∷ p) disk_entry some is = ap found_place is

-- the same, where the key equals the path
pub put_key : (m n : DiskEntries) (key p : List (List ℕ)) (disk_entry : DiskEntry) → key ≡ p → p ≢ [] → Updates path_cmp m n key (Some disk_entry) → (q : List (List ℕ)) → place_at n q ≡ put p (place_of disk_entry) (place_at m) q
put_key m n key p disk_entry same some updates =
    subst (λ k. (q : List (List ℕ)) → place_at n q ≡ put k (place_of disk_entry) (place_at m) q) same
    (put_at m n key disk_entry (λ root. some (sym same ∙ root)) updates.0)

put_back_at : (b : Bool) (x y : Place) → (b ≡ true → x ≡ y) → cond b x y ≡ y
put_back_at true x y same = same refl
put_back_at false x y same = refl

-- nothing changes where what stands at a path is put there
pub put_back : (p : List (List ℕ)) (x : Place) (d : Places) → x ≡ d p → (q : List (List ℕ)) → put p x d q ≡ d q
put_back p x d same q = put_back_at (eq_by_cmp path_cmp p q) x (d q) (λ tied. same ∙ ap d (same_path p q tied))

-- a entry that is changed through a borrow, but not in what it says
pub write_back : (m n : DiskEntries) (p : List (List ℕ)) (old new : DiskEntry) → p ≢ [] → Some old ≡ get path_cmp m p → WritesThrough path_cmp (path_cmp p) m new n → place_of new ≡ place_of old
    → (q : List (List ℕ)) → place_at n q ≡ place_at m q
write_back m n p old new some is writes same q =
    put_at m n p new some (writes.3 (subst IsSome is refl)).0 q
    ∙ put_back p (place_of new) (place_at m) (same ∙ sym (found_at m p old some (sym is))) q

pub on_err : {T E : Type 0} (r : Result T E) (P Q : Type 0) → (P → Q) → OnErr r P → OnErr r Q
on_err (Ok x) P Q gives holds = tt
on_err (Err e) P Q gives holds = gives holds

none_found : (o : Option DiskEntry) → is_some o ≡ false → o ≡ None
none_found None none = refl
none_found (Some disk_entry) none = absurd (true≢false none)

pub absent_at : (m : DiskEntries) (p : List (List ℕ)) → p ≢ [] → is_some (get path_cmp m p) ≡ false → place_at m p ≡ absent
absent_at m [] some none = absurd (some refl)
absent_at m (k ∷ p) some none = ap found_place (none_found (get path_cmp m (k ∷ p)) none)

-- an empty entry changes nothing where there was none
pub put_absent : (m n : DiskEntries) (p : List (List ℕ)) (disk_entry : DiskEntry) → p ≢ [] → is_some (get path_cmp m p) ≡ false → place_of disk_entry ≡ absent
    → ((q : List (List ℕ)) → place_at n q ≡ put p (place_of disk_entry) (place_at m) q) → (q : List (List ℕ)) → place_at n q ≡ place_at m q
put_absent m n p disk_entry some none empty puts q = puts q ∙ put_back p (place_of disk_entry) (place_at m) (empty ∙ sym (absent_at m p some none)) q

pub no_child_root : (dir : List (List ℕ)) → is_child dir [] ≡ false
no_child_root [] = refl
no_child_root (k ∷ dir) = refl

pub on_ok : {T E : Type 0} (r : Result T E) (P Q : Type 0) → (P → Q) → OnOk r P → OnOk r Q
on_ok (Ok x) P Q gives holds = gives holds
on_ok (Err e) P Q gives holds = tt
