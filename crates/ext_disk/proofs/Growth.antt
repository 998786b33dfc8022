-- What a disk in memory keeps through each deed: that it holds a tree.
use Rattle.std.proofs.Common.{◌≡◌, ◌≢◌, ◌⊎◌, ℕ, Bool, true, false, cond, ◌&&◌, List, [], ◌∷◌, ◌++◌, length, get_or, drop, unwrap_or, Option, Some, None, refl, sym, ap, ◌∙◌, subst, inl, inr, arith, length-append}
use Rattle.std.proofs.lemmas.Bool.{false≢true}
use Rattle.std.specs.Option.{is_some}
use Rattle.std.specs.Ordering.{eq_by_cmp}
use Rattle.ext_text.specs.Path.{path_cmp}
use Rattle.ext_text.proofs.ForCallers.{same_path}
use Rattle.ext_disk.specs.Disk.{Node, folder, file, Place, Places, Swing, is_folder, is_file, is_no_folder, is_durable, root_place}
use Rattle.ext_disk.specs.Calls.{Call, look, make_dir, make_file, append, sync_file, sync_dir, rename, remove, IsFree, CanRename, IsEmptyFolder, Allows, put, is_child, with_unsynced_name, written, synced, synced_in, without_renames_in, left_place, reached_place, removed, after, bytes_of}
use Rattle.ext_disk.specs.DiskEntries.{IsGrown, IsReached}
use Rattle.ext_disk.proofs.Paths.{put_here}
use Rattle.ext_disk.proofs.DiskEntriesLemmas.{no_child_root}

file_no_folder : (o : Option Node) → is_file o ≡ true → is_no_folder o ≡ true
file_no_folder None is = absurd (false≢true is)
file_no_folder (Some folder) is = absurd (false≢true is)
file_no_folder (Some (file bytes)) is = refl

file_there : (o : Option Node) → is_file o ≡ true → is_some o ≡ true
file_there None is = is
file_there (Some n) is = refl

pub folder_is : (o : Option Node) → is_folder o ≡ true → o ≡ Some folder
folder_is None is = absurd (false≢true is)
folder_is (Some folder) is = refl
folder_is (Some (file bytes)) is = absurd (false≢true is)

none_or_some : (o : Option Node) → (o ≡ None) ⊎ (is_some o ≡ true)
none_or_some None = inl refl
none_or_some (Some n) = inr refl

pub tied_or : (b : Bool) → (b ≡ true) ⊎ (b ≡ false)
tied_or true = inl refl
tied_or false = inr refl

pub path_or : (p q : List (List ℕ)) → (p ≡ q) ⊎ (eq_by_cmp path_cmp p q ≡ false)
path_or p q = elim (tied_or (eq_by_cmp path_cmp p q)) [ inl tied ↦ inl (same_path p q tied) | inr apart ↦ inr apart ]

pub put_other : (p : List (List ℕ)) (x : Place) (d : Places) (q : List (List ℕ)) → eq_by_cmp path_cmp p q ≡ false → put p x d q ≡ d q
put_other p x d q apart = ap (λ b. cond b x (d q)) apart

pub put_same : (p : List (List ℕ)) (x : Place) (d : Places) (q : List (List ℕ)) → p ≡ q → put p x d q ≡ x
put_same p x d q same = subst (λ r. put p x d r ≡ x) same (put_here p x d)

head_same : {X : Type 0} (x y : X) (xs ys : List X) → x ∷ xs ≡ y ∷ ys → x ≡ y
head_same x y xs ys same = ap (λ l. get_or l 0 x) same

tail_same : {X : Type 0} (x y : X) (xs ys : List X) → x ∷ xs ≡ y ∷ ys → xs ≡ ys
tail_same x y xs ys same = ap (λ l. drop 1 l) same

pub some_same : {X : Type 0} (x y : X) → Some x ≡ Some y → x ≡ y
some_same x y same = ap (λ o. unwrap_or o x) same

-- two paths of one more name each are equal where their folders are, and their names
pub snoc_same : (p q : List (List ℕ)) (n m : List ℕ) → p ++ n ∷ [] ≡ q ++ m ∷ [] → p ≡ q
snoc_same [] [] n m same = refl
snoc_same [] (k ∷ q) n m same = absurd (omega (arith, ap length same, length-append q (m ∷ [])))
snoc_same (k ∷ p) [] n m same = absurd (omega (arith, ap length same, length-append p (n ∷ [])))
snoc_same (k ∷ p) (l ∷ q) n m same = λ i. head_same k l _ _ same i ∷ snoc_same p q n m (tail_same k l _ _ same) i

pub longer_apart : (p : List (List ℕ)) (n : List ℕ) → p ≡ p ++ n ∷ [] → ⊥
longer_apart p n same = absurd (omega (arith, ap length same, length-append p (n ∷ [])))

pub snoc_no_root : (p : List (List ℕ)) (n : List ℕ) → p ++ n ∷ [] ≢ []
snoc_no_root p n same = absurd (omega (arith, ap length same, length-append p (n ∷ [])))

-- what stands below a path that is no folder: nothing
pub none_below : (d : Places) (p : List (List ℕ)) (n : List ℕ) → IsGrown d → is_no_folder (d p).node ≡ true → (d (p ++ n ∷ [])).node ≡ None
none_below d p n grown is = elim (none_or_some (d (p ++ n ∷ [])).node) [
  | inl none ↦ none
  | inr some ↦ absurd (false≢true (ap is_no_folder (sym (grown.parents p n some)) ∙ is))
]

-- a place that is put: its folder is there if anything stands at it, nothing is lost below it, and its rename is well formed
pub put_grows : (p : List (List ℕ)) (x : Place) (d : Places) → IsGrown d → p ≢ []
    → ((q : List (List ℕ)) (n : List ℕ) → p ≡ q ++ n ∷ [] → is_some x.node ≡ true → (d q).node ≡ Some folder)
    → ((n : List ℕ) → (x.node ≡ Some folder) ⊎ ((d (p ++ n ∷ [])).node ≡ None))
    → ((w : Swing) → x.unsynced_rename ≡ Some w → IsReached w x.node) → IsGrown (put p x d)
put_grows p x d grown some above below unsynced_rename = record {
  root = elim (path_or p []) [ inl same ↦ absurd (some same) | inr apart ↦ put_other p x d [] apart ∙ grown.root ];
  parents = λ q n there. elim (path_or p (q ++ n ∷ [])) [
    | inl same ↦
        let x_there : is_some x.node ≡ true = ap (λ y. is_some y.node) (sym (put_same p x d (q ++ n ∷ []) same)) ∙ there in
        elim (path_or p q) [
          | inl here ↦ absurd (longer_apart q n (sym here ∙ same))
          | inr apart ↦ ap (λ y. y.node) (put_other p x d q apart) ∙ above q n same x_there
        ]
    | inr other ↦
        let old_there : is_some (d (q ++ n ∷ [])).node ≡ true = ap (λ y. is_some y.node) (sym (put_other p x d (q ++ n ∷ []) other)) ∙ there in
        elim (path_or p q) [
          | inl here ↦ elim (below n) [
            | inl is ↦ ap (λ y. y.node) (put_same p x d q here) ∙ is
            | inr none ↦ absurd (false≢true (ap is_some (sym none ∙ ap (λ r. (d (r ++ n ∷ [])).node) here) ∙ old_there))
          ]
          | inr apart ↦ ap (λ y. y.node) (put_other p x d q apart) ∙ grown.parents q n old_there
        ]
  ];
  swings = λ q w is. elim (path_or p q) [
    | inl here ↦
        subst (λ y. IsReached w y.node) (sym (put_same p x d q here)) (unsynced_rename w (ap (λ y. y.unsynced_rename) (sym (put_same p x d q here)) ∙ is))
    | inr apart ↦
        subst (λ y. IsReached w y.node) (sym (put_other p x d q apart)) (grown.swings q w (ap (λ y. y.unsynced_rename) (sym (put_other p x d q apart)) ∙ is))
  ];
}

-- marks that are taken away
pub marks_grow : (d e : Places) → IsGrown d → e [] ≡ root_place → ((q : List (List ℕ)) → (e q).node ≡ (d q).node)
    → ((q : List (List ℕ)) (w : Swing) → (e q).unsynced_rename ≡ Some w → (d q).unsynced_rename ≡ Some w) → IsGrown e
marks_grow d e grown root nodes unsynced_rename = record {
  root = root;
  parents = λ p n there. nodes p ∙ grown.parents p n (ap is_some (sym (nodes (p ++ n ∷ []))) ∙ there);
  swings = λ p w is. subst (λ o. IsReached w o) (sym (nodes p)) (grown.swings p w (unsynced_rename p w is));
}

pub none_none : {X : Type 0} (w : X) → {C : Type 0} → None ≡ Some w → C
none_none w same = absurd (false≢true (ap is_some same))

make_grows : (p : List (List ℕ)) (node : Option Node) (unsynced_bytes : Bool) (d : Places) → IsGrown d → IsFree d p → IsGrown (put p (with_unsynced_name node unsynced_bytes) d)
make_grows p node unsynced_bytes d grown free =
    put_grows p (with_unsynced_name node unsynced_bytes) d grown (λ root. snoc_no_root free.dir free.name (sym free.path_is ∙ root))
    (λ q n is there. ap (λ r. (d r).node) (snoc_same q free.dir n free.name (sym is ∙ free.path_is)) ∙ free.dir_there)
    (λ n. inr (none_below d p n grown (ap is_no_folder free.path_absent)))
    (λ w is. none_none w is)

write_grows : (p : List (List ℕ)) (x : Place) (d : Places) → IsGrown d → is_file (d p).node ≡ true → ((w : Swing) → x.unsynced_rename ≡ Some w → IsReached w x.node) → IsGrown (put p x d)
write_grows p x d grown is unsynced_rename =
    put_grows p x d grown (λ root. false≢true (ap (λ y. is_file y.node) (sym grown.root ∙ ap d (sym root)) ∙ is))
    (λ q n same there. grown.parents q n (ap (λ r. is_some (d r).node) (sym same) ∙ file_there _ is))
    (λ n. inr (none_below d p n grown (file_no_folder _ is)))
    unsynced_rename

synced_node : (b : Bool) (x : Place) → (cond b (synced x) x).node ≡ x.node
synced_node true x = refl
synced_node false x = refl

synced_rename : (b : Bool) (x : Place) (w : Swing) → (cond b (synced x) x).unsynced_rename ≡ Some w → x.unsynced_rename ≡ Some w
synced_rename true x w is = none_none w is
synced_rename false x w is = is

without_renames_node : (b : Bool) (x : Place) → (cond b (record x { unsynced_rename = None }) x).node ≡ x.node
without_renames_node true x = refl
without_renames_node false x = refl

without_renames_none : (b : Bool) (x : Place) (w : Swing) → (cond b (record x { unsynced_rename = None }) x).unsynced_rename ≡ Some w → x.unsynced_rename ≡ Some w
without_renames_none true x w is = none_none w is
without_renames_none false x w is = is

sync_grows : (p : List (List ℕ)) (d : Places) → IsGrown d → IsGrown (synced_in p d)
sync_grows p d grown =
    marks_grow d (synced_in p d) grown (ap (λ b. cond b (synced (d [])) (d [])) (no_child_root p) ∙ grown.root)
    (λ q. synced_node (is_child p q) (d q)) (λ q w is. synced_rename (is_child p q) (d q) w is)

without_renames_grows : (p : List (List ℕ)) (d : Places) → IsGrown d → IsGrown (without_renames_in p d)
without_renames_grows p d grown =
    marks_grow d (without_renames_in p d) grown (ap (λ b. cond b (record (d []) { unsynced_rename = None }) (d [])) (no_child_root p) ∙ grown.root)
    (λ q. without_renames_node (is_child p q) (d q)) (λ q w is. without_renames_none (is_child p q) (d q) w is)

-- a path that goes, below which nothing stands
go_grows : (p : List (List ℕ)) (x : Place) (d : Places) → IsGrown d → p ≢ [] → x.node ≡ None → x.unsynced_rename ≡ None → ((n : List ℕ) → (d (p ++ n ∷ [])).node ≡ None) → IsGrown (put p x d)
go_grows p x d grown some none without_rename below =
    put_grows p x d grown some (λ q n is there. absurd (false≢true (ap is_some (sym none) ∙ there))) (λ n. inr (below n))
    (λ w is. none_none w (sym without_rename ∙ is))

pub remove_below : (p : List (List ℕ)) (d : Places) → IsGrown d → (is_file (d p).node ≡ true) ⊎ IsEmptyFolder d p → (p ≢ []) × ((n : List ℕ) → (d (p ++ n ∷ [])).node ≡ None)
remove_below p d grown (inl is) =
    (λ root. false≢true (ap (λ y. is_file y.node) (sym grown.root ∙ ap d (sym root)) ∙ is), λ n. none_below d p n grown (file_no_folder _ is))
remove_below p d grown (inr empty) = (empty.no_root, empty.empty)

remove_grows : (p : List (List ℕ)) (d : Places) → IsGrown d → (is_file (d p).node ≡ true) ⊎ IsEmptyFolder d p → IsGrown (removed p false d)
remove_grows p d grown allowed =
    let below = remove_below p d grown allowed in
    go_grows p (with_unsynced_name None false) (without_renames_in p d) (without_renames_grows p d grown) below.0 refl refl
    (λ n. without_renames_node (is_child p (p ++ n ∷ [])) (d (p ++ n ∷ [])) ∙ below.1 n)

reached_node : (durable : Bool) (from to : Place) → (reached_place true durable from to).node ≡ from.node
reached_node true from to = refl
reached_node false from to = refl

reached_rename : (durable : Bool) (from to : Place) (w : Swing) → is_file from.node ≡ true → is_no_folder to.node ≡ true → (reached_place true durable from to).unsynced_rename ≡ Some w → IsReached w (reached_place true durable from to).node
reached_rename true from to w is free same = subst (λ s. IsReached s from.node) (some_same _ w same) (record { before = free; after = is; stands = refl })
reached_rename false from to w is free same = none_none w same

rename_grows : (from to : List (List ℕ)) (durable : Bool) (d : Places) → IsGrown d → CanRename d from to
    → IsGrown (put from (left_place true (d from)) (put to (reached_place true durable (d from) (d to)) d))
rename_grows from to durable d grown can =
    let x = reached_place true durable (d from) (d to) in
    let dir_there : (d can.dir).node ≡ Some folder = grown.parents can.dir can.old_name (ap (λ r. is_some (d r).node) (sym can.from_is) ∙ file_there _ can.from_file) in
    let moved : IsGrown (put to x d) =
    put_grows to x d grown (λ root. snoc_no_root can.dir can.new_name (sym can.to_is ∙ root))
    (λ q n is there. ap (λ r. (d r).node) (snoc_same q can.dir n can.new_name (sym is ∙ can.to_is)) ∙ dir_there)
    (λ n. inr (none_below d to n grown can.to_free))
    (λ w is. reached_rename durable (d from) (d to) w can.from_file can.to_free is) in
    let stands : put to x d from ≡ d from = elim (path_or to from) [ inl same ↦ absurd (can.two (sym same)) | inr apart ↦ put_other to x d from apart ] in
    go_grows from (left_place true (d from)) (put to x d) moved (λ root. snoc_no_root can.dir can.old_name (sym can.from_is ∙ root)) refl refl
    (λ n. none_below (put to x d) from n moved (ap (λ y. is_no_folder y.node) stands ∙ file_no_folder _ can.from_file))

-- a tree in memory stays one through each call that is allowed
pub call_grows : (call : Call) (d : Places) → IsGrown d → Allows call d → IsGrown (after call d)
call_grows look d grown allowed = grown
call_grows (make_dir p) d grown allowed = make_grows p (Some folder) false d grown allowed
call_grows (make_file p) d grown allowed = make_grows p (Some (file [])) true d grown allowed
call_grows (append p bytes) d grown allowed = write_grows p (written (bytes_of (d p).node ++ bytes) (d p)) d grown allowed.0 (λ w is. none_none w is)
call_grows (sync_file p) d grown allowed = write_grows p (record (d p) { unsynced_bytes = false }) d grown allowed (λ w is. grown.swings p w is)
call_grows (sync_dir p) d grown allowed = sync_grows p d grown
call_grows (rename from to) d grown allowed = rename_grows from to (is_durable d from && is_durable d to) d grown allowed
call_grows (remove p) d grown allowed = remove_grows p d grown allowed
