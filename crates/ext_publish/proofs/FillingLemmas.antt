-- The files of a directory, written one after the other below its resource.
use Rattle.std.proofs.Common.{◌≡◌, ◌≢◌, ◌⊎◌, ℕ, ◌<◌, Bool, true, false, cond, List, [], ◌∷◌, ◌++◌, length, drop, Option, Some, None, IfSome, refl, sym, ap, ◌∙◌, subst, inl, inr, arith, append_assoc, length-append}
use Rattle.std.proofs.lemmas.Bool.{false≢true, and_parts, and_from}
use Rattle.std.specs.Option.{is_some}
use Rattle.std.specs.Ordering.{eq_by_cmp}
use Rattle.ext_text.specs.Path.{is_prefix, parent}
use Rattle.ext_text.proofs.ForCallers.{same_path, tied_path, prefix_self, prefix_trans, prefix_short, prefix_whole, parent_prefix, length-parent}
use Rattle.ext_disk.specs.Disk.{Node, Tree, folder, file, Place, Places, Told, IsTree, IsDisk, DiskState, BothTold, is_file, is_folder, is_synced, now}
use Rattle.ext_disk.specs.Calls.{IsFree, MayCall, make_file}
use Rattle.ext_disk.specs.Fixed.{IsUnchangedAt}
use Rattle.ext_tree.proofs.ForCallers.{parent_append}
use Rattle.ext_host.specs.Held.{HeldFile}
use Rattle.ext_store_files.specs.Writing.{IsWritten, is_at}
use Rattle.ext_publish.specs.Out.{first_file}
use Rattle.ext_store_files.specs.HeldFiles.{body_told}
use Rattle.std.specs.Prelude.{Ok}
use Rattle.ext_publish.proofs.TwoDisks.{if_map, told_second}
use Rattle.ext_publish.specs.Copying.{OnlyChangesAt, IsCopyOf, WorksAt}
use Rattle.ext_publish.specs.Filling.{IsFilledWith, IsOneMore, MayWriteOne}
use Rattle.ext_publish.specs.Folders.{IsCalmAt, IsMadeDown, MakesDown, MakesDownTold, MayMakeDown}
use Rattle.ext_disk.specs.Fixed.{Spares}
use Rattle.ext_store_files.proofs.ForCallers.{prefix_append, rest_of, told_map}
use Rattle.ext_publish.specs.Out.{first_missing, is_at_or_below}
use Rattle.std.specs.Prelude.{Result}
use Rattle.ext_publish.specs.declared.stop.Stop.{Stop}
use Rattle.ext_publish.proofs.PrefixLemmas.{drop_back}
use Rattle.ext_publish.proofs.FoldersLemmas.{below_name, folder_above}

-- no file on the way down where none stands at a prefix
pub no_file_down : (t : Tree) (a names : List (List ℕ)) → ((q : List (List ℕ)) → is_prefix q names ≡ true → q ≢ [] → is_file (t (a ++ q)) ≡ false) → first_file t a names ≡ None
no_file_down t a [] gives = refl
no_file_down t a (n ∷ names) gives =
    ap (λ b. cond b (Some (a ++ n ∷ [])) (first_file t (a ++ n ∷ []) names)) (gives (n ∷ []) (and_from _ _ (Rattle.ext_text.proofs.ForCallers.tied_name n n refl) refl) (λ same. false≢true (sym (ap some same))))
    ∙ no_file_down t (a ++ n ∷ []) names (λ q pre no_root. ap (λ p. is_file (t p)) (append_assoc a (n ∷ []) q) ∙ gives (n ∷ q) (and_from _ _ (Rattle.ext_text.proofs.ForCallers.tied_name n n refl) pre) (λ same. false≢true (sym (ap some same))))
  where
    some : List (List ℕ) → Bool
    some [] = false
    some (x ∷ xs) = true

-- the last name of a path that has one
pub last_of : (n : List ℕ) (q : List (List ℕ)) → (m : List ℕ) × (n ∷ q ≡ parent (n ∷ q) ++ m ∷ [])
last_of n [] = (n, refl)
last_of n (k ∷ q) =
    let rest = last_of k q in
    (rest.0, ap (λ r. n ∷ r) rest.1 ∙ ap (λ r. r ++ rest.0 ∷ []) (sym (parent_append (n ∷ []) k q)))

-- a path below a folder is the folder, the names down to its parent, and its last name
pub down_is : (above : List (List ℕ)) (n : List ℕ) (q : List (List ℕ)) → above ++ drop (length above) (parent (above ++ n ∷ q)) ≡ parent (above ++ n ∷ q)
down_is above n q =
    ap (λ r. above ++ drop (length above) r) (parent_append above n q) ∙ ap (λ r. above ++ r) (drop_back above (parent (n ∷ q))) ∙ sym (parent_append above n q)

-- no path is a prefix of its parent, where it has one
pub parent_apart : (above : List (List ℕ)) (n : List ℕ) (q : List (List ℕ)) → is_prefix (above ++ n ∷ q) (parent (above ++ n ∷ q)) ≡ false
parent_apart above n q = none (is_prefix (above ++ n ∷ q) (parent (above ++ n ∷ q))) refl
  where
    none : (b : Bool) → is_prefix (above ++ n ∷ q) (parent (above ++ n ∷ q)) ≡ b → is_prefix (above ++ n ∷ q) (parent (above ++ n ∷ q)) ≡ false
    none false is = is
    none true is =
        let some : 0 < length (above ++ n ∷ q) = omega (arith, length-append above (n ∷ q)) in
        absurd (omega (arith, prefix_short (above ++ n ∷ q) (parent (above ++ n ∷ q)) is, length-parent (above ++ n ∷ q) some))

prefix_out : (p q r : List (List ℕ)) → is_prefix q r ≡ true → is_prefix p r ≡ false → is_prefix p q ≡ false
prefix_out p q r below out = none (is_prefix p q) refl
  where
    none : (b : Bool) → is_prefix p q ≡ b → is_prefix p q ≡ false
    none false is = is
    none true is = absurd (false≢true (sym out ∙ prefix_trans p q r is below))

apart_at : (p path : List (List ℕ)) → is_prefix p path ≡ false → is_at path p ≡ false
apart_at p path out = none (is_at path p) refl
  where
    none : (b : Bool) → is_at path p ≡ b → is_at path p ≡ false
    none false is = is
    none true is = absurd (false≢true (sym out ∙ subst (λ q. is_prefix q path ≡ true) (same_path path p is) (prefix_self path)))

-- a folder was made for it, and then the file, at a path at which nothing stood
module _ (store : Rattle.ext_disk.specs.Disk.DiskState) (held : HeldFile) (end path : List (List ℕ)) (c d e : Places) (down : IsMadeDown end c d) (below : is_prefix end path ≡ true) (apart : is_prefix path end ≡ false)
    (none : (c path).node ≡ None) (tree : IsTree d) (changes : (p : List (List ℕ)) → is_at path p ≡ false → (e p).node ≡ (d p).node) (stays : (p : List (List ℕ)) → is_prefix path p ≡ false → Rattle.ext_disk.specs.Fixed.Stays d e p)
    (filled : IsFilledWith store held path e) where
  still_none : (d path).node ≡ None
  still_none = down.others path apart ∙ none

  more_others : (p : List (List ℕ)) → is_prefix p path ≡ false → (e p).node ≡ (c p).node
  more_others p out = changes p (apart_at p path out) ∙ down.others p (prefix_out p end path below out)

  not_there : (p : List (List ℕ)) → is_some (d p).node ≡ true → (b : Bool) → is_at path p ≡ b → is_at path p ≡ false
  not_there p some false is = is
  not_there p some true is = absurd (false≢true (sym (ap is_some still_none) ∙ (ap (λ q. is_some (d q).node) (same_path path p is) ∙ some)))

  more_keeps : (p : List (List ℕ)) → is_some (c p).node ≡ true → (e p).node ≡ (c p).node
  more_keeps p some = let was = down.keeps p some in changes p (not_there p (ap is_some was ∙ some) (is_at path p) refl) ∙ was

  -- a file that stands after the folders were made stood before
  file_was : (p : List (List ℕ)) → is_file (d p).node ≡ true → (o : Option Node) → (c p).node ≡ o → is_file (c p).node ≡ true
  file_was p is (Some node) was = ap is_file (sym (down.keeps p (ap is_some was))) ∙ is
  file_was p is None was = on_way (is_prefix p end) refl
    where
      on_way : (b : Bool) → is_prefix p end ≡ b → is_file (c p).node ≡ true
      on_way false out = absurd (false≢true (sym (ap is_file (down.others p out ∙ was)) ∙ is))
      on_way true pre =
          let rest = rest_of p end pre in
          absurd (false≢true (sym (ap is_file (folder_above d tree p rest.0 (ap (λ q. (d q).node) (sym rest.1) ∙ down.there))) ∙ is))

  more_files : (p : List (List ℕ)) → is_file (e p).node ≡ true → (b : Bool) → is_at path p ≡ b → (is_file (c p).node ≡ true) ⊎ (p ≡ path)
  more_files p is true tied = inr (sym (same_path path p tied))
  more_files p is false out = inl (file_was p (ap is_file (sym (changes p out)) ∙ is) (c p).node refl)

  calm_before : (p : List (List ℕ)) → (d p).node ≡ Some folder → ((c p).node ≡ Some folder → IsCalmAt c p) → (o : Option Node) → (c p).node ≡ o → IsCalmAt d p
  calm_before p is calm None was = down.fresh p was is
  calm_before p is calm (Some node) was = down.calm p (calm (sym (down.keeps p (ap is_some was)) ∙ is))

  out_of_reach : (p : List (List ℕ)) → (d p).node ≡ Some folder → (b : Bool) → is_prefix path p ≡ b → is_prefix path p ≡ false
  out_of_reach p is false out = out
  out_of_reach p is true pre =
      let rest = rest_of path p pre in
      absurd (false≢true (sym (ap is_some still_none) ∙ ap is_some (folder_above d tree path rest.0 (ap (λ q. (d q).node) (sym rest.1) ∙ is))))

  more_calm : (p : List (List ℕ)) → (e p).node ≡ Some folder → ((c p).node ≡ Some folder → IsCalmAt c p) → (b : Bool) → is_at path p ≡ b → IsCalmAt e p
  more_calm p is calm true tied =
      absurd (false≢true (sym (ap is_file is) ∙ (ap (λ q. is_file (e q).node) (sym (same_path path p tied)) ∙ ap is_file filled.3.node)))
  more_calm p is calm false out =
      let before : (d p).node ≡ Some folder = sym (changes p out) ∙ is in
      let was = calm_before p before calm (c p).node refl in
      let stay = stays p (out_of_reach p before (is_prefix path p) refl) in
      record { synced = stay.synced was.synced; hard = stay.hard was.hard }

  -- a file that stood is not below the path
  file_apart : (p : List (List ℕ)) → is_file (c p).node ≡ true → (b : Bool) → is_prefix path p ≡ b → is_prefix path p ≡ false
  file_apart p is false out = out
  file_apart p is true pre =
      let rest = rest_of path p pre in
      let there : is_file (d p).node ≡ true = ap is_file (down.keeps p (some_file (c p).node is)) ∙ is in
      absurd (below_none rest.0 (ap (λ q. is_file (d q).node) (sym rest.1) ∙ there))
    where
      some_file : (o : Option Node) → is_file o ≡ true → is_some o ≡ true
      some_file None is = absurd (false≢true is)
      some_file (Some node) is = refl

      below_none : (r : List (List ℕ)) → is_file (d (path ++ r)).node ≡ true → ⊥
      below_none r is = false≢true (sym (ap is_some still_none) ∙ Rattle.ext_store_files.proofs.ForCallers.stands_above d tree path r (some_file _ is))

  pub one_more : IsOneMore store held path c e
  one_more = record {
    there = filled;
    others = more_others;
    keeps = more_keeps;
    files = λ p is. more_files p is (is_at path p) refl;
    calm = λ p is calm. more_calm p is calm (is_at path p) refl;
    hard = λ p is was. (stays p (file_apart p is (is_prefix path p) refl)).hard (down.hard p was);
  }

abbrev Spared : List (List ℕ) → Told → Told → Type 0
Spared path d e = (p : List (List ℕ)) → is_prefix path p ≡ false → IsUnchangedAt d e p

three_more : (T : Type 0) (x : T) (store : DiskState) (held : HeldFile) (above names path : List (List ℕ)) (a b c : Option Told) → (above ++ names ≡ parent path) → is_prefix path (parent path) ≡ false
    → IfSome a (λ d. MayWriteOne above path d.places) → BothTold (MakesDownTold {T = T} above names (Ok x)) a b → IfSome b IsDisk → BothTold (Spared path) b c → BothTold (OnlyChangesAt (is_at path)) b c
    → IfSome c (λ e. IsFilledWith store held path e.places) → BothTold (λ d e. IsOneMore store held path d.places e.places) a c
three_more T x store held above names path None None None end apart may makes disk spares changes filled = tt
three_more T x store held above names path None None (Some e) end apart may makes disk spares changes filled = absurd spares
three_more T x store held above names path None (Some d) c end apart may makes disk spares changes filled = absurd makes
three_more T x store held above names path (Some a) None c end apart may makes disk spares changes filled = absurd makes
three_more T x store held above names path (Some a) (Some d) None end apart may makes disk spares changes filled = absurd spares
three_more T x store held above names path (Some a) (Some d) (Some e) end apart may makes disk spares changes filled =
    one_more store held (parent path) path a.places d.places e.places (subst (λ q. IsMadeDown q a.places d.places) end makes.ends) (parent_prefix path) apart may.free disk.tree changes (λ p out. (spares p out).stays) filled

pub filled_told : (store : DiskState) (held : HeldFile) (path : List (List ℕ)) (s : DiskState) → IsCopyOf (body_told store held.body) held.stamp path s → IfSome s.told (λ e. IsFilledWith store held path e.places)
filled_told store held path s copy = if_map (λ e. IsWritten path copy.0 e.places) (λ e. IsFilledWith store held path e.places) (λ e written. (copy.0, copy.1, copy.2, written)) s.told copy.3

-- a file was written, and the folders that have it
pub wrote_one : (T : Type 0) (x : T) (store : DiskState) (held : HeldFile) (above : List (List ℕ)) (n : List ℕ) (q path names : List (List ℕ)) (old mid new : DiskState) → path ≡ above ++ n ∷ q → names ≡ drop (length above) (parent path)
    → IfSome old.told (λ d. MayWriteOne above path d.places) → MakesDown {T = T} above names (Ok x) old mid → IfSome mid.told IsDisk → WorksAt path mid new → IsCopyOf (body_told store held.body) held.stamp path new
    → BothTold (λ d e. IsOneMore store held path d.places e.places) old.told new.told
wrote_one T x store held above n q path names old mid new path_is names_is may makes disk works copy =
    three_more T x store held above names path old.told mid.told new.told
    (ap (λ r. above ++ r) names_is ∙ subst (λ p. above ++ drop (length above) (parent p) ≡ parent p) (sym path_is) (down_is above n q))
    (subst (λ p. is_prefix p (parent p) ≡ false) (sym path_is) (parent_apart above n q)) may makes.told disk works.spares.told works.told (filled_told store held path new copy)

-- the folder may have its file made
pub may_make_file : (T : Type 0) (x : T) (above : List (List ℕ)) (n : List ℕ) (q path names : List (List ℕ)) (old mid : DiskState) → path ≡ above ++ n ∷ q → names ≡ drop (length above) (parent path)
    → IfSome old.told (λ d. MayWriteOne above path d.places) → MakesDown {T = T} above names (Ok x) old mid → MayCall (make_file path) mid
may_make_file T x above n q path names old mid path_is names_is may makes =
    told_second (λ d. MayWriteOne above path d.places) (λ e. IsFree e.places path) (MakesDownTold {T = T} above names (Ok x))
    (λ d e may told. free d e may told) old.told mid.told may makes.told
  where
    end : above ++ names ≡ parent path
    end = ap (λ r. above ++ r) names_is ∙ subst (λ p. above ++ drop (length above) (parent p) ≡ parent p) (sym path_is) (down_is above n q)

    free : (d e : Told) → MayWriteOne above path d.places → MakesDownTold {T = T} above names (Ok x) d e → IsFree e.places path
    free d e may told =
        let last = last_of n q in
        record {
          dir = parent path;
          name = last.0;
          path_is = path_is ∙ ap (λ r. above ++ r) last.1 ∙ sym (append_assoc above (parent (n ∷ q)) (last.0 ∷ [])) ∙ ap (λ r. r ++ last.0 ∷ []) (sym (parent_append above n q) ∙ ap parent (sym path_is));
          dir_there = ap (λ p. (e.places p).node) (sym end) ∙ told.ends.there;
          path_absent = told.ends.others path (ap (is_prefix path) end ∙ subst (λ p. is_prefix p (parent p) ≡ false) (sym path_is) (parent_apart above n q)) ∙ may.free;
        }

-- the way down from the folder may be made
pub may_make_way : (above path names base : List (List ℕ)) (s : DiskState) → base ≡ above → names ≡ drop (length above) (parent path) → IfSome s.told (λ d. MayWriteOne above path d.places) → MayMakeDown base names s
may_make_way above path names base s base_is names_is may =
    subst (λ b. MayMakeDown b names s) (sym base_is) (subst (λ l. MayMakeDown above l s) (sym names_is)
    (if_map (λ d. MayWriteOne above path d.places) (λ d. ((d.places above).node ≡ Some folder) × (first_file (now d.places) above (drop (length above) (parent path)) ≡ None)) (λ d may. (may.base, may.way)) s.told may))

-- folders that are made below a name of a folder touch nothing else
pub down_spares : (T : Type 0) (result : Result T Stop) (above : List (List ℕ)) (n : List ℕ) (q base names resource : List (List ℕ)) (old new : DiskState) → base ≡ above → names ≡ parent (n ∷ q) → resource ≡ above ++ n ∷ [] → MakesDown base names result old new
    → Spares (is_prefix resource) old new
down_spares T result above n q base names resource old new base_is names_is resource_is makes = record {
  follows = makes.follows;
  told = told_map (MakesDownTold base names result) (λ d e. (p : List (List ℕ)) → is_prefix resource p ≡ false → IsUnchangedAt d e p)
      (λ d e told p out. told.spares p (none (now d.places) p out (is_at_or_below (first_missing (now d.places) base names) p) refl)) old.told new.told makes.told;
}
  where
    first : (t : Tree) (p : List (List ℕ)) (l : List (List ℕ)) → l ≡ parent (n ∷ q) → is_at_or_below (first_missing t above l) p ≡ true → is_prefix (above ++ n ∷ []) p ≡ true
    first t p [] is hit = absurd (false≢true hit)
    first t p (k ∷ l) is hit =
        let begins : is_prefix (k ∷ l) (n ∷ q) ≡ true = subst (λ r. is_prefix r (n ∷ q) ≡ true) (sym is) (parent_prefix (n ∷ q)) in
        let same : k ≡ n = Rattle.ext_text.proofs.ForCallers.same_name k n (and_parts (eq_by_cmp Rattle.ext_text.specs.Name.bytes_cmp k n) (is_prefix l q) begins).0 in
        subst (λ m. is_prefix (above ++ m ∷ []) p ≡ true) same (below_name t above k l p hit)

    none : (t : Tree) (p : List (List ℕ)) → is_prefix resource p ≡ false → (b : Bool) → is_at_or_below (first_missing t base names) p ≡ b → is_at_or_below (first_missing t base names) p ≡ false
    none t p out false is = is
    none t p out true is =
        absurd (false≢true (sym out ∙ (ap (λ r. is_prefix r p) resource_is ∙ first t p names names_is (ap (λ b. is_at_or_below (first_missing t b names) p) (sym base_is) ∙ is))))
