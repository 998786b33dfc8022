-- Facts of each element of a list, which a loop gathers.
use Rattle.std.proofs.Common.{◌≡◌, ℕ, zero, suc, ◌+◌, ◌<◌, ◌≤◌, List, [], ◌∷◌, ◌++◌, length, take, get_or, refl, sym, ap, ◌∙◌, subst, arith, add-one}
use Rattle.std.specs.Prelude.{true, Ok, Err}
use Rattle.std.specs.List.{AllByRecursion}
use Rattle.std.proofs.lemmas.List.{take_all}
use Rattle.std.proofs.Math.Seq.{take-suc}
use Rattle.ext_text.specs.Path.{IsPath}
use Rattle.ext_text.proofs.ForCallers.{all_append}
use Rattle.ext_tree.specs.Tree.{is_file}
use Rattle.ext_tree.specs.declared.entry.Entry.{Entry}
use Rattle.ext_host.specs.Held.{HeldFile}
use Rattle.ext_published.specs.Asked.{AskedOf}
use Rattle.ext_published.specs.Names.{coming_manifest_name, manifest_name, tree_text_name}
use Rattle.ext_published.specs.Places.{ArePlaces, ChecksEntry, GivesPlaces, JoinsPath, in_depot_folder, places_in}
use Rattle.ext_published.specs.declared.places.PlacesErr.{PlacesErr}
use Rattle.ext_published.specs.declared.places.PlacesErr.TheVariants.{OutOfMemory, Limit}

one_more : {X : Type 0} (xs : List X) (i : ℕ) (x : X) → i < length xs → x ≡ get_or xs i x → take (i + 1) xs ≡ take i xs ++ x ∷ []
one_more xs i x inside is = ap (λ n. take n xs) (add-one i) ∙ take-suc xs i x inside ∙ ap (λ y. take i xs ++ y ∷ []) (sym is)

-- one more
pub each_more : {X : Type 0} (P : X → Type 0) (xs : List X) (i : ℕ) (x : X) → i < length xs → x ≡ get_or xs i x → AllByRecursion P (take i xs) → P x → AllByRecursion P (take (i + 1) xs)
each_more P xs i x inside is all here = subst (AllByRecursion P) (sym (one_more xs i x inside is)) (all_append P (take i xs) (x ∷ []) all (here, tt))

-- all of them
pub each_whole : {X : Type 0} (P : X → Type 0) (xs : List X) (i : ℕ) → length xs ≤ i → AllByRecursion P (take i xs) → AllByRecursion P xs
each_whole P xs i whole all = subst (AllByRecursion P) (take_all i xs whole) all

-- each of all
pub each_at : {X : Type 0} (P : X → Type 0) (xs : List X) (k : ℕ) (x : X) → k < length xs → x ≡ get_or xs k x → AllByRecursion P xs → P x
each_at P [] k x lt at all = absurd (omega arith)
each_at P (y ∷ xs) zero x lt at all = subst P (sym at) all.0
each_at P (y ∷ xs) (suc k) x lt at all = each_at P xs k x (omega arith) at all.1

-- a file's path that passes the limits tells that its entry does
pub pair_err : (at : List (List ℕ)) (x : List (List ℕ) × Entry HeldFile) (e : PlacesErr) → is_file x.1 ≡ true → JoinsPath (at ++ x.0) (Err e) → ChecksEntry at x (Err e)
pair_err at x OutOfMemory is why = tt
pair_err at x Limit is why = λ fits. why (fits is)

-- a path of the coming manifest that passes the limits tells that not all are within them
pub coming_err : (asked : AskedOf) (above : List (List ℕ)) (e : PlacesErr) → above ≡ asked.folder → JoinsPath (above ++ coming_manifest_name ∷ []) (Err e) → GivesPlaces asked (Err e)
coming_err asked above OutOfMemory same why = tt
coming_err asked above Limit same why = λ all. why (subst (λ (f : List (List ℕ)). IsPath (f ++ coming_manifest_name ∷ [])) (sym same) all.1.0)

in_place : (asked : AskedOf) (above : List (List ℕ)) (name bytes : List ℕ) (path : List (List ℕ)) → above ≡ asked.folder → bytes ≡ name → JoinsPath (above ++ bytes ∷ []) (Ok path) → (path ≡ in_depot_folder asked name) × IsPath (in_depot_folder asked name)
in_place asked above name bytes path same named joins =
    let whole : above ++ bytes ∷ [] ≡ in_depot_folder asked name = ap (λ (f : List (List ℕ)). f ++ bytes ∷ []) same ∙ ap (λ (n : List ℕ). asked.folder ++ n ∷ []) named in
    (joins.1 ∙ whole, subst IsPath whole joins.0)

-- the four paths are those of what is asked, and within the limits
pub are_places : (asked : AskedOf) (above : List (List ℕ)) (text name : List ℕ) (m c t r : List (List ℕ)) → above ≡ asked.folder → text ≡ tree_text_name asked.name → name ≡ asked.name
    → JoinsPath (above ++ manifest_name ∷ []) (Ok m) → JoinsPath (above ++ coming_manifest_name ∷ []) (Ok c) → JoinsPath (above ++ text ∷ []) (Ok t) → JoinsPath (above ++ name ∷ []) (Ok r)
    → ArePlaces asked (record { manifest = m; coming = c; text = t; resource = r }) × AllByRecursion IsPath (places_in asked)
are_places asked above text name m c t r same texted named one two three four =
    let manifest = in_place asked above manifest_name manifest_name m same refl one in
    let coming = in_place asked above coming_manifest_name coming_manifest_name c same refl two in
    let tree = in_place asked above (tree_text_name asked.name) text t same texted three in
    let resource = in_place asked above asked.name name r same named four in
    (record { manifest = manifest.0; coming = coming.0; text = tree.0; resource = resource.0 }, (manifest.1, (coming.1, (tree.1, (resource.1, tt)))))
