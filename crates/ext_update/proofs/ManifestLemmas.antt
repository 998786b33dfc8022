-- The manifests of paths, one of each.
use Rattle.std.proofs.Common.{◌≡◌, ℕ, ◌+◌, ◌<◌, ◌++◌, List, [], ◌∷◌, length, take, get_or, sym, ap, ◌∙◌, append_assoc, subst}
use Rattle.std.specs.List.{AllZip}
use Rattle.std.proofs.lemmas.List.{take_more}
use Rattle.ext_tree.specs.Tree.{Entries}
use Rattle.ext_host.specs.Held.{HeldFile}
use Rattle.ext_host.specs.declared.manifest.Manifest.{Manifest}
use Rattle.ext_updated.specs.Manifests.{IsManifestAt}
use Rattle.ext_update.specs.Drafts.{AppendManifests}

zip_push : {A B : Type 0} (R : A → B → Type 0) (xs : List A) (ys : List B) (x : A) (y : B) → AllZip R xs ys → R x y → AllZip R (xs ++ x ∷ []) (ys ++ y ∷ [])
zip_push R [] [] x y all last = (last, tt)
zip_push R [] (b ∷ ys) x y all last = absurd all
zip_push R (a ∷ xs) [] x y all last = absurd all
zip_push R (a ∷ xs) (b ∷ ys) x y all last = (all.0, zip_push R xs ys x y all.1 last)

-- the manifest of one path more
pub appends_next : (root : Entries HeldFile) (paths : List (List (List ℕ))) (i : ℕ) (path : List (List ℕ)) (old mid new : List Manifest) (manifest : Manifest)
    → i < length paths → path ≡ get_or paths i path → AppendManifests root (take i paths) old mid → IsManifestAt root path manifest
    → new ≡ mid ++ manifest ∷ [] → AppendManifests root (take (i + 1) paths) old new
appends_next root paths i path old mid new manifest within at so_far is pushed =
    let one : take (i + 1) paths ≡ take i paths ++ path ∷ [] = take_more paths i path within ∙ ap (λ (p : List (List ℕ)). take i paths ++ p ∷ []) (sym at) in
    record {
      added = so_far.added ++ manifest ∷ [];
      each = subst (λ ps. AllZip (λ p m. IsManifestAt root p m) ps (so_far.added ++ manifest ∷ [])) (sym one)
          (zip_push (λ p m. IsManifestAt root p m) (take i paths) so_far.added path manifest so_far.each is);
      appended = pushed ∙ ap (λ (ms : List Manifest). ms ++ manifest ∷ []) so_far.appended ∙ append_assoc old so_far.added (manifest ∷ []);
    }
