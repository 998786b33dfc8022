-- What was put into the depot is all of the sample's files.
use Rattle.std.proofs.Common.{◌≡◌, ℕ, cond, List, [], ◌∷◌, ◌++◌, map, Option, Some, None, refl, sym, ap, subst, ◌∙◌}
use Rattle.std.specs.Prelude.{codes}
use Rattle.std.specs.BTreeMap.{is_at}
use Rattle.std.specs.Option.{option_or}
use Rattle.ext_text.specs.Path.{path_cmp}
use Rattle.ext_depot.specs.DepotCalls.{Puts}
use Rattle.ext_depot.specs.DepotView.{DepotView, file_at}
use Rattle.ext_sample.specs.Made.{IsTreeOf, MadeFile, made_bytes}
use Rattle.ext_sample.specs.Making.{IsTextOf, PutsBelow}
use Rattle.ext_sample.specs.Sample.{IsSampleDepot, in_folder, sample_files, sample_host, sample_images}
use Rattle.ext_sample.proofs.LookupLemmas.{lookup_join, turned}

or_nothing : {X : Type 0} (o : Option X) → option_or o None ≡ o
or_nothing None = refl
or_nothing (Some x) = refl

-- what stands at a path that a file was put at, or not
put_at : (old new : DepotView) (path : List (List ℕ)) (bytes : List ℕ) → Puts old new path bytes → (q : List (List ℕ)) → file_at new q ≡ cond (is_at (path_cmp q) path) (Some bytes) (file_at old q)
put_at old new path bytes puts q = puts.files q ∙ ap (λ b. cond b (Some bytes) (file_at old q)) (turned path q)

pub depot_is : (n : ℕ) (start one two three four : DepotView) (of_host of_images : List MadeFile) (host images : List ℕ) → start.files ≡ [] → PutsBelow start one (codes "images") of_images → PutsBelow one two (codes "host") of_host
    → Puts two three (codes "images.tree" ∷ []) images → Puts three four (codes "host.tree" ∷ []) host → of_host ≡ sample_host n → of_images ≡ sample_images n → (q : List (List ℕ)) → file_at four q ≡ made_bytes (sample_files n host images) q
depot_is n start one two three four of_host of_images host images empty below_images below_host put_images put_host host_is images_is q =
    put_at three four (codes "host.tree" ∷ []) host put_host q
    ∙ ap (cond (is_at (path_cmp q) (codes "host.tree" ∷ [])) (Some host)) (
    put_at two three (codes "images.tree" ∷ []) images put_images q
    ∙ ap (cond (is_at (path_cmp q) (codes "images.tree" ∷ [])) (Some images)) (below_host.each q ∙ ap (option_or (made_bytes (map (in_folder (codes "host")) of_host) q)) last ∙ whole))
  where
    last : file_at one q ≡ made_bytes (map (in_folder (codes "images")) of_images) q
    last =
        below_images.each q ∙ ap (λ fs. option_or (made_bytes (map (in_folder (codes "images")) of_images) q) (made_bytes fs q)) empty
        ∙ or_nothing (made_bytes (map (in_folder (codes "images")) of_images) q)

    whole : option_or (made_bytes (map (in_folder (codes "host")) of_host) q) (made_bytes (map (in_folder (codes "images")) of_images) q)
        ≡ made_bytes (map (in_folder (codes "host")) (sample_host n) ++ map (in_folder (codes "images")) (sample_images n)) q
    whole =
        sym (lookup_join (is_at (path_cmp q)) (map (in_folder (codes "host")) of_host) (map (in_folder (codes "images")) of_images))
        ∙ (λ i. made_bytes (map (in_folder (codes "host")) (host_is i) ++ map (in_folder (codes "images")) (images_is i)) q)

-- and so the depot is one of a sample
pub sample_is : (n : ℕ) (start one two three four : DepotView) (of_host of_images host_slice images_slice : List MadeFile) (host images : List ℕ) (host_path images_path : List (List ℕ))
    → start.files ≡ [] → PutsBelow start one (codes "images") of_images → PutsBelow one two (codes "host") of_host → Puts two three images_path images → Puts three four host_path host
    → images_path ≡ codes "images.tree" ∷ [] → host_path ≡ codes "host.tree" ∷ [] → of_host ≡ sample_host n → of_images ≡ sample_images n
    → host_slice ≡ of_host → images_slice ≡ of_images → IsTextOf host_slice host → IsTextOf images_slice images → IsSampleDepot n (file_at four)
sample_is n start one two three four of_host of_images host_slice images_slice host images host_path images_path empty below_images below_host put_images put_host images_named host_named host_is images_is host_same images_same host_text images_text = record {
  host = host_text.0;
  images = images_text.0;
  host_tree = subst (λ fs. IsTreeOf fs host_text.0) (host_same ∙ host_is) host_text.1;
  images_tree = subst (λ fs. IsTreeOf fs images_text.0) (images_same ∙ images_is) images_text.1;
  each = λ q.
      depot_is n start one two three four of_host of_images host images empty below_images below_host (subst (λ p. Puts two three p images) images_named put_images) (subst (λ p. Puts three four p host) host_named put_host) host_is images_is q
      ∙ (λ i. made_bytes (sample_files n (host_text.2 i) (images_text.2 i)) q);
}
