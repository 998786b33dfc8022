-- The files of a sample: they are small, and how many they are.
use Rattle.std.proofs.Common.{◌≡◌, ℕ, suc, zero, ◌+◌, ◌*◌, ◌^◌, ◌<◌, ◌≤◌, List, [], ◌∷◌, ◌++◌, length, length-append, map, refl, sym, ap, ◌∙◌, arith}
use Rattle.std.specs.Prelude.{codes, decimal}
use Rattle.std.specs.List.{AllByRecursion, flat_map, range_with_len}
use Rattle.std.proofs.lemmas.List.{append-nil, append_assoc}
use Rattle.std.proofs.lemmas.List.FromFn.{length-map-range_with_len, map-range_with_len_more}
use Rattle.ext_text.specs.Name.{IsName}
use Rattle.ext_text.specs.Path.{IsPath}
use Rattle.ext_text.proofs.ForCallers.{all_append, length-path_text, path_of}
use Rattle.ext_sample.specs.Made.{MadeFile}
use Rattle.ext_sample.specs.Sample.{sample_host, sample_image, sample_images, host_file, image_file, image_name, release_path, sample_line, sample_release}
use Rattle.ext_sample.specs.Making.{IsSmallFile}
use Rattle.ext_sample.proofs.NamesLemmas.{few_digits, image_is, image_text, os_release_is, release_is, release_text, shared_is}

-- a line as it is written
pub line_is : (word : List ℕ) (n : ℕ) → sample_line word n ≡ ((word ++ 32 ∷ []) ++ decimal n) ++ 10 ∷ []
line_is word n = append-nil ((word ++ 32 ∷ decimal n) ++ 10 ∷ []) ∙ ap (λ (t : List ℕ). t ++ 10 ∷ []) (sym (append_assoc word (32 ∷ []) (decimal n)))

line_size : (word : List ℕ) (n : ℕ) → length word ≤ 10 → n < 2 ^ 64 → length (sample_line word n) ≤ 1000
line_size word n short low =
    omega (arith, ap length (line_is word n), length-append ((word ++ 32 ∷ []) ++ decimal n) (10 ∷ []), length-append (word ++ 32 ∷ []) (decimal n), length-append word (32 ∷ []), few_digits n low, short)

pub os_release_small : IsSmallFile (codes "usr" ∷ codes "lib" ∷ codes "os-release" ∷ [], sample_release)
os_release_small = record { path = os_release_is; non_empty = omega arith; depth = omega arith; text = omega arith; size = omega arith }

host_small : (k : ℕ) → k < 2 ^ 64 → IsSmallFile (host_file k)
host_small k low = record {
  path = shared_is k low;
  non_empty = omega arith;
  depth = omega arith;
  text = omega (arith, few_digits k low);
  size = line_size (codes "host") k (omega arith) low;
}

image_small : (i k : ℕ) → i < 2 ^ 64 → k < 2 ^ 64 → IsSmallFile (image_file i k)
image_small i k low below = record {
  path = image_is i k low below;
  non_empty = omega arith;
  depth = omega arith;
  text = omega (arith, image_text i k, few_digits i low, few_digits k below);
  size = line_size (codes "image") i (omega arith) low;
}

release_small : (i : ℕ) → i < 2 ^ 64 → IsSmallFile (image_name i ∷ release_path (image_name i), sample_release)
release_small i low = record {
  path = release_is i low;
  non_empty = omega arith;
  depth = omega arith;
  text = omega (arith, release_text i, few_digits i low);
  size = omega arith;
}

all_numbered : {X : Type 0} (P : X → Type 0) (f : ℕ → X) (most a n : ℕ) → ((k : ℕ) → k < most → P (f k)) → a + n ≤ most → AllByRecursion P (map f (range_with_len a n))
all_numbered P f most a zero holds within = tt
all_numbered P f most a (suc n) holds within = (holds a (omega arith), all_numbered P f most (a + 1) n holds (omega arith))

pub host_smalls : (n : ℕ) → n ≤ 500 → AllByRecursion IsSmallFile (sample_host n)
host_smalls n few = (os_release_small, all_numbered IsSmallFile host_file 5000 0 (10 * n) (λ k low. host_small k (omega arith)) (omega arith))

smalls_of_image : (i : ℕ) → i < 1000 → AllByRecursion IsSmallFile (sample_image i)
smalls_of_image i low = (release_small i (omega arith), all_numbered IsSmallFile (image_file i) 6000 (5 * i) 10 (λ k below. image_small i k (omega arith) (omega arith)) (omega arith))

smalls_from : (a n : ℕ) → a + n ≤ 1000 → AllByRecursion IsSmallFile (flat_map sample_image (range_with_len a n))
smalls_from a zero within = tt
smalls_from a (suc n) within = all_append IsSmallFile (sample_image a) (flat_map sample_image (range_with_len (a + 1) n)) (smalls_of_image a (omega arith)) (smalls_from (a + 1) n (omega arith))

pub images_smalls : (n : ℕ) → n ≤ 500 → AllByRecursion IsSmallFile (sample_images n)
images_smalls n few = smalls_from 0 n (omega arith)

pub host_few : (n : ℕ) → n ≤ 500 → length (sample_host n) ≤ 40000
host_few n few = omega (arith, length-map-range_with_len host_file 0 (10 * n), few)

count_from : (a n : ℕ) → length (flat_map sample_image (range_with_len a n)) ≡ 11 * n
count_from a zero = refl
count_from a (suc n) =
    omega (arith, length-append (sample_image a) (flat_map sample_image (range_with_len (a + 1) n)), count_from (a + 1) n, length-map-range_with_len (image_file a) (5 * a) 10)

pub images_few : (n : ℕ) → n ≤ 500 → length (sample_images n) ≤ 40000
images_few n few = omega (arith, count_from 0 n, few)

-- one image more
images_from : (a n j : ℕ) → a + n ≡ j → flat_map sample_image (range_with_len a (suc n)) ≡ flat_map sample_image (range_with_len a n) ++ sample_image j
images_from a zero j is = append-nil (sample_image a) ∙ ap sample_image (omega arith)
images_from a (suc n) j is =
    ap (λ (fs : List MadeFile). sample_image a ++ fs) (images_from (a + 1) n j (omega arith)) ∙ sym (append_assoc (sample_image a) (flat_map sample_image (range_with_len (a + 1) n)) (sample_image j))

pub images_more : (n : ℕ) → sample_images (n + 1) ≡ sample_images n ++ sample_image n
images_more n =
    let on : n + 1 ≡ suc n = omega arith in
    ap (λ m. flat_map sample_image (range_with_len 0 m)) on ∙ images_from 0 n n (omega arith)

-- the files of the host so far, and those of an image
abbrev pub host_so_far : ℕ → List MadeFile
host_so_far n = (codes "usr" ∷ codes "lib" ∷ codes "os-release" ∷ [], sample_release) ∷ map host_file (range_with_len 0 n)

abbrev pub image_so_far : ℕ → ℕ → List MadeFile
image_so_far i n = (image_name i ∷ release_path (image_name i), sample_release) ∷ map (image_file i) (range_with_len (5 * i) n)

pub host_more : (n : ℕ) (files new : List MadeFile) (file : MadeFile) → files ≡ host_so_far n → file ≡ host_file n → new ≡ files ++ file ∷ [] → new ≡ host_so_far (n + 1)
host_more n files new file before here pushed =
    pushed ∙ (λ i. before i ++ here i ∷ []) ∙ ap (λ (fs : List MadeFile). (codes "usr" ∷ codes "lib" ∷ codes "os-release" ∷ [], sample_release) ∷ fs) (sym (map-range_with_len_more host_file 0 n n (omega arith)))

pub image_more : (i n k : ℕ) (start files new : List MadeFile) (file : MadeFile) → files ≡ start ++ image_so_far i n → file ≡ image_file i k → 5 * i + n ≡ k → new ≡ files ++ file ∷ [] → new ≡ start ++ image_so_far i (n + 1)
image_more i n k start files new file before here at pushed =
    pushed ∙ (λ j. before j ++ here j ∷ []) ∙ append_assoc start (image_so_far i n) (image_file i k ∷ [])
    ∙ ap (λ (fs : List MadeFile). start ++ (image_name i ∷ release_path (image_name i), sample_release) ∷ fs) (sym (map-range_with_len_more (image_file i) (5 * i) n k at))

-- a short name, and the path of a file below it
pub below_folder : (name : List ℕ) (file : MadeFile) → IsName name → length name ≤ 100 → IsSmallFile file → IsPath (name ∷ file.0)
below_folder name file named short small =
    path_of (name ∷ []) file.0 (named, tt) small.path.each (omega (arith, small.depth)) (omega (arith, short, small.text, small.non_empty, length-path_text file.0))
