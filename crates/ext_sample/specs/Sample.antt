-- The depot of a sample of N images: two resources, the tree of a host and a tree of N images for it. Each has its tree text
-- and, below a folder of its name, its files. The paths are
--
--     host    usr/lib/os-release
--             usr/share/h/K                                            K from 0 to 10 N - 1
--     images  s-I/usr/lib/extension-release.d/extension-release.s-I    I from 0 to N - 1
--             s-I/usr/share/h/K                                        K from 5 I to 5 I + 9
--
-- and numbers are decimal. Of two images one after the other, five files have the same paths in both. This project's own.
use Rattle.std.specs.Prelude.{◌≡◌, ℕ, ◌*◌, List, [], ◌∷◌, ◌++◌, map, codes, decimal}
use Rattle.std.specs.List.{flat_map, range_with_len}
use Rattle.ext_lines.specs.Lines.{lines_text}
use Rattle.ext_depot.specs.Depot.{Files}
use Rattle.ext_tree.specs.Tree.{Entries}
use Rattle.ext_tree.specs.TreeText.{tree_text}
use Rattle.ext_tree.specs.declared.stamp.Stamp.{Stamp}
use Rattle.ext_sample.specs.Made.{IsTreeOf, MadeFile, made_bytes}

-- the most images of a sample
abbrev pub most_images : ℕ
most_images = 500

-- the bytes of each release file
abbrev pub sample_release : List ℕ
sample_release = lines_text (codes "ID=sample" ∷ codes "VERSION_ID=1" ∷ [])

-- one line of a word and a number
abbrev pub sample_line : List ℕ → ℕ → List ℕ
sample_line word n = lines_text ((word ++ 32 ∷ decimal n) ∷ [])

-- the path of a file of this number, which a host and its images share
abbrev pub shared_path : ℕ → List (List ℕ)
shared_path k = codes "usr" ∷ codes "share" ∷ codes "h" ∷ decimal k ∷ []

-- the host's file of this number
abbrev pub host_file : ℕ → MadeFile
host_file k = (shared_path k, sample_line (codes "host") k)

-- the files of the host of a sample of n images
abbrev pub sample_host : ℕ → List MadeFile
sample_host n = (codes "usr" ∷ codes "lib" ∷ codes "os-release" ∷ [], sample_release) ∷ map host_file (range_with_len 0 (10 * n))

-- the name of an image
abbrev pub image_name : ℕ → List ℕ
image_name i = codes "s-" ++ decimal i

-- the path of its release file, from the image on
abbrev pub release_path : List ℕ → List (List ℕ)
release_path name = codes "usr" ∷ codes "lib" ∷ codes "extension-release.d" ∷ (codes "extension-release." ++ name) ∷ []

-- the image's file of this number
abbrev pub image_file : ℕ → ℕ → MadeFile
image_file i k = (image_name i ∷ shared_path k, sample_line (codes "image") i)

-- the files of an image
abbrev pub sample_image : ℕ → List MadeFile
sample_image i = (image_name i ∷ release_path (image_name i), sample_release) ∷ map (image_file i) (range_with_len (5 * i) 10)

-- the files of n images
abbrev pub sample_images : ℕ → List MadeFile
sample_images n = flat_map sample_image (range_with_len 0 n)

-- a file below a folder of this name
abbrev pub in_folder : List ℕ → MadeFile → MadeFile
in_folder name file = (name ∷ file.0, file.1)

-- all files of the depot, where the trees have these texts
abbrev pub sample_files : ℕ → List ℕ → List ℕ → List MadeFile
sample_files n host images =
    (codes "host.tree" ∷ [], host) ∷ (codes "images.tree" ∷ [], images)
    ∷ map (in_folder (codes "host")) (sample_host n) ++ map (in_folder (codes "images")) (sample_images n)

-- the depot of a sample of n images
pub record IsSampleDepot (n : ℕ) (files : Files) : Type 0 where
  -- the trees of its two resources
  pub host : Entries Stamp
  pub images : Entries Stamp
  pub host_tree : IsTreeOf (sample_host n) host
  pub images_tree : IsTreeOf (sample_images n) images
  -- it has their texts and all of their files, and no other file
  pub each : (path : List (List ℕ)) → files path ≡ made_bytes (sample_files n (tree_text host) (tree_text images)) path
