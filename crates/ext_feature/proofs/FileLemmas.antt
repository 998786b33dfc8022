-- From the files of a list, read one after the other, to all files that count.
use Rattle.std.proofs.Common.{◌≡◌, ℕ, List, sym, ap, ◌∙◌, subst}
use Rattle.std.specs.Prelude.{Option, map}
use Rattle.std.specs.List.{AllZip, Contains}
use Rattle.std.specs.List.Sorted.{IsStrictlySortedBy}
use Rattle.ext_lines.specs.ByteOrder.{bytes_cmp}
use Rattle.ext_tree.specs.Tree.{Entries}
use Rattle.ext_host.specs.Held.{HeldFile}
use Rattle.ext_host.specs.Planning.{content_size}
use Rattle.ext_host.specs.Shelf.{Told}
use Rattle.ext_configs.specs.Configs.{AreConfigs, IsConfig}
use Rattle.ext_configs.specs.declared.files.ConfigFile.{ConfigFile}
use Rattle.ext_configs.specs.declared.kind.ConfigKind.{ConfigKind}
use Rattle.ext_feature.specs.Files.{AreFromFiles, FileHas, IsFirstBadFile, IsGivenWith}
use Rattle.ext_feature.specs.Reading.{FileSays, IsFirstBadOf}
use Rattle.ext_feature.proofs.ConfigLemmas.{counted, listed, names_sorted}
use Rattle.ext_feature.proofs.ListLemmas.{among_others, holds_of, zip_left, zip_right, zip_same}
use Rattle.ext_feature.proofs.OrderLemmas.{in_before}

module _ (told : HeldFile → Told) (es : Entries HeldFile) (component : Option (List ℕ)) (kind : ConfigKind) (files : List (ConfigFile HeldFile)) (configs : AreConfigs content_size es component kind files) where
  -- the first bad one of the files is the first bad file that counts
  pub first_bad : (Sound : List ℕ → List ℕ → Type 0) (P : List ℕ → Type 0) (name : List ℕ) → IsFirstBadOf told Sound P files name → IsFirstBadFile told es component kind Sound P name
  first_bad Sound P name bad = record {
    bad = record {
      held = bad.file.content.now;
      counts = subst (λ n. IsConfig content_size es component kind n bad.file.content.now) bad.name_is
          (counted es component kind files bad.file configs (among_others files bad.before bad.after bad.file bad.among));
      given = bad.bad;
    };
    before = λ other held config less.
        let has = listed es component kind files other held configs config in
        let there : Contains bad.before has.file =
        in_before (λ (file : ConfigFile HeldFile). file.name) bad.before bad.after bad.file has.file
        (subst (λ fs. IsStrictlySortedBy bytes_cmp (map (λ (file : ConfigFile HeldFile). file.name) fs)) bad.among (names_sorted files configs.sorted))
        (subst (λ fs. Contains fs has.file) bad.among has.among)
        (ap (λ n. bytes_cmp n bad.file.name) has.name_is ∙ ap (bytes_cmp other) bad.name_is ∙ less) in
        let sound = holds_of (λ (f : ConfigFile HeldFile). IsGivenWith told f.content.now (Sound f.name)) bad.before has.file bad.sound there in
        subst (λ n. IsGivenWith told held (Sound n)) has.name_is (subst (λ h. IsGivenWith told h (Sound has.file.name)) has.content_is sound);
  }

  module _ {X : Type 0} (name file_of : X → List ℕ) (Says : X → List ℕ → Type 0) (xs : List X) (all : AllZip (FileSays told file_of Says) files xs) where
    -- each is what its file says
    pub says_each : (x : X) → Contains xs x → FileHas told es component kind (file_of x) (Says x)
    says_each x c =
        let match = zip_left (FileSays told file_of Says) files xs x all c in
        record {
          held = match.0.content.now;
          counts = subst (λ n. IsConfig content_size es component kind n match.0.content.now) match.2.name (counted es component kind files match.0 configs match.1);
          given = match.2.given;
        }

    -- and each file says one
    pub says_whole : (other : List ℕ) (held : HeldFile) → IsConfig content_size es component kind other held → (x : X) × Contains xs x × (file_of x ≡ other)
    says_whole other held config =
        let has = listed es component kind files other held configs config in
        let match = zip_right (FileSays told file_of Says) files xs has.file all has.among in
        (match.0, match.1, sym match.2.name ∙ has.name_is)

    -- the names of their files ascend
    pub files_sorted : IsStrictlySortedBy bytes_cmp (map file_of xs)
    files_sorted =
        subst (IsStrictlySortedBy bytes_cmp)
        (zip_same (FileSays told file_of Says) (λ (file : ConfigFile HeldFile). file.name) file_of (λ file x says. says.name) files xs all)
        (names_sorted files configs.sorted)

    -- in the order of their files they are what all files say
    pub from_files : AreFromFiles told es component kind file_of file_of Says xs
    from_files = record { sorted = files_sorted; each = says_each; whole = says_whole }
