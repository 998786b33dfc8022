-- The manifest of a folder in which resources are published: a line for each of them, as sha256sum(1) writes it. A resource
-- is listed by one line more; nothing that it lists is lost.
use Rattle.std.specs.Prelude.{◌≡◌, ◌≢◌, ℕ, Bool, true, ◌⊎◌, ◌==◌, List, [], ◌∷◌, if◌then◌else◌, ◌++◌, None, Result, Ok, Err, codes}
use Rattle.hex.specs.Hex.{encode_lower}
use Rattle.ext_lines.specs.Lines.{lines_text, text_lines}
use Rattle.ext_sums.specs.Manifest.{IsFirstFault, IsManifest}
use Rattle.ext_sums.specs.Sums.{Entries, said}
use Rattle.ext_sums.specs.declared.reading.SumsErr.{SumsErr}
use Rattle.ext_sums.specs.declared.reading.SumsErr.TheVariants as sums_errors
use Rattle.ext_published.specs.Names.{tree_text_name}
use Rattle.ext_published.specs.declared.manifest.ManifestErr.{ManifestErr}
use Rattle.ext_published.specs.declared.manifest.ManifestErr.TheVariants.{OutOfMemory, Faulty, Listed}

-- the most bytes of a manifest and of a tree text
abbrev pub most_published_text : ℕ
most_published_text = 67108864

-- the line that lists a name with a digest, without its newline
abbrev pub listing_line : List ℕ → List ℕ → List ℕ
listing_line digest name = encode_lower digest ++ codes "  " ++ name

-- a manifest with one line more. Each of its lines ends in a newline
abbrev pub with_listing : List ℕ → List ℕ → List ℕ → List ℕ
with_listing old digest name = lines_text (text_lines old ++ listing_line digest name ∷ [])

-- the text is empty or ends in a newline
abbrev pub ends_line : List ℕ → Bool
ends_line [] = true
ends_line (b ∷ []) = b == 10
ends_line (b ∷ c ∷ text) = ends_line (c ∷ text)

-- with a newline at the end, unless there is one or the text is empty
abbrev pub with_last_newline : List ℕ → List ℕ
with_last_newline text = if ends_line text then text else text ++ 10 ∷ []

-- why a manifest is not read, as a reason against its listing a resource
abbrev pub manifest_err_of : SumsErr → ManifestErr
manifest_err_of sums_errors.OutOfMemory = OutOfMemory
manifest_err_of (sums_errors.BadManifest line) = Faulty line

-- a manifest that lists neither the name nor that of its tree text
pub record ListsNeither (text name : List ℕ) : Type 0 where
  pub sums : Entries
  pub reads : IsManifest text sums
  pub no_name : said sums name ≡ None
  pub no_text : said sums (tree_text_name name) ≡ None

-- a manifest that lists one of them
pub record ListsOne (text name : List ℕ) : Type 0 where
  pub sums : Entries
  pub reads : IsManifest text sums
  pub listed : (said sums name ≢ None) ⊎ (said sums (tree_text_name name) ≢ None)

-- whether a resource of the name may be listed in a manifest
abbrev pub JudgesManifest : List ℕ → List ℕ → Result (Unit {0}) ManifestErr → Type 0
JudgesManifest text name (Ok _) = ListsNeither text name
JudgesManifest text name (Err OutOfMemory) = Unit {0}
JudgesManifest text name (Err (Faulty line)) = IsFirstFault text line
JudgesManifest text name (Err Listed) = ListsOne text name

-- the same of what a manifest lists
abbrev pub JudgesSums : Entries → List ℕ → Result (Unit {0}) ManifestErr → Type 0
JudgesSums sums name (Ok _) = (said sums name ≡ None) × (said sums (tree_text_name name) ≡ None)
JudgesSums sums name (Err OutOfMemory) = ⊥
JudgesSums sums name (Err (Faulty line)) = ⊥
JudgesSums sums name (Err Listed) = (said sums name ≢ None) ⊎ (said sums (tree_text_name name) ≢ None)
