-- Which versions of a resource a manifest lists for a transfer, after sysupdate.d(5), sections [Source] and [Target]. That a
-- directory is listed by the text of its tree, that a name that is made has to be read back, and which of two resources of one
-- version counts, is this project's own.
use Rattle.std.specs.Prelude.{◌≡◌, ◌≢◌, ℕ, List, [], ◌∷◌, ◌++◌, codes, Option, Some, IfSome}
use Rattle.std.specs.declared.cmp.Ordering.TheVariants.{Less}
use Rattle.ext_text.specs.Name.{IsName, bytes_cmp}
use Rattle.ext_sums.specs.Sums.{Entries, said}
use Rattle.ext_vers.specs.Version.{IsVersion}
use Rattle.ext_pattern.specs.Filling.{filled}
use Rattle.ext_pattern.specs.First.{IsFirstMatch}
use Rattle.ext_pattern.specs.Pattern.{PatternView}
use Rattle.ext_transfer.specs.declared.transfer.ResourceType.{ResourceType}
use Rattle.ext_transfer.specs.declared.transfer.ResourceType.TheVariants.{File, Directory}
use Rattle.ext_transfer.specs.declared.transfer.Transfer.{Transfer}

-- the name by which a resource is listed: a file by its own, a directory by that of the text of its tree
abbrev pub listed_name : ResourceType → List ℕ → List ℕ
listed_name File name = name
listed_name Directory name = name ++ codes ".tree"

-- a manifest lists a resource of this name with a digest; what is listed is a name too
pub record IsListed (sums : Entries) (resources : ResourceType) (name digest : List ℕ) : Type 0 where
  pub resource : IsName name
  pub listed : IsName (listed_name resources name)
  pub digest_said : said sums (listed_name resources name) ≡ Some digest

-- the name that the first of the patterns makes of a version and a digest is read back as that version by the first that matches
abbrev pub IsReadBack : List PatternView → List ℕ → List ℕ → Type 0
IsReadBack [] version digest = ⊥
IsReadBack (p ∷ ps) version digest = (caught : Option (List ℕ)) × IsFirstMatch (p ∷ ps) (filled p version digest) version caught

-- the first of the patterns that matches a name with a digest catches this version, and no digest but this one
pub record ReadsVersion (patterns : List PatternView) (name digest version : List ℕ) : Type 0 where
  pub caught : Option (List ℕ)
  pub matched : IsFirstMatch patterns name version caught
  pub version_is : IsVersion version
  pub same_digest : IfSome caught (λ d. d ≡ digest)

-- a name with a digest is one of a version: the source's patterns read it so, and the target's patterns read the version back
pub record IsReadAs (transfer : Transfer) (version name digest : List ℕ) : Type 0 where
  pub source : ReadsVersion transfer.source.patterns name digest version
  pub target : IsReadBack transfer.target.patterns version digest

-- a resource that is listed is one of a version
pub record IsCandidate (sums : Entries) (transfer : Transfer) (version name digest : List ℕ) : Type 0 where
  pub listed : IsListed sums transfer.resources name digest
  pub read : IsReadAs transfer version name digest

-- the source has a version by the resource of this name: of those that are one of it, none has a smaller name
pub record Has (sums : Entries) (transfer : Transfer) (version name digest : List ℕ) : Type 0 where
  pub candidate : IsCandidate sums transfer version name digest
  pub least : (other d : List ℕ) → IsCandidate sums transfer version other d → bytes_cmp other name ≢ Less
