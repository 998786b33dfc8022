-- Whether an extension fits an image of a portable service, by its release file, after portablectl(1), option --extension=: as a
-- system extension of scope `portable` fits a host that has the image's release file. It is never forced.
use Rattle.std.specs.Prelude.{◌≡◌, ◌≢◌, ℕ, false, List, Option, Some, None}
use Rattle.std.specs.FinMap.{FinMap}
use Rattle.ext_lines.specs.ByteOrder.{bytes_cmp}
use Rattle.ext_text.specs.declared.arch.Arch.{Arch}
use Rattle.ext_text.specs.declared.extension.Extension.TheVariants.{Sysext}
use Rattle.ext_text.specs.declared.scope.Scope.TheVariants as scopes
use Rattle.ext_tree.specs.Tree.{Entries}
use Rattle.ext_walk.specs.Leads.{LeadsTo}
use Rattle.ext_walk.specs.Walk.{parts}
use Rattle.ext_host.specs.Held.{HeldFile}
use Rattle.ext_host.specs.Shelf.{Told}
use Rattle.ext_host.specs.declared.shelf.ShelfErr.{ShelfErr}
use Rattle.ext_release.specs.Release.{IsFirstFault, IsRelease}
use Rattle.ext_match.specs.Verdict.{IsVerdict}
use Rattle.ext_match.specs.declared.verdict.Verdict.{Verdict}
use Rattle.ext_match.specs.declared.verdict.Verdict.TheVariants as verdicts
use Rattle.ext_find.specs.Content.{is_file_at}
use Rattle.ext_find.specs.ExtensionRelease.{release_text}
use Rattle.ext_find.specs.HostRelease.{IsGiven, LeadsToContent, ShelfFault}
use Rattle.ext_find.specs.declared.found.BreakWhy.{BreakWhy}
use Rattle.ext_portext.specs.declared.errors.ExtWhy.{ExtWhy}
use Rattle.ext_portext.specs.declared.errors.ExtWhy.TheVariants as whys

-- the release file of an extension of this name, in its tree
abbrev pub IsExtensionFile : Entries HeldFile → List ℕ → HeldFile → Type 0
IsExtensionFile tree name held = LeadsToContent tree (parts (release_text Sysext name)) held

module _ (release : FinMap bytes_cmp (List ℕ)) (arch : Arch) where
  -- the bytes of a release file give this verdict
  pub record GivesVerdict (bytes : List ℕ) (verdict : Verdict) : Type 0 where
    pub own : FinMap bytes_cmp (List ℕ)
    pub reads : IsRelease bytes own
    pub is_verdict : IsVerdict release own Sysext scopes.Portable arch false verdict

  -- by these bytes the extension fits, or why it doesn't
  abbrev pub FitsBy : List ℕ → Option ExtWhy → Type 0
  FitsBy bytes None = GivesVerdict bytes verdicts.Fits
  FitsBy bytes (Some (whys.Broken why)) = ⊥
  FitsBy bytes (Some (whys.BadRelease line)) = IsFirstFault bytes line
  FitsBy bytes (Some (whys.Verdict verdict)) = GivesVerdict bytes verdict × (verdict ≢ verdicts.Fits)

  module _ (told : HeldFile → Told) (tree : Entries HeldFile) (name : List ℕ) where
    -- the extension of this name and tree can be used, and fits by its release file; or why it doesn't
    pub record FitsByFile (why : Option ExtWhy) : Type 0 where
      pub held : HeldFile
      pub is_file : IsExtensionFile tree name held
      pub bytes : List ℕ
      pub given : IsGiven (told held) held bytes
      pub fits : FitsBy bytes why

    -- it is broken, or else what its release file says
    abbrev pub FitsAs : Option BreakWhy → Option ExtWhy → Type 0
    FitsAs (Some broken) why = why ≡ Some (whys.Broken broken)
    FitsAs None why = FitsByFile why

-- the shelf does not give the release file of an extension that can be used
pub record ExtensionFileFails (told : HeldFile → Told) (old new : ℕ) (tree : Entries HeldFile) (name : List ℕ) (e : ShelfErr) : Type 0 where
  pub held : HeldFile
  pub is_file : IsExtensionFile tree name held
  pub fault : ShelfFault old new (told held) held e

-- the release file of an extension of this name leads to a file, as it does where it can be used
abbrev pub LeadsToExtensionFile : Entries HeldFile → List ℕ → Type 0
LeadsToExtensionFile tree name = LeadsTo is_file_at tree (parts (release_text Sysext name))

-- why an extension of this verdict doesn't fit
abbrev pub why_of : Verdict → Option ExtWhy
why_of verdicts.Fits = None
why_of verdicts.Scope = Some (whys.Verdict verdicts.Scope)
why_of verdicts.Architecture = Some (whys.Verdict verdicts.Architecture)
why_of verdicts.NoId = Some (whys.Verdict verdicts.NoId)
why_of verdicts.Id = Some (whys.Verdict verdicts.Id)
why_of verdicts.Level = Some (whys.Verdict verdicts.Level)
why_of verdicts.Version = Some (whys.Verdict verdicts.Version)
