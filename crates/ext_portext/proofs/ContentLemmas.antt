-- The release file of an extension, and what a shelf says of it.
use Rattle.std.proofs.Common.{ℕ, false, List, Option, Some, None, Err, sym, ap, ◌∙◌}
use Rattle.std.specs.Borrow.{Bor}
use Rattle.std.specs.FinMap.{FinMap}
use Rattle.std.specs.Prelude.{IsTrue, Bool}
use Rattle.std.proofs.lemmas.Bool.{false≢true}
use Rattle.ext_lines.specs.ByteOrder.{bytes_cmp}
use Rattle.ext_text.specs.declared.arch.Arch.{Arch}
use Rattle.ext_text.specs.declared.extension.Extension.TheVariants.{Sysext}
use Rattle.ext_text.specs.declared.scope.Scope.TheVariants as scopes
use Rattle.ext_tree.specs.Tree.{Entries, lookup}
use Rattle.ext_walk.specs.Walk.{Ends, Resolves}
use Rattle.ext_walk.proofs.ForCallers.{same_end}
use Rattle.ext_host.specs.Held.{HeldFile}
use Rattle.ext_host.specs.Planning.{ServesAll}
use Rattle.ext_host.specs.Shelf.{ShelfCause, Told}
use Rattle.ext_host.specs.declared.shelf.ShelfErr.{ShelfErr}
use Rattle.ext_host.specs.declared.shelf.ShelfErr.TheVariants as shelf_errors
use Rattle.ext_release.specs.Release.{IsRelease}
use Rattle.ext_match.specs.Verdict.{IsVerdict}
use Rattle.ext_match.specs.declared.verdict.Verdict.{Verdict}
use Rattle.ext_match.specs.declared.verdict.Verdict.TheVariants as verdicts
use Rattle.ext_find.specs.Content.{is_file_at}
use Rattle.ext_find.specs.HostRelease.{ContentAt, IsContent}
use Rattle.ext_portext.specs.Errors.{portext_err_of_shelf}
use Rattle.ext_portext.specs.Judged.{FitsBy, IsExtensionFile, why_of}
use Rattle.ext_portext.specs.Steps.{SaysOfFile}

-- names without an end lead to no file
pub content_none : {C : Type 0} (es : Entries C) (names : List (List ℕ)) → Resolves es names None → ContentAt es names None
content_none es names none = λ leads. none leads.0 leads.1

-- and else to the file at their end
pub content_there : {C : Type 0} (es : Entries C) (names end : List (List ℕ)) (content : Option (Bor C)) → Ends es names end → IsContent (lookup es end) content → ContentAt es names content
content_there es names end None ends none = λ leads.
    false≢true (sym none ∙ ap (λ p. is_file_at (lookup es p)) (same_end es names end leads.0 ends leads.1) ∙ leads.2)
content_there es names end (Some content) ends is = (end, is.0, ends, is.1)

-- a shelf that serves the tree serves the release file
pub file_served : (serves : HeldFile → Bool) (tree : Entries HeldFile) (name : List ℕ) (held : HeldFile) → ServesAll serves tree → IsExtensionFile tree name held → IsTrue (serves held)
file_served serves tree name held all is = all is.0 is.1 held is.3

-- what an error of the shelf says
pub shelf_says : (release : FinMap bytes_cmp (List ℕ)) (arch : Arch) (told : HeldFile → Told) (old new : ℕ) (tree : Entries HeldFile) (name : List ℕ) (held : HeldFile) → IsExtensionFile tree name held
    → (e : ShelfErr) → ShelfCause old new (told held) held e → SaysOfFile release arch told old new tree name (Err (portext_err_of_shelf e))
shelf_says release arch told old new tree name held is shelf_errors.OutOfMemory cause = tt
shelf_says release arch told old new tree name held is shelf_errors.Fault cause = record { held = held; is_file = is; fault = cause }
shelf_says release arch told old new tree name held is (shelf_errors.Damaged damage) cause = record { held = held; is_file = is; fault = cause }

-- an extension fits by its verdict, or that is why it doesn't
pub fits_by : (release : FinMap bytes_cmp (List ℕ)) (arch : Arch) (bytes : List ℕ) (own : FinMap bytes_cmp (List ℕ)) (verdict : Verdict) → IsRelease bytes own
    → IsVerdict release own Sysext scopes.Portable arch false verdict → FitsBy release arch bytes (why_of verdict)
fits_by release arch bytes own verdicts.Fits reads is = record { own = own; reads = reads; is_verdict = is }
fits_by release arch bytes own verdicts.Scope reads is = (record { own = own; reads = reads; is_verdict = is }, λ same. cc same)
fits_by release arch bytes own verdicts.Architecture reads is = (record { own = own; reads = reads; is_verdict = is }, λ same. cc same)
fits_by release arch bytes own verdicts.NoId reads is = (record { own = own; reads = reads; is_verdict = is }, λ same. cc same)
fits_by release arch bytes own verdicts.Id reads is = (record { own = own; reads = reads; is_verdict = is }, λ same. cc same)
fits_by release arch bytes own verdicts.Level reads is = (record { own = own; reads = reads; is_verdict = is }, λ same. cc same)
fits_by release arch bytes own verdicts.Version reads is = (record { own = own; reads = reads; is_verdict = is }, λ same. cc same)
