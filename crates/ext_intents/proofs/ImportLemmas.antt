-- Imports: what stands above a path, and what is wanted once all paths fit.
use Rattle.std.proofs.Common.{◌≡◌, ℕ, ◌+◌, ◌<◌, true, false, List, length, take, Result, Ok, Err, sym, ap, ◌∙◌, subst, arith, inl, inr}
use Rattle.std.specs.Prelude.{IfOk}
use Rattle.std.specs.List.{AllByRecursion}
use Rattle.std.proofs.Common.{length-take}
use Rattle.ext_text.specs.Path.{is_proper_prefix}
use Rattle.ext_text.specs.declared.which.Which.TheVariants as limits
use Rattle.ext_text.proofs.ForCallers.{proper_first}
use Rattle.ext_tree.specs.Graft as graft
use Rattle.ext_tree.specs.Graft.{IsGraft, IsOpen, is_non_directory_at}
use Rattle.ext_tree.specs.Tree.{Entries, lookup, most_entries}
use Rattle.ext_tree.specs.declared.stamp.Stamp.{Stamp}
use Rattle.ext_host.specs.DepotBodies as bodies
use Rattle.ext_host.specs.DepotBodies.{from_depot}
use Rattle.ext_host.specs.Held.{HeldFile}
use Rattle.ext_host.specs.declared.host.Host.{Host}
use Rattle.ext_host.proofs.ForCallers as host_lemmas
use Rattle.ext_cmd.specs.declared.refusal.Refusal.TheVariants.{Limit}
use Rattle.ext_intents.specs.Change.{changed_at}
use Rattle.ext_intents.specs.Import.{FittingImportWants, PartWants, within}
use Rattle.ext_intents.specs.declared.intent.Intent.{Intent}
use Rattle.ext_intents.specs.declared.intent.Intent.TheVariants.{Refuses}

-- fewer names than a path has are a proper prefix of it
pub fewer_proper : (k : ℕ) (p : List (List ℕ)) → k < length p → is_proper_prefix (take k p) p ≡ true
fewer_proper k p fewer =
    let len : length (take k p) ≡ k = omega (arith, length-take k p) in
    (proper_first (take k p) p).1 (ap (λ n. take n p) (sym len), omega arith)

-- where none of the shorter prefixes has an entry that is no directory, nothing else is above the path
pub open_above : (es : Entries HeldFile) (p : List (List ℕ)) → ((k : ℕ) → k < length p → is_non_directory_at (lookup es (take k p)) ≡ false) → IsOpen es p
open_above es p none q proper =
    let first = (proper_first q p).0 proper in
    subst (λ r. is_non_directory_at (lookup es r) ≡ false) (sym first.0) (none (length q) first.1)

-- a tree that has too many entries alone has too many with others
pub too_many : (host : Host) (path : List (List ℕ)) (es part root : Entries HeldFile) (intent : Intent) → es ≡ host.root → graft.Fits path part → IsGraft es path part root
    → most_entries < length root → intent ≡ Refuses (Limit limits.Entries) → PartWants host path part intent
too_many host path es part root intent same fits grafts over is =
    let more : most_entries < length root + length host.lower = omega arith in
    inl (fits, (root, subst (λ t. IsGraft t path part root) same grafts, is ∙ ap (within (changed_at host path root)) (host_lemmas.too_many root host.lower more)))

fitting : (host : Host) (resource path : List (List ℕ)) (es : Entries Stamp) (part : Entries HeldFile) (intent : Intent) → part ≡ from_depot resource es
    → AllByRecursion (bodies.FileFits resource) es → PartWants host path part intent → FittingImportWants host resource path es intent
fitting host resource path es part intent is all (inl (fits, (root, grafts, sizes))) =
    inl (record { host = subst (graft.Fits path) is fits; depot = all }, (root, subst (λ u. IsGraft host.root path u root) is grafts, sizes))
fitting host resource path es part intent is all (inr (unfit, limit)) = inr (λ fit. unfit (subst (graft.Fits path) (sym is) fit.host), limit)

-- what is wanted of a tree whose files' paths fit in the depot
pub fitting_wants : {E : Type 0} (host : Host) (resource path : List (List ℕ)) (es : Entries Stamp) (part : Entries HeldFile) (result : Result Intent E) → part ≡ from_depot resource es
    → AllByRecursion (bodies.FileFits resource) es → IfOk result (PartWants host path part) → IfOk result (FittingImportWants host resource path es)
fitting_wants host resource path es part (Ok intent) is all wants = fitting host resource path es part intent is all wants
fitting_wants host resource path es part (Err e) is all wants = tt
