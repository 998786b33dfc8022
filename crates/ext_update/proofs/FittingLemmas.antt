-- What fits into the limits, and in which ranges it is.
use Rattle.std.proofs.Common.{◌≡◌, ℕ, ◌++◌, List, [], ◌∷◌, refl, subst}
use Rattle.std.specs.Prelude.{Contains}
use mathlib.Core.Logic.{inl, inr}
use Rattle.std.specs.List.{AllByRecursion}
use Rattle.ext_attributes.specs.declared.attributes.Attributes.{Attributes}
use Rattle.ext_attributes.specs.Attributes.{of_mode}
use Rattle.ext_tree.specs.EntryLine.{IsWritable}
use Rattle.ext_tree.specs.Tree.{Entries}
use Rattle.ext_tree.specs.TreeText.{AreWritable, stamp_form}
use Rattle.ext_tree.specs.Grafting.{IsLongPath}
use Rattle.ext_tree.specs.declared.entry.Entry.{Entry}
use Rattle.ext_tree.specs.declared.entry.Entry.TheVariants.{Dir, Opaque, File, Link, Hide}
use Rattle.ext_tree.specs.declared.stamp.Stamp.{Stamp}
use Rattle.ext_tree.specs.declared.tree.TreeErr.{TreeErr}
use Rattle.ext_tree.specs.declared.tree.TreeErr.TheVariants as tree_errors
use Rattle.ext_host.specs.DepotBodies as bodies
use Rattle.ext_host.specs.DepotBodies.{from_depot, in_depot}
use Rattle.ext_host.specs.Held.{HeldFile}
use Rattle.ext_installed.proofs.ForCallers.{contains_cases, none_contained}
use Rattle.ext_updated.specs.declared.piece.Piece.{Piece}
use Rattle.ext_update.specs.Drafts.{IsNewEntry}
use Rattle.ext_update.specs.Stages.{AreFilesFit, EntryFits}

-- an entry whose file is in the depot fits where its path there does
entry_fits : (res path : List (List ℕ)) (e : Entry Stamp) → bodies.FileFits res (path, e) → EntryFits (in_depot (res ++ path) e)
entry_fits res path (Dir attributes) fits = tt
entry_fits res path (Opaque attributes) fits = tt
entry_fits res path (File attributes stamp) fits = fits refl
entry_fits res path (Link owner target) fits = tt
entry_fits res path Hide fits = tt

pub files_fit : (res : List (List ℕ)) (es : Entries Stamp) → AllByRecursion (bodies.FileFits res) es → AreFilesFit (from_depot res es)
files_fit res [] all = tt
files_fit res (x ∷ es) all = (entry_fits res x.0 x.1 all.0, files_fit res es all.1)

entry_passes : (res path : List (List ℕ)) (e : Entry Stamp) → bodies.FilePasses res (path, e) → EntryFits (in_depot (res ++ path) e) → ⊥
entry_passes res path (Dir attributes) passes fits = cc (passes.0)
entry_passes res path (Opaque attributes) passes fits = cc (passes.0)
entry_passes res path (File attributes stamp) passes fits = passes.1 fits
entry_passes res path (Link owner target) passes fits = cc (passes.0)
entry_passes res path Hide passes fits = cc (passes.0)

pub files_pass : (res : List (List ℕ)) (es : Entries Stamp) (x : List (List ℕ) × Entry Stamp) → Contains es x → bodies.FilePasses res x
    → AreFilesFit (from_depot res es) → ⊥
files_pass res [] x among passes fits = none_contained x among
files_pass res (y ∷ es) x among passes fits = elim (contains_cases y x es among) [
  | inl same ↦ entry_passes res x.0 x.1 passes (subst (λ (z : List (List ℕ) × Entry Stamp). EntryFits (in_depot (res ++ z.0) z.1)) same fits.0)
  | inr later ↦ files_pass res es x later passes fits.1
]

-- why a tree isn't taken from the depot
pub not_from_depot : (res : List (List ℕ)) (es : Entries Stamp) (e : TreeErr) → bodies.FitsErr res es e
    → IsLongPath (AreFilesFit (from_depot res es) → ⊥) e
not_from_depot res es tree_errors.OutOfMemory why = tt
not_from_depot res es tree_errors.Exists why = why
not_from_depot res es tree_errors.NotDirectory why = why
not_from_depot res es tree_errors.Limit why = why
not_from_depot res es tree_errors.Path why = files_pass res es why.0 why.1 why.2

-- its entries are in the ranges of its text, and no store keeps them
depot_entry : (path : List (List ℕ)) (e : Entry Stamp) → IsWritable stamp_form e → IsNewEntry (in_depot path e)
depot_entry path (Dir attributes) is = record { range = is; new = tt }
depot_entry path (Opaque attributes) is = record { range = is; new = tt }
depot_entry path (File attributes stamp) is = record { range = is; new = λ home kept. cc kept }
depot_entry path (Link owner target) is = record { range = is; new = tt }
depot_entry path Hide is = record { range = is; new = tt }

pub depot_new : (res : List (List ℕ)) (es : Entries Stamp) → AreWritable es
    → AllByRecursion (λ (e : List (List ℕ) × Entry HeldFile). IsNewEntry e.1) (from_depot res es)
depot_new res [] all = tt
depot_new res (x ∷ es) all = (depot_entry (res ++ x.0) x.1 all.0, depot_new res es all.1)

abbrev pub AreNewEntries : Entries HeldFile → Type 0
AreNewEntries es = AllByRecursion (λ (e : List (List ℕ) × Entry HeldFile). IsNewEntry e.1) es

abbrev pub directory_with : List (List ℕ) → Attributes → Entries HeldFile → Piece HeldFile
directory_with path attributes part = record { path = path; top = Dir attributes; part = part }

-- a directory with this part
pub directory_is : (path : List (List ℕ)) (attributes : Attributes) → attributes ≡ of_mode 493 → (part same : Entries HeldFile) → part ≡ same
    → directory_with path attributes part ≡ directory_with path (of_mode 493) same
directory_is path attributes is part same one = λ i. directory_with path (is i) (one i)
