-- A directory of a valid host, with all below it, has a text.
use Rattle.std.proofs.Common.{◌≡◌, ℕ, Bool, true, false, if◌then◌else◌, List, [], ◌∷◌, map, sym, refl, subst, arith}
use Rattle.std.specs.FinMap.Entries.{where_key}
use Rattle.ext_text.specs.Path.{is_proper_prefix, path_cmp}
use Rattle.ext_tree.specs.EntryLine.{IsWritable}
use Rattle.ext_tree.specs.Part.{part, seen_from}
use Rattle.ext_tree.specs.Tree.{Entries, IsTreeWithin, is_directory}
use Rattle.ext_tree.specs.TreeText.{AreWritable, HasText, stamp_form}
use Rattle.ext_tree.specs.declared.entry.Entry.{Entry}
use Rattle.ext_tree.specs.declared.entry.Entry.TheVariants.{Dir, Opaque, File, Link, Hide}
use Rattle.ext_tree.proofs.ForCallers.{tree_part_within}
use Rattle.ext_host.specs.Held.{HeldFile}
use Rattle.ext_host.specs.Stamped.{stamped_entry, stamps}
use Rattle.ext_host.specs.Valid.{AreInRange, held_form}
use Rattle.ext_host.proofs.ForCallers.{tree_changed_within}
use Rattle.ext_pubtaken.specs.Taken.{PublishedHasText}

stamped_range : (e : Entry HeldFile) → IsWritable held_form e → IsWritable stamp_form (stamped_entry e)
stamped_range (Dir attributes) range = range
stamped_range (Opaque attributes) range = range
stamped_range (File attributes held) range = range
stamped_range (Link owner target) range = range
stamped_range Hide range = range

stamped_all : (es : Entries HeldFile) → AreInRange es → AreWritable (stamps es)
stamped_all [] all = tt
stamped_all (e ∷ es) all = (stamped_range e.1 all.0, stamped_all es all.1)

where_all : (f : List (List ℕ) → Bool) (es : Entries HeldFile) → AreInRange es → AreInRange (where_key path_cmp f es)
where_all f [] all = tt
where_all f (e ∷ es) all =
    elim (f e.0) as (λ b. AreInRange (if b then e ∷ where_key path_cmp f es else where_key path_cmp f es)) [
      | true ↦ (all.0, where_all f es all.1)
      | false ↦ where_all f es all.1
    ]

seen_all : (p : List (List ℕ)) (es : Entries HeldFile) → AreInRange es → AreInRange (map (seen_from p) es)
seen_all p [] all = tt
seen_all p (e ∷ es) all = (all.0, seen_all p es all.1)

part_all : (p : List (List ℕ)) (es : Entries HeldFile) → AreInRange es → AreInRange (part p es)
part_all p es all = seen_all p (where_key path_cmp (is_proper_prefix p) es) (where_all (is_proper_prefix p) es all)

keeps_directories : (p : List (List ℕ)) (e : Entry HeldFile) → is_directory (stamped_entry e) ≡ is_directory e
keeps_directories p (Dir attributes) = refl
keeps_directories p (Opaque attributes) = refl
keeps_directories p (File attributes held) = refl
keeps_directories p (Link owner target) = refl
keeps_directories p Hide = refl

pub published_has_text : PublishedHasText
published_has_text host path tree valid is gives =
    let most = valid.present.limits in
    let within : IsTreeWithin host.root = record { tree = is; count = omega (arith, most.entries) } in
    subst (λ t. HasText (stamps t)) (sym gives.1) (record {
      within = tree_changed_within (λ p e. stamped_entry e) keeps_directories (part path host.root) (tree_part_within path host.root within);
      each = stamped_all (part path host.root) (part_all path host.root most.root);
    })
