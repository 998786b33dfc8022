-- The files of the base of a host, and of what it has below a directory, are files of the host.
use Rattle.std.proofs.Common.{◌≡◌, ℕ, true, false, if◌then◌else◌, List, [], ◌∷◌, ◌++◌, Some, inl, inr, sym, ap, ◌∙◌}
use Rattle.std.specs.Prelude.{◌⊎◌}
use Rattle.std.proofs.lemmas.Option.{none-some}
use Rattle.ext_tree.specs.Part.{part}
use Rattle.ext_tree.specs.Tree.{Entries, lookup}
use Rattle.ext_tree.specs.declared.entry.Entry.{Entry}
use Rattle.ext_tree.specs.declared.entry.Entry.TheVariants.{File}
use Rattle.ext_tree.proofs.ForCallers.{lookup_part, root_part}
use Rattle.ext_host.specs.Drawn.{HasFile}
use Rattle.ext_host.specs.Held.{HeldFile}
use Rattle.ext_host.specs.Host.{is_in}
use Rattle.ext_host.specs.Planning.{IsBaseTree}
use Rattle.ext_host.specs.ReadOnly.{merged_in}
use Rattle.ext_host.specs.declared.host.Host.{Host}
use Rattle.ext_units.specs.Body.{IsTreeOf}
use Rattle.ext_port.specs.Given.{AreFilesOf, IsHostFile}

module _ (host : Host) (base : Entries HeldFile) (is_base : IsBaseTree host base) where
  -- an entry of the base is one that is seen, or lies under what is seen
  pub base_entry : (q : List (List ℕ)) (e : Entry HeldFile) → lookup base q ≡ Some e → (lookup host.root q ≡ Some e) ⊎ (lookup host.lower q ≡ Some e)
  base_entry q e found =
      elim (is_in (merged_in host) q) as (λ b. (if b then lookup host.lower q else lookup host.root q) ≡ Some e → (lookup host.root q ≡ Some e) ⊎ (lookup host.lower q ≡ Some e)) [
        | true ↦ λ under. inr under
        | false ↦ λ seen. inl seen
      ] (sym (is_base.is_base q) ∙ found)

  -- a file is one of the host
  pub base_file : (held : HeldFile) → HasFile base held → IsHostFile host held
  base_file held file = elim (base_entry file.path (File file.attributes held) file.stands) [
    | inl seen ↦ inl (record { path = file.path; attributes = file.attributes; stands = seen })
    | inr under ↦ inr (record { path = file.path; attributes = file.attributes; stands = under })
  ]

  -- an entry of the image is one of the base
  pub part_entry : (d q : List (List ℕ)) (e : Entry HeldFile) → lookup (part d base) q ≡ Some e → (r : List (List ℕ)) × (lookup base r ≡ Some e)
  part_entry d [] e found = absurd (none-some e (sym (root_part d base) ∙ found))
  part_entry d (n ∷ q) e found = (d ++ n ∷ q, sym (lookup_part d n q base) ∙ found)

  -- so the files of an image are files of the host
  pub tree_files : (place : List (List ℕ)) (tree : Entries HeldFile) → IsTreeOf base place tree → AreFilesOf host tree
  tree_files place tree is held file =
      let r = part_entry is.directory file.path (File file.attributes held) (sym (ap (λ es. lookup es file.path) is.below) ∙ file.stands) in
      base_file held (record { path = r.0; attributes = file.attributes; stands = r.1 })
