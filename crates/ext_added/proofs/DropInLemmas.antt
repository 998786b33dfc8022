-- The tree of both drop-ins of a service.
use Rattle.std.proofs.Common.{[], ◌∷◌, refl, arith}
use Rattle.std.specs.Prelude.{codes}
use Rattle.ext_tree.specs.Tree.{IsTreeWithin}
use Rattle.ext_tree.specs.declared.entry.Entry.{Entry}
use Rattle.ext_tree.proofs.ForCallers.{empty_tree, push_tree}
use Rattle.ext_host.specs.Held.{HeldFile}
use Rattle.ext_added.specs.Added.{drop_ins_of}
use Rattle.ext_added.proofs.NameLemmas.{own_path, profile_path}

pub both_tree : (profile own : Entry HeldFile) → IsTreeWithin (drop_ins_of profile own)
both_tree profile own = record {
  tree =
      push_tree ((codes "10-profile.conf" ∷ [], profile) ∷ []) (codes "20-portable.conf" ∷ []) own
      (push_tree [] (codes "10-profile.conf" ∷ []) profile empty_tree tt profile_path (omega arith) refl)
      (refl, tt) own_path (omega arith) refl;
  count = omega arith;
}
