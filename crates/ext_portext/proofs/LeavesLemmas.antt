-- What attaching with extensions leaves of the host is what attaching leaves of it.
use Rattle.std.proofs.Common.{◌≡◌, ℕ, Bool, List, Ok, Err, inl, inr, sym, ap, subst}
use Rattle.std.specs.Prelude.{Result}
use Rattle.ext_host.specs.Held.{HeldFile}
use Rattle.ext_host.specs.Shelf.{Told}
use Rattle.ext_host.specs.declared.host.Host.{Host}
use Rattle.ext_units.specs.declared.image.Image.{Image}
use Rattle.ext_tree.specs.Tree.{Entries}
use Rattle.ext_units.specs.declared.body.Body.{Body}
use Rattle.ext_added.specs.declared.ask.Ask.{Ask}
use Rattle.ext_port.specs.Wants.{AttachesBody}
use Rattle.ext_port.specs.declared.attaching.Attach.{Attach}
use Rattle.ext_port.specs.declared.errors.PortErr.{PortErr}
use Rattle.ext_port.proofs.ForCallers.{LeavesOthers, body_leaves}
use Rattle.ext_portext.specs.Lines.{extension_lines}
use Rattle.ext_portext.specs.Wants.{AttachesExtended, UnitTreeWants, as_extended}
use Rattle.ext_portext.specs.declared.errors.PortExtErr.{PortExtErr}
use Rattle.ext_portext.specs.declared.extending.Extending.{Extending}

-- what is attached is no refusal
is_attached : (attach : Attach) (e : PortExtErr) {A : Type 0} → ◌≡◌ {A = Result Attach PortExtErr} (Ok attach) (Err e) → A
is_attached attach e same = absurd (subst (λ (r : Result Attach PortExtErr). elim r as (λ _. Type 0) [ Ok v ↦ Unit {0} | Err x ↦ ⊥ ]) same tt)

-- and it is what attaching gave
given_attach : (attach : Attach) (given : Result Attach PortErr) → ◌≡◌ {A = Result Attach PortExtErr} (Ok attach) (as_extended given) → given ≡ Ok attach
given_attach attach (Ok other) same = ap (λ (r : Result Attach PortExtErr). elim r as (λ _. Result Attach PortErr) [ Ok v ↦ Ok v | Err x ↦ Ok other ]) (sym same)
given_attach attach (Err e) same = is_attached attach _ same

module _ (again : Bool) (host : Host) (ask : Ask) (attach : Attach) where
  tree_leaves : (body : Body) (extensions : List Extending) (tree : Entries HeldFile) → UnitTreeWants again host ask body extensions tree (Ok attach) → LeavesOthers again host ask attach.plan.next
  tree_leaves body extensions tree (inl (few, (given, attaches, is))) =
      body_leaves again host ask attach body tree (extension_lines extensions)
      (subst (AttachesBody again host ask body tree (extension_lines extensions)) (given_attach attach given is) attaches)
  tree_leaves body extensions tree (inr (many, is)) = is_attached attach _ is

  pub extended_leaves : (told : HeldFile → Told) (old new : ℕ) (images : List Image) → AttachesExtended told old new again host ask images (Ok attach) → LeavesOthers again host ask attach.plan.next
  extended_leaves told old new images (base, is_base, inl (body, reads, inl (extensions, fit, (tree, is_tree, wants)))) = tree_leaves body extensions tree wants
  extended_leaves told old new images (base, is_base, inl (body, reads, inr (e, fails, is))) = is_attached attach e is
  extended_leaves told old new images (base, is_base, inr (e, reads, is)) = is_attached attach _ is
