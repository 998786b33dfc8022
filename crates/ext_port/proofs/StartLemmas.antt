-- The host from which an image is attached.
use Rattle.std.proofs.Common.{◌≡◌, Bool, true, false, if◌then◌else◌, Some, Ok, Err, refl, sym, ◌∙◌, subst}
use Rattle.std.specs.Prelude.{IfOk, IsTrue, Result}
use Rattle.std.specs.FinMap.Entries.{same_entries}
use Rattle.std.proofs.lemmas.Float.{T_from_true}
use Rattle.ext_text.specs.Order.{paths_exact, paths_total}
use Rattle.ext_text.specs.Path.{path_cmp}
use Rattle.ext_tree.specs.Tree.{Entries, lookup}
use Rattle.ext_tree.specs.declared.entry.Entry.TheVariants.{File}
use Rattle.ext_host.specs.Held.{HeldFile}
use Rattle.ext_host.specs.Host.{is_in}
use Rattle.ext_host.specs.Planning.{IsBaseTree, IsPlannedHost, ServesAll, ServesHost}
use Rattle.ext_host.specs.ReadOnly.{merged_in}
use Rattle.ext_host.specs.Valid.{IsValidHost}
use Rattle.ext_host.specs.declared.host.Host.{Host}
use Rattle.ext_host.proofs.ForCallers.{drawn_from_itself, drawn_through}
use Rattle.ext_units.specs.declared.body.Body.{Body}
use Rattle.ext_units.specs.declared.image.Image.{Image}
use Rattle.ext_attached.specs.Going.{paths_without}
use Rattle.ext_attached.proofs.ForCallers.{cut_found}
use Rattle.ext_port.specs.Given.{IsBodyFor, IsBodyIn}
use Rattle.ext_port.specs.Starting.{start_host}
use Rattle.ext_port.specs.declared.attaching.Attach.{Attach}
use Rattle.ext_port.specs.declared.errors.PortErr.{PortErr}

-- it has the architecture of the host
pub arch_start : (again : Bool) (image : Image) (host : Host) → (start_host again image host).arch ≡ host.arch
arch_start true image host = refl
arch_start false image host = refl

-- a shelf that serves the host serves it
pub serves_start : (serves : HeldFile → Bool) (again : Bool) (image : Image) (host : Host) → ServesHost serves host → ServesHost serves (start_host again image host)
serves_start serves false image host all = all
serves_start serves true image host all = record {
  root = λ path attributes held found. all.root path attributes held (cut_found (paths_without image host) host.root path (File attributes held) found);
  lower = all.lower;
}

-- and its base
pub base_served : (serves : HeldFile → Bool) (host : Host) (base : Entries HeldFile) → IsBaseTree host base → ServesHost serves host → ServesAll serves base
base_served serves host base is all path attributes held found =
    elim (is_in (merged_in host) path) as (λ b. (if b then lookup host.lower path else lookup host.root path) ≡ Some (File attributes held) → IsTrue (serves held)) [
      | true ↦ λ under. all.lower path attributes held under
      | false ↦ λ seen. all.root path attributes held seen
    ] (sym (is.is_base path) ∙ found)

-- a host has one base
pub one_base : (host : Host) (a b : Entries HeldFile) → IsBaseTree host a → IsBaseTree host b → a ≡ b
one_base host a b first second =
    same_entries path_cmp paths_total paths_exact a b (T_from_true _ first.tree.sorted) (T_from_true _ second.tree.sorted) (λ q. first.is_base q ∙ sym (second.is_base q))

-- so the body of an image is that in this base
pub body_here : (host : Host) (base : Entries HeldFile) (image : Image) (body : Body) → IsBaseTree host base → IsBodyFor host image body → IsBodyIn host base image body
body_here host base image body is known = subst (λ es. IsBodyIn host es image body) (one_base host known.base base known.is_base is) known.body_in

-- what is planned of a host that is planned is planned
pub planned_through : (a b c : Host) → IsPlannedHost a b → IsPlannedHost b c → IsPlannedHost a c
planned_through a b c first second = record { valid = second.valid; drawn = drawn_through a b c first.drawn second.drawn }

-- so is an equal host
pub planned_itself : (a b : Host) → IsValidHost a → b ≡ a → IsPlannedHost a b
planned_itself a b valid same = subst (IsPlannedHost a) (sym same) (record { valid = valid; drawn = drawn_from_itself a })

pub attach_through : (a b : Host) (r : Result Attach PortErr) → IsPlannedHost a b → IfOk r (λ attach. IsPlannedHost b attach.plan.next) → IfOk r (λ attach. IsPlannedHost a attach.plan.next)
attach_through a b (Ok attach) first second = planned_through a b attach.plan.next first second
attach_through a b (Err e) first second = tt
