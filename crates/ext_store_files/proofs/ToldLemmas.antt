-- Facts of two disks that both tell, or neither. They belong to the crate of the disk.
use Rattle.std.proofs.Common.{◌≡◌, Option, Some, None, subst, sym}
use Rattle.ext_disk.specs.Disk.{Told, BothTold}

-- a weaker fact holds of two disks that tell
pub told_map : (R S : Told → Told → Type 0) → ((d e : Told) → R d e → S d e) → (x y : Option Told) → BothTold R x y → BothTold S x y
told_map R S gives None None both = tt
told_map R S gives None (Some e) both = absurd both
told_map R S gives (Some d) None both = absurd both
told_map R S gives (Some d) (Some e) both = gives d e both

-- facts of two stretches make one of both together
pub told_then : (R S Q : Told → Told → Type 0) → ((c d e : Told) → R c d → S d e → Q c e) → (x y z : Option Told) → BothTold R x y → BothTold S y z → BothTold Q x z
told_then R S Q gives None None None one two = tt
told_then R S Q gives None None (Some e) one two = absurd two
told_then R S Q gives None (Some d) z one two = absurd one
told_then R S Q gives (Some c) None z one two = absurd one
told_then R S Q gives (Some c) (Some d) None one two = absurd two
told_then R S Q gives (Some c) (Some d) (Some e) one two = gives c d e one two

-- what each disk has to itself holds of one
pub told_itself : (R : Told → Told → Type 0) → ((d : Told) → R d d) → (x : Option Told) → BothTold R x x
told_itself R gives None = tt
told_itself R gives (Some d) = gives d

-- and of two that tell the same
pub told_same : (R : Told → Told → Type 0) → ((d : Told) → R d d) → (x y : Option Told) → y ≡ x → BothTold R x y
told_same R gives x y same = subst (λ z. BothTold R x z) (sym same) (told_itself R gives x)
