-- Facts of two disks that both tell, or neither.
use Rattle.std.proofs.Common.{◌≡◌, Option, Some, None, subst, sym}
use Rattle.ext_disk.specs.Disk.{Told, BothTold}

pub both_map : (R S : Told → Told → Type 0) → ((d e : Told) → R d e → S d e) → (x y : Option Told) → BothTold R x y → BothTold S x y
both_map R S gives None None both = tt
both_map R S gives None (Some e) both = absurd both
both_map R S gives (Some d) None both = absurd both
both_map R S gives (Some d) (Some e) both = gives d e both

pub both_and : (R S Q : Told → Told → Type 0) → ((d e : Told) → R d e → S d e → Q d e) → (x y : Option Told) → BothTold R x y → BothTold S x y → BothTold Q x y
both_and R S Q gives None None one two = tt
both_and R S Q gives None (Some e) one two = absurd one
both_and R S Q gives (Some d) None one two = absurd one
both_and R S Q gives (Some d) (Some e) one two = gives d e one two

pub both_then : (R S Q : Told → Told → Type 0) → ((c d e : Told) → R c d → S d e → Q c e) → (x y z : Option Told) → BothTold R x y → BothTold S y z → BothTold Q x z
both_then R S Q gives None None None one two = tt
both_then R S Q gives None None (Some e) one two = absurd two
both_then R S Q gives None (Some d) z one two = absurd one
both_then R S Q gives (Some c) None z one two = absurd one
both_then R S Q gives (Some c) (Some d) None one two = absurd two
both_then R S Q gives (Some c) (Some d) (Some e) one two = gives c d e one two

pub both_itself : (R : Told → Told → Type 0) → ((d : Told) → R d d) → (x : Option Told) → BothTold R x x
both_itself R gives None = tt
both_itself R gives (Some d) = gives d

pub both_same : (R : Told → Told → Type 0) → ((d : Told) → R d d) → (x y : Option Told) → y ≡ x → BothTold R x y
both_same R gives x y same = subst (λ z. BothTold R x z) (sym same) (both_itself R gives x)
