-- Facts of two disks that both tell, or neither, and of places after a call.
use Rattle.std.proofs.Common.{◌≡◌, ℕ, false, List, Option, Some, None, IfSome, refl, ap, ◌∙◌}
use Rattle.std.proofs.lemmas.Bool.{cond-false, cond-true}
use Rattle.std.specs.Ordering.{eq_by_cmp}
use Rattle.ext_text.specs.Path.{path_cmp}
use Rattle.ext_text.proofs.ForCallers.{tied_path}
use Rattle.ext_disk.specs.Disk.{Place, Places, Told, BothTold}
use Rattle.ext_disk.specs.Calls.{put}

-- a fact of both, by one of the first
pub told_with : (P : Told → Type 0) (R S : Told → Told → Type 0) → ((d e : Told) → P d → R d e → S d e) → (x y : Option Told) → IfSome x P → BothTold R x y → BothTold S x y
told_with P R S gives None None is both = tt
told_with P R S gives None (Some e) is both = absurd both
told_with P R S gives (Some d) None is both = absurd both
told_with P R S gives (Some d) (Some e) is both = gives d e is both

-- a fact of the second, by one of the first
pub told_second : (P Q : Told → Type 0) (R : Told → Told → Type 0) → ((d e : Told) → P d → R d e → Q e) → (x y : Option Told) → IfSome x P → BothTold R x y → IfSome y Q
told_second P Q R gives None None is both = tt
told_second P Q R gives None (Some e) is both = absurd both
told_second P Q R gives (Some d) None is both = absurd both
told_second P Q R gives (Some d) (Some e) is both = gives d e is both

-- facts of both by two others
pub told_two : (R S U : Told → Told → Type 0) → ((d e : Told) → R d e → S d e → U d e) → (x y : Option Told) → BothTold R x y → BothTold S x y → BothTold U x y
told_two R S U gives None None one two = tt
told_two R S U gives None (Some e) one two = absurd one
told_two R S U gives (Some d) None one two = absurd one
told_two R S U gives (Some d) (Some e) one two = gives d e one two

-- facts of one disk
pub if_map : (P Q : Told → Type 0) → ((d : Told) → P d → Q d) → (x : Option Told) → IfSome x P → IfSome x Q
if_map P Q gives None is = tt
if_map P Q gives (Some d) is = gives d is

pub if_two : (P Q S : Told → Type 0) → ((d : Told) → P d → Q d → S d) → (x : Option Told) → IfSome x P → IfSome x Q → IfSome x S
if_two P Q S gives None one two = tt
if_two P Q S gives (Some d) one two = gives d one two

-- what a changed place is
pub put_at : (p : List (List ℕ)) (place : Place) (d e : Places) → e ≡ put p place d → e p ≡ place
put_at p place d e is = ap (λ (x : Places). x p) is ∙ cond-true (eq_by_cmp path_cmp p p) place (d p) (tied_path p p refl)

-- each other one
pub put_off : (p : List (List ℕ)) (place : Place) (d e : Places) (q : List (List ℕ)) → e ≡ put p place d → eq_by_cmp path_cmp p q ≡ false → e q ≡ d q
put_off p place d e q is out = ap (λ (x : Places). x q) is ∙ cond-false (eq_by_cmp path_cmp p q) place (d q) out

-- with a fact of the second
pub told_and : (R : Told → Told → Type 0) (P : Told → Type 0) → (x y : Option Told) → BothTold R x y → IfSome y P → BothTold (λ d e. R d e × P e) x y
told_and R P None None both is = tt
told_and R P None (Some e) both is = absurd both
told_and R P (Some d) None both is = absurd both
told_and R P (Some d) (Some e) both is = (both, is)
