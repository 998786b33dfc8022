-- The greatest of the least versions of transfers, found of one after the other.
use Rattle.std.proofs.Common.{◌≡◌, ℕ, Bool, true, false, ◌||◌, List, [], ◌∷◌, Option, Some, None, refl, sym, ap, ◌∙◌}
use Rattle.std.specs.List.{list_any}
use Rattle.std.specs.Ordering.{is_gt, is_lt, ordering_reverse}
use Rattle.std.specs.Cmp.{upto}
use Rattle.std.specs.declared.cmp.Ordering.{Ordering}
use Rattle.std.specs.declared.cmp.Ordering.TheVariants.{Less, Equal, Greater}
use Rattle.ext_vers.specs.Order.{versions_total}
use Rattle.ext_vers.specs.Version.{version_cmp}
use Rattle.ext_transfer.specs.declared.transfer.Transfer.{Transfer}
use Rattle.ext_intents.specs.Updates.{is_obsolete_by}
use Rattle.ext_intents.specs.VersionItems.{IsGreater, IsGreatestLeast}

-- the least version so far is above a version, or that of a transfer that is left is, exactly where that of some transfer is
abbrev pub GoesOn : List Transfer → Option (List ℕ) → List Transfer → Type 0
GoesOn all greatest left =
    (version : List ℕ) → (is_obsolete_by greatest version || list_any (λ (t : Transfer). is_obsolete_by t.min version) left) ≡ list_any (λ (t : Transfer). is_obsolete_by t.min version) all

or_parts : (a b c : Bool) → ((a || b) || c) ≡ (a || (b || c))
or_parts true b c = refl
or_parts false b c = refl

or_none : (b : Bool) → (b || false) ≡ b
or_none true = refl
or_none false = refl

pub goes_on_after : (all : List Transfer) (transfer : Transfer) (left : List Transfer) (greatest next : Option (List ℕ)) → GoesOn all greatest (transfer ∷ left) → IsGreater greatest transfer.min next → GoesOn all next left
goes_on_after all transfer left greatest next so_far greater version =
    let rest = list_any (λ (t : Transfer). is_obsolete_by t.min version) left in
    ap (λ b. b || rest) (greater version) ∙ or_parts (is_obsolete_by greatest version) (is_obsolete_by transfer.min version) rest ∙ so_far version

pub goes_on_last : (all : List Transfer) (greatest : Option (List ℕ)) → GoesOn all greatest [] → IsGreatestLeast all greatest
goes_on_last all greatest so_far version = sym (or_none (is_obsolete_by greatest version)) ∙ so_far version

-- what the lesser of two is above, the greater is above too
or_upper : (lesser upper : Bool) → (upper ≡ false → lesser ≡ false) → upper ≡ (lesser || upper)
or_upper true true not = refl
or_upper false upper not = refl
or_upper true false not = sym (not refl)

or_lower : (upper lesser : Bool) → (upper ≡ false → lesser ≡ false) → upper ≡ (upper || lesser)
or_lower true lesser not = refl
or_lower false lesser not = sym (not refl)

less_upto : (o : Ordering) → is_lt o ≡ true → is_gt o ≡ false
less_upto Less is = refl
less_upto Equal is = refl
less_upto Greater is = sym is

back_upto : (o : Ordering) → is_lt o ≡ false → is_gt (ordering_reverse o) ≡ false
back_upto Less is = is
back_upto Equal is = refl
back_upto Greater is = refl

pub second_greater : (one other : List ℕ) → is_lt (version_cmp one other) ≡ true → IsGreater (Some one) (Some other) (Some other)
second_greater one other less version =
    or_upper (is_gt (version_cmp one version)) (is_gt (version_cmp other version))
    (upto versions_total one other version (less_upto (version_cmp one other) less))

pub first_greater : (one other : List ℕ) → is_lt (version_cmp one other) ≡ false → IsGreater (Some one) (Some other) (Some one)
first_greater one other not version =
    or_lower (is_gt (version_cmp one version)) (is_gt (version_cmp other version))
    (upto versions_total other one version (ap is_gt (versions_total.antisymm other one) ∙ back_upto (version_cmp one other) not))

pub none_greater : (other : Option (List ℕ)) → IsGreater None other other
none_greater other version = refl

pub greater_none : (one : Option (List ℕ)) → IsGreater one None one
greater_none one version = sym (or_none (is_obsolete_by one version))
