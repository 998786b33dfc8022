-- There is one choice.
use Rattle.std.proofs.Common.{◌≡◌, ◌≢◌, ℕ, zero, suc, List, [], ◌∷◌, Option, Some, None, refl, sym, ap, ◌∙◌}
use Rattle.std.specs.Prelude.{slice_get}
use Rattle.std.specs.List.Sorted.{IsStrictlySortedBy}
use Rattle.std.specs.Ordering.{ordering_reverse}
use Rattle.std.specs.declared.cmp.Ordering.{Ordering}
use Rattle.std.specs.declared.cmp.Ordering.TheVariants.{Less, Equal, Greater}
use Rattle.std.proofs.lemmas.Bool.{false≢true}
use Rattle.std.proofs.lemmas.Option.{none-some}
use Rattle.ext_vers.specs.Order.{orders_exact, orders_total}
use Rattle.ext_vers.specs.Version.{order_of}
use Rattle.ext_versions.proofs.ForCallers.{not_above_itself}
use Rattle.ext_choice.specs.Choice.{Chooses, ChoosesNewest, ChoosesWanted, IsNewest}
use Rattle.ext_choice.specs.declared.choosing.Choice.{Choice}
use Rattle.ext_choice.specs.declared.choosing.Choice.TheVariants.{Install, Present, NoneNewer, NoSuch}
use Rattle.ext_choice.proofs.ChoosingLemmas.{got_among}

-- a version has one place among ascending ones
one_place : (ws : List (List ℕ)) (p q : ℕ) (v : List ℕ) → IsStrictlySortedBy order_of ws → slice_get ws p ≡ Some v
    → slice_get ws q ≡ Some v → p ≡ q
unfolding IsStrictlySortedBy
one_place [] p q v sorted first second = absurd (none-some v first)
one_place (w ∷ ws) zero zero v sorted first second = refl
one_place (w ∷ ws) zero (suc q) v sorted first second =
    absurd (false≢true (sym (not_above_itself w ws sorted.0) ∙ got_among ws q w (second ∙ sym first)))
one_place (w ∷ ws) (suc p) zero v sorted first second =
    absurd (false≢true (sym (not_above_itself w ws sorted.0) ∙ got_among ws p w (first ∙ sym second)))
one_place (w ∷ ws) (suc p) (suc q) v sorted first second = ap suc (one_place ws p q v sorted.1 first second)

tie : (r : Ordering) → r ≢ Greater → ordering_reverse r ≢ Greater → r ≡ Equal
tie Less here back = absurd (back refl)
tie Equal here back = refl
tie Greater here back = absurd (here refl)

one_newest : (available installed : List (List ℕ)) (v w : List ℕ) → IsNewest available installed v → IsNewest available installed w → v ≡ w
one_newest available installed v w first second =
    orders_exact v w (tie (order_of v w) (second.greatest v first.there)
    (λ back. first.greatest w second.there (orders_total.antisymm w v ∙ back)))

choice_of_newest : (available installed : List (List ℕ)) (a b : Choice) → IsStrictlySortedBy order_of available
    → ChoosesNewest available installed a → ChoosesNewest available installed b → a ≡ b
choice_of_newest available installed (Install p) (Install q) sorted one other =
    ap Install (one_place available p q one.0 sorted one.1
    (other.1 ∙ ap (λ (x : List ℕ). Some x) (one_newest available installed other.0 one.0 other.2 one.2)))
choice_of_newest available installed (Install p) Present sorted one other = absurd other
choice_of_newest available installed (Install p) NoneNewer sorted one other = absurd (other one.0 one.2)
choice_of_newest available installed (Install p) NoSuch sorted one other = absurd other
choice_of_newest available installed Present b sorted one other = absurd one
choice_of_newest available installed NoneNewer (Install q) sorted one other = absurd (one other.0 other.2)
choice_of_newest available installed NoneNewer Present sorted one other = absurd other
choice_of_newest available installed NoneNewer NoneNewer sorted one other = refl
choice_of_newest available installed NoneNewer NoSuch sorted one other = absurd other
choice_of_newest available installed NoSuch b sorted one other = absurd one

choice_of_wanted : (available installed : List (List ℕ)) (v : List ℕ) (a b : Choice) → IsStrictlySortedBy order_of available
    → ChoosesWanted available installed v a → ChoosesWanted available installed v b → a ≡ b
choice_of_wanted available installed v (Install p) (Install q) sorted one other =
    ap Install (one_place available p q v sorted one.1 other.1)
choice_of_wanted available installed v (Install p) Present sorted one other = absurd (false≢true (sym one.0 ∙ other))
choice_of_wanted available installed v (Install p) NoneNewer sorted one other = absurd other
choice_of_wanted available installed v (Install p) NoSuch sorted one other =
    absurd (false≢true (sym other.1 ∙ got_among available p v one.1))
choice_of_wanted available installed v Present (Install q) sorted one other = absurd (false≢true (sym other.0 ∙ one))
choice_of_wanted available installed v Present Present sorted one other = refl
choice_of_wanted available installed v Present NoneNewer sorted one other = absurd other
choice_of_wanted available installed v Present NoSuch sorted one other = absurd (false≢true (sym other.0 ∙ one))
choice_of_wanted available installed v NoneNewer b sorted one other = absurd one
choice_of_wanted available installed v NoSuch (Install q) sorted one other =
    absurd (false≢true (sym one.1 ∙ got_among available q v other.1))
choice_of_wanted available installed v NoSuch Present sorted one other = absurd (false≢true (sym one.0 ∙ other))
choice_of_wanted available installed v NoSuch NoneNewer sorted one other = absurd other
choice_of_wanted available installed v NoSuch NoSuch sorted one other = refl

-- of ascending available versions there is one choice
pub one_choice : (available installed : List (List ℕ)) (wanted : Option (List ℕ)) (a b : Choice) → IsStrictlySortedBy order_of available
    → Chooses available installed wanted a → Chooses available installed wanted b → a ≡ b
one_choice available installed None a b sorted one other = choice_of_newest available installed a b sorted one other
one_choice available installed (Some v) a b sorted one other = choice_of_wanted available installed v a b sorted one other
