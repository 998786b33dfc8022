-- Tests and orderings as facts.
use Rattle.std.proofs.Common.{◌≡◌, Bool, true, false, T, refl}
use Rattle.std.proofs.lemmas.Bool.{false≢true}
use Rattle.std.specs.declared.cmp.Ordering.{Ordering}
use Rattle.std.specs.declared.cmp.Ordering.TheVariants.{Less, Equal, Greater}
use Rattle.std.specs.Ordering.{is_lt, is_eq, is_gt}
use Rattle.std.specs.Cmp.{Equal-is}

-- the other way than `T_from_true` of std
pub true_from_T : (b : Bool) → T b → b ≡ true
true_from_T true holds = refl
true_from_T false holds = absurd holds

-- what tests as less is less
pub is_less : (r : Ordering) → is_lt r ≡ true → r ≡ Less
is_less Less is = refl
is_less Equal is = absurd (false≢true is)
is_less Greater is = absurd (false≢true is)

-- what tests as equal is equal
pub is_equal : (r : Ordering) → is_eq r ≡ true → r ≡ Equal
is_equal r is = (Equal-is r).0 is

-- what tests as greater is greater
pub is_greater : (r : Ordering) → is_gt r ≡ true → r ≡ Greater
is_greater Less is = absurd (false≢true is)
is_greater Equal is = absurd (false≢true is)
is_greater Greater is = refl
