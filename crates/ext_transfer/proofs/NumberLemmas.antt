-- Numbers of instances.
use Rattle.std.proofs.Common.{◌≡◌, ◌≢◌, ℕ, ◌<◌, ◌≤◌, Bool, true, false, ◌&&◌, cond, leb, List, Some, None, decimal, sym, ap, ◌∙◌, arith}
use Rattle.std.specs.Str.{bytes_eq}
use Rattle.std.specs.Str.Parse.{digits_value}
use Rattle.std.proofs.lemmas.Bool.{and_from, and_left, and_parts, and_right, false_from_ne_true, le-leb, leb-true, lt-leb}
use Rattle.std.proofs.lemmas.Fmt.{decimal_is_IsNumeral}
use Rattle.std.proofs.lemmas.Slice.Eq.{bytes_eq-Decides}
use Rattle.ext_transfer.specs.Numbers.{are_instances, instances_of}

written : (text : List ℕ) (n : ℕ) → n ≤ 1000000 → text ≡ decimal n → digits_value 10 text ≡ n
written text n few is = ap (digits_value 10) is ∙ (decimal_is_IsNumeral n (omega arith)).1

-- enough instances
pub enough : (text : List ℕ) (n : ℕ) → n ≤ 1000000 → text ≡ decimal n → 2 ≤ n → instances_of text ≡ Some n
enough text n few is many =
    let v = digits_value 10 text in
    let same : v ≡ n = written text n few is in
    let own : bytes_eq text (decimal v) ≡ true = (bytes_eq-Decides text (decimal v)).1 (is ∙ ap decimal (sym same)) in
    let within : are_instances v ≡ true = and_from (leb 2 v) (leb v 1000000) (le-leb 2 v (omega (arith, same, many))) (le-leb v 1000000 (omega (arith, same, few))) in
    ap (λ (x : Bool). cond x (Some v) None) (and_from (bytes_eq text (decimal v)) (are_instances v) own within) ∙ ap Some same

-- too few
pub too_few : (text : List ℕ) (n : ℕ) → n ≤ 1000000 → text ≡ decimal n → n < 2 → instances_of text ≡ None
too_few text n few is low =
    let v = digits_value 10 text in
    let same : v ≡ n = written text n few is in
    let none : are_instances v ≡ false = and_left (leb 2 v) (leb v 1000000) (lt-leb 2 v (omega (arith, same, low))) in
    ap (λ (x : Bool). cond x (Some v) None) (and_right (bytes_eq text (decimal v)) (are_instances v) none)

-- no number up to the most
pub no_number : (text : List ℕ) → ((n : ℕ) → n ≤ 1000000 → text ≢ decimal n) → instances_of text ≡ None
no_number text other =
    let v = digits_value 10 text in
    let a = bytes_eq text (decimal v) in
    let never : (a && are_instances v) ≡ false =
    false_from_ne_true (a && are_instances v) (λ is.
    let parts = and_parts a (are_instances v) is in
    let within = and_parts (leb 2 v) (leb v 1000000) parts.1 in
    other v (leb-true v 1000000 within.1) ((bytes_eq-Decides text (decimal v)).0 parts.0))
    in
    ap (λ (x : Bool). cond x (Some v) None) never
