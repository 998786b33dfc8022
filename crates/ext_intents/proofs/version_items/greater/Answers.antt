use Rattle.std.proofs.Common.{◌≡◌, true, false, Some, sym, subst}
use Rattle.std.specs.Option.{option_copied}
use Rattle.std.specs.Ordering.{is_lt}
use Rattle.ext_vers.specs.Version.{version_cmp}
use Rattle.ext_intents.specs.VersionItems.{IsGreater}
use Rattle.ext_intents.proofs.LeastLemmas.{first_greater, second_greater}
use Rattle.ext_intents.proofs.version_items.greater.Goals as goal

pub returns-then-is_lt : goal.returns-then-is_lt
returns-then-is_lt c =
    let one = c.in-Some-Some.one.now in
    let other = c.in-Some-Some.other.now in
    let at_first : option_copied c.args.first ≡ Some one = cc c.in-Some-Some.is-0 in
    let at_second : option_copied c.args.second ≡ Some other = cc c.in-Some-Some.is-1 in
    let less : is_lt (version_cmp one other) ≡ true = cc (c.if-is_lt.true, c.is_lt.ensures, c.compare.ensures, c.bytes.ensures, c.bytes-in-Some-Some.ensures) in
    subst (λ a. IsGreater a (option_copied c.args.second) (Some other)) (sym at_first)
    (subst (λ b. IsGreater (Some one) b (Some other)) (sym at_second) (second_greater one other less))

pub returns-else-is_lt : goal.returns-else-is_lt
returns-else-is_lt c =
    let one = c.in-Some-Some.one.now in
    let other = c.in-Some-Some.other.now in
    let at_first : option_copied c.args.first ≡ Some one = cc c.in-Some-Some.is-0 in
    let at_second : option_copied c.args.second ≡ Some other = cc c.in-Some-Some.is-1 in
    let not : is_lt (version_cmp one other) ≡ false = cc (c.if-is_lt.false, c.is_lt.ensures, c.compare.ensures, c.bytes.ensures, c.bytes-in-Some-Some.ensures) in
    subst (λ a. IsGreater a (option_copied c.args.second) (Some one)) (sym at_first)
    (subst (λ b. IsGreater (Some one) b (Some one)) (sym at_second) (first_greater one other not))
