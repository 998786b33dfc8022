use Rattle.std.proofs.Common.{◌∙◌, ◌≡◌, eqb, length, rules}
use Rattle.std.specs.Cmp.Lexicographic.{slice_cmp}
use Rattle.std.specs.Ordering.{nat_cmp, ordering_then}
use Rattle.ext_vers.specs.Token.{bytes_after}
use Rattle.ext_vers.proofs.NumberLemmas.{numbers}
use Rattle.ext_vers.proofs.number.number_cmp.Goals as goal

pub returns : goal.returns
returns c =
    let a = c.args.a.now in
    let b = c.args.b.now in
    let answer : c.digits_cmp.result ≡ ordering_then (nat_cmp (length (bytes_after (λ d. eqb d 48) a)) (length (bytes_after (λ d. eqb d 48) b))) (slice_cmp nat_cmp (bytes_after (λ d. eqb d 48) a) (bytes_after (λ d. eqb d 48) b)) = search rules in
    answer ∙ numbers a b c.requires.left c.requires.right
