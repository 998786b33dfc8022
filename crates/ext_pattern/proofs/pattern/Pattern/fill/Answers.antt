use Rattle.std.proofs.Common.{◌≡◌, sym, subst}
use Rattle.ext_text.specs.Name.{IsName}
use Rattle.ext_pattern.specs.Filling.{filled}
use Rattle.ext_pattern.specs.Pattern.{PatternView}
use Rattle.ext_pattern.proofs.NameLemmas.{filled_name}
use Rattle.ext_pattern.proofs.pattern.Pattern.fill.Goals as goal

pub of_bytes-requires : goal.of_bytes-requires
of_bytes-requires c =
    let p : PatternView = record { first = c.self.inside.first; parts = c.self.inside.parts } in
    let is : c.bytes-3.result.now ≡ filled p c.args.version.now c.args.digest.now.0 = cc (c.bytes-3.ensures, c.in_ok-text.ensures, c.bytes-2.ensures, c.as_slice.ensures, c.hex_digits-digits.ensures, c.bytes.ensures.same) in
    subst IsName (sym is) (filled_name p c.args.version.now c.args.digest.now.0 c.self.invariant c.requires c.bytes.ensures.digest)
