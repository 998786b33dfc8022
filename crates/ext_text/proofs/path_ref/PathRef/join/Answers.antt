use Rattle.std.proofs.Common.{◌∙◌, ap, arith, length, length-append, subst, sym}
use Rattle.ext_text.specs.Path.{IsPath}
use Rattle.ext_text.proofs.CutLemmas.{joined_parts, joined_path, joined_text}
use Rattle.ext_text.proofs.path_ref.PathRef.join.Goals as goal

pub returns-then-len_of_both-gt-MOST_BYTES : goal.returns-then-len_of_both-gt-MOST_BYTES
returns-then-len_of_both-gt-MOST_BYTES c =
    omega (arith, ap length (joined_text c.args.self.now c.args.other.now c.text-upper.result.now c.text-lower.result.now c.text-upper.ensures.same c.text-lower.ensures.same c.requires.upper.each c.requires.lower.each))

pub returns-then-depth-gt-MOST_NAMES : goal.returns-then-depth-gt-MOST_NAMES
returns-then-depth-gt-MOST_NAMES c = (
  omega (arith, ap length (joined_text c.args.self.now c.args.other.now c.text-upper.result.now c.text-lower.result.now c.text-upper.ensures.same c.text-lower.ensures.same c.requires.upper.each c.requires.lower.each)),
  omega (arith, length-append c.args.self.now c.args.other.now),
)

pub of_text-requires : goal.of_text-requires
of_text-requires c =
    subst IsPath
    (sym (joined_parts c.args.self.now c.args.other.now c.text-upper.result.now c.text-lower.result.now c.in_ok-both.field-0.items c.text-upper.ensures.same c.text-lower.ensures.same c.requires.upper.each c.requires.lower.each c.in_ok-both.ensures))
    (joined_path c.args.self.now c.args.other.now c.text-upper.result.now c.text-lower.result.now c.text-upper.ensures.same c.text-lower.ensures.same c.requires.upper.each c.requires.lower.each (omega arith) (omega arith))

pub returns : goal.returns
returns c =
    let is = c.of_text.ensures ∙ joined_parts c.args.self.now c.args.other.now c.text-upper.result.now c.text-lower.result.now c.in_ok-both.field-0.items c.text-upper.ensures.same c.text-lower.ensures.same c.requires.upper.each c.requires.lower.each c.in_ok-both.ensures in
    (subst IsPath (sym is) (joined_path c.args.self.now c.args.other.now c.text-upper.result.now c.text-lower.result.now c.text-upper.ensures.same c.text-lower.ensures.same c.requires.upper.each c.requires.lower.each (omega arith) (omega arith)), is)
