use Rattle.std.proofs.Common.{◌∙◌, List, ℕ, ap, arith, subst, sym}
use Rattle.std.specs.List.{AllByRecursion}
use Rattle.std.proofs.lemmas.Bool.{false≢true}
use Rattle.ext_text.specs.Name.{IsName}
use Rattle.ext_text.specs.Path.{path_parts}
use Rattle.ext_text.proofs.CutLemmas.{cut_before}
use Rattle.ext_text.proofs.path_ref.PathRef.prefix.Goals as goal

pub before_rest-requires : goal.before_rest-requires
before_rest-requires c = (cut_before c.args.count c.args.self.now c.rest-below.result c.text-text.result.now c.text.result.now c.text-text.ensures.names c.text-text.ensures.same c.text.ensures.same c.rest-below.ensures (omega arith) (λ none. false≢true (c.if-is_root.ensures.1 none))).0

pub invariant_of-result : goal.invariant_of-result
invariant_of-result c =
    subst (λ (t : List ℕ). AllByRecursion IsName (path_parts t)) (sym c.before_rest.ensures)
    (cut_before c.args.count c.args.self.now c.rest-below.result c.text-text.result.now c.text.result.now c.text-text.ensures.names c.text-text.ensures.same c.text.ensures.same c.rest-below.ensures (omega arith) (λ none. false≢true (c.if-is_root.ensures.1 none))).2

pub returns : goal.returns
returns c =
    ap path_parts c.before_rest.ensures ∙ (cut_before c.args.count c.args.self.now c.rest-below.result c.text-text.result.now c.text.result.now c.text-text.ensures.names c.text-text.ensures.same c.text.ensures.same c.rest-below.ensures (omega arith) (λ none. false≢true (c.if-is_root.ensures.1 none))).1
