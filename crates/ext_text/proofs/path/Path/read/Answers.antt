use Rattle.std.proofs.Common.{◌∙◌, ap, refl, subst, sym}
use Rattle.std.proofs.lemmas.Bool.{false≢true}
use Rattle.ext_text.proofs.CutLemmas.{deep_parts, few_parts, parts_path, text_of_parts}
use Rattle.ext_text.specs.Path.{IsPath, path_parts}
use Rattle.ext_text.proofs.path.Path.read.Goals as goal

pub returns-then-count_of_parts-gt-MOST_NAMES : goal.returns-then-count_of_parts-gt-MOST_NAMES
returns-then-count_of_parts-gt-MOST_NAMES c =
    (c.if-bytes-gt-MOST_BYTES.false, deep_parts c.args.bytes.now c.count_of_parts.result c.count_of_parts.ensures c.if-count_of_parts-gt-MOST_NAMES.true)

pub returns-then-not-are_names : goal.returns-then-not-are_names
returns-then-not-are_names c = (
  c.if-bytes-gt-MOST_BYTES.false,
  few_parts c.args.bytes.now c.count_of_parts.result c.count_of_parts.ensures c.if-count_of_parts-gt-MOST_NAMES.false,
  λ each. false≢true (c.if-not-are_names.ensures.1 each),
)

pub invariant_of-result : goal.invariant_of-result
invariant_of-result c =
    let same = rw c.in_ok-allocated.ensures at c.from_slice.ensures.ok in
    subst IsPath (sym (ap path_parts same))
    (parts_path c.args.bytes.now (few_parts c.args.bytes.now c.count_of_parts.result c.count_of_parts.ensures c.if-count_of_parts-gt-MOST_NAMES.false) c.if-bytes-gt-MOST_BYTES.false (c.if-not-are_names.ensures.0 refl))

pub returns : goal.returns
returns c =
    let same = rw c.in_ok-allocated.ensures at c.from_slice.ensures.ok in
    let parts = ap path_parts same in (
      subst IsPath (sym parts)
          (parts_path c.args.bytes.now (few_parts c.args.bytes.now c.count_of_parts.result c.count_of_parts.ensures c.if-count_of_parts-gt-MOST_NAMES.false) c.if-bytes-gt-MOST_BYTES.false (c.if-not-are_names.ensures.0 refl)),
      parts,
      text_of_parts c.in_ok-allocated.field-0.items ∙ same,
    )
