use Rattle.std.proofs.Common.{ap, subst, ◌∙◌, arith}
use Rattle.ext_sample.specs.Made.{made_file}
use Rattle.ext_sample.specs.Making.{PutsAt}
use Rattle.ext_sample.proofs.LookupLemmas.{file_put}
use Rattle.ext_sample.proofs.tree.put_files.Goals as goal

pub files-preserved : goal.files-preserved
files-preserved c =
    let file = c.in-Some.field-0-0.now in
    let entry = c.file.ensures ∙ ap made_file c.bytes.ensures in
    let puts = subst (λ p. PutsAt c.files.entries.entries c.put.new.entries.entries p (made_file file.1)) c.in_ok-copy-in-Some.ensures (subst (PutsAt c.files.entries.entries c.put.new.entries.entries c.in_ok-copy-in-Some.field-0) entry c.in_ok-put-in-Some.ensures) in
    record {
      each = λ q. file_put c.in-Some.before.now c.files.left.now file c.files.entries.entries c.put.new.entries.entries c.in-Some.ensures.cases.0 puts q ∙ c.files.invariant.each q;
      count = omega (arith, puts.count, c.files.invariant.count, c.in-Some.ensures.cases.1);
    }
