use Rattle.std.proofs.Common.{◌++◌, ◌∷◌, [], take, ap, sym, ◌∙◌, arith}
use Rattle.std.proofs.lemmas.List.{take_more}
use Rattle.ext_sample.proofs.LookupLemmas.{directories_put}
use Rattle.ext_sample.proofs.tree.put_directories.Goals as goal

pub files-preserved : goal.files-preserved
files-preserved c =
    let file = c.files-item.result in
    let more = take_more c.args.files.now c.files.path-index file c.files-test.true ∙ ap (λ f. take c.files.path-index c.args.files.now ++ f ∷ []) (sym c.files-item.is) in
    record {
      each = directories_put c.args.files.now c.files.path-index file c.args.entries.now.entries c.files.entries.entries c.put_above.new.entries.entries more c.files.invariant.each c.in_ok-put_above.ensures;
      count = omega (arith, c.in_ok-put_above.ensures.count, c.files.invariant.count);
    }
