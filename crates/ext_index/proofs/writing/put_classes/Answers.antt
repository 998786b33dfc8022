use Rattle.std.specs.Prelude.{OnOk}
use Rattle.ext_index.proofs.PrintingLemmas.{classes_put}
use Rattle.ext_index.proofs.writing.put_classes.Goals as goal

pub returns : goal.returns
returns g c = λ before held.
    classes_put (λ xs. OnOk c.put_hierarchies-2.result (g.O.Out.holds c.put_hierarchies-2.new.out xs)) before c.count_of_hierarchies.result c.as_slice.result.now c.as_slice-2.result.now c.args.host.now
    c.count_of_hierarchies.ensures c.as_slice.ensures c.as_slice-2.ensures
    (c.put_hierarchies-2.ensures _ (c.in_ok-put_hierarchies.ensures _ (c.in_ok-put_number.ensures before held)))
