use Rattle.std.specs.Prelude.{OnOk}
use Rattle.ext_index.specs.Sections.{listed}
use Rattle.ext_index.proofs.PrintingLemmas.{index_put}
use Rattle.ext_index.proofs.writing.put_index.Goals as goal

pub returns : goal.returns
returns g c = λ before held.
    index_put (λ xs. OnOk c.put_line.result (g.O.Out.holds c.put_line.new.out xs)) before c.args.generation c.host_has_owners.result c.args.host.now (listed c.sections_of_host.result) c.len.result c.as_slice.result.now
    c.host_has_owners.ensures c.sections_of_host.ensures c.len.ensures c.as_slice.ensures
    (c.put_line.ensures _ (c.in_ok-put_pasts.ensures _ (c.in_ok-put_number.ensures _ (c.in_ok-put_sections.ensures _ (c.in_ok-put_machine.ensures before held)))))
