use Rattle.std.proofs.Common.{◌∙◌, [], refl, rules}
use Rattle.std.proofs.KnownBytes.{Appends-nil}
use Rattle.std.proofs.lemmas.Result.{err_from_is_err_and}
use Rattle.ext_erofs.specs.HomePath.{homed_of}
use Rattle.ext_erofs.specs.Homed.{homed_entries}
use Rattle.ext_erofs.specs.Image.{image}
use Rattle.ext_mount.specs.Printed.{SinkAt}
use Rattle.ext_mount.proofs.PrintedLemmas.{wrote_part}
use Rattle.ext_mount.proofs.generation.write_image.Goals as goal

pub returns-in_err-buffer-clause-err : goal.returns-in_err-buffer-clause-err
returns-in_err-buffer-clause-err g c =
    let p = err_from_is_err_and c.from_residual.result c.from_residual.ensures.1 in
    rw p.1 (record { prefix = []; is = (image (homed_entries homed_of c.args.tree.now) c.args.built, refl); appended = Appends-nil (g.K.Sink.state c.args.sink.now).written })

pub returns-in_err-put_image-clause-err : goal.returns-in_err-put_image-clause-err
returns-in_err-put_image-clause-err g c =
    let p = err_from_is_err_and c.from_residual-in_err-put_image.result c.from_residual-in_err-put_image.ensures.1 in
    let start : SinkAt = record { reference = c.new-out.result.sink.ghost_name; state = g.K.Sink.state c.args.sink.now } in
    let taken = c.in_err-put_image.ensures.err start [] c.new-out.ensures.begins in
    let name = taken.2.same_reference ∙ c.new-out.ensures.same_reference in
    let out = c.put_image.new.out in
    let last = wrote_part start (record { reference = out.sink.ghost_name; state = g.K.Sink.state out.sink.now }) out.failed out.buffer.now taken.0 (image (homed_entries homed_of c.args.tree.now) c.args.built) taken.1 taken.2 in
    rw p.1 (search rules)

pub returns-clause-ok : goal.returns-clause-ok
returns-clause-ok g c =
    let start : SinkAt = record { reference = c.new-out.result.sink.ghost_name; state = g.K.Sink.state c.args.sink.now } in
    let printed = c.in_ok-put_image.ensures.ok start [] c.new-out.ensures.begins in
    let name = printed.same_reference ∙ c.new-out.ensures.same_reference in
    let last = c.finish.ensures.ok start _ printed in
    search rules

pub returns-clause-fault : goal.returns-clause-fault
returns-clause-fault g c =
    let start : SinkAt = record { reference = c.new-out.result.sink.ghost_name; state = g.K.Sink.state c.args.sink.now } in
    let printed = c.in_ok-put_image.ensures.ok start [] c.new-out.ensures.begins in
    let name = printed.same_reference ∙ c.new-out.ensures.same_reference in
    let last = c.finish.ensures.err start _ printed in
    search rules
