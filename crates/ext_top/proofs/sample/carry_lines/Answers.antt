use Rattle.std.proofs.Common.{Some, ◌∙◌}
use Rattle.std.proofs.lemmas.Result.{IfOk-weaker}
use Rattle.ext_disk.specs.Memory.{places_of}
use Rattle.ext_depot.specs.DepotView.{file_at}
use Rattle.ext_top.proofs.SampleLemmas.{images_carry, lines_carry}
use Rattle.ext_top.proofs.SampleWordLemmas.{host_line, images_line, init_line, merge_line, refresh_line, unmerge_line}
use Rattle.ext_top.proofs.sample.carry_lines.Goals as goal

pub carry_line-requires-clause-command : goal.carry_line-requires-clause-command
carry_line-requires-clause-command c = init_line

pub carry_line-requires-2-clause-command : goal.carry_line-requires-2-clause-command
carry_line-requires-2-clause-command c = host_line

pub carry_line-requires-3-clause-command : goal.carry_line-requires-3-clause-command
carry_line-requires-3-clause-command c = images_line

pub carry_line-requires-4-clause-command : goal.carry_line-requires-4-clause-command
carry_line-requires-4-clause-command c = merge_line

pub carry_line-requires-5-clause-command : goal.carry_line-requires-5-clause-command
carry_line-requires-5-clause-command c = unmerge_line

pub carry_line-requires-6-clause-command : goal.carry_line-requires-6-clause-command
carry_line-requires-6-clause-command c = refresh_line

pub returns : goal.returns
returns c =
    let files = Some (file_at c.args.depot.now) in
    let one = Some (file_at c.carry_line.new.depot) in
    let two = Some (file_at c.carry_line-2.new.depot) in
    let three = Some (file_at c.carry_line-3.new.depot) in
    let four = Some (file_at c.carry_line-4.new.depot) in
    let five = Some (file_at c.carry_line-5.new.depot) in
    let so_far = images_carry files one two c.in_ok-made.made c.in_ok-host.host c.in_ok-images.images (places_of c.args.disk.now) (places_of c.carry_line.new.disk) (places_of c.carry_line-2.new.disk) (places_of c.carry_line-3.new.disk)
    c.in_ok-made.ensures.kept c.in_ok-host.ensures.kept c.in_ok-made.ensures.carried c.in_ok-host.ensures.carried c.in_ok-images.ensures.carried in
    IfOk-weaker c.carry_line-6.result _ _ (λ refreshed last. lines_carry files three four five c.in_ok-images.images c.in_ok-merged.merged c.in_ok-unmerged.unmerged refreshed (places_of c.args.disk.now) (places_of c.carry_line-3.new.disk)
    (places_of c.carry_line-4.new.disk) (places_of c.carry_line-5.new.disk) (places_of c.carry_line-6.new.disk) (c.in_ok-images.ensures.kept ∙ (c.in_ok-host.ensures.kept ∙ c.in_ok-made.ensures.kept)) c.in_ok-merged.ensures.kept
    c.in_ok-unmerged.ensures.kept so_far c.in_ok-merged.ensures.carried c.in_ok-unmerged.ensures.carried last) c.carry_line-6.ensures.carried
