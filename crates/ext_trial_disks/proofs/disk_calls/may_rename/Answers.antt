use Rattle.std.proofs.Common.{◌∙◌, sym, ap}
use Rattle.std.proofs.lemmas.Bool.{false≢true}
use Rattle.std.specs.Ordering.{is_eq}
use Rattle.ext_text.proofs.ForCallers.{tied_path}
use Rattle.ext_trial_disks.proofs.DiskCallsLemmas.{can_rename}
use Rattle.ext_trial_disks.proofs.disk_calls.may_rename.Goals as goal

pub returns-then-is_file_kind : goal.returns-then-is_file_kind
returns-then-is_file_kind g c = λ free.
    let both = c.in_ok-both in
    let from = c.args.from.now in
    let to = c.args.to.now in
    can_rename (g.D.Disk.state c.look_at_both.new.disk).told c.args.dir.now c.args.names.0.now c.args.names.1.now from to both.both.0 both.both.1 c.requires.from c.requires.to
    (λ same. false≢true (sym c.if-is_eq.false ∙ c.is_eq.ensures ∙ ap is_eq c.cmp.ensures ∙ tied_path from to same))
    (λ node is. c.is_file_kind.ensures node is c.if-is_file_kind.true)
    (λ node is. c.is_no_folder_kind.ensures node is free)
    both.ensures.from both.ensures.to
