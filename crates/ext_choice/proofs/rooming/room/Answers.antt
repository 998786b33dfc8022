use Rattle.std.proofs.Common.{arith, subst}
use Rattle.std.specs.Option.{option_copied}
use Rattle.ext_versions.specs.Versions.{AreVersions}
use Rattle.ext_choice.proofs.RoomLemmas.{free_within, has_room, lacks_room}
use Rattle.ext_choice.proofs.rooming.room.Goals as goal

pub overflow_sub-protected : goal.overflow_sub-protected
overflow_sub-protected c =
    let protect = c.in_ok-protect.protect in
    let same = subst (λ texts. AreVersions texts protect) c.as_slice.ensures c.in_ok-protect.ensures in
    let within =
    free_within c.args.transfer.now (option_copied c.args.coming) c.args.items.now
    protect c.in_ok-versions.versions c.without-free.result same c.without-free.ensures in
    omega (arith, c.len.ensures, c.len-count.ensures, within)

pub returns-then-protected-most : goal.returns-then-protected-most
returns-then-protected-most c =
    let protect = c.in_ok-protect.protect in
    let same = subst (λ texts. AreVersions texts protect) c.as_slice.ensures c.in_ok-protect.ensures in
    lacks_room c.args.transfer.now (option_copied c.args.coming) c.args.items.now
    protect c.in_ok-versions.versions c.without-free.result c.len-count.result c.len.result c.most_beside-most.result
    same c.in_ok-versions.ensures c.without-free.ensures c.len-count.ensures c.len.ensures c.most_beside-most.ensures c.no_room.result
    (omega (arith, c.if-protected-most.true)) c.no_room.ensures

pub returns : goal.returns
returns c =
    let protect = c.in_ok-protect.protect in
    let same = subst (λ texts. AreVersions texts protect) c.as_slice.ensures c.in_ok-protect.ensures in
    has_room c.args.transfer.now (option_copied c.args.coming) c.args.items.now
    protect c.in_ok-versions.versions c.without-free.result c.len-count.result c.len.result c.most_beside-most.result
    same c.in_ok-versions.ensures c.without-free.ensures c.len-count.ensures c.len.ensures c.most_beside-most.ensures
    c.saturating_sub.result c.first.result (omega (arith, c.if-protected-most.false)) c.saturating_sub.ensures c.first.ensures
