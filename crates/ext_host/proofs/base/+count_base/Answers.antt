use Rattle.std.proofs.Common.{◌+◌, ◌≤◌, length, arith}
use Rattle.ext_host.proofs.BaseLemmas.{lower_parts, root_parts}
use Rattle.ext_host.proofs.base.+count_base.Goals as goal

pub returns-in-len1-up-clause-few : goal.returns-in-len1-up-clause-few
returns-in-len1-up-clause-few t c =
    let root : length c.before-in-len1-up.result.now + length c.after.result.now ≤ length c.args.root.now = rw (c.before-in-len1-up.ensures, c.after.ensures.same) (root_parts c.name-item.result c.args.root.now) in
    let lower : length c.at_name.result.now + length c.after-in-len1-up.result.now ≤ length c.args.lower.now = rw (c.at_name.ensures, c.after-in-len1-up.ensures.same) (lower_parts c.name-item.result c.args.lower.now) in
    omega (arith, c.count_base-rest.ensures.few)
