use Rattle.std.proofs.Common.{[], sym}
use Rattle.ext_tree.specs.Fields.{spaced, stamp_fields}
use Rattle.ext_tree.proofs.ForCallers.{spaced-append}
use Rattle.ext_index_lines.specs.Homed.{home_fields}
use Rattle.ext_tree.proofs.ForCallers.{first_stops, second_stops}
use Rattle.ext_index_lines.proofs.homed.HomedLineContent.append_to.Goals as goal

pub returns-in_err-append_stamp-clause-err : goal.returns-in_err-append_stamp-clause-err
returns-in_err-append_stamp-clause-err c = first_stops c.from_residual.result _ _ (spaced (stamp_fields c.args.self.now.stamp) []) (spaced (home_fields c.args.self.now.home) []) _ (sym (spaced-append (stamp_fields c.args.self.now.stamp) (spaced (home_fields c.args.self.now.home) []))) c.in_err-append_stamp.ensures.err

pub returns-clause-err : goal.returns-clause-err
returns-clause-err c = second_stops c.append_home.result _ _ _ (spaced (stamp_fields c.args.self.now.stamp) []) (spaced (home_fields c.args.self.now.home) []) _ (sym (spaced-append (stamp_fields c.args.self.now.stamp) (spaced (home_fields c.args.self.now.home) []))) c.in_ok-append_stamp.ensures.ok c.append_home.ensures.err
