use Rattle.std.proofs.Common.{◌≡◌, ◌++◌, take}
use Rattle.std.specs.List.{flat_map}
use Rattle.ext_cmd.specs.Replies.{path_line}
use Rattle.ext_cmd.proofs.update_replies.append_paths.Given as goal

abbrev pub invariant-paths : goal.invariant-paths
invariant-paths l = l.text.items ≡ l.fn.text.items ++ flat_map path_line (take l.path-index l.paths)
