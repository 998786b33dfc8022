use Rattle.std.proofs.Common.{◌≡◌, ◌++◌, take}
use Rattle.ext_intents.proofs.version_items.append_versions.Given as goal

-- those so far stand after those that were there
abbrev pub invariant-loop-version : goal.invariant-loop-version
invariant-loop-version l = l.versions.items ≡ l.fn.versions.items ++ take l.version-index l.more
