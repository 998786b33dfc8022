use Rattle.std.proofs.Common.{◌≡◌, ◌++◌, take}
use Rattle.ext_intents.proofs.version_items.append_texts.Given as goal

-- those so far stand after those that were there
abbrev pub invariant-loop-text : goal.invariant-loop-text
invariant-loop-text l = l.versions.items ≡ l.fn.versions.items ++ take l.text-index l.texts
