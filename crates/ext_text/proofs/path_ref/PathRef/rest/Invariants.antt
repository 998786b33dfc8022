use Rattle.std.proofs.Common.{◌≡◌, drop}
use Rattle.ext_text.proofs.path_ref.PathRef.rest.Given as goal

abbrev pub invariant-names : goal.invariant-names
invariant-names l = l.rest ≡ drop l._index l.self
