use Rattle.std.proofs.Common.{take}
use Rattle.std.specs.List.{AllByRecursion}
use Rattle.ext_text.specs.Digest.{IsDigest}
use Rattle.ext_text.specs.Path.{IsPath}
use Rattle.ext_gen.proofs.preparing.forms.look_at_items.Given as goal

-- those so far are
abbrev pub invariant-items : goal.invariant-items
invariant-items l = AllByRecursion (λ item. IsPath item.path × IsDigest item.digest.0) (take l.item-index l.items)
