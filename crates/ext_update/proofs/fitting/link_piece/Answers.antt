use Rattle.std.proofs.Common.{sym, subst, arith}
use Rattle.ext_attributes.specs.Attributes.{IsOwner}
use Rattle.ext_attributes.proofs.ForCallers.{root_in_range}
use Rattle.ext_tree.specs.Fields.{IsTarget}
use Rattle.ext_update.proofs.FittingLemmas.{AreNewEntries}
use Rattle.ext_update.proofs.fitting.link_piece.Goals as goal

pub returns-clause-new : goal.returns-clause-new
returns-clause-new c =
    let shape = c.in_ok-text.ensures.shape in
    let target : IsTarget c.in_ok-text.text = record {
      non_empty = shape.non_empty;
      at_most_4096 = grind (arith, c.bytes.ensures, c.if-bytes-gt-MOST_TARGET.false);
      plain = shape.plain;
      text = shape.utf8;
    } in record {
      top = record { range = (subst IsOwner (sym c.root.ensures) root_in_range, target); new = tt };
      part = subst AreNewEntries (sym c.new.ensures) tt;
    }
