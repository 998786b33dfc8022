use Rattle.std.proofs.Common.{◌≡◌, ap, sym, subst, ◌∙◌, arith}
use Rattle.ext_attributes.specs.Attributes.{IsOfFile, of_mode}
use Rattle.ext_attributes.proofs.ForCallers.{mode_in_range, plain_in_range}
use Rattle.ext_tree.specs.Fields.{IsStamp}
use Rattle.ext_host.specs.Held.{HeldFile}
use Rattle.ext_host.specs.declared.body.Body.TheVariants.{Depot, Kept}
use Rattle.ext_update.proofs.FittingLemmas.{AreNewEntries}
use Rattle.ext_update.proofs.fitting.file_piece.Goals as goal

pub returns-clause-new : goal.returns-clause-new
returns-clause-new c =
    let mode = mode_in_range c.args.mode (omega (arith, c.bits-bits.ensures.same, c.bits-bits.ensures.within)) in record {
      top = record {
        range = (
          subst IsOfFile (sym c.of_mode.ensures) (plain_in_range (of_mode c.args.mode) mode),
          subst (λ (held : HeldFile). IsStamp held.stamp) (sym c.depot.ensures) c.requires,
        );
        new = λ home kept.
            let is : Depot c.in_ok-body.body ≡ Kept home = sym (ap (λ (held : HeldFile). held.body) c.depot.ensures) ∙ kept in
            cc is;
      };
      part = subst AreNewEntries (sym c.new-2.ensures) tt;
    }
