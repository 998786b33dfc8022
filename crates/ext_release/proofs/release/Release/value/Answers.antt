use Rattle.std.proofs.Common.{◌∙◌, sym, ap}
use Rattle.std.specs.Prelude.{Some}
use Rattle.std.specs.FinMap.{get}
use Rattle.std.specs.Option.{option_map}
use Rattle.std.specs.String.{string_bytes}
use Rattle.std.specs.String.{string_bytes}
use Rattle.ext_text.proofs.ForCallers.{get-text_map}
use Rattle.ext_release.proofs.release.Release.value.Goals as goal

pub returns-in-Some : goal.returns-in-Some
returns-in-Some c =
    ap Some c.as_str.ensures.value ∙ ap (option_map string_bytes) c.in-Some.ensures.value
    ∙ sym (ap (λ m. get m c.args.key.now) (sym c.self.view_is) ∙ get-text_map string_bytes c.args.key.now c.self.inside.values.entries)

pub returns-in-None : goal.returns-in-None
returns-in-None c =
    ap (option_map string_bytes) c.in-None.ensures.value
    ∙ sym (ap (λ m. get m c.args.key.now) (sym c.self.view_is) ∙ get-text_map string_bytes c.args.key.now c.self.inside.values.entries)
