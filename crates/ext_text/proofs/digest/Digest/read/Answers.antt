use Rattle.std.proofs.Common.{sym, ◌∙◌, refl, ap}
use mathlib.Core.Bool.{false≢true}
use Rattle.std.specs.Result.{is_ok}
use Rattle.hex.proofs.HexLemmas.{IsOk-decode_sized}
use Rattle.ext_text.proofs.digest.Digest.read.Goals as goal

pub returns-in-Ok-clause-some : goal.returns-in-Ok-clause-some
returns-in-Ok-clause-some c =
    let digits = IsOk-decode_sized c.args.text.now 32 in
    (λ h. digits.0 (sym (ap is_ok c.in-Ok.ensures)), λ h. refl)

pub returns-in-Err-clause-some : goal.returns-in-Err-clause-some
returns-in-Err-clause-some c =
    let digits = IsOk-decode_sized c.args.text.now 32 in
    (λ h. absurd (false≢true h), λ h. ap is_ok c.in-Err.ensures ∙ digits.1 h)
