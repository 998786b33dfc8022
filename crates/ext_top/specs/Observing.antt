-- What contracts see of a device that is told of refusals: the lines of those that it was told of, the first of them first, where it
-- tells them.
use Rattle.std.specs.Prelude.{◌≡◌, ℕ, List, [], ◌∷◌, ◌++◌, Option, Some, None, IfSome, Result, Ok, Err}
use Rattle.ext_cmd.specs.Refusals.{refusal_line}
use Rattle.ext_cmd.specs.declared.refusal.Refusal.{Refusal}
use Rattle.ext_top.specs.declared.lines.Written.{Written}
use Rattle.ext_top.specs.declared.status.Status.{Status}
use Rattle.ext_top.specs.declared.status.Status.TheVariants.{Refused}
use Rattle.ext_top.specs.declared.stop.Stop.{Stop}

-- it was told of this refusal, if there is one, and of nothing else
abbrev pub IsToldOf : Option Refusal → Option (List (List ℕ)) → Option (List (List ℕ)) → Type 0
IsToldOf None old new = new ≡ old
IsToldOf (Some refusal) old new =
    IfSome new (λ lines. (before : List (List ℕ)) × (old ≡ Some before) × (lines ≡ before ++ refusal_line refusal ∷ []))

-- the refusal of a line, if it was refused; a line at which the run stopped was not
abbrev pub refused_in : Result Written Stop → Option Refusal
refused_in (Ok written) = written.refusal
refused_in (Err stop) = None

-- the refusal of a run of one command, if it was refused
abbrev pub refused_with : Status → Option Refusal
refused_with (Refused refusal) = Some refusal
refused_with _ = None
