-- The arms of a step: what a line leads to where the stage is this one.
use Rattle.std.proofs.Common.{◌≡◌, ℕ, List, Option, Result, IfOk, sym, subst}
use Rattle.ext_index_reader.specs.Reading.{LeadsTo}
use Rattle.ext_index_reader.specs.State.{at, at_part}
use Rattle.ext_index_reader.specs.declared.state.PartStage.{PartStage}
use Rattle.ext_index_reader.specs.declared.state.SoFar.{SoFar}
use Rattle.ext_index_reader.specs.declared.state.Stage.{Stage}

pub in_part : (g : ℕ) (s t : SoFar) (part stage : PartStage) (line : List ℕ) (found : Option Stage) → part ≡ stage → LeadsTo g (at_part s stage) t line found → LeadsTo g (at_part s part) t line found
in_part g s t part stage line found is leads = subst (λ p. LeadsTo g (at_part s p) t line found) (sym is) leads

pub in_part_ok : {E : Type 0} (g : ℕ) (s t : SoFar) (part stage : PartStage) (line : List ℕ) (r : Result (Option Stage) E) → part ≡ stage → IfOk r (LeadsTo g (at_part s stage) t line) → IfOk r (LeadsTo g (at_part s part) t line)
in_part_ok g s t part stage line r is leads = subst (λ p. IfOk r (LeadsTo g (at_part s p) t line)) (sym is) leads

pub at_stage : (g : ℕ) (s t : SoFar) (here stage : Stage) (line : List ℕ) (found : Option Stage) → here ≡ stage → LeadsTo g (at s stage) t line found → LeadsTo g (at s here) t line found
at_stage g s t here stage line found is leads = subst (λ p. LeadsTo g (at s p) t line found) (sym is) leads

pub at_stage_ok : {E : Type 0} (g : ℕ) (s t : SoFar) (here stage : Stage) (line : List ℕ) (r : Result (Option Stage) E) → here ≡ stage → IfOk r (LeadsTo g (at s stage) t line) → IfOk r (LeadsTo g (at s here) t line)
at_stage_ok g s t here stage line r is leads = subst (λ p. IfOk r (LeadsTo g (at s p) t line)) (sym is) leads
