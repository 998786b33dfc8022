-- The states on the way of lines are those after some of the first of them; lines that no stop ends leave the one after all.
use Rattle.std.proofs.Common.{◌≡◌, List, [], ◌∷◌, inl, inr, Option, refl, ap}
use Rattle.std.specs.Prelude.{Err, Ok}
use Rattle.ext_depot.specs.Depot.{Files}
use Rattle.ext_gen.specs.Store.{State}
use Rattle.ext_cmd.specs.declared.refusal.Refusal.{Refusal}
use Rattle.ext_top.specs.Exits.{IsOnTheWay, Line}
use Rattle.ext_top.specs.Laws.{AfterSomeIsOnTheWay, DoneLinesLeaveTheStateAfter, OnTheWayIsAfterSome}
use Rattle.ext_top.specs.Machine.{refusal_of, state_after}
use Rattle.ext_top.specs.declared.stop.Stop.{Stop}

pub on_the_way_is_after_some : OnTheWayIsAfterSome
on_the_way_is_after_some s x files [] is = ([], [], refl, is)
on_the_way_is_after_some s x files (line ∷ lines) (inl is) = ([], line ∷ lines, refl, is)
on_the_way_is_after_some s x files (line ∷ lines) (inr (outcome, comes, on)) =
    let some = on_the_way_is_after_some (state_after s outcome) x files lines on in
    (line ∷ some.0, some.1, ap (λ l. line ∷ l) some.2, (outcome, comes, some.3))

-- the first state is on the way of any lines
begins : (s x : State) (files : Option Files) (lines : List Line) → x ≡ s → IsOnTheWay s files lines x
begins s x files [] is = is
begins s x files (line ∷ lines) is = inl is

pub after_some_is_on_the_way : AfterSomeIsOnTheWay
after_some_is_on_the_way s x files [] others is = begins s x files others is
after_some_is_on_the_way s x files (line ∷ first) others (outcome, comes, after) = inr (outcome, comes, after_some_is_on_the_way (state_after s outcome) x files first others after)

ok_is_no_stop : (refusal : Option Refusal) (stop : Stop) → Ok refusal ≡ Err stop → ⊥
ok_is_no_stop refusal stop same = cc

pub done_lines_leave_the_state_after : DoneLinesLeaveTheStateAfter
done_lines_leave_the_state_after last refusal s files [] standing bytes (result, is, nothing) = (s, refl, is)
done_lines_leave_the_state_after last refusal s files (line ∷ lines) standing bytes (inl stopped) = absurd (ok_is_no_stop refusal stopped.0 stopped.1)
done_lines_leave_the_state_after last refusal s files (line ∷ lines) standing bytes (inr (outcome, later, comes, written, ends)) =
    let rest = done_lines_leave_the_state_after (refusal_of outcome) refusal (state_after s outcome) files lines standing later ends in
    (rest.0, (outcome, comes, rest.1), rest.2)
