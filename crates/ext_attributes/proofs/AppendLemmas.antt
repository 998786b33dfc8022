-- What was added at the end of a text in two steps.
use Rattle.std.proofs.Common.{◌≡◌, ℕ, List, ◌++◌, Result, Ok, Err, sym, ap, ◌∙◌, subst, append_assoc}
use Rattle.std.specs.Prelude.{OnErr, OnOk}
use Rattle.ext_lines.specs.Prefix.{AppendsPrefix}
use Rattle.ext_lines.proofs.ForCallers.{appends_after, appends_more, on_err}

-- a text and one that was added after it
pub both_added : {T E : Type 0} (r : Result T E) (old mid new first second whole : List ℕ) → whole ≡ first ++ second → mid ≡ old ++ first → OnOk r (new ≡ mid ++ second) → OnOk r (new ≡ old ++ whole)
both_added (Err e) old mid new first second whole is begun done = tt
both_added (Ok x) old mid new first second whole is begun done =
    done ∙ ap (λ xs. xs ++ second) begun ∙ append_assoc old first second ∙ ap (λ xs. old ++ xs) (sym is)

-- a prefix of the second one
pub second_stops : {T E : Type 0} (r : Result T E) (old mid new first second whole : List ℕ) → whole ≡ first ++ second → mid ≡ old ++ first → OnErr r (AppendsPrefix mid new second) → OnErr r (AppendsPrefix old new whole)
second_stops (Ok x) old mid new first second whole is begun part = tt
second_stops (Err e) old mid new first second whole is begun part = subst (AppendsPrefix old new) (sym is) (appends_after old mid new first second begun part)

-- a prefix of the first one
pub first_stops : {T E : Type 0} (r : Result T E) (old mid first second whole : List ℕ) → whole ≡ first ++ second → AppendsPrefix old mid first → OnErr r (AppendsPrefix old mid whole)
first_stops r old mid first second whole is part = on_err r (subst (AppendsPrefix old mid) (sym is) (appends_more old mid first second part))
