-- Reading line by line is reading whole lines.
use Rattle.std.proofs.Common.{◌≡◌, ℕ, ◌+◌, List, [], ◌∷◌, ◌++◌, refl}
use Rattle.std.specs.Prelude.{Option, Result, Ok, Err}
use Rattle.ext_ini.specs.declared.err.IniErr.{IniErr}
use Rattle.ext_ini.specs.declared.reading.Reading.{Reading}
use Rattle.ext_ini.specs.declared.taking.SoFar.{SoFar}
use Rattle.ext_ini.specs.declared.whole.Whole.{Whole}
use Rattle.ext_ini.specs.Taking.{taken}
use Rattle.ext_ini.specs.Whole.{left_by, wholes_of}
use Rattle.ext_ini.specs.Reading.{on_ok, read_lines, read_wholes, sections_after, with_pending}

abbrev pub at : SoFar → Option Whole → Reading
at so_far pending = record { so_far = so_far; pending = pending }

-- what lines say after a state with this whole line that goes on is what their whole lines say
abbrev AreWholes : Option Whole → ℕ → List (List ℕ) → Type 0
AreWholes pending number ls =
    (so_far : SoFar) → read_lines (at so_far pending) number ls ≡ sections_after (read_wholes so_far (wholes_of pending number ls))

-- after the first of some whole lines
after_taken : (ws : List Whole) (pending : Option Whole) (number : ℕ) (ls : List (List ℕ)) →
    ((so_far : SoFar) → on_ok (with_pending pending (read_wholes so_far ws)) (λ next. read_lines next number ls) ≡ sections_after (read_wholes so_far (ws ++ wholes_of pending number ls))) →
    (r : Result SoFar IniErr) → on_ok (with_pending pending (on_ok r (λ next. read_wholes next ws))) (λ next. read_lines next number ls)
    ≡ sections_after (on_ok r (λ next. read_wholes next (ws ++ wholes_of pending number ls)))
after_taken ws pending number ls more (Err e) = refl
after_taken ws pending number ls more (Ok next) = more next

-- after whole lines
after_wholes : (ws : List Whole) (pending : Option Whole) (number : ℕ) (ls : List (List ℕ)) → AreWholes pending number ls →
    (so_far : SoFar) → on_ok (with_pending pending (read_wholes so_far ws)) (λ next. read_lines next number ls) ≡ sections_after (read_wholes so_far (ws ++ wholes_of pending number ls))
after_wholes [] pending number ls are so_far = are so_far
after_wholes (w ∷ ws) pending number ls are so_far =
    after_taken ws pending number ls (after_wholes ws pending number ls are) (taken so_far w.number w.text w.fault)

pub lines_are_wholes : (ls : List (List ℕ)) (pending : Option Whole) (number : ℕ) → AreWholes pending number ls
lines_are_wholes [] pending number so_far = refl
lines_are_wholes (l ∷ ls) pending number so_far =
    let left = left_by pending number l in
    after_wholes left.0 left.1 (number + 1) ls (lines_are_wholes ls left.1 (number + 1)) so_far
