-- The first whole line that is refused is the fault, and names one of its own lines.
use Rattle.std.proofs.Common.{◌≡◌, ℕ, Bool, true, false, List, [], ◌∷◌, ◌++◌, cond, eqb, refl, sym, ap, ◌∙◌, subst}
use Rattle.std.specs.Prelude.{None, Option, Some, Result, Ok, Err, IfErr}
use Rattle.std.specs.Result.{is_ok}
use Rattle.std.proofs.lemmas.Bool.{eqb-true, true≢false}
use Rattle.ext_lines.specs.Split.{before_last, split_of}
use Rattle.ext_lines.specs.Blanks.{after_blanks, before_blanks, trimmed}
use Rattle.ext_ini.specs.declared.err.IniErr.{IniErr}
use Rattle.ext_ini.specs.declared.err.IniErr.TheVariants.{BadIni}
use Rattle.ext_ini.specs.declared.err.IniFault.TheVariants.{NotText, BadSection}
use Rattle.ext_ini.specs.declared.sections.Section.{Section}
use Rattle.ext_ini.specs.declared.taking.SoFar.{SoFar}
use Rattle.ext_ini.specs.declared.whole.Whole.{Whole}
use Rattle.ext_ini.specs.Line.{is_section_name}
use Rattle.ext_ini.specs.Laws.{FirstRefused, IsFirstRefused, IsNamed, RefusalsName}
use Rattle.ext_ini.specs.Taking.{is_first, later, named, nothing, opened, set, set_to, taken, taken_text, then_later}
use Rattle.ext_ini.specs.Whole.{file_wholes}
use Rattle.ext_ini.specs.Reading.{on_ok, read_wholes, sections_after}

-- where the first whole line was taken so
first_taken : (from : SoFar) (w : Whole) (ws : List Whole) (e : IniErr) → ((next : SoFar) → read_wholes next ws ≡ Err e → IsFirstRefused next ws e)
    → (r : Result SoFar IniErr) → taken from w.number w.text w.fault ≡ r → on_ok r (λ next. read_wholes next ws) ≡ Err e → IsFirstRefused from (w ∷ ws) e
first_taken from w ws e more (Err other) was is =
    record { before = []; whole = w; after = ws; so_far = from; parted = refl; sound = refl; refused = was ∙ is }
first_taken from w ws e more (Ok next) was is =
    let first = more next is in
    record {
      before = w ∷ first.before;
      whole = first.whole;
      after = first.after;
      so_far = first.so_far;
      parted = ap (λ t. w ∷ t) first.parted;
      sound = ap (λ r. on_ok r (λ n. read_wholes n first.before)) was ∙ first.sound;
      refused = first.refused;
    }

refused_first : (ws : List Whole) (from : SoFar) (e : IniErr) → read_wholes from ws ≡ Err e → IsFirstRefused from ws e
refused_first [] from e is = absurd (true≢false (ap is_ok is))
refused_first (w ∷ ws) from e is =
    first_taken from w ws e (λ next more. refused_first ws next e more) (taken from w.number w.text w.fault) refl is

-- an error of the sections is one of reading
sections_err : (r : Result SoFar IniErr) (e : IniErr) → sections_after r ≡ Err e → r ≡ Err e
sections_err (Err other) e is = ap (λ r. on_ok r (λ sections. Ok nothing)) is
sections_err (Ok so_far) e is = absurd (true≢false (ap is_ok is))

-- sound whole lines, and then more
taken_before : (ws rest : List Whole) (so_far : SoFar) (r : Result SoFar IniErr)
    → ((next : SoFar) → read_wholes next ws ≡ Ok so_far → read_wholes next (ws ++ rest) ≡ read_wholes so_far rest)
    → on_ok r (λ next. read_wholes next ws) ≡ Ok so_far → on_ok r (λ next. read_wholes next (ws ++ rest)) ≡ read_wholes so_far rest
taken_before ws rest so_far (Err e) more is = absurd (true≢false (sym (ap is_ok is)))
taken_before ws rest so_far (Ok next) more is = more next is

read_before : (ws rest : List Whole) (from so_far : SoFar) → read_wholes from ws ≡ Ok so_far → read_wholes from (ws ++ rest) ≡ read_wholes so_far rest
read_before [] rest from so_far is = ap (λ r. on_ok r (λ next. read_wholes next rest)) is
read_before (w ∷ ws) rest from so_far is =
    taken_before ws rest so_far (taken from w.number w.text w.fault) (λ next more. read_before ws rest next so_far more) is

first_refuses : (from : SoFar) (ws : List Whole) (e : IniErr) → IsFirstRefused from ws e → read_wholes from ws ≡ Err e
first_refuses from ws e first =
    ap (read_wholes from) first.parted ∙ read_before first.before (first.whole ∷ first.after) from first.so_far first.sound
    ∙ ap (λ r. on_ok r (λ next. read_wholes next first.after)) first.refused

pub first_refused : FirstRefused
first_refused bytes e = (
  λ is. refused_first (file_wholes bytes) nothing e (sections_err (read_wholes nothing (file_wholes bytes)) e is),
  λ first. ap sections_after (first_refuses nothing (file_wholes bytes) e first),
)

-- an error names such a line
abbrev Names : ℕ → Option ℕ → Result SoFar IniErr → Type 0
Names number fault r = IfErr r (IsNamed number fault)

either_names : (number : ℕ) (fault : Option ℕ) (test : Bool) (x y : Result SoFar IniErr) → (test ≡ true → Names number fault x) → Names number fault y
    → Names number fault (cond test x y)
either_names number fault true x y first second = first refl
either_names number fault false x y first second = second

opened_names : (number : ℕ) (fault : Option ℕ) (so_far : SoFar) (inside : Option (List ℕ)) → Names number fault (opened so_far number inside)
opened_names number fault so_far None = refl
opened_names number fault so_far (Some name) =
    either_names number fault (is_section_name name) (Ok (named so_far name)) (Err (BadIni number BadSection)) (λ _. tt) refl

set_to_names : (number : ℕ) (fault : Option ℕ) (before : List Section) (current : Option Section) (key value : List ℕ)
    → Names number fault (set_to before current number key value)
set_to_names number fault before None key value = refl
set_to_names number fault before (Some section) key value = tt

set_names : (number : ℕ) (fault : Option ℕ) (so_far : SoFar) (parts : Option (List ℕ × List ℕ)) → Names number fault (set so_far number parts)
set_names number fault so_far None = refl
set_names number fault so_far (Some parts) =
    set_to_names number fault so_far.before so_far.current (before_blanks parts.0) (after_blanks parts.1)

text_names : (number : ℕ) (fault : Option ℕ) (so_far : SoFar) (text : List ℕ) → Names number fault (taken_text so_far number text)
text_names number fault so_far [] = tt
text_names number fault so_far (b ∷ bs) =
    either_names number fault (eqb b 91) (opened so_far number (before_last 93 bs)) (set so_far number (split_of 61 (b ∷ bs)))
    (λ _. opened_names number fault so_far (before_last 93 bs))
    (set_names number fault so_far (split_of 61 (b ∷ bs)))

later_names : (number : ℕ) (fault : Option ℕ) (so_far : SoFar) → Names number fault (later so_far fault)
later_names number None so_far = tt
later_names number (Some line) so_far = refl

then_later_names : (number : ℕ) (fault : Option ℕ) (r : Result SoFar IniErr) → Names number fault r → Names number fault (then_later r fault)
then_later_names number fault (Err e) names = names
then_later_names number fault (Ok so_far) names = later_names number fault so_far

first_fault : (number : ℕ) (fault : Option ℕ) → is_first fault number ≡ true → fault ≡ Some number
first_fault number None is = absurd (true≢false (sym is))
first_fault number (Some line) is = ap (λ n. Some n) (eqb-true line number is)

pub refusals_name : RefusalsName
refusals_name so_far number text fault e is =
    subst (Names number fault) is (
    either_names number fault (is_first fault number) (Err (BadIni number NotText)) (then_later (taken_text so_far number (trimmed text)) fault)
    (first_fault number fault)
    (then_later_names number fault (taken_text so_far number (trimmed text)) (text_names number fault so_far (trimmed text)))
    )
