-- What whole lines say: sections, assignments, nothing, or a fault. Sections and assignments are systemd.syntax(7)'s; what is
-- faulty is this project's own.
use Rattle.std.specs.Prelude.{◌≡◌, ℕ, Bool, false, ◌==◌, if◌then◌else◌, List, [], ◌∷◌, ◌++◌, Option, Some, None, Result, Ok, Err}
use Rattle.ext_lines.specs.Blanks.{after_blanks, before_blanks, trimmed}
use Rattle.ext_lines.specs.Split.{before_last, split_of}
use Rattle.ext_ini.specs.declared.err.IniErr.{IniErr}
use Rattle.ext_ini.specs.declared.err.IniErr.TheVariants.{OutOfMemory, BadIni}
use Rattle.ext_ini.specs.declared.err.IniFault.TheVariants.{NoSection, NoEquals, BadSection, NotText}
use Rattle.ext_ini.specs.declared.sections.Section.{Section}
use Rattle.ext_ini.specs.declared.taking.SoFar.{SoFar}
use Rattle.ext_ini.specs.Line.{is_section_name}

-- what a call gives is what reading gives; memory may run out for any text
abbrev pub Gives : {T : Type 0} → Result T IniErr → Result T IniErr → Type 0
Gives (Ok x) read = read ≡ Ok x
Gives (Err OutOfMemory) read = Unit {0}
Gives (Err (BadIni line why)) read = read ≡ Err (BadIni line why)

-- what a call leaves is what reading gives
abbrev pub Leaves : {T : Type 0} → Result (Unit {0}) IniErr → T → Result T IniErr → Type 0
Leaves (Ok done) new read = read ≡ Ok new
Leaves (Err OutOfMemory) new read = Unit {0}
Leaves (Err (BadIni line why)) new read = read ≡ Err (BadIni line why)

-- no section has begun
abbrev pub nothing : SoFar
nothing = record { before = []; current = None }

-- sections, and one more, if there is one
abbrev pub with_last : List Section → Option Section → List Section
with_last before None = before
with_last before (Some section) = before ++ section ∷ []

-- all that were read
abbrev pub all_sections : SoFar → List Section
all_sections so_far = with_last so_far.before so_far.current

-- a section of this name begins
abbrev pub named : SoFar → List ℕ → SoFar
named so_far name = record { before = all_sections so_far; current = Some (record { name = name; assignments = [] }) }

-- what stands in the brackets has to be a name
abbrev pub opened : SoFar → ℕ → Option (List ℕ) → Result SoFar IniErr
opened so_far number None = Err (BadIni number BadSection)
opened so_far number (Some name) = if is_section_name name then Ok (named so_far name) else Err (BadIni number BadSection)

-- a section with an assignment more
abbrev pub assigned : Section → ℕ → List ℕ → List ℕ → Section
assigned section line key value =
    record { name = section.name; assignments = section.assignments ++ record { key = key; setting = record { line = line; value = value } } ∷ [] }

-- an assignment needs a section
abbrev pub set_to : List Section → Option Section → ℕ → List ℕ → List ℕ → Result SoFar IniErr
set_to before None line key value = Err (BadIni line NoSection)
set_to before (Some section) line key value = Ok (record { before = before; current = Some (assigned section line key value) })

-- the key before the first `=`, and the value after it
abbrev pub set : SoFar → ℕ → Option (List ℕ × List ℕ) → Result SoFar IniErr
set so_far number None = Err (BadIni number NoEquals)
set so_far number (Some parts) = set_to so_far.before so_far.current number (before_blanks parts.0) (after_blanks parts.1)

-- what the text of a whole line says, without the blanks at both ends
abbrev pub taken_text : SoFar → ℕ → List ℕ → Result SoFar IniErr
taken_text so_far number [] = Ok so_far
taken_text so_far number (b ∷ bs) = if b == 91 then opened so_far number (before_last 93 bs) else set so_far number (split_of 61 (b ∷ bs))

-- whether the line that is no text is the one of this number
abbrev pub is_first : Option ℕ → ℕ → Bool
is_first None number = false
is_first (Some line) number = line == number

-- what was read is refused where a line is no text
abbrev pub later : SoFar → Option ℕ → Result SoFar IniErr
later so_far None = Ok so_far
later so_far (Some line) = Err (BadIni line NotText)

-- a fault of the whole comes before a later line that is no text
abbrev pub then_later : Result SoFar IniErr → Option ℕ → Result SoFar IniErr
then_later (Err e) fault = Err e
then_later (Ok so_far) fault = later so_far fault

-- what a whole line leaves: its number is that of its first line, and its fault the first of its lines that is no text
abbrev pub taken : SoFar → ℕ → List ℕ → Option ℕ → Result SoFar IniErr
taken so_far number text fault =
    if is_first fault number then Err (BadIni number NotText) else then_later (taken_text so_far number (trimmed text)) fault
