-- Reading a unit file: its whole lines one after another, and the same line by line.
use Rattle.std.specs.Prelude.{ℕ, ◌+◌, List, [], ◌∷◌, Option, None, Result, Ok, Err}
use Rattle.std.specs.Option.{option_to_list}
use Rattle.ext_ini.specs.declared.err.IniErr.{IniErr}
use Rattle.ext_ini.specs.declared.reading.Reading.{Reading}
use Rattle.ext_ini.specs.declared.sections.Section.{Section}
use Rattle.ext_ini.specs.declared.taking.SoFar.{SoFar}
use Rattle.ext_ini.specs.declared.whole.Whole.{Whole}
use Rattle.ext_ini.specs.Taking.{all_sections, nothing, taken}
use Rattle.ext_ini.specs.Whole.{left_by, file_wholes}

-- what follows on success
abbrev pub on_ok : {X Y : Type 0} → Result X IniErr → (X → Result Y IniErr) → Result Y IniErr
on_ok (Err e) more = Err e
on_ok (Ok x) more = more x

-- what whole lines leave of what was read, one after another. The first that is refused is the fault
abbrev pub read_wholes : SoFar → List Whole → Result SoFar IniErr
read_wholes so_far [] = Ok so_far
read_wholes so_far (w ∷ ws) = on_ok (taken so_far w.number w.text w.fault) (λ next. read_wholes next ws)

-- the sections of what was read
abbrev pub sections_after : Result SoFar IniErr → Result (List Section) IniErr
sections_after (Err e) = Err e
sections_after (Ok so_far) = Ok (all_sections so_far)

-- what a unit file says
abbrev pub ini_of : List ℕ → Result (List Section) IniErr
ini_of bytes = sections_after (read_wholes nothing (file_wholes bytes))

-- with a whole line that goes on
abbrev pub with_pending : Option Whole → Result SoFar IniErr → Result Reading IniErr
with_pending pending (Err e) = Err e
with_pending pending (Ok so_far) = Ok (record { so_far = so_far; pending = pending })

-- what was read after whole lines that end, before one that goes on
abbrev pub follow : SoFar → List Whole × Option Whole → Result Reading IniErr
follow so_far left = with_pending left.1 (read_wholes so_far left.0)

-- what was read after one line more
abbrev pub step : Reading → ℕ → List ℕ → Result Reading IniErr
step reading number line = follow reading.so_far (left_by reading.pending number line)

-- nothing is read
abbrev pub start : Reading
start = record { so_far = nothing; pending = None }

-- the sections at the end of the file, where the whole line ends that goes on
abbrev pub finished : Reading → Result (List Section) IniErr
finished reading = sections_after (read_wholes reading.so_far (option_to_list reading.pending))

-- what lines say, the first of which has this number
abbrev pub read_lines : Reading → ℕ → List (List ℕ) → Result (List Section) IniErr
read_lines reading number [] = finished reading
read_lines reading number (l ∷ ls) = on_ok (step reading number l) (λ next. read_lines next (number + 1) ls)
