-- The whole lines of a file stand in the order of their numbers.
use Rattle.std.proofs.Common.{◌≡◌, ℕ, ◌+◌, ◌<◌, ◌≤◌, Bool, true, false, List, [], ◌∷◌, ◌++◌, length, cond, arith}
use Rattle.std.specs.Prelude.{None, Option, Some}
use Rattle.std.specs.Option.{option_or, unwrap_or}
use Rattle.ext_lines.specs.Plain.{is_plain_text_with_tabs}
use Rattle.ext_lines.specs.Split.{before_last}
use Rattle.ext_ini.specs.declared.whole.Whole.{Whole}
use Rattle.ext_ini.specs.Line.{fault_of, file_lines, is_comment}
use Rattle.ext_ini.specs.Laws.{Ascend, WholesAscend, last_named}
use Rattle.ext_ini.specs.Whole.{begun, extended, left_by, of_comment, of_line, wholes_of}

-- a whole line that goes on stands after one number, and before the number of the next line
abbrev IsOpen : ℕ → ℕ → Option Whole → Type 0
IsOpen after number None = after < number
IsOpen after number (Some w) = (after < w.number) × (w.number ≤ last_named w) × (last_named w < number)

-- the whole lines that end with a line ascend, and the one that goes on stands after them
abbrev IsLeft : ℕ → ℕ → List Whole → Option Whole → Type 0
IsLeft after number [] pending = IsOpen after (number + 1) pending
IsLeft after number (w ∷ ws) pending = (after < w.number) × (w.number ≤ last_named w) × IsLeft (last_named w) number ws pending

-- the last number that is named, after a line more
named_more : (n number : ℕ) (fault : Option ℕ) (text : Bool) → n ≤ unwrap_or fault n → unwrap_or fault n < number
    → (n ≤ unwrap_or (option_or fault (cond text None (Some number))) n) × (unwrap_or (option_or fault (cond text None (Some number))) n < number + 1)
named_more n number None true from below = (omega arith, omega arith)
named_more n number None false from below = (omega arith, omega arith)
named_more n number (Some k) text from below = (from, omega arith)

extended_open : (after number : ℕ) (pending : Option Whole) (text : Bool) (more : List ℕ) → IsOpen after number pending
    → IsOpen after (number + 1) (Some (extended (begun pending number) (cond text None (Some number)) more))
extended_open after number None true more is = (is, omega arith, omega arith)
extended_open after number None false more is = (is, omega arith, omega arith)
extended_open after number (Some w) text more is =
    let named = named_more w.number number w.fault text is.1 is.2 in
    (is.0, named.0, named.1)

comment_left : (after number : ℕ) (pending : Option Whole) (text : Bool) → IsOpen after number pending
    → let left = of_comment pending number (cond text None (Some number)) in IsLeft after number left.0 left.1
comment_left after number None text is = extended_open after number None text [] is
comment_left after number (Some w) text is = extended_open after number (Some w) text [] is

line_left : (after number : ℕ) (pending : Option Whole) (text : Bool) (line : List ℕ) (prefix : Option (List ℕ)) → IsOpen after number pending
    → let left = of_line pending number (cond text None (Some number)) line prefix in IsLeft after number left.0 left.1
line_left after number pending text line None is = extended_open after number pending text line is
line_left after number pending text line (Some prefix) is = extended_open after number pending text (prefix ++ 32 ∷ []) is

either_left : (after number : ℕ) (comment : Bool) (x y : List Whole × Option Whole) → IsLeft after number x.0 x.1 → IsLeft after number y.0 y.1
    → let left = cond comment x y in IsLeft after number left.0 left.1
either_left after number true x y first second = first
either_left after number false x y first second = second

-- what any line leaves
left_ascends : (after number : ℕ) (pending : Option Whole) (line : List ℕ) → IsOpen after number pending
    → let left = left_by pending number line in IsLeft after number left.0 left.1
left_ascends after number pending line is =
    let text = is_plain_text_with_tabs line in
    either_left after number (is_comment line) (of_comment pending number (fault_of number line)) (of_line pending number (fault_of number line) line (before_last 92 line))
    (comment_left after number pending text is)
    (line_left after number pending text line (before_last 92 line) is)

-- the whole lines that end, and then those of the lines that follow
ascend_left : (ws : List Whole) (after number last : ℕ) (pending : Option Whole) (more : List Whole) → IsLeft after number ws pending
    → ((next : ℕ) → IsOpen next (number + 1) pending → Ascend next last more) → Ascend after last (ws ++ more)
ascend_left [] after number last pending more left follow = follow after left
ascend_left (w ∷ ws) after number last pending more left follow = (left.0, left.1, ascend_left ws (last_named w) number last pending more left.2 follow)

ascending : (ls : List (List ℕ)) (after number last : ℕ) (pending : Option Whole) → IsOpen after number pending → number + length ls ≡ last + 1
    → Ascend after last (wholes_of pending number ls)
ascending [] after number last None is count = omega arith
ascending [] after number last (Some w) is count = (is.0, is.1, omega (arith, is.2))
ascending (l ∷ ls) after number last pending is count =
    let left = left_by pending number l in
    ascend_left left.0 after number last left.1 (wholes_of left.1 (number + 1) ls) (left_ascends after number pending l is)
    (λ next opened. ascending ls next (number + 1) last left.1 opened (omega (arith, count)))

pub wholes_ascend : WholesAscend
wholes_ascend bytes = ascending (file_lines bytes) 0 1 (length (file_lines bytes)) None (omega arith) (omega arith)
