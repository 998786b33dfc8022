use Rattle.ext_lines.proofs.numbers.+append_octal_digits.Given as goal

abbrev pub decreases-append_octal_digits : goal.decreases-append_octal_digits
decreases-append_octal_digits l = l.number
