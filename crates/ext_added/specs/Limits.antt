-- The limit of the text of a link that an attachment makes: that of the text of a path. This project's own.
use Rattle.std.specs.Prelude.{ℕ, Bool, nat_le, List, length}

-- a text of at most 4,096 bytes
abbrev pub fits_text : List ℕ → Bool
fits_text text = nat_le (length text) 4096
