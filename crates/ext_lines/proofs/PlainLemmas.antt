-- Text without control bytes: whether bytes are text, and which bytes it lacks.
use Rattle.std.proofs.Common.{◌≡◌, ◌&&◌, ℕ, ◌<◌, ◌≤◌, Bool, true, false, List, arith}
use Rattle.std.specs.List.{AllPass, list_all}
use Rattle.std.specs.Str.{IsUtf8, is_utf8}
use Rattle.std.proofs.lemmas.Bool.{and_parts, false_from_ne_true, leb-true}
use Rattle.std.proofs.lemmas.List.Elements.{All-weaker}
use Rattle.std.proofs.lemmas.Str.{IsUtf8-from_is_utf8, is_utf8-from_IsUtf8}
use Rattle.ext_lines.specs.Plain.{is_plain_byte}
use Rattle.ext_lines.specs.Split.{Lacks}
use Rattle.ext_lines.proofs.SplitLemmas.{Differs, differs}

pub some_text : (passes : ℕ → Bool) (bytes : List ℕ) → list_all passes bytes ≡ true → IsUtf8 bytes → (list_all passes bytes && is_utf8 bytes) ≡ true
some_text passes bytes plain text = rw plain (is_utf8-from_IsUtf8 bytes text)

pub no_text : (passes : ℕ → Bool) (bytes : List ℕ) → list_all passes bytes ≡ true → ¬ IsUtf8 bytes → (list_all passes bytes && is_utf8 bytes) ≡ false
no_text passes bytes plain none = rw plain (false_from_ne_true _ (λ is. none (IsUtf8-from_is_utf8 bytes is)))

plain_high : (c : ℕ) → is_plain_byte c ≡ true → 32 ≤ c
plain_high c is = leb-true 32 c (and_parts _ _ is).0

-- plain text lacks each control byte below the space
pub plain_lacks : (byte : ℕ) (bs : List ℕ) → byte < 32 → AllPass is_plain_byte bs → Lacks byte bs
plain_lacks byte bs low plain =
    All-weaker (λ c. is_plain_byte c ≡ true) (λ c. Differs byte c) (λ c is. differs byte c (λ e. omega (arith, plain_high c is))) bs plain
