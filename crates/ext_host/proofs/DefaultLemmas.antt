-- The default hierarchies are names.
use Rattle.std.proofs.Common.{◌≡◌, true, ℕ, zero, suc, ◌<◌, [], ◌∷◌, get_or, refl, arith}
use Rattle.std.specs.Prelude.{codes}
use Rattle.std.specs.List.{AllByRecursion}
use Rattle.std.proofs.lemmas.Str.{IsUtf8-from_ascii}
use Rattle.std.proofs.lemmas.List.Elements.{All-from_recursion}
use Rattle.ext_text.specs.Name.{IsName, is_name_byte}

-- three ASCII bytes that may stand in a name
three : (a b c : ℕ) → is_name_byte a ≡ true → is_name_byte b ≡ true → is_name_byte c ≡ true → a < 128 → b < 128 → c < 128 → IsName (a ∷ b ∷ c ∷ [])
three a b c p q r x y z =
    let each : AllByRecursion (λ b. is_name_byte b ≡ true) (a ∷ b ∷ c ∷ []) = (p, (q, (r, tt))) in
    record {
      non_empty = omega arith;
      at_most_255 = omega arith;
      not_dot = λ h. cc;
      not_dot_dot = λ h. cc;
      plain = All-from_recursion (λ b. is_name_byte b ≡ true) (a ∷ b ∷ c ∷ []) each;
      utf8 = IsUtf8-from_ascii (a ∷ b ∷ c ∷ []) (ascii a b c x y z);
    }
  where
    ascii : (a b c : ℕ) → a < 128 → b < 128 → c < 128 → (i : ℕ) → get_or (a ∷ b ∷ c ∷ []) i 0 < 128
    ascii a b c x y z zero = x
    ascii a b c x y z (suc zero) = y
    ascii a b c x y z (suc (suc zero)) = z
    ascii a b c x y z (suc (suc (suc i))) = omega arith

pub opt_name : IsName (codes "opt")
opt_name = three 111 112 116 refl refl refl (omega arith) (omega arith) (omega arith)

pub usr_name : IsName (codes "usr")
usr_name = three 117 115 114 refl refl refl (omega arith) (omega arith) (omega arith)

pub etc_name : IsName (codes "etc")
etc_name = three 101 116 99 refl refl refl (omega arith) (omega arith) (omega arith)
