-- The default hierarchies are hierarchies of two classes.
use Rattle.std.proofs.Common.{◌≡◌, ℕ, zero, suc, ◌<◌, true, List, [], ◌∷◌, get_or, length, refl, ap, arith}
use Rattle.std.specs.Prelude.{Contains}
use Rattle.std.specs.List.{AllByRecursion}
use Rattle.std.proofs.lemmas.Str.{IsUtf8-from_ascii}
use Rattle.std.proofs.lemmas.List.Elements.{All-from_recursion}
use Rattle.ext_text.specs.Name.{IsName, is_name_byte}
use Rattle.ext_index_reader.specs.State.{with_defaults}
use Rattle.ext_index_reader.specs.declared.state.SoFar.{SoFar}
use Rattle.ext_index_reader.proofs.HierarchyLemmas.{AreClasses}
use Rattle.ext_index_reader.proofs.OnceLemmas.{other_first}

-- three bytes of ASCII that may stand in a name
short_name : (a b c : ℕ) → is_name_byte a ≡ true → is_name_byte b ≡ true → is_name_byte c ≡ true → a < 128 → b < 128 → c < 128 → IsName (a ∷ b ∷ c ∷ [])
short_name a b c p q r x y z =
    let each : AllByRecursion (λ b. is_name_byte b ≡ true) (a ∷ b ∷ c ∷ []) = (p, (q, (r, tt))) in
    record {
      non_empty = omega arith;
      at_most_255 = omega arith;
      not_dot = λ e. let short : 3 ≡ 1 = ap length e in omega arith;
      not_dot_dot = λ e. let short : 3 ≡ 2 = ap length e in omega arith;
      plain = All-from_recursion (λ b. is_name_byte b ≡ true) (a ∷ b ∷ c ∷ []) each;
      utf8 = IsUtf8-from_ascii (a ∷ b ∷ c ∷ []) (ascii a b c x y z);
    }
  where
    ascii : (a b c : ℕ) → a < 128 → b < 128 → c < 128 → (i : ℕ) → get_or (a ∷ b ∷ c ∷ []) i 0 < 128
    ascii a b c x y z zero = x
    ascii a b c x y z (suc zero) = y
    ascii a b c x y z (suc (suc zero)) = z
    ascii a b c x y z (suc (suc (suc i))) = omega arith

-- the only one of some names is the first
not_only : (a b : ℕ) (xs ys : List ℕ) → (b ≡ a → ⊥) → ¬ Contains ((b ∷ ys) ∷ []) (a ∷ xs)
not_only a b xs ys other (zero, low, same) = other_first b a ys xs other same
not_only a b xs ys other (suc k, low, same) = absurd (omega arith)

pub defaults_are_classes : (s : SoFar) → AreClasses (with_defaults s)
defaults_are_classes s = record {
  sysext_names = (short_name 111 112 116 refl refl refl (omega arith) (omega arith) (omega arith), (short_name 117 115 114 refl refl refl (omega arith) (omega arith) (omega arith), tt));
  confext_names = (short_name 101 116 99 refl refl refl (omega arith) (omega arith) (omega arith), tt);
  sysext_order = ((refl, tt), (tt, tt));
  confext_order = (tt, tt);
  sysext_few = omega arith;
  confext_few = omega arith;
  apart = (not_only 111 101 _ _ (λ z. omega arith), (not_only 117 101 _ _ (λ z. omega arith), tt));
}
