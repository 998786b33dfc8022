-- A hierarchy beside any others: so each list of hierarchies can be followed by a second one.
use Rattle.std.proofs.Common.{◌≡◌, ◌≢◌, ℕ, zero, suc, ◌<◌, ◌≤◌, Bool, true, false, List, [], ◌∷◌, length, drop, refl, ap, ◌∙◌, subst, arith, if◌then◌else◌, inl, inr}
use Rattle.std.specs.Prelude.{◌⊎◌, not, ◌==◌}
use Rattle.std.specs.List.{AllByRecursion, list_all}
use Rattle.std.proofs.lemmas.Bool.{and_from, eqb-false, eqb-true}
use Rattle.std.proofs.lemmas.List.Sums.{AllPass-from_list_all}
use Rattle.ext_text.proofs.ForCallers.{all_weaker}
use Rattle.ext_cmd.specs.Fault.{BeginsWords}
use Rattle.ext_cmd.specs.Grammar.{TakesOthers}
use Rattle.ext_cmd.specs.Words.{IsHierarchy, IsHierarchyList, IsNone, hierarchies_word}
use Rattle.ext_cmd.proofs.WordLemmas.{ascii_name, is_plain_ascii}

-- a letter other than the first byte
abbrev other_letter : List ℕ → ℕ
other_letter [] = 97
other_letter (b ∷ bs) = if b == 97 then 98 else 97

-- a text that differs from each of the names in one byte: from the first of them in the first, and so on
abbrev away : ℕ → List (List ℕ) → List ℕ
away k [] = []
away k (name ∷ names) = other_letter (drop k name) ∷ away (suc k) names

differs_first : (bs rest : List ℕ) → bs ≢ other_letter bs ∷ rest
differs_first [] rest same = cc
differs_first (b ∷ bs) rest same = by_test (b == 97) refl (cc)
  where
    by_test : (t : Bool) → (b == 97) ≡ t → b ≡ (if (b == 97) then 98 else 97) → ⊥
    by_test true is here = omega (arith, eqb-true b 97 is, here ∙ ap (λ (t : Bool). if t then 98 else 97) is)
    by_test false is here = eqb-false b 97 is (here ∙ ap (λ (t : Bool). if t then 98 else 97) is)

drop_one : (k : ℕ) (bs : List ℕ) (b : ℕ) (rest : List ℕ) → drop k bs ≡ b ∷ rest → drop (suc k) bs ≡ rest
drop_one zero [] b rest same = cc
drop_one zero (c ∷ bs) b rest same = cc
drop_one (suc k) [] b rest same = cc
drop_one (suc k) (c ∷ bs) b rest same = drop_one k bs b rest same

away_none : (k : ℕ) (names : List (List ℕ)) → AllByRecursion (λ name. drop k name ≢ away k names) names
away_none k [] = tt
away_none k (name ∷ names) = (
  differs_first (drop k name) (away (suc k) names),
  all_weaker (λ (n : List ℕ). drop (suc k) n ≢ away (suc k) names) (λ (n : List ℕ). drop k n ≢ other_letter (drop k name) ∷ away (suc k) names)
      (λ n differ same. differ (drop_one k n _ (away (suc k) names) same)) names (away_none (suc k) names),
)

letter_passes : (p : ℕ → Bool) → p 97 ≡ true → p 98 ≡ true → (bs : List ℕ) → p (other_letter bs) ≡ true
letter_passes p a b [] = a
letter_passes p a b (c ∷ bs) = by_test (c == 97)
  where
    by_test : (t : Bool) → p (if t then 98 else 97) ≡ true
    by_test true = b
    by_test false = a

all_pass : (p : ℕ → Bool) → p 97 ≡ true → p 98 ≡ true → (k : ℕ) (names : List (List ℕ)) → list_all p (away k names) ≡ true
all_pass p a b k [] = refl
all_pass p a b k (name ∷ names) = and_from (p (other_letter (drop k name))) (list_all p (away (suc k) names)) (letter_passes p a b (drop k name)) (all_pass p a b (suc k) names)

length-away : (k : ℕ) (names : List (List ℕ)) → length (away k names) ≡ length names
length-away k [] = refl
length-away k (name ∷ names) = ap suc (length-away (suc k) names)

letter_is : (bs : List ℕ) → (other_letter bs ≡ 97) ⊎ (other_letter bs ≡ 98)
letter_is [] = inl refl
letter_is (c ∷ bs) = by_test (c == 97)
  where
    by_test : (t : Bool) → (◌≡◌ {A = ℕ} (if t then 98 else 97) 97) ⊎ (◌≡◌ {A = ℕ} (if t then 98 else 97) 98)
    by_test true = inr refl
    by_test false = inl refl

-- it begins with a letter
begins_so : (names : List (List ℕ)) (b : ℕ) (rest : List ℕ) → 0 < length names → away 0 names ≡ b ∷ rest → (b ≡ 97) ⊎ (b ≡ 98)
begins_so [] b rest some same = absurd (omega arith)
begins_so (name ∷ names) b rest some same =
    let first : other_letter (drop 0 name) ≡ b = cc in
    subst (λ (c : ℕ). (c ≡ 97) ⊎ (c ≡ 98)) first (letter_is (drop 0 name))

not_low : (names : List (List ℕ)) (b : ℕ) (rest : List ℕ) → 0 < length names → b < 97 → away 0 names ≢ b ∷ rest
not_low names b rest some low same = neither (begins_so names b rest some same)
  where
    neither : (b ≡ 97) ⊎ (b ≡ 98) → ⊥
    neither (inl is) = omega arith
    neither (inr is) = omega arith

away_name : (names : List (List ℕ)) → 0 < length names → length names ≤ 16 → IsHierarchy (away 0 names)
away_name names some few =
    let long = length-away 0 names in
    record {
      plain = record {
        name_is = ascii_name (away 0 names) (omega arith) (omega arith) (not_low names 46 [] some (omega arith)) (not_low names 46 (46 ∷ []) some (omega arith)) (all_pass is_plain_ascii refl refl 0 names);
        no_dash = λ rest. not_low names 45 rest some (omega arith);
      };
      no_colon = AllPass-from_list_all (λ b. not (b == 58)) (away 0 names) (all_pass (λ b. not (b == 58)) refl refl 0 names);
    }

one_name : (name : List ℕ) → IsHierarchy name → IsHierarchyList (name ∷ [])
one_name name is = record { non_empty = omega arith; at_most_16 = omega arith; each = (is, tt); distinct = (tt, tt) }

pub some_others : (names : List (List ℕ)) → IsHierarchyList names → BeginsWords (TakesOthers names) []
some_others names are = record {
  more = hierarchies_word (away 0 names ∷ []) ∷ [];
  whole = (
    record {
      value = away 0 names ∷ [];
      is = record {
        hierarchies = one_name (away 0 names) (away_name names are.non_empty are.at_most_16);
        apart = all_weaker (λ (name : List ℕ). name ≢ away 0 names) (λ (name : List ℕ). IsNone name (away 0 names ∷ [])) (λ name differ. (differ, tt)) names (away_none 0 names);
      };
      same = refl;
    },
    tt,
  );
}
