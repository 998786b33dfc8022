-- The paths of homes and of their folders: which lie below which, and which are the same.
use Rattle.std.proofs.Common.{◌≡◌, ◌≢◌, ℕ, ◌-◌, ◌*◌, ◌/◌, ◌%◌, ◌^◌, ◌<◌, Bool, true, false, not, List, [], ◌∷◌, ◌++◌, length, take, drop, get_or, refl, sym, ap, ◌∙◌, subst, arith}
use Rattle.std.specs.Str.Parse.{digits_value}
use Rattle.std.proofs.lemmas.Bool.{false≢true, and_parts}
use Rattle.ext_lines.specs.Hexadecimal.{five_digits, hex_digit}
use Rattle.ext_lines.proofs.ForCallers.{five_injective}
use Rattle.ext_text.specs.Path.{is_prefix}
use Rattle.ext_text.proofs.ForCallers.{prefix_first, prefix_self, prefix_whole, same_path}
use Rattle.ext_store_files.specs.Names.{generation_name, generation_path, home_folder, home_path}
use Rattle.ext_store_files.specs.Writing.{is_at}
use Rattle.ext_store_files.proofs.ForCallers.{name_value, proper_append, rest_of}
use Rattle.ext_homes.specs.Written.{is_below}

pub outside : (a b : Bool) → (a ≡ true → b ≡ true) → b ≡ false → a ≡ false
outside true b gives out = absurd (false≢true (sym out ∙ gives refl))
outside false b gives out = refl

below_home : (n k : ℕ) (p : List (List ℕ)) → is_prefix (home_path n k) p ≡ true → is_below n p ≡ true
below_home n k p prefix =
    let rest = rest_of (home_path n k) p prefix in
    subst (λ q. is_below n q ≡ true) (sym rest.1) (proper_append (generation_path n) (take 3 (five_digits k)) (drop 3 (five_digits k) ∷ rest.0))

below_folder : (n k : ℕ) (p : List (List ℕ)) → is_prefix (home_folder n k) p ≡ true → is_below n p ≡ true
below_folder n k p prefix =
    let rest = rest_of (home_folder n k) p prefix in
    subst (λ q. is_below n q ≡ true) (sym rest.1) (proper_append (generation_path n) (take 3 (five_digits k)) rest.0)

-- what is not below the generation's folder is not at or below a home, nor at or below its folder
pub out_of_home : (n k : ℕ) (p : List (List ℕ)) → is_below n p ≡ false → is_prefix (home_path n k) p ≡ false
out_of_home n k p out = outside (is_prefix (home_path n k) p) (is_below n p) (below_home n k p) out

pub out_of_folder : (n k : ℕ) (p : List (List ℕ)) → is_below n p ≡ false → is_prefix (home_folder n k) p ≡ false
out_of_folder n k p out = outside (is_prefix (home_folder n k) p) (is_below n p) (below_folder n k p) out

pub not_at : (q p : List (List ℕ)) → is_prefix q p ≡ false → is_at q p ≡ false
not_at q p out = outside (is_at q p) (is_prefix q p) (λ tied. subst (λ r. is_prefix q r ≡ true) (same_path q p tied) (prefix_self q)) out

pub one_home_path : (n j k : ℕ) → j < 262144 → k < 262144 → home_path n j ≡ home_path n k → j ≡ k
one_home_path n j k low high same = five_injective j k (omega arith) (omega arith) (ap (λ (p : List (List ℕ)). get_or p 1 [] ++ get_or p 2 []) same)

-- the first three digits are those of the first file of the folder
first_digits : (k : ℕ) → k < 262144 → five_digits (k / 256 * 256) ≡ take 3 (five_digits k) ++ 48 ∷ 48 ∷ []
first_digits k high =
    let a : k / 256 * 256 / 65536 ≡ k / 65536 = omega arith in
    let b : k / 256 * 256 / 4096 % 16 ≡ k / 4096 % 16 = omega arith in
    let c : k / 256 * 256 / 256 % 16 ≡ k / 256 % 16 = omega arith in
    let d : k / 256 * 256 / 16 % 16 ≡ 0 = omega arith in
    let e : k / 256 * 256 % 16 ≡ 0 = omega arith in
    λ i. hex_digit (a i) ∷ hex_digit (b i) ∷ hex_digit (c i) ∷ hex_digit (d i) ∷ hex_digit (e i) ∷ []

pub one_folder : (n j k : ℕ) → j < 262144 → k < 262144 → home_folder n j ≡ home_folder n k → j / 256 ≡ k / 256
one_folder n j k low high same =
    let tens : j / 256 * 256 ≡ k / 256 * 256 =
    five_injective (j / 256 * 256) (k / 256 * 256) (omega arith) (omega arith)
    (first_digits j low ∙ ap (λ (p : List (List ℕ)). get_or p 1 [] ++ 48 ∷ 48 ∷ []) same ∙ sym (first_digits k high)) in
    omega arith

pub same_folder : (n k : ℕ) → k < 262144 → k % 256 ≢ 0 → home_folder n (k - 1) ≡ home_folder n k
same_folder n k high inside =
    let a : (k - 1) / 65536 ≡ k / 65536 = omega arith in
    let b : (k - 1) / 4096 % 16 ≡ k / 4096 % 16 = omega arith in
    let c : (k - 1) / 256 % 16 ≡ k / 256 % 16 = omega arith in
    λ i. generation_name n ∷ (hex_digit (a i) ∷ hex_digit (b i) ∷ hex_digit (c i) ∷ []) ∷ []

pub home_no_folder : (n j k : ℕ) → home_path n j ≢ home_folder n k
home_no_folder n j k same = let long = ap length same in absurd (omega arith)

pub one_generation_name : (m n : ℕ) → m < 2 ^ 32 → n < 2 ^ 32 → generation_name m ≡ generation_name n → m ≡ n
one_generation_name m n low high same = sym (name_value m low) ∙ ap (λ (l : List ℕ). digits_value 10 (drop 2 l)) same ∙ name_value n high

-- a new home does not touch those of other files
pub apart_from_home : (n j k : ℕ) → j < 262144 → k < 262144 → j ≢ k → is_prefix (home_path n k) (home_path n j) ≡ false
apart_from_home n j k low high other = outside (is_prefix (home_path n k) (home_path n j)) false (λ prefix. absurd (other (one_home_path n j k low high (sym (prefix_whole (home_path n k) (home_path n j) prefix refl))))) refl

-- the first file of a folder is after those of other folders
first_of_folder : (j k : ℕ) → j < k → k % 256 ≡ 0 → j / 256 ≢ k / 256
first_of_folder j k less first same = absurd (omega arith)

-- nor does its folder, where it is the first one there
pub apart_from_folder : (n j k : ℕ) → j < k → k < 262144 → k % 256 ≡ 0 → is_prefix (home_folder n k) (home_path n j) ≡ false
apart_from_folder n j k less high first =
    outside (is_prefix (home_folder n k) (home_path n j)) false
    (λ prefix. absurd (first_of_folder j k less first (one_folder n j k (omega arith) high (sym ((prefix_first (home_folder n k) (home_path n j)).0 prefix))))) refl

pub new_folder : (n j k : ℕ) → j < k → k < 262144 → k % 256 ≡ 0 → home_folder n k ≢ home_folder n j
new_folder n j k less high first same = first_of_folder j k less first (one_folder n j k (omega arith) high (sym same))

-- the homes of other generations do not lie below this one
pub other_generation : (m n k : ℕ) → m < n → n < 2 ^ 32 → is_below n (home_path m k) ≡ false
other_generation m n k less small =
    outside (is_below n (home_path m k)) false
    (λ below. let same : generation_name n ≡ generation_name m =
    ap (λ (p : List (List ℕ)). get_or p 0 []) ((prefix_first (generation_path n) (home_path m k)).0 (and_parts (is_prefix (generation_path n) (home_path m k)) (not (is_prefix (home_path m k) (generation_path n))) below).0) in absurd (omega (arith, one_generation_name n m small (omega arith) same))) refl
