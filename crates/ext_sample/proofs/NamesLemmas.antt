-- The names of a sample, and the texts of its paths.
use Rattle.std.proofs.Common.{◌≡◌, ℕ, suc, zero, ◌+◌, ◌*◌, ◌^◌, ◌<◌, ◌≤◌, ◌%◌, Bool, true, List, [], ◌∷◌, ◌++◌, ◌&&◌, get_or, length, length-append, refl, sym, ap, subst, ◌∙◌, arith}
use Rattle.std.specs.Prelude.{nat_lt, codes, decimal, IfOk, Result}
use Rattle.std.specs.List.{list_all}
use Rattle.std.proofs.lemmas.Bool.{and_from, and_parts, ltb-true}
use Rattle.std.proofs.lemmas.Fmt.{decimal_by_steps, length-decimal-le}
use Rattle.std.proofs.Math.ListN.{get_or-append}
use Rattle.std.proofs.lemmas.List.{append_assoc}
use Rattle.std.proofs.lemmas.List.Elements.{All-weaker}
use Rattle.std.proofs.lemmas.List.Folds.{list_all-append}
use Rattle.std.proofs.lemmas.List.Sums.{AllPass-from_list_all}
use Rattle.std.proofs.lemmas.Str.{IsUtf8-from_ascii}
use Rattle.std.proofs.lemmas.Str.Ascii.{IsAscii-from_all}
use Rattle.ext_text.specs.Name.{IsName, is_name_byte}
use Rattle.ext_text.specs.Path.{IsPath, path_parts, path_text}
use Rattle.ext_text.proofs.ForCallers.{parts_text}
use Rattle.ext_sample.specs.Sample.{image_name, release_path, shared_path}

-- a byte of ASCII that may stand in a name
abbrev fits : ℕ → Bool
fits b = is_name_byte b && nat_lt b 128

-- a short text of such bytes that begins with no dot is a name
pub word : (bytes : List ℕ) → 0 < length bytes → length bytes ≤ 255 → (get_or bytes 0 0 ≡ 46 → ⊥) → list_all fits bytes ≡ true → IsName bytes
word bytes some short first all =
    let each = AllPass-from_list_all fits bytes all in
    let low = All-weaker (λ b. fits b ≡ true) (λ b. b < 128) (λ b is. ltb-true b 128 (and_parts (is_name_byte b) (nat_lt b 128) is).1) bytes each in
    record {
      non_empty = some;
      at_most_255 = short;
      not_dot = λ e. first (ap (λ l. get_or l 0 0) e);
      not_dot_dot = λ e. first (ap (λ l. get_or l 0 0) e);
      plain = All-weaker (λ b. fits b ≡ true) (λ b. is_name_byte b ≡ true) (λ b is. (and_parts (is_name_byte b) (nat_lt b 128) is).0) bytes each;
      utf8 = IsUtf8-from_ascii bytes (IsAscii-from_all bytes low);
    }

digit_fits : (d : ℕ) → d < 10 → fits (48 + d) ≡ true
digit_fits zero low = refl
digit_fits (suc zero) low = refl
digit_fits (suc (suc zero)) low = refl
digit_fits (suc (suc (suc zero))) low = refl
digit_fits (suc (suc (suc (suc zero)))) low = refl
digit_fits (suc (suc (suc (suc (suc zero))))) low = refl
digit_fits (suc (suc (suc (suc (suc (suc zero)))))) low = refl
digit_fits (suc (suc (suc (suc (suc (suc (suc zero))))))) low = refl
digit_fits (suc (suc (suc (suc (suc (suc (suc (suc zero)))))))) low = refl
digit_fits (suc (suc (suc (suc (suc (suc (suc (suc (suc zero))))))))) low = refl
digit_fits (suc (suc (suc (suc (suc (suc (suc (suc (suc (suc d)))))))))) low = absurd (omega arith)

-- what is known of decimal digits: there are some, the first one is a digit, and each may stand in a name
record AreDigits (digits : List ℕ) : Type 0 where
  some : 0 < length digits
  first : 47 < get_or digits 0 0
  all : list_all fits digits ≡ true

one_digit : (n : ℕ) → n < 10 → AreDigits ((48 + n) ∷ [])
one_digit n low = record { some = omega arith; first = omega arith; all = and_from _ _ (digit_fits n low) refl }

more_digits : (n : ℕ) (digits : List ℕ) → AreDigits digits → AreDigits (digits ++ (48 + n % 10) ∷ [])
more_digits n digits are = record {
  some = omega (arith, are.some, length-append digits ((48 + n % 10) ∷ []));
  first = omega (arith, are.first, get_or-append digits ((48 + n % 10) ∷ []) 0 0 are.some);
  all = list_all-append fits digits ((48 + n % 10) ∷ []) ∙ and_from _ _ are.all (and_from _ _ (digit_fits (n % 10) (omega arith)) refl);
}

are_digits : (n : ℕ) → n < 2 ^ 64 → AreDigits (decimal n)
are_digits n low = decimal_by_steps (λ m digits. AreDigits digits) one_digit (λ m digits l are. more_digits m digits are) n low

pub few_digits : (n : ℕ) → n < 2 ^ 64 → length (decimal n) ≤ 20
few_digits n low = length-decimal-le 20 n (omega arith) (omega arith) low

number_name : (n : ℕ) → n < 2 ^ 64 → IsName (decimal n)
number_name n low =
    let are = are_digits n low in
    word (decimal n) are.some (omega (arith, few_digits n low)) (λ dot. omega (arith, dot, are.first)) are.all

image_named : (i : ℕ) → i < 2 ^ 64 → IsName (image_name i)
image_named i low = word (image_name i) (omega arith) (omega (arith, few_digits i low)) (λ dot. omega (arith, dot)) (are_digits i low).all

release_named : (i : ℕ) → i < 2 ^ 64 → IsName (codes "extension-release." ++ image_name i)
release_named i low = word (codes "extension-release." ++ image_name i) (omega arith) (omega (arith, few_digits i low)) (λ dot. omega (arith, dot)) (are_digits i low).all

usr_named : IsName (codes "usr")
usr_named = word (codes "usr") (omega arith) (omega arith) (λ dot. omega (arith, dot)) refl

lib_named : IsName (codes "lib")
lib_named = word (codes "lib") (omega arith) (omega arith) (λ dot. omega (arith, dot)) refl

share_named : IsName (codes "share")
share_named = word (codes "share") (omega arith) (omega arith) (λ dot. omega (arith, dot)) refl

h_named : IsName (codes "h")
h_named = word (codes "h") (omega arith) (omega arith) (λ dot. omega (arith, dot)) refl

os_release_named : IsName (codes "os-release")
os_release_named = word (codes "os-release") (omega arith) (omega arith) (λ dot. omega (arith, dot)) refl

releases_named : IsName (codes "extension-release.d")
releases_named = word (codes "extension-release.d") (omega arith) (omega arith) (λ dot. omega (arith, dot)) refl

-- the folders, and the names of the trees' texts
pub host_named : IsName (codes "host")
host_named = word (codes "host") (omega arith) (omega arith) (λ dot. omega (arith, dot)) refl

pub images_named : IsName (codes "images")
images_named = word (codes "images") (omega arith) (omega arith) (λ dot. omega (arith, dot)) refl

pub host_tree_named : IsName (codes "host.tree")
host_tree_named = word (codes "host.tree") (omega arith) (omega arith) (λ dot. omega (arith, dot)) refl

pub images_tree_named : IsName (codes "images.tree")
images_tree_named = word (codes "images.tree") (omega arith) (omega arith) (λ dot. omega (arith, dot)) refl

-- the paths of the files
pub os_release_is : IsPath (codes "usr" ∷ codes "lib" ∷ codes "os-release" ∷ [])
os_release_is = record { each = (usr_named, (lib_named, (os_release_named, tt))); depth = omega arith; size = omega arith }

pub shared_is : (k : ℕ) → k < 2 ^ 64 → IsPath (shared_path k)
shared_is k low = record { each = (usr_named, (share_named, (h_named, (number_name k low, tt)))); depth = omega arith; size = omega (arith, few_digits k low) }

-- how long the text of a path in an image is
pub image_text : (i k : ℕ) → length (path_text (image_name i ∷ shared_path k)) ≡ length (decimal i) + length (decimal k) + 15
image_text i k = omega (arith, length-append (decimal i) (codes "/usr/share/h/" ++ decimal k))

pub image_is : (i k : ℕ) → i < 2 ^ 64 → k < 2 ^ 64 → IsPath (image_name i ∷ shared_path k)
image_is i k low below = record {
  each = (image_named i low, (shared_is k below).each);
  depth = omega arith;
  size = omega (arith, image_text i k, few_digits i low, few_digits k below);
}

pub release_text : (i : ℕ) → length (path_text (image_name i ∷ release_path (image_name i))) ≡ 2 * length (decimal i) + 51
release_text i = omega (arith, length-append (decimal i) (codes "/usr/lib/extension-release.d/extension-release.s-" ++ decimal i))

pub release_is : (i : ℕ) → i < 2 ^ 64 → IsPath (image_name i ∷ release_path (image_name i))
release_is i low = record {
  each = (image_named i low, (usr_named, (lib_named, (releases_named, (release_named i low, tt)))));
  depth = omega arith;
  size = omega (arith, release_text i, few_digits i low);
}

-- the parts of a path's text are its names
pub parts_of : (path : List (List ℕ)) (text : List ℕ) → IsPath path → text ≡ path_text path → path_parts text ≡ path
parts_of path text is same = ap path_parts same ∙ parts_text path is.each

pub is_path_of : (path : List (List ℕ)) (text : List ℕ) → IsPath path → text ≡ path_text path → IsPath (path_parts text)
is_path_of path text is same = subst IsPath (sym (parts_of path text is same)) is

-- the texts as they are written
pub image_written : (i k : ℕ) → ((codes "s-" ++ decimal i) ++ codes "/usr/share/h/") ++ decimal k ≡ path_text (image_name i ∷ shared_path k)
image_written i k = ap (λ (t : List ℕ). 115 ∷ 45 ∷ t) (append_assoc (decimal i) (codes "/usr/share/h/") (decimal k))

pub release_written : (i : ℕ) → ((codes "s-" ++ decimal i) ++ codes "/usr/lib/extension-release.d/extension-release.s-") ++ decimal i ≡ path_text (image_name i ∷ release_path (image_name i))
release_written i = ap (λ (t : List ℕ). 115 ∷ 45 ∷ t) (append_assoc (decimal i) (codes "/usr/lib/extension-release.d/extension-release.s-") (decimal i))

pub path_is : {X : Type 0} (path : List (List ℕ)) (text : List ℕ) (result : Result (List (List ℕ)) X) → IsPath path → text ≡ path_text path → IfOk result (λ p. p ≡ path_parts text) → IfOk result (λ p. p ≡ path)
path_is path text result is same read = subst (λ q. IfOk result (λ p. p ≡ q)) (parts_of path text is same) read
