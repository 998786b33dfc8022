-- The names that an attachment makes, and the paths of its directories.
use Rattle.std.proofs.Common.{◌≡◌, ◌≢◌, ℕ, ◌-◌, ◌<◌, ◌≤◌, Bool, true, false, List, [], ◌∷◌, ◌++◌, ◌&&◌, length, take, get_or, refl, sym, ap, ◌∙◌, arith}
use Rattle.std.specs.Prelude.{nat_eq, nat_lt, codes}
use Rattle.std.specs.List.{ends_with, list_all}
use Rattle.std.proofs.lemmas.Bool.{and_parts, false_from_ne_true, ltb-true, or_from, true≢false}
use Rattle.std.proofs.lemmas.Bool.Decides.{Decides-eqb}
use Rattle.std.proofs.lemmas.List.Elements.{All-weaker}
use Rattle.std.proofs.lemmas.List.Sums.{AllPass-from_list_all}
use Rattle.std.proofs.lemmas.Slice.Eq.{ends_is}
use Rattle.std.proofs.lemmas.Str.{IsUtf8-from_ascii}
use Rattle.std.proofs.lemmas.Str.Ascii.{IsAscii-from_all}
use Rattle.ext_text.specs.Name.{IsName, is_name_byte}
use Rattle.ext_text.specs.Path.{IsPath}
use Rattle.ext_units.specs.Units.{has_unit_suffix}
use Rattle.ext_added.specs.Destination.{drop_in_name}

-- a byte of ASCII that may stand in a name
abbrev fits : ℕ → Bool
fits b = is_name_byte b && nat_lt b 128

-- a short text of such bytes that begins with no dot is a name
word : (bytes : List ℕ) → 0 < length bytes → length bytes ≤ 255 → (get_or bytes 0 0 ≡ 46 → ⊥) → list_all fits bytes ≡ true → IsName bytes
word bytes some short first all =
    let each = AllPass-from_list_all fits bytes all in
    let low = All-weaker (λ b. fits b ≡ true) (λ b. b < 128) (λ b is. ltb-true b 128 (and_parts (is_name_byte b) (nat_lt b 128) is).1) bytes each in
    record {
      non_empty = some;
      at_most_255 = short;
      not_dot = λ e. first (ap (λ l. get_or l 0 0) e);
      not_dot_dot = λ e. first (ap (λ l. get_or l 0 0) e);
      plain = All-weaker (λ b. fits b ≡ true) (λ b. is_name_byte b ≡ true) (λ b is. (and_parts (is_name_byte b) (nat_lt b 128) is).0) bytes each;
      utf8 = IsUtf8-from_ascii bytes (IsAscii-from_all bytes low);
    }

etc_named : IsName (codes "etc")
etc_named = word (codes "etc") (omega arith) (omega arith) (λ dot. omega (arith, dot)) refl

run_named : IsName (codes "run")
run_named = word (codes "run") (omega arith) (omega arith) (λ dot. omega (arith, dot)) refl

systemd_named : IsName (codes "systemd")
systemd_named = word (codes "systemd") (omega arith) (omega arith) (λ dot. omega (arith, dot)) refl

attached_named : IsName (codes "system.attached")
attached_named = word (codes "system.attached") (omega arith) (omega arith) (λ dot. omega (arith, dot)) refl

portables_named : IsName (codes "portables")
portables_named = word (codes "portables") (omega arith) (omega arith) (λ dot. omega (arith, dot)) refl

-- the names of drop-ins are paths
pub profile_path : IsPath (codes "10-profile.conf" ∷ [])
profile_path = record { each = (word (codes "10-profile.conf") (omega arith) (omega arith) (λ dot. omega (arith, dot)) refl, tt); depth = omega arith; size = omega arith }

pub own_path : IsPath (codes "20-portable.conf" ∷ [])
own_path = record { each = (word (codes "20-portable.conf") (omega arith) (omega arith) (λ dot. omega (arith, dot)) refl, tt); depth = omega arith; size = omega arith }

-- the directories are paths
pub etc_units : IsPath (codes "etc" ∷ codes "systemd" ∷ codes "system.attached" ∷ [])
etc_units = record { each = (etc_named, (systemd_named, (attached_named, tt))); depth = omega arith; size = omega arith }

pub run_units : IsPath (codes "run" ∷ codes "systemd" ∷ codes "system.attached" ∷ [])
run_units = record { each = (run_named, (systemd_named, (attached_named, tt))); depth = omega arith; size = omega arith }

pub etc_images : IsPath (codes "etc" ∷ codes "portables" ∷ [])
etc_images = record { each = (etc_named, (portables_named, tt)); depth = omega arith; size = omega arith }

pub run_images : IsPath (codes "run" ∷ codes "portables" ∷ [])
run_images = record { each = (run_named, (portables_named, tt)); depth = omega arith; size = omega arith }

-- the last byte of a text
abbrev last_byte : List ℕ → ℕ
last_byte [] = 0
last_byte (b ∷ []) = b
last_byte (b ∷ c ∷ bytes) = last_byte (c ∷ bytes)

last_append : (xs : List ℕ) (y : ℕ) (ys : List ℕ) → last_byte (xs ++ y ∷ ys) ≡ last_byte (y ∷ ys)
last_append [] y ys = refl
last_append (x ∷ []) y ys = refl
last_append (x ∷ z ∷ xs) y ys = last_append (z ∷ xs) y ys

-- a text that ends in another one ends in its last byte
last_ends : (xs : List ℕ) (y : ℕ) (ys : List ℕ) → ends_with nat_eq xs (y ∷ ys) ≡ true → last_byte xs ≡ last_byte (y ∷ ys)
last_ends xs y ys ends =
    let is = (ends_is Decides-eqb xs (y ∷ ys) (ends_with nat_eq xs (y ∷ ys)) refl).0 ends in
    ap last_byte is ∙ last_append (take (length xs - length (y ∷ ys)) xs) y ys

drop_in_last : (n : List ℕ) → last_byte (drop_in_name n) ≡ 100
drop_in_last n = last_append n 46 (100 ∷ [])

ends_apart : (n : List ℕ) (y : ℕ) (ys : List ℕ) → last_byte (y ∷ ys) ≢ 100 → ends_with nat_eq (drop_in_name n) (y ∷ ys) ≡ false
ends_apart n y ys apart = false_from_ne_true _ (λ ends. apart (sym (last_ends (drop_in_name n) y ys ends) ∙ drop_in_last n))

-- the directory of a unit's drop-ins has the name of no unit
pub no_unit : (n : List ℕ) → has_unit_suffix (drop_in_name n) ≡ false
no_unit n =
    or_from _ _ (or_from _ _ (or_from _ _ (or_from _ _
    (ends_apart n 46 (codes "service") (λ e. omega (arith, e)))
    (ends_apart n 46 (codes "socket") (λ e. omega (arith, e))))
    (ends_apart n 46 (codes "target") (λ e. omega (arith, e))))
    (ends_apart n 46 (codes "timer") (λ e. omega (arith, e))))
    (ends_apart n 46 (codes "path") (λ e. omega (arith, e)))

-- so a unit has another name
pub unit_apart : (u n : List ℕ) → has_unit_suffix u ≡ true → u ≢ drop_in_name n
unit_apart u n unit same = true≢false (sym unit ∙ ap has_unit_suffix same ∙ no_unit n)
