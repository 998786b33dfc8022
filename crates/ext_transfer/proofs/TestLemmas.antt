-- The rules of names, of the texts of paths and of versions, as tests.
use Rattle.std.proofs.Common.{◌≡◌, ◌≢◌, ℕ, ◌<◌, ◌≤◌, Bool, true, false, not, ◌&&◌, cond, eqb, leb, List, [], ◌∷◌, length, Some, None, Err, Decides, codes, refl, sym, ap, ◌∙◌, arith}
use Rattle.std.specs.Char.{is_ascii_alphanumeric}
use Rattle.std.specs.List.{AllByRecursion, list_all, list_any}
use Rattle.std.specs.Str.{bytes_eq, is_utf8}
use Rattle.std.proofs.lemmas.Bool.{and_from, and_left, and_parts, and_right, both_ways, eqb-false, false_from_ne_true, le-leb, leb-true, lt-leb, ne_eqb, not-true, not_from_false}
use Rattle.std.proofs.lemmas.List.Sums.{AllPass-from_list_all, list_all-from_AllPass}
use Rattle.std.proofs.lemmas.Slice.Eq.{bytes_eq-Decides}
use Rattle.std.proofs.lemmas.Str.{IsUtf8-from_is_utf8, is_utf8-from_IsUtf8}
use Rattle.ext_text.specs.Name.{IsName, is_name_byte}
use Rattle.ext_text.specs.Path.{IsPath, ReadsPath, path_parts, path_text}
use Rattle.ext_text.specs.declared.path.PathErr.{PathErr}
use Rattle.ext_text.specs.declared.path.PathErr.TheVariants.{OutOfMemory, TooLong, TooDeep, BadName}
use Rattle.ext_vers.specs.Version.{IsVersion, is_version_byte}
use Rattle.ext_transfer.specs.declared.err.TransferFault.{TransferFault}
use Rattle.ext_transfer.specs.Fault.{GivesOrFaults, or_fault}
use Rattle.ext_transfer.specs.Paths.{is_name_text, is_path_text, path_fault, path_read}
use Rattle.ext_transfer.specs.Versions.{is_version_text}

-- texts that differ, as a test
differ : (xs ys : List ℕ) → xs ≢ ys → not (bytes_eq xs ys) ≡ true
differ xs ys other = not_from_false (bytes_eq xs ys) (false_from_ne_true (bytes_eq xs ys) (λ e. other ((bytes_eq-Decides xs ys).0 e)))

differs : (xs ys : List ℕ) → not (bytes_eq xs ys) ≡ true → xs ≢ ys
differs xs ys is same = both_ways (bytes_eq xs ys) (not-true (bytes_eq xs ys) is) ((bytes_eq-Decides xs ys).1 same)

-- a text that is not empty, as a test
some : (xs : List ℕ) → 0 < length xs → not (eqb (length xs) 0) ≡ true
some xs h = not_from_false (eqb (length xs) 0) (ne_eqb (length xs) 0 (λ e. omega arith))

is_some_text : (xs : List ℕ) → not (eqb (length xs) 0) ≡ true → 0 < length xs
is_some_text xs is = let none = eqb-false (length xs) 0 (not-true (eqb (length xs) 0) is) in omega (arith, none)

-- a name passes the test
pub name_passes : (t : List ℕ) → IsName t → is_name_text t ≡ true
name_passes t name =
    let a = not (eqb (length t) 0) in
    let b = leb (length t) 255 in
    let c = not (bytes_eq t (codes ".")) in
    let d = not (bytes_eq t (codes "..")) in
    let e = list_all is_name_byte t in
    let first : (a && b) ≡ true = and_from a b (some t name.non_empty) (le-leb (length t) 255 name.at_most_255) in
    let second : (a && b && c && d) ≡ true = and_from (a && b && c) d (and_from (a && b) c first (differ t (codes ".") name.not_dot)) (differ t (codes "..") name.not_dot_dot) in
    and_from (a && b && c && d && e) (is_utf8 t)
    (and_from (a && b && c && d) e second (list_all-from_AllPass is_name_byte t name.plain)) (is_utf8-from_IsUtf8 t name.utf8)

-- what passes the test is a name
pub passes_name : (t : List ℕ) → is_name_text t ≡ true → IsName t
passes_name t is =
    let a = not (eqb (length t) 0) in
    let b = leb (length t) 255 in
    let c = not (bytes_eq t (codes ".")) in
    let d = not (bytes_eq t (codes "..")) in
    let e = list_all is_name_byte t in
    let utf = and_parts (a && b && c && d && e) (is_utf8 t) is in
    let plain = and_parts (a && b && c && d) e utf.0 in
    let dots = and_parts (a && b && c) d plain.0 in
    let dot = and_parts (a && b) c dots.0 in
    let size = and_parts a b dot.0 in
    record {
      non_empty = is_some_text t size.0;
      at_most_255 = leb-true (length t) 255 size.1;
      not_dot = differs t (codes ".") dot.1;
      not_dot_dot = differs t (codes "..") dots.1;
      plain = AllPass-from_list_all is_name_byte t plain.1;
      utf8 = IsUtf8-from_is_utf8 t utf.1;
    }

-- names pass the test, and what passes it are names
pub names_pass : (ts : List (List ℕ)) → AllByRecursion IsName ts → list_all is_name_text ts ≡ true
names_pass [] all = refl
names_pass (t ∷ ts) all = and_from (is_name_text t) (list_all is_name_text ts) (name_passes t all.0) (names_pass ts all.1)

pub pass_names : (ts : List (List ℕ)) → list_all is_name_text ts ≡ true → AllByRecursion IsName ts
pass_names [] is = tt
pass_names (t ∷ ts) is =
    let parts = and_parts (is_name_text t) (list_all is_name_text ts) is in
    (passes_name t parts.0, pass_names ts parts.1)

-- the version test decides the rule of versions
pub version_test : (t : List ℕ) → Decides (is_version_text t) (IsVersion t)
version_test t =
    let a = not (eqb (length t) 0) in
    let b = leb (length t) 128 in
    let c = list_all is_version_byte t in
    let d = list_any is_ascii_alphanumeric t in (
      λ is.
          let last = and_parts (a && b && c) d is in
          let bytes = and_parts (a && b) c last.0 in
          let size = and_parts a b bytes.0 in
          record {
            non_empty = is_some_text t size.0;
            at_most_128 = leb-true (length t) 128 size.1;
            allowed = AllPass-from_list_all is_version_byte t bytes.1;
            letter_or_digit = last.1;
          },
      λ version.
          let size = and_from a b (some t version.non_empty) (le-leb (length t) 128 version.at_most_128) in
          and_from (a && b && c) d (and_from (a && b) c size (list_all-from_AllPass is_version_byte t version.allowed)) version.letter_or_digit,
    )

-- the text of a path is read
pub path_passes : (t : List ℕ) (p : List (List ℕ)) → IsPath p → p ≡ path_parts t → path_text p ≡ t → path_read t ≡ Some p
path_passes t p is same text =
    let a = leb (length t) 4096 in
    let b = leb (length (path_parts t)) 64 in
    let c = list_all is_name_text (path_parts t) in
    let few : length (path_parts t) ≤ 64 = omega (arith, is.depth, ap length same) in
    let short : length t ≤ 4096 = omega (arith, is.size, ap length text) in
    let names : c ≡ true = ap (list_all is_name_text) (sym same) ∙ names_pass p is.each in
    let all : (a && b && c) ≡ true = and_from (a && b) c (and_from a b (le-leb (length t) 4096 short) (le-leb (length (path_parts t)) 64 few)) names in
    ap (λ (x : Bool). cond x (Some (path_parts t)) None) all ∙ ap Some (sym same)

unread_by : (t : List ℕ) → is_path_text t ≡ false → path_read t ≡ None
unread_by t is = ap (λ (x : Bool). cond x (Some (path_parts t)) None) is

-- a text that is refused is not read
pub path_refused : (t : List ℕ) (e : PathErr) (line : ℕ) (why : TransferFault) → ReadsPath t (Err e) → GivesOrFaults {X = List (List ℕ)} (Err (path_fault e line why)) (or_fault (path_read t) line why)
path_refused t OutOfMemory line why reads = tt
path_refused t TooLong line why reads =
    ap (λ o. or_fault o line why) (unread_by t (and_left (leb (length t) 4096 && leb (length (path_parts t)) 64) (list_all is_name_text (path_parts t)) (and_left (leb (length t) 4096) (leb (length (path_parts t)) 64) (lt-leb (length t) 4096 reads))))
path_refused t TooDeep line why reads =
    ap (λ o. or_fault o line why) (unread_by t (and_left (leb (length t) 4096 && leb (length (path_parts t)) 64) (list_all is_name_text (path_parts t)) (and_right (leb (length t) 4096) (leb (length (path_parts t)) 64) (lt-leb (length (path_parts t)) 64 reads.1))))
path_refused t BadName line why reads =
    ap (λ o. or_fault o line why) (unread_by t (and_right (leb (length t) 4096 && leb (length (path_parts t)) 64) (list_all is_name_text (path_parts t)) (false_from_ne_true (list_all is_name_text (path_parts t)) (λ is. reads.2 (pass_names (path_parts t) is)))))
