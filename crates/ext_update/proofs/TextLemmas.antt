-- The texts of links.
use Rattle.std.proofs.Common.{◌≡◌, ◌≢◌, ℕ, ◌<◌, true, ◌++◌, List, [], ◌∷◌, refl, sym, ap, append_assoc, ◌∙◌, subst, arith}
use Rattle.std.specs.Prelude.{IsUtf8, not, ◌==◌, IfOk, Result, Ok, Err, if◌then◌else◌}
use Rattle.std.specs.Ordering.{eq_by_cmp}
use Rattle.std.specs.List.{AllByRecursion, AllPass, flat_map}
use Rattle.std.proofs.lemmas.Bool.{and_parts}
use Rattle.std.proofs.lemmas.Grind.{flat_map-append}
use Rattle.std.proofs.lemmas.List.{append-nil}
use Rattle.std.proofs.lemmas.List.Elements.{All-append, All-cons, All-nil, All-weaker}
use Rattle.std.proofs.lemmas.Str.{IsUtf8-append, IsUtf8-from_ascii, IsUtf8-nil}
use Rattle.std.proofs.lemmas.Str.Ascii.{IsAscii-from_all}
use Rattle.ext_lines.specs.Plain.{is_plain_byte}
use Rattle.ext_text.specs.Absolute.{absolute}
use Rattle.ext_text.specs.Name.{IsName, is_name_byte}
use Rattle.ext_text.specs.Path.{parent, path_cmp, path_text}
use Rattle.ext_text.proofs.ForCallers.{all_append, path_text-cons}
use Rattle.ext_update.specs.Drafts.{IsLinkText}
use Rattle.ext_update.specs.Writing.{last_name, link_text}

-- the last name of a path with one name more
pub last_push : (path : List (List ℕ)) (name : List ℕ) → last_name (path ++ name ∷ []) ≡ name
last_push [] name = refl
last_push (n ∷ []) name = refl
last_push (n ∷ m ∷ path) name = last_push (m ∷ path) name

-- each name after a `/`
abbrev pub slashed : List (List ℕ) → List ℕ
slashed names = flat_map (λ n. 47 ∷ n) names

-- a path that isn't the root is written as its names, each after a `/`
absolute_slashed : (name : List ℕ) (names : List (List ℕ)) → absolute (name ∷ names) ≡ slashed (name ∷ names)
absolute_slashed name names = ap (λ bytes. 47 ∷ bytes) (path_text-cons name names)

slashed_push : (path : List (List ℕ)) (name : List ℕ) → slashed (path ++ name ∷ []) ≡ slashed path ++ 47 ∷ name
slashed_push path name =
    flat_map-append (λ (n : List ℕ). 47 ∷ n) path (name ∷ []) ∙ ap (λ (bytes : List ℕ). slashed path ++ bytes) (append-nil (47 ∷ name))

absolute_some : (path : List (List ℕ)) (name : List ℕ) → absolute (path ++ name ∷ []) ≡ slashed (path ++ name ∷ [])
absolute_some [] name = absolute_slashed name []
absolute_some (n ∷ path) name = absolute_slashed n (path ++ name ∷ [])

-- a name in the root, and in another directory, as it is written
pub absolute_root : (path : List (List ℕ)) (name : List ℕ) → path ≡ [] → absolute (path ++ name ∷ []) ≡ 47 ∷ name
absolute_root path name root =
    ap (λ (p : List (List ℕ)). absolute (p ++ name ∷ [])) root ∙ absolute_some [] name ∙ append-nil (47 ∷ name)

pub absolute_push : (path : List (List ℕ)) (name : List ℕ) → path ≢ [] → absolute (path ++ name ∷ []) ≡ (absolute path ++ 47 ∷ []) ++ name
absolute_push [] name below = absurd (below refl)
absolute_push (n ∷ path) name below =
    absolute_some (n ∷ path) name ∙ slashed_push (n ∷ path) name
    ∙ ap (λ (bytes : List ℕ). bytes ++ 47 ∷ name) (sym (absolute_slashed n path))
    ∙ sym (append_assoc (absolute (n ∷ path)) (47 ∷ []) name)

-- plain text
abbrev pub IsPlainText : List ℕ → Type 0
IsPlainText bytes = AllPass is_plain_byte bytes × IsUtf8 bytes

both_plain : (xs ys : List ℕ) → IsPlainText xs → IsPlainText ys → IsPlainText (xs ++ ys)
both_plain xs ys p q = (All-append (λ b. is_plain_byte b ≡ true) xs ys p.0 q.0, IsUtf8-append xs ys p.1 q.1)

slash_plain : IsPlainText (47 ∷ [])
slash_plain = (
  All-cons (λ b. is_plain_byte b ≡ true) 47 [] refl (All-nil (λ b. is_plain_byte b ≡ true)),
  IsUtf8-from_ascii (47 ∷ []) (IsAscii-from_all (47 ∷ []) (All-cons (λ b. b < 128) 47 [] (omega arith) (All-nil (λ b. b < 128)))),
)

name_plain : (name : List ℕ) → IsName name → IsPlainText name
name_plain name is = (
  All-weaker (λ b. is_name_byte b ≡ true) (λ b. is_plain_byte b ≡ true)
      (λ b plain. (and_parts (is_plain_byte b) (not (b == 47)) plain).0) name is.plain,
  is.utf8,
)

slashed_plain : (names : List (List ℕ)) → AllByRecursion IsName names → IsPlainText (slashed names)
slashed_plain [] all = (All-nil (λ b. is_plain_byte b ≡ true), IsUtf8-nil)
slashed_plain (n ∷ names) all =
    both_plain (47 ∷ n) (slashed names) (both_plain (47 ∷ []) n slash_plain (name_plain n all.0)) (slashed_plain names all.1)

-- a name is the text of a link, and so is a path that isn't the root, as it is written
pub name_text : (name : List ℕ) → IsName name → IsLinkText name
name_text name is = let plain = name_plain name is in record { non_empty = is.non_empty; plain = plain.0; utf8 = plain.1 }

pub path_text_of : (path : List (List ℕ)) (name : List ℕ) → AllByRecursion IsName path → IsName name → IsLinkText (absolute (path ++ name ∷ []))
path_text_of path name names is =
    let plain = subst IsPlainText (sym (absolute_some path name)) (slashed_plain (path ++ name ∷ []) (all_append IsName path (name ∷ []) names (is, tt))) in
    record { non_empty = omega arith; plain = plain.0; utf8 = plain.1 }

-- the text of a link beside what it names
pub beside_text : {E : Type 0} (target link at above : List (List ℕ)) (name : List ℕ) (result : Result (List ℕ) E)
    → eq_by_cmp path_cmp (parent link) target ≡ true → at ≡ above ++ name ∷ [] → IfOk result (λ text. text ≡ name)
    → IfOk result (λ text. text ≡ link_text target link at)
beside_text target link at above name (Ok text) beside is gives =
    gives ∙ sym (last_push above name) ∙ ap last_name (sym is)
    ∙ ap (λ b. if b then last_name at else absolute at) (sym beside)
beside_text target link at above name (Err e) beside is gives = tt

-- the bytes of a path as they are added, in the root and in another directory
pub root_bytes : (path : List (List ℕ)) (name text bytes : List ℕ) → path ≡ [] → text ≡ path_text path → bytes ≡ (47 ∷ []) ++ text
    → bytes ++ name ≡ absolute (path ++ name ∷ [])
root_bytes path name text bytes root is made =
    ap (λ (b : List ℕ). b ++ name) (made ∙ ap (λ (t : List ℕ). (47 ∷ []) ++ t) (is ∙ ap path_text root)) ∙ sym (absolute_root path name root)

pub below_bytes : (path : List (List ℕ)) (name text bytes more : List ℕ) → path ≢ [] → text ≡ path_text path → bytes ≡ (47 ∷ []) ++ text
    → more ≡ bytes ++ 47 ∷ [] → more ++ name ≡ absolute (path ++ name ∷ [])
below_bytes path name text bytes more below is made on =
    ap (λ (b : List ℕ). b ++ name) (on ∙ ap (λ (b : List ℕ). b ++ 47 ∷ []) (made ∙ ap (λ (t : List ℕ). (47 ∷ []) ++ t) is))
    ∙ sym (absolute_push path name below)
