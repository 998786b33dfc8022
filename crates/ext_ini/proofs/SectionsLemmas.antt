-- The settings of a key: the last one, and those since the last empty one.
use Rattle.std.proofs.Common.{◌≡◌, ℕ, ◌+◌, ◌-◌, Bool, true, false, List, [], ◌∷◌, ◌++◌, length, drop, map, cond, refl, sym, ap, ◌∙◌, inl, inr, arith, append_assoc, length-append, append-nil}
use Rattle.std.specs.Prelude.{None, Option, Some, not}
use Rattle.std.specs.List.{after_last, filter, last_or, prefix_len, suffix_len}
use Rattle.std.specs.Borrow.{Bor}
use Rattle.std.specs.Option.{is_some, option_copied, option_or}
use Rattle.std.specs.Str.{bytes_eq}
use Rattle.std.proofs.Math.Seq.{drop-length}
use Rattle.std.proofs.lemmas.Bool.{cases_Bool, true≢false}
use Rattle.std.proofs.lemmas.List.{drop-append-le, map-append, nil_from_length, reverse-append}
use Rattle.std.proofs.lemmas.List.Elements.{filter-append}
use Rattle.std.proofs.lemmas.List.Concat.{flat_map-append}
use Rattle.ext_ini.specs.declared.sections.Setting.{Setting}
use Rattle.ext_ini.specs.declared.sections.Assignment.{Assignment}
use Rattle.ext_ini.specs.declared.sections.Section.{Section}
use Rattle.ext_ini.specs.Sections.{gathered, gathered_one, is_reset, set_by, set_in, settings_of}

or_twice : {X : Type 0} (a : Option X) (x : X) (o : Option X) → option_or (option_or a (Some x)) o ≡ option_or a (Some x)
or_twice None x o = refl
or_twice (Some y) x o = refl

-- the last of a list, or else another
last_or-else : {X : Type 0} (o : Option X) (xs : List X) → last_or o xs ≡ option_or (last_or None xs) o
last_or-else o [] = refl
last_or-else o (x ∷ xs) =
    last_or-else (Some x) xs ∙ sym (or_twice (last_or None xs) x o) ∙ ap (λ a. option_or a o) (sym (last_or-else (Some x) xs))

last_or-both : {X : Type 0} (o : Option X) (xs ys : List X) → last_or o (xs ++ ys) ≡ last_or (last_or o xs) ys
last_or-both o [] ys = refl
last_or-both o (x ∷ xs) ys = last_or-both (Some x) xs ys

-- the last of two lists
last_or-append : {X : Type 0} (xs ys : List X) → last_or None (xs ++ ys) ≡ option_or (last_or None ys) (last_or None xs)
last_or-append xs ys = last_or-both None xs ys ∙ last_or-else (last_or None xs) ys

-- what the assignments before the last one set, and what that sets
set_in-append : (xs ys : List Assignment) (key : List ℕ) → set_in (xs ++ ys) key ≡ set_in xs key ++ set_in ys key
set_in-append xs ys key =
    ap (map (λ (a : Assignment). a.setting)) (filter-append (λ (a : Assignment). bytes_eq a.key key) xs ys)
    ∙ map-append (λ (a : Assignment). a.setting) (filter (λ (a : Assignment). bytes_eq a.key key) xs) (filter (λ (a : Assignment). bytes_eq a.key key) ys)

-- the last setting where assignments are split at the last one
last_assignment : (before : List Assignment) (a : Assignment) (key : List ℕ)
    → last_or None (set_in (before ++ a ∷ []) key) ≡ option_or (last_or None (set_in (a ∷ []) key)) (last_or None (set_in before key))
last_assignment before a key = ap (last_or None) (set_in-append before (a ∷ []) key) ∙ last_or-append (set_in before key) (set_in (a ∷ []) key)

-- an assignment of the key, the last of some, is the last setting
pub last_found : (xs before : List Assignment) (a : Assignment) (key : List ℕ) → xs ≡ before ++ a ∷ [] → bytes_eq a.key key ≡ true
    → last_or None (set_in xs key) ≡ Some a.setting
last_found xs before a key parted same =
    ap (λ t. last_or None (set_in t key)) parted ∙ last_assignment before a key
    ∙ ap (λ t. option_or (last_or None (map (λ (a : Assignment). a.setting) (cond t (a ∷ []) []))) (last_or None (set_in before key))) same

-- the last setting where sections are split at the last one
last_section : (before : List Section) (s : Section) (name key : List ℕ)
    → last_or None (settings_of (before ++ s ∷ []) name key) ≡ option_or (last_or None (set_by name key s)) (last_or None (settings_of before name key))
last_section before s name key =
    ap (last_or None) (flat_map-append (set_by name key) before (s ∷ []) ∙ ap (λ t. settings_of before name key ++ t) (append-nil (set_by name key s)))
    ∙ last_or-append (settings_of before name key) (set_by name key s)

-- a setting of the last of some sections is the last one
pub section_found : (xs before : List Section) (s : Section) (name key : List ℕ) (found : Option (Bor Setting)) → xs ≡ before ++ s ∷ []
    → option_copied found ≡ last_or None (set_by name key s) → is_some found ≡ true → option_copied found ≡ last_or None (settings_of xs name key)
section_found xs before s name key None parted is some = absurd (true≢false (sym some))
section_found xs before s name key (Some x) parted is some = sym (
    ap (λ t. last_or None (settings_of t name key)) parted ∙ last_section before s name key
    ∙ ap (λ t. option_or t (last_or None (settings_of before name key))) (sym is)
    )

-- where the last of some sections has none, the others have the last one
pub section_passed : (xs before : List Section) (s : Section) (name key : List ℕ) (found : Option (Bor Setting)) → xs ≡ before ++ s ∷ []
    → option_copied found ≡ last_or None (set_by name key s) → is_some found ≡ false → last_or None (settings_of before name key) ≡ last_or None (settings_of xs name key)
section_passed xs before s name key None parted is none = sym (
    ap (λ t. last_or None (settings_of t name key)) parted ∙ last_section before s name key
    ∙ ap (λ t. option_or t (last_or None (settings_of before name key))) (sym is)
    )
section_passed xs before s name key (Some x) parted is none = absurd (true≢false none)

-- settings one by one, of two lists
gathered-append : (so_far xs ys : List Setting) → gathered so_far (xs ++ ys) ≡ gathered (gathered so_far xs) ys
gathered-append so_far [] ys = refl
gathered-append so_far (x ∷ xs) ys = gathered-append (gathered_one so_far x) xs ys

-- the settings of a section, and then those of the others
pub gathered_section : (so_far next : List Setting) (xs after : List Section) (s : Section) (name key : List ℕ) → xs ≡ s ∷ after
    → next ≡ gathered so_far (set_by name key s) → gathered next (settings_of after name key) ≡ gathered so_far (settings_of xs name key)
gathered_section so_far next xs after s name key parted is =
    ap (λ t. gathered t (settings_of after name key)) is ∙ sym (gathered-append so_far (set_by name key s) (settings_of after name key))
    ∙ ap (λ t. gathered so_far (settings_of t name key)) (sym parted)

suffix_len-push : {X : Type 0} (p : X → Bool) (xs : List X) (x : X) → suffix_len p (xs ++ x ∷ []) ≡ cond (p x) (1 + suffix_len p xs) 0
suffix_len-push p xs x = ap (prefix_len p) (reverse-append xs (x ∷ []))

after_reset : (xs : List Setting) (x : Setting) → is_reset x ≡ true → after_last is_reset (xs ++ x ∷ []) ≡ []
after_reset xs x reset =
    let last : suffix_len (λ s. not (is_reset s)) (xs ++ x ∷ []) ≡ 0 = suffix_len-push (λ s. not (is_reset s)) xs x ∙ ap (λ t. cond (not t) (1 + suffix_len (λ s. not (is_reset s)) xs) 0) reset in
    let all : length (xs ++ x ∷ []) - 0 ≡ length (xs ++ x ∷ []) = omega arith in
    ap (λ n. drop (length (xs ++ x ∷ []) - n) (xs ++ x ∷ [])) last ∙ ap (λ n. drop n (xs ++ x ∷ [])) all ∙ drop-length (xs ++ x ∷ [])

after_value : (xs : List Setting) (x : Setting) → is_reset x ≡ false → after_last is_reset (xs ++ x ∷ []) ≡ after_last is_reset xs ++ x ∷ []
after_value xs x value =
    let n = suffix_len (λ s. not (is_reset s)) xs in
    let last : suffix_len (λ s. not (is_reset s)) (xs ++ x ∷ []) ≡ 1 + n = suffix_len-push (λ s. not (is_reset s)) xs x ∙ ap (λ t. cond (not t) (1 + n) 0) value in
    let left : length (xs ++ x ∷ []) - (1 + n) ≡ length xs - n = omega (arith, length-append xs (x ∷ [])) in
    ap (λ k. drop (length (xs ++ x ∷ []) - k) (xs ++ x ∷ [])) last ∙ ap (λ k. drop k (xs ++ x ∷ [])) left ∙ drop-append-le (length xs - n) xs (x ∷ []) (omega arith)

-- what stands after the last that passes, with one more: nothing where that passes
after_last-push : (xs : List Setting) (x : Setting) → gathered_one (after_last is_reset xs) x ≡ after_last is_reset (xs ++ x ∷ [])
after_last-push xs x =
    elim (cases_Bool (is_reset x)) [
      | inl reset ↦ ap (λ t. cond t [] (after_last is_reset xs ++ x ∷ [])) reset ∙ sym (after_reset xs x reset)
      | inr value ↦ ap (λ t. cond t [] (after_last is_reset xs ++ x ∷ [])) value ∙ sym (after_value xs x value)
    ]

-- settings one by one are those after the last empty one
gathered-after_last : (so_far xs : List Setting) → gathered (after_last is_reset so_far) xs ≡ after_last is_reset (so_far ++ xs)
gathered-after_last so_far [] = ap (after_last is_reset) (sym (append-nil so_far))
gathered-after_last so_far (x ∷ xs) =
    ap (λ t. gathered t xs) (after_last-push so_far x) ∙ gathered-after_last (so_far ++ x ∷ []) xs ∙ ap (after_last is_reset) (append_assoc so_far (x ∷ []) xs)

-- the settings at the end, where no section is left
pub all_gathered : (so_far all : List Setting) (rest : List Section) (name key : List ℕ) → length rest ≡ 0
    → gathered so_far (settings_of rest name key) ≡ gathered [] all → so_far ≡ after_last is_reset all
all_gathered so_far all rest name key left is =
    ap (λ t. gathered so_far (settings_of t name key)) (sym (nil_from_length rest left)) ∙ is ∙ gathered-after_last [] all
