-- The text of names and one more below them.
use Rattle.std.proofs.Common.{◌≡◌, ℕ, ◌<◌, List, [], ◌∷◌, ◌++◌, length, sym, ap, ◌∙◌, refl, subst, arith}
use Rattle.std.specs.List.{AllByRecursion}
use Rattle.std.proofs.lemmas.List.{append_assoc}
use Rattle.ext_text.specs.Name.{IsName}
use Rattle.ext_text.specs.Path.{path_parts, path_text}
use Rattle.ext_text.specs.PathText.{text_of_both}
use Rattle.ext_text.proofs.ForCallers.{all_append, name_parts, parts_text, text_of_names}

both_some : (upper : List ℕ) (name : List ℕ) → 0 < length upper → 0 < length name → text_of_both upper name ≡ upper ++ 47 ∷ name
both_some [] name some more = absurd (omega arith)
both_some (b ∷ upper) [] some more = absurd (omega arith)
both_some (b ∷ upper) (c ∷ name) some more = refl

-- below the root it is the name
pub parts_at_root : (p : List (List ℕ)) (upper name text : List ℕ) → upper ≡ path_text p → path_parts upper ≡ p → length upper ≡ 0 → IsName name → text ≡ name → path_parts text ≡ p ++ name ∷ []
parts_at_root p [] name text is parts none named same = name_parts name text same named ∙ ap (λ (q : List (List ℕ)). q ++ name ∷ []) parts
parts_at_root p (b ∷ upper) name text is parts none named same = absurd (omega arith)

-- and below other names the two with a slash between
pub parts_below : (p : List (List ℕ)) (upper name text : List ℕ) → upper ≡ path_text p → AllByRecursion IsName p → 0 < length upper → IsName name → text ≡ (upper ++ 47 ∷ []) ++ name → path_parts text ≡ p ++ name ∷ []
parts_below p upper name text is all some named same =
    let whole : text ≡ path_text (p ++ name ∷ []) =
    same ∙ append_assoc upper (47 ∷ []) name ∙ sym (both_some upper name some named.non_empty)
    ∙ ap (λ (u : List ℕ). text_of_both u name) is ∙ text_of_names p (name ∷ []) all (named, tt)
    in
    ap path_parts whole ∙ parts_text (p ++ name ∷ []) (all_append IsName p (name ∷ []) all (named, tt))

-- all of them are names
pub names_below : (p : List (List ℕ)) (name text : List ℕ) → AllByRecursion IsName p → IsName name → path_parts text ≡ p ++ name ∷ [] → AllByRecursion IsName (path_parts text)
names_below p name text all named is = subst (AllByRecursion IsName) (sym is) (all_append IsName p (name ∷ []) all (named, tt))
