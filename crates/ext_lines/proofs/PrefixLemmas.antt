-- Prefixes that were added at the end of a text.
use Rattle.std.proofs.Common.{◌≡◌, ℕ, List, [], ◌++◌, length, take, drop, refl, sym, ap, ◌∙◌, append_assoc}
use Rattle.std.proofs.lemmas.List.{append-nil, take_at, take-append-drop}
use Rattle.ext_lines.specs.Prefix.{AppendsPrefix, IsPrefix}

-- where nothing changed, the empty prefix was added
pub appends_nothing : (old new text : List ℕ) → new ≡ old → AppendsPrefix old new text
appends_nothing old new text same = ([], (text, refl), same ∙ sym (append-nil old))

-- a prefix of a text is one of the text and more
pub appends_more : (old new text more : List ℕ) → AppendsPrefix old new text → AppendsPrefix old new (text ++ more)
appends_more old new text more (prefix, (rest, whole), is) =
    (prefix, (rest ++ more, ap (λ (t : List ℕ). t ++ more) whole ∙ append_assoc prefix rest more), is)

-- after a text that was added whole, a prefix of the next one
pub appends_after : (old between new first text : List ℕ) → between ≡ old ++ first → AppendsPrefix between new text → AppendsPrefix old new (first ++ text)
appends_after old between new first text whole (prefix, (rest, parts), is) =
    (first ++ prefix, (rest, ap (λ (t : List ℕ). first ++ t) parts ∙ sym (append_assoc first prefix rest)), is ∙ ap (λ (t : List ℕ). t ++ prefix) whole ∙ append_assoc old first prefix)

-- as many first bytes as the prefix has are the prefix
pub prefix_taken : (prefix text : List ℕ) → IsPrefix prefix text → take (length prefix) text ≡ prefix
prefix_taken prefix text (rest, whole) = ap (take (length prefix)) whole ∙ take_at prefix rest (length prefix) refl

-- and where they are, the text begins with it
pub taken_prefix : (prefix text : List ℕ) → take (length prefix) text ≡ prefix → IsPrefix prefix text
taken_prefix prefix text taken =
    (drop (length prefix) text, sym (take-append-drop (length prefix) text) ∙ ap (λ (t : List ℕ). t ++ drop (length prefix) text) taken)
