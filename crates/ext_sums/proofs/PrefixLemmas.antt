-- What names begin with, and their order by what follows.
use Rattle.std.proofs.Common.{◌≡◌, ℕ, ◌+◌, ◌<◌, ◌≤◌, List, [], ◌∷◌, ◌++◌, length, take, drop, get_or, refl, sym, ap, subst, ◌∙◌, append_assoc}
use Rattle.std.specs.Cmp.{nat_cmp_total, tied_itself}
use Rattle.std.specs.Ordering.{ordering_then}
use Rattle.std.proofs.lemmas.List.{drop_at, take-append-drop, take_all, take_more}
use Rattle.std.proofs.lemmas.List.Elements.{All-push, All-weaker}
use Rattle.ext_lines.specs.ByteOrder.{bytes_cmp}
use Rattle.ext_lines.specs.Prefix.{IsPrefix}
use Rattle.ext_sums.specs.declared.merging.Numbered.{Numbered}
use Rattle.ext_sums.specs.Merging.{BeginWith}

-- a prefix of a prefix is one of the whole
prefix_of_prefix : (new old text : List ℕ) → IsPrefix new old → IsPrefix old text → IsPrefix new text
prefix_of_prefix new old text (x, is) (y, whole) = (x ++ y, whole ∙ ap (λ (t : List ℕ). t ++ y) is ∙ append_assoc new x y)

-- equal first bytes are a prefix of both
pub prefix_of_second : (a b front : List ℕ) (count : ℕ) → front ≡ take count a → take count a ≡ take count b → IsPrefix front b
prefix_of_second a b front count is same = (drop count b, sym (take-append-drop count b) ∙ ap (λ (t : List ℕ). t ++ drop count b) (sym (is ∙ same)))

-- one more name, where the prefix is one of the last prefix and of the name
pub begin_more : (new old : List ℕ) (ns : List Numbered) (n : Numbered) (i : ℕ) → i < length ns → get_or ns i n ≡ n → IsPrefix new old → IsPrefix new n.listed.name → BeginWith old (take i ns) → BeginWith new (take (i + 1) ns)
begin_more new old ns n i less is shorter here all =
    subst (BeginWith new) (sym (take_more ns i n less ∙ ap (λ m. take i ns ++ m ∷ []) is))
    (All-push (λ m. IsPrefix new m.listed.name) (take i ns) n
    (All-weaker (λ m. IsPrefix old m.listed.name) (λ m. IsPrefix new m.listed.name) (λ m. prefix_of_prefix new old m.listed.name shorter) (take i ns) all) here)

-- all names are seen
pub begin_all : (prefix : List ℕ) (ns : List Numbered) (i : ℕ) → length ns ≤ i → BeginWith prefix (take i ns) → BeginWith prefix ns
begin_all prefix ns i all = subst (BeginWith prefix) (take_all i ns all)

-- what follows equal bytes decides
cmp_past : (prefix x y : List ℕ) → bytes_cmp (prefix ++ x) (prefix ++ y) ≡ bytes_cmp x y
cmp_past [] x y = refl
cmp_past (b ∷ prefix) x y = ap (λ r. ordering_then r (bytes_cmp (prefix ++ x) (prefix ++ y))) (tied_itself nat_cmp_total b) ∙ cmp_past prefix x y

-- names that begin with the prefix are ordered as what follows it
pub same_order : (prefix a b : List ℕ) → IsPrefix prefix a → IsPrefix prefix b → bytes_cmp (drop (length prefix) a) (drop (length prefix) b) ≡ bytes_cmp a b
same_order prefix a b (x, first) (y, second) =
    ap (λ t. bytes_cmp t (drop (length prefix) b)) (ap (drop (length prefix)) first ∙ drop_at prefix x (length prefix) refl)
    ∙ ap (bytes_cmp x) (ap (drop (length prefix)) second ∙ drop_at prefix y (length prefix) refl)
    ∙ sym (cmp_past prefix x y) ∙ ap (λ t. bytes_cmp t (prefix ++ y)) (sym first) ∙ ap (bytes_cmp a) (sym second)
