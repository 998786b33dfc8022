-- Names of images and of units: their parts, and what they begin with.
use Rattle.std.proofs.Common.{◌≡◌, ℕ, suc, ◌<◌, Bool, cond, not, List, [], ◌∷◌, ◌++◌, length, take, drop, get_or, Some, None, refl, sym, ap, ◌∙◌, subst, arith, length-append}
use Rattle.std.specs.Prelude.{IsTrue}
use Rattle.std.specs.FinMap.{FinMap, get}
use Rattle.std.specs.List.{find}
use Rattle.std.specs.Option.{unwrap_or}
use Rattle.std.proofs.Math.Seq.{drop-cons, take-append_seam}
use Rattle.std.proofs.lemmas.List.{take-append-drop}
use Rattle.ext_lines.specs.ByteOrder.{bytes_cmp}
use Rattle.ext_lines.specs.Words.{words_of}
use Rattle.ext_lines.specs.Split.{IsSplit, Lacks}
use Rattle.ext_lines.proofs.ForCallers.{split_of-lacks, split_of-split}
use Rattle.ext_units.specs.ImageName.{first_or_whole, first_part, last_name}
use Rattle.ext_units.specs.Prefixes.{allows_by, first_forbidden, prefixes_key}
use Rattle.ext_units.specs.TextSet.{is_one_of}
use Rattle.ext_units.specs.Units.{HasPrefix, is_unit_separator}

-- the last name of names with one at their end
pub last_of : (names : List (List ℕ)) (name : List ℕ) → last_name (names ++ name ∷ []) ≡ name
last_of [] name = refl
last_of (n ∷ []) name = refl
last_of (n ∷ m ∷ names) name = last_of (m ∷ names) name

-- a name without a `_` is its own first part, and one that is split there has the part before it
pub whole_part : (name : List ℕ) → Lacks 95 name → name ≡ first_part name
whole_part name lacks = ap (first_or_whole name) (sym (split_of-lacks 95 name lacks))

pub split_part : (name part rest : List ℕ) → IsSplit 95 name part rest → part ≡ first_part name
split_part name part rest is = ap (first_or_whole name) (sym (split_of-split 95 name part rest is))

-- at the index a separator stands in the name, and what stands before it is one of the prefixes
abbrev pub begins_at : List (List ℕ) → List ℕ → ℕ → Type 0
begins_at prefixes name k = IsTrue (is_unit_separator (get_or name k 0)) × IsTrue (is_one_of prefixes (take k name))

-- then the name has a prefix
pub prefix_there : (prefixes : List (List ℕ)) (name : List ℕ) (k : ℕ) → k < length name → begins_at prefixes name k → HasPrefix prefixes name
prefix_there prefixes name k within at = record {
  prefix = take k name;
  among = at.1;
  separator = get_or name k 0;
  separates = at.0;
  rest = drop (suc k) name;
  whole = sym (take-append-drop k name) ∙ ap (λ l. take k name ++ l) (drop-cons name k 0 within);
}

separator_at : (prefix rest : List ℕ) (separator : ℕ) → get_or (prefix ++ separator ∷ rest) (length prefix) 0 ≡ separator
separator_at [] rest separator = refl
separator_at (b ∷ prefix) rest separator = separator_at prefix rest separator

-- and where it is so nowhere, it has none
pub prefix_nowhere : (prefixes : List (List ℕ)) (name : List ℕ) → ((k : ℕ) → k < length name → ¬ begins_at prefixes name k) → ¬ HasPrefix prefixes name
prefix_nowhere prefixes name nowhere has =
    let k = length has.prefix in
    let within : k < length name = let size = ap length has.whole ∙ length-append has.prefix (has.separator ∷ has.rest) in omega (arith, size) in
    nowhere k within (
      subst (λ b. IsTrue (is_unit_separator b)) (sym (ap (λ n. get_or n k 0) has.whole ∙ separator_at has.prefix has.rest has.separator)) has.separates,
      subst (λ p. IsTrue (is_one_of prefixes p)) (sym (ap (take k) has.whole ∙ take-append_seam has.prefix (has.separator ∷ has.rest))) has.among,
    )

-- where two tests agree they find the same
pub find_same : {X : Type 0} (p q : X → Bool) → ((x : X) → p x ≡ q x) → (xs : List X) → find p xs ≡ find q xs
find_same p q same [] = refl
find_same p q same (x ∷ xs) = λ i. cond (same x i) (Some x) (find_same p q same xs i)

none_forbidden : (prefixes : List (List ℕ)) → find (λ prefix. not (allows_by None prefix)) prefixes ≡ None
none_forbidden [] = refl
none_forbidden (p ∷ prefixes) = none_forbidden prefixes

-- an image without the key allows all prefixes, and one with it the words of its value
pub all_allowed : (release : FinMap bytes_cmp (List ℕ)) (prefixes : List (List ℕ)) → None ≡ get release prefixes_key → None ≡ first_forbidden release prefixes
all_allowed release prefixes unset =
    sym (none_forbidden prefixes) ∙ ap (λ value. find (λ prefix. not (allows_by value prefix)) prefixes) unset

pub words_allowed : (release : FinMap bytes_cmp (List ℕ)) (prefixes : List (List ℕ)) (value : List ℕ) (words : List (List ℕ)) → Some value ≡ get release prefixes_key → words ≡ words_of (unwrap_or (get release prefixes_key) []) → find (λ text. not (is_one_of words text)) prefixes ≡ first_forbidden release prefixes
words_allowed release prefixes value words set are =
    ap (λ ws. find (λ text. not (is_one_of ws text)) prefixes) (are ∙ ap (λ o. words_of (unwrap_or o [])) (sym set))
    ∙ ap (λ o. find (λ prefix. not (allows_by o prefix)) prefixes) set
