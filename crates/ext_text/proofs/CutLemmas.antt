-- Where a text of names is cut at a slash, its names are those of both sides; what follows a prefix, and what stands
-- before a rest; and two texts joined.
use Rattle.std.proofs.Common.{◌≡◌, ℕ, zero, suc, ◌+◌, ◌-◌, ◌<◌, ◌≤◌, Bool, true, false, eqb, List, [], ◌∷◌, ◌++◌, length, take, drop, refl, sym, ap, subst, ◌∙◌, arith, append_assoc, length-append, add-one}
use Rattle.std.specs.Prelude.{nat_eq}
use Rattle.std.specs.Bool.{Decides}
use Rattle.std.specs.List.{AllByRecursion, count_by, onto_first, slice_split}
use Rattle.std.specs.Cmp.Lexicographic.{pointwise}
use Rattle.std.proofs.Math.ListN.{drop_of_length-le}
use Rattle.std.proofs.Math.Seq.{drop-append-add, take-append_seam}
use Rattle.std.proofs.lemmas.Bool.{false≢true}
use Rattle.std.proofs.lemmas.Bool.Decides.{Decides-eqb, same_from_decides}
use Rattle.std.proofs.lemmas.List.{append-nil, take-append-drop}
use Rattle.std.proofs.lemmas.List.Splits.{join_with_byte-slice_split, length-slice_split, slice_split-cons_no, slice_split-cons_yes}
use Rattle.std.proofs.lemmas.Slice.Eq.{slice_eq-Decides}
use Rattle.ext_lines.specs.Split.{IsSplit, Lacks}
use Rattle.ext_lines.proofs.ForCallers.{one_part}
use Rattle.ext_text.specs.Name.{IsName}
use Rattle.ext_text.specs.Path.{IsPath, is_prefix, path_text, path_parts}
use Rattle.ext_text.specs.PathText.{text_after, text_of_both, text_prefix}
use Rattle.ext_text.proofs.ListLemmas.{all_append, all_back, all_prefix}
use Rattle.ext_text.proofs.PathLemmas.{name_lacks, parts_some, parts_text, path_text_some}
use Rattle.ext_text.proofs.PrefixLemmas.{prefix_first, some_name}
use Rattle.ext_text.proofs.TextOrderLemmas.{texts_prefix}

-- the text of a text's parts is the text
pub text_of_parts : (text : List ℕ) → path_text (path_parts text) ≡ text
text_of_parts [] = refl
text_of_parts (b ∷ text) = join_with_byte-slice_split 47 (b ∷ text)

abbrev slash : ℕ → Bool
slash b = eqb b 47

onto_first-append : (x : ℕ) (xs ys : List (List ℕ)) → 0 < length xs → onto_first x (xs ++ ys) ≡ onto_first x xs ++ ys
onto_first-append x [] ys some = absurd (omega arith)
onto_first-append x (part ∷ xs) ys some = refl

-- the parts of two texts with a slash between are the parts of both
pub split_append : (xs ys : List ℕ) → slice_split slash (xs ++ 47 ∷ ys) ≡ slice_split slash xs ++ slice_split slash ys
split_append [] ys = refl
split_append (x ∷ xs) ys =
    elim (slash x) as (λ t. slash x ≡ t → slice_split slash (x ∷ (xs ++ 47 ∷ ys)) ≡ slice_split slash (x ∷ xs) ++ slice_split slash ys) [
      | true ↦ λ is.
          slice_split-cons_yes slash x (xs ++ 47 ∷ ys) is
          ∙ ap (λ (l : List (List ℕ)). [] ∷ l) (split_append xs ys)
          ∙ ap (λ (l : List (List ℕ)). l ++ slice_split slash ys) (sym (slice_split-cons_yes slash x xs is))
      | false ↦ λ is.
          slice_split-cons_no slash x (xs ++ 47 ∷ ys) is
          ∙ ap (onto_first x) (split_append xs ys)
          ∙ onto_first-append x (slice_split slash xs) (slice_split slash ys) (omega (arith, length-slice_split slash xs))
          ∙ ap (λ (l : List (List ℕ)). l ++ slice_split slash ys) (sym (slice_split-cons_no slash x xs is))
    ] refl

-- text that has a name for each part is not empty
parts_of_names : (text : List ℕ) → AllByRecursion IsName (slice_split slash text) → path_parts text ≡ slice_split slash text
parts_of_names [] all = absurd (omega (arith, all.0.non_empty))
parts_of_names (b ∷ text) all = refl

-- a text that is cut at a slash: its names are those of the front and those of the back
pub record IsCut (text front back : List ℕ) : Type 0 where
  pub names : path_parts text ≡ path_parts front ++ path_parts back
  pub upper : AllByRecursion IsName (path_parts front)
  pub lower : AllByRecursion IsName (path_parts back)
  pub parts : path_parts front ≡ slice_split slash front
  pub rest : path_parts back ≡ slice_split slash back

some_parts : (front back : List ℕ) → path_parts (front ++ 47 ∷ back) ≡ slice_split slash (front ++ 47 ∷ back)
some_parts front back = parts_some (front ++ 47 ∷ back) (omega (arith, length-append front (47 ∷ back)))

pub cut_at_slash : (front back : List ℕ) → AllByRecursion IsName (path_parts (front ++ 47 ∷ back)) → IsCut (front ++ 47 ∷ back) front back
cut_at_slash front back all =
    let both : AllByRecursion IsName (slice_split slash front ++ slice_split slash back) = rw (some_parts front back, split_append front back) at all in
    let upper = all_prefix IsName (slice_split slash front) (slice_split slash back) both in
    let lower = all_back IsName (slice_split slash front) (slice_split slash back) both in
    let parts : path_parts front ≡ slice_split slash front = parts_of_names front upper in
    let rest : path_parts back ≡ slice_split slash back = parts_of_names back lower in
    record {
      names = some_parts front back ∙ split_append front back ∙ (λ i. (sym parts) i ++ (sym rest) i);
      upper = subst (AllByRecursion IsName) (sym parts) upper;
      lower = subst (AllByRecursion IsName) (sym rest) lower;
      parts = parts;
      rest = rest;
    }

-- the same of a text that is such
pub cut_of : (text front back : List ℕ) → text ≡ front ++ 47 ∷ back → AllByRecursion IsName (path_parts text) → IsCut text front back
cut_of text front back is all =
    subst (λ (t : List ℕ). IsCut t front back) (sym is) (cut_at_slash front back (subst (λ (t : List ℕ). AllByRecursion IsName (path_parts t)) is all))

-- a text of one name
pub one_name : (text : List ℕ) → 0 < length text → Lacks 47 text → path_parts text ≡ text ∷ []
one_name text some lacks = parts_some text some ∙ one_part 47 text lacks

-- the text of names below others
text_both : (n : List ℕ) (p : List (List ℕ)) (m : List ℕ) (q : List (List ℕ)) → path_text ((n ∷ p) ++ (m ∷ q)) ≡ path_text (n ∷ p) ++ 47 ∷ path_text (m ∷ q)
text_both n [] m q = refl
text_both n (k ∷ p) m q =
    ap (λ (t : List ℕ). n ++ 47 ∷ t) (text_both k p m q) ∙ sym (append_assoc n (47 ∷ path_text (k ∷ p)) (47 ∷ path_text (m ∷ q)))

both_some : (upper lower : List ℕ) → 0 < length upper → 0 < length lower → text_of_both upper lower ≡ upper ++ 47 ∷ lower
both_some [] lower some more = absurd (omega arith)
both_some (b ∷ upper) [] some more = absurd (omega arith)
both_some (b ∷ upper) (c ∷ lower) some more = refl

below_root : (upper : List ℕ) → text_of_both upper [] ≡ upper
below_root [] = refl
below_root (b ∷ upper) = refl

-- the text of both lists of names, one below the other
pub text_of_names : (p q : List (List ℕ)) → AllByRecursion IsName p → AllByRecursion IsName q → text_of_both (path_text p) (path_text q) ≡ path_text (p ++ q)
text_of_names [] q ip iq = refl
text_of_names (n ∷ p) [] ip iq =
    below_root (path_text (n ∷ p)) ∙ ap path_text (sym (append-nil (n ∷ p)))
text_of_names (n ∷ p) (m ∷ q) ip iq =
    both_some (path_text (n ∷ p)) (path_text (m ∷ q)) (path_text_some (n ∷ p) ip (omega arith)) (path_text_some (m ∷ q) iq (omega arith))
    ∙ sym (text_both n p m q)

-- a name is the only one of its text
pub name_parts : (name bytes : List ℕ) → bytes ≡ name → IsName name → path_parts bytes ≡ name ∷ []
name_parts name bytes same is = ap path_parts same ∙ one_name name is.non_empty (name_lacks name is)

empty_not : (text : List ℕ) → false ≡ eqb (length text) 0 → 0 < length text
empty_not [] e = absurd (false≢true e)
empty_not (b ∷ text) e = omega arith

-- a text without a slash is its only name
pub only_name : (text : List ℕ) (p : List (List ℕ)) → path_parts text ≡ p → AllByRecursion IsName p → false ≡ eqb (length text) 0 → Lacks 47 text → (p ≡ text ∷ []) × IsName text
only_name text p are all some lacks =
    let one : p ≡ text ∷ [] = sym are ∙ one_name text (empty_not text some) lacks in
    (one, (subst (AllByRecursion IsName) one all).0)

-- a text that is split at its first slash: the first name, and the text of the others
pub first_of : (text first rest : List ℕ) (p : List (List ℕ)) → path_parts text ≡ p → AllByRecursion IsName p → IsSplit 47 text first rest → (p ≡ first ∷ path_parts rest) × IsName first × AllByRecursion IsName (path_parts rest)
first_of text first rest p are all split =
    let cut = cut_of text first rest split.whole (subst (AllByRecursion IsName) (sym are) all) in
    let one : path_parts first ≡ first ∷ [] = cut.parts ∙ one_part 47 first split.prefix_lacks in
    (sym are ∙ cut.names ∙ ap (λ (l : List (List ℕ)). l ++ path_parts rest) one, (subst (AllByRecursion IsName) one cut.upper).0, cut.lower)

-- a text that is split at its last slash: the text of the names above, and the last one
pub last_of : (text above last : List ℕ) (p : List (List ℕ)) → path_parts text ≡ p → AllByRecursion IsName p → text ≡ above ++ 47 ∷ last → Lacks 47 last → (p ≡ path_parts above ++ last ∷ []) × IsName last × AllByRecursion IsName (path_parts above)
last_of text above last p are all whole lacks =
    let cut = cut_of text above last whole (subst (AllByRecursion IsName) (sym are) all) in
    let one : path_parts last ≡ last ∷ [] = cut.rest ∙ one_part 47 last lacks in
    (sym are ∙ cut.names ∙ ap (λ (l : List (List ℕ)). path_parts above ++ l) one, (subst (AllByRecursion IsName) one cut.lower).0, cut.upper)

after_text : (upper : List ℕ) (lower : List ℕ) → 0 < length upper → text_after upper (text_of_both upper lower) ≡ lower
after_text [] lower some = absurd (omega arith)
after_text (b ∷ upper) [] some = drop_of_length-le (b ∷ upper) (omega arith)
after_text (b ∷ upper) (c ∷ lower) some = drop-append-add (b ∷ upper) (47 ∷ c ∷ lower) 1

-- what follows a path's text in that of a path below it is the text of the rest
pub text_after_names : (p r : List (List ℕ)) → AllByRecursion IsName p → AllByRecursion IsName r → text_after (path_text p) (path_text (p ++ r)) ≡ path_text r
text_after_names [] r ip ir = refl
text_after_names (n ∷ p) r ip ir =
    ap (text_after (path_text (n ∷ p))) (sym (text_of_names (n ∷ p) r ip ir))
    ∙ after_text (path_text (n ∷ p)) (path_text r) (path_text_some (n ∷ p) ip (omega arith))

-- where a text begins with another, and what follows: the names of the one are those of the other and of what follows
pub after_is : (p q : List (List ℕ)) (prefix text rest : List ℕ) → AllByRecursion IsName p → AllByRecursion IsName q → prefix ≡ path_text p → text ≡ path_text q → text_prefix prefix text ≡ true → rest ≡ text_after prefix text → (q ≡ p ++ path_parts rest) × AllByRecursion IsName (path_parts rest)
after_is p q prefix text rest ip iq pt qt begins is =
    let names : is_prefix p q ≡ true = sym (texts_prefix p q ip iq) ∙ (λ i. text_prefix ((sym pt) i) ((sym qt) i)) ∙ begins in
    let r : List (List ℕ) = drop (length p) q in
    let whole : q ≡ p ++ r = sym (take-append-drop (length p) q) ∙ ap (λ (l : List (List ℕ)). l ++ r) (sym ((prefix_first p q).0 names)) in
    let ir : AllByRecursion IsName r = all_back IsName p r (subst (AllByRecursion IsName) whole iq) in
    let same : rest ≡ path_text r = is ∙ (λ i. text_after (pt i) (qt i)) ∙ ap (λ (l : List (List ℕ)). text_after (path_text p) (path_text l)) whole ∙ text_after_names p r ip ir in
    let parts : path_parts rest ≡ r = ap path_parts same ∙ parts_text r ir in
    (whole ∙ ap (λ (l : List (List ℕ)). p ++ l) (sym parts), subst (AllByRecursion IsName) (sym parts) ir)

-- the text of the first names, a slash, and the text of the others
text_at : (k : ℕ) (p : List (List ℕ)) → AllByRecursion IsName p → 0 < k → (drop k p ≡ [] → ⊥) → path_text p ≡ path_text (take k p) ++ 47 ∷ path_text (drop k p)
text_at zero p ip some more = absurd (omega arith)
text_at (suc k) [] ip some more = absurd (more refl)
text_at (suc k) (n ∷ p) ip some more =
    let whole : take k p ++ drop k p ≡ p = take-append-drop k p in
    let all = subst (AllByRecursion IsName) (sym whole) ip.1 in
    let upper = all_prefix IsName (take k p) (drop k p) all in
    let lower = all_back IsName (take k p) (drop k p) all in
    ap (λ (l : List (List ℕ)). path_text (n ∷ l)) (sym whole)
    ∙ sym (text_of_names (n ∷ take k p) (drop k p) (ip.0, upper) lower)
    ∙ both_some (path_text (n ∷ take k p)) (path_text (drop k p)) (path_text_some (n ∷ take k p) (ip.0, upper) (omega arith)) (path_text_some (drop k p) lower (some_name (drop k p) more))

-- what stands before the text of the others is the text of the first names
pub cut_before : (k : ℕ) (p below : List (List ℕ)) (text rest : List ℕ) → AllByRecursion IsName p → text ≡ path_text p → rest ≡ path_text below → below ≡ drop k p → 0 < k → (below ≡ [] → ⊥)
    → (length rest < length text) × (path_parts (take (length text - (length rest + 1)) text) ≡ take k p) × AllByRecursion IsName (path_parts (take (length text - (length rest + 1)) text))
cut_before k p below text rest ip pt bt is some more =
    let upper : List ℕ = path_text (take k p) in
    let names : AllByRecursion IsName (take k p) = all_prefix IsName (take k p) (drop k p) (subst (AllByRecursion IsName) (sym (take-append-drop k p)) ip) in
    let whole : text ≡ upper ++ 47 ∷ rest =
    pt ∙ text_at k p ip some (λ none. more (is ∙ none)) ∙ ap (λ (t : List ℕ). upper ++ 47 ∷ t) (sym (bt ∙ ap path_text is)) in
    let long : length text ≡ length upper + (length rest + 1) = ap length whole ∙ length-append upper (47 ∷ rest) ∙ omega arith in
    let count : length text - (length rest + 1) ≡ length upper = omega arith in
    let cut : take (length text - (length rest + 1)) text ≡ upper = (λ i. take (count i) (whole i)) ∙ take-append_seam upper (47 ∷ rest) in
    let parts : path_parts (take (length text - (length rest + 1)) text) ≡ take k p = ap path_parts cut ∙ parts_text (take k p) names in
    (omega arith, parts, subst (AllByRecursion IsName) (sym parts) names)

-- the names after one more
pub drop_step : (i : ℕ) (p : List (List ℕ)) → drop 1 (drop i p) ≡ drop (suc i) p
drop_step zero p = refl
drop_step (suc i) [] = refl
drop_step (suc i) (n ∷ p) = drop_step i p

pub rest_step : (p rest below : List (List ℕ)) (first : List ℕ) (i : ℕ) → rest ≡ drop i p → rest ≡ first ∷ below → below ≡ drop (i + 1) p
rest_step p rest below first i is split = rw add-one (ap (drop 1) (sym split ∙ is) ∙ drop_step i p)

-- how many names there are
pub depth_is : (text : List ℕ) (p : List (List ℕ)) (n : ℕ) → path_parts text ≡ p → (p ≡ [] → ⊥) → n ≡ count_by (λ b. eqb b 47) text → n + 1 ≡ length p
depth_is [] p n are some is = absurd (some (sym are))
depth_is (b ∷ text) p n are some is = ap (λ (m : ℕ). m + 1) is ∙ sym (length-slice_split slash (b ∷ text)) ∙ ap length are

pub deep_parts : (text : List ℕ) (n : ℕ) → n ≡ count_by (λ b. eqb b 47) text + 1 → 64 < n → 64 < length (path_parts text)
deep_parts [] n is deep = absurd (omega arith)
deep_parts (b ∷ text) n is deep = omega (arith, length-slice_split slash (b ∷ text))

pub few_parts : (text : List ℕ) (n : ℕ) → n ≡ count_by (λ b. eqb b 47) text + 1 → n ≤ 64 → length (path_parts text) ≤ 64
few_parts [] n is few = omega arith
few_parts (b ∷ text) n is few = omega (arith, length-slice_split slash (b ∷ text))

-- the parts of a text within the limits, where each is a name
pub parts_path : (text : List ℕ) → length (path_parts text) ≤ 64 → length text ≤ 4096 → AllByRecursion IsName (path_parts text) → IsPath (path_parts text)
parts_path text few short each = record { each = each; depth = few; size = omega (arith, ap length (text_of_parts text)) }

-- texts are equal exactly where their names are
pub same_texts : (a b : List ℕ) (p q : List (List ℕ)) → path_parts a ≡ p → path_parts b ≡ q → pointwise nat_eq a b ≡ pointwise (pointwise nat_eq) p q
same_texts a b p q pa qb =
    let names : Decides (pointwise (pointwise nat_eq) p q) (p ≡ q) = slice_eq-Decides (λ n m. slice_eq-Decides Decides-eqb n m (pointwise nat_eq n m) refl) p q (pointwise (pointwise nat_eq) p q) refl in
    same_from_decides (pointwise nat_eq a b) (pointwise (pointwise nat_eq) p q)
    (slice_eq-Decides Decides-eqb a b (pointwise nat_eq a b) refl)
    (λ tied. sym (text_of_parts a) ∙ ap path_text (pa ∙ names.0 tied ∙ sym qb) ∙ text_of_parts b, λ same. names.1 (sym pa ∙ ap path_parts same ∙ qb))

-- the text of both is that of the names of both
pub joined_text : (p q : List (List ℕ)) (upper lower : List ℕ) → upper ≡ path_text p → lower ≡ path_text q → AllByRecursion IsName p → AllByRecursion IsName q → text_of_both upper lower ≡ path_text (p ++ q)
joined_text p q upper lower up low ip iq = (λ i. text_of_both (up i) (low i)) ∙ text_of_names p q ip iq

-- and its parts are these names
pub joined_parts : (p q : List (List ℕ)) (upper lower text : List ℕ) → upper ≡ path_text p → lower ≡ path_text q → AllByRecursion IsName p → AllByRecursion IsName q → text ≡ text_of_both upper lower → path_parts text ≡ p ++ q
joined_parts p q upper lower text up low ip iq is =
    ap path_parts (is ∙ joined_text p q upper lower up low ip iq) ∙ parts_text (p ++ q) (all_append IsName p q ip iq)

-- within the limits the names of both are a path
pub joined_path : (p q : List (List ℕ)) (upper lower : List ℕ) → upper ≡ path_text p → lower ≡ path_text q → AllByRecursion IsName p → AllByRecursion IsName q → length (text_of_both upper lower) ≤ 4096 → length p + length q ≤ 64 → IsPath (p ++ q)
joined_path p q upper lower up low ip iq short few = record {
  each = all_append IsName p q ip iq;
  depth = omega (arith, length-append p q);
  size = omega (arith, ap length (joined_text p q upper lower up low ip iq));
}
