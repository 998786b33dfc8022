-- The order of the texts of paths is the order of paths, and their prefixes are the prefixes of paths.
use Rattle.std.proofs.Common.{◌≡◌, ◌≢◌, ℕ, ◌-◌, ◌<◌, ◌≤◌, Bool, true, false, ◌&&◌, eqb, List, [], ◌∷◌, ◌++◌, length, take, drop, refl, sym, ap, ◌∙◌, arith}
use Rattle.std.specs.Prelude.{nat_eq}
use Rattle.std.specs.List.{AllByRecursion, AllPass}
use Rattle.std.specs.Cmp.{nat_cmp_is, tied_then, unsigned_ties}
use Rattle.std.specs.Cmp.Lexicographic.{pointwise}
use Rattle.std.specs.Ordering.{eq_by_cmp, nat_cmp, ordering_then}
use Rattle.std.specs.declared.cmp.Ordering.{Ordering}
use Rattle.std.specs.declared.cmp.Ordering.TheVariants.{Less, Equal, Greater}
use Rattle.std.proofs.Math.Bool.{and_assoc}
use Rattle.std.proofs.lemmas.Bool.{and_parts, both_ways, eq-eqb, leb-true, ne_eqb, not-true}
use Rattle.std.proofs.Math.Seq.{take-length}
use Rattle.std.proofs.lemmas.List.{append-nil, length-drop}
use Rattle.std.proofs.lemmas.List.Elements.{All-tail}
use Rattle.ext_lines.specs.ByteOrder.{bytes_cmp}
use Rattle.ext_text.specs.Name.{IsName, is_name_byte}
use Rattle.ext_text.specs.Path.{path_cmp, path_text, is_prefix}
use Rattle.ext_text.specs.PathText.{goes_on, is_border, rank, text_cmp, text_prefix}

-- a byte that stands above `/`
record IsHigh (b : ℕ) : Type 0 where
  positive : 0 < b
  no_slash : b ≢ 47

high_byte : (b : ℕ) → is_name_byte b ≡ true → IsHigh b
high_byte b is =
    let both = and_parts _ _ is in
    let low : 32 ≤ b = leb-true 32 b (and_parts _ _ both.0).0 in
    record { positive = omega arith; no_slash = λ e. both_ways (eqb b 47) (not-true _ both.1) (eq-eqb b 47 e) }

high_bytes : (bytes : List ℕ) → AllPass is_name_byte bytes → AllByRecursion IsHigh bytes
high_bytes [] all = tt
high_bytes (b ∷ bytes) all =
    (high_byte b (all 0 0 (omega arith)), high_bytes bytes (All-tail (λ x. is_name_byte x ≡ true) b bytes all))

high_name : (name : List ℕ) → IsName name → AllByRecursion IsHigh name
high_name name is = high_bytes name is.plain

no_slash_test : (b : ℕ) → IsHigh b → eqb b 47 ≡ false
no_slash_test b high = ne_eqb b 47 high.no_slash

slash_test : (b : ℕ) → IsHigh b → eqb 47 b ≡ false
slash_test b high = ne_eqb 47 b (λ e. high.no_slash (sym e))

rank_high : (b : ℕ) → IsHigh b → rank b ≡ b
rank_high b high = rw (no_slash_test b high) refl

-- the text of names below others
abbrev below : List (List ℕ) → List ℕ
below [] = []
below (n ∷ p) = 47 ∷ path_text (n ∷ p)

text_cons : (n : List ℕ) (p : List (List ℕ)) → path_text (n ∷ p) ≡ n ++ below p
text_cons n [] = sym (append-nil n)
text_cons n (m ∷ p) = refl

then_assoc : (r s t : Ordering) → ordering_then (ordering_then r s) t ≡ ordering_then r (ordering_then s t)
then_assoc Less s t = refl
then_assoc Equal s t = refl
then_assoc Greater s t = refl

slash_first : (b : ℕ) → IsHigh b → nat_cmp (rank 47) (rank b) ≡ Less
slash_first b high = ap (nat_cmp 0) (rank_high b high) ∙ sym (nat_cmp_is 0 b Less high.positive)

slash_last : (b : ℕ) → IsHigh b → nat_cmp (rank b) (rank 47) ≡ Greater
slash_last b high = ap (λ (r : ℕ). nat_cmp r 0) (rank_high b high) ∙ sym (nat_cmp_is b 0 Greater high.positive)

-- names are compared first
names_then : (n m : List ℕ) (p q : List (List ℕ)) → AllByRecursion IsHigh n → AllByRecursion IsHigh m
    → text_cmp (n ++ below p) (m ++ below q) ≡ ordering_then (bytes_cmp n m) (text_cmp (below p) (below q))
names_then [] [] p q hn hm = refl
names_then [] (b ∷ m) [] q hn hm = refl
names_then [] (b ∷ m) (k ∷ p) q hn hm =
    ap (λ (r : Ordering). ordering_then r (text_cmp (path_text (k ∷ p)) (m ++ below q))) (slash_first b hm.0)
names_then (a ∷ n) [] p [] hn hm = refl
names_then (a ∷ n) [] p (l ∷ q) hn hm =
    ap (λ (r : Ordering). ordering_then r (text_cmp (n ++ below p) (path_text (l ∷ q)))) (slash_last a hn.0)
names_then (a ∷ n) (b ∷ m) p q hn hm =
    (λ i. ordering_then (nat_cmp (rank_high a hn.0 i) (rank_high b hm.0 i)) (names_then n m p q hn.1 hm.1 i))
    ∙ sym (then_assoc (nat_cmp a b) (bytes_cmp n m) (text_cmp (below p) (below q)))

below_cmp : (p q : List (List ℕ)) → text_cmp (path_text p) (path_text q) ≡ path_cmp p q → text_cmp (below p) (below q) ≡ path_cmp p q
below_cmp [] [] is = refl
below_cmp [] (m ∷ q) is = refl
below_cmp (n ∷ p) [] is = refl
below_cmp (n ∷ p) (m ∷ q) is = is

some_text : (n : List ℕ) (p : List (List ℕ)) → IsName n → text_cmp [] (n ++ below p) ≡ Less
some_text [] p is = absurd (omega (arith, is.non_empty))
some_text (b ∷ n) p is = refl

text_some : (n : List ℕ) (p : List (List ℕ)) → IsName n → text_cmp (n ++ below p) [] ≡ Greater
text_some [] p is = absurd (omega (arith, is.non_empty))
text_some (b ∷ n) p is = refl

-- the order of texts is the order of paths
pub texts_cmp : (p q : List (List ℕ)) → AllByRecursion IsName p → AllByRecursion IsName q → text_cmp (path_text p) (path_text q) ≡ path_cmp p q
texts_cmp [] [] ip iq = refl
texts_cmp [] (m ∷ q) ip iq = ap (text_cmp []) (text_cons m q) ∙ some_text m q iq.0
texts_cmp (n ∷ p) [] ip iq = ap (λ (t : List ℕ). text_cmp t []) (text_cons n p) ∙ text_some n p ip.0
texts_cmp (n ∷ p) (m ∷ q) ip iq =
    (λ i. text_cmp (text_cons n p i) (text_cons m q i))
    ∙ names_then n m p q (high_name n ip.0) (high_name m iq.0)
    ∙ ap (ordering_then (bytes_cmp n m)) (below_cmp p q (texts_cmp p q ip.1 iq.1))

-- a text goes on after another where their names do
names_go : (n m : List ℕ) (p q : List (List ℕ)) → AllByRecursion IsHigh n → AllByRecursion IsHigh m
    → goes_on (n ++ below p) (m ++ below q) ≡ (eq_by_cmp bytes_cmp n m && goes_on (below p) (below q))
names_go [] [] p q hn hm = refl
names_go [] (b ∷ m) [] q hn hm = no_slash_test b hm.0
names_go [] (b ∷ m) (k ∷ p) q hn hm =
    ap (λ (t : Bool). t && goes_on (path_text (k ∷ p)) (m ++ below q)) (slash_test b hm.0)
names_go (a ∷ n) [] p [] hn hm = refl
names_go (a ∷ n) [] p (l ∷ q) hn hm =
    ap (λ (t : Bool). t && goes_on (n ++ below p) (path_text (l ∷ q))) (no_slash_test a hn.0)
names_go (a ∷ n) (b ∷ m) p q hn hm =
    (λ i. unsigned_ties a b i && names_go n m p q hn.1 hm.1 i)
    ∙ sym (and_assoc (eq_by_cmp nat_cmp a b) (eq_by_cmp bytes_cmp n m) (goes_on (below p) (below q)))
    ∙ ap (λ (t : Bool). t && goes_on (below p) (below q)) (tied_then (nat_cmp a b) (bytes_cmp n m))

goes_some : (n : List ℕ) (p : List (List ℕ)) → IsName n → goes_on (n ++ below p) [] ≡ false
goes_some [] p is = absurd (omega (arith, is.non_empty))
goes_some (b ∷ n) p is = refl

-- names below another go on as they are prefixes
below_go : (p q : List (List ℕ)) → AllByRecursion IsName p → AllByRecursion IsName q → goes_on (below p) (below q) ≡ is_prefix p q
below_go [] [] ip iq = refl
below_go [] (m ∷ q) ip iq = refl
below_go (n ∷ p) [] ip iq = refl
below_go (n ∷ p) (m ∷ q) ip iq =
    (λ i. goes_on (text_cons n p i) (text_cons m q i))
    ∙ names_go n m p q (high_name n ip.0) (high_name m iq.0)
    ∙ ap (λ (t : Bool). eq_by_cmp bytes_cmp n m && t) (below_go p q ip.1 iq.1)

text_goes : (n : List ℕ) (p : List (List ℕ)) (text : List ℕ) → IsName n → text_prefix (n ++ below p) text ≡ goes_on (n ++ below p) text
text_goes [] p text is = absurd (omega (arith, is.non_empty))
text_goes (b ∷ n) p text is = refl

-- the prefixes of texts are the prefixes of paths
pub texts_prefix : (p q : List (List ℕ)) → AllByRecursion IsName p → AllByRecursion IsName q → text_prefix (path_text p) (path_text q) ≡ is_prefix p q
texts_prefix [] q ip iq = refl
texts_prefix (n ∷ p) [] ip iq =
    ap (λ (t : List ℕ). text_prefix t []) (text_cons n p) ∙ text_goes n p [] ip.0 ∙ goes_some n p ip.0
texts_prefix (n ∷ p) (m ∷ q) ip iq =
    ap (λ (t : List ℕ). text_prefix t (path_text (m ∷ q))) (text_cons n p)
    ∙ text_goes n p (path_text (m ∷ q)) ip.0
    ∙ ap (λ (t : List ℕ). goes_on t (path_text (m ∷ q))) (sym (text_cons n p))
    ∙ below_go (n ∷ p) (m ∷ q) ip iq

-- what tells that a text goes on after another
pub goes_on_is : (a b : List ℕ) → goes_on a b ≡ (pointwise nat_eq a (take (length a) b) && is_border (drop (length a) b))
goes_on_is [] b = refl
goes_on_is (x ∷ a) [] = refl
goes_on_is (x ∷ a) (y ∷ b) =
    ap (λ (t : Bool). eqb x y && t) (goes_on_is a b) ∙ sym (and_assoc (eqb x y) (pointwise nat_eq a (take (length a) b)) (is_border (drop (length a) b)))

-- what a slice from an index on is
pub rest_all : (n : ℕ) (text : List ℕ) → take (length text - n) (drop n text) ≡ drop n text
rest_all n text = (λ i. take ((sym (length-drop n text)) i) (drop n text)) ∙ take-length (drop n text)

-- a text that begins with another goes on there, and one that does not begins with another text or ends inside a name
pub goes_from : (a b : List ℕ) (same border : Bool) → same ≡ pointwise nat_eq a (take (length a) b) → same ≡ true → border ≡ is_border (drop (length a) b) → border ≡ goes_on a b
goes_from a b same border is begins ends =
    ends ∙ ap (λ (t : Bool). t && is_border (drop (length a) b)) (sym begins ∙ is) ∙ sym (goes_on_is a b)

pub goes_apart : (a b : List ℕ) (same : Bool) → same ≡ pointwise nat_eq a (take (length a) b) → same ≡ false → same ≡ goes_on a b
goes_apart a b same is other =
    other ∙ ap (λ (t : Bool). t && is_border (drop (length a) b)) (sym other ∙ is) ∙ sym (goes_on_is a b)
