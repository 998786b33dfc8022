-- Texts in a set.
use Rattle.std.proofs.Common.{◌≡◌, ℕ, ◌+◌, ◌<◌, Bool, true, false, cond, ◌||◌, List, [], ◌∷◌, length, take, get_or, refl, sym, ap, ◌∙◌}
use Rattle.std.specs.Prelude.{map}
use Rattle.std.specs.Borrow.{Bor}
use Rattle.std.specs.BTreeMap.{is_at}
use Rattle.std.specs.Cmp.Lexicographic.{texts_ties}
use Rattle.std.specs.List.{list_any}
use Rattle.std.specs.Ordering.{is_eq, ordering_reverse}
use Rattle.std.specs.Str.{bytes_eq}
use Rattle.std.specs.declared.cmp.Ordering.{Ordering}
use Rattle.std.specs.declared.cmp.Ordering.TheVariants.{Less, Equal, Greater}
use Rattle.std.proofs.lemmas.List.{take_more}
use Rattle.std.proofs.lemmas.List.Folds.{list_any-append}
use Rattle.ext_lines.specs.ByteOrder.{bytes_cmp, bytes_total}
use Rattle.ext_units.specs.TextSet.{is_one_of}

-- the texts of borrowed ones
abbrev pub texts_of : List (Bor (List ℕ)) → List (List ℕ)
texts_of keys = map (λ text. text.now) keys

-- a set that compares by order has what the list of its texts has
pub any_by_order : (text : List ℕ) (keys : List (Bor (List ℕ))) → list_any (is_at (λ key. bytes_cmp text key.now)) keys ≡ is_one_of (texts_of keys) text
any_by_order text [] = refl
any_by_order text (key ∷ keys) = λ i. sym (texts_ties text key.now) i || any_by_order text keys i

same_tie : (o : Ordering) → is_eq (ordering_reverse o) ≡ is_eq o
same_tie Less = refl
same_tie Equal = refl
same_tie Greater = refl

-- texts tie both ways
tie_back : (a b : List ℕ) → is_eq (bytes_cmp a b) ≡ bytes_eq b a
tie_back a b = ap is_eq (bytes_total.antisymm a b) ∙ same_tie (bytes_cmp b a) ∙ sym (texts_ties b a)

or_cond : (a b : Bool) → cond a true b ≡ (b || a)
or_cond true true = refl
or_cond true false = refl
or_cond false true = refl
or_cond false false = refl

or_false : (b : Bool) → (b || false) ≡ b
or_false true = refl
or_false false = refl

-- with one text more the list has that one too
one_more : (texts : List (List ℕ)) (i : ℕ) (x text : List ℕ) → i < length texts → x ≡ get_or texts i x → is_one_of (take (i + 1) texts) text ≡ (is_one_of (take i texts) text || bytes_eq text x)
one_more texts i x text within is =
    ap (λ ts. is_one_of ts text) (take_more texts i x within)
    ∙ list_any-append (bytes_eq text) (take i texts) (get_or texts i x ∷ [])
    ∙ ap (λ b. is_one_of (take i texts) text || b) (or_false (bytes_eq text (get_or texts i x)))
    ∙ ap (λ t. is_one_of (take i texts) text || bytes_eq text t) (sym is)

-- and so has the set
pub set_more : (texts : List (List ℕ)) (i : ℕ) (x : List ℕ) (key : Bor (List ℕ)) (old new : List (Bor (List ℕ))) → i < length texts → x ≡ get_or texts i x → key.now ≡ x → ((q : Bor (List ℕ)) → list_any (is_at (λ (k : Bor (List ℕ)). bytes_cmp q.now k.now)) new ≡ cond (is_at (λ (k : Bor (List ℕ)). bytes_cmp key.now k.now) q) true (list_any (is_at (λ (k : Bor (List ℕ)). bytes_cmp q.now k.now)) old)) → ((text : List ℕ) → is_one_of (texts_of old) text ≡ is_one_of (take i texts) text) → (text : List ℕ) → is_one_of (texts_of new) text ≡ is_one_of (take (i + 1) texts) text
set_more texts i x key old new within is same updates before text =
    let q : Bor (List ℕ) = record { ref_ptr = (0, 0); now = text } in
    sym (any_by_order text new) ∙ updates q
    ∙ or_cond (is_eq (bytes_cmp key.now text)) (list_any (is_at (λ (k : Bor (List ℕ)). bytes_cmp text k.now)) old)
    ∙ (λ i. (any_by_order text old ∙ before text) i || (tie_back key.now text ∙ ap (bytes_eq text) same) i)
    ∙ sym (one_more texts i x text within is)
