-- Lines sorted by their names: what the first line of a name says stays what the first one says.
use Rattle.std.proofs.Common.{◌≡◌, ℕ, suc, ◌+◌, ◌-◌, ◌<◌, Bool, true, false, cond, not, ◌&&◌, List, [], ◌∷◌, ◌++◌, length, drop, take, map, get_or, Option, Some, None, refl, sym, ap, subst, ◌∙◌, append-nil, arith}
use Rattle.std.specs.Cmp.{IsTotalOrder, nat_cmp_total, tied_itself}
use Rattle.std.specs.List.{All, AllByRecursion, filter}
use Rattle.std.specs.List.Sorted.{IsPermutation, IsSortedBy, IsStableBy, ties}
use Rattle.std.specs.Ordering.{is_eq, is_lt, nat_cmp, ordering_reverse, ordering_then, eq_by_cmp}
use Rattle.std.specs.declared.cmp.Ordering.{Ordering}
use Rattle.std.specs.declared.cmp.Ordering.TheVariants.{Less, Equal, Greater}
use Rattle.std.proofs.lemmas.Bool.{true≢false}
use Rattle.std.proofs.lemmas.Cmp.{on_total, then_total}
use Rattle.std.proofs.lemmas.List.{drop_all, get_or-append_right, get_or-drop, length-map, length-take-le, take_all, take_more}
use Rattle.std.proofs.lemmas.List.Elements.{All-get_or, All-map, All-push, All-weaker, recursion_from_All}
use Rattle.std.proofs.lemmas.List.Sorted.{All-permutation}
use Rattle.ext_lines.specs.ByteOrder.{bytes_cmp, bytes_exact, bytes_total}
use Rattle.ext_lines.specs.Prefix.{IsPrefix}
use Rattle.ext_text.proofs.ForCallers.{is_equal}
use Rattle.ext_sums.specs.declared.merging.Numbered.{Numbered}
use Rattle.ext_sums.specs.Manifest.{AreEntries}
use Rattle.ext_sums.specs.Sums.{said}
use Rattle.ext_sums.specs.Merging.{AreByName, AreNumbered, BeginWith, entries_in, numbered_entry}
use Rattle.ext_sums.specs.Reading.{AreRead}
use Rattle.ext_sums.specs.Sorting.{HasBytes, IsSorting, key_of, with_key, with_keys}
use Rattle.ext_sums.proofs.KeyLemmas.{key_order}
use Rattle.ext_sums.proofs.PrefixLemmas.{same_order}

-- whether a line comes before another one
abbrev pub before : Numbered → Numbered → Bool
before a b = is_lt (bytes_cmp a.listed.name b.listed.name)

-- the order by keys, and by what follows so many first bytes of the names where those are equal
abbrev pub order_past : ℕ → Numbered → Numbered → Ordering
order_past count a b = ordering_then (nat_cmp a.key b.key) (bytes_cmp (drop count a.listed.name) (drop count b.listed.name))

-- whether a line comes before another one in it
abbrev pub before_past : ℕ → Numbered → Numbered → Bool
before_past count a b = is_lt (order_past count a b)

-- it is a total order
pub order_total : (count : ℕ) → IsTotalOrder (order_past count)
order_total count = then_total (on_total (λ (n : Numbered). n.key) nat_cmp_total) (on_total (λ (n : Numbered). drop count n.listed.name) bytes_total)

-- a line with the key of its name, which is of bytes
pub record IsKeyed (count : ℕ) (n : Numbered) : Type 0 where
  pub key : n.key ≡ key_of 8 (drop count n.listed.name)
  pub bytes : HasBytes count n

-- lines with the keys of their names are ordered as what follows so many bytes of the names
keyed_order : (count : ℕ) (a b : Numbered) → IsKeyed count a → IsKeyed count b → order_past count a b ≡ bytes_cmp (drop count a.listed.name) (drop count b.listed.name)
keyed_order count a b first second =
    let x = drop count a.listed.name in
    let y = drop count b.listed.name in
    ap (λ k. ordering_then (nat_cmp k b.key) (bytes_cmp x y)) first.key ∙ ap (λ k. ordering_then (nat_cmp (key_of 8 x) k) (bytes_cmp x y)) second.key
    ∙ key_order x y first.bytes second.bytes

tied : (r : Ordering) → (not (is_lt r) && not (is_lt (ordering_reverse r))) ≡ is_eq r
tied Less = refl
tied Equal = refl
tied Greater = refl

texts_tie : (x y : List ℕ) → (not (is_lt (bytes_cmp x y)) && not (is_lt (bytes_cmp y x))) ≡ eq_by_cmp bytes_cmp x y
texts_tie x y = ap (λ r. not (is_lt (bytes_cmp x y)) && not (is_lt r)) (bytes_total.antisymm y x) ∙ tied (bytes_cmp x y)

tie_is : (a b : Numbered) → ties before a b ≡ eq_by_cmp bytes_cmp a.listed.name b.listed.name
tie_is a b = texts_tie a.listed.name b.listed.name

equal_keys : (k l : ℕ) (x y : List ℕ) → k ≡ l → x ≡ y → ordering_then (nat_cmp k l) (bytes_cmp x y) ≡ Equal
equal_keys k l x y key text =
    ap (λ n. ordering_then (nat_cmp k n) (bytes_cmp x y)) (sym key) ∙ ap (λ r. ordering_then r (bytes_cmp x y)) (tied_itself nat_cmp_total k)
    ∙ ap (bytes_cmp x) (sym text) ∙ tied_itself bytes_total x

-- lines of one name with the keys of it tie
tie_past : (count : ℕ) (a b : Numbered) → a.key ≡ key_of 8 (drop count a.listed.name) → IsKeyed count b → ties before a b ≡ true → ties (before_past count) a b ≡ true
tie_past count a b first second tie =
    let same : a.listed.name ≡ b.listed.name = bytes_exact a.listed.name b.listed.name (is_equal _ (sym (tie_is a b) ∙ tie)) in
    let rest : drop count a.listed.name ≡ drop count b.listed.name = ap (drop count) same in
    let key : a.key ≡ b.key = first ∙ ap (key_of 8) rest ∙ sym second.key in
    ap (λ r. not (is_lt r) && not (is_lt (order_past count b a))) (equal_keys a.key b.key _ _ key rest)
    ∙ ap (λ r. not (is_lt r)) (equal_keys b.key a.key _ _ (sym key) (sym rest))

-- what passes a test passes it among what passes another one that each of the list passes which passes the first
filter_weaker : (f g : Numbered → Bool) (ns : List Numbered) → AllByRecursion (λ n. f n ≡ true → g n ≡ true) ns → filter f (filter g ns) ≡ filter f ns
filter_weaker f g [] weaker = refl
filter_weaker f g (n ∷ ns) weaker =
    elim (g n) as (λ b. g n ≡ b → filter f (cond b (n ∷ filter g ns) (filter g ns)) ≡ cond (f n) (n ∷ filter f ns) (filter f ns)) [
      | true ↦ λ p. ap (λ l. cond (f n) (n ∷ l) l) (filter_weaker f g ns weaker.1)
      | false ↦ λ p. elim (f n) as (λ b. f n ≡ b → filter f (filter g ns) ≡ cond b (n ∷ filter f ns) (filter f ns)) [
        | true ↦ λ q. absurd (true≢false (sym (weaker.0 q) ∙ p))
        | false ↦ λ q. filter_weaker f g ns weaker.1
      ] refl
    ] refl

abbrev first_said : List Numbered → Option (List ℕ)
first_said [] = None
first_said (n ∷ ns) = Some n.listed.digest.0

-- a line with this name, and the key of what follows so many first bytes of it
abbrev named : ℕ → List ℕ → Numbered
named count name = record { key = key_of 8 (drop count name); listed = record { name = name; digest = record { 0 = [] } }; line = 0 }

choose : (b : Bool) (n : Numbered) (ns : List Numbered) (o : Option (List ℕ)) → o ≡ first_said ns → cond b (Some n.listed.digest.0) o ≡ first_said (cond b (n ∷ ns) ns)
choose true n ns o is = refl
choose false n ns o is = is

said_first_tied : (count : ℕ) (name : List ℕ) (ns : List Numbered) → said (entries_in ns) name ≡ first_said (filter (ties before (named count name)) ns)
said_first_tied count name [] = refl
said_first_tied count name (n ∷ ns) =
    let rest = filter (ties before (named count name)) ns in
    choose (eq_by_cmp bytes_cmp name n.listed.name) n rest (said (entries_in ns) name) (said_first_tied count name ns)
    ∙ ap (λ b. first_said (cond b (n ∷ rest) rest)) (sym (tie_is (named count name) n))

-- a stable sort changes nothing of what is said of a name
pub first_stays : (count : ℕ) (old new : List Numbered) → All (IsKeyed count) old → All (IsKeyed count) new → IsStableBy (before_past count) old new → (name : List ℕ) → said (entries_in new) name ≡ said (entries_in old) name
first_stays count old new olds news stable name =
    let line = named count name in
    let test = ties before line in
    let past = ties (before_past count) line in
    let weaker : (ns : List Numbered) → All (IsKeyed count) ns → filter test (filter past ns) ≡ filter test ns =
    λ ns all. filter_weaker test past ns
    (recursion_from_All (λ n. test n ≡ true → past n ≡ true) ns
    (All-weaker (IsKeyed count) (λ n. test n ≡ true → past n ≡ true) (λ n keyed. tie_past count line n refl keyed) ns all))
    in
    said_first_tied count name new ∙ ap first_said (sym (weaker new news) ∙ ap (filter test) (stable line) ∙ weaker old olds) ∙ sym (said_first_tied count name old)

-- lines in the order of what follows a prefix of all their names are in that of their names
pub sorted_past : (prefix : List ℕ) (ns : List Numbered) → BeginWith prefix ns → All (IsKeyed (length prefix)) ns → IsSortedBy (before_past (length prefix)) ns → AreByName ns
sorted_past prefix ns all keyed sorted k d low high =
    let begins : (i : ℕ) → i < length ns → IsPrefix prefix (get_or ns i d).listed.name = λ i less. All-get_or (λ n. IsPrefix prefix n.listed.name) ns i d less all in
    let keys : (i : ℕ) → i < length ns → IsKeyed (length prefix) (get_or ns i d) = λ i less. All-get_or (IsKeyed (length prefix)) ns i d less keyed in
    ap is_lt
    (sym (keyed_order (length prefix) (get_or ns (k + 1) d) (get_or ns k d) (keys (k + 1) high) (keys k (omega arith))
    ∙ same_order prefix (get_or ns (k + 1) d).listed.name (get_or ns k d).listed.name (begins (k + 1) high) (begins k (omega arith))))
    ∙ sorted k d low high

-- lines that are given their keys have them
pub have_keys : (count : ℕ) (ns : List Numbered) → All (HasBytes count) ns → All (IsKeyed count) (with_keys count ns)
have_keys count ns all =
    All-map (IsKeyed count) (with_key count) ns (All-weaker (HasBytes count) (λ n. IsKeyed count (with_key count n)) (λ n bytes. record { key = refl; bytes = bytes }) ns all)

-- what lines that are sorted with keys past a prefix of all names are to the lines before
pub is_sorting : (prefix : List ℕ) (old new : List Numbered) → BeginWith prefix old → All (HasBytes (length prefix)) old → IsPermutation (with_keys (length prefix) old) new → IsSortedBy (before_past (length prefix)) new → IsStableBy (before_past (length prefix)) (with_keys (length prefix) old) new → IsSorting old new
is_sorting prefix old new all bytes same sorted stable =
    let count = length prefix in
    let keyed = with_keys count old in
    let olds = have_keys count old bytes in
    let news = All-permutation (IsKeyed count) keyed new same olds in
    let begin = All-map (λ n. IsPrefix prefix n.listed.name) (with_key count) old all in record {
      count = count;
      sorted = record {
        same = same;
        sorted = sorted_past prefix new (All-permutation (λ n. IsPrefix prefix n.listed.name) keyed new same begin) news sorted;
        first = first_stays count keyed new olds news stable;
      };
    }

-- the next line of a loop that writes keys is as it was
still : (f : Numbered → Numbered) (xs : List Numbered) (i : ℕ) (d : Numbered) → i < length xs → get_or (map f (take i xs) ++ drop i xs) i d ≡ get_or xs i d
still f xs i d less =
    let count : length (map f (take i xs)) ≡ i = length-map (take i xs) f ∙ length-take-le i xs (omega arith) in
    let none : i + (i - i) ≡ i = omega arith in
    get_or-append_right (map f (take i xs)) (drop i xs) i i d count (omega arith) ∙ get_or-drop i xs (i - i) d ∙ ap (λ k. get_or xs k d) none

-- a loop's step: the bytes of one more name are seen
pub bytes_more : (count : ℕ) (xs ys : List Numbered) (n : Numbered) (i : ℕ) → i < length xs → ys ≡ map (with_key count) (take i xs) ++ drop i xs → n ≡ get_or ys i n → HasBytes count n → All (HasBytes count) (take i xs) → All (HasBytes count) (take (i + 1) xs)
bytes_more count xs ys n i less so at here all =
    let is : get_or xs i n ≡ n = sym (at ∙ ap (λ l. get_or l i n) so ∙ still (with_key count) xs i n less) in
    subst (All (HasBytes count)) (sym (take_more xs i n less ∙ ap (λ m. take i xs ++ m ∷ []) is)) (All-push (HasBytes count) (take i xs) n all here)

-- what the code writes is the line with its key
pub key_given : (count key : ℕ) (n m : Numbered) (rest : List ℕ) → n ≡ m → rest ≡ drop count n.listed.name → key ≡ key_of 8 rest → ◌≡◌ {A = Numbered} (record { key = key; listed = m.listed; line = m.line }) (with_key count n)
key_given count key n m rest same past is =
    ap (λ (z : Numbered). record { key = key; listed = z.listed; line = z.line }) (sym same)
    ∙ ap (λ k. record { key = k; listed = n.listed; line = n.line }) (is ∙ ap (key_of 8) past)

-- what a vector holds once all of its slice is written
pub all_written : (count len : ℕ) (old seen new : List Numbered) → seen ≡ old → new ≡ with_keys count seen → len ≡ length old → take len (new ++ drop (length new) old) ≡ with_keys count old
all_written count len old seen new same is full =
    let given : new ≡ with_keys count old = is ∙ ap (with_keys count) same in
    let size : length new ≡ length old = ap length given ∙ length-map old (with_key count) in
    ap (λ (ns : List Numbered). take len (new ++ ns)) (drop_all (length new) old (omega arith)) ∙ ap (take len) (append-nil new) ∙ take_all len new (omega arith) ∙ given

-- the lines that were read are so still with keys
entries_keyed : (count : ℕ) (ns : List Numbered) → entries_in (with_keys count ns) ≡ entries_in ns
entries_keyed count [] = refl
entries_keyed count (n ∷ ns) = ap (λ es. numbered_entry n ∷ es) (entries_keyed count ns)

numbers_keyed : (count number : ℕ) (ns : List Numbered) → AreNumbered number ns → AreNumbered number (with_keys count ns)
numbers_keyed count number [] h = h
numbers_keyed count number (n ∷ ns) h = (h.0, numbers_keyed count (suc number) ns h.1)

-- what was read of a text is so with keys too
pub read_keyed : (count : ℕ) (text : List ℕ) (ns : List Numbered) (stop : Option ℕ) → AreRead text ns stop → AreRead text (with_keys count ns) stop
read_keyed count text ns stop read = record {
  before = read.before;
  rest = read.rest;
  parted = read.parted;
  sound = subst (AreEntries read.before) (sym (entries_keyed count ns)) read.sound;
  numbers = numbers_keyed count 1 ns read.numbers;
  stops = read.stops;
}
