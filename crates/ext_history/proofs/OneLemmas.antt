-- There is one mark of a generation and one answer, the youngest marks stay, and a list of marks descends.
use Rattle.std.proofs.Common.{◌≡◌, ℕ, zero, suc, ◌+◌, ◌-◌, ◌<◌, Bool, true, false, cond, not, nat_eq, nat_lt, List, [], ◌∷◌, length, map, reverse, drop, refl, sym, ap, ◌∙◌, subst, arith}
use Rattle.std.proofs.lemmas.Bool.Decides.{nat_tests}
use Rattle.std.proofs.lemmas.List.{drop_all, length-drop, reverse-append}
use Rattle.std.proofs.lemmas.List.Elements.{All-contains, filter_passes}
use Rattle.std.proofs.lemmas.List.Sums.{sum_by-cons}
use Rattle.std.specs.List.{AllByRecursion, Contains, count_by, filter}
use Rattle.std.specs.Ordering.{nat_cmp}
use Rattle.std.specs.declared.cmp.Ordering.TheVariants.{Less}
use Rattle.ext_text.proofs.ForCallers.{all_append}
use Rattle.ext_host.proofs.ForCallers.{ascending_push}
use Rattle.ext_host.specs.Valid.{AreAscending}
use Rattle.ext_host.specs.declared.past.Past.{Past}
use Rattle.ext_host.specs.declared.host.Host.{Host}
use Rattle.ext_history.specs.History.{listed}
use Rattle.ext_history.specs.Laws.{DoneOrRefused, ForgetTakesOne, HistoryDescends, NoMoreStay, OneForget, OneMark, OneRollback, YoungestStay}
use Rattle.ext_history.specs.Marks.{HasNoMark, back_to, is_other, others, youngest}
use Rattle.ext_history.specs.declared.marks.Mark.{Mark}
use Rattle.ext_history.proofs.ListLemmas.{above_each, cmp_less, generations, map_reverse, one_mark}

pub the_mark : OneMark
the_mark host generation a b valid is other = one_mark host.past a b valid.past_order is.among other.among (is.number ∙ sym other.number)

pub one_rollback : OneRollback
one_rollback host a b to valid back other =
    back.is_back ∙ ap (λ (m : Past). back_to m host) (the_mark host to back.mark other.mark valid back.is_mark other.is_mark) ∙ sym other.is_back

pub one_forget : OneForget
one_forget host a b which forgets other = forgets.is_without ∙ sym other.is_without

pub done_or_refused : DoneOrRefused
done_or_refused host next generation none = (λ back. none back.mark back.is_mark, λ forgets. none forgets.has.0 forgets.has.1)

-- no mark of other generations is of this one
none_left : (generation : ℕ) (marks : List Past) → HasNoMark (others generation marks) generation
none_left generation marks mark is = fails mark.generation (All-contains (λ m. is_other generation m ≡ true) (others generation marks) mark (filter_passes (is_other generation) marks) is.among) is.number
  where
    fails : (n : ℕ) → not (nat_eq n generation) ≡ true → n ≡ generation → ⊥
    fails n passes same = grind (arith, nat_tests)

-- what is less or greater is other
apart_passes : (generation : ℕ) (mark : Past) → (mark.generation ≡ generation → ⊥) → is_other generation mark ≡ true
apart_passes generation mark apart = grind (arith, nat_tests, apart)

itself_fails : (generation : ℕ) (mark : Past) → mark.generation ≡ generation → is_other generation mark ≡ false
itself_fails generation mark is = grind (arith, nat_tests)

-- marks after one are all of other generations
others_after : (generation : ℕ) (marks : List Past) → AllByRecursion (λ g. nat_cmp generation g ≡ Less) (generations marks) → others generation marks ≡ marks
others_after generation [] all = refl
others_after generation (m ∷ marks) all =
    let lt : generation < m.generation = cmp_less generation m.generation all.0 in
    let passes : is_other generation m ≡ true = apart_passes generation m (λ same. omega arith) in
    (λ i. cond (passes i) (m ∷ others generation marks) (others generation marks)) ∙ ap (λ l. m ∷ l) (others_after generation marks all.1)

-- ascending marks without one of them are one less
one_less : (marks : List Past) (mark : Past) → AreAscending nat_cmp (generations marks) → Contains marks mark → length marks ≡ length (others mark.generation marks) + 1
one_less [] mark up (k, lt, is) = absurd (omega arith)
one_less (m ∷ marks) mark up (zero, lt, is) =
    let tie : m.generation ≡ mark.generation = ap (λ (x : Past). x.generation) is in
    let after : others mark.generation marks ≡ marks = subst (λ g. others g marks ≡ marks) tie (others_after m.generation marks up.0) in
    let left : others mark.generation (m ∷ marks) ≡ marks = (λ i. cond (itself_fails mark.generation m tie i) (m ∷ others mark.generation marks) (others mark.generation marks)) ∙ after in
    omega (arith, ap length left)
one_less (m ∷ marks) mark up (suc k, lt, is) =
    let less : m.generation < mark.generation = above_each m marks mark up.0 (k, omega arith, is) in
    let passes : is_other mark.generation m ≡ true = apart_passes mark.generation m (λ same. omega arith) in
    let left : others mark.generation (m ∷ marks) ≡ m ∷ others mark.generation marks = ap (λ b. cond b (m ∷ others mark.generation marks) (others mark.generation marks)) passes in
    let rest : length marks ≡ length (others mark.generation marks) + 1 = one_less marks mark up.1 (k, omega arith, is) in
    omega (arith, ap length left, rest)

pub forget_takes_one : ForgetTakesOne
forget_takes_one host next which valid forgets =
    let mark = forgets.has.0 in
    let is = forgets.has.1 in
    let less : length host.past ≡ length (others which host.past) + 1 =
    subst (λ n. length host.past ≡ length (others n host.past) + 1) is.number (one_less host.past mark valid.past_order is.among)
    in
    subst (λ (h : Host). HasNoMark h.past which × (length host.past ≡ length h.past + 1)) (sym forgets.is_without) (none_left which host.past, less)

pub no_more_stay : NoMoreStay
no_more_stay keep marks = omega (arith, length-drop (length marks - keep) marks)

-- how many marks are younger than one
abbrev younger : Past → List Past → ℕ
younger mark marks = count_by (λ other. nat_lt mark.generation other.generation) marks

-- a mark counts as one of the younger where it is
abbrev rank : Past → Past → ℕ
rank mark other = cond (nat_lt mark.generation other.generation) 1 0

younger_cons : (mark m : Past) (marks : List Past) → younger mark (m ∷ marks) ≡ rank mark m + younger mark marks
younger_cons mark m marks = sum_by-cons (rank mark) m marks

-- all marks after one in ascending order are younger
all_younger : (mark : Past) (marks : List Past) → AllByRecursion (λ g. nat_cmp mark.generation g ≡ Less) (generations marks) → younger mark marks ≡ length marks
all_younger mark [] all = refl
all_younger mark (m ∷ marks) all =
    let rest : younger mark marks ≡ length marks = all_younger mark marks all.1 in
    let lt : mark.generation < m.generation = cmp_less mark.generation m.generation all.0 in
    let is : nat_lt mark.generation m.generation ≡ true = grind (arith, nat_tests) in
    let one : rank mark m ≡ 1 = ap (λ b. cond b 1 0) is in
    let count : younger mark (m ∷ marks) ≡ rank mark m + younger mark marks = younger_cons mark m marks in
    omega (arith, count, one, rest)

-- one that is not younger does not count
not_younger : (mark m : Past) (marks : List Past) → (mark.generation < m.generation → ⊥) → younger mark (m ∷ marks) ≡ younger mark marks
not_younger mark m marks apart =
    let is : nat_lt mark.generation m.generation ≡ false = grind (arith, nat_tests, apart) in
    let none : rank mark m ≡ 0 = ap (λ b. cond b 1 0) is in
    let count : younger mark (m ∷ marks) ≡ rank mark m + younger mark marks = younger_cons mark m marks in
    omega (arith, count, none)

-- tests that agree at each element keep the same elements
same_filter : {X : Type 0} (p q : X → Bool) (xs : List X) → AllByRecursion (λ x. p x ≡ q x) xs → filter p xs ≡ filter q xs
same_filter p q [] agree = refl
same_filter p q (x ∷ xs) agree =
    let rest = same_filter p q xs agree.1 in
    λ i. cond (agree.0 i) (x ∷ rest i) (rest i)

-- an older mark changes nothing for those after it
agree_after : (keep : ℕ) (m : Past) (marks rest : List Past) → AllByRecursion (λ g. nat_cmp m.generation g ≡ Less) (generations rest)
    → AllByRecursion (λ mark. nat_lt (younger mark (m ∷ marks)) keep ≡ nat_lt (younger mark marks) keep) rest
agree_after keep m marks [] all = tt
agree_after keep m marks (mark ∷ rest) all =
    let lt : m.generation < mark.generation = cmp_less m.generation mark.generation all.0 in
    (ap (λ n. nat_lt n keep) (not_younger mark m marks (λ gt. omega arith)), agree_after keep m marks rest all.1)

-- one mark more in front of those that stay
stay_step : (keep : ℕ) (m : Past) (marks stay : List Past) (b : Bool) → nat_lt (length marks) keep ≡ b → youngest keep marks ≡ stay → youngest keep (m ∷ marks) ≡ cond b (m ∷ stay) stay
stay_step keep m marks stay true is rest =
    let lt : length marks < keep = grind (arith, nat_tests) in
    let none : length (m ∷ marks) - keep ≡ 0 = omega arith in
    let none_after : length marks - keep ≡ 0 = omega arith in
    ap (λ n. drop n (m ∷ marks)) none ∙ ap (λ l. m ∷ l) (sym (ap (λ n. drop n marks) none_after) ∙ rest)
stay_step keep m marks stay false is rest =
    let le : keep < length marks + 1 = grind (arith, nat_tests) in
    let more : length (m ∷ marks) - keep ≡ suc (length marks - keep) = omega arith in
    ap (λ n. drop n (m ∷ marks)) more ∙ rest

pub youngest_stay : YoungestStay
youngest_stay keep [] up = drop_all (0 - keep) [] (omega arith)
youngest_stay keep (m ∷ marks) up =
    let count : younger m (m ∷ marks) ≡ length marks = not_younger m m marks (λ lt. omega arith) ∙ all_younger m marks up.0 in
    let test : nat_lt (younger m (m ∷ marks)) keep ≡ nat_lt (length marks) keep = ap (λ n. nat_lt n keep) count in
    let rest : filter (λ mark. nat_lt (younger mark (m ∷ marks)) keep) marks ≡ filter (λ mark. nat_lt (younger mark marks) keep) marks =
    same_filter (λ mark. nat_lt (younger mark (m ∷ marks)) keep) (λ mark. nat_lt (younger mark marks) keep) marks (agree_after keep m marks marks up.0)
    in
    stay_step keep m marks (filter (λ mark. nat_lt (younger mark (m ∷ marks)) keep) marks) (nat_lt (length marks) keep) refl (youngest_stay keep marks up.1 ∙ sym rest)
    ∙ (λ i. cond (sym test i) (m ∷ filter (λ mark. nat_lt (younger mark (m ∷ marks)) keep) marks) (filter (λ mark. nat_lt (younger mark (m ∷ marks)) keep) marks))

-- what holds of each holds of each in the other order
all_reverse : (P : ℕ → Type 0) (xs : List ℕ) → AllByRecursion P xs → AllByRecursion P (reverse xs)
all_reverse P [] all = tt
all_reverse P (x ∷ xs) all = subst (AllByRecursion P) (sym (reverse-append (x ∷ []) xs)) (all_append P (reverse xs) (x ∷ []) (all_reverse P xs all.1) (all.0, tt))

-- what ascends descends in the other order
descends : (xs : List ℕ) → AreAscending nat_cmp xs → AreAscending (λ a b. nat_cmp b a) (reverse xs)
descends [] up = tt
descends (x ∷ xs) up =
    subst (AreAscending (λ a b. nat_cmp b a)) (sym (reverse-append (x ∷ []) xs))
    (ascending_push (λ a b. nat_cmp b a) (reverse xs) x (descends xs up.1) (all_reverse (λ y. nat_cmp x y ≡ Less) xs up.0))

listed_generations : (marks : List Past) → map (λ (mark : Mark). mark.generation) (map listed marks) ≡ generations marks
listed_generations [] = refl
listed_generations (m ∷ marks) = ap (λ l. m.generation ∷ l) (listed_generations marks)

pub history_descends : HistoryDescends
history_descends host valid =
    subst (AreAscending (λ a b. nat_cmp b a)) (sym (listed_generations (reverse host.past) ∙ map_reverse (λ (mark : Past). mark.generation) host.past)) (descends (generations host.past) valid.past_order)
