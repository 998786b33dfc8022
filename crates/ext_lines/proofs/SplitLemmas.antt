-- Bytes that a text lacks, and the one way in which a text is split at such a byte.
use Rattle.std.proofs.Common.{◌≡◌, ℕ, zero, suc, ◌+◌, ◌<◌, Bool, true, false, cond, not, eqb, List, [], ◌∷◌, ◌++◌, length, length-append, take, get_or, drop, refl, sym, ap, subst, ◌∙◌, arith, add-one}
use Rattle.std.specs.Prelude.{◌⊎◌, Some, None}
use mathlib.Core.Logic.{inl, inr}
use Rattle.std.specs.List.{All, AllByRecursion, slice_split}
use Rattle.std.specs.Option.{option_map}
use Rattle.std.proofs.lemmas.Bool.{not-true, ne_eqb, eq-eqb, eqb-true, both_ways, false_from_ne_true}
use Rattle.std.proofs.lemmas.List.{get_or_push, take_all, take_at, take_more}
use Rattle.std.proofs.lemmas.List.Elements.{All-nil, All-cons, All-tail, All-append}
use Rattle.std.proofs.lemmas.List.Splits.{slice_split_none, slice_split_at}
use Rattle.memchr.specs.Find.{IsFirstByte}
use Rattle.ext_lines.specs.Split.{IsSplit, IsSplitBy, Lacks, NonePass, before_last, split_of}

-- a byte is another than this one
abbrev pub Differs : ℕ → ℕ → Type 0
Differs byte b = not (eqb b byte) ≡ true

-- a byte that is another one differs
pub differs : (byte b : ℕ) → (b ≡ byte → ⊥) → Differs byte b
differs byte b ne = ap not (ne_eqb b byte ne)

-- the empty text lacks each byte
pub lacks_nil : (byte : ℕ) → Lacks byte []
lacks_nil byte = All-nil (Differs byte)

-- so does a text that begins with another byte
pub lacks_cons : (byte b : ℕ) (bs : List ℕ) → Differs byte b → Lacks byte bs → Lacks byte (b ∷ bs)
lacks_cons byte b bs other lacks = All-cons (Differs byte) b bs other lacks

-- so do two texts together
pub lacks_append : (byte : ℕ) (xs ys : List ℕ) → Lacks byte xs → Lacks byte ys → Lacks byte (xs ++ ys)
lacks_append byte xs ys p q = All-append (Differs byte) xs ys p q

lacks_head : (byte b : ℕ) (bs : List ℕ) → Lacks byte (b ∷ bs) → b ≡ byte → ⊥
lacks_head byte b bs lacks e = both_ways (eqb b byte) (not-true (eqb b byte) (lacks 0 0 (omega arith))) (eq-eqb b byte e)

lacks_tail : (byte b : ℕ) (bs : List ℕ) → Lacks byte (b ∷ bs) → Lacks byte bs
lacks_tail byte b bs lacks = All-tail (Differs byte) b bs lacks

-- a byte that is not there is told apart from each
pub lacks_all : (byte : ℕ) (bytes : List ℕ) → Lacks byte bytes → All (λ b. eqb b byte ≡ false) bytes
lacks_all byte bytes lacks = λ k d within. not-true _ (lacks k d within)

-- that no byte passes, said of each byte by recursion
pub none_each : (test : ℕ → Bool) (bytes : List ℕ) → NonePass test bytes → AllByRecursion (λ b. test b ≡ false) bytes
none_each test [] none = tt
none_each test (b ∷ bs) none =
    (not-true (test b) (none 0 0 (omega arith)), none_each test bs (All-tail (λ x. not (test x) ≡ true) b bs none))

-- a test that fails at each byte passes none
pub each_none : (test : ℕ → Bool) (bytes : List ℕ) → AllByRecursion (λ b. test b ≡ false) bytes → NonePass test bytes
each_none test [] each = All-nil (λ x. not (test x) ≡ true)
each_none test (b ∷ bs) each = All-cons (λ x. not (test x) ≡ true) b bs (ap not each.0) (each_none test bs each.1)

split_more : (byte b : ℕ) (bytes : List ℕ) → Differs byte b → (Lacks byte bytes) ⊎ ((prefix : List ℕ) × (rest : List ℕ) × IsSplit byte bytes prefix rest) → (Lacks byte (b ∷ bytes)) ⊎ ((prefix : List ℕ) × (rest : List ℕ) × IsSplit byte (b ∷ bytes) prefix rest)
split_more byte b bytes other (inl lacks) = inl (lacks_cons byte b bytes other lacks)
split_more byte b bytes other (inr (prefix, rest, split)) = inr (b ∷ prefix, rest, record { whole = ap (λ xs. b ∷ xs) split.whole; prefix_lacks = lacks_cons byte b prefix other split.prefix_lacks })

-- a text lacks a byte or is split at the first one
pub split_or_lacks : (byte : ℕ) (bytes : List ℕ) → (Lacks byte bytes) ⊎ ((prefix : List ℕ) × (rest : List ℕ) × IsSplit byte bytes prefix rest)
split_or_lacks byte [] = inl (lacks_nil byte)
split_or_lacks byte (b ∷ bytes) =
    elim (eqb b byte) as (λ t. eqb b byte ≡ t → (Lacks byte (b ∷ bytes)) ⊎ ((prefix : List ℕ) × (rest : List ℕ) × IsSplit byte (b ∷ bytes) prefix rest)) [
      | true ↦ λ is. inr ([], bytes, record { whole = ap (λ x. x ∷ bytes) (eqb-true b byte is); prefix_lacks = lacks_nil byte })
      | false ↦ λ other. split_more byte b bytes (ap not other) (split_or_lacks byte bytes)
    ] refl

-- it is split there in one way
pub split_once : (byte : ℕ) (f g r s : List ℕ) → Lacks byte f → Lacks byte g → f ++ byte ∷ r ≡ g ++ byte ∷ s
    → (f ≡ g) × (r ≡ s)
split_once byte [] [] r s p q e = (refl, ap (drop 1) e)
split_once byte [] (c ∷ g) r s p q e = absurd (lacks_head byte c g q (sym (ap (λ (l : List ℕ). get_or l 0 0) e)))
split_once byte (c ∷ f) [] r s p q e = absurd (lacks_head byte c f p (ap (λ (l : List ℕ). get_or l 0 0) e))
split_once byte (c ∷ f) (d ∷ g) r s p q e =
    let rest = split_once byte f g r s (lacks_tail byte c f p) (lacks_tail byte d g q) (ap (drop 1) e) in
    let head : c ≡ d = ap (λ (l : List ℕ). get_or l 0 0) e in
    (λ i. head i ∷ rest.0 i, rest.1)

-- and where it lacks the byte in none
pub split_none : (byte : ℕ) (text f r : List ℕ) → Lacks byte text → text ≡ f ++ byte ∷ r → ⊥
split_none byte [] [] r lacks e = cc e
split_none byte [] (c ∷ f) r lacks e = cc e
split_none byte (b ∷ text) [] r lacks e = lacks_head byte b text lacks (ap (λ (l : List ℕ). get_or l 0 0) e)
split_none byte (b ∷ text) (c ∷ f) r lacks e = split_none byte text f r (lacks_tail byte b text lacks) (ap (drop 1) e)

-- so what a split gives is the field before the byte
pub split_field : (byte : ℕ) (text prefix rest f r : List ℕ) → IsSplit byte text prefix rest → Lacks byte f
    → text ≡ f ++ byte ∷ r → (prefix ≡ f) × (rest ≡ r)
split_field byte text prefix rest f r split lacks e =
    split_once byte prefix f rest r split.prefix_lacks lacks (sym split.whole ∙ e)

-- prefixes of one length are split off in one way
pub split_same : (f g r s : List ℕ) → length f ≡ length g → f ++ r ≡ g ++ s → (f ≡ g) × (r ≡ s)
split_same [] [] r s n e = (refl, e)
split_same [] (c ∷ g) r s n e = absurd (omega arith)
split_same (c ∷ f) [] r s n e = absurd (omega arith)
split_same (c ∷ f) (d ∷ g) r s n e =
    let rest = split_same f g r s (omega arith) (ap (drop 1) e) in
    let head : c ≡ d = ap (λ (l : List ℕ). get_or l 0 0) e in
    (λ i. head i ∷ rest.0 i, rest.1)

none_all : (test : ℕ → Bool) (bytes : List ℕ) → NonePass test bytes → All (λ b. test b ≡ false) bytes
none_all test bytes none = λ k d within. not-true _ (none k d within)

-- where no byte passes there is one part
pub one_part_by : (test : ℕ → Bool) (bytes : List ℕ) → NonePass test bytes → slice_split test bytes ≡ bytes ∷ []
one_part_by test bytes none = slice_split_none test bytes (none_all test bytes none)

-- a text without the byte is one part
pub one_part : (byte : ℕ) (bytes : List ℕ) → Lacks byte bytes → slice_split (λ b. eqb b byte) bytes ≡ bytes ∷ []
one_part byte bytes lacks = one_part_by (λ b. eqb b byte) bytes lacks

-- at a split, the first part is the prefix
pub first_part_by : (test : ℕ → Bool) (bytes prefix : List ℕ) (byte : ℕ) (rest : List ℕ) → IsSplitBy test bytes prefix byte rest → slice_split test bytes ≡ prefix ∷ slice_split test rest
first_part_by test bytes prefix byte rest split =
    ap (slice_split test) split.whole ∙ slice_split_at test prefix byte rest (none_all test prefix split.none_before) split.passes

-- what stands before the byte is the first part
pub first_part : (byte : ℕ) (bytes prefix rest : List ℕ) → IsSplit byte bytes prefix rest → slice_split (λ b. eqb b byte) bytes ≡ prefix ∷ slice_split (λ b. eqb b byte) rest
first_part byte bytes prefix rest split =
    first_part_by (λ b. eqb b byte) bytes prefix byte rest (record { whole = split.whole; none_before = split.prefix_lacks; passes = eq-eqb byte byte refl })

around : (test : ℕ → Bool) (text : List ℕ) (k : ℕ) → k < length text → test (get_or text k 0) ≡ true → ((j : ℕ) → j < k → test (get_or text j 0) ≡ false) → IsSplitBy test text (take k text) (get_or text k 0) (drop (suc k) text)
around test [] k lt here before = absurd (omega arith)
around test (b ∷ bs) zero lt here before = record { whole = refl; none_before = All-nil (λ x. not (test x) ≡ true); passes = here }
around test (b ∷ bs) (suc k) lt here before =
    let rest = around test bs k (omega arith) here (λ j h. before (suc j) (omega arith)) in
    record { whole = ap (λ ys. b ∷ ys) rest.whole; none_before = All-cons (λ x. not (test x) ≡ true) b (take k bs) (ap not (before 0 (omega arith))) rest.none_before; passes = here }

-- the index of the first byte that passes splits the text
pub split_at_first : (test : ℕ → Bool) (text : List ℕ) (k : ℕ) → IsFirstByte test text (Some k) → IsSplitBy test text (take k text) (get_or text k 0) (drop (k + 1) text)
split_at_first test text k is = rw add-one (around test text k is.0.high is.1 (λ j h. false_from_ne_true _ (is.0.before j (omega arith) h)))

nowhere : (test : ℕ → Bool) (text : List ℕ) → ((j : ℕ) → j < length text → test (get_or text j 0) ≡ false) → AllByRecursion (λ b. test b ≡ false) text
nowhere test [] before = tt
nowhere test (b ∷ bs) before = (before 0 (omega arith), nowhere test bs (λ j h. before (suc j) (omega arith)))

-- and where no index is found none passes
pub none_at_all : (test : ℕ → Bool) (text : List ℕ) → IsFirstByte test text None → NonePass test text
none_at_all test text is = each_none test text (nowhere test text (λ j h. false_from_ne_true _ (is j (omega arith) h)))

split_of_around : (byte : ℕ) (prefix rest : List ℕ) → Lacks byte prefix → split_of byte (prefix ++ byte ∷ rest) ≡ Some (prefix, rest)
split_of_around byte [] rest lacks = rw (eq-eqb byte byte refl) refl
split_of_around byte (b ∷ prefix) rest lacks = rw (not-true (eqb b byte) (lacks 0 0 (omega arith))) (ap (option_map (λ c. (b ∷ c.0, c.1))) (split_of_around byte prefix rest (lacks_tail byte b prefix lacks)))

-- `split_of` is the split at the byte
pub split_of-split : (byte : ℕ) (text prefix rest : List ℕ) → IsSplit byte text prefix rest → split_of byte text ≡ Some (prefix, rest)
split_of-split byte text prefix rest is = ap (split_of byte) is.whole ∙ split_of_around byte prefix rest is.prefix_lacks

-- and none where the text lacks the byte
pub split_of-lacks : (byte : ℕ) (text : List ℕ) → Lacks byte text → split_of byte text ≡ None
split_of-lacks byte [] lacks = refl
split_of-lacks byte (b ∷ bs) lacks = rw (not-true (eqb b byte) (lacks 0 0 (omega arith))) (ap (option_map (λ c. (b ∷ c.0, c.1))) (split_of-lacks byte bs (lacks_tail byte b bs lacks)))

-- the split of a text from the index of the first such byte
pub split_from_index : (byte : ℕ) (text hay : List ℕ) (k : ℕ) (prefix after : List ℕ) → hay ≡ text → IsFirstByte (λ x. eqb x byte) hay (Some k) → prefix ≡ take k text → after ≡ drop (k + 1) text → IsSplit byte text prefix after
split_from_index byte text hay k prefix after same is before follows =
    let P : List ℕ → Type 0 = λ h. IsFirstByte (λ x. eqb x byte) h (Some k) in
    let at : IsSplitBy (λ x. eqb x byte) text (take k text) (get_or text k 0) (drop (k + 1) text) = split_at_first (λ x. eqb x byte) text k (subst P same is) in
    let here : get_or text k 0 ≡ byte = eqb-true _ _ at.passes in
    record {
      whole = at.whole ∙ ap (λ (x : ℕ). take k text ++ x ∷ drop (k + 1) text) here ∙ ap (λ (xs : List ℕ). xs ++ byte ∷ drop (k + 1) text) (sym before) ∙ ap (λ (xs : List ℕ). prefix ++ byte ∷ xs) (sym follows);
      prefix_lacks = subst (Lacks byte) (sym before) at.none_before;
    }

-- before a byte that was added at the end
pub before_last-push : (byte : ℕ) (text : List ℕ) → before_last byte (text ++ byte ∷ []) ≡ Some text
before_last-push byte [] = rw (eq-eqb byte byte refl) refl
before_last-push byte (b ∷ bs) =
    let count : length (b ∷ bs) ≡ length (bs ++ byte ∷ []) = omega (arith, length-append bs (byte ∷ [])) in
    ap (λ (last : ℕ). cond (eqb last byte) (Some (take (length (bs ++ byte ∷ [])) (b ∷ (bs ++ byte ∷ [])))) None) (get_or_push (b ∷ bs) byte 0 (length (bs ++ byte ∷ [])) count)
    ∙ ap (λ (test : Bool). cond test (Some (take (length (bs ++ byte ∷ [])) (b ∷ (bs ++ byte ∷ [])))) None) (eq-eqb byte byte refl)
    ∙ ap Some (take_at (b ∷ bs) (byte ∷ []) (length (bs ++ byte ∷ [])) count)

ends_so : (byte b : ℕ) (bs front : List ℕ) (test : Bool) → eqb (get_or (b ∷ bs) (length bs) 0) byte ≡ test → cond test (Some (take (length bs) (b ∷ bs))) None ≡ Some front → b ∷ bs ≡ front ++ byte ∷ []
ends_so byte b bs front false is none = absurd (cc)
ends_so byte b bs front true is some =
    let last : get_or (b ∷ bs) (length bs) 0 ≡ byte = eqb-true _ _ is in
    let first : take (length bs) (b ∷ bs) ≡ front = cc in
    sym (take_all (length bs + 1) (b ∷ bs) (omega arith)) ∙ take_more (b ∷ bs) (length bs) 0 (omega arith)
    ∙ ap (λ (t : List ℕ). t ++ get_or (b ∷ bs) (length bs) 0 ∷ []) first ∙ ap (λ (last : ℕ). front ++ last ∷ []) last

-- what it gives is followed by the byte and nothing else
pub before_last-whole : (byte : ℕ) (text front : List ℕ) → before_last byte text ≡ Some front → text ≡ front ++ byte ∷ []
before_last-whole byte [] front none = absurd (cc)
before_last-whole byte (b ∷ bs) front some = ends_so byte b bs front (eqb (get_or (b ∷ bs) (length bs) 0) byte) refl some
