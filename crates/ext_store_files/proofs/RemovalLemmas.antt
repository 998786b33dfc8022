-- Parts of a removal, one after another.
use Rattle.std.proofs.Common.{◌≡◌, ◌⊎◌, ℕ, ◌+◌, Bool, true, false, cond, ◌||◌, List, [], ◌∷◌, ◌++◌, length, Option, Some, None, Result, Ok, Err, refl, sym, ap, ◌∙◌, subst, inl, inr, arith, length-append}
use Rattle.std.specs.Option.{is_some}
use Rattle.std.specs.Result.{is_ok}
use Rattle.std.specs.Ordering.{eq_by_cmp}
use Rattle.std.proofs.lemmas.Bool.{false≢true, or_left, or_right, or_cases, cases_Bool, cond-true, cond-false}
use Rattle.ext_text.specs.Path.{path_cmp}
use Rattle.ext_text.proofs.ForCallers.{same_path, tied_path}
use Rattle.ext_disk.specs.Disk.{Places, Told, DiskState, BothTold}
use Rattle.ext_disk.proofs.ForCallers.{spares_then, spares_wider}
use Rattle.ext_store_files.specs.declared.errors.CleanErr.{CleanErr}
use Rattle.ext_store_files.specs.declared.errors.CleanErr.TheVariants.{DiskFault, OutOfMemory, Unfinished}
use Rattle.ext_store_files.specs.Removal.{is_one_of, AreDistinct, AllStand, AreGone, IsClear, CountsGone, EndsRemoval, ClearsTold, Clears}
use Rattle.ext_store_files.proofs.ToldLemmas.{told_then}

pub contrapose : (a b : Bool) → (a ≡ true → b ≡ true) → b ≡ false → a ≡ false
contrapose true b gives out = absurd (false≢true (sym out ∙ gives refl))
contrapose false b gives out = refl

or_assoc : (a b c : Bool) → ((a || b) || c) ≡ (a || (b || c))
or_assoc true b c = refl
or_assoc false b c = refl

no_some : (A : Type 0) (o : Option A) → o ≡ None → is_some o ≡ true → ⊥
no_some A o none some = false≢true (sym (ap is_some none) ∙ some)

pub none_or_some : (A : Type 0) (o : Option A) → (is_some o ≡ true → ⊥) → o ≡ None
none_or_some A None not_some = refl
none_or_some A (Some x) not_some = absurd (not_some refl)

in_append : (p : List (List ℕ)) (gs hs : List (List (List ℕ))) → is_one_of p (gs ++ hs) ≡ (is_one_of p gs || is_one_of p hs)
in_append p [] hs = refl
in_append p (g ∷ gs) hs = ap (λ b. eq_by_cmp path_cmp p g || b) (in_append p gs hs) ∙ sym (or_assoc (eq_by_cmp path_cmp p g) (is_one_of p gs) (is_one_of p hs))

pub stand_map : (r q : List (List ℕ) → Bool) (c d : Places) (ps : List (List (List ℕ)))
    → ((p : List (List ℕ)) → r p ≡ true → is_some (d p).node ≡ true → (q p ≡ true) × (is_some (c p).node ≡ true)) → AllStand r d ps → AllStand q c ps
stand_map r q c d [] gives all = tt
stand_map r q c d (p ∷ ps) gives all = let here = gives p all.0 all.1 in (here.0, here.1, stand_map r q c d ps gives all.2)

stand_append : (r : List (List ℕ) → Bool) (d : Places) (gs hs : List (List (List ℕ))) → AllStand r d gs → AllStand r d hs → AllStand r d (gs ++ hs)
stand_append r d [] hs one two = two
stand_append r d (g ∷ gs) hs one two = (one.0, one.1, stand_append r d gs hs one.2 two)

stand_tail : (r : List (List ℕ) → Bool) (d : Places) (p g : List (List ℕ)) (gs : List (List (List ℕ))) → AllStand r d (g ∷ gs)
    → (eq_by_cmp path_cmp p g ≡ true) ⊎ ((r p ≡ true) × (is_some (d p).node ≡ true)) → (r p ≡ true) × (is_some (d p).node ≡ true)
stand_tail r d p g gs all (inl tied) = subst (λ x. (r x ≡ true) × (is_some (d x).node ≡ true)) (sym (same_path p g tied)) (all.0, all.1)
stand_tail r d p g gs all (inr rest) = rest

-- what is among them stands
pub in_stand : (r : List (List ℕ) → Bool) (d : Places) (p : List (List ℕ)) (ps : List (List (List ℕ))) → AllStand r d ps → is_one_of p ps ≡ true → (r p ≡ true) × (is_some (d p).node ≡ true)
in_stand r d p [] all is = absurd (false≢true is)
in_stand r d p (g ∷ gs) all is = stand_tail r d p g gs all (in_either r d p g gs (in_stand r d p gs all.2) (or_cases (eq_by_cmp path_cmp p g) (is_one_of p gs) is))
  where
    in_either : (r : List (List ℕ) → Bool) (d : Places) (p g : List (List ℕ)) (gs : List (List (List ℕ))) → (is_one_of p gs ≡ true → (r p ≡ true) × (is_some (d p).node ≡ true))
        → (eq_by_cmp path_cmp p g ≡ true) ⊎ (is_one_of p gs ≡ true) → (eq_by_cmp path_cmp p g ≡ true) ⊎ ((r p ≡ true) × (is_some (d p).node ≡ true))
    in_either r d p g gs gives (inl tied) = inl tied
    in_either r d p g gs gives (inr rest) = inr (gives rest)

distinct_append : (gs hs : List (List (List ℕ))) → AreDistinct gs → AreDistinct hs → ((p : List (List ℕ)) → is_one_of p gs ≡ true → is_one_of p hs ≡ false) → AreDistinct (gs ++ hs)
distinct_append [] hs one two apart = two
distinct_append (g ∷ gs) hs one two apart = (
  in_append g gs hs ∙ ap (λ b. b || is_one_of g hs) one.0 ∙ apart g (or_left _ _ (tied_path g g refl)),
  distinct_append gs hs one.1 two (λ p is. apart p (or_right _ _ is)),
)

pub gone_none : (r : List (List ℕ) → Bool) (d e : Places) (gone : List (List (List ℕ))) → AreGone r d e gone → (p : List (List ℕ)) → is_one_of p gone ≡ true → (e p).node ≡ None
gone_none r d e gone are p is = are.now p ∙ cond-true _ None (d p).node is

both_tests : (a b : Bool) (x : Option Rattle.ext_disk.specs.Disk.Node) → cond b None (cond a None x) ≡ cond (a || b) None x
both_tests true true x = refl
both_tests true false x = refl
both_tests false b x = refl

-- what stands after a part stood before it, and is not gone
pub still_stood : (r : List (List ℕ) → Bool) (d e : Places) (gone : List (List (List ℕ))) → AreGone r d e gone → (p : List (List ℕ)) → is_some (e p).node ≡ true → is_some (d p).node ≡ true
still_stood r d e gone are p some = elim (cases_Bool (is_one_of p gone)) [
  | inl is ↦ absurd (no_some _ (e p).node (gone_none r d e gone are p is) some)
  | inr out ↦ sym (ap is_some (are.now p ∙ cond-false _ None (d p).node out)) ∙ some
]

pub gone_then : (near far whole : List (List ℕ) → Bool) (c d e : Places) (gs hs : List (List (List ℕ)))
    → ((p : List (List ℕ)) → near p ≡ true → whole p ≡ true) → ((p : List (List ℕ)) → far p ≡ true → whole p ≡ true)
    → AreGone near c d gs → AreGone far d e hs → AreGone whole c e (gs ++ hs)
gone_then near far whole c d e gs hs near_in far_in one two = record {
  stood = record {
    distinct = distinct_append gs hs one.stood.distinct two.stood.distinct
        (λ p is. contrapose' (is_one_of p hs) (λ also. no_some _ (d p).node (gone_none near c d gs one p is) (in_stand far d p hs two.stood.all also).1));
    all = stand_append whole c gs hs
        (stand_map near whole c c gs (λ p r some. (near_in p r, some)) one.stood.all)
        (stand_map far whole c d hs (λ p r some. (far_in p r, still_stood near c d gs one p some)) two.stood.all);
  };
  now = λ p.
      two.now p ∙ ap (λ x. cond (is_one_of p hs) None x) (one.now p) ∙ both_tests (is_one_of p gs) (is_one_of p hs) (c p).node
      ∙ ap (λ b. cond b None (c p).node) (sym (in_append p gs hs));
}
  where
    contrapose' : (b : Bool) → (b ≡ true → ⊥) → b ≡ false
    contrapose' true never = absurd (never refl)
    contrapose' false never = refl

pub gone_nothing : (r : List (List ℕ) → Bool) (d e : Places) → e ≡ d → AreGone r d e []
gone_nothing r d e same = record { stood = record { distinct = tt; all = tt }; now = λ p. ap (λ x. (x p).node) same }

abbrev pub done : (T : Type 0) → T → Result T CleanErr
done T t = Ok t

abbrev pub failed : (T : Type 0) → CleanErr → Result T CleanErr
failed T e = Err e

counts_then : {T U : Type 0} (t : T) (r : Result U CleanErr) (n m before mid after : ℕ) → n + mid ≡ before → CountsGone r m mid after → CountsGone r (n + m) before after
counts_then t (Ok u) n m before mid after one two = omega arith
counts_then t (Err DiskFault) n m before mid after one two = omega arith
counts_then t (Err OutOfMemory) n m before mid after one two = omega arith
counts_then t (Err Unfinished) n m before mid after one two = (omega (arith, two.0), two.1)

ends_then : {U : Type 0} (near far whole : List (List ℕ) → Bool) (r : Result U CleanErr) (d e : Places) (hs : List (List (List ℕ)))
    → ((p : List (List ℕ)) → far p ≡ true → whole p ≡ true) → (is_ok r ≡ true → (p : List (List ℕ)) → whole p ≡ true → (near p ≡ true) ⊎ (far p ≡ true))
    → IsClear near d → AreGone far d e hs → EndsRemoval far r e → EndsRemoval whole r e
ends_then near far whole (Ok u) d e hs far_in covers clear two ends = λ p is. elim (covers refl p is) [
  | inl left ↦ none_or_some _ (e p).node (λ some. no_some _ (d p).node (clear p left) (still_stood far d e hs two p some))
  | inr right ↦ ends p right
]
ends_then near far whole (Err DiskFault) d e hs far_in covers clear two ends = tt
ends_then near far whole (Err OutOfMemory) d e hs far_in covers clear two ends = tt
ends_then near far whole (Err Unfinished) d e hs far_in covers clear two ends = (ends.0, far_in ends.0 ends.1, ends.2)

-- a part that was done, and then another
pub clears_then : {U : Type 0} (T : Type 0) (near far whole : List (List ℕ) → Bool) (t : T) (r : Result U CleanErr) (before mid after : ℕ) (a b c : DiskState)
    → ((p : List (List ℕ)) → near p ≡ true → whole p ≡ true) → ((p : List (List ℕ)) → far p ≡ true → whole p ≡ true)
    → (is_ok r ≡ true → (p : List (List ℕ)) → whole p ≡ true → (near p ≡ true) ⊎ (far p ≡ true))
    → Clears near (done T t) before mid a b → Clears far r mid after b c → Clears whole r before after a c
clears_then T near far whole t r before mid after a b c near_in far_in covers one two = record {
  spares = spares_then whole a b c
      (spares_wider near whole a b (λ p out. contrapose (near p) (whole p) (near_in p) out) one.spares)
      (spares_wider far whole b c (λ p out. contrapose (far p) (whole p) (far_in p) out) two.spares);
  told = told_then (ClearsTold near (done T t) before mid) (ClearsTold far r mid after) (ClearsTold whole r before after)
      (λ x y z first then. record {
        gone = first.gone ++ then.gone;
        are = gone_then near far whole x.places y.places z.places first.gone then.gone near_in far_in first.are then.are;
        counts = subst (λ n. CountsGone r n before after) (sym (length-append first.gone then.gone))
            (counts_then t r (length first.gone) (length then.gone) before mid after first.counts then.counts);
        ends = ends_then near far whole r y.places z.places then.gone far_in covers first.ends then.are then.ends;
        appended = then.appended ∙ first.appended;
      }) a.told b.told c.told one.told two.told;
}
