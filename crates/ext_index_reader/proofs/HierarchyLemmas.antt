-- The lines of hierarchies, read and printed.
use Rattle.std.proofs.Common.{◌≡◌, ◌≢◌, ℕ, zero, suc, ◌+◌, ◌<◌, ◌≤◌, Bool, true, false, not, ◌||◌, inl, inr, List, [], ◌∷◌, ◌++◌, length, IsTrue, refl, sym, ap, ◌∙◌, subst, arith, append_assoc, append-nil, length-append}
use Rattle.std.specs.Prelude.{map, Contains}
use Rattle.std.proofs.lemmas.Bool.{false_from_ne_true, not-true, true≢false}
use Rattle.std.proofs.lemmas.List.Elements.{Contains-append_left, Contains-push, Contains-push_cases}
use Rattle.std.specs.List.{AllByRecursion}
use Rattle.std.specs.Ordering.{eq_by_cmp}
use Rattle.ext_lines.specs.ByteOrder.{bytes_cmp, bytes_total}
use Rattle.ext_text.specs.Name.{IsName}
use Rattle.ext_text.specs.declared.extension.Extension.TheVariants.{Sysext, Confext}
use Rattle.ext_text.proofs.ForCallers.{all_append, same_name, tied_name}
use Rattle.ext_host.specs.Valid.{AreAscending}
use Rattle.ext_index_lines.specs.Lines.{hierarchy_line}
use Rattle.ext_index_reader.specs.State.{at, at_part, then_hierarchies, with_confext_hier, with_sysext_hier}
use Rattle.ext_index_reader.specs.Following.{may_follow}
use Rattle.ext_index_reader.specs.Step.{MayConfext, MaySysext, has_name}
use Rattle.ext_index_reader.specs.declared.state.PartStage.TheVariants as parts
use Rattle.ext_index_reader.specs.declared.state.SoFar.{SoFar}
use Rattle.ext_index_reader.specs.declared.state.Stage.TheVariants as stages
use Rattle.ext_index_reader.proofs.FollowLemmas.{ascending_follows, ascending_more}
use Rattle.ext_index_reader.proofs.MergedLemmas.{map_same}
use Rattle.ext_index_reader.proofs.SectionLemmas.{ToEnd, first_line_of}

-- with more hierarchies of both classes
abbrev pub with_classes : SoFar → List (List ℕ) → List (List ℕ) → SoFar
with_classes s sysext confext = record s { sysext_hier = s.sysext_hier ++ sysext; confext_hier = s.confext_hier ++ confext }

pub no_more : (s : SoFar) → with_classes s [] [] ≡ s
no_more s = λ i. record s { sysext_hier = append-nil s.sysext_hier i; confext_hier = append-nil s.confext_hier i }

pub more_sysext : (s : SoFar) (name : List ℕ) (xs ys : List (List ℕ)) → with_classes (with_sysext_hier s name) xs ys ≡ with_classes s (name ∷ xs) ys
more_sysext s name xs ys = λ i. record s { sysext_hier = append_assoc s.sysext_hier (name ∷ []) xs i; confext_hier = s.confext_hier ++ ys }

pub more_confext : (s : SoFar) (name : List ℕ) (xs ys : List (List ℕ)) → with_classes (with_confext_hier s name) xs ys ≡ with_classes s xs (name ∷ ys)
more_confext s name xs ys = λ i. record s { sysext_hier = s.sysext_hier ++ xs; confext_hier = append_assoc s.confext_hier (name ∷ []) ys i }

-- the hierarchies of both classes, however many they are
pub record AreClasses (s : SoFar) : Type 0 where
  pub sysext_names : AllByRecursion IsName s.sysext_hier
  pub confext_names : AllByRecursion IsName s.confext_hier
  pub sysext_order : AreAscending bytes_cmp s.sysext_hier
  pub confext_order : AreAscending bytes_cmp s.confext_hier
  pub sysext_few : length s.sysext_hier ≤ 16
  pub confext_few : length s.confext_hier ≤ 16
  pub apart : AllByRecursion (λ name. ¬ Contains s.confext_hier name) s.sysext_hier

contains_none : (names : List (List ℕ)) (name : List ℕ) → names ≡ [] → ¬ Contains names name
contains_none names name none has = let zero : length names ≡ 0 = ap length none in let low = has.1 in omega arith

all_none : (xs names : List (List ℕ)) → names ≡ [] → AllByRecursion (λ name. ¬ Contains names name) xs
all_none [] names none = tt
all_none (x ∷ xs) names none = (contains_none names x none, all_none xs names none)

-- a name that is none of some is another than each of them
each_other : (xs : List (List ℕ)) (name : List ℕ) → IsTrue (not (has_name xs name)) → AllByRecursion (λ x. x ≢ name) xs
each_other [] name test = tt
each_other (x ∷ xs) name test =
    let out = not-true _ test in
    ((λ same. true≢false (sym (λ i. tied_name x name same i || has_name xs name) ∙ out)), each_other xs name (ap not (rest (eq_by_cmp bytes_cmp x name) (has_name xs name) out)))
  where
    rest : (a b : Bool) → (a || b) ≡ false → b ≡ false
    rest true b e = absurd (true≢false e)
    rest false b e = e

apart_more : (xs names : List (List ℕ)) (name : List ℕ) → AllByRecursion (λ x. ¬ Contains names x) xs → AllByRecursion (λ x. x ≢ name) xs → AllByRecursion (λ x. ¬ Contains (names ++ name ∷ []) x) xs
apart_more [] names name apart other = tt
apart_more (x ∷ xs) names name apart other =
    ((λ has. elim (Contains-push_cases names name x has) [ inl old ↦ apart.0 old | inr new ↦ other.0 (sym new) ]), apart_more xs names name apart.1 other.1)

-- and back
pub none_of : (xs names more : List (List ℕ)) (name : List ℕ) → AllByRecursion (λ x. ¬ Contains (names ++ name ∷ more) x) xs → has_name xs name ≡ false
none_of [] names more name apart = refl
none_of (x ∷ xs) names more name apart =
    let out : eq_by_cmp bytes_cmp x name ≡ false = false_from_ne_true _ (λ tied. apart.0 (subst (Contains (names ++ name ∷ more)) (sym (same_name x name tied)) (there names more name))) in
    (λ i. out i || none_of xs names more name apart.1 i)
  where
    there : (names more : List (List ℕ)) (name : List ℕ) → Contains (names ++ name ∷ more) name
    there names more name = subst (λ ns. Contains ns name) (append_assoc names (name ∷ []) more) (Contains-append_left (names ++ name ∷ []) more name (Contains-push names name))

plain_more : (xs : List (List ℕ)) (name : List ℕ) → AreAscending bytes_cmp xs → IsTrue (may_follow bytes_cmp (λ n. n) xs name) → AreAscending bytes_cmp (xs ++ name ∷ [])
plain_more xs name up follows = subst (AreAscending bytes_cmp) (map_same (xs ++ name ∷ [])) (ascending_more bytes_cmp (λ n. n) bytes_total.trans xs name (subst (AreAscending bytes_cmp) (sym (map_same xs)) up) follows)

pub plain_follows : (xs : List (List ℕ)) (name : List ℕ) (more : List (List ℕ)) → AreAscending bytes_cmp (xs ++ name ∷ more) → IsTrue (may_follow bytes_cmp (λ n. n) xs name)
plain_follows xs name more up = ascending_follows bytes_cmp (λ n. n) xs name more (subst (AreAscending bytes_cmp) (sym (map_same (xs ++ name ∷ more))) up)

sysext_more : (s : SoFar) (more : ℕ) (name : List ℕ) → AreClasses s → IsName name → MaySysext s more name → AreClasses (with_sysext_hier s name)
sysext_more s more name are is may = record {
  sysext_names = all_append IsName s.sysext_hier (name ∷ []) are.sysext_names (is, tt);
  confext_names = are.confext_names;
  sysext_order = plain_more s.sysext_hier name are.sysext_order may.order;
  confext_order = are.confext_order;
  sysext_few = let long = length-append s.sysext_hier (name ∷ []) in let few = may.few in omega arith;
  confext_few = are.confext_few;
  apart = all_none (s.sysext_hier ++ name ∷ []) s.confext_hier may.first;
}

confext_more : (s : SoFar) (more : ℕ) (name : List ℕ) → AreClasses s → IsName name → MayConfext s more name → AreClasses (with_confext_hier s name)
confext_more s more name are is may = record {
  sysext_names = are.sysext_names;
  confext_names = all_append IsName s.confext_hier (name ∷ []) are.confext_names (is, tt);
  sysext_order = are.sysext_order;
  confext_order = plain_more s.confext_hier name are.confext_order may.order;
  sysext_few = are.sysext_few;
  confext_few = let long = length-append s.confext_hier (name ∷ []) in let few = may.few in omega arith;
  apart = apart_more s.sysext_hier s.confext_hier name are.apart (each_other s.sysext_hier name may.other);
}

abbrev pub class_lines : List (List ℕ) → List (List ℕ) → List (List ℕ)
class_lines sysext confext = map (hierarchy_line Sysext) sysext ++ map (hierarchy_line Confext) confext

module _ (g : ℕ) (e : SoFar) where
  pub record ClassesRead (s : SoFar) (n : ℕ) (lines : List (List ℕ)) : Type 0 where
    pub sysext : List (List ℕ)
    pub confext : List (List ℕ)
    pub rest : List (List ℕ)
    pub text : lines ≡ class_lines sysext confext ++ rest
    pub count : length sysext + length confext ≡ n
    pub late : 0 < length s.confext_hier → sysext ≡ []
    pub run : ToEnd g e (at_part (with_classes s sysext confext) parts.Sysext) rest
    pub are : AreClasses (with_classes s sysext confext)
    pub some : 0 < n → (0 < length (s.sysext_hier ++ sysext)) × (0 < length (s.confext_hier ++ confext))

  pub classes_read : (n : ℕ) (s : SoFar) (lines : List (List ℕ)) → AreClasses s → ToEnd g e (then_hierarchies s n) lines → ClassesRead s n lines
  classes_read zero s lines are run = record {
    sysext = [];
    confext = [];
    rest = lines;
    text = refl;
    count = refl;
    late = λ _. refl;
    run = subst (λ z. ToEnd g e (at_part z parts.Sysext) lines) (sym (no_more s)) run;
    are = subst AreClasses (sym (no_more s)) are;
    some = λ h. absurd (omega arith);
  }
  classes_read (suc more) s lines are run =
      let first = first_line_of g e (at s (stages.Hierarchy more)) lines (λ z. cc) run in
      elim first.step [
        | inl f ↦ after_sysext s more lines first.line first.rest f.0 first.text f.3 f.2 (classes_read more (with_sysext_hier s f.0) first.rest (sysext_more s more f.0 are f.1 f.2) (subst (λ r. ToEnd g e r first.rest) f.4 first.run))
        | inr f ↦ after_confext s more lines first.line first.rest f.0 first.text f.3 f.2 (classes_read more (with_confext_hier s f.0) first.rest (confext_more s more f.0 are f.1 f.2) (subst (λ r. ToEnd g e r first.rest) f.4 first.run))
      ]
    where
      after_sysext : (s : SoFar) (more : ℕ) (lines : List (List ℕ)) (line : List ℕ) (rest : List (List ℕ)) (name : List ℕ) → lines ≡ line ∷ rest → line ≡ hierarchy_line Sysext name → MaySysext s more name → ClassesRead (with_sysext_hier s name) more rest → ClassesRead s (suc more) lines
      after_sysext s more lines line rest name text is may r =
          let shape = append_assoc s.sysext_hier (name ∷ []) r.sysext in
          record {
            sysext = name ∷ r.sysext;
            confext = r.confext;
            rest = r.rest;
            text = text ∙ (λ i. is i ∷ r.text i);
            count = let count = r.count in omega arith;
            late = λ some. let none : length s.confext_hier ≡ 0 = ap length may.first in absurd (omega arith);
            run = subst (λ z. ToEnd g e (at_part z parts.Sysext) r.rest) (more_sysext s name r.sysext r.confext) r.run;
            are = subst AreClasses (more_sysext s name r.sysext r.confext) r.are;
            some = λ _. let both = r.some may.last in (subst (λ (ns : List (List ℕ)). 0 < length ns) shape both.0, both.1);
          }

      after_confext : (s : SoFar) (more : ℕ) (lines : List (List ℕ)) (line : List ℕ) (rest : List (List ℕ)) (name : List ℕ) → lines ≡ line ∷ rest → line ≡ hierarchy_line Confext name → MayConfext s more name → ClassesRead (with_confext_hier s name) more rest → ClassesRead s (suc more) lines
      after_confext s more lines line rest name text is may r =
          let long = length-append s.confext_hier (name ∷ []) in
          let none = r.late (omega arith) in
          let all = more_confext s name r.sysext r.confext ∙ ap (λ (xs : List (List ℕ)). with_classes s xs (name ∷ r.confext)) none in
          let grown = length-append s.confext_hier (name ∷ r.confext) in
          record {
            sysext = [];
            confext = name ∷ r.confext;
            rest = r.rest;
            text = text ∙ (λ i. is i ∷ r.text i) ∙ ap (λ (xs : List (List ℕ)). hierarchy_line Confext name ∷ (class_lines xs r.confext ++ r.rest)) none;
            count = let count = r.count in let zero : length r.sysext ≡ 0 = ap length none in omega arith;
            late = λ _. refl;
            run = subst (λ z. ToEnd g e (at_part z parts.Sysext) r.rest) all r.run;
            are = subst AreClasses all r.are;
            some = λ _. (
              elim may.last [
                | inl some_more ↦ subst (λ (xs : List (List ℕ)). 0 < length (s.sysext_hier ++ xs)) none (r.some some_more).0
                | inr some_before ↦ subst (λ (xs : List (List ℕ)). 0 < length xs) (sym (append-nil s.sysext_hier)) some_before
              ],
              omega arith,
            );
          }
