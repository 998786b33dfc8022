-- Lists of hierarchies: their texts, and names that are in none.
use Rattle.std.proofs.Common.{◌≡◌, ◌≢◌, ℕ, ◌<◌, ◌≤◌, Bool, true, false, List, [], ◌∷◌, ◌++◌, length, map, eqb, refl, sym, ap, ◌∙◌, subst, arith, append_assoc, length-append, append-nil}
use Rattle.std.specs.Prelude.{not, nat_eq, nat_lt}
use Rattle.std.specs.Cmp.Lexicographic.{bytes_decides, pointwise}
use Rattle.std.specs.List.{AllByRecursion, join_with_byte, slice_split}
use Rattle.std.proofs.lemmas.Bool.{and_from, and_parts, false≢true, lt-ltb, ltb-true, or_from, or_parts}
use Rattle.std.proofs.lemmas.List.{map-append}
use Rattle.std.proofs.lemmas.List.Elements.{All-tail}
use Rattle.std.proofs.lemmas.List.Splits.{join_with_byte-slice_split}
use Rattle.ext_lines.specs.Split.{IsSplit, Lacks}
use Rattle.ext_lines.proofs.ForCallers.{Differs, differs, first_part, lacks_cons, one_part}
use Rattle.ext_text.proofs.ForCallers.{all_append, all_back}
use Rattle.ext_cmd.specs.Grammar.{Spells}
use Rattle.ext_cmd.specs.Reading.{MayFollow, RefusesWord, are_apart, is_name_among, may_follow}
use Rattle.ext_cmd.specs.Plain.{IsPlainName}
use Rattle.ext_cmd.specs.Words.{AreDisjoint, AreDistinct, IsHierarchy, IsHierarchyList, IsNone, hierarchies_word, slashed}
use Rattle.ext_cmd.specs.declared.words.CmdErr.{CmdErr}
use Rattle.ext_cmd.specs.declared.words.CmdErr.TheVariants.{OutOfMemory, Usage}
use Rattle.ext_cmd.proofs.JoinLemmas.{split_joined}

-- a name that isn't among others is none of them
among_none : (name : List ℕ) (names : List (List ℕ)) → is_name_among name names ≡ false → IsNone name names
among_none name [] test = tt
among_none name (other ∷ names) test =
    let parts = or_parts (pointwise nat_eq other name) (is_name_among name names) test in
    (λ same. false≢true (sym parts.0 ∙ (bytes_decides other name).1 (sym same)), among_none name names parts.1)

none_among : (name : List ℕ) (names : List (List ℕ)) → IsNone name names → is_name_among name names ≡ false
none_among name [] none = refl
none_among name (other ∷ names) none =
    or_from (pointwise nat_eq other name) (is_name_among name names) (other_test other name none.0) (none_among name names none.1)
  where
    not_both : (b : Bool) → (b ≡ true → ⊥) → b ≡ false
    not_both false never = refl
    not_both true never = absurd (never refl)

    other_test : (other name : List ℕ) → name ≢ other → pointwise nat_eq other name ≡ false
    other_test other name differ = not_both (pointwise nat_eq other name) (λ test. differ (sym ((bytes_decides other name).0 test)))

not_true : (b : Bool) → not b ≡ true → b ≡ false
not_true false test = refl
not_true true test = absurd (false≢true test)

-- names whose test is passed are apart
pub apart_true : (names others : List (List ℕ)) → are_apart names others ≡ true → AreDisjoint names others
apart_true [] others test = tt
apart_true (name ∷ names) others test =
    let parts = and_parts (not (is_name_among name others)) (are_apart names others) test in
    (among_none name others (not_true (is_name_among name others) parts.0), apart_true names others parts.1)

pub apart_test : (names others : List (List ℕ)) → AreDisjoint names others → are_apart names others ≡ true
apart_test [] others apart = refl
apart_test (name ∷ names) others apart =
    and_from (not (is_name_among name others)) (are_apart names others) (ap not (none_among name others apart.0)) (apart_test names others apart.1)

-- what a test of equal lists has told
pub told_apart : (x names y others : List (List ℕ)) (b : Bool) → x ≡ names → y ≡ others → b ≡ are_apart x y → are_apart names others ≡ b
told_apart x names y others b same also test = sym (test ∙ ap (λ (ns : List (List ℕ)). are_apart ns y) same ∙ ap (are_apart names) also)

-- a name of a hierarchy whose test is passed may follow
pub follows : (names : List (List ℕ)) (name : List ℕ) → IsHierarchy name → may_follow names name ≡ true → MayFollow names name
follows names name is test =
    let parts = and_parts (nat_lt (length names) 16) (not (is_name_among name names)) test in
    record { hierarchy = is; new = among_none name names (not_true (is_name_among name names) parts.1); few = ltb-true (length names) 16 parts.0 }

pub follows_test : (names : List (List ℕ)) (name : List ℕ) → MayFollow names name → may_follow names name ≡ true
follows_test names name may = and_from (nat_lt (length names) 16) (not (is_name_among name names)) (lt-ltb (length names) 16 may.few) (ap not (none_among name names may.new))

-- a name that lacks the colon, after a slash
pub hierarchy_of : (part name : List ℕ) → Lacks 58 part → part ≡ slashed name → IsPlainName name → IsHierarchy name
hierarchy_of part name lacks same plain = record { plain = plain; no_colon = All-tail (Differs 58) 47 name (subst (Lacks 58) same lacks) }

-- a part whose name doesn't pass the test
pub follow_refused : (names : List (List ℕ)) (part name : List ℕ) (place : ℕ) → part ≡ slashed name → may_follow names name ≡ false → RefusesWord (Spells slashed (MayFollow names)) part place (Usage place)
follow_refused names part name place same test =
    (refl, λ it. let value : it.value ≡ name = cc (it.same, same) in false≢true (sym test ∙ subst (λ (n : List ℕ). may_follow names n ≡ true) value (follows_test names it.value it.is)))

slashed_lack : (names : List (List ℕ)) → AllByRecursion IsHierarchy names → AllByRecursion (Lacks 58) (map slashed names)
slashed_lack [] each = tt
slashed_lack (name ∷ names) each = (lacks_cons 58 47 name (differs 58 47 (λ e. omega arith)) each.0.no_colon, slashed_lack names each.1)

some_parts : (names : List (List ℕ)) → 0 < length names → 0 < length (map slashed names)
some_parts [] some = absurd (omega arith)
some_parts (name ∷ names) some = omega arith

-- the parts of the word of a list are its names after slashes
parts_of_word : (names : List (List ℕ)) → IsHierarchyList names → slice_split (λ b. eqb b 58) (hierarchies_word names) ≡ map slashed names
parts_of_word names are = split_joined 58 (map slashed names) (some_parts names are.non_empty) (slashed_lack names are.each)

unslashed : (names others : List (List ℕ)) → map slashed names ≡ map slashed others → names ≡ others
unslashed [] [] same = refl
unslashed [] (other ∷ others) same = cc
unslashed (name ∷ names) [] same = cc
unslashed (name ∷ names) (other ∷ others) same =
    let rest : names ≡ others = unslashed names others (cc) in
    cc

-- lists with one word are equal
pub one_list : (names others : List (List ℕ)) → IsHierarchyList names → IsHierarchyList others → hierarchies_word names ≡ hierarchies_word others → names ≡ others
one_list names others are also same =
    unslashed names others (sym (parts_of_word names are) ∙ ap (slice_split (λ b. eqb b 58)) same ∙ parts_of_word others also)

-- the names so far
pub record AreSoFar (names : List (List ℕ)) : Type 0 where
  pub few : length names ≤ 16
  pub each : AllByRecursion IsHierarchy names
  pub distinct : AreDistinct names

-- the parts of the word are the names so far after slashes, and those of the rest
pub record ReadsOn (word rest : List ℕ) (names : List (List ℕ)) : Type 0 where
  pub parts : slice_split (λ b. eqb b 58) word ≡ map slashed names ++ slice_split (λ b. eqb b 58) rest
  pub are : AreSoFar names

distinct_push : (names : List (List ℕ)) (name : List ℕ) → AreDistinct names → IsNone name names → AreDistinct (names ++ name ∷ [])
distinct_push [] name are none = (tt, tt)
distinct_push (first ∷ names) name are none =
    (all_append (λ (o : List ℕ). first ≢ o) names (name ∷ []) are.0 (λ same. none.0 (sym same), tt), distinct_push names name are.1 none.1)

pub so_far : (names : List (List ℕ)) (name : List ℕ) → AreSoFar names → MayFollow names name → AreSoFar (names ++ name ∷ [])
so_far names name are may = record {
  few = omega (arith, length-append names (name ∷ []), may.few);
  each = all_append IsHierarchy names (name ∷ []) are.each (may.hierarchy, tt);
  distinct = distinct_push names name are.distinct may.new;
}

pub one_more : (names : List (List ℕ)) (name : List ℕ) (rest : List (List ℕ)) → map slashed names ++ slashed name ∷ rest ≡ map slashed (names ++ name ∷ []) ++ rest
one_more names name rest = sym (append_assoc (map slashed names) (slashed name ∷ []) rest) ∙ ap (λ (l : List (List ℕ)). l ++ rest) (sym (map-append slashed names (name ∷ [])))

-- the names that a list has after others, and the next of them
record Next (names all : List (List ℕ)) (part : List ℕ) : Type 0 where
  pub name : List ℕ
  pub more : List (List ℕ)
  pub part_is : part ≡ slashed name
  pub all_is : all ≡ names ++ name ∷ more

next_of : (names all : List (List ℕ)) (part : List ℕ) (rest : List (List ℕ)) → map slashed all ≡ map slashed names ++ part ∷ rest → Next names all part
next_of [] [] part rest same = absurd (cc)
next_of [] (name ∷ all) part rest same = record { name = name; more = all; part_is = cc; all_is = refl }
next_of (first ∷ names) [] part rest same = absurd (cc)
next_of (first ∷ names) (name ∷ all) part rest same =
    let next = next_of names all part rest (cc) in
    record { name = next.name; more = next.more; part_is = next.part_is; all_is = cc (next.all_is) }

none_before : (names : List (List ℕ)) (name : List ℕ) (more : List (List ℕ)) → AreDistinct (names ++ name ∷ more) → IsNone name names
none_before [] name more are = tt
none_before (first ∷ names) name more are =
    ((λ same. (all_back (λ (o : List ℕ). first ≢ o) names (name ∷ more) are.0).0 (sym same)), none_before names name more are.1)

-- a part that may not stand there makes the whole the word of no list
pub part_refused : (word part : List ℕ) (names rest : List (List ℕ)) (place : ℕ) (e : CmdErr) → slice_split (λ b. eqb b 58) word ≡ map slashed names ++ part ∷ rest → RefusesWord (Spells slashed (MayFollow names)) part place e → RefusesWord (Spells hierarchies_word IsHierarchyList) word place e
part_refused word part names rest place OutOfMemory parts refused = tt
part_refused word part names rest place (Usage at) parts refused = (
  refused.0,
  λ it.
      let next = next_of names it.value part rest (sym (parts_of_word it.value it.is) ∙ ap (slice_split (λ b. eqb b 58)) (sym it.same) ∙ parts) in
      let each = subst (AllByRecursion IsHierarchy) next.all_is it.is.each in
      refused.1 (record {
        value = next.name;
        is = record {
          hierarchy = (all_back IsHierarchy names (next.name ∷ next.more) each).0;
          new = none_before names next.name next.more (subst AreDistinct next.all_is it.is.distinct);
          few = omega (arith, it.is.at_most_16, ap length next.all_is, length-append names (next.name ∷ next.more));
        };
        same = next.part_is;
      }),
)

-- no part was read
pub no_names : (word : List ℕ) → ReadsOn word word []
no_names word = record { parts = refl; are = record { few = omega arith; each = tt; distinct = tt } }

-- one part more
pub goes_on : (word rest part after : List ℕ) (names : List (List ℕ)) (name : List ℕ) → ReadsOn word rest names → IsSplit 58 rest part after → MayFollow names name → part ≡ slashed name → ReadsOn word after (names ++ name ∷ [])
goes_on word rest part after names name on split may same = record {
  parts =
      on.parts ∙ ap (λ (l : List (List ℕ)). map slashed names ++ l) (first_part 58 rest part after split)
      ∙ ap (λ (p : List ℕ). map slashed names ++ p ∷ slice_split (λ b. eqb b 58) after) same
      ∙ one_more names name (slice_split (λ b. eqb b 58) after);
  are = so_far names name on.are may;
}

-- the last part makes the whole the word of the list
pub ends_so : (word rest : List ℕ) (names : List (List ℕ)) (name : List ℕ) → ReadsOn word rest names → Lacks 58 rest → MayFollow names name → rest ≡ slashed name → IsHierarchyList (names ++ name ∷ []) × (word ≡ hierarchies_word (names ++ name ∷ []))
ends_so word rest names name on lacks may same =
    let are = so_far names name on.are may in
    let parts =
    on.parts ∙ ap (λ (l : List (List ℕ)). map slashed names ++ l) (one_part 58 rest lacks)
    ∙ ap (λ (p : List ℕ). map slashed names ++ p ∷ []) same ∙ one_more names name [] ∙ append-nil (map slashed (names ++ name ∷ [])) in (
      record { non_empty = omega (arith, length-append names (name ∷ [])); at_most_16 = are.few; each = are.each; distinct = are.distinct },
      sym (join_with_byte-slice_split 58 word) ∙ ap (join_with_byte 58) parts,
    )
