-- Bytes have one first faulty line at most, and bytes that are texts have none.
use Rattle.std.proofs.Common.{◌≡◌, ℕ, ◌-◌, ◌<◌, ◌≤◌, List, [], ◌∷◌, ◌++◌, length, take, drop, take-append-drop, sym, ap, ◌∙◌, subst, arith, append_assoc}
use Rattle.std.specs.Prelude.{◌⊎◌, map}
use mathlib.Core.Logic.{inl, inr}
use Rattle.std.proofs.lemmas.Bool.{cases_lt}
use Rattle.std.proofs.lemmas.List.{append-nil, take_all, take-take}
use Rattle.std.specs.List.{flat_map}
use Rattle.ext_tree.specs.declared.stamp.Stamp.{Stamp}
use Rattle.ext_tree.specs.Tree.{Entries}
use Rattle.ext_tree.specs.TreeText.{IsSequence, IsTreeText, tree_lines, tree_text}
use Rattle.ext_tree.specs.FirstFault.{AtLeastOne, Begins, EndsIdle, IsFaultyLine, IsEarlyEnd}
use Rattle.ext_lines.specs.Lines.{whole_lines}
use Rattle.ext_tree.specs.Laws.{NoFaultInText, NoFaultInSequence, PrefixesBegin, OneFirstFault}
use Rattle.ext_tree.proofs.IdleLemmas.{none_ends_idle}
use Rattle.ext_tree.proofs.SequenceLemmas.{loosely, loosely_each, loosely_lines, loosely_trees}
use Rattle.ext_tree.proofs.FirstFaultLemmas.{sequence_lines}

-- one text is a sequence
pub one_text : (bytes : List ℕ) (tree : Entries Stamp) → IsTreeText bytes tree → IsSequence bytes (tree ∷ [])
one_text bytes tree is = record { non_empty = omega arith; each = (is.tree, tt); text = is.text ∙ sym (append-nil (tree_text tree)) }

pub no_fault_in_text : NoFaultInText
no_fault_in_text bytes tree line is fault = fault.none (tree ∷ []) (omega arith) (one_text bytes tree is)

pub no_fault_in_sequence : NoFaultInSequence
no_fault_in_sequence bytes trees line is fault = fault.none trees is.non_empty is

pub prefixes_begin : PrefixesBegin
prefixes_begin bytes trees line sequence =
    let lines : whole_lines bytes ≡ flat_map tree_lines trees = sequence_lines bytes trees sequence.each sequence.text in (
      record {
        texts = map loosely trees;
        more = drop line (whole_lines bytes);
        as_many = subst AtLeastOne (sym (loosely_trees trees)) sequence.non_empty;
        each = loosely_each trees sequence.each;
        text = take-append-drop line (whole_lines bytes) ∙ lines ∙ sym (loosely_lines trees);
      },
      λ idle. none_ends_idle trees [] sequence.each tt line (subst (λ xs. EndsIdle (take line xs)) (lines ∙ sym (append-nil (flat_map tree_lines trees))) idle),
    )

-- what begins with lines begins with fewer of them
fewer_begin : (wanted : List (Entries Stamp) → Type 0) (lines : List (List ℕ)) (n k : ℕ) → n ≤ k → Begins wanted (take k lines) → Begins wanted (take n lines)
fewer_begin wanted lines n k fewer begins = record {
  texts = begins.texts;
  more = drop n (take k lines) ++ begins.more;
  as_many = begins.as_many;
  each = begins.each;
  text = sym (append_assoc (take n lines) (drop n (take k lines)) begins.more)
      ∙ ap (λ xs. (xs ++ drop n (take k lines)) ++ begins.more) (sym (take-take n k lines fewer))
      ∙ ap (λ xs. xs ++ begins.more) (take-append-drop n (take k lines))
      ∙ begins.text;
}

faulty_apart : (wanted : List (Entries Stamp) → Type 0) (lines : List (List ℕ)) (k l : ℕ) → IsFaultyLine wanted lines k → IsFaultyLine wanted lines l → k < l → ⊥
faulty_apart wanted lines k l first second less = elim first.faulty [
  | inl idle ↦ second.not_before k less idle
  | inr not_begun ↦ not_begun (fewer_begin wanted lines k (l - 1) (omega arith) second.before)
]

not_early : (wanted : List (Entries Stamp) → Type 0) (lines : List (List ℕ)) (k l : ℕ) → IsFaultyLine wanted lines k → IsEarlyEnd wanted lines l → ⊥
not_early wanted lines k l faulty early = elim faulty.faulty [
  | inl idle ↦ early.not_before k (omega (arith, faulty.there, early.after)) idle
  | inr not_begun ↦ not_begun (fewer_begin wanted lines k (length lines) faulty.there (subst (Begins wanted) (sym (take_all (length lines) lines (omega arith))) early.before))
]

one_stop : (wanted : List (Entries Stamp) → Type 0) (lines : List (List ℕ)) (k l : ℕ) → IsFaultyLine wanted lines k ⊎ IsEarlyEnd wanted lines k → IsFaultyLine wanted lines l ⊎ IsEarlyEnd wanted lines l → k ≡ l
one_stop wanted lines k l (inl first) (inl second) = elim (cases_lt k l) [
  | inl less ↦ absurd (faulty_apart wanted lines k l first second less)
  | inr not_less ↦ elim (cases_lt l k) [
    | inl more ↦ absurd (faulty_apart wanted lines l k second first more)
    | inr not_more ↦ omega arith
  ]
]
one_stop wanted lines k l (inl first) (inr second) = absurd (not_early wanted lines k l first second)
one_stop wanted lines k l (inr first) (inl second) = absurd (not_early wanted lines l k second first)
one_stop wanted lines k l (inr first) (inr second) = omega (arith, first.after, second.after)

pub one_first_fault : (wanted : List (Entries Stamp) → Type 0) → OneFirstFault wanted
one_first_fault wanted bytes k l first second = one_stop wanted (whole_lines bytes) k l first.stop second.stop
