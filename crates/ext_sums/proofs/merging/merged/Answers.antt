use Rattle.std.proofs.Common.{◌≡◌, ◌∙◌, ◌++◌, ◌∷◌, [], ◌-◌, List, ap, arith, append-nil, append_assoc, cond, length, refl, rules, subst, sym}
use Rattle.std.specs.Prelude.{None, Some, slice_get}
use Rattle.std.specs.Result.{is_ok}
use Rattle.std.specs.Vec.Iter.{into_iter_items}
use Rattle.std.proofs.lemmas.List.Elements.{All-nil}
use Rattle.ext_sums.specs.declared.merging.Numbered.{Numbered}
use Rattle.ext_sums.specs.declared.merging.Standing.{Standing}
use Rattle.ext_sums.specs.declared.merging.Standing.TheVariants.{New, Same, Other}
use Rattle.ext_sums.specs.declared.sums.Listed.{Listed}
use Rattle.ext_sums.specs.Merging.{Agrees, AreByName, IsMerge, standing_of}
use Rattle.ext_sums.specs.Sums.{entries_of}
use Rattle.ext_sums.proofs.FoundLemmas.{last_of}
use Rattle.ext_sums.proofs.MergingLemmas.{IsMergedSoFar, last_is, new_name, not_below, other_digest, same_digest}
use Rattle.ext_sums.proofs.merging.merged.Goals as goal

all_taken : (all done rest : List Numbered) → all ≡ done ++ rest → length rest ≡ 0 → all ≡ done
all_taken all done [] split none = split ∙ append-nil done
all_taken all done (x ∷ rest) split none = absurd (omega arith)

standing : (listed seen : List Listed) (next : Listed) (s : Standing) → seen ≡ listed → s ≡ standing_of (slice_get seen (length seen - 1)) next → standing_of (last_of listed) next ≡ s
standing listed seen next s same is =
    ap (λ o. standing_of o next) (sym (last_is listed)) ∙ ap (λ ls. standing_of (slice_get ls (length ls - 1)) next) (sym same) ∙ sym is

pub loop-each-init : goal.loop-each-init
loop-each-init c =
    let gives = c.into_iter-each-iterator.ensures.into_iter_gives in
    let empty : c.in_ok-listed.listed.items ≡ [] = search rules in record {
      split = sym gives.0;
      left = gives.1 ∙ c.args.lines.ok.0 ∙ sym (ap length gives.0);
      so_far = subst (λ ls. IsMergedSoFar [] ls None) (sym empty) (record { sorted = refl; names = λ name. refl; last = refl; least = All-nil (Agrees []) });
    }

pub loop-each-preserved-in-Continue-branch-2 : goal.loop-each-preserved-in-Continue-branch-2
loop-each-preserved-in-Continue-branch-2 c =
    let done = c.loop-each.yielded in
    let x = c.in-Some.each in
    let rest = into_iter_items c.next.new.self in
    let all : c.args.lines.items ≡ done ++ x ∷ rest = c.loop-each.invariant.split ∙ ap (λ l. done ++ l) c.in-Some.ensures.steps.0 in
    let is = standing c.loop-each.listed.items c.as_slice.result.now x.listed New c.as_slice.ensures.value c.in-New.ensures in
    let pushed : c.push.new.self.items ≡ c.loop-each.listed.items ++ x.listed ∷ [] = c.push.ensures.items ∙ ap (λ r. cond (is_ok r) (c.loop-each.listed.items ++ x.listed ∷ []) c.loop-each.listed.items) c.in_ok-allocated-in-New.ensures in
    record {
      split = all ∙ sym (append_assoc done (x ∷ []) rest);
      left =
          let gone = c.in-Some.ensures.steps.1 in
          let short = ap length c.in-Some.ensures.steps.0 in
          let was = c.loop-each.invariant.left in
          omega arith;
      so_far = subst (λ ls. IsMergedSoFar (done ++ x ∷ []) ls c.loop-each.conflict) (sym pushed)
          (new_name done c.loop-each.listed.items c.loop-each.conflict c.loop-each.invariant.so_far x (λ n last. not_below done rest n x (subst AreByName all c.requires) last) is);
    }

pub loop-each-preserved-in-Same-1 : goal.loop-each-preserved-in-Same-1
loop-each-preserved-in-Same-1 c =
    let done = c.loop-each.yielded in
    let x = c.in-Some.each in
    let is = standing c.loop-each.listed.items c.as_slice.result.now x.listed Same c.as_slice.ensures.value c.in-Same.ensures in record {
      split = c.loop-each.invariant.split ∙ ap (λ l. done ++ l) c.in-Some.ensures.steps.0 ∙ sym (append_assoc done (x ∷ []) (into_iter_items c.next.new.self));
      left =
          let gone = c.in-Some.ensures.steps.1 in
          let short = ap length c.in-Some.ensures.steps.0 in
          let was = c.loop-each.invariant.left in
          omega arith;
      so_far = same_digest done c.loop-each.listed.items c.loop-each.conflict c.loop-each.invariant.so_far x is;
    }

pub loop-each-preserved : goal.loop-each-preserved
loop-each-preserved c =
    let done = c.loop-each.yielded in
    let x = c.in-Some.each in
    let is = standing c.loop-each.listed.items c.as_slice.result.now x.listed Other c.as_slice.ensures.value c.in-Other.ensures in record {
      split = c.loop-each.invariant.split ∙ ap (λ l. done ++ l) c.in-Some.ensures.steps.0 ∙ sym (append_assoc done (x ∷ []) (into_iter_items c.next.new.self));
      left =
          let gone = c.in-Some.ensures.steps.1 in
          let short = ap length c.in-Some.ensures.steps.0 in
          let was = c.loop-each.invariant.left in
          omega arith;
      so_far = subst (λ line. IsMergedSoFar (done ++ x ∷ []) c.loop-each.listed.items (Some line)) (sym c.least.ensures)
          (other_digest done c.loop-each.listed.items c.loop-each.conflict c.loop-each.invariant.so_far x is);
    }

pub returns : goal.returns
returns c =
    let whole = all_taken c.args.lines.items c.loop-each.yielded (into_iter_items c.loop-each.each-iterator) c.loop-each.invariant.split (sym c.loop-each.invariant.left ∙ c.in-None.ensures.steps.0) in
    let so = c.loop-each.invariant.so_far in
    subst (λ lines. IsMerge lines (entries_of c.loop-each.listed.items) c.loop-each.conflict) (sym whole) (record { sorted = so.sorted; names = so.names; least = so.least })
