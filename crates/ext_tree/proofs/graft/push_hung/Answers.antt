use Rattle.std.proofs.Common.{◌≡◌, ◌<◌, ◌∷◌, [], ◌++◌, ◌∙◌, ap, arith, append_assoc, append-nil, cond, get_or, length, length-append, map, subst, sym}
use Rattle.std.proofs.Math.Seq.{get_or-append_seam}
use Rattle.std.specs.List.{AllByRecursion}
use Rattle.std.specs.Result.{is_ok}
use Rattle.std.specs.Vec.Iter.{into_iter_items}
use Rattle.std.proofs.lemmas.Result.{err_from_is_err_and}
use Rattle.ext_text.specs.Path.{IsPath}
use Rattle.ext_tree.specs.Grafting.{hung}
use Rattle.ext_tree.proofs.GraftAnswersLemmas.{fits_more, hung_more}
use Rattle.ext_tree.proofs.GraftingLemmas.{all_yielded, long_path, too_long_at}
use Rattle.ext_tree.proofs.graft.push_hung.Goals as goal

pub loop-entry-init : goal.loop-entry-init
loop-entry-init g c =
    let gives = c.into_iter-entry-iterator.ensures.into_iter_gives in record {
      split = sym gives.0;
      left = gives.1 ∙ c.args.part.ok.0 ∙ sym (ap length gives.0);
      so_far = sym (append-nil c.args.new.now.items);
      fits = tt;
    }

pub returns-in_err-hung-clause-err : goal.returns-in_err-hung-clause-err
returns-in_err-hung-clause-err g c =
    let p = err_from_is_err_and c.from_residual.result c.from_residual.ensures.1 in
    let done = c.loop-entry.yielded in
    let x = c.in-Some.entry in
    let rest = into_iter_items c.next.new.self in
    let all : c.args.part.items ≡ done ++ x ∷ rest = c.loop-entry.invariant.split ∙ ap (λ l. done ++ l) c.in-Some.ensures.steps.0 in
    let within : length done < length c.args.part.items = omega (arith, ap length all, length-append done (x ∷ rest)) in
    let here : x ≡ get_or c.args.part.items (length done) x = sym (ap (λ l. get_or l (length done) x) all ∙ get_or-append_seam done x rest x) in
    rw (p.1, p.2) (long_path c.in_err-hung.field-0.0 (too_long_at c.args.path.now c.args.part.items (length done) x c.requires within here) c.in_err-hung.ensures.err)

pub loop-entry-preserved : goal.loop-entry-preserved
loop-entry-preserved g c = record {
  split = c.loop-entry.invariant.split ∙ ap (λ l. c.loop-entry.yielded ++ l) c.in-Some.ensures.steps.0 ∙ sym (append_assoc c.loop-entry.yielded (c.in-Some.entry ∷ []) (into_iter_items c.next.new.self));
  left =
      let gone = c.in-Some.ensures.steps.1 in
      let short = ap length c.in-Some.ensures.steps.0 in
      let was = c.loop-entry.invariant.left in
      omega arith;
  so_far = hung_more c.args.path.now c.args.new.now.items c.loop-entry.new.items c.push.new.self.items c.loop-entry.yielded c.in-Some.entry c.loop-entry.invariant.so_far
      (c.push.ensures.items ∙ ap (λ r. cond (is_ok r) (c.loop-entry.new.items ++ c.in_ok-hung.field-0 ∷ []) c.loop-entry.new.items) c.in_ok-allocated.ensures ∙ ap (λ e. c.loop-entry.new.items ++ e ∷ []) c.in_ok-hung.ensures.ok.0);
  fits = fits_more c.args.path.now c.loop-entry.yielded c.in-Some.entry c.loop-entry.invariant.fits c.in_ok-hung.ensures.ok.1;
}

pub returns-clause-ok : goal.returns-clause-ok
returns-clause-ok g c =
    let whole = all_yielded c.args.part.items c.loop-entry.yielded (into_iter_items c.loop-entry.entry-iterator) c.loop-entry.invariant.split (sym c.loop-entry.invariant.left ∙ c.in-None.ensures.steps.0) in (
      subst (λ l. c.loop-entry.new.items ≡ c.args.new.now.items ++ map (hung c.args.path.now) l) (sym whole) c.loop-entry.invariant.so_far,
      subst (AllByRecursion (λ e. IsPath (c.args.path.now ++ e.0))) (sym whole) c.loop-entry.invariant.fits,
    )
