use Rattle.std.proofs.Common.{◌≡◌, ◌++◌, ◌∷◌, ◌∙◌, [], ℕ, List, ap, arith, append_assoc, append-nil, cond, length, refl, rules, subst, sym}
use Rattle.std.specs.List.{AllByRecursion, Contains}
use Rattle.std.specs.Result.{is_ok}
use Rattle.std.specs.Vec.Iter.{into_iter_items}
use Rattle.std.proofs.lemmas.List.{map-append}
use Rattle.std.proofs.lemmas.Result.{err_from_is_err_and}
use Rattle.std.proofs.lemmas.List.Elements.{Contains-append_right}
use Rattle.ext_text.proofs.ForCallers.{all_append}
use Rattle.ext_tree.specs.Tree.{Entries}
use Rattle.ext_tree.specs.declared.entry.Entry.{Entry}
use Rattle.ext_tree.specs.declared.stamp.Stamp.{Stamp}
use Rattle.ext_tree.specs.declared.tree.TreeErr.{TreeErr}
use Rattle.ext_tree.specs.declared.tree.TreeErr.TheVariants.{OutOfMemory, Exists, NotDirectory, Limit, Path}
use Rattle.ext_host.specs.DepotBodies.{FileFits, FitsErr, HasFileErr, from_depot, pair_in_depot}
use Rattle.ext_host.proofs.depot_bodies.pairs_at.Goals as goal

-- why an entry is not given is why its tree is not
among : (res : List (List ℕ)) (es : Entries Stamp) (x : List (List ℕ) × Entry Stamp) (e : TreeErr) → Contains es x → HasFileErr res x e → FitsErr res es e
among res es x OutOfMemory is h = tt
among res es x Exists is h = h
among res es x NotDirectory is h = h
among res es x Limit is h = h
among res es x Path is h = (x, is, h)

all_taken : (all done rest : Entries Stamp) → all ≡ done ++ rest → length rest ≡ 0 → all ≡ done
all_taken all done [] split none = split ∙ append-nil done
all_taken all done (x ∷ rest) split none = absurd (omega arith)

pub loop-pair-init : goal.loop-pair-init
loop-pair-init c =
    let gives = c.into_iter-pair-iterator.ensures.into_iter_gives in record {
      split = sym gives.0;
      left = gives.1 ∙ c.args.pairs.ok.0 ∙ sym (ap length gives.0);
      so_far = search rules;
      fits = tt;
    }

pub returns-in_err-pair_at-clause-err : goal.returns-in_err-pair_at-clause-err
returns-in_err-pair_at-clause-err c =
    let p = err_from_is_err_and c.from_residual-in_err-pair_at.result c.from_residual-in_err-pair_at.ensures.1 in
    let done = c.loop-pair.yielded in
    let x = c.in-Some.pair in
    let rest = into_iter_items c.next.new.self in
    let all : c.args.pairs.items ≡ done ++ x ∷ rest = c.loop-pair.invariant.split ∙ ap (λ l. done ++ l) c.in-Some.ensures.steps.0 in
    rw (p.1, p.2) (among c.args.res.now c.args.pairs.items x _ (subst (λ l. Contains l x) (sym all) (Contains-append_right done (x ∷ rest) x (0, omega arith, refl))) c.in_err-pair_at.ensures.err)

pub loop-pair-preserved : goal.loop-pair-preserved
loop-pair-preserved c =
    let done = c.loop-pair.yielded in
    let x = c.in-Some.pair in record {
      split = c.loop-pair.invariant.split ∙ ap (λ l. done ++ l) c.in-Some.ensures.steps.0 ∙ sym (append_assoc done (x ∷ []) (into_iter_items c.next.new.self));
      left =
          let gone = c.in-Some.ensures.steps.1 in
          let short = ap length c.in-Some.ensures.steps.0 in
          let was = c.loop-pair.invariant.left in
          omega arith;
      so_far = c.push.ensures.items ∙ ap (λ r. cond (is_ok r) (c.loop-pair.placed.items ++ c.in_ok-pair_at.field-0 ∷ []) c.loop-pair.placed.items) c.in_ok-allocated.ensures
          ∙ ap (λ e. c.loop-pair.placed.items ++ e ∷ []) c.in_ok-pair_at.ensures.ok.0 ∙ ap (λ l. l ++ pair_in_depot c.args.res.now x ∷ []) c.loop-pair.invariant.so_far
          ∙ sym (map-append (pair_in_depot c.args.res.now) done (x ∷ []));
      fits = all_append (FileFits c.args.res.now) done (x ∷ []) c.loop-pair.invariant.fits (c.in_ok-pair_at.ensures.ok.1, tt);
    }

pub returns-clause-ok : goal.returns-clause-ok
returns-clause-ok c =
    let whole = all_taken c.args.pairs.items c.loop-pair.yielded (into_iter_items c.loop-pair.pair-iterator) c.loop-pair.invariant.split (sym c.loop-pair.invariant.left ∙ c.in-None.ensures.steps.0) in (
      subst (λ l. c.loop-pair.placed.items ≡ from_depot c.args.res.now l) (sym whole) c.loop-pair.invariant.so_far,
      subst (AllByRecursion (FileFits c.args.res.now)) (sym whole) c.loop-pair.invariant.fits,
    )
