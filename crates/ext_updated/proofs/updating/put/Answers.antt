use Rattle.std.proofs.Common.{◌≡◌, ◌∙◌, ◌&&◌, ℕ, List, None, Some, ap, cond, is_some, not, subst, sym}
use Rattle.std.specs.FinMap.{is_sorted}
use Rattle.std.specs.List.{AllByRecursion}
use Rattle.std.proofs.lemmas.Result.{err_from_is_err_and}
use Rattle.ext_text.specs.Path.{path_cmp}
use Rattle.ext_tree.specs.Joining.{put_all}
use Rattle.ext_tree.specs.Tree.{IsTree, lookup}
use Rattle.ext_tree.specs.Graft.{made}
use Rattle.ext_updated.specs.Pieces.{is_above}
use Rattle.ext_updated.specs.Putting.{IsCutFor}
use Rattle.ext_updated.proofs.UpdatedLemmas.{all_of, all_tree, answers_put, directories_apart, long_answers, made_of, new_apart, old_sorted}
use Rattle.ext_updated.proofs.updating.put.Goals as goal

pub returns-in_err-new : goal.returns-in_err-new
returns-in_err-new g c =
    let p = err_from_is_err_and c.from_residual-in_err-new.result c.from_residual-in_err-new.ensures.1 in
    rw (p.1, p.2) (long_answers c.args.root.now c.args.removed.now c.args.pieces.items c.in_err-new.field-0.0 c.in_err-new.ensures.err)

pub joined-requires-clause-apart : goal.joined-requires-clause-apart
joined-requires-clause-apart g c =
    let root = c.args.root.now in
    let removed = c.args.removed.now in
    let pieces = c.args.pieces.items in
    let kept = c.into_pairs.result.items in
    let directories = c.in_ok-directories.directories.items in
    let new = c.in_ok-new.new.items in
    let left_is = subst (λ ps. IsCutFor root removed ps c.in_ok-left.left) c.as_slice.ensures.value c.in_ok-left.ensures in
    let found = λ (q : List (List ℕ)). c.in_ok-directories.ensures.found q ∙ ap (λ ps. cond (is_above ps q && not (is_some (lookup c.in_ok-left.left q))) (Some made) None) c.as_slice-2.ensures.value in
    let is = made_of root removed pieces c.in_ok-left.left kept directories new c.into_pairs.ensures.same c.into_pairs.ensures.tree left_is c.in_ok-new.ensures.ok.1 c.requires.may c.requires.sorted
    found c.in_ok-directories.ensures.order c.in_ok-new.ensures.ok.0 in
    directories_apart root removed pieces kept directories new is

pub joined-requires-2-clause-first_sorted : goal.joined-requires-2-clause-first_sorted
joined-requires-2-clause-first_sorted g c =
    let root = c.args.root.now in
    let removed = c.args.removed.now in
    let pieces = c.args.pieces.items in
    let kept = c.into_pairs.result.items in
    let directories = c.in_ok-directories.directories.items in
    let new = c.in_ok-new.new.items in
    let left_is = subst (λ ps. IsCutFor root removed ps c.in_ok-left.left) c.as_slice.ensures.value c.in_ok-left.ensures in
    let found = λ (q : List (List ℕ)). c.in_ok-directories.ensures.found q ∙ ap (λ ps. cond (is_above ps q && not (is_some (lookup c.in_ok-left.left q))) (Some made) None) c.as_slice-2.ensures.value in
    let is = made_of root removed pieces c.in_ok-left.left kept directories new c.into_pairs.ensures.same c.into_pairs.ensures.tree left_is c.in_ok-new.ensures.ok.1 c.requires.may c.requires.sorted
    found c.in_ok-directories.ensures.order c.in_ok-new.ensures.ok.0 in
    ap (is_sorted path_cmp) c.in_ok-old.ensures ∙ old_sorted root removed pieces kept directories new is

pub joined-requires-2-clause-second_sorted : goal.joined-requires-2-clause-second_sorted
joined-requires-2-clause-second_sorted g c =
    let root = c.args.root.now in
    let removed = c.args.removed.now in
    let pieces = c.args.pieces.items in
    let kept = c.into_pairs.result.items in
    let directories = c.in_ok-directories.directories.items in
    let new = c.in_ok-new.new.items in
    let left_is = subst (λ ps. IsCutFor root removed ps c.in_ok-left.left) c.as_slice.ensures.value c.in_ok-left.ensures in
    let found = λ (q : List (List ℕ)). c.in_ok-directories.ensures.found q ∙ ap (λ ps. cond (is_above ps q && not (is_some (lookup c.in_ok-left.left q))) (Some made) None) c.as_slice-2.ensures.value in
    let is = made_of root removed pieces c.in_ok-left.left kept directories new c.into_pairs.ensures.same c.into_pairs.ensures.tree left_is c.in_ok-new.ensures.ok.1 c.requires.may c.requires.sorted
    found c.in_ok-directories.ensures.order c.in_ok-new.ensures.ok.0 in
    is.new_order

pub joined-requires-2-clause-apart : goal.joined-requires-2-clause-apart
joined-requires-2-clause-apart g c =
    let root = c.args.root.now in
    let removed = c.args.removed.now in
    let pieces = c.args.pieces.items in
    let kept = c.into_pairs.result.items in
    let directories = c.in_ok-directories.directories.items in
    let new = c.in_ok-new.new.items in
    let left_is = subst (λ ps. IsCutFor root removed ps c.in_ok-left.left) c.as_slice.ensures.value c.in_ok-left.ensures in
    let found = λ (q : List (List ℕ)). c.in_ok-directories.ensures.found q ∙ ap (λ ps. cond (is_above ps q && not (is_some (lookup c.in_ok-left.left q))) (Some made) None) c.as_slice-2.ensures.value in
    let is = made_of root removed pieces c.in_ok-left.left kept directories new c.into_pairs.ensures.same c.into_pairs.ensures.tree left_is c.in_ok-new.ensures.ok.1 c.requires.may c.requires.sorted
    found c.in_ok-directories.ensures.order c.in_ok-new.ensures.ok.0 in
    subst (λ es. AllByRecursion (λ e. lookup new e.0 ≡ None) es) (sym c.in_ok-old.ensures) (new_apart root removed pieces kept directories new is)

pub within-requires : goal.within-requires
within-requires g c =
    let root = c.args.root.now in
    let removed = c.args.removed.now in
    let pieces = c.args.pieces.items in
    let kept = c.into_pairs.result.items in
    let directories = c.in_ok-directories.directories.items in
    let new = c.in_ok-new.new.items in
    let left_is = subst (λ ps. IsCutFor root removed ps c.in_ok-left.left) c.as_slice.ensures.value c.in_ok-left.ensures in
    let found = λ (q : List (List ℕ)). c.in_ok-directories.ensures.found q ∙ ap (λ ps. cond (is_above ps q && not (is_some (lookup c.in_ok-left.left q))) (Some made) None) c.as_slice-2.ensures.value in
    let is = made_of root removed pieces c.in_ok-left.left kept directories new c.into_pairs.ensures.same c.into_pairs.ensures.tree left_is c.in_ok-new.ensures.ok.1 c.requires.may c.requires.sorted
    found c.in_ok-directories.ensures.order c.in_ok-new.ensures.ok.0 in
    let whole : c.in_ok-pairs.pairs.items ≡ all_of root removed pieces kept directories new is = c.in_ok-pairs.ensures ∙ ap (λ es. put_all es new) c.in_ok-old.ensures in
    subst IsTree (sym whole) (all_tree root removed pieces kept directories new is)

pub returns : goal.returns
returns g c =
    let root = c.args.root.now in
    let removed = c.args.removed.now in
    let pieces = c.args.pieces.items in
    let kept = c.into_pairs.result.items in
    let directories = c.in_ok-directories.directories.items in
    let new = c.in_ok-new.new.items in
    let left_is = subst (λ ps. IsCutFor root removed ps c.in_ok-left.left) c.as_slice.ensures.value c.in_ok-left.ensures in
    let found = λ (q : List (List ℕ)). c.in_ok-directories.ensures.found q ∙ ap (λ ps. cond (is_above ps q && not (is_some (lookup c.in_ok-left.left q))) (Some made) None) c.as_slice-2.ensures.value in
    let is = made_of root removed pieces c.in_ok-left.left kept directories new c.into_pairs.ensures.same c.into_pairs.ensures.tree left_is c.in_ok-new.ensures.ok.1 c.requires.may c.requires.sorted
    found c.in_ok-directories.ensures.order c.in_ok-new.ensures.ok.0 in
    let whole : c.in_ok-pairs.pairs.items ≡ all_of root removed pieces kept directories new is = c.in_ok-pairs.ensures ∙ ap (λ es. put_all es new) c.in_ok-old.ensures in
    answers_put root removed pieces kept directories new is c.in_ok-pairs.pairs.items c.within.result whole c.within.ensures.same c.within.ensures.limit
