use Rattle.std.proofs.Common.{ℕ, List, [], ◌++◌, ◌∙◌, ap, eqb, map, subst, sym}
use Rattle.std.specs.List.{slice_split}
use Rattle.std.proofs.lemmas.Result.{err_from_is_err_and}
use Rattle.ext_lines.proofs.ForCallers.{first_part, one_part}
use Rattle.ext_cmd.specs.Words.{slashed}
use Rattle.ext_cmd.proofs.HierarchyLemmas.{ReadsOn, ends_so, goes_on, no_names, part_refused}
use Rattle.ext_cmd.proofs.hierarchies.read_list.Goals as goal

pub names-init : goal.names-init
names-init c = subst (ReadsOn c.args.word.now c.args.word.now) (sym c.new-names.ensures) (no_names c.args.word.now)

pub names-preserved : goal.names-preserved
names-preserved c =
    let pushed = c.in_ok-push_name-in-Some.ensures in
    subst (ReadsOn c.args.word.now c.in-Some.after.now) (sym pushed.3)
    (goes_on c.args.word.now c.names.rest.now c.in-Some.part.now c.in-Some.after.now c.names.names pushed.0 c.names.invariant c.in-Some.ensures pushed.1 pushed.2)

pub returns-in_err-push_name-in-Some : goal.returns-in_err-push_name-in-Some
returns-in_err-push_name-in-Some c =
    let p = err_from_is_err_and c.from_residual.result c.from_residual.ensures.1 in
    rw (p.1, p.2) (part_refused c.args.word.now c.in-Some.part.now c.names.names (slice_split (λ b. eqb b 58) c.in-Some.after.now) c.args.place _ (c.names.invariant.parts ∙ ap (λ (l : List (List ℕ)). map slashed c.names.names ++ l) (first_part 58 c.names.rest.now c.in-Some.part.now c.in-Some.after.now c.in-Some.ensures)) c.in_err-push_name-in-Some.ensures)

pub returns-in_err-push_name-in-None : goal.returns-in_err-push_name-in-None
returns-in_err-push_name-in-None c =
    let p = err_from_is_err_and c.from_residual-in_err-push_name-in-None.result c.from_residual-in_err-push_name-in-None.ensures.1 in
    rw (p.1, p.2) (part_refused c.args.word.now c.names.rest.now c.names.names [] c.args.place _ (c.names.invariant.parts ∙ ap (λ (l : List (List ℕ)). map slashed c.names.names ++ l) (one_part 58 c.names.rest.now c.in-None.ensures)) c.in_err-push_name-in-None.ensures)

pub returns-in-None : goal.returns-in-None
returns-in-None c =
    let pushed = c.in_ok-push_name-in-None.ensures in
    rw pushed.3 (ends_so c.args.word.now c.names.rest.now c.names.names pushed.0 c.names.invariant c.in-None.ensures pushed.1 pushed.2)
