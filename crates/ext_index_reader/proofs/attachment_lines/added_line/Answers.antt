use Rattle.std.proofs.Common.{ℕ, List, ap, ◌∙◌, codes}
use Rattle.ext_text.specs.Path.{path_cmp}
use Rattle.ext_index_reader.specs.Following.{may_follow}
use Rattle.ext_index_reader.proofs.LineLemmas.{no_path}
use Rattle.ext_index_reader.proofs.attachment_lines.added_line.Goals as goal

pub returns-then-not-follows_as_path : goal.returns-then-not-follows_as_path
returns-then-not-follows_as_path c = λ g t step.
    let found = rw c.in-Some.is at c.in_ok-path_after.ensures in
    let tells = c.follows_as_path.ensures ∙ ap (λ (ps : List (List (List ℕ))). may_follow path_cmp (λ p. p) ps c.in-Some.path) c.as_slice.ensures in
    no_path (codes "p") c.args.line.now _ (may_follow path_cmp (λ p. p) c.args.attachment.added) c.follows_as_path.result found.0 found.1 tells c.if-not-follows_as_path.true
    step.0 step.1 step.2 step.3
