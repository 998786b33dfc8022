use Rattle.std.proofs.Common.{◌+◌, ◌<◌, ◌∙◌, length, take, not, sym, ap, arith}
use Rattle.ext_tree.specs.Graft.{is_non_directory_at}
use Rattle.ext_tree.specs.Tree.{is_directory_at, lookup}
use Rattle.ext_tree.proofs.GraftingLemmas.{blocked_here, directory_further, none_further}
use Rattle.ext_tree.proofs.graft.standing_at.Goals as goal

pub returns-in-None : goal.returns-in-None
returns-in-None g c =
    let first = c.prefix.ensures ∙ ap (take (c.names.standing + 1)) c.names-names.ensures.same in
    let short : c.names.standing + 1 < length c.args.path.now = omega (arith, ap length c.names-names.ensures.same) in
    none_further c.args.entries.now c.args.path.now c.names.standing c.requires.tree short c.names.invariant.there (sym (ap (lookup c.args.entries.now) first) ∙ sym c.in-None.ensures)

pub names-preserved : goal.names-preserved
names-preserved g c =
    let first = c.prefix.ensures ∙ ap (take (c.names.standing + 1)) c.names-names.ensures.same in
    let directory = ap is_directory_at (sym (ap (lookup c.args.entries.now) first) ∙ sym c.in-Some.ensures) ∙ sym c.is_directory.ensures ∙ c.if-is_directory.true in
    record {
      not_all = omega (arith, ap length c.names-names.ensures.same);
      there = directory_further c.args.entries.now c.args.path.now c.names.standing c.names.invariant.there directory;
    }

pub returns-in-Some-2 : goal.returns-in-Some-2
returns-in-Some-2 g c =
    let first = c.prefix.ensures ∙ ap (take (c.names.standing + 1)) c.names-names.ensures.same in
    let short : c.names.standing + 1 < length c.args.path.now = omega (arith, ap length c.names-names.ensures.same) in
    blocked_here c.args.entries.now c.args.path.now (c.names.standing + 1) short (ap is_non_directory_at (sym (ap (lookup c.args.entries.now) first) ∙ sym c.in-Some.ensures) ∙ ap not (sym c.is_directory.ensures ∙ c.if-is_directory.false))
