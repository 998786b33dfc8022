use Rattle.std.proofs.Common.{cond, Some, length, take, sym, ap, subst, ◌∙◌, arith}
use Rattle.ext_attributes.specs.Attributes.{of_mode}
use Rattle.ext_text.specs.Path.{IsPath}
use Rattle.ext_text.proofs.ForCallers.{prefix_path}
use Rattle.ext_tree.specs.declared.entry.Entry.TheVariants.{Dir}
use Rattle.ext_sample.specs.Making.{PutsAt, entry_at}
use Rattle.ext_sample.proofs.LookupLemmas.{above_all, above_put}
use Rattle.ext_sample.proofs.tree.put_above.Goals as goal

pub of_names-requires : goal.of_names-requires
of_names-requires c = subst IsPath (sym (c.prefix.ensures ∙ ap (take c.above.count) c.names-names.ensures.same)) (prefix_path c.above.count c.args.path.now c.names-names.ensures.path)

pub above-preserved : goal.above-preserved
above-preserved c =
    let at = c.in_ok-above.ensures ∙ c.prefix.ensures ∙ ap (take c.above.count) c.names-names.ensures.same in
    let puts = subst (λ p. PutsAt c.above.entries.entries c.put.new.entries.entries p (Dir (of_mode 493))) at (subst (PutsAt c.above.entries.entries c.put.new.entries.entries c.in_ok-above.above) c.directory.ensures c.in_ok-put.ensures) in
    record {
      each = λ q. above_put c.args.path.now q c.above.count c.args.entries.now.entries c.above.entries.entries c.put.new.entries.entries
          (omega (arith, c.above.auto.count)) (omega (arith, c.above-test.true, c.depth-count-end.ensures, ap length c.names-names.ensures.same)) puts (c.above.invariant.each q);
      count = omega (arith, c.in_ok-put.ensures.count, c.above.invariant.count);
      within = omega (arith, c.above-test.true, c.requires, c.depth-count-end.ensures, ap length c.names-names.ensures.same);
    }

pub returns : goal.returns
returns c = record {
  each = λ q. c.above.invariant.each q ∙ ap (λ b. cond b (Some (Dir (of_mode 493))) (entry_at c.args.entries.now.entries q))
      (above_all c.args.path.now q c.above.count (omega (arith, c.above-test.false, c.depth-count-end.ensures, ap length c.names-names.ensures.same)));
  count = omega (arith, c.above.invariant.count, c.above.invariant.within);
}
