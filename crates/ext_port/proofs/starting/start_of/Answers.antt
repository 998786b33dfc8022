use Rattle.ext_port.proofs.starting.start_of.Goals as goal

pub returns-clause-start : goal.returns-clause-start
returns-clause-start c = record {
  valid = c.requires.planned.valid;
  base = record { tree = c.pairs-entries.ensures.tree.tree; is_base = c.in_ok-base.ensures };
}
