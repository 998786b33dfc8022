use Rattle.ext_configs.specs.Listed.{ListsComponents, in_roots_before}
use Rattle.ext_configs.proofs.component_names.components.Given as goal

abbrev pub invariant-roots : goal.invariant-roots
invariant-roots g l = ListsComponents l.base (in_roots_before l.index) l.names.items
