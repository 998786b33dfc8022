use Rattle.std.proofs.Common.{refl, subst, sym}
use Rattle.std.specs.List.{AllByRecursion}
use Rattle.ext_text.specs.Name.{IsName}
use Rattle.ext_text.proofs.CutLemmas.{name_parts}
use Rattle.ext_text.proofs.path_ref.PathRef.of_name.Goals as goal

pub invariant_of-result : goal.invariant_of-result
invariant_of-result c =
    subst (AllByRecursion IsName) (sym (name_parts c.args.name.now c.args.name.now refl c.requires)) (c.requires, tt)

pub returns : goal.returns
returns c = name_parts c.args.name.now c.args.name.now refl c.requires
