use Rattle.ext_text.proofs.NameLemmas.{plain_name, shape_of_name}
use Rattle.ext_text.proofs.parts.is_name_part.Goals as goal

pub returns-then-plain : goal.returns-then-plain
returns-then-plain c = (
  λ is. plain_name c.args.part.now (c.has_name_shape.ensures.0 is) (c.requires.plain c.if-plain.true) c.requires.slash,
  λ name. c.has_name_shape.ensures.1 (shape_of_name c.args.part.now name),
)
