use Rattle.ext_disk.proofs.PiecesLemmas.{read_part, read_next, read_last}
use Rattle.ext_disk.proofs.pieces.read_parts.Goals as goal

pub returns-then-more-saturating_sub-clause-read : goal.returns-then-more-saturating_sub-clause-read
returns-then-more-saturating_sub-clause-read c =
    read_part c.args.parts.now c.part-item.result c.parts.part-index c.parts.buf c.read_after-more.new.buf c.bytes-bytes.result.now c.args.passed c.parts.count c.read_after-more.result c.parts.from c.saturating_sub.result
    c.parts.invariant.1 c.parts-test.true c.part-item.is c.bytes-bytes.ensures c.read_after-more.ensures.read c.read_after-more.ensures.within c.read_after-more.ensures.end c.saturating_sub.ensures c.if-more-saturating_sub.true

pub parts-preserved : goal.parts-preserved
parts-preserved c = (
  c.read_after-more.ensures.within,
  read_next c.args.parts.now c.part-item.result c.parts.part-index c.parts.buf c.read_after-more.new.buf c.bytes-bytes.result.now c.args.passed c.parts.count c.read_after-more.result c.parts.from c.saturating_sub.result
      c.saturating_sub-from.result c.parts.invariant.1 c.parts-test.true c.part-item.is c.bytes-bytes.ensures c.read_after-more.ensures.read c.saturating_sub.ensures c.if-more-saturating_sub.false c.saturating_sub-from.ensures,
)

pub returns-clause-read : goal.returns-clause-read
returns-clause-read c = read_last c.args.parts.now c.parts.part-index c.parts.buf c.args.passed c.parts.count c.parts.from c.parts.invariant.1 c.parts-test.false c.parts.invariant.0
