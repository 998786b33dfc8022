use Rattle.std.proofs.Common.{inr, subst, arith}
use Rattle.ext_index.specs.Faulty.{FindsWrong}
use Rattle.ext_index.proofs.ReadingLemmas.{index_said, manifests_now, manifests_past}
use Rattle.ext_index.proofs.WrongLineLemmas.{wrong_exactly}
use Rattle.ext_index.proofs.reading.read_index.Goals as goal

-- src/reading.rt:31:11
pub wrong_line-requires-clause-now : goal.wrong_line-requires-clause-now
wrong_line-requires-clause-now c =
    let range = c.ranges.generation.fits in
    manifests_now c.args.generation c.args.bytes.now c.in_ok-said.said (omega arith) c.in_ok-said.ensures

-- src/reading.rt:31:11
pub wrong_line-requires-clause-past : goal.wrong_line-requires-clause-past
wrong_line-requires-clause-past c =
    let range = c.ranges.generation.fits in
    manifests_past c.args.generation c.args.bytes.now c.in_ok-said.said (omega arith) c.in_ok-said.ensures

-- src/reading.rt:24:1
pub returns-in-None : goal.returns-in-None
returns-in-None c =
    let range = c.ranges.generation.fits in
    let fits = c.if-bytes-gt-MOST_INDEX_BYTES.false in (
      c.in_ok-said.said.text,
      c.text_number.ensures,
      index_said c.args.generation c.args.bytes.now c.in_ok-said.said (omega arith) (omega arith) c.in_ok-said.ensures
          (subst (FindsWrong c.in_ok-said.said.text c.args.generation c.in_ok-said.said.host) c.in-None.is (c.wrong_line.ensures c.args.generation)),
    )

-- src/reading.rt:24:1
pub returns-in-Some : goal.returns-in-Some
returns-in-Some c =
    let range = c.ranges.generation.fits in
    let fits = c.if-bytes-gt-MOST_INDEX_BYTES.false in
    let found = subst (FindsWrong c.in_ok-said.said.text c.args.generation c.in_ok-said.said.host) c.in-Some.is (c.wrong_line.ensures c.args.generation) in
    inr (omega arith, inr (wrong_exactly c.args.generation c.args.bytes.now c.in_ok-said.said c.in-Some.line (omega arith) (omega arith) c.in_ok-said.ensures found))
