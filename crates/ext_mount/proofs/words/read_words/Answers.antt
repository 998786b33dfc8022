use Rattle.std.proofs.Common.{arith}
use Rattle.ext_mount.proofs.WordLemmas.{finds, may_be, whole_words, wrong_words}
use Rattle.ext_mount.proofs.words.read_words.Goals as goal

pub returns-then-len-count : goal.returns-then-len-count
returns-then-len-count c =
    let mark = c.read_mark-mark.result in
    let time = c.read_time-time.result in
    let found = finds c.args.words.now mark time _ _ _ c.word_at.ensures c.word_at-2.ensures c.told.ensures c.read_mark-mark.ensures c.read_time-time.ensures in
    rw (c.told-2.ensures, c.told-3.ensures) (wrong_words c.args.words.now mark time found (omega (arith, c.if-len-count.true, c.len.ensures, c.told-2.ensures, c.told-3.ensures)))

pub returns : goal.returns
returns c =
    let mark = c.read_mark-mark.result in
    let time = c.read_time-time.result in
    let found = finds c.args.words.now mark time _ _ _ c.word_at.ensures c.word_at-2.ensures c.told.ensures c.read_mark-mark.ensures c.read_time-time.ensures in (
      may_be c.args.words.now mark time found,
      whole_words c.args.words.now mark time found (omega (arith, c.if-len-count.false, c.len.ensures, c.told-2.ensures, c.told-3.ensures)),
    )
