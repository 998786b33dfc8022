use Rattle.std.proofs.lemmas.Result.{err_from_is_err_and}
use Rattle.ext_index_reader.proofs.LoopLemmas.{not_all}
use Rattle.ext_index_reader.proofs.reading.read_lines.Goals as goal

pub returns-in_err-read_all : goal.returns-in_err-read_all
returns-in_err-read_all c =
    let p = err_from_is_err_and c.from_residual.result c.from_residual.ensures.1 in
    rw (p.1, p.2) (not_all c.args.generation c.args.bytes.now c.in_err-read_all.field-0.0 c.in_err-read_all.ensures)
