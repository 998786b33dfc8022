use Rattle.std.proofs.Common.{◌∙◌, drop, sym, ap, subst}
use Rattle.std.proofs.lemmas.List.{take_rest}
use Rattle.ext_io.specs.Device.{IsReadAt}
use Rattle.ext_disk.specs.Pieces.{joined}
use Rattle.ext_disk.proofs.PiecesLemmas.{read_moved}
use Rattle.ext_disk.proofs.pieces.Pieces.read.Goals as goal

pub returns-clause-read : goal.returns-clause-read
returns-clause-read c =
    let parts = c.self.inside.parts.items in
    let first = c.part_at-first.result.0 in
    let passed = c.part_at-first.result.1 in
    subst (λ l. IsReadAt l c.args.at c.read_parts.new.buf c.read_parts.result) c.self.view_is
    (read_moved (joined parts) _ c.read_parts.new.buf c.args.at passed c.read_parts.result
    (ap (λ l. drop c.args.at (joined l)) (sym c.deref.ensures.value) ∙ c.part_at-first.ensures.same ∙ ap (λ l. drop passed (joined (drop first l))) (c.deref.ensures.value ∙ sym c.deref-2.ensures.value)
    ∙ ap (λ l. drop passed (joined l)) (sym (take_rest c.deref-2.result.now first)))
    c.read_parts.ensures.read)
