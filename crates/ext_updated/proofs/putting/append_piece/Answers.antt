use Rattle.std.proofs.Common.{[], ◌∷◌, ◌++◌, ◌∙◌, ap}
use Rattle.ext_updated.proofs.LoopLemmas.{piece_added}
use Rattle.ext_updated.proofs.putting.append_piece.Goals as goal

pub returns-clause-ok : goal.returns-clause-ok
returns-clause-ok g c =
    piece_added c.append_hung.result c.args.piece c.args.pairs.now.items c.append_pair.new.pairs.items c.append_hung.new.pairs.items c.names-names.result c.into_pairs.result.items
    (c.in_ok-append_pair.ensures ∙ ap (λ p. c.args.pairs.now.items ++ (p, c.args.piece.top) ∷ []) c.in_ok-copy.ensures) c.names-names.ensures.same c.into_pairs.ensures.same c.append_hung.ensures.ok
