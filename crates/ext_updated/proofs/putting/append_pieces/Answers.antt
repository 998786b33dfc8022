use Rattle.std.proofs.Common.{◌++◌, ap, subst, sym}
use Rattle.std.specs.List.{AllByRecursion, Contains}
use Rattle.ext_updated.specs.Putting.{IsReady, entries_of}
use Rattle.ext_updated.proofs.LoopLemmas.{next_piece, next_within, now_within, piece_passes}
use Rattle.ext_updated.proofs.putting.append_pieces.Goals as goal

pub pieces-init : goal.pieces-init
pieces-init g c = record {
  entries = ap (λ ps. c.args.pairs.now.items ++ entries_of ps) c.from-rest.ensures.0;
  ready = subst (AllByRecursion IsReady) c.from-rest.ensures.0;
  within = λ p. subst (λ ps. Contains ps p) c.from-rest.ensures.0;
}

pub returns-in-Err-clause-err : goal.returns-in-Err-clause-err
returns-in-Err-clause-err g c =
    piece_passes c.args.pieces.items c.in-Some.piece c.in-Err.refused
    (now_within c.args.pieces.items c.pieces.rest.items c.in-Some.piece c.pop_front.new.self.items c.in-Some.ensures.items c.pieces.invariant.within) c.in-Err.ensures.err

pub pieces-preserved : goal.pieces-preserved
pieces-preserved g c = record {
  entries = next_piece c.pieces.rest.items c.in-Some.piece c.pop_front.new.self.items c.pieces.pairs.items c.append_piece.new.pairs.items _
      c.in-Some.ensures.items c.in-Ok.ensures.ok c.pieces.invariant.entries;
  ready = λ rest. c.pieces.invariant.ready (subst (AllByRecursion IsReady) (sym c.in-Some.ensures.items) (c.in-Ok.ensures.ready, rest));
  within = next_within c.args.pieces.items c.pieces.rest.items c.in-Some.piece c.pop_front.new.self.items c.in-Some.ensures.items c.pieces.invariant.within;
}
