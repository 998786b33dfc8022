use Rattle.std.proofs.Common.{◌++◌, ap, map, subst, sym}
use Rattle.std.specs.List.{Contains}
use Rattle.ext_tree.specs.Grafting.{hung}
use Rattle.ext_updated.specs.Putting.{AllFitBelow}
use Rattle.ext_updated.proofs.LoopLemmas.{next_hung, next_within, now_within, some_passes}
use Rattle.ext_updated.proofs.putting.append_hung.Goals as goal

pub entries-init : goal.entries-init
entries-init g c = record {
  entries = ap (λ es. c.args.pairs.now.items ++ map (hung c.args.path.now) es) c.from-rest.ensures.0;
  fits = subst (AllFitBelow c.args.path.now) c.from-rest.ensures.0;
  within = λ e. subst (λ es. Contains es e) c.from-rest.ensures.0;
}

pub returns-in-Err-clause-err : goal.returns-in-Err-clause-err
returns-in-Err-clause-err g c =
    some_passes c.args.path.now c.args.part.items c.in-Some.entry c.in-Err.refused
    (now_within c.args.part.items c.entries.rest.items c.in-Some.entry c.pop_front.new.self.items c.in-Some.ensures.items c.entries.invariant.within) c.in-Err.ensures.err

pub entries-preserved : goal.entries-preserved
entries-preserved g c = record {
  entries = next_hung c.args.path.now c.entries.rest.items c.in-Some.entry c.pop_front.new.self.items c.entries.pairs.items c.append_below.new.pairs.items _
      c.in-Some.ensures.items c.in-Ok.ensures.ok c.entries.invariant.entries;
  fits = λ rest. c.entries.invariant.fits (subst (AllFitBelow c.args.path.now) (sym c.in-Some.ensures.items) (c.in-Ok.ensures.fits, rest));
  within = next_within c.args.part.items c.entries.rest.items c.in-Some.entry c.pop_front.new.self.items c.in-Some.ensures.items c.entries.invariant.within;
}
