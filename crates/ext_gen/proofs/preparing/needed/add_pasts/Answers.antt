use Rattle.std.proofs.Common.{◌||◌, sym, ap, ◌∙◌}
use Rattle.std.specs.List.{list_any}
use Rattle.std.proofs.lemmas.List.{take_all}
use Rattle.ext_store_files.specs.LeftOvers.{has_generation}
use Rattle.ext_gen.specs.Preparing.{has_file_in, trees_of_pasts}
use Rattle.ext_gen.proofs.PreparingNeededLemmas.{or_none, past_more}
use Rattle.ext_gen.proofs.preparing.needed.add_pasts.Goals as goal

pub pasts-init : goal.pasts-init
pasts-init c = λ n. sym (or_none (has_generation c.args.needed.now n))

pub pasts-preserved : goal.pasts-preserved
pasts-preserved c =
    λ n. past_more n c.args.pasts.now c.pasts.past-index c.past-item.result (has_generation c.args.needed.now n) (has_generation c.pasts.needed n) (has_generation c.add_past.new.needed n) c.pasts-test.true c.past-item.is
    (c.pasts.invariant n) (c.in_ok-add_past.ensures n)

pub returns : goal.returns
returns c =
    λ n. c.pasts.invariant n ∙ ap (λ l. has_generation c.args.needed.now n || list_any (has_file_in n) (trees_of_pasts l)) (take_all c.pasts.past-index c.args.pasts.now c.pasts-test.false)
