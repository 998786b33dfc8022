use Rattle.std.proofs.Common.{◌||◌, sym, ap, ◌∙◌}
use Rattle.std.proofs.lemmas.List.{take_all}
use Rattle.ext_store_files.specs.LeftOvers.{has_generation}
use Rattle.ext_gen.specs.Preparing.{has_file_in, is_file_in}
use Rattle.ext_gen.proofs.PreparingNeededLemmas.{any_more, or_none}
use Rattle.ext_gen.proofs.preparing.needed.add_entries.Goals as goal

pub entries-init : goal.entries-init
entries-init c = λ n. sym (or_none (has_generation c.args.needed.now n))

pub entries-preserved : goal.entries-preserved
entries-preserved c =
    λ n. any_more (λ e. is_file_in n e.1) c.args.entries.now c.entries.entry-index c.entry-item.result (has_generation c.args.needed.now n) (has_generation c.entries.needed n) (has_generation c.add_entry.new.needed n)
    c.entries-test.true c.entry-item.is (c.entries.invariant n) (c.in_ok-add_entry.ensures n)

pub returns : goal.returns
returns c = λ n. c.entries.invariant n ∙ ap (λ l. has_generation c.args.needed.now n || has_file_in n l) (take_all c.entries.entry-index c.args.entries.now c.entries-test.false)
