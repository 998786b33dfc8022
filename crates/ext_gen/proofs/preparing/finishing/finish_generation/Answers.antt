use Rattle.std.proofs.Common.{◌+◌, length, arith}
use Rattle.std.proofs.lemmas.Result.{on_ok_weaker}
use Rattle.ext_text.specs.Path.{is_prefix}
use Rattle.ext_store_files.specs.Names.{current_text, index_path, next_path}
use Rattle.ext_store_files.specs.Writing.{is_at}
use Rattle.ext_store_files.proofs.ForCallers.{raises_then}
use Rattle.ext_gen.specs.PreparingIndex.{coming_index}
use Rattle.ext_gen.proofs.PreparingPathsLemmas.{at_index, at_next, below_is_coming, index_below, makes_then, makes_wider, next_is_coming, works_make}
use Rattle.ext_gen.proofs.PreparingStagesLemmas.{completed}
use Rattle.ext_gen.proofs.preparing.finishing.finish_generation.Goals as goal

pub returns-in_err-put_index-clause-makes : goal.returns-in_err-put_index-clause-makes
returns-in_err-put_index-clause-makes g c =
    let n = c.args.generation in
    let text = coming_index n c.args.host.now in
    makes_wider n 0 0 (length text) (length text + length (current_text n)) _ _ (omega arith) (omega arith)
    (works_make (is_prefix (index_path n)) (is_at (index_path n)) n 0 (length text) _ _ (λ p below. below_is_coming n p (index_below n p below)) (at_index n 0) c.put_index.ensures.works)

pub returns-clause-makes : goal.returns-clause-makes
returns-clause-makes g c =
    let n = c.args.generation in
    let text = coming_index n c.args.host.now in
    makes_then n 0 0 0 (length text) (length (current_text n)) (length text + length (current_text n)) _ (g.D.Disk.state c.put_index.new.disk) _ (omega arith) (omega arith) (omega arith)
    (works_make (is_prefix (index_path n)) (is_at (index_path n)) n 0 (length text) _ _ (λ p below. below_is_coming n p (index_below n p below)) (at_index n 0) c.put_index.ensures.works)
    (works_make (is_prefix next_path) (is_at next_path) n 0 (length (current_text n)) _ _ (next_is_coming n) (at_next n 0) c.put_next.ensures.works)

pub returns-clause-completes : goal.returns-clause-completes
returns-clause-completes g c =
    let n = c.args.generation in
    let text = coming_index n c.args.host.now in
    on_ok_weaker c.put_next.result
    (λ last. completed n text (length text) (length (current_text n)) _ (g.D.Disk.state c.put_index.new.disk) _ (g.met.D.Disk.holds_a_tree c.put_next.new.disk)
    c.put_index.ensures.works c.in_ok-put_index.ensures.put c.put_next.ensures.works last)
    c.put_next.ensures.put

pub returns-clause-raises : goal.returns-clause-raises
returns-clause-raises g c =
    let n = c.args.generation in
    on_ok_weaker c.put_next.result
    (λ last. raises_then (length (coming_index n c.args.host.now)) (length (current_text n)) (g.D.Disk.state c.args.disk.now) (g.D.Disk.state c.put_index.new.disk) (g.D.Disk.state c.put_next.new.disk)
    c.in_ok-put_index.ensures.raises last)
    c.put_next.ensures.raises
