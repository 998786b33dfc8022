use Rattle.std.proofs.Common.{◌∷◌, [], subst, ◌∙◌}
use Rattle.std.specs.List.{AllByRecursion}
use Rattle.ext_text.proofs.ForCallers.{all_back, all_prefix}
use Rattle.ext_depot.specs.DepotCalls.{Puts}
use Rattle.ext_sample.specs.Making.{IsSmallFile}
use Rattle.ext_sample.proofs.LookupLemmas.{depot_put}
use Rattle.ext_sample.proofs.SampleLemmas.{below_folder}
use Rattle.ext_sample.proofs.depot.put_files.Goals as goal

pub path_in-requires-clause-short : goal.path_in-requires-clause-short
path_in-requires-clause-short c =
    let last = all_back IsSmallFile c.pop.new.self.items ((c.in-Some.path, c.in-Some.bytes) ∷ []) (subst (AllByRecursion IsSmallFile) c.in-Some.ensures.items c.files.invariant.small) in
    below_folder c.args.folder.now (c.in-Some.path, c.in-Some.bytes) c.requires.name c.requires.short last.0

pub files-preserved-in_ok-put-in-Some : goal.files-preserved-in_ok-put-in-Some
files-preserved-in_ok-put-in-Some c =
    let puts = subst (λ p. Puts c.files.depot c.put.new.self p c.in-Some.bytes) c.in_ok-path_in-in-Some.ensures c.in_ok-put-in-Some.ensures.ok in
    record {
      each = λ q. depot_put c.args.folder.now c.pop.new.self.items c.files.left.items (c.in-Some.path, c.in-Some.bytes) c.files.depot c.put.new.self c.in-Some.ensures.items puts q ∙ c.files.invariant.each q;
      small = all_prefix IsSmallFile c.pop.new.self.items ((c.in-Some.path, c.in-Some.bytes) ∷ []) (subst (AllByRecursion IsSmallFile) c.in-Some.ensures.items c.files.invariant.small);
      fails = puts.fails ∙ c.files.invariant.fails;
      calls = puts.calls ∙ c.files.invariant.calls;
      faults = puts.faults ∙ c.files.invariant.faults;
    }

pub files-preserved : goal.files-preserved
files-preserved c =
    let puts = subst (λ p. Puts c.files.depot c.put.new.self p c.in-Some.bytes) c.in_ok-path_in-in-Some.ensures c.in_ok-put-in-Some.ensures.ok in
    record {
      each = λ q. depot_put c.args.folder.now c.pop.new.self.items c.files.left.items (c.in-Some.path, c.in-Some.bytes) c.files.depot c.put.new.self c.in-Some.ensures.items puts q ∙ c.files.invariant.each q;
      small = all_prefix IsSmallFile c.pop.new.self.items ((c.in-Some.path, c.in-Some.bytes) ∷ []) (subst (AllByRecursion IsSmallFile) c.in-Some.ensures.items c.files.invariant.small);
      fails = puts.fails ∙ c.files.invariant.fails;
      calls = puts.calls ∙ c.files.invariant.calls;
      faults = puts.faults ∙ c.files.invariant.faults;
    }
