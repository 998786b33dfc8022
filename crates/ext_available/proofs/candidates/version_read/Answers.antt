use Rattle.std.proofs.Common.{◌≡◌, ◌↔◌, ℕ, List, Option, Some, Bor, sym, subst}
use Rattle.std.specs.Option.{option_map}
use Rattle.ext_available.specs.Resource.{IsReadAs}
use Rattle.ext_available.proofs.PatternLemmas.{found_reads, read_and_back, read_and_lost, unread}
use Rattle.ext_available.proofs.candidates.version_read.Goals as goal
use Rattle.ext_available.proofs.candidates.version_read.Goals.{then-is_back, else-is_back}

pub returns-in_default : goal.returns-in_default
returns-in_default c = unread c.args.transfer.now c.as_slice.result.now c.args.name.now c.args.digest.now.0 c.version_of.result c.as_slice.ensures c.in_default.is c.version_of.ensures

pub is_read_back-requires : goal.is_read_back-requires
is_read_back-requires c = (found_reads c.as_slice.result.now c.args.name.now c.args.digest.now.0 c.version_of.result c.in-Some.version c.in-Some.is c.version_of.ensures).version_is

pub returns : goal.returns
returns c =
    let t = c.args.transfer.now in
    let name = c.args.name.now in
    let digest = c.args.digest.now.0 in
    λ v. elim c.if-is_back.branch [
      | then-is_back w ↦ subst (λ (r : Option (Bor (List ℕ))). IsReadAs t v name digest ↔ (option_map (λ x. x.now) r ≡ Some v)) (sym w.result-is)
          (read_and_back t c.as_slice.result.now c.as_slice-2.result.now name digest c.version_of.result c.in-Some.version c.in_ok-is_back.is_back c.as_slice.ensures c.as_slice-2.ensures c.in-Some.is c.version_of.ensures c.in_ok-is_back.ensures w.if-is_back.true v)
      | else-is_back w ↦ subst (λ (r : Option (Bor (List ℕ))). IsReadAs t v name digest ↔ (option_map (λ x. x.now) r ≡ Some v)) (sym w.result-is)
          (read_and_lost t c.as_slice.result.now c.as_slice-2.result.now name digest c.version_of.result c.in-Some.version c.in_ok-is_back.is_back c.as_slice.ensures c.as_slice-2.ensures c.in-Some.is c.version_of.ensures c.in_ok-is_back.ensures w.if-is_back.false v)
    ]
