use Rattle.std.proofs.Common.{refl}
use Rattle.std.proofs.lemmas.Bool.{false≢true}
use Rattle.ext_lines.proofs.ForCallers.{first_part, one_part}
use Rattle.ext_text.proofs.NameLemmas.{plain_after}
use Rattle.ext_text.proofs.parts.are_all_names.Goals as goal

pub returns-in-None : goal.returns-in-None
returns-in-None c =
    let split = one_part 47 c.parts.rest.now c.in-None.ensures in
    let was = c.parts.invariant in
    (λ is. was.good (rw split (c.is_name_part.ensures.0 is, tt)), λ each. c.is_name_part.ensures.1 (rw split at (was.bad each)).0)

pub returns-then-not-is_name_part : goal.returns-then-not-is_name_part
returns-then-not-is_name_part c =
    let split = first_part 47 c.parts.rest.now c.in-Some.part.now c.in-Some.after.now c.in-Some.ensures in
    (λ is. absurd (false≢true is), λ each. c.if-not-is_name_part.ensures.1 (rw split at (c.parts.invariant.bad each)).0)

pub parts-preserved : goal.parts-preserved
parts-preserved c =
    let split = first_part 47 c.parts.rest.now c.in-Some.part.now c.in-Some.after.now c.in-Some.ensures in
    let was = c.parts.invariant in
    record {
      good = λ each. was.good (rw split (c.if-not-is_name_part.ensures.0 refl, each));
      bad = λ each. (rw split at (was.bad each)).1;
      plain = λ is. plain_after c.parts.rest.now c.in-Some.part.now c.in-Some.after.now c.in-Some.ensures.whole (was.plain is);
    }
