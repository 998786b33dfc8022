use Rattle.std.proofs.Common.{◌≡◌, eqb, length, true}
use Rattle.std.specs.List.{AllByRecursion, list_all, slice_split}
use Rattle.ext_text.specs.Name.{IsName, is_plain_ascii}
use Rattle.ext_text.proofs.parts.are_all_names.Given as goal

-- what is left decides whether all are names, and it is plain where all is
abbrev pub invariant-parts : goal.invariant-parts
invariant-parts l = record {
  good : AllByRecursion IsName (slice_split (λ b. eqb b 47) l.rest) → AllByRecursion IsName (slice_split (λ b. eqb b 47) l.bytes);
  bad : AllByRecursion IsName (slice_split (λ b. eqb b 47) l.bytes) → AllByRecursion IsName (slice_split (λ b. eqb b 47) l.rest);
  plain : l.plain ≡ true → list_all is_plain_ascii l.rest ≡ true;
}

abbrev pub decreases-parts : goal.decreases-parts
decreases-parts l = length l.rest
