use Rattle.std.proofs.Common.{None, Some, cond, refl, sym, ap, ◌∙◌, length}
use Rattle.std.proofs.lemmas.Bool.{ltb-false}
use Rattle.std.proofs.lemmas.Option.{slice_get_read, slice_get_past}
use Rattle.std.specs.Option.{is_some}
use Rattle.std.specs.Ordering.{is_eq}
use Rattle.ext_index_reader.proofs.HomeListLemmas.{found_there}
use Rattle.ext_index_reader.proofs.home_lists.found_in.Goals as goal

pub returns-in-Some : goal.returns-in-Some
returns-in-Some c =
    let read = c.in-Some.ensures.lookup in
    let at = slice_get_read c.args.homes.now (length c.args.homes.now) c.insertion_point_of.result c.in-Some.field-0.now refl read.3.0 read.1 in
    ap (λ b. cond b (Some c.in-Some.field-0.now.1) None) (sym c.if-is_eq.true ∙ c.is_eq.ensures ∙ ap is_eq c.cmp.ensures)
    ∙ found_there c.args.home c.args.homes.now c.insertion_point_of.result (Some c.in-Some.field-0.now) c.requires c.insertion_point_of.ensures.index at

pub returns-in_default : goal.returns-in_default
returns-in_default c =
    let read = c.in-Some.ensures.lookup in
    let at = slice_get_read c.args.homes.now (length c.args.homes.now) c.insertion_point_of.result c.in-Some.field-0.now refl read.3.0 read.1 in
    ap (λ b. cond b (Some c.in-Some.field-0.now.1) None) (sym c.if-is_eq.false ∙ c.is_eq.ensures ∙ ap is_eq c.cmp.ensures)
    ∙ found_there c.args.home c.args.homes.now c.insertion_point_of.result (Some c.in-Some.field-0.now) c.requires c.insertion_point_of.ensures.index at

pub returns-in_default-2 : goal.returns-in_default-2
returns-in_default-2 c =
    found_there c.args.home c.args.homes.now c.insertion_point_of.result None c.requires c.insertion_point_of.ensures.index
    (slice_get_past c.args.homes.now c.insertion_point_of.result (ltb-false _ _ (sym c.get.ensures.lookup.0 ∙ ap is_some c.in_default.is)))
