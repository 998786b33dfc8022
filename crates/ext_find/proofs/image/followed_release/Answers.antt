use Rattle.std.proofs.Common.{sym, ◌∙◌, subst}
use Rattle.std.proofs.lemmas.Bool.{false≢true}
use Rattle.ext_text.specs.Path.{IsPath}
use Rattle.ext_tree.specs.Part.{part}
use Rattle.ext_walk.specs.Walk.{ResolvesIn, parts}
use Rattle.ext_walk.proofs.ForCallers.{leads_iff}
use Rattle.ext_find.specs.Content.{is_file_at}
use Rattle.ext_find.specs.ExtensionRelease.{release_text}
use Rattle.ext_find.proofs.ImageLemmas.{file_path}
use Rattle.ext_find.proofs.image.followed_release.Goals as goal

pub returns-in-None : goal.returns-in-None
returns-in-None g c = λ leads.
    let led = subst (ResolvesIn c.args.base.now c.args.image.now (parts (release_text c.args.class c.args.name.now))) c.in-None.is (rw (c.as_slice.ensures.value, c.in_ok-text.ensures) at c.in_ok-end_of_text.ensures) in
    led leads.0 leads.1

pub of_names-requires : goal.of_names-requires
of_names-requires g c =
    let led = subst (ResolvesIn c.args.base.now c.args.image.now (parts (release_text c.args.class c.args.name.now))) c.in-Some.is (rw (c.as_slice.ensures.value, c.in_ok-text.ensures) at c.in_ok-end_of_text.ensures) in
    subst IsPath (sym led.1) (file_path c.args.base.now c.pairs-entries.ensures.tree.tree c.args.image.now led.0 (sym (c.is_file_in.ensures led.0 led.1) ∙ c.if-is_file_in.true))

pub returns-then-is_file_in : goal.returns-then-is_file_in
returns-then-is_file_in g c =
    let led = subst (ResolvesIn c.args.base.now c.args.image.now (parts (release_text c.args.class c.args.name.now))) c.in-Some.is (rw (c.as_slice.ensures.value, c.in_ok-text.ensures) at c.in_ok-end_of_text.ensures) in
    record { end = led.0; ends = led.2; file = sym (c.is_file_in.ensures led.0 led.1) ∙ c.if-is_file_in.true; whole = c.in_ok-of_names-in-Some.ensures ∙ led.1 }

pub returns : goal.returns
returns g c = λ leads.
    let led = subst (ResolvesIn c.args.base.now c.args.image.now (parts (release_text c.args.class c.args.name.now))) c.in-Some.is (rw (c.as_slice.ensures.value, c.in_ok-text.ensures) at c.in_ok-end_of_text.ensures) in
    let passes = leads_iff is_file_at (part c.args.image.now c.args.base.now) (parts (release_text c.args.class c.args.name.now)) led.0 c.is_file_in.result led.2 (c.is_file_in.ensures led.0 led.1) in
    false≢true (sym c.if-is_file_in.false ∙ passes.1 leads)
