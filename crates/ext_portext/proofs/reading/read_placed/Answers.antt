use Rattle.std.proofs.Common.{sym, subst}
use Rattle.std.specs.Prelude.{ℕ, List}
use Rattle.ext_units.proofs.ForCallers.{image_served}
use Rattle.ext_portext.specs.Extension.{IsExtensionAt}
use Rattle.ext_portext.specs.Judged.{LeadsToExtensionFile}
use Rattle.ext_portext.specs.Steps.{ReadsExtension, SaysOfExtension, extending_of}
use Rattle.ext_portext.proofs.ExtensionLemmas.{extension_file_leads, extension_leads}
use Rattle.ext_portext.proofs.FailLemmas.{said_extending}
use Rattle.ext_portext.proofs.reading.read_placed.Goals as goal

pub tree_of-requires : goal.tree_of-requires
tree_of-requires g c = extension_leads c.args.look.now.host.now c.args.look.now.base.now c.args.image.now c.args.placed.place c.args.placed.broken c.requires.placed

pub said_of-said-requires-clause-leads : goal.said_of-said-requires-clause-leads
said_of-said-requires-clause-leads g c = λ usable.
    subst (LeadsToExtensionFile c.in_ok-tree.tree) (sym c.name.ensures)
    (extension_file_leads c.args.look.now.host.now c.args.look.now.base.now c.args.image.now c.args.placed.place c.in_ok-tree.tree
    (subst (IsExtensionAt c.args.look.now.host.now c.args.look.now.base.now c.args.image.now c.args.placed.place) usable c.requires.placed) c.in_ok-tree.ensures)

pub said_of-said-requires-clause-serves : goal.said_of-said-requires-clause-serves
said_of-said-requires-clause-serves g c =
    image_served (g.H.Shelf.serves c.args.shelf.now) c.args.look.now.base.now c.args.placed.place c.in_ok-tree.tree c.requires.serves c.in_ok-tree.ensures

pub returns-clause-gives : goal.returns-clause-gives
returns-clause-gives g c =
    let told = g.H.Shelf.told c.args.shelf.now in
    let old = g.H.Shelf.faults c.args.shelf.now in
    let new = g.H.Shelf.faults c.said_of-said.new.shelf in
    let look = c.args.look.now in
    subst (ReadsExtension told look.host.now look.base.now look.release.now old new c.args.at c.args.image.now) {x = extending_of c.args.at c.args.placed.place c.in_ok-tree.tree c.said_of-said.result} (sym {b = extending_of c.args.at c.args.placed.place c.in_ok-tree.tree c.said_of-said.result} c.extending_of.ensures)
    (said_extending told look.host.now look.base.now look.release.now old new c.args.at c.args.image.now (record { place = c.args.placed.place; tree = c.in_ok-tree.tree }) c.args.placed.broken c.requires.placed c.in_ok-tree.ensures
    c.said_of-said.result
    (subst (λ (name : List ℕ). SaysOfExtension look.release.now look.host.now.arch told old new c.in_ok-tree.tree name c.args.placed.broken c.said_of-said.result) c.name.ensures c.said_of-said.ensures.gives))
