use Rattle.std.proofs.Common.{◌∙◌, sym, subst}
use Rattle.std.specs.Prelude.{ℕ, IfOk, List}
use Rattle.ext_walk.specs.Leads.{LeadsTo}
use Rattle.ext_walk.specs.Walk.{parts}
use Rattle.ext_find.specs.Content.{is_file_at}
use Rattle.ext_find.specs.HostRelease.{LeadsToContent}
use Rattle.ext_portext.proofs.judging.extension_file.Goals as goal

pub file_of_text-requires : goal.file_of_text-requires
file_of_text-requires c =
    subst (λ (t : List ℕ). LeadsTo is_file_at c.args.tree.now (parts t)) (sym (c.as_slice.ensures.value ∙ c.in_ok-text.ensures)) c.requires

pub returns : goal.returns
returns c =
    subst (λ (t : List ℕ). IfOk c.file_of_text.result (λ held. LeadsToContent c.args.tree.now (parts t) held.now)) (c.as_slice.ensures.value ∙ c.in_ok-text.ensures) c.file_of_text.ensures
