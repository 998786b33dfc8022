use Rattle.std.proofs.Common.{◌≡◌, ◌++◌, List, ℕ, subst}
use Rattle.std.specs.Prelude.{OnOk}
use Rattle.std.proofs.lemmas.Bool.{false≢true}
use Rattle.ext_walk.specs.Upcoming.{upcoming}
use Rattle.ext_walk.proofs.PartsLemmas.{parts_of_names}
use Rattle.ext_walk.proofs.parts.push_names.Goals as goal

pub returns : goal.returns
returns c =
    subst (λ (ps : List (List ℕ)). OnOk c.push_parts.result (upcoming c.push_parts.new.left.items ≡ ps ++ upcoming c.args.left.now.items))
    (parts_of_names c.text-text.result.now c.args.names.now c.text-text.ensures.parts (λ none. false≢true (c.if-is_root.ensures.1 none)))
    c.push_parts.ensures
