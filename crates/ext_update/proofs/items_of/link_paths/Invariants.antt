use Rattle.std.proofs.Common.{◌≡◌, ◌++◌, map, drop}
use Rattle.ext_update.specs.declared.draft.CurrentLink.{CurrentLink}
use Rattle.ext_update.proofs.items_of.link_paths.Given as goal

-- the paths so far and those of the links that are left
abbrev pub invariant-links : goal.invariant-links
invariant-links l =
    l.paths.items ++ map (λ (link : CurrentLink). link.path) (drop l.link-index l.links)
    ≡ map (λ (link : CurrentLink). link.path) l.links
