use Rattle.std.proofs.Common.{ℕ, List, [], ◌∷◌, ◌++◌, ap, sym, ◌∙◌}
use Rattle.ext_published.specs.Manifest.{listing_line, with_last_newline}
use Rattle.ext_published.proofs.ListingLemmas.{listing_text}
use Rattle.ext_published.proofs.manifest.with_listing.Goals as goal

pub returns : goal.returns
returns c =
    let line = listing_line c.args.digest.now.0 c.args.name.now in
    c.from_vec.ensures ∙ c.in_ok-append_listing.ensures
    ∙ ap (λ (t : List ℕ). t ++ (line ++ 10 ∷ [])) (c.in_ok-end_line.ensures ∙ ap with_last_newline c.into_vec-text.ensures)
    ∙ sym (listing_text c.args.old line)
