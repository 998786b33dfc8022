-- What is written, before it is known whether it fits.
use Rattle.std.proofs.Common.{◌≡◌, ℕ, ◌+◌, ◌++◌, List, [], ◌∷◌, map, Option, Some, refl, sym, ap, ◌∙◌, arith}
use Rattle.std.specs.Prelude.{slice_get}
use Rattle.std.specs.List.{filter, flat_map, range_with_len}
use Rattle.std.proofs.lemmas.Grind.{flat_map-append}
use Rattle.std.proofs.lemmas.List.{append-nil, map-id}
use Rattle.std.proofs.lemmas.List.FromFn.{map-range_with_len_more}
use Rattle.ext_transfer.specs.declared.transfer.Transfer.{Transfer}
use Rattle.ext_installed.specs.declared.instance.Instance.{Instance}
use Rattle.ext_resources.specs.declared.resource.Resource.{Resource}
use Rattle.ext_updated.specs.Pieces.{paths_of}
use Rattle.ext_update.specs.Drafts.{AreItems, arrival_piece, arrives_at, current_at, current_piece, first_links, set_link_at, link_if}
use Rattle.ext_update.specs.Stages.{is_within_limits}
use Rattle.ext_update.specs.declared.draft.Arrival.{Arrival}
use Rattle.ext_update.specs.declared.draft.CurrentLink.{CurrentLink}
use Rattle.ext_update.specs.declared.draft.Draft.{Draft}
use Rattle.ext_choice.specs.declared.division.Division.{Division}

-- the paths of what is written are those at which resources arrive, and those of the links
pub arrival_paths : (arrivals : List Arrival) → paths_of (map arrival_piece arrivals) ≡ map arrives_at arrivals
arrival_paths [] = refl
arrival_paths (arrival ∷ arrivals) = ap (λ (paths : List (List (List ℕ))). arrives_at arrival ∷ paths) (arrival_paths arrivals)

pub link_paths : (links : List CurrentLink) → paths_of (map current_piece links) ≡ map (λ (link : CurrentLink). link.path) links
link_paths [] = refl
link_paths (link ∷ links) = ap (λ (paths : List (List (List ℕ))). link.path ∷ paths) (link_paths links)

-- one place more
range_push : (n : ℕ) → range_with_len 0 (n + 1) ≡ range_with_len 0 n ++ n ∷ []
range_push n =
    sym (map-id (range_with_len 0 (n + 1))) ∙ map-range_with_len_more (λ k. k) 0 n n (omega arith) ∙ ap (λ (ks : List ℕ). ks ++ n ∷ []) (map-id (range_with_len 0 n))

-- the links of one transfer more
pub next_links : (transfers : List Transfer) (items : List Instance) (resources : List Resource) (version : List ℕ) (count : ℕ)
    (transfer : Transfer) → slice_get transfers count ≡ Some transfer
    → first_links transfers items resources version (count + 1)
    ≡ first_links transfers items resources version count ++ link_if transfer (current_at items resources version count)
next_links transfers items resources version count transfer there =
    let f = λ (place : ℕ). set_link_at (slice_get transfers place) (current_at items resources version place) in
    ap (flat_map f) (range_push count) ∙ flat_map-append f (range_with_len 0 count) (count ∷ [])
    ∙ ap (λ (ls : List CurrentLink). first_links transfers items resources version count ++ ls) (append-nil (f count))
    ∙ ap (λ (t : Option Transfer). first_links transfers items resources version count ++ set_link_at t (current_at items resources version count)) there

-- items of these paths
pub items_with : (draft : Draft) (division : Division) (resources links : List (List (List ℕ)))
    → resources ≡ filter is_within_limits (map arrives_at draft.arrivals.items)
    → links ≡ map (λ (link : CurrentLink). link.path) draft.links.items
    → AreItems draft division (record { resources = resources; links = links; removed = division.removed; staying = division.staying })
items_with draft division resources links first second =
    let one = first ∙ ap (λ (paths : List (List (List ℕ))). filter is_within_limits paths) (sym (arrival_paths draft.arrivals.items)) in
    let two = second ∙ sym (link_paths draft.links.items) in
    record {
      same = λ i. record { resources = one i; links = two i; removed = division.removed; staying = division.staying };
      removed = refl;
      staying = refl;
    }
