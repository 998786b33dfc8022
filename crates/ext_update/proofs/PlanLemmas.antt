-- What is planned of pieces is what is wanted of what is written.
use Rattle.std.proofs.Common.{◌≡◌, ◌≢◌, ℕ, Bool, true, false, cond, List, [], ◌∷◌, ◌++◌, map, Option, Some, None, Result, Ok, Err, refl, sym, ap, ◌∙◌, subst}
use Rattle.std.specs.Prelude.{Contains, IsTrue, IfOk}
use mathlib.Core.Logic.{inl, inr}
use Rattle.std.specs.List.{AllByRecursion, filter}
use Rattle.std.proofs.lemmas.Bool.{false≢true}
use Rattle.std.proofs.lemmas.List.{map-append}
use Rattle.std.proofs.lemmas.List.Elements.{Contains-append_cases}
use Rattle.ext_text.specs.SortedPaths.{is_among}
use Rattle.ext_text.specs.declared.which.Which.{Which}
use Rattle.ext_text.proofs.ForCallers.{all_append, all_prefix}
use Rattle.ext_tree.specs.Graft.{IsOpen, IsTooLong, is_non_directory_at}
use Rattle.ext_tree.specs.Tree.{Entries, lookup}
use Rattle.ext_host.specs.Held.{HeldFile}
use Rattle.ext_host.specs.Limits.{passed_limit}
use Rattle.ext_host.specs.Planning.{IsPlannedHost}
use Rattle.ext_host.specs.Valid.{IsValidHost}
use Rattle.ext_host.specs.declared.host.Host.{Host}
use Rattle.ext_resources.specs.declared.resource.Content.{Content}
use Rattle.ext_resources.specs.declared.resource.Content.TheVariants.{File, Directory}
use Rattle.ext_updated.specs.Clash.{NoClash}
use Rattle.ext_updated.specs.Items.{written}
use Rattle.ext_updated.specs.Pieces.{IsPiece, MayBePut, paths_of}
use Rattle.ext_updated.specs.Updated.{IsPieceTooLong, IsUpdated, PieceFits}
use Rattle.ext_updated.specs.declared.items.Items.{Items}
use Rattle.ext_updated.specs.declared.piece.Piece.{Piece}
use Rattle.ext_updated.proofs.ForCallers.{pieces_may}
use Rattle.ext_update.specs.Drafts.{FitsAlone, FitsDraft, IsNewPiece, LinkFitsAlone, Touches, arrival_piece, current_piece, draft_pieces}
use Rattle.ext_update.specs.Stages.{AllFit, FittingWants, IsBlocking, IsLeastFor, IsLocked, LinkFits, ResourceFits, SizedWants, Writes, WritesWant, is_within_limits, written_pieces}
use Rattle.ext_update.specs.Steps.{AreDraftItems, IfNext, IsSoundDraft, PiecesWant, RootWants, draft_writes}
use Rattle.ext_update.specs.declared.draft.Arrival.{Arrival}
use Rattle.ext_update.specs.declared.draft.CurrentLink.{CurrentLink}
use Rattle.ext_update.specs.declared.draft.Draft.{Draft}
use Rattle.ext_update.specs.declared.planned.Planned.{Planned}
use Rattle.ext_update.specs.declared.planned.Planned.TheVariants.{Next, Refused}
use Rattle.ext_update.specs.declared.refusal.UpdateRefusal.TheVariants.{ReadOnly}
use Rattle.ext_update.proofs.DraftLemmas.{arrival_paths}
use Rattle.ext_update.proofs.FindLemmas.{all_contained, among_contained}
use Rattle.ext_update.proofs.NextLemmas.{IsComing, are_kept, next_is_valid}
use Rattle.ext_update.proofs.RootLemmas.{next_is_drawn, root_in_range, within_limits}
use Rattle.ext_update.proofs.StageLemmas.{arrivals_below, written_are, written_below, written_paths}

-- what follows of a value follows of it in a result
pub if_ok : {T E : Type 0} (P Q : T → Type 0) (result : Result T E) → ((x : T) → P x → Q x) → IfOk result P → IfOk result Q
if_ok P Q (Ok x) gives has = gives x has
if_ok P Q (Err e) gives has = tt

filter_all : (test : List (List ℕ) → Bool) (paths : List (List (List ℕ))) → AllByRecursion (λ p. test p ≡ true) paths → filter test paths ≡ paths
filter_all test [] all = refl
filter_all test (p ∷ paths) all =
    ap (λ b. cond b (p ∷ filter test paths) (filter test paths)) all.0 ∙ ap (λ (ps : List (List (List ℕ))). p ∷ ps) (filter_all test paths all.1)

within_all : (arrivals : List Arrival) → AllByRecursion FitsAlone arrivals → AllByRecursion (λ p. is_within_limits p ≡ true) (paths_of (map arrival_piece arrivals))
within_all [] all = tt
within_all (arrival ∷ arrivals) all = (all.0.0, within_all arrivals all.1)

-- each is a piece: what has a part is a directory
is_piece : (arrival : Arrival) (content : Content) → arrival.content ≡ content → IsPiece (arrival_piece arrival)
is_piece arrival content is =
    subst (λ (c : Content). IsPiece (arrival_piece (record arrival { content = c }))) (sym is) (by_content content)
  where
    by_content : (c : Content) → IsPiece (arrival_piece (record arrival { content = c }))
    by_content (File stamp) = λ top. refl
    by_content (Directory tree) = λ top. absurd (false≢true (sym top))

arrival_pieces : (arrivals : List Arrival) → AllByRecursion IsPiece (map arrival_piece arrivals)
arrival_pieces [] = tt
arrival_pieces (arrival ∷ arrivals) = (is_piece arrival arrival.content refl, arrival_pieces arrivals)

link_pieces : (links : List CurrentLink) → AllByRecursion IsPiece (map current_piece links)
link_pieces [] = tt
link_pieces (link ∷ links) = ((λ top. refl), link_pieces links)

-- all fits where each resource and each link does, and each part of a piece
resources_fit : (arrivals : List Arrival) → AllByRecursion FitsAlone arrivals → AllByRecursion PieceFits (map arrival_piece arrivals) → AllByRecursion ResourceFits (map arrival_piece arrivals)
resources_fit [] fits parts = tt
resources_fit (arrival ∷ arrivals) fits parts =
    (record { path = fits.0.0; part = parts.0; files = fits.0.1 }, resources_fit arrivals fits.1 parts.1)

resources_alone : (arrivals : List Arrival) → AllByRecursion ResourceFits (map arrival_piece arrivals) → AllByRecursion FitsAlone arrivals
resources_alone [] fits = tt
resources_alone (arrival ∷ arrivals) fits = ((fits.0.path, fits.0.files), resources_alone arrivals fits.1)

links_fit : (links : List CurrentLink) → AllByRecursion LinkFitsAlone links → AllByRecursion (λ (piece : Piece HeldFile). LinkFits piece.top) (map current_piece links)
links_fit [] fits = tt
links_fit (link ∷ links) fits = (fits.0, links_fit links fits.1)

links_alone : (links : List CurrentLink) → AllByRecursion (λ (piece : Piece HeldFile). LinkFits piece.top) (map current_piece links) → AllByRecursion LinkFitsAlone links
links_alone [] fits = tt
links_alone (link ∷ links) fits = (fits.0, links_alone links fits.1)

-- a link has no part
links_short : (links : List CurrentLink) → AllByRecursion (λ (piece : Piece HeldFile). IsTooLong piece.path piece.part → ⊥) (map current_piece links)
links_short [] = tt
links_short (link ∷ links) = ((λ long. false≢true long.1), links_short links)

-- a piece that is too long is a resource that doesn't fit
pub too_long : (draft : Draft) → IsPieceTooLong (draft_pieces draft) → AllByRecursion ResourceFits (map arrival_piece draft.arrivals.items) → ⊥
too_long draft (piece, at, long) fits = elim (Contains-append_cases (map arrival_piece draft.arrivals.items) (map current_piece draft.links.items) piece at) [
  | inl resource ↦ long.2 ((all_contained ResourceFits (map arrival_piece draft.arrivals.items) piece fits resource).part long.0 long.1)
  | inr link ↦ all_contained (λ (p : Piece HeldFile). IsTooLong p.path p.part → ⊥) (map current_piece draft.links.items) piece (links_short draft.links.items) link long
]

-- what fits in a draft
pub draft_fits : (draft : Draft) (items : Items) → AllFit (draft_writes draft items) → FitsDraft draft
draft_fits draft items fit = record { arrivals = resources_alone draft.arrivals.items fit.resources; links = links_alone draft.links.items fit.links }

module _ (host : Host) (draft : Draft) (items : Items) (same : AreDraftItems draft items) (sound : IsSoundDraft draft) (fits : FitsDraft draft) where
  resources_are : items.resources ≡ paths_of (map arrival_piece draft.arrivals.items)
  resources_are =
      ap (λ (i : Items). i.resources) same
      ∙ filter_all is_within_limits (paths_of (map arrival_piece draft.arrivals.items)) (within_all draft.arrivals.items fits.arrivals)

  written_is : written items ≡ paths_of (written_pieces (draft_writes draft items))
  written_is =
      (λ i. resources_are i ++ (same i).links)
      ∙ sym (map-append (λ (piece : Piece HeldFile). piece.path) (map arrival_piece draft.arrivals.items) (map current_piece draft.links.items))

  written_same : written items ≡ written_paths draft
  written_same = written_is ∙ written_are draft items

  none_at_root : is_among (written items) [] ≡ false
  none_at_root = is_false (is_among (written items) []) (λ among.
      let at = subst (λ ps. Contains ps []) written_same (among_contained (written items) [] among) in
      all_contained (λ p. p ≢ []) (written_paths draft) [] (written_below draft sound) at refl)
    where
      is_false : (b : Bool) → (b ≡ true → ⊥) → b ≡ false
      is_false true never = absurd (never refl)
      is_false false never = refl

  opens : ((at : List (List ℕ)) → IsBlocking host (draft_writes draft items) at → ⊥) → (p : List (List ℕ)) → IsTrue (is_among (written items) p) → IsOpen host.root p
  opens open_ p among q proper =
      is_false (is_non_directory_at (lookup host.root q)) (λ stands.
      open_ q (record { path = p; written = ap (λ ps. is_among ps p) (sym written_is) ∙ among; above = proper; stands = stands }))
    where
      is_false : (b : Bool) → (b ≡ true → ⊥) → b ≡ false
      is_false true never = absurd (never refl)
      is_false false never = refl

  -- the pieces may be put
  pub may_be_put : NoClash host.root items → ((at : List (List ℕ)) → IsBlocking host (draft_writes draft items) at → ⊥)
      → MayBePut host.root items.removed (draft_pieces draft)
  may_be_put apart open_ =
      pieces_may host.root items (draft_pieces draft) (record {
        paths = sym written_is;
        each = all_append IsPiece (map arrival_piece draft.arrivals.items) (map current_piece draft.links.items) (arrival_pieces draft.arrivals.items) (link_pieces draft.links.items);
      }) apart none_at_root (opens open_)

  module _ (touched : List (List (List ℕ))) (touches : Touches items touched) (valid : IsValidHost host) (apart : NoClash host.root items)
      (unlocked : (path : List (List ℕ)) → IsLocked host (draft_writes draft items) path → ⊥) where
    coming : (root : Entries HeldFile) → IsUpdated host.root items.removed (draft_pieces draft) root → IsComing host (draft_writes draft items) items touched root
    coming root updated = record {
      same = same;
      removed = refl;
      touches = touches;
      resources = resources_are;
      written_is = written_is;
      below_root = subst (AllByRecursion (λ path. path ≢ [])) (sym (resources_are ∙ arrival_paths draft.arrivals.items)) (arrivals_below draft.arrivals.items);
      apart = apart;
      unlocked = unlocked;
      updated = updated;
      valid = valid;
    }

    all_fit : AllByRecursion PieceFits (draft_pieces draft) → AllFit (draft_writes draft items)
    all_fit parts = record {
      resources = resources_fit draft.arrivals.items fits.arrivals (all_prefix PieceFits (map arrival_piece draft.arrivals.items) (map current_piece draft.links.items) parts);
      links = links_fit draft.links.items fits.links;
    }

    root_sized : (root : Entries HeldFile) (limit : Option Which) (planned : Planned) → IsUpdated host.root items.removed (draft_pieces draft) root
        → RootWants host touched items.resources root limit planned → SizedWants host (draft_writes draft items) root limit planned
    root_sized root None planned updated (next, is, wants) =
        (is.kept, are_kept host (draft_writes draft items) items touched root (coming root updated) is.kept is.manifests, wants ∙ ap Next is.rest)
    root_sized root (Some which) planned updated wants = wants

    -- what is wanted of what is written
    pub fitting_wants : (planned : Planned) → PiecesWant host touched items (draft_pieces draft) planned → FittingWants host (draft_writes draft items) planned
    fitting_wants planned (inl (parts, (root, updated, wants))) =
        inl (all_fit parts, (root, updated, root_sized root (passed_limit root host.lower) planned updated wants))
    fitting_wants planned (inr (long, is)) = inr ((λ fit. too_long draft long fit.resources), is)

    module _ (new : AllByRecursion IsNewPiece (draft_pieces draft)) where
      root_planned : (root : Entries HeldFile) (limit : Option Which) (planned : Planned) → IsUpdated host.root items.removed (draft_pieces draft) root
          → passed_limit root host.lower ≡ limit → RootWants host touched items.resources root limit planned → IfNext (IsPlannedHost host) planned
      root_planned root None planned updated passes (next, is, wants) =
          let limits = within_limits root host.lower passes in
          let range = root_in_range host root items.removed (draft_pieces draft) updated new valid.present.limits.root in
          subst (IfNext (IsPlannedHost host)) (sym (wants ∙ ap Next is.rest)) (record {
            valid = next_is_valid host (draft_writes draft items) items touched root (coming root updated) is.kept is.manifests range limits.0 limits.1;
            drawn = next_is_drawn host root items.removed (draft_pieces draft) updated new is.kept;
          })
      root_planned root (Some which) planned updated passes wants = subst (IfNext (IsPlannedHost host)) (sym wants) tt

      -- the coming host is valid, and drawn from the host
      pub is_planned : (planned : Planned) → PiecesWant host touched items (draft_pieces draft) planned → IfNext (IsPlannedHost host) planned
      is_planned planned (inl (parts, (root, updated, wants))) = root_planned root (passed_limit root host.lower) planned updated refl wants
      is_planned planned (inr (long, is)) = subst (IfNext (IsPlannedHost host)) (sym is) tt

-- the refusal of a copy of the least locked path
pub refused_wants : (host : Host) (writes : Writes) (path copy : List (List ℕ)) → copy ≡ path → IsLeastFor (IsLocked host writes) path
    → WritesWant host writes (Refused (ReadOnly copy))
refused_wants host writes path copy same least = inr (path, least, ap (λ p. Refused (ReadOnly p)) same)
