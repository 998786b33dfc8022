-- The lines of kept manifests, read and printed.
use Rattle.std.proofs.Common.{◌≡◌, ℕ, zero, suc, ◌≤◌, List, [], ◌∷◌, ◌++◌, length, refl, sym, ap, ◌∙◌, subst, arith, codes}
use Rattle.std.specs.Prelude.{map}
use Rattle.std.specs.List.{AllByRecursion, flat_map}
use Rattle.ext_text.specs.Digest.{IsDigest}
use Rattle.ext_text.specs.Order.{paths_total}
use Rattle.ext_text.specs.Path.{IsPath, path_cmp}
use Rattle.ext_text.proofs.ForCallers.{all_weaker}
use Rattle.ext_host.specs.Valid.{AreApart, AreAscending, IsManifest}
use Rattle.ext_host.specs.declared.manifest.Item.{Item}
use Rattle.ext_host.specs.declared.manifest.Manifest.{Manifest}
use Rattle.ext_index_lines.specs.Lines.{IsLinePath, manifest_line, number_line}
use Rattle.ext_index_reader.specs.Index.{line_of_item, manifest_lines}
use Rattle.ext_index_reader.specs.Listed.{IsWellFormedManifest}
use Rattle.ext_index_reader.specs.State.{at_part, then_items, then_kept}
use Rattle.ext_index_reader.specs.Step.{most_count}
use Rattle.ext_index_reader.specs.declared.state.PartStage.TheVariants as parts
use Rattle.ext_index_reader.specs.declared.state.Parts.{Parts}
use Rattle.ext_index_reader.specs.declared.state.Reading.{Reading}
use Rattle.ext_index_reader.specs.declared.state.SoFar.{SoFar}
use Rattle.ext_index_reader.proofs.AttachmentLemmas.{line_path, line_path_some}
use Rattle.ext_index_reader.proofs.FollowLemmas.{MayJoin, MayJoinApart, after_snoc, joined, joined_apart, joins, joins_apart, path_of, snoc}
use Rattle.ext_index_reader.proofs.MergedLemmas.{flat_single, with_parts}
use Rattle.ext_index_reader.proofs.SectionLemmas.{Opened, ToEnd, again, first_line_of, peel}

-- an item that a line tells
pub record IsListedItem (i : Item) : Type 0 where
  pub path : IsLinePath i.path
  pub digest : IsDigest i.digest.0

abbrev ItemJoins : List Item → Item → Type 0
ItemJoins items i = MayJoin path_cmp (λ (i : Item). i.path) IsListedItem items i

abbrev item_lines : Item → List (List ℕ)
item_lines i = line_of_item i ∷ []

-- a manifest that an index lists
pub record IsListedManifest (m : Manifest) : Type 0 where
  pub valid : IsManifest m
  pub formed : IsWellFormedManifest m
  pub items : AllByRecursion IsListedItem m.items
  pub few : length m.items ≤ most_count

abbrev ManifestJoins : List Manifest → Manifest → Type 0
ManifestJoins kept m = MayJoinApart IsListedManifest kept m

module _ (g : ℕ) (e s : SoFar) (p : Parts) where
  abbrev state_with : List Manifest → SoFar
  state_with kept = with_parts s (record p { kept = kept })

  abbrev kept_state : List Manifest → ℕ → Reading
  kept_state kept n = then_kept (state_with kept) n

  module _ (kept : List Manifest) (n : ℕ) (path : List (List ℕ)) where
    abbrev with_items : List Item → Manifest
    with_items items = record { path = path; items = items }

    abbrev items_state : List Item → ℕ → Reading
    items_state items k = then_items (state_with kept) n k (with_items items)

    items_open : (items : List Item) (k : ℕ) (lines : List (List ℕ)) → ToEnd g e (items_state items (suc k)) lines → Opened g e snoc ItemJoins item_lines items_state items k lines
    items_open items k lines run =
        let first = first_line_of g e (at_part (state_with kept) (parts.Item n k (with_items items))) lines (λ z. cc) run in
        record {
          item = record { path = first.step.1; digest = first.step.0 };
          may = (record { path = first.step.3; digest = first.step.2 }, first.step.5);
          rest = first.rest;
          text = first.text ∙ ap (λ l. l ∷ first.rest) first.step.4;
          run = subst (λ r. ToEnd g e r first.rest) first.step.6 first.run;
        }

    items_close : (items : List Item) (k : ℕ) (i : Item) (rest : List (List ℕ)) → ItemJoins items i → ToEnd g e (items_state (snoc items i) k) rest → ToEnd g e (items_state items (suc k)) (item_lines i ++ rest)
    items_close items k i rest may run = (items_state (snoc items i) k, (i.digest, i.path, may.0.digest, may.0.path, refl, may.1, refl), run)

  opens : (kept : List Manifest) (n : ℕ) (lines : List (List ℕ)) → ToEnd g e (kept_state kept (suc n)) lines → Opened g e snoc ManifestJoins manifest_lines kept_state kept n lines
  opens kept n lines run =
      let one = first_line_of g e (at_part (state_with kept) (parts.Manifest n)) lines (λ z. cc) run in
      let count = one.step.0 in
      let path = one.step.1 in
      let run1 = subst (λ r. ToEnd g e r one.rest) one.step.6 one.run in
      let all = peel g e snoc ItemJoins item_lines (items_state kept n path) (items_open kept n path) [] count one.rest run1 in
      let chain = joined path_cmp (λ (i : Item). i.path) IsListedItem paths_total.trans [] all.items tt all.may in
      record {
        item = with_items kept n path all.items;
        may = (
          record {
            valid = record { path = line_path_some path one.step.3; order = chain.0 };
            formed = record { path = one.step.3.within; items = all_weaker IsListedItem (λ (i : Item). IsPath i.path × IsDigest i.digest.0) (λ i is. (is.path.within, is.digest)) all.items chain.1 };
            items = chain.1;
            few = let same = all.count in let few = one.step.2 in omega arith;
          },
          one.step.5,
        );
        rest = all.rest;
        text = one.text ∙ (λ i. one.step.4 i ∷ all.text i) ∙ (λ i. manifest_line (sym all.count i) path ∷ (flat_single line_of_item all.items i ++ all.rest));
        run = subst (λ (is : List Item). ToEnd g e (items_state kept n path is zero) all.rest) (after_snoc [] all.items) all.run;
      }

  closes : (kept : List Manifest) (n : ℕ) (m : Manifest) (rest : List (List ℕ)) → ManifestJoins kept m → ToEnd g e (kept_state (snoc kept m) n) rest → ToEnd g e (kept_state kept (suc n)) (manifest_lines m ++ rest)
  closes kept n m rest may run =
      let state = items_state kept n m.path in
      let end = subst (λ (is : List Item). ToEnd g e (state is zero) rest) (sym (after_snoc [] m.items)) run in
      let items_run = again g e snoc ItemJoins item_lines state (items_close kept n m.path) [] m.items rest (joins path_cmp (λ (i : Item). i.path) IsListedItem [] m.items may.0.valid.order may.0.items) end in
      let shown = subst (λ (ls : List (List ℕ)). ToEnd g e (state [] (length m.items)) (ls ++ rest)) (flat_single line_of_item m.items) items_run in
      (state [] (length m.items), (length m.items, m.path, may.0.few, line_path m.path may.0.formed.path may.0.valid.path, refl, may.1, refl), shown)

  abbrev pub before_kept : Reading
  before_kept = at_part (with_parts s (record p { kept = [] })) parts.Kept

  abbrev pub after_kept : List Manifest → Reading
  after_kept kept = at_part (state_with kept) parts.Root

  abbrev pub counted_manifests : List Manifest → List (List ℕ)
  counted_manifests kept = number_line (codes "kept") (length kept) ∷ flat_map manifest_lines kept

  pub record KeptRead (lines : List (List ℕ)) : Type 0 where
    pub items : List Manifest
    pub rest : List (List ℕ)
    pub text : lines ≡ counted_manifests items ++ rest
    pub run : ToEnd g e (after_kept items) rest
    pub formed : AllByRecursion IsWellFormedManifest items
    pub valid : AllByRecursion IsManifest items
    pub below : AllByRecursion (λ (m : Manifest). AllByRecursion (λ (i : Item). i.path ≡ [] → ⊥) m.items) items
    pub order : AreAscending path_cmp (map path_of items)
    pub apart : AreApart items

  pub kept_read : (lines : List (List ℕ)) → ToEnd g e before_kept lines → KeptRead lines
  kept_read lines run =
      let first = first_line_of g e before_kept lines (λ z. cc) run in
      let run1 = subst (λ r. ToEnd g e r first.rest) first.step.3 first.run in
      let all = peel g e snoc ManifestJoins manifest_lines kept_state opens [] first.step.0 first.rest run1 in
      let chain = joined_apart IsListedManifest [] all.items tt tt all.may in
      record {
        items = all.items;
        rest = all.rest;
        text = first.text ∙ (λ i. first.step.2 i ∷ all.text i) ∙ (λ i. number_line (codes "kept") (sym all.count i) ∷ (flat_map manifest_lines all.items ++ all.rest));
        run = subst (λ (kept : List Manifest). ToEnd g e (kept_state kept zero) all.rest) (after_snoc [] all.items) all.run;
        formed = all_weaker IsListedManifest IsWellFormedManifest (λ m is. is.formed) all.items chain.2;
        valid = all_weaker IsListedManifest IsManifest (λ m is. is.valid) all.items chain.2;
        below = all_weaker IsListedManifest (λ (m : Manifest). AllByRecursion (λ (i : Item). i.path ≡ [] → ⊥) m.items) (λ m is. all_weaker IsListedItem (λ (i : Item). i.path ≡ [] → ⊥) (λ i has. line_path_some i.path has.path) m.items is.items) all.items chain.2;
        order = chain.0;
        apart = chain.1;
      }

  pub kept_run : (kept : List Manifest) (rest : List (List ℕ)) → AreAscending path_cmp (map path_of kept) → AreApart kept → AllByRecursion IsListedManifest kept → length kept ≤ most_count → ToEnd g e (after_kept kept) rest → ToEnd g e before_kept (counted_manifests kept ++ rest)
  kept_run kept rest order apart each few run =
      let end = subst (λ (ms : List Manifest). ToEnd g e (kept_state ms zero) rest) (sym (after_snoc [] kept)) run in
      let all = again g e snoc ManifestJoins manifest_lines kept_state closes [] kept rest (joins_apart IsListedManifest [] kept order apart each) end in
      (kept_state [] (length kept), (length kept, few, refl, refl), all)
