-- Manifests over many changes of a host, and what they say.
use Rattle.std.proofs.Common.{◌≡◌, true, cond, [], ◌∷◌, drop, length, None, Some, sym, ap, subst, ◌∙◌}
use Rattle.std.specs.Prelude.{IsTrue, Contains}
use Rattle.ext_attributes.specs.Attributes.{OfFile}
use Rattle.ext_text.specs.Path.{is_prefix}
use Rattle.ext_text.proofs.ForCallers.{all_weaker}
use Rattle.ext_tree.specs.Tree.{lookup}
use Rattle.ext_tree.specs.declared.entry.Entry.TheVariants.{File}
use Rattle.ext_tree.proofs.ForCallers.{prefix_split}
use Rattle.ext_host.specs.Held.{HeldFile}
use Rattle.ext_host.specs.Host.{base_at, hierarchies_in, present}
use Rattle.ext_host.specs.Valid.{HasItems, IsValidHost}
use Rattle.ext_host.specs.declared.host.Host.{Host}
use Rattle.ext_host.specs.declared.manifest.Item.{Item}
use Rattle.ext_host.specs.declared.manifest.Manifest.{Manifest}
use Rattle.ext_updated.specs.Keeping.{Keeps}
use Rattle.ext_updated.specs.Laws.{AddedAndKept, FilesDecide, KeptAsLongAsUntouched, ManifestsOfPieces}
use Rattle.ext_updated.specs.Pieces.{piece_at, seen_at}
use Rattle.ext_updated.proofs.PiecesLemmas.{all_contained}

-- what a valid host has says what stands in its base
keeps : (host : Host) (manifest : Manifest) → IsValidHost host → Contains host.kept manifest → Keeps host manifest
keeps host manifest valid at = record {
  among = at;
  files = all_contained (HasItems (base_at (hierarchies_in host) (present host))) host.kept manifest valid.present.kept.items at;
}

pub kept_untouched : KeptAsLongAsUntouched
kept_untouched host last [] manifest valid lead at alone = subst (λ h. Keeps h manifest) (sym lead) (keeps host manifest valid at)
kept_untouched host last (change ∷ changes) manifest valid lead at alone =
    kept_untouched change.next last changes manifest lead.0.valid lead.1 (lead.0.kept manifest at alone.0) alone.1

pub added_kept : AddedAndKept
added_kept host last [] after change manifest lead at alone = kept_untouched change.next last after manifest lead.0.valid lead.1 (lead.0.adds manifest at) alone
added_kept host last (first ∷ before) after change manifest lead at alone = added_kept first.next last before after change manifest lead.1 at alone

pub files_decide : FilesDecide
files_decide old new manifest same has = record {
  each = all_weaker
      (λ (item : Item). IsTrue (is_prefix manifest.path item.path) × ((attributes : OfFile) × (held : HeldFile) × (old item.path ≡ Some (File attributes held)) × (held.stamp.digest ≡ item.digest)))
      (λ item. IsTrue (is_prefix manifest.path item.path) × ((attributes : OfFile) × (held : HeldFile) × (new item.path ≡ Some (File attributes held)) × (held.stamp.digest ≡ item.digest)))
      (λ item is. (is.0, (is.1.0, is.1.1, sym (same item.path is.0) ∙ is.1.2, is.1.3))) manifest.items has.each;
  whole = λ path attributes held below at. has.whole path attributes held below (same path below ∙ at);
}

pub manifests_of_pieces : ManifestsOfPieces
manifests_of_pieces root removed pieces new piece manifest is at gives =
    files_decide (λ q. lookup new q) (seen_at piece) manifest (λ q below.
    let prefix = subst (λ p. is_prefix p q ≡ true) gives.path_is below in
    let rest = drop (length piece.path) q in
    ap (lookup new) (prefix_split piece.path q prefix) ∙ is.put piece rest at ∙ sym (ap (λ b. cond b (piece_at piece rest) None) prefix)) gives.items
