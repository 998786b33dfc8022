use Rattle.std.proofs.Common.{◌≡◌, cond, sym, ap, ◌∙◌, subst, ◌∷◌, []}
use Rattle.std.proofs.lemmas.List.Sorted.{list_any-IsPermutation}
use Rattle.ext_text.specs.Path.{is_prefix}
use Rattle.ext_tree.specs.Tree.{IsTreeWithin, lookup}
use Rattle.ext_host.specs.Base.{base_entries}
use Rattle.ext_host.specs.Host.{hierarchies_in, is_in, merged_hierarchies, present}
use Rattle.ext_host.proofs.BaseLemmas.{base_within, lookup_base, rising_names}
use Rattle.ext_host.proofs.host.Host.base.Goals as goal

pub from_pairs-requires : goal.from_pairs-requires
from_pairs-requires c =
    let whole : c.in_ok-pairs.pairs.items ≡ base_entries c.in_ok-names.names.items c.args.self.now.root c.args.self.now.lower =
    c.in_ok-pairs.ensures ∙ (λ i. base_entries (c.as_slice.ensures.value i) (c.pairs.ensures.same i) (c.pairs-2.ensures.same i))
    in
    subst IsTreeWithin (sym whole)
    (base_within c.in_ok-names.names.items c.args.self.now.root c.args.self.now.lower (rising_names c.in_ok-names.names.items c.in_ok-names.ensures.sorted) c.pairs.ensures.tree.tree c.pairs-2.ensures.tree.tree c.requires)

pub returns : goal.returns
returns c = λ path.
    let whole : c.in_ok-pairs.pairs.items ≡ base_entries c.in_ok-names.names.items c.args.self.now.root c.args.self.now.lower =
    c.in_ok-pairs.ensures ∙ (λ i. base_entries (c.as_slice.ensures.value i) (c.pairs.ensures.same i) (c.pairs-2.ensures.same i))
    in
    let names : is_in (merged_hierarchies (hierarchies_in c.args.self.now) (present c.args.self.now)) path ≡ is_in c.in_ok-names.names.items path =
    list_any-IsPermutation (λ name. is_prefix (name ∷ []) path) _ _ c.in_ok-names.ensures.same
    in
    ap (λ es. lookup es path) (c.from_pairs.ensures ∙ whole)
    ∙ lookup_base c.in_ok-names.names.items (rising_names c.in_ok-names.names.items c.in_ok-names.ensures.sorted) c.args.self.now.root c.args.self.now.lower path
    ∙ (λ i. cond (sym names i) (lookup c.args.self.now.lower path) (lookup c.args.self.now.root path))
