-- The command `layer`. Its source is a sequence of tree texts, the host first, each later tree above the earlier ones. It
-- looks at no store.
use Rattle.std.specs.Prelude.{◌≡◌, ℕ, ◌<◌, ◌≤◌, ◌⊎◌, List, length, reverse, None}
use Rattle.ext_text.specs.declared.which.Which.TheVariants as limits
use Rattle.ext_tree.specs.FirstFault.{IsFirstFault, AtLeastOne}
use Rattle.ext_tree.specs.Tree.{Entries, most_entries}
use Rattle.ext_tree.specs.TreeText.{IsSequence, tree_text}
use Rattle.ext_tree.specs.declared.stamp.Stamp.{Stamp}
use Rattle.ext_layer.specs.Layered.{IsLayered}
use Rattle.ext_cmd.specs.declared.answer.Answer.TheVariants.{Tree}
use Rattle.ext_cmd.specs.declared.refusal.Refusal.TheVariants.{Limit, BadTree}
use Rattle.ext_intents.specs.declared.intent.Intent.{Intent}
use Rattle.ext_intents.specs.declared.intent.Intent.TheVariants.{Answers, Refuses}

-- what is wanted of layers, the topmost first: the text of their layered tree, or the refusal of too many entries
abbrev pub LayersWant : List (Entries Stamp) → Intent → Type 0
LayersWant layers intent =
    (layered : Entries Stamp) × IsLayered layers layered
    × (((length layered ≤ most_entries) × (intent ≡ Answers (Tree (tree_text layered))))
    ⊎ ((most_entries < length layered) × (intent ≡ Refuses (Limit limits.Entries))))

-- what is wanted, by the bytes of the source: the layered tree of its trees, the first tree lowest, the last one on top; or
-- the refusal of its first faulty line, where they are no sequence of tree texts
abbrev pub LayerWants : List ℕ → Intent → Type 0
LayerWants bytes intent =
    ((trees : List (Entries Stamp)) × IsSequence bytes trees × LayersWant (reverse trees) intent)
    ⊎ ((line : ℕ) × IsFirstFault AtLeastOne bytes line × (intent ≡ Refuses (BadTree line None)))
