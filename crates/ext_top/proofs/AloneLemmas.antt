-- Commands that look at no store come to one outcome, and write it.
use Rattle.std.proofs.Common.{◌≡◌, ◌<◌, ◌≤◌, ℕ, List, length, refl, sym, ap, ◌∙◌, subst, arith, inl, inr}
use Rattle.std.specs.Prelude.{◌≢◌, ◌⊎◌, reverse, None}
use Rattle.ext_text.specs.declared.which.Which.TheVariants as limits
use Rattle.ext_tree.specs.FirstFault.{AtLeastOne}
use Rattle.ext_tree.specs.Laws.{OneListOfSequence, NoFaultInSequence, OneFirstFault}
use Rattle.ext_tree.specs.Tree.{Entries, most_entries}
use Rattle.ext_tree.specs.TreeText.{tree_text}
use Rattle.ext_tree.specs.declared.stamp.Stamp.{Stamp}
use Rattle.ext_layer.specs.Laws.{OneLayeredTree}
use Rattle.ext_vers.specs.Version.{version_cmp}
use Rattle.ext_gen.specs.Store.{none}
use Rattle.ext_cmd.specs.Replies.{answer_text}
use Rattle.ext_cmd.specs.declared.answer.Answer.TheVariants.{Order, Tree}
use Rattle.ext_cmd.specs.declared.command.Command.{Command}
use Rattle.ext_cmd.specs.declared.command.Command.TheVariants.{Compare, Layer, Sample}
use Rattle.ext_cmd.specs.declared.refusal.Refusal.TheVariants.{BadTree, Limit}
use Rattle.ext_intents.specs.Layer.{LayersWant, LayerWants}
use Rattle.ext_intents.specs.declared.intent.Intent.{Intent}
use Rattle.ext_intents.specs.declared.intent.Intent.TheVariants.{Changes, Answers, Checks, Shows, Refuses}
use Rattle.ext_top.specs.Alone.{AloneWants, ComesAlone, Says}
use Rattle.ext_top.specs.Machine.{Outcome, gives}

-- what the crates below say of one source
pub record Below : Type 0 where
  pub one_list : OneListOfSequence
  pub no_fault : NoFaultInSequence
  pub one_fault : OneFirstFault AtLeastOne
  pub one_tree : OneLayeredTree Stamp

-- what a layered tree is wanted to be
abbrev Wanted : Entries Stamp → Intent → Type 0
Wanted layered intent =
    ((length layered ≤ most_entries) × (intent ≡ Answers (Tree (tree_text layered))))
    ⊎ ((most_entries < length layered) × (intent ≡ Refuses (Limit limits.Entries)))

one_of_tree : (x y : Entries Stamp) (a b : Intent) → x ≡ y → Wanted x a → Wanted y b → a ≡ b
one_of_tree x y a b same (inl (few, is)) (inl (also, other)) = is ∙ ap (λ t. Answers (Tree (tree_text t))) same ∙ sym other
one_of_tree x y a b same (inl (few, is)) (inr (many, other)) = absurd (let long : length x ≡ length y = ap length same in omega arith)
one_of_tree x y a b same (inr (many, is)) (inl (few, other)) = absurd (let long : length x ≡ length y = ap length same in omega arith)
one_of_tree x y a b same (inr (many, is)) (inr (also, other)) = is ∙ sym other

one_of_layers : (below : Below) (layers : List (Entries Stamp)) (a b : Intent) → LayersWant layers a → LayersWant layers b → a ≡ b
one_of_layers below layers a b (x, of_x, wanted) (y, of_y, other) = one_of_tree x y a b (below.one_tree layers x y of_x of_y) wanted other

-- bytes are wanted to be one thing
one_of_source : (below : Below) (bytes : List ℕ) (a b : Intent) → LayerWants bytes a → LayerWants bytes b → a ≡ b
one_of_source below bytes a b (inl (trees, is, wants)) (inl (others, also, other)) =
    one_of_layers below (reverse others) a b (subst (λ ts. LayersWant (reverse ts) a) (below.one_list bytes trees others is also) wants) other
one_of_source below bytes a b (inl (trees, is, wants)) (inr (line, fault, other)) = absurd (below.no_fault bytes trees line is fault)
one_of_source below bytes a b (inr (line, fault, is)) (inl (trees, also, other)) = absurd (below.no_fault bytes trees line also fault)
one_of_source below bytes a b (inr (k, fault, is)) (inr (l, also, other)) = is ∙ ap (λ line. Refuses (BadTree line None)) (below.one_fault bytes k l fault also) ∙ sym other

-- an intent says one outcome
one_said : (intent : Intent) (a b : Outcome) → Says intent a → Says intent b → a ≡ b
one_said (Changes host answer) a b one two = absurd one
one_said (Answers answer) a b one two = one ∙ sym two
one_said Checks a b one two = absurd one
one_said (Shows held) a b one two = absurd one
one_said (Refuses refusal) a b one two = one ∙ sym two

-- and a command wants one intent
one_wanted : (below : Below) (command : Command) (bytes : List ℕ) (a b : Intent) → ((images : ℕ) → command ≢ Sample images) → AloneWants command bytes a → AloneWants command bytes b → a ≡ b
one_wanted below (Compare x y) bytes a b unmade wants also = wants ∙ sym also
one_wanted below Layer bytes a b unmade wants also = one_of_source below bytes a b wants also
one_wanted below (Sample images) bytes a b unmade wants also = absurd (unmade images refl)
one_wanted below _ bytes a b unmade wants also = absurd wants

pub one_reply : (below : Below) (command : Command) (bytes : List ℕ) (a b : Outcome) → ((images : ℕ) → command ≢ Sample images) → ComesAlone command bytes a → ComesAlone command bytes b → a ≡ b
one_reply below command bytes a b unmade one two =
    one_said two.intent a b (subst (λ intent. Says intent a) (one_wanted below command bytes one.intent two.intent unmade one.wants two.wants) one.says) two.says

pub compare_is_done : (a b bytes : List ℕ) (outcome : Outcome) → ComesAlone (Compare a b) bytes outcome → outcome ≡ gives none (answer_text (Order (version_cmp a b)))
compare_is_done a b bytes outcome comes = subst (λ intent. Says intent outcome) comes.wants comes.says
