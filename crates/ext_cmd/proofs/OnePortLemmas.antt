-- Words after `portable` are those of one command.
use Rattle.std.proofs.Common.{◌≡◌, ℕ, List, [], ◌∷◌, ◌++◌, map, refl, sym, ◌∙◌, subst}
use Rattle.std.specs.List.{AllByRecursion}
use Rattle.ext_text.proofs.ForCallers.{all_back, all_prefix}
use Rattle.ext_units.specs.declared.image.Image.{Image}
use Rattle.ext_cmd.specs.Keyword.{port_word_text}
use Rattle.ext_cmd.specs.Plain.{IsPlainName}
use Rattle.ext_cmd.specs.Portable.{AreAttachWords, IsImageOfWords, IsOption, IsPortCommand, attach_word, attach_words, image_word, option_word, options_among, port_words, prefixes_among}
use Rattle.ext_cmd.specs.declared.keyword.PortWord.{PortWord}
use Rattle.ext_cmd.specs.declared.keyword.PortWord.TheVariants as ports
use Rattle.ext_cmd.specs.declared.portable.AttachOption.{AttachOption}
use Rattle.ext_cmd.specs.declared.portable.AttachWord.{AttachWord}
use Rattle.ext_cmd.specs.declared.portable.AttachWord.TheVariants as items
use Rattle.ext_cmd.specs.declared.portable.AttachWords.{AttachWords}
use Rattle.ext_cmd.specs.declared.portable.PortCommand.{PortCommand}
use Rattle.ext_cmd.specs.declared.portable.PortCommand.TheVariants as commands
use Rattle.ext_cmd.proofs.PortLemmas.{one_port_word}
use Rattle.ext_cmd.proofs.PortWordLemmas.{IsWord, apart, image_not_dashed, one_image, one_option, one_word, option_dashed}

-- each word after an image is what it has to be
words_are : (after : List AttachWord) → AllByRecursion IsOption (options_among after) → AllByRecursion IsPlainName (prefixes_among after) → AllByRecursion IsWord after
words_are [] options prefixes = tt
words_are (items.Prefix name ∷ after) options prefixes = (prefixes.0, words_are after options prefixes.1)
words_are (items.Option option ∷ after) options prefixes = (options.0, words_are after options.1 prefixes)

one_after : (m n : List AttachWord) → AllByRecursion IsWord m → AllByRecursion IsWord n → map attach_word m ≡ map attach_word n → m ≡ n
one_after [] [] are also same = refl
one_after [] (b ∷ n) are also same = cc
one_after (a ∷ m) [] are also same = cc
one_after (a ∷ m) (b ∷ n) are also same =
    let first : a ≡ b = one_word a b are.0 also.0 (cc) in
    let rest : m ≡ n = one_after m n are.1 also.1 (cc) in
    cc

one_attached : (k l : List AttachOption) (i j : Image) (m n : List AttachWord) → AllByRecursion IsOption k → AllByRecursion IsOption l → IsImageOfWords i → IsImageOfWords j → AllByRecursion IsWord m → AllByRecursion IsWord n
    → map option_word k ++ image_word i ∷ map attach_word m ≡ map option_word l ++ image_word j ∷ map attach_word n → (k ≡ l) × (i ≡ j) × (m ≡ n)
one_attached [] [] i j m n options others is also are were same = (refl, one_image i j is also (cc), one_after m n are were (cc))
one_attached [] (p ∷ l) i j m n options others is also are were same =
    absurd (apart (image_word i) (option_word p) (image_not_dashed i is) (option_dashed p) (cc))
one_attached (o ∷ k) [] i j m n options others is also are were same =
    absurd (apart (image_word j) (option_word o) (image_not_dashed j also) (option_dashed o) (cc))
one_attached (o ∷ k) (p ∷ l) i j m n options others is also are were same =
    let first : o ≡ p = one_option o p options.0 others.0 (cc) in
    let rest = one_attached k l i j m n options.1 others.1 is also are were (cc) in
    (cc (first, rest.0), rest.1, rest.2)

abbrev the_asked : List AttachOption → Image → List AttachWord → AttachWords
the_asked before image after = record { before = before; image = image; after = after }

same_parts : (k l : List AttachOption) (i j : Image) (m n : List AttachWord) → k ≡ l → i ≡ j → m ≡ n → the_asked k i m ≡ the_asked l j n
same_parts k l i j m n before image after = rw (before, image, after) refl

one_asked : (a b : AttachWords) → AreAttachWords a → AreAttachWords b → attach_words a ≡ attach_words b → a ≡ b
one_asked a b are also same =
    let parts = one_attached a.before b.before a.image b.image a.after b.after
    (all_prefix IsOption a.before (options_among a.after) are.options.each) (all_prefix IsOption b.before (options_among b.after) also.options.each)
    are.image also.image
    (words_are a.after (all_back IsOption a.before (options_among a.after) are.options.each) are.prefixes)
    (words_are b.after (all_back IsOption b.before (options_among b.after) also.options.each) also.prefixes) same in
    same_parts a.before b.before a.image b.image a.after b.after parts.0 parts.1 parts.2

-- the word of what is done, and what follows it
abbrev Gives : PortWord → List (List ℕ) → PortCommand → Type 0
Gives ports.List more p = p ≡ commands.List
Gives ports.Inspect more p = (i : Image) × (names : List (List ℕ)) × IsImageOfWords i × (more ≡ image_word i ∷ names) × (p ≡ commands.Inspect i names)
Gives ports.IsAttached more p = (name : List ℕ) × (more ≡ name ∷ []) × (p ≡ commands.IsAttached name)
Gives ports.Attach more p = (asked : AttachWords) × AreAttachWords asked × (more ≡ attach_words asked) × (p ≡ commands.Attach asked)
Gives ports.Detach more p = (name : List ℕ) × (more ≡ name ∷ []) × (p ≡ commands.Detach name)
Gives ports.Reattach more p = (asked : AttachWords) × AreAttachWords asked × (more ≡ attach_words asked) × (p ≡ commands.Reattach asked)

record Given (p : PortCommand) (words : List (List ℕ)) : Type 0 where
  pub word : PortWord
  pub more : List (List ℕ)
  pub same : words ≡ port_word_text word ∷ more
  pub gives : Gives word more p

given : (p : PortCommand) → IsPortCommand p → Given p (port_words p)
given commands.List is = record { word = ports.List; more = []; same = refl; gives = refl }
given (commands.Inspect image names) is = record { word = ports.Inspect; more = image_word image ∷ names; same = refl; gives = (image, names, is.0, refl, refl) }
given (commands.IsAttached name) is = record { word = ports.IsAttached; more = name ∷ []; same = refl; gives = (name, refl, refl) }
given (commands.Attach asked) is = record { word = ports.Attach; more = attach_words asked; same = refl; gives = (asked, is, refl, refl) }
given (commands.Detach name) is = record { word = ports.Detach; more = name ∷ []; same = refl; gives = (name, refl, refl) }
given (commands.Reattach asked) is = record { word = ports.Reattach; more = attach_words asked; same = refl; gives = (asked, is, refl, refl) }

one_given : (w : PortWord) (more : List (List ℕ)) (p q : PortCommand) → Gives w more p → Gives w more q → p ≡ q
one_given ports.List more p q p_is q_is = p_is ∙ sym q_is
one_given ports.Inspect more p q (i, names, is, are, p_is) (j, others, also, were, q_is) =
    let words = sym are ∙ were in
    let image : i ≡ j = one_image i j is also (cc) in
    let rest : names ≡ others = cc in
    cc
one_given ports.IsAttached more p q (name, are, p_is) (other, were, q_is) = cc
one_given ports.Attach more p q (a, is, are, p_is) (b, also, were, q_is) = let same : a ≡ b = one_asked a b is also (sym are ∙ were) in cc
one_given ports.Detach more p q (name, are, p_is) (other, were, q_is) = cc
one_given ports.Reattach more p q (a, is, are, p_is) (b, also, were, q_is) = let same : a ≡ b = one_asked a b is also (sym are ∙ were) in cc

pub one_port : (p q : PortCommand) → IsPortCommand p → IsPortCommand q → port_words p ≡ port_words q → p ≡ q
one_port p q is also same =
    let f = given p is in
    let g = given q also in
    let words : port_word_text f.word ∷ f.more ≡ port_word_text g.word ∷ g.more = sym f.same ∙ same ∙ g.same in
    let word : f.word ≡ g.word = one_port_word f.word g.word (cc) in
    let more : f.more ≡ g.more = cc in
    one_given g.word g.more p q (subst (λ (w : PortWord). Gives w g.more p) word (subst (λ (ws : List (List ℕ)). Gives f.word ws p) more f.gives)) g.gives
