-- The words after `attach` and `reattach`: what is read of them so far, and where they are no such words.
use Rattle.std.proofs.Common.{◌≡◌, ℕ, ◌+◌, true, false, List, [], ◌∷◌, ◌++◌, length, map, codes, refl, sym, ap, ◌∙◌, subst, arith, append_assoc, append-nil, inl, inr}
use Rattle.std.specs.Prelude.{Result, Ok, Err}
use Rattle.std.specs.List.{AllByRecursion}
use Rattle.std.proofs.lemmas.List.{map-append}
use Rattle.ext_text.proofs.ForCallers.{all_append}
use Rattle.ext_units.specs.declared.image.Image.{Image}
use Rattle.ext_units.specs.declared.image.Image.TheVariants as images
use Rattle.ext_cmd.specs.Fault.{BeginsWords}
use Rattle.ext_cmd.specs.Grammar.{IsImageWord, IsPlainWord, Spells, TakesAfter, TakesAttached}
use Rattle.ext_cmd.specs.Plain.{IsPlainName}
use Rattle.ext_cmd.specs.Portable.{AreAttachWords, AreOptions, IsImageOfWords, MayJoin, attach_word, attach_words, image_word, option_word, options_among, prefixes_among}
use Rattle.ext_cmd.specs.PortReading.{AreAfter, MayFollowImage, ReadsAttached, is_dashed}
use Rattle.ext_cmd.specs.Reading.{ReadsPart, RefusesWord, RefusesWords}
use Rattle.ext_cmd.specs.declared.portable.AttachOption.{AttachOption}
use Rattle.ext_cmd.specs.declared.portable.AttachWord.{AttachWord}
use Rattle.ext_cmd.specs.declared.portable.AttachWord.TheVariants as items
use Rattle.ext_cmd.specs.declared.portable.AttachWords.{AttachWords}
use Rattle.ext_cmd.specs.declared.words.CmdErr.{CmdErr}
use Rattle.ext_cmd.specs.declared.words.CmdErr.TheVariants.{Usage}
use Rattle.ext_cmd.proofs.FaultLemmas.{refuse_after, refuse_missing, refuse_wrong}
use Rattle.ext_cmd.proofs.OptionLemmas.{no_options, options-append, options_push, prefixes-append}
use Rattle.ext_cmd.proofs.PortWordLemmas.{an_image, apart, image_not_dashed, one_option, option_dashed, plain_not_dashed}

-- an image may follow any options
some_attached : (options : List AttachOption) → BeginsWords (TakesAttached options) []
some_attached options = record { more = codes "a" ∷ []; whole = inl (record { value = images.Named (codes "a"); is = an_image; same = refl }, tt) }

-- a plain word is no option, and the word of an image or a prefix is plain
image_is_plain : (word : List ℕ) → IsImageWord word → is_dashed word ≡ false
image_is_plain word it = ap is_dashed it.same ∙ image_not_dashed it.value it.is

prefix_is_plain : (word : List ℕ) → IsPlainWord word → is_dashed word ≡ false
prefix_is_plain word it = ap is_dashed it.same ∙ plain_not_dashed it.value it.is

-- a word that begins with `-` is no option that may stand there
attached_wrong : (options : List AttachOption) (word : List ℕ) (more : List (List ℕ)) (first : ℕ) (e : CmdErr) → is_dashed word ≡ true → RefusesWord (Spells option_word (MayJoin options)) word first e → RefusesWords (TakesAttached options) (word ∷ more) first e
attached_wrong options word more first e dashed refused =
    refuse_wrong (TakesAttached options) (Spells option_word (MayJoin options)) word more (word ∷ more) first e (some_attached options) is refl refused
  where
    is : (rest : List (List ℕ)) → TakesAttached options (word ∷ rest) → Spells option_word (MayJoin options) word
    is rest (inl it) = absurd (apart word word (image_is_plain word it.0) dashed refl)
    is rest (inr it) = record { value = it.0; is = it.1; same = it.2 }

-- what follows an option is refused
attached_next : (options : List AttachOption) (option : AttachOption) (word : List ℕ) (more : List (List ℕ)) (first next : ℕ) (e : CmdErr) → next ≡ first + 1 → MayJoin options option → word ≡ option_word option
    → RefusesWords (TakesAttached (options ++ option ∷ [])) more next e → RefusesWords (TakesAttached options) (word ∷ more) first e
attached_next options option word more first next e step may same refused =
    refuse_after (TakesAttached options) (TakesAttached (options ++ option ∷ [])) word more (word ∷ more) first next e step after (λ rest it. inr (option, may, same, it)) refl refused
  where
    after : (rest : List (List ℕ)) → TakesAttached options (word ∷ rest) → TakesAttached (options ++ option ∷ []) rest
    after rest (inl it) = absurd (apart word (option_word option) (image_is_plain word it.0) (option_dashed option) same)
    after rest (inr it) = subst (λ (o : AttachOption). TakesAttached (options ++ o ∷ []) rest) (one_option it.0 option it.1.is may.is (sym it.2 ∙ same)) it.3

-- a plain word is no image
image_wrong : (options : List AttachOption) (word : List ℕ) (more : List (List ℕ)) (first : ℕ) (e : CmdErr) → is_dashed word ≡ false → RefusesWord IsImageWord word first e → RefusesWords (TakesAttached options) (word ∷ more) first e
image_wrong options word more first e plain refused =
    refuse_wrong (TakesAttached options) IsImageWord word more (word ∷ more) first e (some_attached options) is refl refused
  where
    is : (rest : List (List ℕ)) → TakesAttached options (word ∷ rest) → IsImageWord word
    is rest (inl it) = it.0
    is rest (inr it) = absurd (apart word (option_word it.0) plain (option_dashed it.0) it.2)

-- what follows an image is refused
image_next : (options : List AttachOption) (word : List ℕ) (more : List (List ℕ)) (first next : ℕ) (e : CmdErr) → next ≡ first + 1 → IsImageWord word → RefusesWords (TakesAfter options) more next e → RefusesWords (TakesAttached options) (word ∷ more) first e
image_next options word more first next e step image refused =
    refuse_after (TakesAttached options) (TakesAfter options) word more (word ∷ more) first next e step after (λ rest it. inl (image, it)) refl refused
  where
    after : (rest : List (List ℕ)) → TakesAttached options (word ∷ rest) → TakesAfter options rest
    after rest (inl it) = it.1
    after rest (inr it) = absurd (apart word (option_word it.0) (image_is_plain word image) (option_dashed it.0) it.2)

-- a word after an image is neither a prefix nor an option that may stand there
after_wrong : (options : List AttachOption) (word : List ℕ) (more : List (List ℕ)) (first : ℕ) (e : CmdErr) → RefusesWord (Spells attach_word (MayFollowImage options)) word first e → RefusesWords (TakesAfter options) (word ∷ more) first e
after_wrong options word more first e refused =
    refuse_wrong (TakesAfter options) (Spells attach_word (MayFollowImage options)) word more (word ∷ more) first e (record { more = []; whole = tt }) is refl refused
  where
    is : (rest : List (List ℕ)) → TakesAfter options (word ∷ rest) → Spells attach_word (MayFollowImage options) word
    is rest (inl it) = record { value = items.Prefix it.0.value; is = it.0.is; same = it.0.same }
    is rest (inr it) = record { value = items.Option it.0; is = it.1; same = it.2 }

-- what follows a prefix or an option is refused
after_next : (options : List AttachOption) (next : AttachWord) (word : List ℕ) (more : List (List ℕ)) (first place : ℕ) (e : CmdErr) → place ≡ first + 1 → MayFollowImage options next → word ≡ attach_word next
    → RefusesWords (TakesAfter (options ++ options_among (next ∷ []))) more place e → RefusesWords (TakesAfter options) (word ∷ more) first e
after_next options (items.Prefix name) word more first place e step may same refused =
    refuse_after (TakesAfter options) (TakesAfter (options ++ [])) word more (word ∷ more) first place e step after
    (λ rest it. inl (record { value = name; is = may; same = same }, subst (λ (os : List AttachOption). TakesAfter os rest) (append-nil options) it)) refl refused
  where
    after : (rest : List (List ℕ)) → TakesAfter options (word ∷ rest) → TakesAfter (options ++ []) rest
    after rest (inl it) = subst (λ (os : List AttachOption). TakesAfter os rest) (sym (append-nil options)) it.1
    after rest (inr it) = absurd (apart word (option_word it.0) (ap is_dashed same ∙ plain_not_dashed name may) (option_dashed it.0) it.2)
after_next options (items.Option option) word more first place e step may same refused =
    refuse_after (TakesAfter options) (TakesAfter (options ++ option ∷ [])) word more (word ∷ more) first place e step after (λ rest it. inr (option, may, same, it)) refl refused
  where
    after : (rest : List (List ℕ)) → TakesAfter options (word ∷ rest) → TakesAfter (options ++ option ∷ []) rest
    after rest (inl it) = absurd (apart word (option_word option) (prefix_is_plain word it.0) (option_dashed option) same)
    after rest (inr it) = subst (λ (o : AttachOption). TakesAfter (options ++ o ∷ []) rest) (one_option it.0 option it.1.is may.is (sym it.2 ∙ same)) it.3

-- so far options were read, with which these words begin
pub record ReadsBefore (all : List (List ℕ)) (options : List AttachOption) (rest : List (List ℕ)) (place : ℕ) : Type 0 where
  pub are : AreOptions options
  pub whole : all ≡ map option_word options ++ rest
  pub counted : place + length rest ≡ 3 + length all
  pub refused : (e : CmdErr) → RefusesWords (TakesAttached options) rest place e → RefusesWords (TakesAttached []) all 3 e

pub before_start : (all : List (List ℕ)) → ReadsBefore all [] all 3
before_start all = record { are = no_options; whole = refl; counted = refl; refused = λ e refused. refused }

pub before_next : (all : List (List ℕ)) (options : List AttachOption) (rest : List (List ℕ)) (place next : ℕ) (option : AttachOption) (word : List ℕ) (more : List (List ℕ)) → next ≡ place + 1
    → ReadsBefore all options rest place → rest ≡ word ∷ more → MayJoin options option → word ≡ option_word option → ReadsBefore all (options ++ option ∷ []) more next
before_next all options rest place next option word more step so are may same = record {
  are = options_push options option so.are may;
  whole = so.whole ∙ ap (λ (ws : List (List ℕ)). map option_word options ++ ws) (are ∙ ap (λ (w : List ℕ). w ∷ more) same)
      ∙ sym (ap (λ (ws : List (List ℕ)). ws ++ more) (map-append option_word options (option ∷ [])) ∙ append_assoc (map option_word options) (option_word option ∷ []) more);
  counted = omega (arith, so.counted, ap length are, step);
  refused = λ e refused. so.refused e (subst (λ (ws : List (List ℕ)). RefusesWords (TakesAttached options) ws place e) (sym are)
      (attached_next options option word more place next e step may same refused));
}

-- no image follows
pub before_missing : (all : List (List ℕ)) (options : List AttachOption) (rest : List (List ℕ)) (place : ℕ) → ReadsBefore all options rest place → rest ≡ [] → RefusesWords (TakesAttached []) all 3 (Usage place)
before_missing all options rest place so none =
    so.refused (Usage place) (refuse_missing (TakesAttached options) rest place (some_attached options) (λ nothing. nothing) none)

-- a word is no option
pub before_wrong : (all : List (List ℕ)) (options : List AttachOption) (rest : List (List ℕ)) (place : ℕ) (word : List ℕ) (more : List (List ℕ)) (e : CmdErr)
    → ReadsBefore all options rest place → rest ≡ word ∷ more → is_dashed word ≡ true → RefusesWord (Spells option_word (MayJoin options)) word place e → RefusesWords (TakesAttached []) all 3 e
before_wrong all options rest place word more e so are dashed refused =
    so.refused e (subst (λ (ws : List (List ℕ)). RefusesWords (TakesAttached options) ws place e) (sym are) (attached_wrong options word more place e dashed refused))

-- what is read of the rest is read of all
pub before_read : (all : List (List ℕ)) (options : List AttachOption) (rest : List (List ℕ)) (place : ℕ) (result : Result AttachWords CmdErr)
    → ReadsBefore all options rest place → ReadsAttached options rest place result → ReadsPart attach_words AreAttachWords (TakesAttached []) all 3 result
before_read all options rest place (Ok asked) so reads = (reads.0, so.whole ∙ reads.1)
before_read all options rest place (Err e) so reads = so.refused e reads

-- an image and what follows it
pub image_read : (options : List AttachOption) (image : Image) (after : List AttachWord) (word : List ℕ) (more : List (List ℕ)) → IsImageOfWords image → word ≡ image_word image → AreAfter options after → more ≡ map attach_word after
    → AreAttachWords (record { before = options; image = image; after = after }) × (map option_word options ++ word ∷ more ≡ attach_words (record { before = options; image = image; after = after }))
image_read options image after word more is same are rest =
    (record { options = are.are; image = is; prefixes = are.prefixes }, ap (λ (ws : List (List ℕ)). map option_word options ++ ws) (cc (same, rest)))

pub image_refused : (options : List AttachOption) (word : List ℕ) (more : List (List ℕ)) (first : ℕ) (e : CmdErr) → is_dashed word ≡ false → RefusesWord (Spells image_word IsImageOfWords) word first e → RefusesWords (TakesAttached options) (word ∷ more) first e
image_refused = image_wrong

pub rest_refused : (options : List AttachOption) (image : Image) (word : List ℕ) (more : List (List ℕ)) (first next : ℕ) (e : CmdErr) → next ≡ first + 1 → IsImageOfWords image → word ≡ image_word image
    → RefusesWords (TakesAfter options) more next e → RefusesWords (TakesAttached options) (word ∷ more) first e
rest_refused options image word more first next e step is same refused =
    image_next options word more first next e step (record { value = image; is = is; same = same }) refused

-- so far prefixes and options were read, after an image and these options
pub record ReadsOnAfter (options : List AttachOption) (all : List (List ℕ)) (first : ℕ) (so_far : List AttachOption) (after : List AttachWord) (rest : List (List ℕ)) (place : ℕ) : Type 0 where
  pub joined : so_far ≡ options ++ options_among after
  pub are : AreAfter options after
  pub whole : all ≡ map attach_word after ++ rest
  pub counted : place + length rest ≡ first + length all
  pub refused : (e : CmdErr) → RefusesWords (TakesAfter so_far) rest place e → RefusesWords (TakesAfter options) all first e

pub after_start : (options : List AttachOption) (all : List (List ℕ)) (first : ℕ) → AreOptions options → ReadsOnAfter options all first options [] all first
after_start options all first are = record {
  joined = sym (append-nil options);
  are = record { are = subst AreOptions (sym (append-nil options)) are; prefixes = tt };
  whole = refl;
  counted = refl;
  refused = λ e refused. refused;
}

-- a word that may follow makes what follows longer
after_longer : (options : List AttachOption) (after : List AttachWord) (next : AttachWord) → AreAfter options after → MayFollowImage (options ++ options_among after) next → AreAfter options (after ++ next ∷ [])
after_longer options after (items.Prefix name) are may = record {
  are = subst (λ (os : List AttachOption). AreOptions (options ++ os)) (sym (options-append after (items.Prefix name ∷ []) ∙ append-nil (options_among after))) are.are;
  prefixes = subst (AllByRecursion IsPlainName) (sym (prefixes-append after (items.Prefix name ∷ []))) (all_append IsPlainName (prefixes_among after) (name ∷ []) are.prefixes (may, tt));
}
after_longer options after (items.Option option) are may = record {
  are = subst AreOptions (append_assoc options (options_among after) (option ∷ []) ∙ ap (λ (os : List AttachOption). options ++ os) (sym (options-append after (items.Option option ∷ []))))
      (options_push (options ++ options_among after) option are.are may);
  prefixes = subst (AllByRecursion IsPlainName) (sym (prefixes-append after (items.Option option ∷ []) ∙ append-nil (prefixes_among after))) are.prefixes;
}

pub after_read : (options : List AttachOption) (all : List (List ℕ)) (first : ℕ) (so_far now : List AttachOption) (after : List AttachWord) (rest : List (List ℕ)) (place step : ℕ) (next : AttachWord) (word : List ℕ) (more : List (List ℕ))
    → step ≡ place + 1 → ReadsOnAfter options all first so_far after rest place → rest ≡ word ∷ more → MayFollowImage so_far next → word ≡ attach_word next → now ≡ so_far ++ options_among (next ∷ [])
    → ReadsOnAfter options all first now (after ++ next ∷ []) more step
after_read options all first so_far now after rest place step next word more steps so are may same grown = record {
  joined = grown ∙ ap (λ (os : List AttachOption). os ++ options_among (next ∷ [])) so.joined
      ∙ append_assoc options (options_among after) (options_among (next ∷ [])) ∙ ap (λ (os : List AttachOption). options ++ os) (sym (options-append after (next ∷ [])));
  are = after_longer options after next so.are (subst (λ (os : List AttachOption). MayFollowImage os next) so.joined may);
  whole = so.whole ∙ ap (λ (ws : List (List ℕ)). map attach_word after ++ ws) (are ∙ ap (λ (w : List ℕ). w ∷ more) same)
      ∙ sym (ap (λ (ws : List (List ℕ)). ws ++ more) (map-append attach_word after (next ∷ [])) ∙ append_assoc (map attach_word after) (attach_word next ∷ []) more);
  counted = omega (arith, so.counted, ap length are, steps);
  refused = λ e refused. so.refused e (subst (λ (ws : List (List ℕ)). RefusesWords (TakesAfter so_far) ws place e) (sym are)
      (after_next so_far next word more place step e steps may same (subst (λ (os : List AttachOption). RefusesWords (TakesAfter os) more step e) grown refused)));
}

pub after_refused : (options : List AttachOption) (all : List (List ℕ)) (first : ℕ) (so_far : List AttachOption) (after : List AttachWord) (rest : List (List ℕ)) (place : ℕ) (word : List ℕ) (more : List (List ℕ)) (e : CmdErr)
    → ReadsOnAfter options all first so_far after rest place → rest ≡ word ∷ more → RefusesWord (Spells attach_word (MayFollowImage so_far)) word place e → RefusesWords (TakesAfter options) all first e
after_refused options all first so_far after rest place word more e so are refused =
    so.refused e (subst (λ (ws : List (List ℕ)). RefusesWords (TakesAfter so_far) ws place e) (sym are) (after_wrong so_far word more place e refused))

pub after_done : (options : List AttachOption) (all : List (List ℕ)) (first : ℕ) (so_far : List AttachOption) (after : List AttachWord) (rest : List (List ℕ)) (place : ℕ)
    → ReadsOnAfter options all first so_far after rest place → rest ≡ [] → AreAfter options after × (all ≡ map attach_word after)
after_done options all first so_far after rest place so none =
    (so.are, so.whole ∙ ap (λ (ws : List (List ℕ)). map attach_word after ++ ws) none ∙ append-nil (map attach_word after))
