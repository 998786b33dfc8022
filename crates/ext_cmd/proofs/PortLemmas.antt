-- The words after `portable`: what is done with portable services, and the words that do nothing.
use Rattle.std.proofs.Common.{◌≡◌, ◌≢◌, ℕ, ◌+◌, List, [], ◌∷◌, ◌++◌, length, map, codes, refl, sym, ap, ◌∙◌, subst, arith, append_assoc, append-nil, if◌then◌else◌, inl, inr}
use Rattle.std.specs.Prelude.{Option, Some, None, Result, Ok, Err}
use Rattle.std.specs.List.{AllByRecursion}
use Rattle.std.specs.Str.{bytes_eq}
use Rattle.std.proofs.lemmas.List.{map-append}
use Rattle.ext_text.proofs.ForCallers.{all_append}
use Rattle.ext_units.specs.declared.image.Image.{Image}
use Rattle.ext_units.specs.declared.image.Image.TheVariants as images
use Rattle.ext_cmd.specs.Fault.{BeginsWords}
use Rattle.ext_cmd.specs.Grammar.{Chooses, Each, HasNoMore, IsImageWord, IsPlainWord, TakesAfter, TakesAttached, TakesPortWord, Then}
use Rattle.ext_cmd.specs.Keyword.{port_word_text}
use Rattle.ext_cmd.specs.Plain.{IsPlainName}
use Rattle.ext_cmd.specs.Portable.{AreAttachWords, AreOptions, IsPortCommand, attach_word, attach_words, image_word, option_word, options_among, port_words, prefixes_among}
use Rattle.ext_cmd.specs.PortReading.{AreAfter, ReadsAfterPortWord, themselves}
use Rattle.ext_cmd.specs.Reading.{ReadsPart, RefusesWord, RefusesWords}
use Rattle.ext_cmd.specs.Words.{IsCommand}
use Rattle.ext_cmd.specs.declared.command.Command.TheVariants.{Portable}
use Rattle.ext_cmd.specs.declared.keyword.PortWord.{PortWord}
use Rattle.ext_cmd.specs.declared.keyword.PortWord.TheVariants as ports
use Rattle.ext_cmd.specs.declared.portable.AttachOption.{AttachOption}
use Rattle.ext_cmd.specs.declared.portable.AttachWord.{AttachWord}
use Rattle.ext_cmd.specs.declared.portable.AttachWord.TheVariants as items
use Rattle.ext_cmd.specs.declared.portable.AttachWords.{AttachWords}
use Rattle.ext_cmd.specs.declared.portable.PortCommand.{PortCommand}
use Rattle.ext_cmd.specs.declared.portable.PortCommand.TheVariants as commands
use Rattle.ext_cmd.specs.declared.words.CmdErr.{CmdErr}
use Rattle.ext_cmd.specs.declared.words.CmdErr.TheVariants.{Usage}
use Rattle.ext_cmd.proofs.FaultLemmas.{chooses_after, chooses_wrong, refuse_after, refuse_missing, refuse_wrong}
use Rattle.ext_cmd.proofs.OptionLemmas.{no_options, options_join, options_push}
use Rattle.ext_cmd.proofs.PortWordLemmas.{a_plain, an_image}

abbrev pub port_word_of : List ℕ → Option PortWord
port_word_of text =
    if bytes_eq text (port_word_text ports.List) then Some ports.List
    else if bytes_eq text (port_word_text ports.Inspect) then Some ports.Inspect
    else if bytes_eq text (port_word_text ports.IsAttached) then Some ports.IsAttached
    else if bytes_eq text (port_word_text ports.Attach) then Some ports.Attach
    else if bytes_eq text (port_word_text ports.Detach) then Some ports.Detach
    else if bytes_eq text (port_word_text ports.Reattach) then Some ports.Reattach
    else None

port_word_back : (w : PortWord) → port_word_of (port_word_text w) ≡ Some w
port_word_back ports.List = refl
port_word_back ports.Inspect = refl
port_word_back ports.IsAttached = refl
port_word_back ports.Attach = refl
port_word_back ports.Detach = refl
port_word_back ports.Reattach = refl

pub one_port_word : (v w : PortWord) → port_word_text v ≡ port_word_text w → v ≡ w
one_port_word v w same =
    let read : Some v ≡ Some w = sym (port_word_back v) ∙ ap port_word_of same ∙ port_word_back w in
    cc

-- plain names are words of such
names_heard : (names : List (List ℕ)) → AllByRecursion IsPlainName names → Each IsPlainWord names
names_heard [] are = tt
names_heard (name ∷ names) are = (record { value = name; is = are.0; same = refl }, names_heard names are.1)

names_said : (words : List (List ℕ)) → Each IsPlainWord words → AllByRecursion IsPlainName words
names_said [] takes = tt
names_said (word ∷ words) takes = (subst IsPlainName (sym takes.0.same) takes.0.is, names_said words takes.1)

-- what stands after an image and options is what may stand there
after_heard : (options : List AttachOption) (after : List AttachWord) → AreOptions (options ++ options_among after) → AllByRecursion IsPlainName (prefixes_among after) → TakesAfter options (map attach_word after)
after_heard options [] are prefixes = tt
after_heard options (items.Prefix name ∷ after) are prefixes =
    inl (record { value = name; is = prefixes.0; same = refl }, after_heard options after are prefixes.1)
after_heard options (items.Option option ∷ after) are prefixes =
    inr (
      option,
      options_join options option (options_among after) are,
      refl,
      after_heard (options ++ option ∷ []) after (subst AreOptions (sym (append_assoc options (option ∷ []) (options_among after))) are) prefixes,
    )

attached_heard : (options before : List AttachOption) (image : Image) (after : List AttachWord) → AreOptions (options ++ (before ++ options_among after)) → IsImageWord (image_word image) → AllByRecursion IsPlainName (prefixes_among after)
    → TakesAttached options (map option_word before ++ image_word image ∷ map attach_word after)
attached_heard options [] image after are is prefixes = inl (is, after_heard options after are prefixes)
attached_heard options (option ∷ before) image after are is prefixes =
    inr (
      option,
      options_join options option (before ++ options_among after) are,
      refl,
      attached_heard (options ++ option ∷ []) before image after (subst AreOptions (sym (append_assoc options (option ∷ []) (before ++ options_among after))) are) is prefixes,
    )

asked_heard : (asked : AttachWords) → AreAttachWords asked → TakesAttached [] (attach_words asked)
asked_heard asked are = attached_heard [] asked.before asked.image asked.after are.options (record { value = asked.image; is = are.image; same = refl }) are.prefixes

pub port_heard : (port : PortCommand) → IsPortCommand port → Chooses port_word_text TakesPortWord (port_words port)
port_heard commands.List is = (ports.List, refl, tt)
port_heard (commands.Inspect image prefixes) is = (ports.Inspect, refl, (record { value = image; is = is.0; same = refl }, names_heard prefixes is.1))
port_heard (commands.IsAttached name) is = (ports.IsAttached, refl, (record { value = name; is = is; same = refl }, tt))
port_heard (commands.Attach asked) is = (ports.Attach, refl, asked_heard asked is)
port_heard (commands.Detach name) is = (ports.Detach, refl, (record { value = name; is = is; same = refl }, tt))
port_heard (commands.Reattach asked) is = (ports.Reattach, refl, asked_heard asked is)

-- and the other way round
record After (options : List AttachOption) (words : List (List ℕ)) : Type 0 where
  pub after : List AttachWord
  pub are : AreAfter options after
  pub same : words ≡ map attach_word after

after_said : (options : List AttachOption) (words : List (List ℕ)) → AreOptions options → TakesAfter options words → After options words
after_said options [] are takes =
    record { after = []; are = record { are = subst AreOptions (sym (append-nil options)) are; prefixes = tt }; same = refl }
after_said options (word ∷ words) are (inl takes) =
    let it = after_said options words are takes.1 in
    record {
      after = items.Prefix takes.0.value ∷ it.after;
      are = record { are = it.are.are; prefixes = (takes.0.is, it.are.prefixes) };
      same = cc (takes.0.same, it.same);
    }
after_said options (word ∷ words) are (inr takes) =
    let it = after_said (options ++ takes.0 ∷ []) words (options_push options takes.0 are takes.1) takes.3 in
    record {
      after = items.Option takes.0 ∷ it.after;
      are = record { are = subst AreOptions (append_assoc options (takes.0 ∷ []) (options_among it.after)) it.are.are; prefixes = it.are.prefixes };
      same = cc (takes.2, it.same);
    }

record Asked (options : List AttachOption) (words : List (List ℕ)) : Type 0 where
  pub asked : AttachWords
  pub are : AreAttachWords asked
  pub same : map option_word options ++ words ≡ attach_words asked

attached_said : (options : List AttachOption) (words : List (List ℕ)) → AreOptions options → TakesAttached options words → Asked options words
attached_said options [] are takes = absurd takes
attached_said options (word ∷ words) are (inl takes) =
    let it = after_said options words are takes.1 in
    record {
      asked = record { before = options; image = takes.0.value; after = it.after };
      are = record { options = it.are.are; image = takes.0.is; prefixes = it.are.prefixes };
      same = ap (λ (ws : List (List ℕ)). map option_word options ++ ws) (cc (takes.0.same, it.same));
    }
attached_said options (word ∷ words) are (inr takes) =
    let it = attached_said (options ++ takes.0 ∷ []) words (options_push options takes.0 are takes.1) takes.3 in
    record {
      asked = it.asked;
      are = it.are;
      same = ap (λ (w : List ℕ). map option_word options ++ w ∷ words) takes.2
          ∙ sym (ap (λ (ws : List (List ℕ)). ws ++ words) (map-append option_word options (takes.0 ∷ [])) ∙ append_assoc (map option_word options) (option_word takes.0 ∷ []) words) ∙ it.same;
    }

record Port (words : List (List ℕ)) : Type 0 where
  pub port : PortCommand
  pub is : IsPortCommand port
  pub same : words ≡ port_words port

word_said : (word : PortWord) (more : List (List ℕ)) → TakesPortWord word more → Port (port_word_text word ∷ more)
word_said ports.List [] takes = record { port = commands.List; is = tt; same = refl }
word_said ports.List (word ∷ more) takes = absurd takes
word_said ports.Inspect [] takes = absurd takes
word_said ports.Inspect (word ∷ more) takes =
    record { port = commands.Inspect takes.0.value more; is = (takes.0.is, names_said more takes.1); same = ap (λ (w : List ℕ). codes "inspect" ∷ w ∷ more) takes.0.same }
word_said ports.IsAttached [] takes = absurd takes
word_said ports.IsAttached (word ∷ []) takes =
    record { port = commands.IsAttached takes.0.value; is = takes.0.is; same = ap (λ (w : List ℕ). codes "is-attached" ∷ w ∷ []) takes.0.same }
word_said ports.IsAttached (word ∷ next ∷ more) takes = absurd takes.1
word_said ports.Attach more takes =
    let it = attached_said [] more no_options takes in
    record { port = commands.Attach it.asked; is = it.are; same = ap (λ (ws : List (List ℕ)). codes "attach" ∷ ws) it.same }
word_said ports.Detach [] takes = absurd takes
word_said ports.Detach (word ∷ []) takes =
    record { port = commands.Detach takes.0.value; is = takes.0.is; same = ap (λ (w : List ℕ). codes "detach" ∷ w ∷ []) takes.0.same }
word_said ports.Detach (word ∷ next ∷ more) takes = absurd takes.1
word_said ports.Reattach more takes =
    let it = attached_said [] more no_options takes in
    record { port = commands.Reattach it.asked; is = it.are; same = ap (λ (ws : List (List ℕ)). codes "reattach" ∷ ws) it.same }

pub port_said : (more : List (List ℕ)) → Chooses port_word_text TakesPortWord more → IsCommand (codes "portable" ∷ more)
port_said [] takes = absurd takes
port_said (word ∷ more) takes =
    let it = word_said takes.0 more takes.2 in
    record { command = Portable it.port; well_formed = it.is; same = ap (λ (ws : List (List ℕ)). codes "portable" ∷ ws) (ap (λ (w : List ℕ). w ∷ more) takes.1 ∙ it.same) }

-- no word follows, or none by which something is done
some_port : BeginsWords (Chooses port_word_text TakesPortWord) []
some_port = record { more = port_words commands.List; whole = (ports.List, refl, tt) }

pub no_port : (words : List (List ℕ)) → words ≡ [] → RefusesWords (Chooses port_word_text TakesPortWord) words 2 (Usage 2)
no_port words are = refuse_missing (Chooses port_word_text TakesPortWord) words 2 some_port (λ none. none) are

pub unknown_port : (word : List ℕ) (more words : List (List ℕ)) → words ≡ word ∷ more → ((port : PortWord) → word ≢ port_word_text port) → RefusesWords (Chooses port_word_text TakesPortWord) words 2 (Usage 2)
unknown_port word more words are none = chooses_wrong port_word_text TakesPortWord word more words 2 some_port are none

-- what is read after the word is read with it
pub read_port : (word : List ℕ) (more words : List (List ℕ)) (port : PortWord) (result : Result PortCommand CmdErr) → words ≡ word ∷ more → word ≡ port_word_text port → ReadsAfterPortWord port more result → ReadsPart port_words IsPortCommand (Chooses port_word_text TakesPortWord) words 2 result
read_port word more words port (Ok command) are is read = (read.0, are ∙ ap (λ (w : List ℕ). w ∷ more) is ∙ read.1)
read_port word more words port (Err e) are is read = chooses_after port_word_text TakesPortWord one_port_word port word more words 2 3 e refl is are read

-- some words begin so
pub some_image : BeginsWords (Then IsImageWord (Each IsPlainWord)) []
some_image = record { more = codes "a" ∷ []; whole = (record { value = images.Named (codes "a"); is = an_image; same = refl }, tt) }

pub some_plain : BeginsWords (Then IsPlainWord HasNoMore) []
some_plain = record { more = codes "a" ∷ []; whole = (record { value = codes "a"; is = a_plain; same = refl }, tt) }

-- so far plain names were read, with which these words begin
pub record ReadsNames (all : List (List ℕ)) (first : ℕ) (names rest : List (List ℕ)) (place : ℕ) : Type 0 where
  pub plain : AllByRecursion IsPlainName names
  pub whole : all ≡ names ++ rest
  pub counted : place + length rest ≡ first + length all
  pub refused : (e : CmdErr) → RefusesWords (Each IsPlainWord) rest place e → RefusesWords (Each IsPlainWord) all first e

pub names_start : (all : List (List ℕ)) (first : ℕ) → ReadsNames all first [] all first
names_start all first = record { plain = tt; whole = refl; counted = refl; refused = λ e refused. refused }

pub names_next : (all : List (List ℕ)) (first : ℕ) (names rest : List (List ℕ)) (place next : ℕ) (name word : List ℕ) (more : List (List ℕ)) → next ≡ place + 1
    → ReadsNames all first names rest place → rest ≡ word ∷ more → IsPlainName name → word ≡ name → ReadsNames all first (names ++ name ∷ []) more next
names_next all first names rest place next name word more step so are plain same = record {
  plain = all_append IsPlainName names (name ∷ []) so.plain (plain, tt);
  whole = so.whole ∙ ap (λ (ws : List (List ℕ)). names ++ ws) (are ∙ ap (λ (w : List ℕ). w ∷ more) same) ∙ sym (append_assoc names (name ∷ []) more);
  counted = omega (arith, so.counted, ap length are, step);
  refused = λ e refused. so.refused e (refuse_after (Each IsPlainWord) (Each IsPlainWord) word more rest place next e step (λ later it. it.1)
      (λ later it. (record { value = name; is = plain; same = same }, it)) are refused);
}

pub names_refused : (all : List (List ℕ)) (first : ℕ) (names rest : List (List ℕ)) (place : ℕ) (word : List ℕ) (more : List (List ℕ)) (e : CmdErr)
    → ReadsNames all first names rest place → rest ≡ word ∷ more → RefusesWord IsPlainWord word place e → RefusesWords (Each IsPlainWord) all first e
names_refused all first names rest place word more e so are refused =
    so.refused e (refuse_wrong (Each IsPlainWord) IsPlainWord word more rest place e (record { more = []; whole = tt }) (λ later it. it.0) are refused)

pub names_done : (all : List (List ℕ)) (first : ℕ) (names rest : List (List ℕ)) (place : ℕ) → ReadsNames all first names rest place → rest ≡ [] → AllByRecursion IsPlainName names × (all ≡ themselves names)
names_done all first names rest place so none = (so.plain, so.whole ∙ ap (λ (ws : List (List ℕ)). names ++ ws) none ∙ append-nil names)
