-- The words after `sysupdate`: what is asked of updates, which components there are, and what is asked of one.
use Rattle.std.proofs.Common.{◌≡◌, ◌≢◌, ℕ, ◌+◌, List, [], ◌∷◌, codes, refl, sym, ap, ◌∙◌, subst, if◌then◌else◌, inl, inr}
use Rattle.std.specs.Prelude.{Option, Some, None, Result, Ok, Err}
use Rattle.std.specs.Str.{bytes_eq}
use Rattle.ext_cmd.specs.Fault.{BeginsWords}
use Rattle.ext_cmd.specs.Grammar.{HasNoMore, IsComponentWord, IsVersionWord, Maybe, Spells, TakesAsked, TakesUpdate, TakesUpdateWord, itself}
use Rattle.ext_cmd.specs.Keyword.{update_word_text}
use Rattle.ext_cmd.specs.Reading.{ReadsAfterUpdateWord, ReadsPart, RefusesWord, RefusesWords}
use Rattle.ext_cmd.specs.Words.{IsCommand, IsOptionalVersion, IsPlainComponent, IsUpdateAsk, component_word, update_words, version_words}
use Rattle.ext_cmd.specs.declared.command.Command.TheVariants.{Sysupdate, Components}
use Rattle.ext_cmd.specs.declared.command.UpdateVerb.{UpdateVerb}
use Rattle.ext_cmd.specs.declared.command.UpdateVerb.TheVariants as updates
use Rattle.ext_cmd.specs.declared.keyword.UpdateWord.{UpdateWord}
use Rattle.ext_cmd.specs.declared.keyword.UpdateWord.TheVariants as asks
use Rattle.ext_cmd.specs.declared.words.CmdErr.{CmdErr}
use Rattle.ext_cmd.specs.declared.words.CmdErr.TheVariants.{OutOfMemory, Usage}
use Rattle.ext_cmd.proofs.FaultLemmas.{chooses_after, chooses_wrong, refuse_after, refuse_missing, refuse_wider, refuse_wrong}

abbrev pub update_word_of : List ℕ → Option UpdateWord
update_word_of text =
    if bytes_eq text (update_word_text asks.List) then Some asks.List
    else if bytes_eq text (update_word_text asks.CheckNew) then Some asks.CheckNew
    else if bytes_eq text (update_word_text asks.Update) then Some asks.Update
    else if bytes_eq text (update_word_text asks.Vacuum) then Some asks.Vacuum
    else if bytes_eq text (update_word_text asks.Features) then Some asks.Features
    else None

update_word_back : (a : UpdateWord) → update_word_of (update_word_text a) ≡ Some a
update_word_back asks.List = refl
update_word_back asks.CheckNew = refl
update_word_back asks.Update = refl
update_word_back asks.Vacuum = refl
update_word_back asks.Features = refl

one_update_word : (a b : UpdateWord) → update_word_text a ≡ update_word_text b → a ≡ b
one_update_word a b same =
    let read : Some a ≡ Some b = sym (update_word_back a) ∙ ap update_word_of same ∙ update_word_back b in
    cc

-- the words of what is asked are its word and what may follow it
version_heard : (version : Option (List ℕ)) → IsOptionalVersion version → Maybe IsVersionWord HasNoMore (version_words version)
version_heard None is = tt
version_heard (Some version) is = (record { value = version; is = is; same = refl }, tt)

pub asked_heard : (verb : UpdateVerb) → IsUpdateAsk verb → TakesAsked (update_words verb)
asked_heard updates.List is = (asks.List, refl, tt)
asked_heard updates.CheckNew is = (asks.CheckNew, refl, tt)
asked_heard (updates.Update version) is = (asks.Update, refl, version_heard version is)
asked_heard updates.Vacuum is = (asks.Vacuum, refl, tt)
asked_heard updates.Features is = (asks.Features, refl, tt)

-- and the other way round
record Asks (words : List (List ℕ)) : Type 0 where
  pub verb : UpdateVerb
  pub is : IsUpdateAsk verb
  pub same : words ≡ update_words verb

word_said : (asked : UpdateWord) (more : List (List ℕ)) → TakesUpdateWord asked more → Asks (update_word_text asked ∷ more)
word_said asks.List [] takes = record { verb = updates.List; is = tt; same = refl }
word_said asks.List (word ∷ more) takes = absurd takes
word_said asks.CheckNew [] takes = record { verb = updates.CheckNew; is = tt; same = refl }
word_said asks.CheckNew (word ∷ more) takes = absurd takes
word_said asks.Update [] takes = record { verb = updates.Update None; is = tt; same = refl }
word_said asks.Update (word ∷ []) takes =
    record { verb = updates.Update (Some takes.0.value); is = takes.0.is; same = ap (λ (w : List ℕ). codes "update" ∷ w ∷ []) takes.0.same }
word_said asks.Update (word ∷ next ∷ more) takes = absurd takes.1
word_said asks.Vacuum [] takes = record { verb = updates.Vacuum; is = tt; same = refl }
word_said asks.Vacuum (word ∷ more) takes = absurd takes
word_said asks.Features [] takes = record { verb = updates.Features; is = tt; same = refl }
word_said asks.Features (word ∷ more) takes = absurd takes

asked_said : (words : List (List ℕ)) → TakesAsked words → Asks words
asked_said [] takes = absurd takes
asked_said (word ∷ more) takes = subst (λ (w : List ℕ). Asks (w ∷ more)) (sym takes.1) (word_said takes.0 more takes.2)

pub update_said : (more : List (List ℕ)) → TakesUpdate more → IsCommand (codes "sysupdate" ∷ more)
update_said more (inl takes) =
    let it = asked_said more takes in
    record { command = Sysupdate None it.verb; well_formed = (tt, it.is); same = ap (λ (ws : List (List ℕ)). codes "sysupdate" ∷ ws) it.same }
update_said [] (inr (inl takes)) = absurd takes
update_said (word ∷ []) (inr (inl takes)) =
    record { command = Components; well_formed = tt; same = ap (λ (w : List ℕ). codes "sysupdate" ∷ w ∷ []) takes.0 }
update_said (word ∷ next ∷ more) (inr (inl takes)) = absurd takes.1
update_said [] (inr (inr takes)) = absurd takes
update_said (word ∷ more) (inr (inr takes)) =
    let it = asked_said more takes.1 in
    record { command = Sysupdate (Some takes.0.value) it.verb; well_formed = (takes.0.is, it.is); same = cc (takes.0.same, it.same) }

some_asked : BeginsWords TakesAsked []
some_asked = record { more = update_words updates.List; whole = (asks.List, refl, tt) }

pub no_asked : (words : List (List ℕ)) (first : ℕ) → words ≡ [] → RefusesWords TakesAsked words first (Usage first)
no_asked words first are = refuse_missing TakesAsked words first some_asked (λ none. none) are

pub unknown_asked : (word : List ℕ) (more : List (List ℕ)) (first : ℕ) → ((asked : UpdateWord) → word ≢ update_word_text asked) → RefusesWords TakesAsked (word ∷ more) first (Usage first)
unknown_asked word more first none = chooses_wrong update_word_text TakesUpdateWord word more (word ∷ more) first some_asked refl none

-- what is read after the word is read with it
pub read_asked : (word : List ℕ) (more : List (List ℕ)) (asked : UpdateWord) (first next : ℕ) (result : Result UpdateVerb CmdErr) → next ≡ first + 1 → word ≡ update_word_text asked → ReadsAfterUpdateWord asked more next result → ReadsPart update_words IsUpdateAsk TakesAsked (word ∷ more) first result
read_asked word more asked first next (Ok verb) step is read = (read.0, ap (λ (w : List ℕ). w ∷ more) is ∙ read.1)
read_asked word more asked first next (Err e) step is read =
    chooses_after update_word_text TakesUpdateWord one_update_word asked word more (word ∷ more) first next e step is refl read

-- names with one option are equal
one_component : (m n : List ℕ) → component_word m ≡ component_word n → m ≡ n
one_component m n same = cc

-- the option asks nothing
not_word : (name : List ℕ) (a : UpdateWord) → component_word name ≢ update_word_text a
not_word name asks.List same = cc
not_word name asks.CheckNew same = cc
not_word name asks.Update same = cc
not_word name asks.Vacuum same = cc
not_word name asks.Features same = cc

-- nor is it the word that asks for components, which is none of the others either
not_option : (name : List ℕ) → component_word name ≢ codes "components"
not_option name same = cc

not_components : (a : UpdateWord) → update_word_text a ≢ codes "components"
not_components asks.List same = cc
not_components asks.CheckNew same = cc
not_components asks.Update same = cc
not_components asks.Vacuum same = cc
not_components asks.Features same = cc

some_update : BeginsWords TakesUpdate []
some_update = record { more = update_words updates.List; whole = inl (asks.List, refl, tt) }

not_nothing : TakesUpdate [] → ⊥
not_nothing (inl none) = none
not_nothing (inr (inl none)) = none
not_nothing (inr (inr none)) = none

pub no_update : (words : List (List ℕ)) → words ≡ [] → RefusesWords TakesUpdate words 2 (Usage 2)
no_update words are = refuse_missing TakesUpdate words 2 some_update not_nothing are

-- what is asked where no component is chosen is refused
pub asked_refused : (word : List ℕ) (more : List (List ℕ)) (e : CmdErr) → ((name : List ℕ) → word ≢ component_word name) → word ≢ codes "components" → RefusesWords TakesAsked (word ∷ more) 2 e → RefusesWords TakesUpdate (word ∷ more) 2 e
asked_refused word more e other not refused = refuse_wider TakesAsked TakesUpdate word more 2 e (λ words asked. inl asked) back refused
  where
    back : (rest : List (List ℕ)) → TakesUpdate (word ∷ rest) → TakesAsked (word ∷ rest)
    back rest (inl asked) = asked
    back rest (inr (inl it)) = absurd (not it.0)
    back rest (inr (inr it)) = absurd (other it.0.value it.0.same)

-- a word follows the one that asks for components
pub components_more : (word : List ℕ) (more : List (List ℕ)) (e : CmdErr) → word ≡ codes "components" → RefusesWords HasNoMore more 3 e → RefusesWords TakesUpdate (word ∷ more) 2 e
components_more word more e is refused =
    refuse_after TakesUpdate HasNoMore word more (word ∷ more) 2 3 e refl after (λ rest none. inr (inl (is, none))) refl refused
  where
    after : (rest : List (List ℕ)) → TakesUpdate (word ∷ rest) → HasNoMore rest
    after rest (inl asked) = absurd (not_components asked.0 (sym asked.1 ∙ is))
    after rest (inr (inl it)) = it.1
    after rest (inr (inr it)) = absurd (not_option it.0.value (sym it.0.same ∙ is))

-- the option has the name of no component
pub component_refused : (name : List ℕ) (more : List (List ℕ)) (e : CmdErr) → RefusesWord (Spells itself IsPlainComponent) name 2 e → RefusesWords TakesUpdate (component_word name ∷ more) 2 e
component_refused name more e refused =
    refuse_wrong TakesUpdate IsComponentWord (component_word name) more (component_word name ∷ more) 2 e some_update first refl (weaker e refused)
  where
    first : (rest : List (List ℕ)) → TakesUpdate (component_word name ∷ rest) → IsComponentWord (component_word name)
    first rest (inl asked) = absurd (not_word name asked.0 asked.1)
    first rest (inr (inl it)) = absurd (not_option name it.0)
    first rest (inr (inr it)) = it.0

    weaker : (e : CmdErr) → RefusesWord (Spells itself IsPlainComponent) name 2 e → RefusesWord IsComponentWord (component_word name) 2 e
    weaker OutOfMemory refused = tt
    weaker (Usage at) refused = (refused.0, λ it. refused.1 (record { value = it.value; is = it.is; same = one_component name it.value it.same }))

-- what follows the option is refused
pub verb_refused : (name : List ℕ) (more : List (List ℕ)) (e : CmdErr) → IsPlainComponent name → RefusesWords TakesAsked more 3 e → RefusesWords TakesUpdate (component_word name ∷ more) 2 e
verb_refused name more e plain refused =
    refuse_after TakesUpdate TakesAsked (component_word name) more (component_word name ∷ more) 2 3 e refl after
    (λ rest it. inr (inr (record { value = name; is = plain; same = refl }, it))) refl refused
  where
    after : (rest : List (List ℕ)) → TakesUpdate (component_word name ∷ rest) → TakesAsked rest
    after rest (inl asked) = absurd (not_word name asked.0 asked.1)
    after rest (inr (inl it)) = absurd (not_option name it.0)
    after rest (inr (inr it)) = it.1
