-- The words of `init` after the scope: no list of hierarchies, one or two.
use Rattle.std.proofs.Common.{◌≡◌, ℕ, false, List, [], ◌∷◌, refl, sym, ap, ◌∙◌, subst}
use Rattle.std.specs.Prelude.{Result, Ok, Err, codes}
use Rattle.std.proofs.lemmas.Bool.{false≢true}
use Rattle.ext_text.specs.Arch.{arch_name}
use Rattle.ext_text.specs.declared.arch.Arch.{Arch}
use Rattle.ext_text.specs.declared.arch.Arch.TheVariants.{X86}
use Rattle.ext_text.specs.declared.extension.Extension.TheVariants as extensions
use Rattle.ext_text.specs.declared.scope.Scope.TheVariants.{System}
use Rattle.ext_text.specs.Scope.{scope_name}
use Rattle.ext_host.specs.Host.{default_hierarchies}
use Rattle.ext_cmd.specs.Fault.{BeginsWords}
use Rattle.ext_cmd.specs.Grammar.{AreOthers, HasNoMore, IsArchWord, IsScopeWord, Spells, TakesChosen, TakesOthers, Then}
use Rattle.ext_cmd.specs.Reading.{ReadsAfter, ReadsOthers, ReadsPart, ReadsRest, RefusesWords, RefusesWord, are_apart}
use Rattle.ext_cmd.specs.Words.{AreDisjoint, AreChosen, IsHierarchyList, chosen_words, hierarchies_word}
use Rattle.ext_cmd.specs.declared.command.Chosen.{Chosen}
use Rattle.ext_cmd.specs.declared.command.Chosen.TheVariants as chosen
use Rattle.ext_cmd.specs.declared.command.Command.{Command}
use Rattle.ext_cmd.specs.declared.keyword.Keyword.TheVariants as keywords
use Rattle.ext_cmd.specs.declared.words.CmdErr.{CmdErr}
use Rattle.ext_cmd.specs.declared.words.CmdErr.TheVariants.{OutOfMemory, Usage}
use Rattle.ext_cmd.proofs.FaultLemmas.{refuse_after, refuse_missing, refuse_wrong, then_after}
use Rattle.ext_cmd.proofs.FreshLemmas.{some_others}
use Rattle.ext_cmd.proofs.HierarchyLemmas.{apart_test, one_list}

-- there is none, and a default is among the first
pub default_refused : (names words : List (List ℕ)) → IsHierarchyList names → are_apart names (default_hierarchies extensions.Confext) ≡ false → words ≡ [] → RefusesWords (TakesOthers names) words 5 (Usage 5)
default_refused names words are test none =
    refuse_missing (TakesOthers names) words 5 (some_others names are) (λ apart. false≢true (sym test ∙ apart_test names (default_hierarchies extensions.Confext) apart)) none

-- it is none
pub others_refused : (names : List (List ℕ)) (word : List ℕ) (more words : List (List ℕ)) (e : CmdErr) → IsHierarchyList names → words ≡ word ∷ more → RefusesWord (Spells hierarchies_word IsHierarchyList) word 5 e → RefusesWords (TakesOthers names) words 5 e
others_refused names word more words e are is refused =
    refuse_wrong (TakesOthers names) (Spells hierarchies_word (AreOthers names)) word more words 5 e (some_others names are) (λ rest whole. whole.0) is (weaker e refused)
  where
    weaker : (e : CmdErr) → RefusesWord (Spells hierarchies_word IsHierarchyList) word 5 e → RefusesWord (Spells hierarchies_word (AreOthers names)) word 5 e
    weaker OutOfMemory refused = tt
    weaker (Usage at) refused = (refused.0, λ it. refused.1 (record { value = it.value; is = it.is.hierarchies; same = it.same }))

-- a name is in both
pub clash_refused : (names others : List (List ℕ)) (word : List ℕ) (more words : List (List ℕ)) → IsHierarchyList names → IsHierarchyList others → word ≡ hierarchies_word others → are_apart names others ≡ false → words ≡ word ∷ more → RefusesWords (TakesOthers names) words 5 (Usage 5)
clash_refused names others word more words are also same test is =
    refuse_wrong (TakesOthers names) (Spells hierarchies_word (AreOthers names)) word more words 5 (Usage 5) (some_others names are) (λ rest whole. whole.0) is (
      refl,
      λ it.
          let value = one_list it.value others it.is.hierarchies also (sym it.same ∙ same) in
          false≢true (sym test ∙ apart_test names others (subst (AreDisjoint names) value it.is.apart)),
    )

-- a word follows it
pub more_refused : (names others : List (List ℕ)) (word : List ℕ) (more words : List (List ℕ)) (e : CmdErr) → IsHierarchyList others → AreDisjoint names others → word ≡ hierarchies_word others → words ≡ word ∷ more → RefusesWords HasNoMore more 6 e → RefusesWords (TakesOthers names) words 5 e
more_refused names others word more words e also apart same is refused =
    refuse_after (TakesOthers names) HasNoMore word more words 5 6 e refl (λ rest whole. whole.1)
    (λ rest ends. (record { value = others; is = record { hierarchies = also; apart = apart }; same = same }, ends)) is refused

-- it is the last word
pub both_read : (names others : List (List ℕ)) (word : List ℕ) (more words : List (List ℕ)) → IsHierarchyList names → IsHierarchyList others → AreDisjoint names others → word ≡ hierarchies_word others → words ≡ word ∷ more → more ≡ [] → ReadsOthers names words (Ok (chosen.Both names others))
both_read names others word more words are also apart same is none =
    ((are, also, apart), ap (λ (ws : List (List ℕ)). hierarchies_word names ∷ ws) (is ∙ ap (λ (ws : List (List ℕ)). word ∷ ws) none ∙ ap (λ (w : List ℕ). w ∷ []) same))

pub list_refused : (word : List ℕ) (more words : List (List ℕ)) (e : CmdErr) → words ≡ word ∷ more → RefusesWord (Spells hierarchies_word IsHierarchyList) word 4 e → RefusesWords TakesChosen words 4 e
list_refused word more words e is refused =
    refuse_wrong TakesChosen (Spells hierarchies_word IsHierarchyList) word more words 4 e (record { more = []; whole = tt }) (λ rest whole. record { value = whole.0; is = whole.1; same = whole.2 }) is refused

-- what is read after it is read with it
pub with_others : (names : List (List ℕ)) (word : List ℕ) (more words : List (List ℕ)) (result : Result Chosen CmdErr) → IsHierarchyList names → word ≡ hierarchies_word names → words ≡ word ∷ more → ReadsOthers names more result → ReadsPart chosen_words AreChosen TakesChosen words 4 result
with_others names word more words (Ok hierarchies) are same is read = (read.0, is ∙ ap (λ (w : List ℕ). w ∷ more) same ∙ read.1)
with_others names word more words (Err e) are same is read =
    refuse_after TakesChosen (TakesOthers names) word more words 4 5 e refl
    (λ rest whole. subst (λ (ns : List (List ℕ)). TakesOthers ns rest) (one_list whole.0 names whole.1 are (sym whole.2 ∙ same)) whole.3)
    (λ rest it. (names, are, same, it)) is read

pub some_scope : BeginsWords (Then IsScopeWord TakesChosen) []
some_scope = record { more = scope_name System ∷ []; whole = (record { value = System; is = λ e. cc; same = refl }, tt) }

pub some_init : BeginsWords (Then IsArchWord (Then IsScopeWord TakesChosen)) []
some_init = record { more = arch_name X86 ∷ scope_name System ∷ []; whole = (record { value = X86; is = tt; same = refl }, (record { value = System; is = λ e. cc; same = refl }, tt)) }

-- what is read after an architecture is read with it
pub with_arch : (arch : Arch) (word : List ℕ) (more words : List (List ℕ)) (result : Result Command CmdErr) → word ≡ arch_name arch → words ≡ word ∷ more → ReadsRest (codes "init" ∷ arch_name arch ∷ []) (Then IsScopeWord TakesChosen) more 3 result → ReadsAfter keywords.Init words result
with_arch arch word more words (Ok command) same is read =
    (read.0, ap (λ (ws : List (List ℕ)). codes "init" ∷ ws) is ∙ ap (λ (w : List ℕ). codes "init" ∷ w ∷ more) same ∙ read.1)
with_arch arch word more words (Err e) same is read =
    then_after IsArchWord (Then IsScopeWord TakesChosen) word more words 2 3 e refl (record { value = arch; is = tt; same = same }) is read
