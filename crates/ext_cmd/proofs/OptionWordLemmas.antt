-- Words of options: what follows the beginning of each, and the words that are none.
use Rattle.std.proofs.Common.{◌≡◌, ◌≢◌, ℕ, true, false, List, ◌++◌, codes, refl, sym, ap, ◌∙◌, subst, arith}
use Rattle.ext_added.specs.declared.ask.CopyMode.{CopyMode}
use Rattle.ext_cmd.specs.Grammar.{IsImageWord, IsPlainWord, Spells}
use Rattle.ext_cmd.specs.Plain.{IsPlainName}
use Rattle.ext_cmd.specs.Portable.{HasRoom, IsOption, MayJoin, NoneClashes, attach_word, image_word, mode_word, option_word}
use Rattle.ext_cmd.specs.PortReading.{MayFollowImage, is_dashed}
use Rattle.ext_cmd.specs.Reading.{RefusesWord}
use Rattle.ext_cmd.specs.declared.portable.AttachOption.{AttachOption}
use Rattle.ext_cmd.specs.declared.portable.AttachOption.TheVariants.{Runtime, Profile, Copy, Extension}
use Rattle.ext_cmd.specs.declared.portable.AttachWord.{AttachWord}
use Rattle.ext_cmd.specs.declared.portable.AttachWord.TheVariants as items
use Rattle.ext_cmd.specs.declared.words.CmdErr.{CmdErr}
use Rattle.ext_cmd.specs.declared.words.CmdErr.TheVariants.{OutOfMemory, Usage}
use Rattle.ext_cmd.proofs.PortWordLemmas.{apart, one_option, option_dashed, plain_not_dashed, third}

-- the word of an option, by its beginning
profile_of : (text : List ℕ) (option : AttachOption) → IsOption option → codes "--profile=" ++ text ≡ option_word option → IsPlainName text
profile_of text Runtime is same = let byte : 112 ≡ 114 = ap third same in absurd (omega (arith, byte))
profile_of text (Profile name) is same = let rest : name ≡ text = cc in subst IsPlainName rest is
profile_of text (Copy mode) is same = let byte : 112 ≡ 99 = ap third same in absurd (omega (arith, byte))
profile_of text (Extension image) is same = let byte : 112 ≡ 101 = ap third same in absurd (omega (arith, byte))

record Mode (text : List ℕ) : Type 0 where
  pub mode : CopyMode
  pub same : text ≡ mode_word mode

copy_of : (text : List ℕ) (option : AttachOption) → codes "--copy=" ++ text ≡ option_word option → Mode text
copy_of text Runtime same = let byte : 99 ≡ 114 = ap third same in absurd (omega (arith, byte))
copy_of text (Profile name) same = let byte : 99 ≡ 112 = ap third same in absurd (omega (arith, byte))
copy_of text (Copy mode) same = record { mode = mode; same = cc }
copy_of text (Extension image) same = let byte : 99 ≡ 101 = ap third same in absurd (omega (arith, byte))

extension_of : (text : List ℕ) (option : AttachOption) → IsOption option → codes "--extension=" ++ text ≡ option_word option → IsImageWord text
extension_of text Runtime is same = let byte : 101 ≡ 114 = ap third same in absurd (omega (arith, byte))
extension_of text (Profile name) is same = let byte : 101 ≡ 112 = ap third same in absurd (omega (arith, byte))
extension_of text (Copy mode) is same = let byte : 101 ≡ 99 = ap third same in absurd (omega (arith, byte))
extension_of text (Extension image) is same = record { value = image; is = is; same = cc }

-- what follows the beginning is refused
pub profile_refused : (text : List ℕ) (place : ℕ) (e : CmdErr) → RefusesWord IsPlainWord text place e → RefusesWord (Spells option_word IsOption) (codes "--profile=" ++ text) place e
profile_refused text place OutOfMemory refused = tt
profile_refused text place (Usage at) refused =
    (refused.0, λ it. refused.1 (record { value = text; is = profile_of text it.value it.is it.same; same = refl }))

pub copy_refused : (text : List ℕ) (place : ℕ) → ((mode : CopyMode) → text ≢ mode_word mode) → RefusesWord (Spells option_word IsOption) (codes "--copy=" ++ text) place (Usage place)
copy_refused text place none = (refl, λ it. let mode = copy_of text it.value it.same in none mode.mode mode.same)

pub extension_refused : (text : List ℕ) (place : ℕ) (e : CmdErr) → RefusesWord IsImageWord text place e → RefusesWord (Spells option_word IsOption) (codes "--extension=" ++ text) place e
extension_refused text place OutOfMemory refused = tt
extension_refused text place (Usage at) refused = (refused.0, λ it. refused.1 (extension_of text it.value it.is it.same))

-- a word that has none of the beginnings
pub no_option : (word : List ℕ) → word ≢ codes "--runtime" → ((rest : List ℕ) → word ≢ codes "--profile=" ++ rest) → ((rest : List ℕ) → word ≢ codes "--copy=" ++ rest) → ((rest : List ℕ) → word ≢ codes "--extension=" ++ rest)
    → (option : AttachOption) → word ≢ option_word option
no_option word runtime profile copy extension Runtime same = runtime same
no_option word runtime profile copy extension (Profile name) same = profile name same
no_option word runtime profile copy extension (Copy mode) same = copy (mode_word mode) same
no_option word runtime profile copy extension (Extension image) same = extension (image_word image) same

-- an option that may not stand after others
pub option_refused : (options : List AttachOption) (word : List ℕ) (place : ℕ) (e : CmdErr) → RefusesWord (Spells option_word IsOption) word place e → RefusesWord (Spells option_word (MayJoin options)) word place e
option_refused options word place OutOfMemory refused = tt
option_refused options word place (Usage at) refused = (refused.0, λ it. refused.1 (record { value = it.value; is = it.is.is; same = it.same }))

pub join_refused : (options : List AttachOption) (option : AttachOption) (word : List ℕ) (place : ℕ) → IsOption option → word ≡ option_word option → (NoneClashes options option × HasRoom options option → ⊥)
    → RefusesWord (Spells option_word (MayJoin options)) word place (Usage place)
join_refused options option word place is same none = (
  refl,
  λ it.
      let one : it.value ≡ option = one_option it.value option it.is.is is (sym it.same ∙ same) in
      none (subst (NoneClashes options) one it.is.apart, subst (HasRoom options) one it.is.room),
)

-- a word after an image is no option that may stand there, or no prefix
pub dashed_refused : (options : List AttachOption) (word : List ℕ) (place : ℕ) (e : CmdErr) → is_dashed word ≡ true → RefusesWord (Spells option_word (MayJoin options)) word place e → RefusesWord (Spells attach_word (MayFollowImage options)) word place e
dashed_refused options word place OutOfMemory dashed refused = tt
dashed_refused options word place (Usage at) dashed refused = (refused.0, λ it. refused.1 (joins it.value it.is it.same))
  where
    joins : (next : AttachWord) → MayFollowImage options next → word ≡ attach_word next → Spells option_word (MayJoin options) word
    joins (items.Prefix name) may same = absurd (apart name word (plain_not_dashed name may) dashed (sym same))
    joins (items.Option option) may same = record { value = option; is = may; same = same }

pub plain_refused : (options : List AttachOption) (word : List ℕ) (place : ℕ) (e : CmdErr) → is_dashed word ≡ false → RefusesWord IsPlainWord word place e → RefusesWord (Spells attach_word (MayFollowImage options)) word place e
plain_refused options word place OutOfMemory plain refused = tt
plain_refused options word place (Usage at) plain refused = (refused.0, λ it. refused.1 (names it.value it.is it.same))
  where
    names : (next : AttachWord) → MayFollowImage options next → word ≡ attach_word next → IsPlainWord word
    names (items.Prefix name) may same = record { value = name; is = may; same = same }
    names (items.Option option) may same = absurd (apart word (option_word option) plain (option_dashed option) same)
