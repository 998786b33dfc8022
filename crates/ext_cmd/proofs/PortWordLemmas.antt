-- The words of images, options and prefixes: which of them begin with `-`, and that each is the word of one.
use Rattle.std.proofs.Common.{◌≡◌, ◌≢◌, ℕ, true, false, List, [], ◌∷◌, codes, refl, sym, ap, ◌∙◌, subst, arith, if◌then◌else◌}
use Rattle.std.specs.Prelude.{◌==◌, Option, Some, None}
use Rattle.std.specs.Str.{bytes_eq}
use Rattle.std.proofs.lemmas.Bool.{eqb-true, false_from_ne_true, false≢true, true≢false}
use Rattle.std.proofs.lemmas.List.Elements.{All-head}
use Rattle.ext_text.specs.Absolute.{absolute}
use Rattle.ext_text.specs.Name.{IsName, is_name_byte}
use Rattle.ext_units.specs.declared.image.Image.{Image}
use Rattle.ext_units.specs.declared.image.Image.TheVariants as images
use Rattle.ext_added.specs.declared.ask.CopyMode.{CopyMode}
use Rattle.ext_added.specs.declared.ask.CopyMode.TheVariants as modes
use Rattle.ext_cmd.specs.Grammar.{IsPlainWord, Spells}
use Rattle.ext_cmd.specs.Plain.{IsBelowRoot, IsPlainName}
use Rattle.ext_cmd.specs.Portable.{IsImageOfWords, IsOption, attach_word, image_word, mode_word, option_word}
use Rattle.ext_cmd.specs.PortReading.{is_dashed, is_slashed}
use Rattle.ext_cmd.specs.Reading.{RefusesWord}
use Rattle.ext_cmd.specs.declared.portable.AttachOption.{AttachOption}
use Rattle.ext_cmd.specs.declared.portable.AttachOption.TheVariants.{Runtime, Profile, Copy, Extension}
use Rattle.ext_cmd.specs.declared.portable.AttachWord.{AttachWord}
use Rattle.ext_cmd.specs.declared.portable.AttachWord.TheVariants as items
use Rattle.ext_cmd.specs.declared.words.CmdErr.{CmdErr}
use Rattle.ext_cmd.specs.declared.words.CmdErr.TheVariants.{OutOfMemory, Usage}
use Rattle.ext_cmd.proofs.WordLemmas.{a_name, one_path}

-- a name that isn't taken for an option
pub a_plain : IsPlainName (codes "a")
a_plain = record { name_is = a_name; no_dash = λ rest same. cc }

pub an_image : IsImageOfWords (images.Named (codes "a"))
an_image = a_plain

-- plain names do not begin with `-`, and names do not begin with `/`
pub plain_not_dashed : (name : List ℕ) → IsPlainName name → is_dashed name ≡ false
plain_not_dashed [] plain = refl
plain_not_dashed (byte ∷ bytes) plain =
    false_from_ne_true (byte == 45) (λ test. plain.no_dash bytes (ap (λ (b : ℕ). b ∷ bytes) (eqb-true byte 45 test)))

pub name_not_slashed : (name : List ℕ) → IsName name → is_slashed name ≡ false
name_not_slashed [] is = refl
name_not_slashed (byte ∷ bytes) is =
    false_from_ne_true (byte == 47) (λ test.
    let first : is_name_byte byte ≡ true = All-head (λ b. is_name_byte b ≡ true) byte bytes is.plain in
    false≢true (subst (λ (b : ℕ). is_name_byte b ≡ true) (eqb-true byte 47 test) first))

-- nor do images begin with `-`
pub image_not_dashed : (image : Image) → IsImageOfWords image → is_dashed (image_word image) ≡ false
image_not_dashed (images.Named name) is = plain_not_dashed name is
image_not_dashed (images.At path) is = refl

-- those at a path begin with `/`, and those that have a name do not
slashed_path : (path : List (List ℕ)) → is_slashed (image_word (images.At path)) ≡ true
slashed_path path = refl

pub one_image : (i j : Image) → IsImageOfWords i → IsImageOfWords j → image_word i ≡ image_word j → i ≡ j
one_image (images.Named m) (images.Named n) is also same = ap (λ (name : List ℕ). images.Named name) same
one_image (images.Named m) (images.At p) is also same = absurd (false≢true (sym (name_not_slashed m is.name_is) ∙ ap is_slashed same ∙ slashed_path p))
one_image (images.At p) (images.Named n) is also same = absurd (false≢true (sym (name_not_slashed n also.name_is) ∙ ap is_slashed (sym same) ∙ slashed_path p))
one_image (images.At p) (images.At q) is also same = ap (λ (path : List (List ℕ)). images.At path) (one_path p q is.within also.within same)

-- a name is the word of no image at a path, and a path that of no image that has a name
pub named_word : (word : List ℕ) (image : Image) → is_slashed word ≡ false → IsImageOfWords image → word ≡ image_word image → IsPlainName word
named_word word (images.Named name) test is same = subst IsPlainName (sym same) is
named_word word (images.At path) test is same = absurd (false≢true (sym test ∙ ap is_slashed same ∙ slashed_path path))

pub record Path (word : List ℕ) : Type 0 where
  pub path : List (List ℕ)
  pub is : IsBelowRoot path
  pub same : word ≡ image_word (images.At path)

pub path_word : (word : List ℕ) (image : Image) → is_slashed word ≡ true → IsImageOfWords image → word ≡ image_word image → Path word
path_word word (images.Named name) test is same = absurd (true≢false (sym test ∙ ap is_slashed same ∙ name_not_slashed name is.name_is))
path_word word (images.At path) test is same = record { path = path; is = is; same = same }

-- each option begins with `-`
pub option_dashed : (option : AttachOption) → is_dashed (option_word option) ≡ true
option_dashed Runtime = refl
option_dashed (Profile name) = refl
option_dashed (Copy mode) = refl
option_dashed (Extension image) = refl

abbrev mode_of : List ℕ → Option CopyMode
mode_of text =
    if bytes_eq text (mode_word modes.Copy) then Some modes.Copy
    else if bytes_eq text (mode_word modes.Symlink) then Some modes.Symlink
    else if bytes_eq text (mode_word modes.Auto) then Some modes.Auto
    else if bytes_eq text (mode_word modes.Mixed) then Some modes.Mixed
    else None

mode_back : (m : CopyMode) → mode_of (mode_word m) ≡ Some m
mode_back modes.Copy = refl
mode_back modes.Symlink = refl
mode_back modes.Auto = refl
mode_back modes.Mixed = refl

pub one_mode : (m n : CopyMode) → mode_word m ≡ mode_word n → m ≡ n
one_mode m n same =
    let read : Some m ≡ Some n = sym (mode_back m) ∙ ap mode_of same ∙ mode_back n in
    cc

-- the third byte, by which options differ
abbrev pub third : List ℕ → ℕ
third (a ∷ b ∷ c ∷ bytes) = c
third _ = 0

pub one_option : (o p : AttachOption) → IsOption o → IsOption p → option_word o ≡ option_word p → o ≡ p
one_option Runtime Runtime is also same = refl
one_option Runtime (Profile n) is also same = let byte : 114 ≡ 112 = ap third same in absurd (omega (arith, byte))
one_option Runtime (Copy n) is also same = let byte : 114 ≡ 99 = ap third same in absurd (omega (arith, byte))
one_option Runtime (Extension j) is also same = let byte : 114 ≡ 101 = ap third same in absurd (omega (arith, byte))
one_option (Profile m) Runtime is also same = let byte : 112 ≡ 114 = ap third same in absurd (omega (arith, byte))
one_option (Profile m) (Profile n) is also same = let name : m ≡ n = cc in ap (λ (l : List ℕ). Profile l) name
one_option (Profile m) (Copy n) is also same = let byte : 112 ≡ 99 = ap third same in absurd (omega (arith, byte))
one_option (Profile m) (Extension j) is also same = let byte : 112 ≡ 101 = ap third same in absurd (omega (arith, byte))
one_option (Copy m) Runtime is also same = let byte : 99 ≡ 114 = ap third same in absurd (omega (arith, byte))
one_option (Copy m) (Profile n) is also same = let byte : 99 ≡ 112 = ap third same in absurd (omega (arith, byte))
one_option (Copy m) (Copy n) is also same = let word : mode_word m ≡ mode_word n = cc in ap (λ (mode : CopyMode). Copy mode) (one_mode m n word)
one_option (Copy m) (Extension j) is also same = let byte : 99 ≡ 101 = ap third same in absurd (omega (arith, byte))
one_option (Extension i) Runtime is also same = let byte : 101 ≡ 114 = ap third same in absurd (omega (arith, byte))
one_option (Extension i) (Profile n) is also same = let byte : 101 ≡ 112 = ap third same in absurd (omega (arith, byte))
one_option (Extension i) (Copy n) is also same = let byte : 101 ≡ 99 = ap third same in absurd (omega (arith, byte))
one_option (Extension i) (Extension j) is also same =
    let word : image_word i ≡ image_word j = cc in ap (λ (image : Image). Extension image) (one_image i j is also word)

-- a prefix, or an option, that may stand as a word
abbrev pub IsWord : AttachWord → Type 0
IsWord (items.Prefix name) = IsPlainName name
IsWord (items.Option option) = IsOption option

-- a word is not both a plain word and an option
pub apart : (word other : List ℕ) → is_dashed word ≡ false → is_dashed other ≡ true → word ≢ other
apart word other plain dashed same = false≢true (sym plain ∙ ap is_dashed same ∙ dashed)

pub one_word : (a b : AttachWord) → IsWord a → IsWord b → attach_word a ≡ attach_word b → a ≡ b
one_word (items.Prefix m) (items.Prefix n) is also same = ap (λ (name : List ℕ). items.Prefix name) same
one_word (items.Prefix m) (items.Option p) is also same = absurd (apart m (option_word p) (plain_not_dashed m is) (option_dashed p) same)
one_word (items.Option o) (items.Prefix n) is also same = absurd (apart n (option_word o) (plain_not_dashed n also) (option_dashed o) (sym same))
one_word (items.Option o) (items.Option p) is also same = ap (λ (option : AttachOption). items.Option option) (one_option o p is also same)

-- a path that is no image's path is no image, and a name that is no plain name is none
pub at_refused : (word : List ℕ) (place : ℕ) (e : CmdErr) → is_slashed word ≡ true → RefusesWord (Spells absolute IsBelowRoot) word place e → RefusesWord (Spells image_word IsImageOfWords) word place e
at_refused word place OutOfMemory slashed refused = tt
at_refused word place (Usage at) slashed refused = (
  refused.0,
  λ it.
      let path = path_word word it.value slashed it.is it.same in refused.1 (record { value = path.path; is = path.is; same = path.same }),
)

pub named_refused : (word : List ℕ) (place : ℕ) (e : CmdErr) → is_slashed word ≡ false → RefusesWord IsPlainWord word place e → RefusesWord (Spells image_word IsImageOfWords) word place e
named_refused word place OutOfMemory plain refused = tt
named_refused word place (Usage at) plain refused =
    (refused.0, λ it. refused.1 (record { value = word; is = named_word word it.value plain it.is it.same; same = refl }))
