-- Options one after another: which may join others, and that those that may stand in a command are such that each joined those before it.
use Rattle.std.proofs.Common.{◌≡◌, ℕ, suc, ◌+◌, ◌≤◌, List, [], ◌∷◌, ◌++◌, length, refl, ap, ◌∙◌, arith, length-append}
use Rattle.std.specs.List.{AllByRecursion, count_by, filter}
use Rattle.std.proofs.lemmas.List.Sums.{length-filter}
use Rattle.ext_text.proofs.ForCallers.{all_append, all_back}
use Rattle.ext_units.specs.declared.image.Image.{Image}
use Rattle.ext_cmd.specs.Portable.{AreOptions, AreWithoutClash, Clash, HasRoom, IsImageOfWords, IsOption, MayJoin, NoneClashes, extensions_among, is_extension, most_extensions}
use Rattle.ext_cmd.specs.Portable.{options_among, prefixes_among}
use Rattle.ext_cmd.specs.declared.portable.AttachOption.{AttachOption}
use Rattle.ext_cmd.specs.declared.portable.AttachOption.TheVariants.{Runtime, Profile, Copy, Extension}
use Rattle.ext_cmd.specs.declared.portable.AttachWord.{AttachWord}
use Rattle.ext_cmd.specs.declared.portable.AttachWord.TheVariants as items

-- no options
pub no_options : AreOptions []
no_options = record { each = tt; apart = tt; few = omega arith }

-- the extensions of two lists
pub extensions-append : (xs ys : List AttachOption) → extensions_among (xs ++ ys) ≡ extensions_among xs ++ extensions_among ys
extensions-append [] ys = refl
extensions-append (Runtime ∷ xs) ys = extensions-append xs ys
extensions-append (Profile name ∷ xs) ys = extensions-append xs ys
extensions-append (Copy mode ∷ xs) ys = extensions-append xs ys
extensions-append (Extension image ∷ xs) ys = ap (λ (l : List Image). image ∷ l) (extensions-append xs ys)

-- how many they are
filtered : (options : List AttachOption) → length (extensions_among options) ≡ length (filter is_extension options)
filtered [] = refl
filtered (Runtime ∷ options) = filtered options
filtered (Profile name ∷ options) = filtered options
filtered (Copy mode ∷ options) = filtered options
filtered (Extension image ∷ options) = ap suc (filtered options)

pub count_extensions : (options : List AttachOption) → length (extensions_among options) ≡ count_by is_extension options
count_extensions options = filtered options ∙ length-filter is_extension options

-- the extensions of options are images
pub extensions_are : (options : List AttachOption) → AllByRecursion IsOption options → AllByRecursion IsImageOfWords (extensions_among options)
extensions_are [] are = tt
extensions_are (Runtime ∷ options) are = extensions_are options are.1
extensions_are (Profile name ∷ options) are = extensions_are options are.1
extensions_are (Copy mode ∷ options) are = extensions_are options are.1
extensions_are (Extension image ∷ options) are = (are.0, extensions_are options are.1)

count : (xs ys : List AttachOption) → length (extensions_among (xs ++ ys)) ≡ length (extensions_among xs) + length (extensions_among ys)
count xs ys = ap length (extensions-append xs ys) ∙ length-append (extensions_among xs) (extensions_among ys)

apart_push : (xs : List AttachOption) (o : AttachOption) → AreWithoutClash xs → NoneClashes xs o → AreWithoutClash (xs ++ o ∷ [])
apart_push [] o apart none = (tt, tt)
apart_push (x ∷ xs) o apart none = (all_append (λ later. ¬ Clash x later) xs (o ∷ []) apart.0 (none.0, tt), apart_push xs o apart.1 none.1)

apart_join : (xs : List AttachOption) (o : AttachOption) (ys : List AttachOption) → AreWithoutClash (xs ++ o ∷ ys) → NoneClashes xs o
apart_join [] o ys apart = tt
apart_join (x ∷ xs) o ys apart = ((all_back (λ later. ¬ Clash x later) xs (o ∷ ys) apart.0).0, apart_join xs o ys apart.1)

few_push : (xs : List AttachOption) (o : AttachOption) → length (extensions_among xs) ≤ most_extensions → HasRoom xs o → length (extensions_among (xs ++ o ∷ [])) ≤ most_extensions
few_push xs Runtime few room = omega (arith, few, count xs (Runtime ∷ []))
few_push xs (Profile name) few room = omega (arith, few, count xs (Profile name ∷ []))
few_push xs (Copy mode) few room = omega (arith, few, count xs (Copy mode ∷ []))
few_push xs (Extension image) few room = omega (arith, room refl, count xs (Extension image ∷ []))

room_join : (xs : List AttachOption) (o : AttachOption) (ys : List AttachOption) → length (extensions_among (xs ++ o ∷ ys)) ≤ most_extensions → HasRoom xs o
room_join xs Runtime ys few = λ test. absurd (cc)
room_join xs (Profile name) ys few = λ test. absurd (cc)
room_join xs (Copy mode) ys few = λ test. absurd (cc)
room_join xs (Extension image) ys few = λ test. omega (arith, few, count xs (Extension image ∷ ys))

-- an option that may join options makes longer ones
pub options_push : (xs : List AttachOption) (o : AttachOption) → AreOptions xs → MayJoin xs o → AreOptions (xs ++ o ∷ [])
options_push xs o are may = record {
  each = all_append IsOption xs (o ∷ []) are.each (may.is, tt);
  apart = apart_push xs o are.apart may.apart;
  few = few_push xs o are.few may.room;
}

-- and each of them joined those before it
pub options_join : (xs : List AttachOption) (o : AttachOption) (ys : List AttachOption) → AreOptions (xs ++ o ∷ ys) → MayJoin xs o
options_join xs o ys are = record {
  is = (all_back IsOption xs (o ∷ ys) are.each).0;
  apart = apart_join xs o ys are.apart;
  room = room_join xs o ys are.few;
}

-- the options and the prefixes among two lists
pub options-append : (xs ys : List AttachWord) → options_among (xs ++ ys) ≡ options_among xs ++ options_among ys
options-append [] ys = refl
options-append (items.Prefix name ∷ xs) ys = options-append xs ys
options-append (items.Option option ∷ xs) ys = ap (λ (l : List AttachOption). option ∷ l) (options-append xs ys)

pub prefixes-append : (xs ys : List AttachWord) → prefixes_among (xs ++ ys) ≡ prefixes_among xs ++ prefixes_among ys
prefixes-append [] ys = refl
prefixes-append (items.Prefix name ∷ xs) ys = ap (λ (l : List (List ℕ)). name ∷ l) (prefixes-append xs ys)
prefixes-append (items.Option option ∷ xs) ys = prefixes-append xs ys
