-- The names of features, from those of their files.
use Rattle.std.proofs.Common.{◌≡◌, ℕ, ◌-◌, ◌<◌, true, false, List, [], ◌∷◌, ◌++◌, length, take, drop, refl, sym, ap, ◌∙◌, subst, arith}
use Rattle.std.specs.Prelude.{IsUtf8, codes, nat_eq}
use Rattle.std.specs.List.{AllPass, ends_with}
use Rattle.std.proofs.lemmas.Bool.{false≢true}
use Rattle.std.proofs.lemmas.List.{append_cancel_right, length-append, take-append-drop, take_at}
use Rattle.std.proofs.lemmas.List.Elements.{All-take}
use Rattle.std.proofs.lemmas.Slice.Eq.{bytes_eq-Decides}
use Rattle.std.proofs.lemmas.Str.{IsCharBoundary-at_seam, IsUtf8-take}
use Rattle.ext_text.specs.Name.{IsName, is_name_byte}
use Rattle.ext_find.specs.Ending.{is_hidden}
use Rattle.ext_feature.specs.Features.{feature_file}
use Rattle.ext_feature.specs.Reading.{IsFeatureName}

-- what stands before the suffix
pub without_suffix : (name : List ℕ) → take (length (feature_file name) - 8) (feature_file name) ≡ name
without_suffix name = take_at name (codes ".feature") (length (feature_file name) - 8) (omega (arith, length-append name (codes ".feature")))

-- features whose files have one name have one name
pub one_feature_name : (a b : List ℕ) → feature_file a ≡ feature_file b → a ≡ b
one_feature_name a b same = append_cancel_right a b (codes ".feature") same

-- a name with the suffix is that of a feature's file
pub named_feature : (file : List ℕ) → is_hidden file ≡ false → ends_with nat_eq file (codes ".feature") ≡ true → IsFeatureName file
named_feature file shown suffix = record {
  name = take (length file - 8) file;
  is_file = sym (take-append-drop (length file - 8) file) ∙ ap (λ s. take (length file - 8) file ++ s) (sym ((bytes_eq-Decides (codes ".feature") (drop (length file - 8) file)).0 suffix));
  shown = shown;
}

some_bytes : (name : List ℕ) → is_hidden (feature_file name) ≡ false → 0 < length name
some_bytes [] shown = absurd (false≢true (sym shown))
some_bytes (b ∷ bs) shown = omega arith

suffix_utf8 : IsUtf8 (codes ".feature")
unfolding lib.Utf8.encode
suffix_utf8 = (codes ".feature", (refl, refl))

part_is_name : (name : List ℕ) → is_hidden (feature_file name) ≡ false → IsName (feature_file name) → IsName name
part_is_name name shown is =
    let whole = take_at name (codes ".feature") (length name) refl in record {
      non_empty = some_bytes name shown;
      at_most_255 = omega (arith, length-append name (codes ".feature"), is.at_most_255);
      not_dot = λ same. false≢true (sym shown ∙ ap (λ n. is_hidden (feature_file n)) same);
      not_dot_dot = λ same. false≢true (sym shown ∙ ap (λ n. is_hidden (feature_file n)) same);
      plain = subst (AllPass is_name_byte) whole (All-take (λ b. is_name_byte b ≡ true) (length name) (feature_file name) is.plain);
      utf8 = subst IsUtf8 whole (IsUtf8-take (feature_file name) (length name) is.utf8 (IsCharBoundary-at_seam (feature_file name) name (codes ".feature") refl suffix_utf8));
    }

-- what stands before the suffix of a feature's file is a name
pub feature_is_name : (file : List ℕ) → IsName file → IsFeatureName file → IsName (take (length file - 8) file)
feature_is_name file is feature =
    subst (λ f. IsName (take (length f - 8) f)) (sym feature.is_file)
    (subst IsName (sym (without_suffix feature.name))
    (part_is_name feature.name (ap is_hidden (sym feature.is_file) ∙ feature.shown) (subst IsName feature.is_file is)))

-- and the file is that of the feature with this name
pub file_of_feature : (file : List ℕ) → IsFeatureName file → file ≡ feature_file (take (length file - 8) file)
file_of_feature file feature =
    subst (λ f. f ≡ feature_file (take (length f - 8) f)) (sym feature.is_file) (ap feature_file (sym (without_suffix feature.name)))
