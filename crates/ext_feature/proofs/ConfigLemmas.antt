-- The configuration files of a list: that each counts, and that each that counts is among them.
use Rattle.std.proofs.Common.{◌≡◌, ℕ, Bool, true, false, cond, List, [], ◌∷◌, Option, Some, refl, sym, ap, ◌∙◌}
use Rattle.std.specs.Prelude.{IsTrue, map}
use Rattle.std.specs.FinMap.{find, is_sorted}
use Rattle.std.specs.FinMap.Entries.{below_all}
use Rattle.std.specs.List.{AllByRecursion, Contains}
use Rattle.std.specs.List.Sorted.{IsStrictlySortedBy}
use Rattle.std.specs.Ordering.{eq_by_cmp, is_lt}
use Rattle.std.specs.declared.cmp.Ordering.TheVariants.{Less}
use Rattle.std.proofs.lemmas.Bool.{and_parts}
use Rattle.ext_lines.specs.ByteOrder.{bytes_cmp}
use Rattle.ext_text.proofs.ForCallers.{is_less, same_name}
use Rattle.ext_tree.specs.Tree.{Entries, lookup}
use Rattle.ext_tree.specs.declared.entry.Entry.TheVariants.{File}
use Rattle.ext_walk.specs.Walk.{walk}
use Rattle.ext_walk.proofs.ForCallers.{one_end}
use Rattle.ext_host.specs.Held.{HeldFile}
use Rattle.ext_host.specs.Planning.{ServesAll, content_size}
use Rattle.ext_find.specs.HostRelease.{LeadsToContent}
use Rattle.ext_configs.proofs.ForCallers.{config_in_base, each_config}
use Rattle.ext_configs.specs.Configs.{AreConfigs, IsConfig, files_by_name}
use Rattle.ext_configs.specs.declared.files.ConfigFile.{ConfigFile}
use Rattle.ext_configs.specs.declared.kind.ConfigKind.{ConfigKind}
use Rattle.ext_configs.specs.declared.kind.ConfigKind.TheVariants as kinds
use Rattle.ext_feature.specs.Reading.{AreServed, IsFeatureName}
use Rattle.ext_feature.proofs.ListLemmas.{first_in, holds_of, holds_of_all, later_in}
use Rattle.ext_feature.proofs.NameLemmas.{named_feature}

below_names : (k : List ℕ) (files : List (ConfigFile HeldFile)) → below_all bytes_cmp k (files_by_name files) ≡ true → AllByRecursion (λ y. bytes_cmp k y ≡ Less) (map (λ file. file.name) files)
below_names k [] is = tt
below_names k (f ∷ fs) is =
    let parts = and_parts (is_lt (bytes_cmp k f.name)) (below_all bytes_cmp k (files_by_name fs)) is in
    (is_less (bytes_cmp k f.name) parts.0, below_names k fs parts.1)

-- the names ascend
pub names_sorted : (files : List (ConfigFile HeldFile)) → is_sorted bytes_cmp (files_by_name files) ≡ true → IsStrictlySortedBy bytes_cmp (map (λ file. file.name) files)
unfolding IsStrictlySortedBy
names_sorted [] is = tt
names_sorted (f ∷ fs) is =
    let parts = and_parts (below_all bytes_cmp f.name (files_by_name fs)) (is_sorted bytes_cmp (files_by_name fs)) is in
    (below_names f.name fs parts.0, names_sorted fs parts.1)

-- a file of this name and content is among the files
pub record HasFile (files : List (ConfigFile HeldFile)) (name : List ℕ) (content : HeldFile) : Type 0 where
  pub file : ConfigFile HeldFile
  pub among : Contains files file
  pub name_is : file.name ≡ name
  pub content_is : file.content.now ≡ content

pub file_named : (files : List (ConfigFile HeldFile)) (name : List ℕ) (content : HeldFile) → find bytes_cmp name (files_by_name files) ≡ Some content → HasFile files name content
file_named [] name content found = absurd (cc)
file_named (f ∷ fs) name content found =
    elim (eq_by_cmp bytes_cmp name f.name) as (λ b. eq_by_cmp bytes_cmp name f.name ≡ b → cond b (Some f.content.now) (find bytes_cmp name (files_by_name fs)) ≡ Some content → HasFile (f ∷ fs) name content) [
      | true ↦ λ tied is. record { file = f; among = first_in f fs; name_is = sym (same_name name f.name tied); content_is = cc }
      | false ↦ λ apart is. let rest = file_named fs name content is in record { file = rest.file; among = later_in f fs rest.file rest.among; name_is = rest.name_is; content_is = rest.content_is }
    ] refl found

-- names lead to one content
pub one_content : (es : Entries HeldFile) (names : List (List ℕ)) (a b : HeldFile) → LeadsToContent es names a → LeadsToContent es names b → a ≡ b
one_content es names a b x y =
    let end : x.0 ≡ y.0 = one_end es (walk [] names 0) x.0 y.0 x.2 y.2 in
    let same : Some (File x.1 a) ≡ Some (File y.1 b) = sym x.3 ∙ ap (lookup es) end ∙ y.3 in
    cc

module _ (es : Entries HeldFile) (component : Option (List ℕ)) (kind : ConfigKind) where
  -- each of the files counts
  pub counted : (files : List (ConfigFile HeldFile)) (file : ConfigFile HeldFile) → AreConfigs content_size es component kind files → Contains files file → IsConfig content_size es component kind file.name file.content.now
  counted files file configs c =
      holds_of (λ (f : ConfigFile HeldFile). IsConfig content_size es component kind f.name f.content.now) files file (each_config content_size es component kind files configs) c

  -- and each that counts is one of them
  pub listed : (files : List (ConfigFile HeldFile)) (name : List ℕ) (content : HeldFile) → AreConfigs content_size es component kind files → IsConfig content_size es component kind name content → HasFile files name content
  listed files name content configs config = file_named files name content (configs.whole name content config)

  -- a shelf that serves the tree serves the files
  pub are_served : (serves : HeldFile → Bool) (files : List (ConfigFile HeldFile)) → ServesAll serves es → AreConfigs content_size es component kind files → AreServed serves files
  are_served serves files all configs = holds_of_all (λ file. IsTrue (serves file.content.now)) files (λ file c.
      let at = config_in_base content_size es component kind file.name file.content.now (counted files file configs c) in
      all at.0 at.1 file.content.now at.2)

-- the names of feature files are those of features
pub feature_names : (es : Entries HeldFile) (component : Option (List ℕ)) (files : List (ConfigFile HeldFile)) → AreConfigs content_size es component kinds.Feature files → AllByRecursion (λ file. IsFeatureName file.name) files
feature_names es component files configs = holds_of_all (λ (file : ConfigFile HeldFile). IsFeatureName file.name) files (λ file c.
    let entry = (counted es component kinds.Feature files file configs c).first.config.entry in
    named_feature file.name entry.shown entry.suffix)
