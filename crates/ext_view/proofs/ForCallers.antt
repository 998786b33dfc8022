-- The lemmas on this crate's definitions that other crates cite.

-- trees of held files that have the same at each path are one; a host has one unmerged host
pub use Rattle.ext_view.proofs.LawsLemmas.{one_tree, one_unmerged}
-- of what is told one text is given
pub use Rattle.ext_view.proofs.OneSurveyLemmas.{one_given}
-- a shelf that serves the files of a host serves those of its base
pub use Rattle.ext_view.proofs.SurveyLemmas.{base_served}
-- images of the same items give one pair of trees
pub use Rattle.ext_view.proofs.LawsLemmas.{one_pair_of_trees}
-- a content to which names lead is a file's; a host has one base, one release file's bytes and one refreshed host
pub use Rattle.ext_view.proofs.OneSurveyLemmas.{leads_to_file, one_base, one_host_bytes, one_refreshed}
-- a host shows its base at the hierarchies of a class that is not merged
pub use Rattle.ext_view.proofs.ShownLemmas.{base_shown}
-- the chosen images of a survey have places that lead to images
pub use Rattle.ext_view.proofs.ChosenLemmas.{survey_chosen}
-- what surveying a host with its base gives is what surveying the host gives
pub use Rattle.ext_view.proofs.SurveyLemmas.{surveys_of_base}
-- what stands at and below the hierarchies, by look-ups; a path below the root is in the same ones as its prefixes
pub use Rattle.ext_view.proofs.InsideLemmas.{found_inside, none_inside, in_prefix}
-- one more of each of two lists whose elements match
pub use Rattle.ext_view.proofs.MatchedLemmas.{matched_push}
-- items have one list of images
pub use Rattle.ext_view.proofs.LawsLemmas.{one_images}
