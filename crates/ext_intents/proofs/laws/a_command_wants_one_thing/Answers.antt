use Rattle.ext_intents.proofs.OneImportLemmas.{TextLaws}
use Rattle.ext_intents.proofs.OneIntentLemmas.{one_intent}
use Rattle.ext_intents.proofs.OnePortableLemmas.{PortLaws}
use Rattle.ext_intents.proofs.OneUpdateLemmas.{UpdateLaws}
use Rattle.ext_intents.proofs.OneViewLemmas.{SurveyLaws}
use Rattle.ext_intents.proofs.laws.a_command_wants_one_thing.Goals as goal

pub returns : goal.returns
returns c =
    let texts : TextLaws = record {
      one_text = c.one_tree_of_text.ensures;
      no_fault = c.first_fault_of_text.ensures.none;
      one_first = c.first_fault_of_text.ensures.one;
    } in
    let surveys : SurveyLaws = record {
      one_survey = c.there_is_one_survey.ensures;
      not_both = c.a_file_has_a_release_or_a_faulty_line.ensures.not_both;
      one_fault = c.a_file_has_a_release_or_a_faulty_line.ensures.one_fault;
      one_lines = c.there_is_one_answer.ensures.lines;
      one_changes = c.there_is_one_answer.ensures.changes;
    } in
    let updates : UpdateLaws = record {
      one_features = c.a_component_has_its_features_or_a_first_fault.ensures;
      one_active = c.a_component_has_its_transfers_or_a_first_fault.ensures;
      one_told = c.one_offers.ensures.told;
      one_available = c.one_available.ensures;
      one_installed = c.one_installed.ensures;
      one_versions = c.an_ascending_list_is_one.ensures.versions;
      one_choice = c.there_is_one_choice.ensures;
      one_components = c.one_component_list.ensures;
      one_update = c.one_thing_is_wanted.ensures.update;
      one_vacuum = c.one_thing_is_wanted.ensures.vacuum;
    } in
    let ports : PortLaws = record {
      one_found = c.there_is_one_found_list.ensures;
      one_inspect = c.there_is_one_inspection.ensures;
      one_attach = c.there_is_one_attachment.ensures;
      one_extended = c.there_is_one_extended_attachment.ensures;
    } in
    one_intent texts surveys updates ports
