use Rattle.ext_available.proofs.LawsLemmas as lemmas
use Rattle.ext_available.proofs.laws.one_offers.Goals as goal

pub returns-clause-has : goal.returns-clause-has
returns-clause-has c = lemmas.has_one_name

pub returns-clause-offers : goal.returns-clause-offers
returns-clause-offers c = lemmas.one_offers

pub returns-clause-told : goal.returns-clause-told
returns-clause-told c =
    lemmas.one_told c.a_text_has_one_manifest.ensures c.a_text_has_a_manifest_or_a_faulty_line.ensures.not_both c.a_text_has_a_manifest_or_a_faulty_line.ensures.one_fault
