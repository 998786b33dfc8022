use Rattle.std.proofs.Common.{sym, ◌∙◌}
use Rattle.std.proofs.lemmas.Bool.{false≢true}
use Rattle.ext_find.proofs.VersionLemmas.{foreign, no_text, own, whole_text}
use Rattle.ext_find.proofs.version.version_of.Goals as goal

pub returns-then-is_name_of : goal.returns-then-is_name_of
returns-then-is_name_of c = own c.args.arch c.in-Some.ensures.0 c.args.text.now c.in-Some.version.now c.in-Some.word.now c.in-Some.ensures.1 c.in-Some.ensures.2 (sym c.is_name_of.ensures ∙ c.if-is_name_of.true)

pub returns-else-is_name_of : goal.returns-else-is_name_of
returns-else-is_name_of c = foreign c.args.arch c.in-Some.ensures.0 c.args.text.now c.in-Some.version.now c.in-Some.word.now c.in-Some.ensures.1 c.in-Some.ensures.2 (sym c.is_name_of.ensures ∙ c.if-is_name_of.false)

pub returns-then-is_version : goal.returns-then-is_version
returns-then-is_version c = whole_text c.args.arch c.args.text.now c.in-None.ensures (c.is_version.ensures.0 c.if-is_version.true)

pub returns-else-is_version : goal.returns-else-is_version
returns-else-is_version c = no_text c.args.arch c.args.text.now c.in-None.ensures (λ is. false≢true (sym c.if-is_version.false ∙ c.is_version.ensures.1 is))
