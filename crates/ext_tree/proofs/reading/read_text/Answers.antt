use Rattle.ext_tree.proofs.ReadingLemmas.{text_read, no_header, no_line}
use Rattle.ext_tree.proofs.reading.read_text.Goals as goal

pub returns-in-None : goal.returns-in-None
returns-in-None c = no_line c.args.bytes.now c.args.line c.in-None.ensures

pub returns-in-None-version_of : goal.returns-in-None-version_of
returns-in-None-version_of c = no_header c.args.bytes.now c.in-Some.header.now c.in-Some.body.now c.args.line c.in-Some.ensures c.in-None-version_of.ensures

pub returns-in-Some-version_of : goal.returns-in-Some-version_of
returns-in-Some-version_of c =
    text_read (λ t. t.entries.items) (λ t. t.rest.now) (λ t. t.line) c.read_body.result c.in-Some-version_of.version c.args.bytes.now c.in-Some.body.now c.in-Some.header.now c.args.line c.in-Some-version_of.ensures.0 c.in-Some.ensures c.in-Some-version_of.ensures.1 c.read_body.ensures
