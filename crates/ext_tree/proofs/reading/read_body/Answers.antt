use Rattle.std.proofs.Common.{[], ◌∷◌, length, arith, length-append, ap, max, ◌∙◌}
use Rattle.ext_tree.specs.Reading.{MayStand}
use Rattle.ext_tree.proofs.ReadingLemmas.{split_short, entry_more, none_split, judged_item, judged_fault}
use Rattle.ext_tree.proofs.TreeTextLemmas.{needs_more, version_more}
use Rattle.ext_tree.proofs.reading.read_body.Goals as goal

pub returns-in-Fault : goal.returns-in-Fault
returns-in-Fault c = record {
  entries = c.lines.entries.items;
  rest = c.lines.rest.now;
  tree = c.lines.invariant.tree;
  needed = c.lines.invariant.version;
  text = c.lines.invariant.text;
  counted = c.lines.invariant.counted;
  stop = none_split (MayStand c.args.version c.lines.entries.items) c.lines.rest.now c.in-Some.text.now c.in-Some.after.now c.in-Some.ensures
      (judged_fault c.args.version c.as_slice.result.now c.lines.entries.items c.in-Some.text.now c.in_ok-judge-in-Some.field-0 c.as_slice.ensures.value c.in_ok-judge-in-Some.ensures c.in-Fault.is);
}

pub lines-preserved : goal.lines-preserved
lines-preserved c =
    let grown = c.in_ok-push-in-Item.ensures in
    let found = judged_item c.args.version c.as_slice.result.now c.lines.entries.items c.push.new.items.items c.in-Some.text.now c.in_ok-judge-in-Some.field-0 c.in-Item.path c.in-Item.entry
    c.as_slice.ensures.value c.in_ok-judge-in-Some.ensures c.in-Item.is grown in
    record {
      tree = found.0;
      needed = needs_more c.lines.entries.items c.push.new.items.items (c.in-Item.path, c.in-Item.entry) c.lines.needed c.higher-more.result c.lines.invariant.needed (c.higher-more.ensures ∙ ap (max c.lines.needed) c.needed_version.ensures) grown;
      version = version_more c.args.version c.lines.entries.items c.push.new.items.items (c.in-Item.path, c.in-Item.entry) c.lines.invariant.version found.1.0 grown;
      text = entry_more c.args.bytes.now c.lines.entries.items c.push.new.items.items (c.in-Item.path, c.in-Item.entry) c.lines.rest.now c.in-Some.text.now c.in-Some.after.now
          c.lines.invariant.text c.in-Some.ensures found.1.1 grown;
      counted = omega (arith, ap length grown, length-append c.lines.entries.items ((c.in-Item.path, c.in-Item.entry) ∷ []));
      room = omega (arith, split_short c.lines.rest.now c.in-Some.text.now c.in-Some.after.now c.in-Some.ensures);
    }
