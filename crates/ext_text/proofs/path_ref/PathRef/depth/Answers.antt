use Rattle.std.proofs.lemmas.Bool.{false≢true}
use Rattle.ext_text.proofs.CutLemmas.{depth_is}
use Rattle.ext_text.proofs.path_ref.PathRef.depth.Goals as goal

pub returns-else-is_root : goal.returns-else-is_root
returns-else-is_root c =
    depth_is c.self.inside.text.now c.args.self.now c.count_of_slashes.result c.self.view_is (λ none. false≢true (c.if-is_root.ensures.1 none)) c.count_of_slashes.ensures
