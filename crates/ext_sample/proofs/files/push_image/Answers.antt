use Rattle.std.proofs.Common.{◌≡◌, ◌+◌, ◌*◌, ◌++◌, ap, ◌∙◌, arith}
use Rattle.ext_sample.proofs.SampleLemmas.{image_more, image_so_far}
use Rattle.ext_sample.proofs.files.push_image.Goals as goal

pub files-preserved : goal.files-preserved
files-preserved c =
    image_more c.args.image c.files.index (5 * c.args.image + c.files.index) c.args.files.now.items c.files.files.items c.push-in-files.new.self.items c.in_ok-image_file.field-0
    c.files.invariant c.in_ok-image_file.ensures (omega arith) c.in_ok-push-2.ensures.items

pub returns : goal.returns
returns c =
    let all : c.files.index ≡ 10 = omega (arith, c.files-test.false, c.files.auto.index-end) in
    c.files.invariant ∙ ap (λ n. c.args.files.now.items ++ image_so_far c.args.image n) all
