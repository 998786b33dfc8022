use Rattle.std.proofs.Common.{inl, inr, refl, subst}
use Rattle.ext_added.specs.Profile.{ProfileAt}
use Rattle.ext_port.specs.Wants.{LockedWants, ProfileWants}
use Rattle.ext_port.proofs.SoundLemmas.{sound_made}
use Rattle.ext_port.proofs.WantsLemmas.{bar_more}
use Rattle.ext_port.proofs.staging.attach_units.Goals as goal

pub attach_made-requires-clause-sound : goal.attach_made-requires-clause-sound
attach_made-requires-clause-sound c =
    sound_made c.args.start.now.host.now c.args.start.now.base c.requires.start.valid c.requires.start.base c.args.ask.now c.args.body.now c.args.tree.now c.args.units c.in-Some.profile c.args.lines.now
    c.in_ok-made-in-Some.made c.requires.asked c.requires.body c.requires.files c.requires.units c.units_ascend.ensures c.pairs-entries.ensures.tree.tree c.names-names.ensures.path
    (subst (ProfileAt c.args.start.now.base c.args.ask.now.profile) c.in-Some.is c.in_ok-profile_of.ensures) c.in_ok-made-in-Some.ensures c.look_at_digest.ensures

pub attaching_of-requires : goal.attaching_of-requires
attaching_of-requires c = let is = c.requires.body.is_tree in (is.directory, is.leads, is.open_)

pub returns-in-None-clause-gives : goal.returns-in-None-clause-gives
returns-in-None-clause-gives c =
    inr (subst (ProfileAt c.args.start.now.base c.args.ask.now.profile) c.in-None.is c.in_ok-profile_of.ensures, refl)

pub returns-in_ok-made-in-Some-clause-gives : goal.returns-in_ok-made-in-Some-clause-gives
returns-in_ok-made-in-Some-clause-gives c =
    let start = c.args.start.now in
    bar_more (LockedWants start.host.now c.args.ask.now c.args.body.now.tree c.args.tree.now c.in_ok-made-in-Some.made start.cut)
    (ProfileWants start.host.now start.cut start.base c.args.ask.now c.args.body.now c.args.tree.now c.args.lines.now c.args.units)
    (λ r wants. inl (
      c.in-Some.profile,
      subst (ProfileAt start.base c.args.ask.now.profile) c.in-Some.is c.in_ok-profile_of.ensures,
      (c.in_ok-made-in-Some.made, c.in_ok-made-in-Some.ensures, wants),
    )) c.attach_made.result c.attach_made.ensures.gives
