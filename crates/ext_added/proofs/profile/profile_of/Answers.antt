use Rattle.std.proofs.Common.{inl, subst}
use Rattle.ext_walk.specs.Walk.{parts}
use Rattle.ext_added.specs.Profile.{ProfileIn, etc_profiles, profile_text}
use Rattle.ext_added.proofs.ProfileLemmas.{later_there}
use Rattle.ext_added.proofs.profile.profile_of.Goals as goal

pub returns-in-Some : goal.returns-in-Some
returns-in-Some c =
    inl (subst (ProfileIn c.args.base.now (parts (profile_text etc_profiles c.args.name.now))) c.in-Some.is c.in_ok-profile.ensures)

pub returns-in-None : goal.returns-in-None
returns-in-None c =
    later_there c.args.base.now c.args.name.now c.later_profile_of.result
    (subst (ProfileIn c.args.base.now (parts (profile_text etc_profiles c.args.name.now))) c.in-None.is c.in_ok-profile.ensures)
    c.later_profile_of.ensures
