use Rattle.std.proofs.Common.{inl, subst}
use Rattle.ext_walk.specs.Walk.{parts}
use Rattle.ext_added.specs.Profile.{ProfileIn, profile_text, run_profiles}
use Rattle.ext_added.proofs.ProfileLemmas.{last_there}
use Rattle.ext_added.proofs.profile.later_profile_of.Goals as goal

pub returns-in-Some : goal.returns-in-Some
returns-in-Some c =
    inl (subst (ProfileIn c.args.base.now (parts (profile_text run_profiles c.args.name.now))) c.in-Some.is c.in_ok-profile.ensures)

pub returns-in-None : goal.returns-in-None
returns-in-None c =
    last_there c.args.base.now c.args.name.now c.profile_in-in-None.result
    (subst (ProfileIn c.args.base.now (parts (profile_text run_profiles c.args.name.now))) c.in-None.is c.in_ok-profile.ensures)
    c.profile_in-in-None.ensures
