-- The lemmas on this crate's definitions that other crates cite.

-- the version at a place is one of them
pub use Rattle.ext_choice.proofs.ChoosingLemmas.{got_among}
-- of ascending available versions there is one choice
pub use Rattle.ext_choice.proofs.LawsLemmas.{one_choice}
-- a protected version stays, and the coming one; what goes had an instance; the oldest go first, and no more than has to
pub use Rattle.ext_choice.proofs.RoomLemmas.{protected_stays, coming_stays, gone_beside, oldest_first, no_more}
-- there is one list of what goes, one count where room is lacking, and never both
pub use Rattle.ext_choice.proofs.RoomLemmas.{one_room, one_lack, no_lack}
-- an instance of a protected version stays, and one of the coming version; where one goes, older ones of its transfer go too
pub use Rattle.ext_choice.proofs.VacuumLemmas.{protected_instance_stays, coming_instance_stays, older_goes}
-- there is one list of the paths that go
pub use Rattle.ext_choice.proofs.VacuumLemmas.{one_vacuum}
-- instances in strict order are in the order of their transfers
pub use Rattle.ext_choice.proofs.VacuumLemmas.{by_transfer}
