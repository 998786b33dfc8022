-- A step has one outcome.
use Rattle.std.proofs.Common.{◌≡◌, ◌≢◌, ℕ, ◌+◌, List, [], ◌∷◌, ◌++◌, length, Option, Some, None, refl, sym, ap, ◌∙◌, subst, arith, inl, inr}
use Rattle.std.specs.Prelude.{◌⊎◌, IfSome}
use Rattle.std.proofs.lemmas.List.{take_all}
use Rattle.ext_attributes.specs.Attributes.{OfFile}
use Rattle.ext_text.specs.declared.which.Which.{Which}
use Rattle.ext_tree.specs.Tree.{Entries}
use Rattle.ext_tree.specs.declared.entry.Entry.{Entry}
use Rattle.ext_tree.specs.declared.entry.Entry.TheVariants.{File}
use Rattle.ext_tree.specs.declared.stamp.Stamp.{Stamp}
use Rattle.ext_depot.specs.Depot.{DepotState, Files}
use Rattle.ext_disk.specs.Disk.{Tree}
use Rattle.ext_host.specs.Held.{HeldFile, IsStampOf}
use Rattle.ext_host.specs.Shelf.{stored, untold}
use Rattle.ext_host.specs.declared.body.Body.TheVariants.{Depot, Kept}
use Rattle.ext_host.specs.declared.home.Home.{Home}
use Rattle.ext_host.specs.declared.host.Host.{Host}
use Rattle.ext_host.proofs.ForCallers.{one_stamp}
use Rattle.ext_store_files.specs.Copying.{IsMissing, IsReadStamp, IsReadUpTo, bytes_told, contents_told}
use Rattle.ext_homes.specs.Giving.{lists_kept}
use Rattle.ext_homes.specs.Laws.{HasBytes}
use Rattle.ext_homes.specs.Placed.{ArePlaced, IsBodyPlaced, IsBroughtTo, IsEntryPlaced, IsHostPlaced, Stored, TakesHome, brought_told}
use Rattle.ext_homes.specs.Refused.{StopsAt}
use Rattle.ext_homes.proofs.ForCallers.{host_way}
use Rattle.ext_index.specs.ValidIndex.{written_text}
use Rattle.ext_gen.specs.Preparing.{coming_number, contents_after, contents_of, limit_of}
use Rattle.ext_gen.specs.Store.{Stands, State, at, generation_in, none}
use Rattle.ext_gen.proofs.ForCallers.{current_is_opened, opened_is_well_formed}
use Rattle.ext_cmd.specs.Replies.{answer_text}
use Rattle.ext_cmd.specs.declared.refusal.Refusal.{Refusal}
use Rattle.ext_cmd.specs.declared.refusal.Refusal.TheVariants as refusals
use Rattle.ext_intents.specs.Laws.{IsToldSeen, OneIntent}
use Rattle.ext_intents.specs.declared.intent.Intent.{Intent}
use Rattle.ext_intents.specs.declared.intent.Intent.TheVariants.{Answers, Changes, Checks, Refuses, Shows}
use Rattle.ext_top.specs.Laws.{OneOutcome}
use Rattle.ext_top.specs.Machine.{depot_of, Comes, Counts, IsMismatch, IsNextState, IsNotThere, Outcome, RefusesNext, Replaces, StopsFor, bytes_at, gives, refuses, seen_in, stored_of, trees_in}
use Rattle.ext_top.proofs.StoredLemmas.{of_no_tree}

-- what a depot tells of a file, where it tells its files
depot_tells : (depot : DepotState) (files : Files) (path : List (List ℕ)) → depot.contents ≡ Some files → brought_told depot (Depot path) ≡ bytes_told (files path)
depot_tells depot files path told = ap (λ contents. contents_told contents path) told

-- why a file gets no home, as a refusal says it
abbrev WhyNot : DepotState → Refusal → HeldFile → Type 0
WhyNot depot (refusals.NotInDepot path) = λ held. IsNotThere depot path held
WhyNot depot (refusals.Mismatch path listed found) = λ held. IsMismatch depot path listed found held
WhyNot depot _ = λ held. ⊥

-- bytes with the listed stamp are not read with another
not_read : (told : Option (List ℕ)) (listed found : Stamp) (bytes : List ℕ) → bytes_told told ≡ stored bytes → IsStampOf bytes listed → IsReadStamp (bytes_told told) listed found → ⊥
not_read told listed found bytes is stamped (other, (read, read_stamp, reads)) =
    let whole : read ≡ bytes = subst (λ t. IsReadUpTo t listed.size read) is reads ∙ take_all (listed.size + 1) bytes (let size = stamped.size in omega arith) in
    other (one_stamp bytes found listed (subst (λ b. IsStampOf b found) whole read_stamp) stamped)

-- so what is taken a home for is there, with its stamp
taken : (old : Stored) (told : Option (List ℕ)) (n : ℕ) (stamp : Stamp) (next : ℕ) (home : Home) (written : List (List ℕ)) → TakesHome old n stamp (bytes_told told) next home written → (bytes : List ℕ) × (bytes_told told ≡ stored bytes) × IsStampOf bytes stamp
taken old None n stamp next home written (inl is) = absurd is.0.same.1
taken old None n stamp next home written (inr is) = absurd is.2.1
taken old (Some bytes) n stamp next home written (inl is) = (bytes, refl, is.0.same.1)
taken old (Some bytes) n stamp next home written (inr is) = (bytes, refl, subst (λ b. IsStampOf b stamp) is.2.1 is.2.2)

not_taken : (old : Stored) (depot : DepotState) (files : Files) (n : ℕ) (refusal : Refusal) (held : HeldFile) (path : List (List ℕ)) (next : ℕ) (home : Home) (written : List (List ℕ)) → depot.contents ≡ Some files
    → held.body ≡ Depot path → WhyNot depot refusal held → TakesHome old n held.stamp (brought_told depot held.body) next home written → ⊥
not_taken old depot files n refusal held path next home written told body why takes =
    let is : brought_told depot held.body ≡ bytes_told (files path) = ap (brought_told depot) body ∙ depot_tells depot files path told in
    let has = taken old (files path) n held.stamp next home written (subst (λ t. TakesHome old n held.stamp t next home written) is takes) in
    by_refusal refusal why is has.0 has.1 has.2
  where
    by_refusal : (refusal : Refusal) → WhyNot depot refusal held → brought_told depot held.body ≡ bytes_told (files path) → (bytes : List ℕ) → bytes_told (files path) ≡ stored bytes → IsStampOf bytes held.stamp → ⊥
    by_refusal (refusals.NotInDepot place) why is bytes there stamped = subst IsMissing (is ∙ there) why.missing
    by_refusal (refusals.Mismatch place listed found) why is bytes there stamped =
        not_read (files path) listed found bytes there (subst (IsStampOf bytes) (sym why.stamp) stamped) (subst (λ t. IsReadStamp t listed found) is why.read)
    by_refusal refusals.NoStore why is bytes there stamped = why
    by_refusal refusals.StoreExists why is bytes there stamped = why
    by_refusal refusals.Merged why is bytes there stamped = why
    by_refusal refusals.NoHostRelease why is bytes there stamped = why
    by_refusal (refusals.BadHostRelease line) why is bytes there stamped = why
    by_refusal (refusals.ReadOnly place) why is bytes there stamped = why
    by_refusal (refusals.Limit which) why is bytes there stamped = why
    by_refusal (refusals.NoEntry place) why is bytes there stamped = why
    by_refusal (refusals.NotDirectory place) why is bytes there stamped = why
    by_refusal (refusals.NotFile place) why is bytes there stamped = why
    by_refusal (refusals.BadTree line place) why is bytes there stamped = why
    by_refusal refusals.NoTransfers why is bytes there stamped = why
    by_refusal (refusals.BadTransfer line cause file) why is bytes there stamped = why
    by_refusal (refusals.BadManifest line place) why is bytes there stamped = why
    by_refusal refusals.NoneNewer why is bytes there stamped = why
    by_refusal (refusals.NoSuchVersion v) why is bytes there stamped = why
    by_refusal (refusals.NoRoom count name) why is bytes there stamped = why
    by_refusal (refusals.Clash place) why is bytes there stamped = why
    by_refusal (refusals.BadFeature line cause file) why is bytes there stamped = why
    by_refusal refusals.NoneOn why is bytes there stamped = why
    by_refusal (refusals.NoMark generation) why is bytes there stamped = why
    by_refusal refusals.NoSuchImage why is bytes there stamped = why
    by_refusal refusals.NotPortable why is bytes there stamped = why
    by_refusal (refusals.BadRelease line) why is bytes there stamped = why
    by_refusal (refusals.PrefixForbidden prefix) why is bytes there stamped = why
    by_refusal refusals.NoUnits why is bytes there stamped = why
    by_refusal refusals.NoProfile why is bytes there stamped = why
    by_refusal (refusals.UnitExists place) why is bytes there stamped = why
    by_refusal refusals.AlreadyAttached why is bytes there stamped = why
    by_refusal refusals.NotAttached why is bytes there stamped = why
    by_refusal (refusals.NoExtension extension) why is bytes there stamped = why
    by_refusal (refusals.Extension extension cause) why is bytes there stamped = why

in_depot : (depot : DepotState) (refusal : Refusal) (held : HeldFile) → WhyNot depot refusal held → (path : List (List ℕ)) × (held.body ≡ Depot path)
in_depot depot (refusals.NotInDepot path) held why = (path, why.body)
in_depot depot (refusals.Mismatch path listed found) held why = (path, why.body)
in_depot depot refusals.NoStore held why = absurd why
in_depot depot refusals.StoreExists held why = absurd why
in_depot depot refusals.Merged held why = absurd why
in_depot depot refusals.NoHostRelease held why = absurd why
in_depot depot (refusals.BadHostRelease line) held why = absurd why
in_depot depot (refusals.ReadOnly path) held why = absurd why
in_depot depot (refusals.Limit which) held why = absurd why
in_depot depot (refusals.NoEntry path) held why = absurd why
in_depot depot (refusals.NotDirectory path) held why = absurd why
in_depot depot (refusals.NotFile path) held why = absurd why
in_depot depot (refusals.BadTree line path) held why = absurd why
in_depot depot refusals.NoTransfers held why = absurd why
in_depot depot (refusals.BadTransfer line cause file) held why = absurd why
in_depot depot (refusals.BadManifest line place) held why = absurd why
in_depot depot refusals.NoneNewer held why = absurd why
in_depot depot (refusals.NoSuchVersion v) held why = absurd why
in_depot depot (refusals.NoRoom count name) held why = absurd why
in_depot depot (refusals.Clash place) held why = absurd why
in_depot depot (refusals.BadFeature line cause file) held why = absurd why
in_depot depot refusals.NoneOn held why = absurd why
in_depot depot (refusals.NoMark generation) held why = absurd why
in_depot depot refusals.NoSuchImage held why = absurd why
in_depot depot refusals.NotPortable held why = absurd why
in_depot depot (refusals.BadRelease line) held why = absurd why
in_depot depot (refusals.PrefixForbidden prefix) held why = absurd why
in_depot depot refusals.NoUnits held why = absurd why
in_depot depot refusals.NoProfile held why = absurd why
in_depot depot (refusals.UnitExists path) held why = absurd why
in_depot depot refusals.AlreadyAttached held why = absurd why
in_depot depot refusals.NotAttached held why = absurd why
in_depot depot (refusals.NoExtension extension) held why = absurd why
in_depot depot (refusals.Extension extension cause) held why = absurd why

module _ (old : Stored) (depot : DepotState) (files : Files) (told : depot.contents ≡ Some files) (n : ℕ) where
  -- such a file isn't placed
  not_placed : (refusal : Refusal) (attributes : OfFile) (held : HeldFile) (next : ℕ) (new : Entry HeldFile) (written : List (List ℕ)) → WhyNot depot refusal held → IsEntryPlaced old depot n (File attributes held) next new written → ⊥
  not_placed refusal attributes held next new written why (placed, is, same) =
      let of = in_depot depot refusal held why in
      let brought : IsBroughtTo old depot n held next placed written = subst (λ body. IsBodyPlaced old depot n held body next placed written) of.1 is in
      not_taken old depot files n refusal held of.0 next brought.0 written told of.1 why brought.1

  -- and so no entries among which it is
  not_among : (refusal : Refusal) (es before : Entries HeldFile) (path : List (List ℕ)) (attributes : OfFile) (held : HeldFile) (after : Entries HeldFile) (next : ℕ) (new : Entries HeldFile) (written : List (List ℕ)) → WhyNot depot refusal held
      → es ≡ before ++ (path, File attributes held) ∷ after → ArePlaced old depot n es next new written → ⊥
  not_among refusal [] [] path attributes held after next new written why split placed = cc
  not_among refusal [] (b ∷ before) path attributes held after next new written why split placed = cc
  not_among refusal (e ∷ es) [] path attributes held after next new written why split placed =
      let first : e ≡ (path, File attributes held) = cc in
      not_placed refusal attributes held next placed.0 placed.2 why (subst (λ e. IsEntryPlaced old depot n e.1 next placed.0 placed.2) first placed.4)
  not_among refusal (e ∷ es) (b ∷ before) path attributes held after next new written why split placed =
      let rest : es ≡ before ++ (path, File attributes held) ∷ after = cc in
      not_among refusal es before path attributes held after (next + length placed.2) placed.1 placed.3 why rest placed.5

  -- nor a host
  not_both : (refusal : Refusal) (root lower before : Entries HeldFile) (path : List (List ℕ)) (attributes : OfFile) (held : HeldFile) (after : Entries HeldFile) (first second : ℕ) (new_root new_lower : Entries HeldFile) (written more : List (List ℕ)) → WhyNot depot refusal held
      → root ++ lower ≡ before ++ (path, File attributes held) ∷ after → ArePlaced old depot n root first new_root written → ArePlaced old depot n lower second new_lower more → ⊥
  not_both refusal [] lower before path attributes held after first second new_root new_lower written more why split one two = not_among refusal lower before path attributes held after second new_lower more why split two
  not_both refusal (e ∷ root) lower [] path attributes held after first second new_root new_lower written more why split one two =
      let here : e ≡ (path, File attributes held) = cc in
      not_placed refusal attributes held first one.0 one.2 why (subst (λ e. IsEntryPlaced old depot n e.1 first one.0 one.2) here one.4)
  not_both refusal (e ∷ root) lower (b ∷ before) path attributes held after first second new_root new_lower written more why split one two =
      let rest : root ++ lower ≡ before ++ (path, File attributes held) ∷ after = cc in
      not_both refusal root lower before path attributes held after (first + length one.2) second one.1 new_lower one.3 more why rest one.5 two

  stops_or_is_placed : (refusal : Refusal) (host new : Host) (written : List (List ℕ)) → StopsAt old depot n (host.root ++ host.lower) 0 (WhyNot depot refusal) → IsHostPlaced old depot n host new written → ⊥
  stops_or_is_placed refusal host new written stops (root, lower, (first, rest, one, two, parts), is) =
      not_both refusal host.root host.lower stops.before stops.path stops.attributes stops.held stops.after 0 (0 + length first) root lower first rest stops.why stops.entries one two

  -- of two files that stop a change in the same entries each is the first
  one_stop : (x y : Refusal) (es before others : Entries HeldFile) (p q : List (List ℕ)) (m k : OfFile) (held file : HeldFile) (after later : Entries HeldFile) (next turn : ℕ) (new made : Entries HeldFile) (written more : List (List ℕ))
      → WhyNot depot x held → WhyNot depot y file → es ≡ before ++ (p, File m held) ∷ after → es ≡ others ++ (q, File k file) ∷ later → ArePlaced old depot n before next new written → ArePlaced old depot n others turn made more → held ≡ file
  one_stop x y [] [] others p q m k held file after later next turn new made written more why wherefore split cut one two = cc
  one_stop x y [] (b ∷ before) others p q m k held file after later next turn new made written more why wherefore split cut one two = cc
  one_stop x y (e ∷ es) [] [] p q m k held file after later next turn new made written more why wherefore split cut one two =
      let first : e ≡ (p, File m held) = cc in
      let second : e ≡ (q, File k file) = cc in
      let files_are : File m held ≡ File k file = ap (λ (x : List (List ℕ) × Entry HeldFile). x.1) (sym first ∙ second) in
      cc
  one_stop x y (e ∷ es) [] (o ∷ others) p q m k held file after later next turn new made written more why wherefore split cut one two =
      let here : o ≡ (p, File m held) = cc in
      absurd (not_placed x m held turn two.0 two.2 why (subst (λ e. IsEntryPlaced old depot n e.1 turn two.0 two.2) here two.4))
  one_stop x y (e ∷ es) (b ∷ before) [] p q m k held file after later next turn new made written more why wherefore split cut one two =
      let here : b ≡ (q, File k file) = cc in
      absurd (not_placed y k file next one.0 one.2 wherefore (subst (λ e. IsEntryPlaced old depot n e.1 next one.0 one.2) here one.4))
  one_stop x y (e ∷ es) (b ∷ before) (o ∷ others) p q m k held file after later next turn new made written more why wherefore split cut one two =
      let rest : es ≡ before ++ (p, File m held) ∷ after = cc in
      let last : es ≡ others ++ (q, File k file) ∷ later = cc in
      one_stop x y es before others p q m k held file after later (next + length one.2) (turn + length two.2) one.1 two.1 one.3 two.3 why wherefore rest last one.5 two.5

-- one stamp is read of a file of the depot
read_once : (told : Option (List ℕ)) (listed a b : Stamp) → IsReadStamp (bytes_told told) listed a → IsReadStamp (bytes_told told) listed b → a ≡ b
read_once None listed a b x y = absurd x.1.2
read_once (Some bytes) listed a b (other, (text, stamped, reads)) (apart, (more, also, read)) = one_stamp more a b (subst (λ t. IsStampOf t a) (reads ∙ sym read) stamped) also

read_or_missing : (told : Option (List ℕ)) (listed found : Stamp) → IsMissing (bytes_told told) → IsReadStamp (bytes_told told) listed found → ⊥
read_or_missing None listed found lacks read = read.1.2
read_or_missing (Some bytes) listed found lacks read = lacks

one_path : (held : HeldFile) (p q : List (List ℕ)) → held.body ≡ Depot p → held.body ≡ Depot q → p ≡ q
one_path held p q x y = let same : Depot p ≡ Depot q = sym x ∙ y in cc

module _ (depot : DepotState) (files : Files) (told : depot.contents ≡ Some files) (held : HeldFile) where
  there : (path : List (List ℕ)) → held.body ≡ Depot path → brought_told depot held.body ≡ bytes_told (files path)
  there path body = ap (brought_told depot) body ∙ depot_tells depot files path told

  -- a file has one reason to get no home
  why_once : (x y : Refusal) → WhyNot depot x held → WhyNot depot y held → x ≡ y
  why_once (refusals.NotInDepot p) (refusals.NotInDepot q) x y = ap (λ p. refusals.NotInDepot p) (one_path held p q x.body y.body)
  why_once (refusals.NotInDepot p) (refusals.Mismatch q listed found) x y = absurd (read_or_missing (files q) listed found (subst IsMissing (there q y.body) x.missing) (subst (λ t. IsReadStamp t listed found) (there q y.body) y.read))
  why_once (refusals.Mismatch p listed found) (refusals.NotInDepot q) x y = absurd (read_or_missing (files p) listed found (subst IsMissing (there p x.body) y.missing) (subst (λ t. IsReadStamp t listed found) (there p x.body) x.read))
  why_once (refusals.Mismatch p listed found) (refusals.Mismatch q other read) x y =
      let path : p ≡ q = one_path held p q x.body y.body in
      let stamp : listed ≡ other = x.stamp ∙ sym y.stamp in
      let same : found ≡ read = read_once (files q) other found read (subst (λ s. IsReadStamp (bytes_told (files q)) s found) stamp (subst (λ t. IsReadStamp t listed found) (there q y.body) x.read)) (subst (λ t. IsReadStamp t other read) (there q y.body) y.read) in
      (λ i. refusals.Mismatch (path i) (stamp i) (same i))
  why_once (refusals.NotInDepot p) refusals.NoStore x y = absurd y
  why_once (refusals.NotInDepot p) refusals.StoreExists x y = absurd y
  why_once (refusals.NotInDepot p) refusals.Merged x y = absurd y
  why_once (refusals.NotInDepot p) refusals.NoHostRelease x y = absurd y
  why_once (refusals.NotInDepot p) (refusals.BadHostRelease line) x y = absurd y
  why_once (refusals.NotInDepot p) (refusals.ReadOnly path) x y = absurd y
  why_once (refusals.NotInDepot p) (refusals.Limit which) x y = absurd y
  why_once (refusals.NotInDepot p) (refusals.NoEntry path) x y = absurd y
  why_once (refusals.NotInDepot p) (refusals.NotDirectory path) x y = absurd y
  why_once (refusals.NotInDepot p) (refusals.NotFile path) x y = absurd y
  why_once (refusals.NotInDepot p) (refusals.BadTree line path) x y = absurd y
  why_once (refusals.NotInDepot p) refusals.NoTransfers x y = absurd y
  why_once (refusals.NotInDepot p) (refusals.BadTransfer line why file) x y = absurd y
  why_once (refusals.NotInDepot p) (refusals.BadManifest line place) x y = absurd y
  why_once (refusals.NotInDepot p) refusals.NoneNewer x y = absurd y
  why_once (refusals.NotInDepot p) (refusals.NoSuchVersion v) x y = absurd y
  why_once (refusals.NotInDepot p) (refusals.NoRoom count name) x y = absurd y
  why_once (refusals.NotInDepot p) (refusals.Clash place) x y = absurd y
  why_once (refusals.NotInDepot p) (refusals.BadFeature line why file) x y = absurd y
  why_once (refusals.NotInDepot p) refusals.NoneOn x y = absurd y
  why_once (refusals.NotInDepot p) (refusals.NoMark generation) x y = absurd y
  why_once (refusals.NotInDepot p) refusals.NoSuchImage x y = absurd y
  why_once (refusals.NotInDepot p) refusals.NotPortable x y = absurd y
  why_once (refusals.NotInDepot p) (refusals.BadRelease line) x y = absurd y
  why_once (refusals.NotInDepot p) (refusals.PrefixForbidden prefix) x y = absurd y
  why_once (refusals.NotInDepot p) refusals.NoUnits x y = absurd y
  why_once (refusals.NotInDepot p) refusals.NoProfile x y = absurd y
  why_once (refusals.NotInDepot p) (refusals.UnitExists path) x y = absurd y
  why_once (refusals.NotInDepot p) refusals.AlreadyAttached x y = absurd y
  why_once (refusals.NotInDepot p) refusals.NotAttached x y = absurd y
  why_once (refusals.NotInDepot p) (refusals.NoExtension extension) x y = absurd y
  why_once (refusals.NotInDepot p) (refusals.Extension extension why) x y = absurd y
  why_once (refusals.Mismatch p listed found) refusals.NoStore x y = absurd y
  why_once (refusals.Mismatch p listed found) refusals.StoreExists x y = absurd y
  why_once (refusals.Mismatch p listed found) refusals.Merged x y = absurd y
  why_once (refusals.Mismatch p listed found) refusals.NoHostRelease x y = absurd y
  why_once (refusals.Mismatch p listed found) (refusals.BadHostRelease line) x y = absurd y
  why_once (refusals.Mismatch p listed found) (refusals.ReadOnly path) x y = absurd y
  why_once (refusals.Mismatch p listed found) (refusals.Limit which) x y = absurd y
  why_once (refusals.Mismatch p listed found) (refusals.NoEntry path) x y = absurd y
  why_once (refusals.Mismatch p listed found) (refusals.NotDirectory path) x y = absurd y
  why_once (refusals.Mismatch p listed found) (refusals.NotFile path) x y = absurd y
  why_once (refusals.Mismatch p listed found) (refusals.BadTree line path) x y = absurd y
  why_once (refusals.Mismatch p listed found) refusals.NoTransfers x y = absurd y
  why_once (refusals.Mismatch p listed found) (refusals.BadTransfer line why file) x y = absurd y
  why_once (refusals.Mismatch p listed found) (refusals.BadManifest line place) x y = absurd y
  why_once (refusals.Mismatch p listed found) refusals.NoneNewer x y = absurd y
  why_once (refusals.Mismatch p listed found) (refusals.NoSuchVersion v) x y = absurd y
  why_once (refusals.Mismatch p listed found) (refusals.NoRoom count name) x y = absurd y
  why_once (refusals.Mismatch p listed found) (refusals.Clash place) x y = absurd y
  why_once (refusals.Mismatch p listed found) (refusals.BadFeature line why file) x y = absurd y
  why_once (refusals.Mismatch p listed found) refusals.NoneOn x y = absurd y
  why_once (refusals.Mismatch p listed found) (refusals.NoMark generation) x y = absurd y
  why_once (refusals.Mismatch p listed found) refusals.NoSuchImage x y = absurd y
  why_once (refusals.Mismatch p listed found) refusals.NotPortable x y = absurd y
  why_once (refusals.Mismatch p listed found) (refusals.BadRelease line) x y = absurd y
  why_once (refusals.Mismatch p listed found) (refusals.PrefixForbidden prefix) x y = absurd y
  why_once (refusals.Mismatch p listed found) refusals.NoUnits x y = absurd y
  why_once (refusals.Mismatch p listed found) refusals.NoProfile x y = absurd y
  why_once (refusals.Mismatch p listed found) (refusals.UnitExists path) x y = absurd y
  why_once (refusals.Mismatch p listed found) refusals.AlreadyAttached x y = absurd y
  why_once (refusals.Mismatch p listed found) refusals.NotAttached x y = absurd y
  why_once (refusals.Mismatch p listed found) (refusals.NoExtension extension) x y = absurd y
  why_once (refusals.Mismatch p listed found) (refusals.Extension extension why) x y = absurd y
  why_once refusals.NoStore y why wherefore = absurd why
  why_once refusals.StoreExists y why wherefore = absurd why
  why_once refusals.Merged y why wherefore = absurd why
  why_once refusals.NoHostRelease y why wherefore = absurd why
  why_once (refusals.BadHostRelease line) y why wherefore = absurd why
  why_once (refusals.ReadOnly path) y why wherefore = absurd why
  why_once (refusals.Limit which) y why wherefore = absurd why
  why_once (refusals.NoEntry path) y why wherefore = absurd why
  why_once (refusals.NotDirectory path) y why wherefore = absurd why
  why_once (refusals.NotFile path) y why wherefore = absurd why
  why_once (refusals.BadTree line path) y why wherefore = absurd why
  why_once refusals.NoTransfers y why wherefore = absurd why
  why_once (refusals.BadTransfer line cause file) y why wherefore = absurd why
  why_once (refusals.BadManifest line place) y why wherefore = absurd why
  why_once refusals.NoneNewer y why wherefore = absurd why
  why_once (refusals.NoSuchVersion v) y why wherefore = absurd why
  why_once (refusals.NoRoom count name) y why wherefore = absurd why
  why_once (refusals.Clash place) y why wherefore = absurd why
  why_once (refusals.BadFeature line cause file) y why wherefore = absurd why
  why_once refusals.NoneOn y why wherefore = absurd why
  why_once (refusals.NoMark generation) y why wherefore = absurd why
  why_once refusals.NoSuchImage y why wherefore = absurd why
  why_once refusals.NotPortable y why wherefore = absurd why
  why_once (refusals.BadRelease line) y why wherefore = absurd why
  why_once (refusals.PrefixForbidden prefix) y why wherefore = absurd why
  why_once refusals.NoUnits y why wherefore = absurd why
  why_once refusals.NoProfile y why wherefore = absurd why
  why_once (refusals.UnitExists path) y why wherefore = absurd why
  why_once refusals.AlreadyAttached y why wherefore = absurd why
  why_once refusals.NotAttached y why wherefore = absurd why
  why_once (refusals.NoExtension extension) y why wherefore = absurd why
  why_once (refusals.Extension extension cause) y why wherefore = absurd why

module _ (t : Tree) (s : State) (stands : Stands t s) (files : Files) where
  has_bytes : HasBytes (stored_of s) (contents_of s)
  has_bytes = record { told = λ stamp home listed. refl; stamped = stamped s stands }
    where
      stamped : (s : State) → Stands t s → (stamp : Stamp) (home : Home) → lists_kept (trees_in s) stamp home → IsStampOf (contents_of s home) stamp
      stamped none stands stamp home file = absurd (of_no_tree (record { stamp = stamp; body = Kept home }) file)
      stamped (at g contents) stands stamp home file = stands.1.stamped (record { stamp = stamp; body = Kept home }) home (record { file = file; body = refl })

  -- why there is no next generation: a limit, or a file that stops it
  abbrev Why : Host → Refusal → Type 0
  Why host refusal = ((which : Which) × (refusal ≡ refusals.Limit which) × (limit_of (generation_in s) host ≡ Some which)) ⊎ StopsFor s (Some files) host (WhyNot (depot_of (Some files)) refusal)

  why_refused : (host : Host) (refusal : Refusal) → RefusesNext s (Some files) host refusal → Why host refusal
  why_refused host (refusals.Limit which) refused = inl (which, refl, refused)
  why_refused host (refusals.NotInDepot path) refused = inr refused
  why_refused host (refusals.Mismatch path listed found) refused = inr refused
  why_refused host refusals.NoStore refused = absurd refused
  why_refused host refusals.StoreExists refused = absurd refused
  why_refused host refusals.Merged refused = absurd refused
  why_refused host refusals.NoHostRelease refused = absurd refused
  why_refused host (refusals.BadHostRelease line) refused = absurd refused
  why_refused host (refusals.ReadOnly path) refused = absurd refused
  why_refused host (refusals.NoEntry path) refused = absurd refused
  why_refused host (refusals.NotDirectory path) refused = absurd refused
  why_refused host (refusals.NotFile path) refused = absurd refused
  why_refused host (refusals.BadTree line path) refused = absurd refused
  why_refused host refusals.NoTransfers refused = absurd refused
  why_refused host (refusals.BadTransfer line why file) refused = absurd refused
  why_refused host (refusals.BadManifest line place) refused = absurd refused
  why_refused host refusals.NoneNewer refused = absurd refused
  why_refused host (refusals.NoSuchVersion v) refused = absurd refused
  why_refused host (refusals.NoRoom count name) refused = absurd refused
  why_refused host (refusals.Clash place) refused = absurd refused
  why_refused host (refusals.BadFeature line why file) refused = absurd refused
  why_refused host refusals.NoneOn refused = absurd refused
  why_refused host (refusals.NoMark generation) refused = absurd refused
  why_refused host refusals.NoSuchImage refused = absurd refused
  why_refused host refusals.NotPortable refused = absurd refused
  why_refused host (refusals.BadRelease line) refused = absurd refused
  why_refused host (refusals.PrefixForbidden prefix) refused = absurd refused
  why_refused host refusals.NoUnits refused = absurd refused
  why_refused host refusals.NoProfile refused = absurd refused
  why_refused host (refusals.UnitExists path) refused = absurd refused
  why_refused host refusals.AlreadyAttached refused = absurd refused
  why_refused host refusals.NotAttached refused = absurd refused
  why_refused host (refusals.NoExtension extension) refused = absurd refused
  why_refused host (refusals.Extension extension why) refused = absurd refused

  some_none : (which : Which) (o : Option Which) → o ≡ Some which → o ≡ None → ⊥
  some_none which o is free = let wrong : Some which ≡ None = sym is ∙ free in cc

  refusal_once : (host : Host) (x y : Refusal) → Why host x → Why host y → x ≡ y
  refusal_once host x y (inl (which, is, limit)) (inl (other, also, same)) =
      let one : Some which ≡ Some other = sym limit ∙ same in
      let which_is : which ≡ other = cc in
      is ∙ ap (λ which. refusals.Limit which) which_is ∙ sym also
  refusal_once host x y (inl (which, is, limit)) (inr (free, stops)) = absurd (some_none which (limit_of (generation_in s) host) limit free)
  refusal_once host x y (inr (free, stops)) (inl (which, is, limit)) = absurd (some_none which (limit_of (generation_in s) host) limit free)
  refusal_once host x y (inr (free, stops)) (inr (also, ends)) =
      let one : stops.held ≡ ends.held = one_stop (stored_of s) (depot_of (Some files)) files refl (coming_number (generation_in s)) x y (host.root ++ host.lower) stops.before ends.before stops.path ends.path stops.attributes ends.attributes stops.held ends.held stops.after ends.after 0 0
      stops.placed ends.placed stops.written ends.written stops.why ends.why stops.entries ends.entries stops.homes ends.homes in
      why_once (depot_of (Some files)) files refl ends.held x y (subst (WhyNot (depot_of (Some files)) x) one stops.why) ends.why

  next_or_refused : (host : Host) (u : State) (refusal : Refusal) → limit_of (generation_in s) host ≡ None → IsNextState s (Some files) host u → Why host refusal → ⊥
  next_or_refused host u refusal free next (inl (which, is, limit)) = some_none which (limit_of (generation_in s) host) limit free
  next_or_refused host u refusal free next (inr (clear, stops)) =
      stops_or_is_placed (stored_of s) (depot_of (Some files)) files refl (coming_number (generation_in s)) refusal host next.coming.host next.written stops (subst (λ n. IsHostPlaced (stored_of s) (depot_of (Some files)) n host next.coming.host next.written) next.number next.homes)

  next_once : (host : Host) (u v : State) → IsNextState s (Some files) host u → IsNextState s (Some files) host v → u ≡ v
  next_once host u v x y =
      let number : x.coming.number ≡ y.coming.number = x.number ∙ sym y.number in
      let placed = host_way (stored_of s) (contents_of s) (depot_of (Some files)) files y.coming.number host x.coming.host y.coming.host x.written y.written has_bytes refl (subst (λ n. IsHostPlaced (stored_of s) (depot_of (Some files)) n host x.coming.host x.written) number x.homes) y.homes in
      let text : x.coming.text ≡ y.coming.text = x.text ∙ ap written_text placed.0 ∙ sym y.text in
      x.is ∙ (λ i. at (record { number = number i; text = text i; host = placed.0 i }) (contents_after (number i) (placed.1 i) s)) ∙ sym y.is

  replaces_once : (host : Host) (reply : List ℕ) (a b : Outcome) → Replaces s (Some files) host reply a → Replaces s (Some files) host reply b → a ≡ b
  replaces_once host reply a b (inl (u, free, next, is)) (inl (v, also, other, same)) = is ∙ ap (λ u. gives u reply) (next_once host u v next other) ∙ sym same
  replaces_once host reply a b (inl (u, free, next, is)) (inr (refusal, refused, same)) = absurd (next_or_refused host u refusal free next (why_refused host refusal refused))
  replaces_once host reply a b (inr (refusal, refused, same)) (inl (u, free, next, is)) = absurd (next_or_refused host u refusal free next (why_refused host refusal refused))
  replaces_once host reply a b (inr (x, refused, is)) (inr (y, also, same)) = is ∙ ap (λ refusal. refuses refusal) (refusal_once host x y (why_refused host x refused) (why_refused host y also)) ∙ sym same

  comes_once : (intent : Intent) (a b : Outcome) → Comes s (Some files) intent a → Comes s (Some files) intent b → a ≡ b
  comes_once (Changes host answer) a b x y = replaces_once host (answer_text answer) a b x y
  comes_once (Answers answer) a b x y = x ∙ sym y
  comes_once Checks a b x y = counts_once s x y
    where
      counts_once : (s : State) → Counts s a → Counts s b → a ≡ b
      counts_once none x y = absurd x
      counts_once (at g contents) x y = x ∙ sym y
  comes_once (Shows held) a b x y = x ∙ sym y
  comes_once (Refuses refusal) a b x y = x ∙ sym y

stored_told : (bytes : List ℕ) → stored bytes ≢ untold
stored_told bytes same = cc

-- what is seen in a state for which a store stands
seen_told : (t : Tree) (s : State) → Stands t s → IfSome (seen_in s) IsToldSeen
seen_told t none stands = tt
seen_told t (at g contents) stands = record { root = (opened_is_well_formed g (current_is_opened g t stands.0)).now.root; tells = λ held. stored_told (bytes_at (at g contents) held.body) }

pub one_outcome : OneIntent → OneOutcome
one_outcome one_intent t s files command a b stands x y =
    let intent : x.intent ≡ y.intent = one_intent (seen_in s) files command x.intent y.intent (seen_told t s stands) x.wants y.wants in
    comes_once t s stands files y.intent a b (subst (λ intent. Comes s (Some files) intent a) intent x.comes) y.comes
