-- Whatever a call gives, each path that it does not touch stays.
use Rattle.std.proofs.Common.{◌≡◌, ℕ, Bool, true, false, cond, not, ◌&&◌, ◌||◌, List, None, refl, sym, ap, ◌∙◌, subst, inl, inr}
use Rattle.std.proofs.lemmas.Bool.{false≢true, and_parts, and_from}
use Rattle.std.specs.Ordering.{eq_by_cmp}
use Rattle.ext_text.specs.Path.{path_cmp, is_prefix}
use Rattle.ext_text.proofs.ForCallers.{same_path, prefix_trans}
use Rattle.ext_disk.specs.Disk.{Places, Told, is_synced, is_durable, at_prefixes}
use Rattle.ext_disk.specs.Calls.{Call, look, make_dir, make_file, append, sync_file, sync_dir, rename, remove, put, is_child, synced, synced_in, without_renames_in, renamed, removed, with_unsynced_name, reached_place, after, LeavesHalf, IsWithin, EndsTold}
use Rattle.ext_disk.specs.Fixed.{touches, Stays}
use Rattle.ext_disk.proofs.Paths.{contrapose, or_false, or_left, or_right, put_apart, child_prefix, prefixes_weaker}

not_true : (b : Bool) → not b ≡ true → b ≡ false
not_true true is = absurd (false≢true is)
not_true false is = refl

pub stays_same : (d e : Places) (p : List (List ℕ)) → e p ≡ d p → Stays d e p
stays_same d e p same = record {
  node = ap (λ x. x.node) same;
  synced = λ is. ap is_synced same ∙ is;
  hard = λ is. ap (λ x. x.unsynced_bytes) same ∙ is;
}

pub stays_then : (c d e : Places) (p : List (List ℕ)) → Stays c d p → Stays d e p → Stays c e p
stays_then c d e p one two = record {
  node = two.node ∙ one.node;
  synced = λ is. two.synced (one.synced is);
  hard = λ is. two.hard (one.hard is);
}

-- the same as another disk, at one path, of which this is known
along : (d x e : Places) (p : List (List ℕ)) → e ≡ x → x p ≡ d p → Stays d e p
along d x e p is same = stays_same d e p (ap (λ f. f p) is ∙ same)

without_renames_apart : (p : List (List ℕ)) (d : Places) (q : List (List ℕ)) → is_prefix p q ≡ false → without_renames_in p d q ≡ d q
without_renames_apart p d q out = ap (λ b. cond b (record (d q) { unsynced_rename = None }) (d q)) (contrapose _ _ (child_prefix p q) out)

removed_apart : (p : List (List ℕ)) (unsynced_bytes : Bool) (d : Places) (q : List (List ℕ)) → is_prefix p q ≡ false → removed p unsynced_bytes d q ≡ d q
removed_apart p unsynced_bytes d q out = put_apart p (with_unsynced_name None unsynced_bytes) (without_renames_in p d) q out ∙ without_renames_apart p d q out

half_removed_apart : (gone : Bool) (p : List (List ℕ)) (unsynced_bytes : Bool) (d : Places) (q : List (List ℕ)) → is_prefix p q ≡ false
    → cond gone (removed p unsynced_bytes d) (put p (with_unsynced_name (d p).node unsynced_bytes) d) q ≡ d q
half_removed_apart true p unsynced_bytes d q out = removed_apart p unsynced_bytes d q out
half_removed_apart false p unsynced_bytes d q out = put_apart p _ d q out

renamed_apart : (from to : List (List ℕ)) (moved : Bool) (d : Places) (q : List (List ℕ)) → (is_prefix from q || is_prefix to q) ≡ false → renamed from to moved d q ≡ d q
renamed_apart from to moved d q out =
    let both = or_false (is_prefix from q) (is_prefix to q) out in
    put_apart from _ (put to (reached_place moved (is_durable d from && is_durable d to) (d from) (d to)) d) q both.0
    ∙ put_apart to (reached_place moved (is_durable d from && is_durable d to) (d from) (d to)) d q both.1

hardened : (b : Bool) (d : Places) (p q : List (List ℕ)) → (b ≡ true → p ≡ q) → Stays d (λ r. cond b (record (d p) { unsynced_bytes = false }) (d r)) q
hardened true d p q same = let is = same refl in record {
  node = ap (λ r. (d r).node) is;
  synced = λ hit. ap (λ r. is_synced (d r)) is ∙ hit;
  hard = λ _. refl;
}
hardened false d p q same = stays_same d d q refl

synced_file : (d : Places) (p q : List (List ℕ)) → Stays d (put p (record (d p) { unsynced_bytes = false }) d) q
synced_file d p q =
    let at_q = hardened (eq_by_cmp path_cmp p q) d p q (same_path p q) in
    record { node = at_q.node; synced = at_q.synced; hard = at_q.hard }

syncing : (b : Bool) (d : Places) (q : List (List ℕ)) → Stays d (λ r. cond b (synced (d r)) (d r)) q
syncing true d q = record { node = refl; synced = λ _. refl; hard = λ is. is }
syncing false d q = stays_same d d q refl

synced_dir : (d : Places) (p q : List (List ℕ)) → Stays d (synced_in p d) q
synced_dir d p q =
    let at_q = syncing (is_child p q) d q in
    record { node = at_q.node; synced = at_q.synced; hard = at_q.hard }

moves_along : (d x e : Places) (p : List (List ℕ)) → e ≡ x → Stays d x p → Stays d e p
moves_along d x e p is stays = subst (λ y. Stays d y p) (sym is) stays

fails_stays : (call : Call) (d e : Places) (p : List (List ℕ)) → touches call p ≡ false → LeavesHalf call d e → Stays d e p
fails_stays look d e p out half = absurd half
fails_stays (make_dir q) d e p out half = along d _ e p half.2 (put_apart q _ d p out)
fails_stays (make_file q) d e p out half = along d _ e p half.2 (put_apart q _ d p out)
fails_stays (append q bytes) d e p out half = along d _ e p half.1 (put_apart q _ d p out)
fails_stays (sync_file q) d e p out half = absurd half
fails_stays (sync_dir q) d e p out half = absurd half
fails_stays (rename from to) d e p out half = along d _ e p half.1 (renamed_apart from to half.0 d p out)
fails_stays (remove q) d e p out half = along d _ e p half.2 (half_removed_apart half.0 q half.1 d p out)

done_stays : (call : Call) (d e : Places) (p : List (List ℕ)) → touches call p ≡ false → e ≡ after call d → Stays d e p
done_stays look d e p out done = moves_along d d e p done (stays_same d d p refl)
done_stays (make_dir q) d e p out done = along d _ e p done (put_apart q _ d p out)
done_stays (make_file q) d e p out done = along d _ e p done (put_apart q _ d p out)
done_stays (append q bytes) d e p out done = along d _ e p done (put_apart q _ d p out)
done_stays (sync_file q) d e p out done = moves_along d _ e p done (synced_file d q p)
done_stays (sync_dir q) d e p out done = moves_along d _ e p done (synced_dir d q p)
done_stays (rename from to) d e p out done = along d _ e p done (renamed_apart from to true d p out)
done_stays (remove q) d e p out done = along d _ e p done (removed_apart q false d p out)

pub within_stays : (call : Call) (d e : Places) (p : List (List ℕ)) → touches call p ≡ false → IsWithin call d e → Stays d e p
within_stays call d e p out (inl done) = done_stays call d e p out done
within_stays call d e p out (inr (inl same)) = stays_same d e p (ap (λ f. f p) same)
within_stays call d e p out (inr (inr half)) = fails_stays call d e p out half

either_below : (a b x y : Bool) → (a ≡ true → x ≡ true) → (b ≡ true → y ≡ true) → (a || b) ≡ true → (x || y) ≡ true
either_below true b x y left right hit = or_left x y (left refl)
either_below false b x y left right hit = or_right x y (right hit)

-- what a call touches, it touches at each path below
pub touches_below : (call : Call) (q p : List (List ℕ)) → is_prefix q p ≡ true → touches call q ≡ true → touches call p ≡ true
touches_below look q p prefix hit = hit
touches_below (make_dir r) q p prefix hit = prefix_trans r q p hit prefix
touches_below (make_file r) q p prefix hit = prefix_trans r q p hit prefix
touches_below (append r bytes) q p prefix hit = prefix_trans r q p hit prefix
touches_below (sync_file r) q p prefix hit = hit
touches_below (sync_dir r) q p prefix hit = hit
touches_below (rename from to) q p prefix hit =
    either_below (is_prefix from q) (is_prefix to q) (is_prefix from p) (is_prefix to p)
    (λ is. prefix_trans from q p is prefix) (λ is. prefix_trans to q p is prefix) hit
touches_below (remove r) q p prefix hit = prefix_trans r q p hit prefix

-- a path whose prefixes stay stays durable
pub durable_stays : (d e : Places) (p : List (List ℕ)) → ((q : List (List ℕ)) → is_prefix q p ≡ true → Stays d e q) → Stays d e p → is_durable d p ≡ true → is_durable e p ≡ true
durable_stays d e p stays here durable =
    let parts = and_parts (at_prefixes (λ q. is_synced (d q)) p) (not (d p).unsynced_bytes) durable in
    and_from _ _
    (prefixes_weaker (λ q. is_synced (d q)) (λ q. is_synced (e q)) p (λ q prefix. (stays q prefix).synced) parts.0)
    (ap not (here.hard (not_true (d p).unsynced_bytes parts.1)))

-- a call that ended is within itself
pub ends_within : (call : Call) (done : Bool) (d e : Told) → EndsTold call done d e → IsWithin call d.places e.places
ends_within look true d e ends = inl (ap (λ t. t.places) ends)
ends_within (make_dir q) true d e ends = inl ends.0
ends_within (make_file q) true d e ends = inl ends.0
ends_within (append q bytes) true d e ends = inl ends.0
ends_within (sync_file q) true d e ends = inl ends.0
ends_within (sync_dir q) true d e ends = inl ends.0
ends_within (rename from to) true d e ends = inl ends.0
ends_within (remove q) true d e ends = inl ends.0
ends_within look false d e ends = inr (inl (ap (λ t. t.places) ends))
ends_within (make_dir q) false d e ends = inr ends.0
ends_within (make_file q) false d e ends = inr ends.0
ends_within (append q bytes) false d e ends = inr ends.0
ends_within (sync_file q) false d e ends = inr (inl (ap (λ t. t.places) ends))
ends_within (sync_dir q) false d e ends = inr (inl (ap (λ t. t.places) ends))
ends_within (rename from to) false d e ends = inr ends.0
ends_within (remove q) false d e ends = inr ends.0
