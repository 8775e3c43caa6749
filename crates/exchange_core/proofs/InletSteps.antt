-- What the steps of the receiving end make of a world, where one channel of it is known.
use Rattle.std.proofs.Common.{◌≡◌, ℕ, ◌+◌, ◌-◌, ◌≤◌, ◌<◌, Bool, true, false, not, cond, eqb, ltb, List, [], ◌∷◌, ◌++◌, Option, Some, None, length, set, sym, ap, ◌∙◌, arith}
use Rattle.std.proofs.lemmas.Bool.{cond-true, cond-false, eq-eqb, ne_eqb, not_from_true, not_from_false, lt-ltb, le-ltb, false_from_ne_true, eqb-true}
use Rattle.std.proofs.lemmas.List.{get_or-set_same, length-set, set-get_or, set-set}
use Rattle.std.proofs.lemmas.List.Sums.{sum_by-set}
use Rattle.flow_defs.specs.Items.{Items}
use Rattle.flow_defs.specs.declared.parcel.Parcel.{Parcel}
use Rattle.flow_defs.specs.declared.parcel.Parcel.TheVariants as parcels
use Rattle.input_channel.specs.declared.entry.ReceiveEntry.{ReceiveEntry}
use Rattle.input_channel.specs.declared.entry.ReceiveEntry.TheVariants as entries
use Rattle.input_channel.specs.declared.entry.Gave.TheVariants as gaves
use Rattle.input_channel.specs.Counts.{told}
use Rattle.input_channel.specs.States.{OpenSave, channel_next, saved_bytes}
use Rattle.local_pool.specs.Shares.{share_of}
use Rattle.script_text.specs.Scripts.{IsChannel}
use Rattle.script_text.specs.declared.event.Event.TheVariants as events
use Rattle.exchange_world.specs.Sound.{IsSound}
use Rattle.exchange_world.specs.Laws.{StepsKeepSound}
use Rattle.script_text.specs.declared.reply.Reply.{Reply}
use Rattle.script_text.specs.declared.reply.Reply.TheVariants as replies
use Rattle.exchange_world.specs.Lanes.{Lane, new_lane, floating_here, records_in, behind_records}
use Rattle.exchange_world.specs.Worlds.{World, AddCredit, Resumption, lane_of, with_lane, gate_want, pool_wants, gate_limit, gate_lent}
use Rattle.exchange_world.specs.Steps.{asks, credits, resumes, receives, polls, polls_item, reads, listed, is_no_save, saving, saves, tells_open, tells_saved}
use Rattle.exchange_core.specs.Inlets.{with_floats, lent_then, polled_back, polled_inbox, polled_rest, polled_reply}

-- ---- the channels of a world

same_lanes : (w : World) (xs ys : List Lane) → xs ≡ ys → record w { lanes = xs } ≡ record w { lanes = ys }
same_lanes w xs ys same = ap (λ (zs : List Lane). let v : World = record w { lanes = zs } in v) same

set_twice : {X : Type 0} (xs : List X) (i : ℕ) (x y : X) → set (set xs i x) i y ≡ set xs i y
set_twice xs i x y = set-set xs i x y

module _ (w : World) (c : ℕ) (low : 1 ≤ c) (high : c ≤ length w.lanes) where
  put_twice : (x y : Lane) → with_lane (with_lane w c x) c y ≡ with_lane w c y
  put_twice x y = same_lanes w _ _ (set_twice w.lanes (c - 1) x y)

  put_here : (x : Lane) → lane_of (with_lane w c x) c ≡ x
  put_here x = get_or-set_same w.lanes (c - 1) x (new_lane w.size) (omega (arith, low, high))

  put_same : (l : Lane) → lane_of w c ≡ l → w ≡ with_lane w c l
  put_same l is = sym (ap (λ x. with_lane w c x) (sym is) ∙ same_lanes w _ _ (set-get_or w.lanes (c - 1) (new_lane w.size)))

  limit_same : (x : Lane) → gate_limit (with_lane w c x) ≡ gate_limit w
  limit_same x = ap (λ n. share_of (pool_wants n) w.total (gate_want n)) (length-set w.lanes (c - 1) x)

  lent_follows : (x : Lane) → gate_lent (with_lane w c x) + floating_here (lane_of w c).inbox ≡ gate_lent w + floating_here x.inbox
  lent_follows x =
      let count : length (with_lane w c x).lanes ≡ length w.lanes = length-set w.lanes (c - 1) x in
      let sums = sum_by-set (λ (l : Lane). floating_here l.inbox) w.lanes (c - 1) x (new_lane w.size) (omega (arith, low, high)) in
      omega (arith, count, sums)

  asks_is : (x : Lane) → asks (with_lane w c x) c ≡ with_lane w c (record x { inbox = with_floats (gate_limit w) (gate_lent (with_lane w c x)) x.inbox })
  asks_is x =
      let v = with_lane w c x in
      ap (λ (l : Lane). with_lane v c (record l { inbox = with_floats (gate_limit v) (gate_lent v) l.inbox })) (put_here x)
      ∙ put_twice x (record x { inbox = with_floats (gate_limit v) (gate_lent v) x.inbox })
      ∙ ap (λ n. with_lane w c (record x { inbox = with_floats n (gate_lent v) x.inbox })) (limit_same x)

  receives_is : (l : Lane) (e : ReceiveEntry) → lane_of w c ≡ l → receives w c e ≡ with_lane w c (record l { inbox = channel_next l.inbox e })
  receives_is l e is = ap (λ (x : Lane). with_lane w c (record x { inbox = channel_next x.inbox e })) is

-- ---- credit and resumptions

not_zero : (n : ℕ) → (n ≡ 0 → ⊥) → eqb n 0 ≡ false
not_zero n some = false_from_ne_true (eqb n 0) (λ test. some (eqb-true n 0 test))

abbrev credited : World → ℕ → Lane → ℕ → World × Reply
credited w c l n = (record (with_lane w c (record l { inbox = channel_next l.inbox (entries.Credit n) })) { controls = w.controls ++ AddCredit c n ∷ [] }, replies.Credit c n)

abbrev credits_by : World → ℕ → Lane → ℕ → World × Reply
credits_by w c l n = cond (eqb n 0) (w, replies.Absent) (credited w c l n)

pub credits_some : (w : World) (c n : ℕ) (l : Lane) → lane_of w c ≡ l → n ≡ told l.inbox.counts → (n ≡ 0 → ⊥) → credits w c ≡ credited w c l n
credits_some w c n l is n_is some = ap (λ (x : Lane). credits_by w c x (told x.inbox.counts)) is ∙ ap (credits_by w c l) (sym n_is) ∙ cond-false (eqb n 0) _ _ (not_zero n some)

pub credits_none : (w : World) (c n : ℕ) (l : Lane) → lane_of w c ≡ l → n ≡ told l.inbox.counts → n ≡ 0 → credits w c ≡ (w, replies.Absent)
credits_none w c n l is n_is none = ap (λ (x : Lane). credits_by w c x (told x.inbox.counts)) is ∙ ap (credits_by w c l) (sym n_is) ∙ cond-true (eqb n 0) _ _ (eq-eqb n 0 none)

abbrev resumed : World → ℕ → Lane → World × Reply
resumed w c l = (record (with_lane w c (record l { inbox = channel_next (channel_next l.inbox entries.Ask) entries.Resume })) { controls = w.controls ++ Resumption c ∷ [] }, replies.Done)

abbrev resumes_by : World → ℕ → ℕ → World × Reply
resumes_by w c n = cond (eqb n 0) (w, replies.Refused) (record (receives (receives w c entries.Ask) c entries.Resume) { controls = w.controls ++ Resumption c ∷ [] }, replies.Done)

pub resumes_some : (w : World) (c : ℕ) (l : Lane) → 1 ≤ c → c ≤ length w.lanes → lane_of w c ≡ l → (l.inbox.owed ≡ 0 → ⊥) → resumes w c ≡ resumed w c l
resumes_some w c l low high is some =
    let v = with_lane w c (record l { inbox = channel_next l.inbox entries.Ask }) in
    ap (λ (x : Lane). resumes_by w c x.inbox.owed) is
    ∙ cond-false (eqb l.inbox.owed 0) _ _ (not_zero l.inbox.owed some)
    ∙ ap (λ (u : World). let d : World × Reply = (record u { controls = w.controls ++ Resumption c ∷ [] }, replies.Done) in d)
    (ap (λ (u : World). receives u c entries.Resume) (receives_is w c low high l entries.Ask is)
    ∙ ap (λ (x : Lane). with_lane v c (record x { inbox = channel_next x.inbox entries.Resume })) (put_here w c low high (record l { inbox = channel_next l.inbox entries.Ask }))
    ∙ put_twice w c low high _ (record l { inbox = channel_next (channel_next l.inbox entries.Ask) entries.Resume }))

pub resumes_none : (w : World) (c : ℕ) (l : Lane) → lane_of w c ≡ l → l.inbox.owed ≡ 0 → resumes w c ≡ (w, replies.Refused)
resumes_none w c l is none = ap (λ (x : Lane). resumes_by w c x.inbox.owed) is ∙ cond-true (eqb l.inbox.owed 0) _ _ (eq-eqb l.inbox.owed 0 none)

-- ---- polls

module _ (w : World) (c : ℕ) (l : Lane) (low : 1 ≤ c) (high : c ≤ length w.lanes) (is : lane_of w c ≡ l) where
  abbrev polled_lane : Bool → Option Parcel → Lane
  polled_lane hold p = record l { inbox = polled_inbox (gate_limit w) (gate_lent w) hold l.inbox p; rest = polled_rest l.rest p }

  reads_is : (hold : Bool) (bytes : List ℕ) → reads w c hold bytes ≡ (with_lane w c (polled_lane hold (Some (parcels.Data bytes))), replies.Data c (length bytes) (listed (records_in (l.rest ++ bytes))))
  reads_is hold bytes =
      let back = polled_back hold bytes l.inbox in
      let x : Lane = record l { inbox = back; rest = behind_records (l.rest ++ bytes) } in
      let follows = lent_follows w c low high x in
      let own : floating_here (lane_of w c).inbox ≡ floating_here l.inbox = ap (λ (y : Lane). floating_here y.inbox) is in
      let lent : gate_lent (with_lane w c x) ≡ lent_then (gate_lent w) l.inbox back = omega (arith, follows, own) in
      ap (λ (y : Lane). let d : World × Reply = (asks (with_lane w c (record y { inbox = polled_back hold bytes y.inbox; rest = behind_records (y.rest ++ bytes) })) c, replies.Data c (length bytes) (listed (records_in (y.rest ++ bytes)))) in d) is
      ∙ ap (λ (v : World). let d : World × Reply = (v, replies.Data c (length bytes) (listed (records_in (l.rest ++ bytes)))) in d)
      (asks_is w c low high x ∙ ap (λ n. with_lane w c (record x { inbox = with_floats (gate_limit w) n back })) lent)

  pub polls_is : (hold : Bool) (p : Option Parcel) → polls_item w c hold p ≡ (with_lane w c (polled_lane hold p), polled_reply c l.inbox l.rest p)
  polls_is hold None =
      ap (λ (y : Lane). let d : World × Reply = (w, polled_reply c y.inbox y.rest None) in d) is
      ∙ ap (λ (v : World). let d : World × Reply = (v, polled_reply c l.inbox l.rest None) in d) (put_same w c low high l is)
  polls_is hold (Some (parcels.Data bytes)) = reads_is hold bytes
  polls_is hold (Some (parcels.Barrier k kind)) = ap (λ (v : World). let d : World × Reply = (v, replies.Barrier c k kind) in d) (receives_is w c low high l (entries.Poll hold gaves.NoBuffer) is)
  polls_is hold (Some parcels.End) = ap (λ (v : World). let d : World × Reply = (v, replies.End c) in d) (receives_is w c low high l (entries.Poll hold gaves.NoBuffer) is)

-- ---- arrivals

-- a channel takes an entry that leaves its floating buffers as they are, and asks for more
pub asks_received : (w : World) (c : ℕ) (l : Lane) (e : ReceiveEntry) → 1 ≤ c → c ≤ length w.lanes → lane_of w c ≡ l → floating_here (channel_next l.inbox e) ≡ floating_here l.inbox
    → asks (receives w c e) c ≡ with_lane w c (record l { inbox = with_floats (gate_limit w) (gate_lent w) (channel_next l.inbox e) })
asks_received w c l e low high is stays =
    let x : Lane = record l { inbox = channel_next l.inbox e } in
    let follows = lent_follows w c low high x in
    let own : floating_here (lane_of w c).inbox ≡ floating_here l.inbox = ap (λ (y : Lane). floating_here y.inbox) is in
    let lent : gate_lent (with_lane w c x) ≡ gate_lent w = omega (arith, follows, own, stays) in
    ap (λ (v : World). asks v c) (receives_is w c low high l e is) ∙ asks_is w c low high x ∙ ap (λ n. with_lane w c (record x { inbox = with_floats (gate_limit w) n (channel_next l.inbox e) })) lent

pub polls_sound : (m : ℕ) (w : World) (c : ℕ) (hold : Bool) → StepsKeepSound → IsSound m w → IsChannel m c → IsSound m (polls w c hold).0
polls_sound m w c true keeps sound channel = keeps m w (events.Hold c) sound channel
polls_sound m w c false keeps sound channel = keeps m w (events.Poll c) sound channel

-- ---- saves

pub saves_none : (w : World) (c k : ℕ) (l : Lane) → lane_of w c ≡ l → is_no_save l k ≡ true → saves w c k ≡ (w, replies.Refused)
saves_none w c k l is never = cond-true (is_no_save (lane_of w c) k) _ _ (ap (λ (x : Lane). is_no_save x k) is ∙ never)

pub saves_some : (w : World) (c k : ℕ) (l : Lane) → lane_of w c ≡ l → is_no_save l k ≡ false → saves w c k ≡ (with_lane w c (saving k l), replies.Done)
saves_some w c k l is may =
    cond-false (is_no_save (lane_of w c) k) _ _ (ap (λ (x : Lane). is_no_save x k) is ∙ may)
    ∙ ap (λ (x : Lane). let d : World × Reply = (with_lane w c (saving k x), replies.Done) in d) is

-- what was saved is asked for
module _ (w : World) (c k : ℕ) (l : Lane) (is : lane_of w c ≡ l) where
  -- no save is open
  pub tells_none : l.inbox.save ≡ None → tells_saved w c k ≡ (w, replies.Refused)
  tells_none none = ap (λ (x : Lane). tells_open w c k x.inbox.save) is ∙ ap (tells_open w c k) none

  module _ (save : OpenSave) (open_is : l.inbox.save ≡ Some save) where
    abbrev bytes_of : Lane → Items ℕ
    bytes_of x = record { items = saved_bytes x.inbox save; room = 0 }

    abbrev done : World × Reply
    done = (receives w c (entries.Saved k), replies.SavedIn c k (bytes_of (lane_of w c)))

    abbrev later : World × Reply
    later = cond (ltb (lane_of w c).inbox.last k) (w, replies.NotYet c k) done

    opened : tells_saved w c k ≡ tells_open w c k (Some save)
    opened = ap (λ (x : Lane). tells_open w c k x.inbox.save) is ∙ ap (tells_open w c k) open_is

    this : save.number ≡ k → tells_saved w c k ≡ later
    this number = opened ∙ cond-false (not (eqb save.number k)) (w, replies.Refused) later (not_from_true (eqb save.number k) (eq-eqb save.number k number))

    -- another one is
    pub tells_other : (save.number ≡ k → ⊥) → tells_saved w c k ≡ (w, replies.Refused)
    tells_other other = opened ∙ cond-true (not (eqb save.number k)) (w, replies.Refused) later (not_from_false (eqb save.number k) (ne_eqb save.number k other))

    -- its barrier has not come
    pub tells_early : save.number ≡ k → l.inbox.last < k → tells_saved w c k ≡ (w, replies.NotYet c k)
    tells_early number early = this number ∙ cond-true (ltb (lane_of w c).inbox.last k) (w, replies.NotYet c k) done (ap (λ (x : Lane). ltb x.inbox.last k) is ∙ lt-ltb l.inbox.last k early)

    -- it has
    pub tells_done : save.number ≡ k → k ≤ l.inbox.last → tells_saved w c k ≡ (with_lane w c (record l { inbox = channel_next l.inbox (entries.Saved k) }), replies.SavedIn c k (bytes_of l))
    tells_done number came =
        this number ∙ cond-false (ltb (lane_of w c).inbox.last k) (w, replies.NotYet c k) done (ap (λ (x : Lane). ltb x.inbox.last k) is ∙ le-ltb l.inbox.last k came)
        ∙ ap (λ (x : Lane). let d : World × Reply = (with_lane w c (record x { inbox = channel_next x.inbox (entries.Saved k) }), replies.SavedIn c k (bytes_of x)) in d) is
