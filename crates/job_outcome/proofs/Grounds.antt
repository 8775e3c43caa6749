-- A cause with which a worker ended has its grounds, and each input comes back.
use Rattle.std.proofs.Common.{◌≡◌, ◌≢◌, ℕ, zero, suc, ◌<◌, ◌≤◌, List, [], ◌++◌, Option, Some, slice_get, refl, sym, ap, subst, ◌∙◌, arith, inl, inr}
use Rattle.std.specs.Prelude.{IfSome}
use Rattle.std.specs.List.{AllByRecursion}
use Rattle.std.proofs.lemmas.Bool.{cases_lt}
use Rattle.std.proofs.lemmas.Option.{same_Some, slice_get_within}
use Rattle.turn_cell.specs.Passes.{seen}
use Rattle.flow_defs.specs.Items.{Items}
use Rattle.flow_defs.specs.declared.cause.Cause.{Cause}
use Rattle.flow_defs.specs.declared.cause.Cause.TheVariants as causes
use Rattle.flow_defs.specs.declared.cause.PeerFault.TheVariants as peers
use Rattle.flow_defs.specs.Jobs.{last_edge, tasks}
use Rattle.flow_defs.specs.declared.image.Image.{Image}
use Rattle.plain_machine.specs.Spelling.{CanSpell}
use Rattle.outside.specs.Faults.{HasRisen}
use Rattle.outside.specs.declared.last_image.Stored.{Stored}
use Rattle.conn_send_items.specs.Sending.{IsSendCause as IsSendItemsCause}
use Rattle.net_frames.specs.Frames.{all_spelled}
use Rattle.conn_read_control.specs.Controlling.{EndedBy as ControlEndedBy, MetPeer as MetAtControl}
use Rattle.conn_read_items.specs.Receiving.{EndedBy as ItemsEndedBy, MetPeer as MetAtItems, arrival_with}
use Rattle.conn_send_control.specs.Announcing.{IsSendCause as IsAnnounceCause}
use Rattle.gate_account.specs.Accounts.{Account}
use Rattle.snapshot_channel.specs.Passes.{received_by}
use Rattle.task_output.specs.Acking.{base_of}
use Rattle.task_taking.specs.Endings.{IsTakerEnd}
use Rattle.source_task.specs.Sources.{IsSourceCause}
use Rattle.collecting_worker.specs.declared.world.CollectEnd.{CollectEnd}
use Rattle.collecting_worker.specs.Accounts.{IsCollectCause}
use Rattle.collecting_worker.specs.Images.{IsNext}
use Rattle.collecting_worker.specs.Laws.{StoredAreCollected}
use Rattle.job_cells.specs.declared.edge.Edge.{Edge}
use Rattle.job_chain.specs.Ran.{RanIsChain}
use Rattle.job_workers.specs.declared.connection.LoopLeft.TheVariants as did
use Rattle.job_workers.specs.declared.place.Place.TheVariants.{Ended}
use Rattle.job_workers.specs.declared.collecting.CollectTask.{CollectTask}
use Rattle.job_workers.specs.declared.place.Place.{Place}
use Rattle.job_ends.specs.Ended.{TaskPlace, LoopPlace, HasLinkFault, faults_in}
use Rattle.job_outcome.specs.Outcomes.{HasEnded, StandsAt, cause_of_task, cause_of_loop, cause_of_collector}
use Rattle.job_outcome.specs.Theorems.{HaveRun, Run, start_of, IsNewWire, AreInputsLeft, AreLeftIn, AreSettledWith, HasGrounds, HasLargeImage, InputsComeBack, CausesHaveGrounds}
use Rattle.job_outcome.specs.Words.{WorldWords}
use Rattle.job_outcome.proofs.Chaining.{account_of, same_end, too_large}
use Rattle.job_outcome.proofs.Places.{same_some, at_place, all_at, each_at}
use Rattle.job_outcome.proofs.OverCredits.{is_over_by_one}
use Rattle.job_outcome.proofs.PeerGrounds.{all_came, control_begins, has_ended, items_begin}
use Rattle.job_outcome.proofs.Running.{EndAt, is_left, row_many, BySource, source_at, stage_at, aggregate_at, LoopsEnd, loops_at}

-- A count that rose from nothing is above it.
risen_above : (fell rose : ℕ) → fell ≡ 0 → HasRisen fell rose → 0 < rose
risen_above fell rose none (inl more) = omega (arith, none, more)
risen_above fell rose none (inr full) = omega (arith, full)

-- ---- what ran

module _ {S O I L N : Type 0} {words : WorldWords S O I L N} {run : Run S O I} (ran : HaveRun words run) where
  open run use {job, every, snapshots, edges, inputs, wires, fell, rose, rows, loops, collected}
  open words use {left, faults, links}
  open words.links use {of_out, got, ended, of_in}

  pub inputs_back : AreInputsLeft faults inputs rows
  inputs_back a input at =
      let low = slice_get_within inputs a input at in
      let s = source_at ran a (omega (arith, low, ran.inputs_many)) in
      let same : s.task.input ≡ input = same_some (slice_get inputs a) s.task.input input s.was.input at in
      (s.end.left, (s.by.input, is_left rows 0 a s.end, s.by.is_there, subst (λ (x : S). faults x ≤ faults s.by.input) same s.by.account.never_falls))

  -- Where a place is one at which something was left, its cause is that.
  cause_at : (s i : ℕ) (place : TaskPlace S) (cause : Cause) → StandsAt rows s i place → cause_of_task place ≡ Some cause → (end : EndAt rows s i) → end.left.cause ≡ cause
  cause_at s i place cause stands is end =
      let same_row : end.row ≡ stands.row = same_some (slice_get rows s) end.row stands.row end.row_is stands.row_is in
      let here : slice_get stands.row.items i ≡ Some (Ended end.left) = subst (λ (r : Items (TaskPlace S)). slice_get r.items i ≡ Some (Ended end.left)) same_row end.left_is in
      let same : Ended end.left ≡ place = same_some (slice_get stands.row.items i) (Ended end.left) place here stands.place_is in
      same_Some end.left.cause cause (ap (λ (p : TaskPlace S). cause_of_task p) same ∙ is)

  low_at : (s i : ℕ) (place : TaskPlace S) → StandsAt rows s i place → i < tasks job s
  low_at s i place stands =
      let low = slice_get_within stands.row.items i place stands.place_is in
      let many = row_many ran s stands.row stands.row_is in
      omega (arith, low, many)

  module _ (after : List S) (come : AreLeftIn rows after) where
    -- A cause has its grounds, unless it is none.
    abbrev Ground : Cause → Type 0
    Ground cause = cause ≢ causes.Done → cause ≢ causes.Stopped → HasGrounds words run after cause

    -- ---- tasks

    -- The input of a source before and after.
    input_at : (a source : ℕ) (t : BySource ran a) → source ≡ t.task.index → (slice_get inputs source ≡ Some t.task.input) × (slice_get after source ≡ Some t.by.input)
    input_at a source t same =
        let here : a ≡ source = sym (same ∙ t.was.index) in (
          subst (λ (k : ℕ). slice_get inputs k ≡ Some t.task.input) here t.was.input,
          subst (λ (k : ℕ). slice_get after k ≡ Some t.by.input) here (come a t.end.left t.by.input (is_left rows 0 a t.end) t.by.is_there),
        )

    of_source : (a : ℕ) (t : BySource ran a) (cause : Cause) → IsSourceCause t.task.index (left t.task.input) (faults t.task.input) (faults t.by.input) cause → Ground cause
    of_source a t causes.Done h d s = absurd (d refl)
    of_source a t causes.Stopped h d s = absurd (s refl)
    of_source a t (causes.Input source) h d s =
        let at = input_at a source t h.0 in record { old = t.task.input; new = t.by.input; was = at.0; is = at.1; holds = h.1 }
    of_source a t (causes.LongLine source) h d s =
        let at = input_at a source t h.0 in record { old = t.task.input; new = t.by.input; was = at.0; is = at.1; holds = h.1 }
    of_source a t (causes.BigSource source) h d s =
        let at = input_at a source t h.0 in record { old = t.task.input; new = t.by.input; was = at.0; is = at.1; holds = h.1 }
    of_source a t causes.Memory h d s = tt
    of_source a t other h d s = absurd h

    module _ (base : Stored) (interval : Option ℕ) (history : List (ℕ × Stored)) (gate : Account) (groups : List (List (ℕ × List ℕ))) (rest : List (ℕ × List ℕ)) where
      of_taker : (cause : Cause) → IsTakerEnd base interval history gate groups rest cause → Ground cause
      of_taker causes.Done h d s = absurd (d refl)
      of_taker causes.Stopped h d s = absurd (s refl)
      of_taker (causes.Peer peers.Left) h d s = inl tt
      of_taker (causes.Peer peers.Barrier) h d s = inl tt
      of_taker causes.Memory h d s = tt
      of_taker other h d s = absurd h

    by_last : (i : ℕ) (place : TaskPlace S) (cause : Cause) → StandsAt rows (suc (last_edge job)) i place → cause_of_task place ≡ Some cause → Ground cause
    by_last i place cause stands is =
        let s = aggregate_at ran i (low_at (suc (last_edge job)) i place stands) in
        of_taker (base_of s.task.start.now) s.task.every (seen s.end.left.last_image) s.by.given s.by.account.groups s.by.account.rest cause
        (subst (IsTakerEnd (base_of s.task.start.now) s.task.every (seen s.end.left.last_image) s.by.given s.by.account.groups s.by.account.rest) (cause_at (suc (last_edge job)) i place cause stands is s.end) s.by.account.cause_is)

    by_task : (s i : ℕ) (place : TaskPlace S) (cause : Cause) → StandsAt rows s i place → cause_of_task place ≡ Some cause → Ground cause
    by_task zero i place cause stands is =
        let t = source_at ran i (low_at 0 i place stands) in
        of_source i t cause
        (subst (λ (c : Cause). IsSourceCause t.task.index (left t.task.input) (faults t.task.input) (faults t.by.input) c) (cause_at 0 i place cause stands is t.end) t.by.account.cause_is)
    by_task (suc e) i place cause stands is = elim (cases_lt e (last_edge job)) [
      | inl before ↦
          let s = stage_at ran e i before (low_at (suc e) i place stands) in
          of_taker (base_of s.task.start.now) s.task.every (seen s.end.left.last_image) s.by.given s.by.account.groups s.by.account.rest cause
          (subst (IsTakerEnd (base_of s.task.start.now) s.task.every (seen s.end.left.last_image) s.by.given s.by.account.groups s.by.account.rest) (cause_at (suc e) i place cause stands is s.end) s.by.account.cause_is)
      | inr behind ↦
          let low = slice_get_within rows (suc e) stands.row stands.row_is in
          let is_last : e ≡ last_edge job = omega (arith, low, behind, ran.rows_many, ran.deployed.rows_many) in
          by_last i place cause (subst (λ (k : ℕ). StandsAt rows (suc k) i place) is_last stands) is
    ]

    -- ---- the four loops of an edge

    module _ (e i : ℕ) (edge : Edge) (row : Items (LoopPlace O I)) (at_row : slice_get loops e ≡ Some row) (l : LoopsEnd ran e edge row) (new : IsNewWire links l.wire) where
      -- A loop of the row counted a fault.
      failed : (place : LoopPlace O I) → slice_get row.items i ≡ Some place → 0 < faults_in of_out of_in place → HasLinkFault of_out of_in loops
      failed place at_place more = (e, i, (row, (place, at_row, at_place, more)))

      of_send : slice_get row.items i ≡ Some (Ended (did.SentItems l.ends.send)) → (cause : Cause) → l.ends.send.cause ≡ cause → IsSendItemsCause cause → Ground cause
      of_send at causes.Done same h d s = absurd (d refl)
      of_send at causes.Stopped same h d s = absurd (s refl)
      of_send at causes.Link same h d s =
          failed (Ended (did.SentItems l.ends.send)) at
          (risen_above (of_out l.ends.was.send.half) (of_out l.ends.send.half) (ap of_out l.ends.was.sending.0 ∙ new.data_out.no_fault) (l.ends.by_send.account.wrote.link same))
      of_send at causes.Memory same h d s = tt
      of_send at other same h d s = absurd h

      of_announce : slice_get row.items i ≡ Some (Ended (did.SentControl l.ends.announce)) → (cause : Cause) → l.ends.announce.cause ≡ cause → IsAnnounceCause cause → Ground cause
      of_announce at causes.Done same h d s = absurd (d refl)
      of_announce at causes.Stopped same h d s = absurd (s refl)
      of_announce at causes.Link same h d s =
          failed (Ended (did.SentControl l.ends.announce)) at
          (risen_above (of_out l.ends.was.announce.half) (of_out l.ends.announce.half) (ap of_out l.ends.was.receiving.1 ∙ new.control_out.no_fault) (l.ends.by_announce.account.wrote.link same))
      of_announce at causes.Memory same h d s = tt
      of_announce at other same h d s = absurd h

      -- Why the loops that read ended.
      abbrev ControlCause : Cause → Type 0
      ControlCause =
          let was = l.ends.was.control in
          let end = l.ends.control in
          ControlEndedBy was.share end.passes (ended was.half) (ended end.half) l.ends.by_control.account.left (of_in was.half) (of_in end.half)

      abbrev ItemsCause : Cause → Type 0
      ItemsCause =
          let was = l.ends.was.items in
          let end = l.ends.items in
          ItemsEndedBy was.share end.passes (ended was.half) (ended end.half) l.ends.by_items.account.left (of_in was.half) (of_in end.half)

      of_control : slice_get row.items i ≡ Some (Ended (did.ReadControl l.ends.control)) → (cause : Cause) → ControlCause cause → Ground cause
      of_control at causes.Done h d s = absurd (d refl)
      of_control at causes.Stopped h d s = absurd (s refl)
      of_control at causes.Link h d s =
          failed (Ended (did.ReadControl l.ends.control)) at
          (risen_above (of_in l.ends.was.control.half) (of_in l.ends.control.half) (ap of_in l.ends.was.sending.1 ∙ new.control_in.no_fault) h)
      of_control at (causes.Peer fault) h d s =
          let was = l.ends.was.control in
          let end = l.ends.control in
          let account = l.ends.by_control.account in
          inr (inr (
            e,
            i,
            row,
            end,
            at_row,
            at,
            record {
              messages = account.messages;
              left = account.left;
              frames = account.read.frames;
              direction = account.read.direction;
              bytes = λ tell. all_came (got was.half) (got end.half) (tell.input was.half).0 (all_spelled account.messages ++ account.left) (tell.input was.half).1
                  (subst (λ (half : I). IfSome (got half) (λ b. b ≡ [])) (sym l.ends.was.sending.1) new.control_in.nothing) account.read.bytes;
              met = control_begins was.share end.passes (ended was.half) (ended end.half) account.left fault h;
              cut = λ all is. has_ended (ended was.half) (ended end.half) (all was.half).0 (all was.half).1
                  (subst (MetAtControl was.share end.passes (ended was.half) (ended end.half) account.left) is h).0;
            },
          ))
      of_control at causes.Memory h d s = tt
      of_control at other h d s = absurd h

      of_items : slice_get row.items i ≡ Some (Ended (did.ReadItems l.ends.items)) → (cause : Cause) → ItemsCause cause → Ground cause
      of_items at causes.Done h d s = absurd (d refl)
      of_items at causes.Stopped h d s = absurd (s refl)
      of_items at causes.Link h d s =
          failed (Ended (did.ReadItems l.ends.items)) at
          (risen_above (of_in l.ends.was.items.half) (of_in l.ends.items.half) (ap of_in l.ends.was.receiving.0 ∙ new.data_in.no_fault) h)
      of_items at (causes.OverCredit channel received announced) h d s =
          let w = h.refused in is_over_by_one w.state h.history (arrival_with w.sequence w.backlog w.what) w.content received announced w.stands w.refused
      of_items at (causes.Peer fault) h d s =
          let was = l.ends.was.items in
          let end = l.ends.items in
          let account = l.ends.by_items.account in
          inr (inl (
            e,
            i,
            row,
            end,
            at_row,
            at,
            record {
              messages = account.messages;
              left = account.left;
              frames = account.read.frames;
              direction = account.read.direction;
              bytes = λ tell. all_came (got was.half) (got end.half) (tell.input was.half).0 (all_spelled account.messages ++ account.left) (tell.input was.half).1
                  (subst (λ (half : I). IfSome (got half) (λ b. b ≡ [])) (sym l.ends.was.receiving.0) new.data_in.nothing) account.read.bytes;
              met = items_begin was.share end.passes (ended was.half) (ended end.half) account.left l.ends.was.channels.1 fault h;
              cut = λ all is. has_ended (ended was.half) (ended end.half) (all was.half).0 (all was.half).1
                  (subst (MetAtItems was.share end.passes (ended was.half) (ended end.half) account.left) is h).0;
            },
          ))
      of_items at causes.Memory h d s = tt
      of_items at other h d s = absurd h

      -- What stands at the place has its grounds.
      abbrev Grounded : LoopPlace O I → Type 0
      Grounded place = slice_get row.items i ≡ Some place → (cause : Cause) → cause_of_loop place ≡ Some cause → Ground cause

      of_place : (place : LoopPlace O I) → slice_get row.items i ≡ Some place → (cause : Cause) → cause_of_loop place ≡ Some cause → Ground cause
      of_place place at =
          let send : Grounded (Ended (did.SentItems l.ends.send)) = λ here cause is.
          let same = same_Some l.ends.send.cause cause is in of_send here cause same (subst IsSendItemsCause same l.ends.by_send.account.cause_is) in
          let control : Grounded (Ended (did.ReadControl l.ends.control)) = λ here cause is.
          of_control here cause (subst ControlCause (same_Some l.ends.control.cause cause is) l.ends.by_control.account.cause_is) in
          let items : Grounded (Ended (did.ReadItems l.ends.items)) = λ here cause is.
          of_items here cause (subst ItemsCause (same_Some l.ends.items.cause cause is) l.ends.by_items.account.cause_is) in
          let announce : Grounded (Ended (did.SentControl l.ends.announce)) = λ here cause is.
          let same = same_Some l.ends.announce.cause cause is in of_announce here cause same (subst IsAnnounceCause same l.ends.by_announce.account.cause_is) in
          let all = subst (λ (xs : List (LoopPlace O I)). AllByRecursion Grounded xs) (sym l.ends.row_is) (send, (control, (items, (announce, tt)))) in
          each_at Grounded row.items i place all at at

    by_loop : (e i : ℕ) (place : LoopPlace O I) (cause : Cause) → StandsAt loops e i place → cause_of_loop place ≡ Some cause → Ground cause
    by_loop e i place cause stands is =
        let low = slice_get_within loops e stands.row stands.row_is in
        let edge = at_place edges e (omega (arith, low, ran.loops_many, ran.deployed.loops_many, ran.edges_are.many)) in
        let l = loops_at ran e edge.0 stands.row edge.1 stands.row_is in
        let new = all_at (IsNewWire links) wires e l.wire ran.new_wires l.wire_is in
        let at_place_of = of_place e i edge.0 stands.row stands.row_is l new place in
        at_place_of stands.place_is cause is

    -- ---- the worker that collects

    module _ (collects : StoredAreCollected) (chains : RanIsChain) where
      -- The image that it could not spell.
      of_chain : (image : Image) → IsNext job (start_of snapshots) every (received_by ran.end.collecting) (account_of ran ran.end ran.end_is).images image → (CanSpell image → ⊥) → HasLargeImage words run
      of_chain image next large end bytes is told_are settled =
          let same = same_end collected end ran.end is ran.end_is in
          let large_one = too_large ran ran.end ran.end_is bytes told_are (subst (λ (x : CollectEnd). AreSettledWith job rows x) same settled) in
          large_one collects image next chains large

      abbrev CollectCause : Cause → Type 0
      CollectCause = IsCollectCause job (start_of snapshots) every (received_by ran.end.collecting) (account_of ran ran.end ran.end_is).images fell rose (seen ran.end.stop_pass)

      of_collector : (cause : Cause) → CollectCause cause → Ground cause
      of_collector causes.Done h d s = absurd (d refl)
      of_collector causes.Stopped h d s = absurd (s refl)
      of_collector causes.Keeper h d s = h.0
      of_collector causes.BigImage h d s = of_chain h.0 h.1 h.2
      of_collector (causes.Peer peers.Left) h d s = inl tt
      of_collector (causes.Peer peers.Barrier) h d s = inl tt
      of_collector (causes.Peer other) h d s = absurd h.2
      of_collector causes.Memory h d s = tt
      of_collector other h d s = absurd h

      by_collector : (cause : Cause) → cause_of_collector collected ≡ Some cause → Ground cause
      by_collector cause is =
          let same : ran.end.cause ≡ cause = same_Some ran.end.cause cause (ap (λ (place : Place CollectTask CollectEnd). cause_of_collector place) (sym ran.end_is) ∙ is) in
          of_collector cause (subst CollectCause same (account_of ran ran.end ran.end_is).cause_is)

      by_any : (cause : Cause) → HasEnded rows loops collected cause → Ground cause
      by_any cause (inl t) = by_task t.0 t.1 t.2.0 cause t.2.1 t.2.2
      by_any cause (inr (inl l)) = by_loop l.0 l.1 l.2.0 cause l.2.1 l.2.2
      by_any cause (inr (inr c)) = by_collector cause c

-- ---- the laws

module _ {S O I L N : Type 0} (words : WorldWords S O I L N) where
  pub inputs_come_back : InputsComeBack words
  inputs_come_back run ran = inputs_back ran

  pub causes_have_grounds : StoredAreCollected → RanIsChain → CausesHaveGrounds words
  causes_have_grounds collects chains run after cause ran come many = by_any ran after come collects chains cause
