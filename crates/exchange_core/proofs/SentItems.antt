-- A connection whose sender sent the first item of a channel, or announced a backlog.
use Rattle.std.proofs.Common.{◌≡◌, ℕ, ◌-◌, List, [], ◌∷◌, ◌++◌, length, map, set, Option, Some, None, sym, ap, subst, ◌∙◌}
use Rattle.std.specs.Prelude.{slice_get}
use Rattle.std.specs.Option.{option_map, option_map_or}
use Rattle.std.proofs.lemmas.List.{map-append}
use Rattle.std.proofs.lemmas.Option.{none-some, same_Some}
use Rattle.flow_defs.specs.declared.task.ChannelId.{ChannelId}
use Rattle.flow_defs.specs.declared.task.Head.{Head}
use Rattle.flow_defs.specs.declared.parcel.Parcel.{Parcel}
use Rattle.credit_reader.specs.declared.reader.Reader.{Reader}
use Rattle.credit_reader.specs.declared.reader.SentKind.{SentKind}
use Rattle.credit_reader.specs.Readers.{Sent as SentItem}
use Rattle.credit_reader.specs.Senders.{Sender, reader_of, has_sent, MayHappen}
use Rattle.script_text.specs.declared.reply.Reply.{Reply}
use Rattle.script_text.specs.declared.reply.Reply.TheVariants as replies
use Rattle.exchange_world.specs.Lanes as lanes
use Rattle.exchange_world.specs.Lanes.{channel_id, head_in, backlog_in, content_len}
use Rattle.exchange_world.specs.Worlds as worlds
use Rattle.exchange_world.specs.Worlds.{World, lane_of, with_lane}
use Rattle.exchange_world.specs.Steps.{number_of, sent_kind, sequence_of, sends_first, sends_of}
use Rattle.exchange_world.specs.Sound.{IsSound}
use Rattle.exchange_world.specs.Laws.{HasTurn}
use Rattle.exchange_core.specs.declared.connection.Connection.{Connection}
use Rattle.exchange_core.specs.declared.lane.Lane.{Lane}
use Rattle.exchange_core.specs.declared.sent.Sent.{Sent}
use Rattle.exchange_core.specs.declared.frames.DataFrame.TheVariants as data_frames
use Rattle.exchange_core.specs.Exchanges.{world_lane, world_frame, world_control, world_of, brought, IsWhole, IsLaneOf, HasActed}
use Rattle.exchange_core.specs.Lanes.{HasTaken}
use Rattle.exchange_core.proofs.Connections.{IsSameBase, world_lanes, whole_lane_put}

-- ---- a world by its parts

abbrev of_parts : ℕ → ℕ → List lanes.Lane → Sender → List worlds.DataFrame → List worlds.ControlFrame → World
of_parts size total ls sender frames controls = record { size = size; total = total; lanes = ls; sender = sender; frames = frames; controls = controls }

same_parts : (s t u v : ℕ) (ls ms : List lanes.Lane) (a b : Sender) (fs gs : List worlds.DataFrame) (cs ds : List worlds.ControlFrame)
    → s ≡ t → u ≡ v → ls ≡ ms → a ≡ b → fs ≡ gs → cs ≡ ds → of_parts s u ls a fs cs ≡ of_parts t v ms b gs ds
same_parts s t u v ls ms a b fs gs cs ds e1 e2 e3 e4 e5 e6 = cc

pub world_by_parts : (d : Connection) (w : World) → d.size ≡ w.size → d.total ≡ w.total → map world_lane d.lanes.items ≡ w.lanes → d.readers ≡ w.sender
    → map world_frame d.frames.items ≡ w.frames → map world_control d.controls.items ≡ w.controls → world_of d ≡ w
world_by_parts d w size total ls sender frames controls =
    same_parts d.size w.size d.total w.total (map world_lane d.lanes.items) w.lanes d.readers w.sender (map world_frame d.frames.items) w.frames (map world_control d.controls.items) w.controls
    size total ls sender frames controls

-- ---- whose turn it is

sends_turn : (w : World) (id : ChannelId) (queue : List ChannelId) → slice_get queue 0 ≡ Some id → sends_of w queue ≡ sends_first w (number_of id) (lane_of w (number_of id)).items
sends_turn w id [] turn = absurd (none-some _ turn)
sends_turn w id (d ∷ ids) turn = ap (λ i. sends_first w (number_of i) (lane_of w (number_of i)).items) (same_Some _ _ turn)

number_found : (o : Option Reader) (k : ℕ) → option_map (λ (r : Reader). r.sequence) o ≡ Some k → option_map_or (λ (r : Reader). r.sequence) o 0 ≡ k
number_found None k found = absurd (none-some _ found)
number_found (Some r) k found = same_Some _ _ found

heads : (p q : Parcel) (ps qs : List Parcel) → p ∷ ps ≡ q ∷ qs → (p ≡ q) × (ps ≡ qs)
heads p q ps qs e = ((cc), (cc))

same_reply : (n k s t a b l m : ℕ) (what kind : SentKind) → n ≡ k → s ≡ t → what ≡ kind → l ≡ m → a ≡ b → replies.Frame n s what l a ≡ replies.Frame k t kind m b
same_reply n k s t a b l m what kind e1 e2 e3 e4 e5 = cc

same_frame : (n k s t a b : ℕ) (p q : Parcel) → n ≡ k → s ≡ t → p ≡ q → a ≡ b → worlds.Response n s p a ≡ worlds.Response k t q b
same_frame n k s t a b p q e1 e2 e3 e4 = cc

same_sender : (i j : ChannelId) (what kind : SentKind) (h g : Head) (a b : ℕ) (s : Sender) → i ≡ j → what ≡ kind → h ≡ g → a ≡ b → has_sent i what h a s ≡ has_sent j kind g b s
same_sender i j what kind h g a b s e1 e2 e3 e4 = ap (λ x. has_sent x what h a s) e1 ∙ ap (λ x. has_sent j x h a s) e2 ∙ ap (λ x. has_sent j kind x a s) e3 ∙ ap (λ x. has_sent j kind g x s) e4

module _ (c : Connection) (id : ChannelId) (turn : HasTurn (length c.lanes.items) (world_of c) id) (lane after : Lane) (sent : Sent) (is : lane_of (world_of c) (number_of id) ≡ world_lane lane)
    (taken : HasTaken (world_lane lane) (world_lane after) sent) where
  -- the first item was taken, and the others are left
  pub first_is : (turn.first ≡ taken.first) × (turn.rest ≡ (world_lane after).items)
  first_is = heads turn.first taken.first turn.rest (world_lane after).items (sym turn.items ∙ ap (λ (l : lanes.Lane). l.items) is ∙ taken.items)

  pub kind_sent : sent.kind ≡ sent_kind turn.first
  kind_sent = taken.is_sent.kind_is ∙ ap sent_kind (sym first_is.0)

  after_is : world_lane after ≡ record (lane_of (world_of c) (number_of id)) { items = turn.rest }
  after_is = taken.rest ∙ ap (λ ps. record (world_lane lane) { items = ps }) (sym first_is.1) ∙ ap (λ (l : lanes.Lane). record l { items = turn.rest }) (sym is)

  module _ (head : Head) (backlog : ℕ) (head_of_it : head ≡ head_in (world_lane after).items) (backlog_of_it : backlog ≡ backlog_in (world_lane after).items) where
    head_left : head ≡ head_in turn.rest
    head_left = head_of_it ∙ ap head_in (sym first_is.1)

    backlog_left : backlog ≡ backlog_in turn.rest
    backlog_left = backlog_of_it ∙ ap backlog_in (sym first_is.1)

    pub may_send : MayHappen id (SentItem sent.kind head backlog) c.readers
    may_send = subst (λ k. MayHappen id (SentItem k head backlog) c.readers) (sym kind_sent)
        (subst (λ h. MayHappen id (SentItem (sent_kind turn.first) h backlog) c.readers) (sym head_left)
        (subst (λ n. MayHappen id (SentItem (sent_kind turn.first) (head_in turn.rest) n) c.readers) (sym backlog_left) turn.may))

    module _ (d : Connection) (k sequence : ℕ) (whole : IsWhole c) (base : IsSameBase c d) (queue : slice_get c.readers.queue 0 ≡ Some id) (k_is : k ≡ number_of id)
        (lanes_are : d.lanes.items ≡ set c.lanes.items (number_of id - 1) after) (here : IsLaneOf c.pool c.partition_limit after)
        (sender_is : d.readers ≡ has_sent id sent.kind head backlog c.readers) (number : option_map (λ (r : Reader). r.sequence) (reader_of id c.readers.readers) ≡ Some sequence)
        (frames_are : d.frames.items ≡ c.frames.items ++ data_frames.Response k sequence backlog sent.what sent.content ∷ []) (controls_are : d.controls.items ≡ c.controls.items)
        (sound : IsSound (length c.lanes.items) (sends_of (world_of c) c.readers.queue).0) where
      sequence_is : sequence_of (world_of c) (number_of id) ≡ sequence
      sequence_is = number_found (reader_of (channel_id (number_of id)) c.readers.readers) sequence (ap (λ i. option_map (λ (r : Reader). r.sequence) (reader_of i c.readers.readers)) turn.id_is ∙ number)

      done_is : sends_of (world_of c) c.readers.queue ≡ sends_first (world_of c) (number_of id) (turn.first ∷ turn.rest)
      done_is = sends_turn (world_of c) id c.readers.queue queue ∙ ap (sends_first (world_of c) (number_of id)) turn.items

      lanes_sent : map world_lane d.lanes.items ≡ set (world_of c).lanes (number_of id - 1) (record (lane_of (world_of c) (number_of id)) { items = turn.rest })
      lanes_sent = world_lanes c d (number_of id) after turn.low turn.high lanes_are ∙ ap (set (world_of c).lanes (number_of id - 1)) after_is

      frame_is : world_frame (data_frames.Response k sequence backlog sent.what sent.content) ≡ worlds.Response (number_of id) (sequence_of (world_of c) (number_of id)) turn.first (backlog_in turn.rest)
      frame_is = same_frame k (number_of id) sequence (sequence_of (world_of c) (number_of id)) backlog (backlog_in turn.rest) (brought sent.what sent.content.items) turn.first
          k_is (sym sequence_is) (taken.is_sent.brings ∙ sym first_is.0) backlog_left

      frames_sent : map world_frame d.frames.items ≡ (world_of c).frames ++ worlds.Response (number_of id) (sequence_of (world_of c) (number_of id)) turn.first (backlog_in turn.rest) ∷ []
      frames_sent = ap (map world_frame) frames_are ∙ map-append world_frame c.frames.items (data_frames.Response k sequence backlog sent.what sent.content ∷ [])
          ∙ ap (λ f. (world_of c).frames ++ f ∷ []) frame_is

      world_sent : world_of d ≡ (sends_first (world_of c) (number_of id) (turn.first ∷ turn.rest)).0
      world_sent = world_by_parts d (sends_first (world_of c) (number_of id) (turn.first ∷ turn.rest)).0 base.size base.total lanes_sent
          (sender_is ∙ same_sender id (channel_id (number_of id)) sent.kind (sent_kind turn.first) head (head_in turn.rest) backlog (backlog_in turn.rest) c.readers (sym turn.id_is) kind_sent head_left backlog_left)
          frames_sent (ap (map world_control) controls_are)

      world_done : world_of d ≡ (sends_of (world_of c) c.readers.queue).0
      world_done = world_sent ∙ sym (ap (λ (p : World × Reply). p.0) done_is)

      pub send_acted : HasActed c d (replies.Frame k sequence sent.kind sent.len backlog) (sends_of (world_of c) c.readers.queue)
      send_acted = record {
        whole = whole_lane_put c d (number_of id) after turn.low turn.high lanes_are whole base here (ap (λ (l : lanes.Lane). l.inbox) after_is) (subst (IsSound (length c.lanes.items)) (sym world_done) sound);
        world = world_done;
        replied = same_reply k (number_of id) sequence (sequence_of (world_of c) (number_of id)) backlog (backlog_in turn.rest) sent.len (content_len turn.first) sent.kind (sent_kind turn.first)
            k_is (sym sequence_is) kind_sent (taken.is_sent.len_is ∙ ap content_len (sym first_is.0)) backlog_left ∙ sym (ap (λ (p : World × Reply). p.1) done_is);
      }
