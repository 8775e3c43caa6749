-- What the bytes of the data link tell of both ends.
use Rattle.std.proofs.Common.{◌≡◌, ℕ, inl, inr, Bool, List, [], ◌++◌, take, length, Option, Some, refl, sym, ap, subst, ◌∙◌}
use Rattle.std.specs.Prelude.{slice_get}
use Rattle.std.proofs.Math.Seq.{take-length}
use Rattle.std.proofs.lemmas.Option.{same_Some}
use Rattle.turn_cell.specs.History.{StartsWith}
use Rattle.flow_defs.specs.declared.cause.Cause.{Cause}
use Rattle.flow_defs.specs.declared.cause.Cause.TheVariants as causes
use Rattle.net_frames.specs.declared.frame.Frame.{Frame}
use Rattle.net_frames.specs.Frames.{all_spelled}
use Rattle.input_channel.specs.Inboxes.{pushed}
use Rattle.conn_parts.specs.declared.share.ConnShare.{ConnShare}
use Rattle.conn_parts.specs.declared.share.SharePasses.{SharePasses}
use Rattle.conn_parts.specs.Shares.{mine_at}
use Rattle.conn_parts.specs.Messages.{Message, closing, is_from_sender, items_on}
use Rattle.conn_parts.specs.Writing.{Wrote}
use Rattle.conn_parts.specs.Theorems.{ReadIsWritten, FrontsCarryFronts}
use Rattle.conn_read_items.specs.Receiving.{EndedBy}
use Rattle.conn_run.specs.Theorems.{ItemsArrive}

-- What was sent is a front of the messages and the closing frame.
pub front_sent : (is_from : Frame → Bool) (sent : List ℕ) (fell rose : ℕ) (messages : List Message) (cause : Cause) → Wrote is_from (Some []) (Some sent) fell rose messages cause →
    (n : ℕ) × (sent ≡ take n (all_spelled messages ++ closing))
front_sent is_from sent fell rose messages cause w = elim w.bytes [
  | inl e ↦ (length (all_spelled messages ++ closing), same_Some _ _ e ∙ sym (take-length (all_spelled messages ++ closing)))
  | inr f ↦ (f.0.0, same_Some _ _ f.0.1)
]

closing_left : (share : ConnShare) (after : SharePasses) (was ended : Option Bool) (left : List ℕ) (fell rose : ℕ) (cause : Cause) → cause ≡ causes.Done →
    EndedBy share after was ended left fell rose cause → StartsWith left closing
closing_left share after was ended left fell rose cause is e = subst (λ c. EndedBy share after was ended left fell rose c) is e

pub items_arrive : ReadIsWritten → FrontsCarryFronts → ItemsArrive
items_arrive law fronts sending receiving sent_by read_by sent got was_ended ended a b c d send_cause read_cause s r same begins k channel at none_taken none_pushed =
    let f = front_sent is_from_sender sent a b s.messages send_cause s.wrote in
    let w = law is_from_sender s.messages r.messages sent got r.left f.0 refl s.wrote.frames s.wrote.direction r.read.frames r.read.direction f.1 begins (same_Some _ _ r.read.bytes) in
    let took = s.sent.took k channel at ∙ ap (λ l. l ++ items_on channel s.messages) none_taken in
    let gave = r.pushed.pushes k channel (ap (λ l. slice_get l k) same ∙ at) ∙ ap (λ l. l ++ items_on channel r.messages) none_pushed in
    record {
      begins = subst (λ l. StartsWith l (pushed (mine_at k read_by.inputs.items))) (sym took)
          (subst (λ l. StartsWith (items_on channel s.messages) l) (sym gave) (fronts channel s.messages r.messages w.0).items);
      all = λ done. gave ∙ ap (items_on channel) (w.1 (closing_left receiving read_by was_ended ended r.left c d read_cause done r.cause_is)) ∙ sym took;
    }
