-- The saved pieces of one snapshot. As in FLIP-76 a task saves bytes of channels into it and out of it;
-- that a channel without a piece stands for no bytes is this project's own choice.
use Rattle.std.specs.Prelude.{◌≡◌, ℕ, suc, Bool, true, ◌&&◌, ◌==◌, List, [], ◌∷◌, if◌then◌else◌}
use Rattle.flow_defs.specs.declared.job.Job.{Job}
use Rattle.flow_defs.specs.declared.image.Saved.{Saved}
use Rattle.flow_defs.specs.declared.task.ChannelId.{ChannelId}
use Rattle.flow_defs.specs.Jobs.{is_channel}

-- It is the channel of edge e from task a to task b.
abbrev pub is_of : ℕ → ℕ → ℕ → ChannelId → Bool
is_of e a b channel = channel.edge == e && channel.from == a && channel.to == b

-- The bytes of the first piece of a channel, or these where it has none.
abbrev pub piece_or : List ℕ → ℕ → ℕ → ℕ → List Saved → List ℕ
piece_or bytes e a b [] = bytes
piece_or bytes e a b (saved ∷ pieces) = if is_of e a b saved.channel then saved.bytes.items else piece_or bytes e a b pieces

-- The bytes that are saved of a channel among these pieces.
abbrev pub piece : ℕ → ℕ → ℕ → List Saved → List ℕ
piece e a b pieces = piece_or [] e a b pieces

-- The piece is of a channel into this task.
pub record IsInto (job : Job) (stage index : ℕ) (saved : Saved) : Type 0 where
  pub stage_is : stage ≡ suc saved.channel.edge
  pub index_is : index ≡ saved.channel.to
  pub channel : is_channel job saved.channel.edge saved.channel.from saved.channel.to ≡ true

-- The piece is of a channel out of this task.
pub record IsOutOf (job : Job) (stage index : ℕ) (saved : Saved) : Type 0 where
  pub stage_is : stage ≡ saved.channel.edge
  pub index_is : index ≡ saved.channel.from
  pub channel : is_channel job saved.channel.edge saved.channel.from saved.channel.to ≡ true
