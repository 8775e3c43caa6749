-- The kinds of frames. The kinds are those of Flink's network stack; their ids and lengths are this
-- project's own.
use Rattle.std.specs.Prelude.{ℕ, Bool, ◌==◌, nat_le, List, [], ◌∷◌, Option, find}
use Rattle.net_frames.specs.declared.kind.Kind.{Kind}
use Rattle.net_frames.specs.declared.kind.Kind.TheVariants.{Buffer, Error, Request, Closing, Credit, Resumption, Backlog, Size}

-- The id of each kind.
abbrev pub id_of : Kind → ℕ
id_of Buffer = 0
id_of Error = 1
id_of Request = 2
id_of Closing = 5
id_of Credit = 6
id_of Resumption = 7
id_of Backlog = 9
id_of Size = 10

-- All kinds.
abbrev pub kinds : List Kind
kinds = Buffer ∷ Error ∷ Request ∷ Closing ∷ Credit ∷ Resumption ∷ Backlog ∷ Size ∷ []

-- The kind with an id, where there is one.
abbrev pub kind_with : ℕ → Option Kind
kind_with id = find (λ kind. id == id_of kind) kinds

-- The length of a frame of each kind, without the content of a buffer response.
abbrev pub least_len : Kind → ℕ
least_len Buffer = 39
least_len Error = 26
least_len Request = 29
least_len Closing = 9
least_len Credit = 29
least_len Resumption = 25
least_len Backlog = 29
least_len Size = 29

-- Whether a frame of this kind may have this length. Only a buffer response has content.
abbrev pub may_have : Kind → ℕ → Bool
may_have Buffer len = nat_le (least_len Buffer) len
may_have kind len = len == least_len kind
