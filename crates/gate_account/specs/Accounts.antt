-- What a gate tells of its channels, and what its calls add. As in Flink's input gates a task takes from many channels by one gate, and a
-- channel that gave an aligned barrier gives nothing more until it is resumed. That gates are told in lists, and that what shows how a
-- barrier cut a channel is told beside them, is this project's own choice.
use Rattle.std.specs.Prelude.{◌≡◌, ◌≢◌, ℕ, suc, ◌<◌, ◌≤◌, Bool, true, false, List, [], ◌∷◌, ◌++◌, length, None}
use Rattle.flow_defs.specs.declared.task.BarrierKind.{BarrierKind}
use Rattle.flow_defs.specs.declared.task.BarrierKind.TheVariants.{Inline, Front}
use Rattle.flow_defs.specs.Records.{first_record}
use Rattle.channel_cut.specs.Cuts.{Cut, InLine}

-- Of each channel: the lines given, in order; the barriers given, with their kinds; how many of the inline ones were resumed; whether its
-- end was polled; and the bytes of its flight, and of what was polled, that are left to give.
pub record Account : Type 0 where
  pub channels : ℕ
  pub lines : ℕ → List (List ℕ)
  pub barriers : ℕ → List (ℕ × BarrierKind)
  pub resumed : ℕ → ℕ
  pub ended : ℕ → Bool
  pub left : ℕ → List ℕ

-- A gate that has given nothing, with this in flight on each channel.
pub record IsNew (flight : ℕ → List ℕ) (gate : Account) : Type 0 where
  pub lines : (c : ℕ) → gate.lines c ≡ []
  pub barriers : (c : ℕ) → gate.barriers c ≡ []
  pub resumed : (c : ℕ) → gate.resumed c ≡ 0
  pub ended : (c : ℕ) → gate.ended c ≡ false
  pub left : (c : ℕ) → gate.left c ≡ flight c

-- How many of these barriers are inline.
abbrev pub inlines : List (ℕ × BarrierKind) → ℕ
inlines [] = 0
inlines ((k, Inline) ∷ barriers) = suc (inlines barriers)
inlines ((k, Front) ∷ barriers) = inlines barriers

-- No inline barrier of the channel waits for its resumption,
abbrev pub IsFree : Account → ℕ → Type 0
IsFree gate c = inlines (gate.barriers c) ≡ gate.resumed c

-- or the last one does.
abbrev pub IsBlocked : Account → ℕ → Type 0
IsBlocked gate c = inlines (gate.barriers c) ≡ suc (gate.resumed c)

-- The end of each channel was polled, and nothing is left to give.
abbrev pub AllOver : Account → Type 0
AllOver gate = (c : ℕ) → c < gate.channels → (gate.ended c ≡ true) × (gate.left c ≡ [])

-- A gate shows by which cuts its channels were cut. What was shown is shown still.
abbrev pub Keeps : (ℕ → Cut → Type 0) → (ℕ → Cut → Type 0) → Type 0
Keeps shows now = (c : ℕ) (cut : Cut) → shows c cut → now c cut

module _ (before after : Account) where
  -- It gave nothing.
  pub record GaveNothing : Type 0 where
    pub lines : (d : ℕ) → after.lines d ≡ before.lines d
    pub barriers : (d : ℕ) → after.barriers d ≡ before.barriers d
    pub resumed : (d : ℕ) → after.resumed d ≡ before.resumed d

  -- It gave this of a channel that was free.
  pub record GaveOf (c : ℕ) (lines : List (List ℕ)) (barriers : List (ℕ × BarrierKind)) : Type 0 where
    pub within : c < before.channels
    pub was_free : IsFree before c
    pub lines_here : after.lines c ≡ before.lines c ++ lines
    pub lines_elsewhere : (d : ℕ) → d ≢ c → after.lines d ≡ before.lines d
    pub barriers_here : after.barriers c ≡ before.barriers c ++ barriers
    pub barriers_elsewhere : (d : ℕ) → d ≢ c → after.barriers d ≡ before.barriers d
    pub resumed : (d : ℕ) → after.resumed d ≡ before.resumed d

  -- The barrier has the next number of its channel. Where barriers are held back, another channel has given it before.
  pub record IsNext (hold : Bool) (c k : ℕ) : Type 0 where
    pub number : k ≡ suc (length (before.barriers c))
    pub held : hold ≡ true → (d : ℕ) × (d < before.channels) × (k ≤ length (before.barriers d))

  -- An inline barrier is given where no whole record is left before it, and so cuts its channel behind the lines given.
  abbrev pub CutsInLine : (ℕ → Cut → Type 0) → ℕ → ℕ → Type 0
  CutsInLine shows c k = (first_record (after.left c) ≡ None) × shows c (InLine k (before.lines c))

  -- What a barrier adds, by its kind. A front one is given at any time.
  abbrev pub GaveBarrier : (ℕ → Cut → Type 0) → Bool → ℕ → ℕ → BarrierKind → Type 0
  GaveBarrier shows hold c k Inline = IsNext hold c k × GaveOf c [] ((k, Inline) ∷ []) × CutsInLine shows c k
  GaveBarrier shows hold c k Front = IsNext hold c k × GaveOf c [] ((k, Front) ∷ [])

  -- A channel was resumed,
  pub record Resumed (c : ℕ) : Type 0 where
    pub lines : (d : ℕ) → after.lines d ≡ before.lines d
    pub barriers : (d : ℕ) → after.barriers d ≡ before.barriers d
    pub here : after.resumed c ≡ suc (before.resumed c)
    pub elsewhere : (d : ℕ) → d ≢ c → after.resumed d ≡ before.resumed d
    pub ended : (d : ℕ) → after.ended d ≡ before.ended d
    pub left : (d : ℕ) → after.left d ≡ before.left d

  -- or each of them once.
  pub record ResumedAll : Type 0 where
    pub lines : (c : ℕ) → after.lines c ≡ before.lines c
    pub barriers : (c : ℕ) → after.barriers c ≡ before.barriers c
    pub resumed : (c : ℕ) → c < before.channels → after.resumed c ≡ suc (before.resumed c)
    pub ended : (c : ℕ) → after.ended c ≡ before.ended c
    pub left : (c : ℕ) → after.left c ≡ before.left c
