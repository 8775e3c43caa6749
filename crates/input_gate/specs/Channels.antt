-- All channels of a gate, in their order. That they are told by functions of the channel's number is this project's own choice.
use Rattle.std.specs.Prelude.{◌≡◌, ◌≢◌, ℕ, zero, suc, ⊤, ◌<◌, ◌≤◌, Bool, true, false, List, [], ◌∷◌, map, length, Option, Some, None, Result, Ok, Err}
use Rattle.std.specs.List.{AllByRecursion}
use Rattle.flow_defs.specs.declared.task.BarrierKind.TheVariants.{Front}
use Rattle.input_gate.specs.declared.gate.GateItem.{GateItem}
use Rattle.input_gate.specs.declared.gate.GateItem.TheVariants as items
use Rattle.input_gate.specs.declared.gate.GateEnd.{GateEnd}
use Rattle.input_gate.specs.declared.gate.GateEnd.TheVariants as ends
use Rattle.input_gate.specs.declared.lane.Lane.{Lane}
use Rattle.input_gate.specs.declared.lane.LaneFault.{LaneFault}
use Rattle.input_gate.specs.declared.lane.LaneFault.TheVariants.{Memory, TooLong, Left}
use Rattle.input_gate.specs.declared.lane.LaneStep.{LaneStep}
use Rattle.input_gate.specs.declared.lane.LaneStep.TheVariants.{Nothing, Found, Barrier}
use Rattle.input_gate.specs.declared.rounds.Round.{Round}
use Rattle.input_gate.specs.declared.rounds.Round.TheVariants as rounds
use Rattle.input_gate.specs.declared.rounds.Taken.{Taken}
use Rattle.input_gate.specs.declared.rounds.Taken.TheVariants as takes
use Rattle.turn_cell.specs.History.{StartsWith, entries_of}
use Rattle.channel_cut.specs.Cuts.{Cut, Shows}
use Rattle.gate_account.specs.Accounts.{Account, IsFree}
use Rattle.input_gate.specs.Gates.{Gave, Ended}
use Rattle.input_gate.specs.Turning.{InputCell, InputPass, Looks, looks_of, Looked}
use Rattle.input_gate.specs.Lanes.{IsLane, IsQuiet, lines_by, barriers_by, resumed_by, left_of}

-- What is kept of each fits what its pass tells.
abbrev pub AreLanes : ℕ → List Lane → Type 0
AreLanes size lanes = AllByRecursion (IsLane size) lanes

-- Nothing was given.
abbrev pub AreQuiet : List Lane → List Lane → Type 0
AreQuiet [] [] = ⊤
AreQuiet [] (y ∷ ys) = ⊥
AreQuiet (x ∷ xs) [] = ⊥
AreQuiet (x ∷ xs) (y ∷ ys) = IsQuiet x y × AreQuiet xs ys

-- Of the channel with this number; z where there is none.
abbrev pub at_of : {A : Type 0} → (Lane → A) → A → List Lane → ℕ → A
at_of f z [] c = z
at_of f z (lane ∷ lanes) zero = f lane
at_of f z (lane ∷ lanes) (suc c) = at_of f z lanes c

-- The account of the gate that has these channels.
abbrev pub account_of : List Lane → Account
account_of lanes = record {
  channels = length lanes;
  lines = λ c. at_of lines_by [] lanes c;
  barriers = λ c. at_of barriers_by [] lanes c;
  resumed = λ c. at_of resumed_by 0 lanes c;
  ended = λ c. at_of (λ lane. lane.ended) false lanes c;
  left = λ c. at_of left_of [] lanes c;
}

-- Their cells, and the passes of these.
abbrev pub cells_in : List Lane → List InputCell
cells_in lanes = map (λ lane. lane.cell.now) lanes

abbrev pub passes_in : List Lane → List InputPass
passes_in lanes = map (λ lane. lane.pass) lanes

-- What the pass of a channel has seen, and its looks.
abbrev pub looks_in : List Lane → ℕ → Looks
looks_in lanes c = at_of (λ lane. looks_of lane.pass) ([], []) lanes c

-- By which cuts they were cut.
abbrev pub shows_in : List Lane → ℕ → Cut → Type 0
shows_in lanes c = Shows [] (entries_of (looks_in lanes c).0)

-- The pass of each has seen what it had seen, or more.
abbrev pub AreLater : List Lane → List Lane → Type 0
AreLater before after = (c : ℕ) → StartsWith (looks_in after c).0 (looks_in before c).0

-- No buffer is out that was polled.
abbrev pub HaveNoSpare : List Lane → Type 0
HaveNoSpare lanes = (c : ℕ) → at_of (λ lane. lane.spare) None lanes c ≡ None

abbrev pub HaveNoSpareBelow : ℕ → List Lane → Type 0
HaveNoSpareBelow n lanes = (c : ℕ) → c < n → at_of (λ lane. lane.spare) None lanes c ≡ None

-- ---- barriers that are held back

-- Where barriers are held back, no channel has given more, and one has given as many, if any has.
pub record IsMost (gate : Account) (most : ℕ) : Type 0 where
  pub upper : (c : ℕ) → length (gate.barriers c) ≤ most
  pub reached : 0 < most → (c : ℕ) × (c < gate.channels) × (most ≤ length (gate.barriers c))

-- A barrier of the channel is not held back: where barriers are, another channel has given more.
abbrev pub MayGive : Bool → Account → ℕ → Type 0
MayGive hold gate c = hold ≡ true → (d : ℕ) × (d < gate.channels) × (length (gate.barriers c) < length (gate.barriers d))

-- ---- what a step at one channel gave

-- Why the gate gives nothing more.
abbrev pub end_of : ℕ → LaneFault → GateEnd
end_of c Memory = ends.Memory
end_of c (TooLong len) = ends.TooLong c len
end_of c (Left len) = ends.Left c len

-- What a step gave, or why it gave nothing.
abbrev pub CameAt : Bool → ℕ → List Lane → Result LaneStep LaneFault → List Lane → Type 0
CameAt hold c before (Ok Nothing) after = AreQuiet before after
CameAt hold c before (Ok Found) after = AreQuiet before after
CameAt hold c before (Ok (Barrier k kind)) after = Gave (account_of before) (account_of after) (shows_in after) hold (Ok (items.Barrier c k kind))
CameAt hold c before (Err fault) after = AreQuiet before after × Ended (account_of before) (account_of after) (end_of c fault)

-- What a look gave: nothing, or a front barrier.
abbrev pub LookedAt : Bool → ℕ → List Lane → Option ℕ → List Lane → Type 0
LookedAt hold c before None after = AreQuiet before after
LookedAt hold c before (Some k) after = Gave (account_of before) (account_of after) (shows_in after) hold (Ok (items.Barrier c k Front))

-- Where a barrier of the channel may be given and its end was not polled, there was a look between that found no front barrier.
abbrev pub HasLooked : Bool → Account → List Lane → List Lane → ℕ → Type 0
HasLooked hold gate before after c = IsFree gate c → MayGive hold gate c → at_of (λ lane. lane.ended) false after c ≡ false → Looked (looks_in before c) (looks_in after c)

-- ---- what a round gave

-- Nothing was given, for this cause, which is none of other workers.
pub record GaveUp (before after : List Lane) (end : GateEnd) : Type 0 where
  pub quiet : AreQuiet before after
  pub ended : Ended (account_of before) (account_of after) end
  pub own : end ≢ ends.Stopped

-- What a round of polls gave.
abbrev pub CameRound : Bool → List Lane → Result Round GateEnd → List Lane → Type 0
CameRound hold before (Ok rounds.Idle) after = AreQuiet before after
CameRound hold before (Ok rounds.Moved) after = AreQuiet before after
CameRound hold before (Ok (rounds.Gave c k kind)) after = Gave (account_of before) (account_of after) (shows_in after) hold (Ok (items.Barrier c k kind))
CameRound hold before (Err end) after = GaveUp before after end

-- Each channel was looked at before a line is given.
abbrev pub LookedIn : Bool → List Lane → GateItem → List Lane → Type 0
LookedIn hold before (items.Line c line) after = (d : ℕ) → d < length before → HasLooked hold (account_of before) before after d
LookedIn hold before (items.Barrier c k kind) after = ⊤
LookedIn hold before items.AllEnded after = ⊤

-- What was taken.
abbrev pub Took : Bool → List Lane → Result Taken GateEnd → List Lane → Type 0
Took hold before (Ok takes.Nothing) after = AreQuiet before after
Took hold before (Ok takes.More) after = AreQuiet before after
Took hold before (Ok (takes.Item item)) after = Gave (account_of before) (account_of after) (shows_in after) hold (Ok item) × LookedIn hold before item after
Took hold before (Err end) after = GaveUp before after end
