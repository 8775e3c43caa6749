-- How the account of a task grows while it runs. Between two snapshots there is beside the account a
-- step from the last chapter to the one that the task would end now. This is this project's own choice.
use Rattle.std.specs.Prelude.{◌≡◌, ℕ, ◌==◌, true, List, [], ◌∷◌, ◌++◌, if◌then◌else◌, Option}
use Rattle.std.specs.List.{AllByRecursion}
use Rattle.flow_defs.specs.declared.parcel.Parcel.{Parcel}
use Rattle.flow_defs.specs.declared.parcel.Parcel.TheVariants.{Data, Barrier, End}
use Rattle.flow_defs.specs.declared.task.BarrierKind.{BarrierKind}
use Rattle.flow_defs.specs.declared.job.Job.{Job}
use Rattle.flow_defs.specs.declared.image.TakeRun.{TakeRun}
use Rattle.flow_defs.specs.declared.image.Snapshot.{Snapshot}
use Rattle.flow_defs.specs.declared.image.Image.{Image}
use Rattle.flow_defs.specs.Records.{IsShort, all_encoded}
use Rattle.flow_defs.specs.Jobs.{is_channel}
use Rattle.plain_machine.specs.Emitting.{receiver_on, emit, count_after}
use Rattle.plain_machine.specs.Images.{AreRuns}
use Rattle.plain_machine.specs.Histories.{run_senders}
use Rattle.checkpoint_laws.specs.Puts.{stretches}
use Rattle.checkpoint_laws.specs.Chapters.{Emits, RunsTake, Chapter, opening, Step, Account}

-- The last of these chapters, or the one before them where there is none.
abbrev pub last_chapter : Chapter → List Chapter → Chapter
last_chapter c [] = c
last_chapter c (d ∷ chapters) = last_chapter d chapters

-- The family with this in the place of c.
abbrev pub with_at : {X : Type 0} → ℕ → X → (ℕ → X) → ℕ → X
with_at c x family b = if c == b then x else family b

-- ---- Parcels of one channel

-- Data that are put are in the last stretch.
abbrev pub DataGrowStretch : Type 0
DataGrowStretch =
    (ps : List Parcel) (first : List (List ℕ)) (last bytes : List ℕ) →
    stretches ps ≡ first ++ last ∷ [] → stretches (ps ++ Data bytes ∷ []) ≡ first ++ (last ++ bytes) ∷ []

-- A barrier that is put, of either kind, begins a stretch.
abbrev pub BarrierBeginsStretch : Type 0
BarrierBeginsStretch = (ps : List Parcel) (k : ℕ) (kind : BarrierKind) → stretches (ps ++ Barrier k kind ∷ []) ≡ stretches ps ++ [] ∷ []

-- The end adds nothing.
abbrev pub EndAddsNothing : Type 0
EndAddsNothing = (ps : List Parcel) → stretches (ps ++ End ∷ []) ≡ stretches ps

-- ---- The account of a task

-- Before its first parcel and snapshot a task has an account.
abbrev pub AccountBegins : Type 0
AccountBegins = (job : Job) (lines : ℕ → List (List ℕ)) (every : Option ℕ) (base : Image) (i a : ℕ) → Account job lines every base i a [] [] (λ b. []) (λ b. [] ∷ [])

-- A buffer is put on the channel to task c.
abbrev pub BufferIsPut : Type 0
BufferIsPut =
    (job : Job) (lines : ℕ → List (List ℕ)) (every : Option ℕ) (base : Image) (i a : ℕ)
    (chapters : List Chapter) (sent : List Snapshot) (parcels : ℕ → List Parcel) (more : ℕ → List (List ℕ)) (c : ℕ) (first : List (List ℕ)) (last bytes : List ℕ) →
    Account job lines every base i a chapters sent parcels more → more c ≡ first ++ last ∷ [] →
    Account job lines every base i a chapters sent (with_at c (parcels c ++ Data bytes ∷ []) parcels) (with_at c (first ++ (last ++ bytes) ∷ []) more)

-- A barrier of either kind is put on the channel to task c.
abbrev pub BarrierIsPut : Type 0
BarrierIsPut =
    (job : Job) (lines : ℕ → List (List ℕ)) (every : Option ℕ) (base : Image) (i a : ℕ)
    (chapters : List Chapter) (sent : List Snapshot) (parcels : ℕ → List Parcel) (more : ℕ → List (List ℕ)) (c k : ℕ) (kind : BarrierKind) →
    Account job lines every base i a chapters sent parcels more →
    Account job lines every base i a chapters sent (with_at c (parcels c ++ Barrier k kind ∷ []) parcels) (with_at c (more c ++ [] ∷ []) more)

-- The end is put on the channel to task c.
abbrev pub EndIsPut : Type 0
EndIsPut =
    (job : Job) (lines : ℕ → List (List ℕ)) (every : Option ℕ) (base : Image) (i a : ℕ)
    (chapters : List Chapter) (sent : List Snapshot) (parcels : ℕ → List Parcel) (more : ℕ → List (List ℕ)) (c : ℕ) →
    Account job lines every base i a chapters sent parcels more →
    Account job lines every base i a chapters sent (with_at c (parcels c ++ End ∷ []) parcels) more

-- A snapshot is sent that ends the next chapter, whose data stand before the barriers that were put. The
-- task may have put more behind them.
abbrev pub SnapshotIsSent : Type 0
SnapshotIsSent =
    (job : Job) (lines : ℕ → List (List ℕ)) (every : Option ℕ) (base : Image) (i a : ℕ)
    (chapters : List Chapter) (sent : List Snapshot) (parcels : ℕ → List Parcel) (before : ℕ → List (List ℕ)) (next : Chapter) (more : ℕ → List (List ℕ)) →
    Account job lines every base i a chapters sent parcels before →
    ((b : ℕ) → is_channel job i a b ≡ true → before b ≡ next.put b ∷ more b) →
    Step job lines every i a (last_chapter (opening job base i a) chapters) next →
    Account job lines every base i a (chapters ++ next ∷ []) (sent ++ next.snapshot ∷ []) parcels more

-- ---- The chapter under way

-- More records are emitted.
abbrev pub MoreIsEmitted : Type 0
MoreIsEmitted =
    (job : Job) (e a old new : ℕ) (emitted more : List (List ℕ)) (put now : ℕ → List ℕ) →
    Emits job e a old new emitted put → AllByRecursion IsShort more →
    ((b : ℕ) → is_channel job e a b ≡ true → now b ≡ put b ++ all_encoded (emit (receiver_on job e a) new more b)) →
    Emits job e a old (count_after new more) (emitted ++ more) now

-- One more record is taken of sender a, and noted.
abbrev pub OneIsTaken : Type 0
OneIsTaken =
    (job : Job) (e b a : ℕ) (r : List ℕ) (runs now : List TakeRun) (took : List (ℕ × List ℕ)) →
    RunsTake job e b runs took → IsShort r → run_senders now ≡ run_senders runs ++ a ∷ [] → AreRuns job e b now →
    RunsTake job e b now (took ++ (a, r) ∷ [])
