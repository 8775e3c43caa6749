-- The laws of the plain machine. Each is proved as a clause of a function of `laws`.
use Rattle.std.specs.Prelude.{◌≡◌, ℕ, suc, ◌<◌, ◌≤◌, ◌^◌, true, List, [], ◌∷◌, ◌++◌, length, flat_map, slice_get, Option, Some}
use Rattle.std.specs.List.{AllByRecursion, slice_index_or}
use Rattle.flow_defs.specs.declared.job.Job.{Job}
use Rattle.flow_defs.specs.declared.job.Stage.{Stage}
use Rattle.flow_defs.specs.declared.job.AggKind.{AggKind}
use Rattle.flow_defs.specs.declared.image.TakeRun.{TakeRun}
use Rattle.flow_defs.specs.declared.image.Image.{Image}
use Rattle.flow_defs.specs.Aggregates.{folded}
use Rattle.flow_defs.specs.Records.{all_encoded, spans, IsShort, IsSpans}
use Rattle.flow_defs.specs.Stages.{apply}
use Rattle.flow_defs.specs.Jobs.{last_edge, tasks, is_channel, edge_width, sum_below, IsJob}
use Rattle.std.specs.List.Sorted.{IsPermutation}
use Rattle.flow_defs.specs.Tables.{add_values, Values, add_all, join, table_of}
use Rattle.plain_machine.specs.Cuts.{Cut, start, SameCut}
use Rattle.plain_machine.specs.Emitting.{count_after, emit}
use Rattle.plain_machine.specs.Weaving.{woven, rests, CanWeave}
use Rattle.plain_machine.specs.Steps.{Rises, next}
use Rattle.plain_machine.specs.Worth.{through, concat_below, tally, worth}
use Rattle.plain_machine.specs.Places.{sending_tasks, receiving_tasks, channels, sender_place, receiver_place, channel_place}
use Rattle.plain_machine.specs.Images.{cut_of, Fits, IsStart}
use Rattle.plain_machine.specs.Chains.{Follows, Chain, last_of, IsUnchanged}
use Rattle.plain_machine.specs.Histories.{run_senders, senders, records, of_sender, Ran, IsStepOf}
use Rattle.plain_machine.specs.Recorded.{Recorded, IsSuccessor}

-- ---- Records, stages and folds

-- The encodings of short records are read back as these.
abbrev pub SpansAreRecords : Type 0
SpansAreRecords = (rs : List (List ℕ)) → AllByRecursion IsShort rs → spans (all_encoded rs) ≡ rs

-- Where the encodings of short records begin with those of others, the others come first, and the rest
-- of the bytes are the encodings of the rest of the records.
abbrev pub FrontIsRecords : Type 0
FrontIsRecords =
    (rs front : List (List ℕ)) (bytes : List ℕ) → AllByRecursion IsShort rs → AllByRecursion IsShort front →
    all_encoded rs ≡ all_encoded front ++ bytes → (rest : List (List ℕ)) × (rs ≡ front ++ rest) × IsSpans bytes rest

-- Two cuts of a channel since one base, the later one with more put and more taken, give the cut between them.
abbrev pub CutBetween : Type 0
CutBetween =
    (flight saved later : List ℕ) (put more_put took more_took : List (List ℕ)) →
    flight ++ all_encoded put ≡ all_encoded took ++ saved →
    flight ++ all_encoded (put ++ more_put) ≡ all_encoded (took ++ more_took) ++ later →
    saved ++ all_encoded more_put ≡ all_encoded more_took ++ later

-- No stage makes a record longer.
abbrev pub NoStageLengthens : Type 0
NoStageLengthens = (stage : Stage) (r : List ℕ) → AllByRecursion (λ made. length made ≤ length r) (apply stage r)

-- The values of a key may be folded in any order.
abbrev pub FoldIsCommutative : Type 0
FoldIsCommutative = (agg : AggKind) (a b : ℕ) → folded agg a b ≡ folded agg b a

-- They may be folded in any grouping.
abbrev pub FoldIsAssociative : Type 0
FoldIsAssociative = (agg : AggKind) (a b c : ℕ) → folded agg (folded agg a b) c ≡ folded agg a (folded agg b c)

-- A fold onto 0 changes no value of eight bytes.
abbrev pub ZeroIsNeutral : Type 0
ZeroIsNeutral = (agg : AggKind) (a : ℕ) → a < 2 ^ 64 → folded agg 0 a ≡ a

-- ---- Emitting

-- What is emitted in two parts comes to each task as what is emitted at once does.
abbrev pub EmittedInParts : Type 0
EmittedInParts =
    (to : ℕ → List ℕ → ℕ) (n : ℕ) (first second : List (List ℕ)) (b : ℕ) →
    emit to n (first ++ second) b ≡ emit to n first b ++ emit to (count_after n first) second b

-- It counts as much.
abbrev pub CountedInParts : Type 0
CountedInParts = (n : ℕ) (first second : List (List ℕ)) → count_after n (first ++ second) ≡ count_after (count_after n first) second

-- Of short records only short ones come to a task.
abbrev pub EmittedAreShort : Type 0
EmittedAreShort =
    (to : ℕ → List ℕ → ℕ) (n : ℕ) (rs : List (List ℕ)) (b : ℕ) → AllByRecursion IsShort rs → AllByRecursion IsShort (emit to n rs b)

-- ---- The tally and the worth

-- The tally is the table of what all lines give behind all stages.
abbrev pub TallyThroughStages : Type 0
TallyThroughStages =
    (job : Job) (lines : ℕ → List (List ℕ)) →
    tally job lines ≡ table_of job.agg (flat_map (through job.stages.items) (concat_below (tasks job 0) lines))

-- Records may be added to a table in two parts.
abbrev pub AddedInParts : Type 0
AddedInParts =
    (agg : AggKind) (table : Values) (first second : List (List ℕ)) →
    add_all agg table (first ++ second) ≡ add_all agg (add_all agg table first) second

-- Values of keys may be added in any order.
abbrev pub AddedInAnyOrder : Type 0
AddedInAnyOrder =
    (agg : AggKind) (table : Values) (rows others : List (List ℕ × ℕ)) → IsPermutation rows others →
    add_values agg table others ≡ add_values agg table rows

-- A successor keeps the worth. For this it is enough that no source goes back.
abbrev pub SuccessorKeepsWorth : Type 0
SuccessorKeepsWorth =
    (job : Job) (lines : ℕ → List (List ℕ)) (cut : Cut) (takes : ℕ → ℕ → List TakeRun) (offsets : ℕ → ℕ) →
    IsJob job → Rises job cut.offsets offsets → worth job lines (next job lines cut takes offsets) ≡ worth job lines cut

-- The worth of the start is the tally of all lines.
abbrev pub StartIsWorthTally : Type 0
StartIsWorthTally = (job : Job) (lines : ℕ → List (List ℕ)) → worth job lines start ≡ tally job lines

-- Cuts that agree at the tasks and channels of a job are worth the same.
abbrev pub SameCutSameWorth : Type 0
SameCutSameWorth = (job : Job) (lines : ℕ → List (List ℕ)) (c d : Cut) → SameCut job c d → worth job lines c ≡ worth job lines d

-- ---- Chains

-- The worth stays along a chain.
abbrev pub ChainKeepsWorth : Type 0
ChainKeepsWorth =
    (job : Job) (lines : ℕ → List (List ℕ)) (every : Option ℕ) (base : Image) (images : List Image) →
    IsJob job → Chain job lines every base images →
    worth job lines (cut_of job (last_of base images)) ≡ worth job lines (cut_of job base)

-- From the start on it is the tally.
abbrev pub ChainIsWorthTally : Type 0
ChainIsWorthTally =
    (job : Job) (lines : ℕ → List (List ℕ)) (every : Option ℕ) (base : Image) (images : List Image) →
    IsJob job → IsStart job base → Chain job lines every base images →
    worth job lines (cut_of job (last_of base images)) ≡ tally job lines

-- A chain that ends in a last image has there the worth in its tables. This holds of a base that is a last image, too.
abbrev pub ChainEndsInWorth : Type 0
ChainEndsInWorth =
    (job : Job) (lines : ℕ → List (List ℕ)) (every : Option ℕ) (base : Image) (images : List Image) →
    IsJob job → Fits job base → IsUnchanged job lines base → Chain job lines every base images →
    (last_of base images).final_one ≡ true → join job.agg (last_of base images).tables.items ≡ worth job lines (cut_of job base)

-- From the start on it has the tally there.
abbrev pub ChainEndsInTally : Type 0
ChainEndsInTally =
    (job : Job) (lines : ℕ → List (List ℕ)) (every : Option ℕ) (base : Image) (images : List Image) →
    IsJob job → IsStart job base → Chain job lines every base images →
    (last_of base images).final_one ≡ true → join job.agg (last_of base images).tables.items ≡ tally job lines

-- A chain goes on from its last image.
abbrev pub ChainGoesOn : Type 0
ChainGoesOn =
    (job : Job) (lines : ℕ → List (List ℕ)) (every : Option ℕ) (base : Image) (images more : List Image) →
    Chain job lines every base images → Chain job lines every (last_of base images) more → Chain job lines every base (images ++ more)

-- Images of which each follows the one before it are a chain.
abbrev pub StepsMakeChain : Type 0
StepsMakeChain =
    (job : Job) (lines : ℕ → List (List ℕ)) (every : Option ℕ) (base : Image) (images : List Image) →
    ((i : ℕ) → i < length images → Follows job lines every (slice_index_or (base ∷ images) i base) (slice_index_or images i base)) →
    Chain job lines every base images

-- Each job has an image that is its start.
abbrev pub StartExists : Type 0
StartExists = (job : Job) → (image : Image) × IsStart job image

-- At it the job stands where nothing is done.
abbrev pub StartIsStart : Type 0
StartIsStart = (job : Job) (image : Image) → IsStart job image → SameCut job (cut_of job image) start

-- ---- From what tasks did to steps

-- A task that took these records, and of each sender the first ones of what was there, took what the
-- runs of its senders weave, and left the rests.
abbrev pub TakesAreWoven : Type 0
TakesAreWoven =
    (runs : List TakeRun) (took : List (ℕ × List ℕ)) (avail rest : ℕ → List (List ℕ)) →
    run_senders runs ≡ senders took → ((a : ℕ) → avail a ≡ of_sender a took ++ rest a) →
    CanWeave runs avail × (woven runs avail ≡ records took) × ((a : ℕ) → rests runs avail a ≡ rest a)

-- What all tasks did is the machine's step.
abbrev pub RunsAreSteps : Type 0
RunsAreSteps =
    (job : Job) (lines : ℕ → List (List ℕ)) (cut : Cut) (takes : ℕ → ℕ → List TakeRun) (offsets : ℕ → ℕ)
    (took : ℕ → ℕ → List (ℕ × List ℕ)) (put : ℕ → ℕ → List (List ℕ)) (rest : ℕ → ℕ → ℕ → List (List ℕ)) →
    Ran job lines cut takes offsets took put rest → IsStepOf job lines cut takes offsets took put rest

-- A run from the start to the end of all lines that leaves nothing on any channel has the tally in its tables.
abbrev pub WholeRunGivesTally : Type 0
WholeRunGivesTally =
    (job : Job) (lines : ℕ → List (List ℕ)) (takes : ℕ → ℕ → List TakeRun) (took : ℕ → ℕ → List (ℕ × List ℕ)) (put : ℕ → ℕ → List (List ℕ)) →
    IsJob job → Ran job lines start takes (λ a. length (lines a)) took put (λ e a b. []) →
    join job.agg (concat_below (tasks job (suc (last_edge job))) (λ b. table_of job.agg (records (took (last_edge job) b)) ∷ [])) ≡ tally job lines

-- An image that is recorded is the successor of the one before it.
abbrev pub RecordedIsSuccessor : Type 0
RecordedIsSuccessor =
    (job : Job) (lines : ℕ → List (List ℕ)) (old new : Image) (took : ℕ → ℕ → List (ℕ × List ℕ)) (put : ℕ → ℕ → List (List ℕ)) →
    Fits job old → Recorded job lines old new took put → IsSuccessor job lines old new

-- ---- Places

-- Each task that sends stands at its place among these.
abbrev pub SendersStandInOrder : Type 0
SendersStandInOrder =
    (job : Job) (i a : ℕ) → i ≤ last_edge job → a < tasks job i → slice_get (sending_tasks job) (sender_place job i a) ≡ Some (i, a)

-- Each task that receives stands at its place among these.
abbrev pub ReceiversStandInOrder : Type 0
ReceiversStandInOrder =
    (job : Job) (e b : ℕ) → e ≤ last_edge job → b < tasks job (suc e) → slice_get (receiving_tasks job) (receiver_place job e b) ≡ Some (suc e, b)

-- Each channel stands at its place among all channels.
abbrev pub ChannelsStandInOrder : Type 0
ChannelsStandInOrder =
    (job : Job) (e a b : ℕ) → IsJob job → is_channel job e a b ≡ true → slice_get (channels job) (channel_place job e a b) ≡ Some (e, a, b)

-- There are as many channels as the edges are wide.
abbrev pub ChannelsFillEdges : Type 0
ChannelsFillEdges = (job : Job) → IsJob job → length (channels job) ≡ sum_below (suc (last_edge job)) (edge_width job)
