-- The definitions at small inputs, computed.
use Rattle.std.proofs.Common.{◌≡◌, ℕ, zero, suc, ◌<◌, ◌≤◌, false, List, [], ◌∷◌, refl, arith}
use Rattle.std.specs.Prelude.{codes}
use Rattle.flow_defs.specs.declared.job.Job.{Job}
use Rattle.flow_defs.specs.declared.job.StageKind.TheVariants.{Words, Upper, Keep, Field}
use Rattle.flow_defs.specs.declared.job.Exchange.TheVariants.{Hash, Rebalance, Forward}
use Rattle.flow_defs.specs.declared.job.AggKind.TheVariants.{Count}
use Rattle.flow_defs.specs.declared.image.TakeRun.{TakeRun}
use Rattle.flow_defs.specs.Records.{length_bytes, all_encoded, spans}
use Rattle.flow_defs.specs.Lines.{lines}
use Rattle.flow_defs.specs.Stages.{given, apply}
use Rattle.flow_defs.specs.Routes.{fnv, receiver}
use Rattle.flow_defs.specs.Aggregates.{key_of, value_of}
use Rattle.plain_machine.specs.Cuts.{Cut, start}
use Rattle.plain_machine.specs.Emitting.{count_after}
use Rattle.plain_machine.specs.Places.{sending_tasks, receiving_tasks, channels}
use Rattle.plain_machine.specs.Images.{cut_of, takes_of, saved, AreRuns}
use Rattle.flow_defs.specs.declared.image.Image.{Image}
use Rattle.std.specs.FinMap.{empty}
use Rattle.plain_machine.specs.Weaving.{woven, rests, CanWeave}
use Rattle.plain_machine.specs.Steps.{sent, taken, left, next}
use Rattle.plain_machine.specs.Worth.{to_come, load}
use Rattle.plain_machine.specs.Loads.{HasHeavyEdge}
use Rattle.plain_machine.proofs.Samples.{full}

-- ---- lines and records

line_by_line : lines (codes "a\n\nb") ≡ codes "a" ∷ [] ∷ codes "b" ∷ []
line_by_line = refl

no_lines : lines [] ≡ []
no_lines = refl

one_empty_line : lines (codes "\n") ≡ [] ∷ []
one_empty_line = refl

encodings : all_encoded (codes "a" ∷ [] ∷ []) ≡ 0 ∷ 0 ∷ 0 ∷ 1 ∷ 97 ∷ 0 ∷ 0 ∷ 0 ∷ 0 ∷ []
unfolding length_bytes
encodings = refl

read_back : spans (0 ∷ 0 ∷ 0 ∷ 1 ∷ 97 ∷ 0 ∷ 0 ∷ 0 ∷ 0 ∷ []) ≡ codes "a" ∷ [] ∷ []
unfolding spans
read_back = refl

-- ---- stages

words : given Words [] (codes " a  bc ") ≡ codes "a" ∷ codes "bc" ∷ []
words = refl

no_words : given Words [] (codes "  ") ≡ []
no_words = refl

-- the bytes beside the lower case letters stay
upper : given Upper [] (codes "`azAZ{") ≡ codes "`AZAZ{" ∷ []
upper = refl

keep : given Keep (codes "ab") (codes "abc") ≡ codes "abc" ∷ []
keep = refl

keep_none : given Keep (codes "bc") (codes "abc") ≡ []
keep_none = refl

field_two : given Field (codes "2") (codes "a,b,c") ≡ codes "b" ∷ []
field_two = refl

field_empty : given Field (codes "2") (codes "a,") ≡ [] ∷ []
field_empty = refl

field_none : given Field (codes "2") (codes "a") ≡ []
field_none = refl

-- ---- routes and keys

-- 0xaf63dc4c8601ec8c
hash_of_a : fnv (codes "a") ≡ 12638187200555641996
unfolding fnv
hash_of_a = refl

by_hash : receiver Hash (codes "a") 5 1 8 ≡ 4
unfolding fnv
by_hash = refl

in_turn : receiver Rebalance (codes "a") 5 1 3 ≡ 2
in_turn = refl

one_to_one : receiver Forward (codes "a") 5 1 3 ≡ 1
one_to_one = refl

key_of_count : key_of Count (codes "a=12") ≡ codes "a=12"
key_of_count = refl

value_of_count : value_of Count (codes "a=12") ≡ 1
value_of_count = refl

-- ---- weaving

-- the first record of one sender, both of another, and the rest of the first
abbrev both_senders : List TakeRun
both_senders = record { from = 0; count = 1 } ∷ record { from = 1; count = 2 } ∷ record { from = 0; count = 1 } ∷ []

abbrev what_they_have : ℕ → List (List ℕ)
what_they_have zero = codes "a" ∷ codes "b" ∷ codes "c" ∷ []
what_they_have (suc a) = codes "x" ∷ codes "y" ∷ []

woven_of_both : woven both_senders what_they_have ≡ codes "a" ∷ codes "x" ∷ codes "y" ∷ codes "b" ∷ []
woven_of_both = refl

rest_of_the_first : rests both_senders what_they_have 0 ≡ codes "c" ∷ []
rest_of_the_first = refl

-- no run may take three records where there are two
too_many : CanWeave (record { from = 1; count = 3 } ∷ []) what_they_have → ⊥
too_many can = let most = can.0 in omega (arith, most)

-- ---- a step: one source, words at two tasks in turn, and a count

abbrev two_stages : Job
two_stages = record {
  sources = full (full (codes "in") ∷ []);
  stages = full (record { kind = Words; arg = full []; tasks = 2; exchange = Rebalance } ∷ []);
  agg = Count;
  agg_tasks = 1;
  text = full (codes "source in\nstage words 2 rebalance\naggregate count 1\n");
}

abbrev two_lines : ℕ → List (List ℕ)
two_lines a = codes "a b" ∷ codes "c" ∷ []

-- the first task of the words takes one line, the second none, and the aggregate one word
abbrev few_takes : ℕ → ℕ → List TakeRun
few_takes (suc zero) zero = record { from = 0; count = 1 } ∷ []
few_takes (suc (suc zero)) zero = record { from = 0; count = 1 } ∷ []
few_takes _ _ = []

step : Cut
step = next two_stages two_lines start few_takes (λ a. 2)

first_sent : sent two_stages two_lines start few_takes (λ a. 2) 1 0 ≡ codes "a" ∷ codes "b" ∷ []
unfolding apply fnv
first_sent = refl

aggregate_taken : taken two_stages two_lines start few_takes (λ a. 2) 1 0 ≡ codes "a" ∷ []
unfolding apply fnv
aggregate_taken = refl

-- the second line went to the second task of the words, and the second word of the first is behind the first
second_line_left : left two_stages two_lines start few_takes (λ a. 2) 0 0 1 ≡ codes "c" ∷ []
unfolding apply fnv
second_line_left = refl

second_word_left : step.flight 1 0 0 ≡ codes "b" ∷ []
unfolding step apply fnv
second_word_left = refl

lines_emitted : step.emitted 0 0 ≡ 2
unfolding step apply fnv
lines_emitted = refl

words_emitted : step.emitted 1 0 ≡ 2
unfolding step apply fnv
words_emitted = refl

still_to_come : to_come two_stages two_lines step 1 ≡ codes "c" ∷ codes "b" ∷ []
unfolding step apply fnv
still_to_come = refl

load_of_both : load two_stages two_lines step 0 ≡ 5
unfolding step apply fnv length_bytes
load_of_both = refl

load_of_the_last : load two_stages two_lines step 1 ≡ 10
unfolding step apply fnv length_bytes
load_of_the_last = refl

-- From the start on the edge of the lines has all their encodings to carry, 7 bytes and 5, and that of the words 5 for each of three. So no
-- image of a run over these lines is too large.
lines_load : load two_stages two_lines start 0 ≡ 12
unfolding apply length_bytes
lines_load = refl

words_load : load two_stages two_lines start 1 ≡ 15
unfolding apply length_bytes
words_load = refl

no_heavy_edge : HasHeavyEdge two_stages two_lines → ⊥
no_heavy_edge heavy =
    elim heavy.edge as (λ e. e ≤ 1 → 4294967295 < load two_stages two_lines start e → ⊥) [
      | zero ↦ λ low over. omega (arith, over, lines_load)
      | suc zero ↦ λ low over. omega (arith, over, words_load)
      | suc (suc e) ↦ λ low over. omega (arith, low)
    ] heavy.is_edge heavy.over

-- after 2^64 records the count begins again
count_begins_again : count_after 18446744073709551614 (codes "a" ∷ codes "b" ∷ codes "c" ∷ []) ≡ 1
count_begins_again = refl

-- ---- the places of its tasks and channels

all_senders : sending_tasks two_stages ≡ (0, 0) ∷ (1, 0) ∷ (1, 1) ∷ []
all_senders = refl

all_receivers : receiving_tasks two_stages ≡ (1, 0) ∷ (1, 1) ∷ (2, 0) ∷ []
all_receivers = refl

all_channels : channels two_stages ≡ (0, 0, 0) ∷ (0, 0, 1) ∷ (1, 0, 0) ∷ (1, 1, 0) ∷ []
all_channels = refl

-- an image with something else at each place
abbrev placed : Image
placed = record {
  number = 1;
  final_one = false;
  text = two_stages.text;
  offsets = full (2 ∷ []);
  ended = full (false ∷ []);
  emitted = full (2 ∷ 3 ∷ 4 ∷ []);
  tables = full (empty ∷ []);
  takes = full (full [] ∷ full (record { from = 0; count = 1 } ∷ []) ∷ full (record { from = 1; count = 2 } ∷ []) ∷ []);
  saved_in = full (full (codes "a") ∷ full (codes "b") ∷ full (codes "c") ∷ full (codes "d") ∷ []);
  saved_out = full (full (codes "A") ∷ full (codes "B") ∷ full (codes "C") ∷ full (codes "D") ∷ []);
}

emitted_by_second : (cut_of two_stages placed).emitted 1 1 ≡ 4
emitted_by_second = refl

taken_by_second : takes_of two_stages placed 1 1 ≡ record { from = 0; count = 1 } ∷ []
taken_by_second = refl

taken_by_aggregate : takes_of two_stages placed 2 0 ≡ record { from = 1; count = 2 } ∷ []
taken_by_aggregate = refl

saved_of_the_last : saved two_stages placed 1 1 0 ≡ codes "dD"
saved_of_the_last = refl

-- ---- runs

run_of_second : AreRuns two_stages 1 0 (record { from = 1; count = 2 } ∷ record { from = 0; count = 1 } ∷ [])
run_of_second = (refl, omega arith, (λ h. cc), (refl, omega arith))

no_empty_run : AreRuns two_stages 1 0 (record { from = 1; count = 0 } ∷ []) → ⊥
no_empty_run runs = let some = runs.1 in omega (arith, some)

no_stranger : AreRuns two_stages 1 0 (record { from = 2; count = 1 } ∷ []) → ⊥
no_stranger runs = let on = runs.0 in cc

no_neighbours : AreRuns two_stages 1 0 (record { from = 1; count = 2 } ∷ record { from = 1; count = 1 } ∷ []) → ⊥
no_neighbours runs = runs.2 refl
