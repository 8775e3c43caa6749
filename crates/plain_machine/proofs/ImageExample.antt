-- An image with one record in flight, cut between the two ends of its channel: its bytes, and what it says.
use Rattle.std.proofs.Common.{◌≡◌, ℕ, List, [], ◌∷◌, ◌++◌, length, false, refl}
use Rattle.std.specs.Prelude.{codes}
use Rattle.std.specs.FinMap.{from_sorted, entries-from_sorted}
use Rattle.flow_defs.specs.declared.image.Image.{Image}
use Rattle.flow_defs.specs.Records.{spans}
use Rattle.flow_defs.specs.Tables.{key_cmp}
use Rattle.plain_machine.specs.Images.{cut_of}
use Rattle.plain_machine.specs.Spelling.{run_part, spelling}
use Rattle.plain_machine.proofs.Samples.{full}
use Rattle.plain_machine.proofs.OneChannel.{its_job, its_text}

abbrev in_flight_one : Image
in_flight_one = record {
  number = 1;
  final_one = false;
  text = full its_text;
  offsets = full (0 ∷ []);
  ended = full (false ∷ []);
  emitted = full (0 ∷ []);
  tables = full (from_sorted ((codes "a", 1) ∷ []) ∷ []);
  takes = full (full [] ∷ []);
  saved_in = full (full (0 ∷ 0 ∷ 0 ∷ 1 ∷ []) ∷ []);
  saved_out = full (full (codes "a") ∷ []);
}

abbrev its_bytes : List ℕ
its_bytes =
    70 ∷ 76 ∷ 87 ∷ 73 ∷ 1 ∷ 0 ∷ 0 ∷ 0 ∷ 0 ∷ 0 ∷ 0 ∷ 0 ∷ 1 ∷ 0 ∷ 0 ∷ 0 ∷ 0 ∷ 28 ∷ codes "source in\naggregate count 1\n"
    ++ 0 ∷ 0 ∷ 0 ∷ 0 ∷ 0 ∷ 0 ∷ 0 ∷ 0 ∷ 0 ∷ 0 ∷ 0 ∷ 0 ∷ 0 ∷ 0 ∷ 0 ∷ 0 ∷ 0 ∷ 0 ∷ 0 ∷ 0 ∷ 1 ∷ 0 ∷ 0 ∷ 0 ∷ 1 ∷ 97
    ∷ 0 ∷ 0 ∷ 0 ∷ 0 ∷ 0 ∷ 0 ∷ 0 ∷ 1 ∷ 0 ∷ 0 ∷ 0 ∷ 0 ∷ 0 ∷ 0 ∷ 0 ∷ 4 ∷ 0 ∷ 0 ∷ 0 ∷ 1 ∷ 0 ∷ 0 ∷ 0 ∷ 1 ∷ 97 ∷ 73 ∷ 87 ∷ 76 ∷ 70 ∷ []

hundred_and_one : length its_bytes ≡ 101
hundred_and_one = refl

spelled : spelling in_flight_one ≡ its_bytes
unfolding spelling
spelled = simp (entries-from_sorted {X = ℕ} key_cmp ((codes "a", 1) ∷ []) tt)

its_flight : (cut_of its_job in_flight_one).flight 0 0 0 ≡ codes "a" ∷ []
unfolding spans
its_flight = refl

a_run : run_part (record { from = 1; count = 2 }) ≡ 0 ∷ 0 ∷ 0 ∷ 1 ∷ 0 ∷ 0 ∷ 0 ∷ 0 ∷ 0 ∷ 0 ∷ 0 ∷ 2 ∷ []
a_run = refl
