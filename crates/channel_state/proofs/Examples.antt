-- The image of one source and one counting task with a record in flight, changed and cut.
use Rattle.std.proofs.Common.{◌≡◌, ℕ, List, [], ◌∷◌, ◌++◌, length, take, set, map, Some, None, refl}
use Rattle.std.specs.Prelude.{codes}
use Rattle.flow_defs.specs.Records.{spans, length_bytes}
use Rattle.channel_state.specs.Reading.{piece, tested, parts_from}
use Rattle.channel_state.specs.ImageFaults.{source, emitted, rows, table, runs, takes, channel, body, image, image_fault}

abbrev its_bytes : List ℕ
its_bytes =
    70 ∷ 76 ∷ 87 ∷ 73 ∷ 1 ∷ 0 ∷ 0 ∷ 0 ∷ 0 ∷ 0 ∷ 0 ∷ 0 ∷ 1 ∷ 0 ∷ 0 ∷ 0 ∷ 0 ∷ 28 ∷ codes "source in\naggregate count 1\n"
    ++ 0 ∷ 0 ∷ 0 ∷ 0 ∷ 0 ∷ 0 ∷ 0 ∷ 0 ∷ 0 ∷ 0 ∷ 0 ∷ 0 ∷ 0 ∷ 0 ∷ 0 ∷ 0 ∷ 0 ∷ 0 ∷ 0 ∷ 0 ∷ 1 ∷ 0 ∷ 0 ∷ 0 ∷ 1 ∷ 97
    ∷ 0 ∷ 0 ∷ 0 ∷ 0 ∷ 0 ∷ 0 ∷ 0 ∷ 1 ∷ 0 ∷ 0 ∷ 0 ∷ 0 ∷ 0 ∷ 0 ∷ 0 ∷ 4 ∷ 0 ∷ 0 ∷ 0 ∷ 1 ∷ 0 ∷ 0 ∷ 0 ∷ 1 ∷ 97 ∷ 73 ∷ 87 ∷ 76 ∷ 70 ∷ []

whole : image_fault its_bytes ≡ None
unfolding spans length_bytes piece tested parts_from source emitted rows table runs takes channel body image
whole = refl

other_version : image_fault (set its_bytes 4 9) ≡ Some 4
unfolding spans length_bytes piece tested parts_from source emitted rows table runs takes channel body image
other_version = refl

no_record : image_fault (take 92 its_bytes ++ 0 ∷ 0 ∷ 0 ∷ 2 ∷ 98 ∷ 99 ∷ codes "IWLF") ≡ Some 92
unfolding spans length_bytes piece tested parts_from source emitted rows table runs takes channel body image
no_record = refl

byte_behind : image_fault (its_bytes ++ 0 ∷ []) ≡ Some 101
unfolding spans length_bytes piece tested parts_from source emitted rows table runs takes channel body image
byte_behind = refl

last_but_not_ended : image_fault (set its_bytes 13 1) ≡ Some 54
unfolding spans length_bytes piece tested parts_from source emitted rows table runs takes channel body image
last_but_not_ended = refl

last_with_a_piece : image_fault (set (set its_bytes 13 1) 54 1) ≡ Some 84
unfolding spans length_bytes piece tested parts_from source emitted rows table runs takes channel body image
last_with_a_piece = refl

-- cut within each field
cut : map (λ n. image_fault (take n its_bytes)) (0 ∷ 3 ∷ 4 ∷ 12 ∷ 13 ∷ 14 ∷ 45 ∷ 53 ∷ 54 ∷ 62 ∷ 66 ∷ 67 ∷ 71 ∷ 79 ∷ 83 ∷ 84 ∷ 91 ∷ 96 ∷ 97 ∷ 100 ∷ [])
    ≡ map (λ n. Some n) (0 ∷ 0 ∷ 4 ∷ 5 ∷ 13 ∷ 14 ∷ 14 ∷ 46 ∷ 54 ∷ 55 ∷ 63 ∷ 67 ∷ 67 ∷ 72 ∷ 80 ∷ 84 ∷ 84 ∷ 92 ∷ 97 ∷ 97 ∷ [])
unfolding spans length_bytes piece tested parts_from source emitted rows table runs takes channel body image
cut = refl
