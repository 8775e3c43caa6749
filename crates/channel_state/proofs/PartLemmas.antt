-- Parts, rows and runs one after another, as a loop passes them.
use Rattle.std.proofs.Common.{◌≡◌, ℕ, zero, suc, ◌+◌, ◌-◌, ◌<◌, ◌≤◌, List, [], ◌∷◌, ◌++◌, Option, Some, None, Result, Ok, Err, refl, sym, ap, ◌∙◌, arith}
use Rattle.std.specs.Prelude.{nat_le}
use Rattle.std.specs.Int.{w32, w64}
use Rattle.flow_defs.specs.declared.job.Job.{Job}
use Rattle.channel_state.specs.Reading.{Reading, Passing, ◌>>=◌, number, piece, tested, parts_from}
use Rattle.channel_state.specs.ImageFaults.{is_key, is_sender, rows, runs}

next_is : (i : ℕ) → i + 1 ≡ suc i
next_is i = omega arith

one_left : (i n : ℕ) → i < n → n - i ≡ suc (n - (i + 1))
one_left i n low = omega arith

none_left : (i n : ℕ) → n ≤ i → n - i ≡ 0
none_left i n high = omega arith

module _ (part : ℕ → List ℕ → Passing) (i n : ℕ) (rest : List ℕ) (total : Passing) (so_far : parts_from i (n - i) part rest ≡ total) where
  step : i < n → total ≡ (part i rest >>= λ after. parts_from (suc i) (n - (i + 1)) part after)
  unfolding parts_from
  step low = sym so_far ∙ ap (λ m. parts_from i m part rest) (one_left i n low)

  pub part_passed : i < n → (after : List ℕ) → part i rest ≡ Ok after → parts_from (i + 1) (n - (i + 1)) part after ≡ total
  part_passed low after is =
      ap (λ j. parts_from j (n - (i + 1)) part after) (next_is i) ∙ sym (step low ∙ ap (λ (r : Passing). r >>= λ after. parts_from (suc i) (n - (i + 1)) part after) is)

  pub part_fails : i < n → (left : ℕ) → part i rest ≡ Err left → total ≡ Err left
  part_fails low left is = step low ∙ ap (λ (r : Passing). r >>= λ after. parts_from (suc i) (n - (i + 1)) part after) is

  pub parts_done : n ≤ i → total ≡ Ok rest
  unfolding parts_from
  parts_done high = sym so_far ∙ ap (λ m. parts_from i m part rest) (none_left i n high)

module _ (i n : ℕ) (before : Option (List ℕ)) (rest : List ℕ) (total : Passing) (so_far : rows (n - i) before rest ≡ total) where
  row_step : i < n → total ≡ (tested (is_key before) piece rest >>= λ key. number w64 key.1 >>= λ value. rows (n - (i + 1)) (Some key.0) value.1)
  unfolding rows
  row_step low = sym so_far ∙ ap (λ m. rows m before rest) (one_left i n low)

  key_passed : i < n → (key : List ℕ × List ℕ) → tested (is_key before) piece rest ≡ Ok key → total ≡ (number w64 key.1 >>= λ value. rows (n - (i + 1)) (Some key.0) value.1)
  key_passed low key is = row_step low ∙ ap (λ (r : Reading (List ℕ)). r >>= λ key. number w64 key.1 >>= λ value. rows (n - (i + 1)) (Some key.0) value.1) is

  pub row_passed : i < n → (key mid : List ℕ) (value : ℕ) (after : List ℕ) → tested (is_key before) piece rest ≡ Ok (key, mid) → number w64 mid ≡ Ok (value, after) → rows (n - (i + 1)) (Some key) after ≡ total
  row_passed low key mid value after is that = sym (key_passed low (key, mid) is ∙ ap (λ (r : Reading ℕ). r >>= λ value. rows (n - (i + 1)) (Some key) value.1) that)

  pub key_fails : i < n → (left : ℕ) → tested (is_key before) piece rest ≡ Err left → total ≡ Err left
  key_fails low left is = row_step low ∙ ap (λ (r : Reading (List ℕ)). r >>= λ key. number w64 key.1 >>= λ value. rows (n - (i + 1)) (Some key.0) value.1) is

  pub value_fails : i < n → (key mid : List ℕ) (left : ℕ) → tested (is_key before) piece rest ≡ Ok (key, mid) → number w64 mid ≡ Err left → total ≡ Err left
  value_fails low key mid left is that = key_passed low (key, mid) is ∙ ap (λ (r : Reading ℕ). r >>= λ value. rows (n - (i + 1)) (Some key) value.1) that

  pub rows_done : n ≤ i → total ≡ Ok rest
  unfolding rows
  rows_done high = sym so_far ∙ ap (λ m. rows m before rest) (none_left i n high)

module _ (job : Job) (e b i n : ℕ) (before : Option ℕ) (rest : List ℕ) (total : Passing) (so_far : runs job e b (n - i) before rest ≡ total) where
  run_step : i < n → total ≡ (tested (is_sender job e b before) (number w32) rest >>= λ sender. tested (nat_le 1) (number w64) sender.1 >>= λ count. runs job e b (n - (i + 1)) (Some sender.0) count.1)
  unfolding runs
  run_step low = sym so_far ∙ ap (λ m. runs job e b m before rest) (one_left i n low)

  sender_passed : i < n → (sender : ℕ × List ℕ) → tested (is_sender job e b before) (number w32) rest ≡ Ok sender → total ≡ (tested (nat_le 1) (number w64) sender.1 >>= λ count. runs job e b (n - (i + 1)) (Some sender.0) count.1)
  sender_passed low sender is = run_step low ∙ ap (λ (r : Reading ℕ). r >>= λ sender. tested (nat_le 1) (number w64) sender.1 >>= λ count. runs job e b (n - (i + 1)) (Some sender.0) count.1) is

  pub run_passed : i < n → (sender : ℕ) (mid : List ℕ) (count : ℕ) (after : List ℕ) → tested (is_sender job e b before) (number w32) rest ≡ Ok (sender, mid) → tested (nat_le 1) (number w64) mid ≡ Ok (count, after)
      → runs job e b (n - (i + 1)) (Some sender) after ≡ total
  run_passed low sender mid count after is that = sym (sender_passed low (sender, mid) is ∙ ap (λ (r : Reading ℕ). r >>= λ count. runs job e b (n - (i + 1)) (Some sender) count.1) that)

  pub sender_fails : i < n → (left : ℕ) → tested (is_sender job e b before) (number w32) rest ≡ Err left → total ≡ Err left
  sender_fails low left is = run_step low ∙ ap (λ (r : Reading ℕ). r >>= λ sender. tested (nat_le 1) (number w64) sender.1 >>= λ count. runs job e b (n - (i + 1)) (Some sender.0) count.1) is

  pub count_fails : i < n → (sender : ℕ) (mid : List ℕ) (left : ℕ) → tested (is_sender job e b before) (number w32) rest ≡ Ok (sender, mid) → tested (nat_le 1) (number w64) mid ≡ Err left → total ≡ Err left
  count_fails low sender mid left is that = sender_passed low (sender, mid) is ∙ ap (λ (r : Reading ℕ). r >>= λ count. runs job e b (n - (i + 1)) (Some sender) count.1) that

  pub runs_done : n ≤ i → total ≡ Ok rest
  unfolding runs
  runs_done high = sym so_far ∙ ap (λ m. runs job e b m before rest) (none_left i n high)
