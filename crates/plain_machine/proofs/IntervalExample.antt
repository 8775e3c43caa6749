-- A run with a checkpoint every two lines, of which the first has a record in flight: the lines a, b
-- and a, counted by one task. It stores three images, two and one for each two lines.
use Rattle.std.proofs.Common.{◌≡◌, ℕ, zero, suc, ◌+◌, ◌<◌, true, false, List, [], ◌∷◌, length, Some, refl, sym, subst, ◌∙◌, arith}
use Rattle.std.specs.Prelude.{codes, slice_index, slice_get, min, nat_lt, All}
use Rattle.std.proofs.lemmas.List.Elements.{All-from_recursion, recursion_from_All}
use Rattle.std.specs.FinMap.{entries, entries-insert, get-entries}
use Rattle.std.proofs.lemmas.Cmp.{nat_list_cmp_total}
use Rattle.flow_defs.specs.declared.job.AggKind.TheVariants.{Count}
use Rattle.flow_defs.specs.Records.{length_bytes, spans, IsShort}
use Rattle.flow_defs.specs.Routes.{fnv}
use Rattle.flow_defs.specs.Jobs.{tasks}
use Rattle.flow_defs.specs.Tables.{table_of}
use Rattle.plain_machine.specs.Images.{HasShortKeys, AllEnded}
use Rattle.plain_machine.specs.Counts.{images_to_end}
use Rattle.plain_machine.specs.Chains.{GoesBy, Chain}
use Rattle.plain_machine.proofs.KeySums.{entries-empty}
use Rattle.plain_machine.proofs.StartLemmas.{start_image}
use Rattle.plain_machine.proofs.OneChannel.{its_job, its_lines, before, At, image_at, FollowsAt, follows_at}

-- two lines were read, and one of them taken
abbrev pub first : At
first = record { number = 1; last = false; offset = 2; ended = false; emitted = 2; table = table_of Count (codes "a" ∷ []); runs = record { from = 0; count = 1 } ∷ []; bytes = 0 ∷ 0 ∷ 0 ∷ 1 ∷ codes "b" }

-- the third line was read, and what was in flight was taken with it; two more lines there were not
abbrev pub second : At
second = record { number = 2; last = false; offset = 3; ended = true; emitted = 3; table = table_of Count (codes "a" ∷ codes "b" ∷ codes "a" ∷ []); runs = record { from = 0; count = 2 } ∷ []; bytes = [] }

-- nothing was left to do
abbrev third : At
third = record { number = 3; last = true; offset = 3; ended = true; emitted = 3; table = second.table; runs = []; bytes = [] }

rows_of_one : entries (table_of Count (codes "a" ∷ [])) ≡ (codes "a", 1) ∷ []
rows_of_one = simp (entries-insert {X = ℕ} nat_list_cmp_total, get-entries, entries-empty)

rows_of_all : entries (table_of Count (codes "a" ∷ codes "b" ∷ codes "a" ∷ [])) ≡ (codes "a", 2) ∷ (codes "b", 1) ∷ []
rows_of_all = simp (entries-insert {X = ℕ} nat_list_cmp_total, get-entries, entries-empty)

abbrev ShortKey : List ℕ × ℕ → Type 0
ShortKey row = IsShort row.0

short_one : HasShortKeys (table_of Count (codes "a" ∷ []))
short_one = subst (All ShortKey) (sym rows_of_one) (All-from_recursion ShortKey ((codes "a", 1) ∷ []) (omega arith, tt))

short_all : HasShortKeys (table_of Count (codes "a" ∷ codes "b" ∷ codes "a" ∷ []))
short_all = subst (All ShortKey) (sym rows_of_all) (All-from_recursion ShortKey ((codes "a", 2) ∷ (codes "b", 1) ∷ []) (omega arith, (omega arith, tt)))

-- ---- how far the source goes

goes : (p q : At) → q.offset ≡ min (p.offset + 2) 3 → q.ended ≡ nat_lt 3 (p.offset + 2) → q.last ≡ p.ended → GoesBy its_job its_lines 2 (image_at p) (image_at q)
goes p q offset ended last = record { offsets = offsets; ended = ends; last = (to, from) }
  where
    offsets : (a : ℕ) → a < tasks its_job 0 → slice_index (image_at q).offsets.items a ≡ min (slice_index (image_at p).offsets.items a + 2) (length (its_lines a))
    offsets zero here = offset
    offsets (suc a) here = absurd (omega arith)

    ends : (a : ℕ) → a < tasks its_job 0 → slice_get (image_at q).ended.items a ≡ Some (nat_lt (length (its_lines a)) (slice_index (image_at p).offsets.items a + 2))
    ends zero here = subst (λ b. Some q.ended ≡ Some b) ended refl
    ends (suc a) here = absurd (omega arith)

    to : q.last ≡ true → AllEnded (image_at p)
    to is = All-from_recursion (λ e. e ≡ true) (p.ended ∷ []) (sym last ∙ is, tt)

    «from» : AllEnded (image_at p) → q.last ≡ true
    «from» all = last ∙ (recursion_from_All (λ e. e ≡ true) (p.ended ∷ []) all).0

-- ---- each follows the one before

pub follows_first : FollowsAt before first (Some 2)
unfolding fnv spans length_bytes
follows_first = record {
  number = refl;
  not_last = refl;
  fits = record { keys = short_one; runs = (refl, omega arith); spans = (codes "b" ∷ [], record { whole = refl; short = (omega arith, tt) }); last_is_ended = λ h. cc; last_is_empty = λ h. cc };
  rise = omega arith;
  within = omega arith;
  enough = (omega arith, tt);
  emitted = refl;
  table = refl;
  flight = refl;
  goes = goes before first refl refl refl;
}

follows_second : FollowsAt first second (Some 2)
unfolding fnv spans
follows_second = record {
  number = refl;
  not_last = refl;
  fits = record { keys = short_all; runs = (refl, omega arith); spans = ([], record { whole = refl; short = tt }); last_is_ended = λ h. cc; last_is_empty = λ h. cc };
  rise = omega arith;
  within = omega arith;
  enough = (omega arith, tt);
  emitted = refl;
  table = refl;
  flight = refl;
  goes = goes first second refl refl refl;
}

follows_third : FollowsAt second third (Some 2)
unfolding fnv spans
follows_third = record {
  number = refl;
  not_last = refl;
  fits = record { keys = short_all; runs = tt; spans = ([], record { whole = refl; short = tt }); last_is_ended = λ _. refl; last_is_empty = λ _. refl };
  rise = omega arith;
  within = omega arith;
  enough = tt;
  emitted = refl;
  table = refl;
  flight = refl;
  goes = goes second third refl refl refl;
}

pub every_two_lines : Chain its_job its_lines (Some 2) (start_image its_job) (image_at first ∷ image_at second ∷ image_at third ∷ [])
every_two_lines = (follows_at before first (Some 2) follows_first, (follows_at first second (Some 2) follows_second, (follows_at second third (Some 2) follows_third, tt)))

-- the law counts as many
three_images : images_to_end its_job its_lines (Some 2) ≡ 3
three_images = refl
