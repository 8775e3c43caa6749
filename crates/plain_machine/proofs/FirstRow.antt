-- A whole run with one checkpoint: the lines a, b and a, counted by one task.
use Rattle.std.proofs.Common.{◌≡◌, ℕ, zero, suc, ◌<◌, true, List, [], ◌∷◌, ◌++◌, length, None, refl, sym, ap, subst, ◌∙◌, arith}
use Rattle.std.specs.Prelude.{codes, slice_index, All}
use Rattle.std.proofs.lemmas.List.Elements.{All-from_recursion}
use Rattle.std.specs.FinMap.{empty, entries, entries-insert, get-entries, from_sorted, entries-from_sorted, same_entries_map}
use Rattle.std.specs.Fmt.{digits}
use Rattle.std.proofs.lemmas.Cmp.{nat_list_cmp_total}
use Rattle.flow_defs.specs.declared.job.AggKind.TheVariants.{Count}
use Rattle.flow_defs.specs.Records.{spans, IsShort}
use Rattle.flow_defs.specs.Routes.{fnv}
use Rattle.flow_defs.specs.Jobs.{tasks}
use Rattle.flow_defs.specs.Tables.{key_cmp, Values, add_all, join, table_text}
use Rattle.plain_machine.specs.Worth.{tally}
use Rattle.plain_machine.specs.Images.{HasShortKeys}
use Rattle.plain_machine.specs.Chains.{GoesToEnd, Chain}
use Rattle.plain_machine.specs.Spelling.{spelling}
use Rattle.plain_machine.proofs.KeySums.{entries-empty}
use Rattle.plain_machine.proofs.StartLemmas.{start_image, start_image_is_start}
use Rattle.plain_machine.proofs.LastLemmas.{chain_ends_in_tally}
use Rattle.plain_machine.proofs.OneChannel.{its_job, its_lines, is_job, before, At, image_at, FitsAt, FollowsAt, took, leaves, follows_at}

abbrev counted : Values
counted = from_sorted ((codes "a", 2) ∷ (codes "b", 1) ∷ [])

-- all three lines were read, sent and taken
abbrev after : At
after = record { number = 1; last = true; offset = 3; ended = true; emitted = 3; table = counted; runs = record { from = 0; count = 3 } ∷ []; bytes = [] }

-- ---- its table and its bytes

its_rows : entries counted ≡ (codes "a", 2) ∷ (codes "b", 1) ∷ []
its_rows = entries-from_sorted {X = ℕ} key_cmp ((codes "a", 2) ∷ (codes "b", 1) ∷ []) tt

its_text : table_text counted ≡ codes "a\t2\nb\t1\n"
unfolding digits
its_text = simp its_rows

abbrev its_bytes : List ℕ
its_bytes =
    70 ∷ 76 ∷ 87 ∷ 73 ∷ 1 ∷ 0 ∷ 0 ∷ 0 ∷ 0 ∷ 0 ∷ 0 ∷ 0 ∷ 1 ∷ 1 ∷ 0 ∷ 0 ∷ 0 ∷ 28 ∷ codes "source in\naggregate count 1\n"
    ++ 0 ∷ 0 ∷ 0 ∷ 0 ∷ 0 ∷ 0 ∷ 0 ∷ 3 ∷ 1 ∷ 0 ∷ 0 ∷ 0 ∷ 0 ∷ 0 ∷ 0 ∷ 0 ∷ 3 ∷ 0 ∷ 0 ∷ 0 ∷ 2
    ∷ 0 ∷ 0 ∷ 0 ∷ 1 ∷ 97 ∷ 0 ∷ 0 ∷ 0 ∷ 0 ∷ 0 ∷ 0 ∷ 0 ∷ 2 ∷ 0 ∷ 0 ∷ 0 ∷ 1 ∷ 98 ∷ 0 ∷ 0 ∷ 0 ∷ 0 ∷ 0 ∷ 0 ∷ 0 ∷ 1
    ∷ 0 ∷ 0 ∷ 0 ∷ 1 ∷ 0 ∷ 0 ∷ 0 ∷ 0 ∷ 0 ∷ 0 ∷ 0 ∷ 0 ∷ 0 ∷ 0 ∷ 0 ∷ 3 ∷ 0 ∷ 0 ∷ 0 ∷ 0 ∷ 0 ∷ 0 ∷ 0 ∷ 0 ∷ 73 ∷ 87 ∷ 76 ∷ 70 ∷ []

hundred_and_twenty_one : length its_bytes ≡ 121
hundred_and_twenty_one = refl

spelled : spelling (image_at after) ≡ its_bytes
unfolding spelling
spelled = simp its_rows

rows_of_all : entries (add_all Count empty (its_lines 0)) ≡ (codes "a", 2) ∷ (codes "b", 1) ∷ []
rows_of_all = simp (entries-insert {X = ℕ} nat_list_cmp_total, get-entries, entries-empty)

counted_is : counted ≡ add_all Count empty (its_lines 0)
counted_is = same_entries_map _ _ (its_rows ∙ sym rows_of_all)

-- ---- the image follows the start

took_all : took before after ≡ its_lines 0
unfolding fnv spans
took_all = refl

left_none : spans [] ≡ leaves before after
unfolding fnv spans
left_none = refl

short_keys : HasShortKeys counted
short_keys = subst (All (λ (row : List ℕ × ℕ). IsShort row.0)) (sym its_rows) (All-from_recursion (λ (row : List ℕ × ℕ). IsShort row.0) ((codes "a", 2) ∷ (codes "b", 1) ∷ []) (omega arith, (omega arith, tt)))

fits : FitsAt after
fits = record { keys = short_keys; runs = (refl, omega arith); spans = ([], record { whole = refl; short = tt }); last_is_ended = λ _. refl; last_is_empty = λ _. refl }

to_end : GoesToEnd its_job its_lines (image_at after)
to_end = record { offsets = offsets; ended = All-from_recursion (λ e. e ≡ true) (true ∷ []) (refl, tt); last = refl }
  where
    offsets : (a : ℕ) → a < tasks its_job 0 → slice_index (image_at after).offsets.items a ≡ length (its_lines a)
    offsets zero here = refl
    offsets (suc a) here = absurd (omega arith)

follows : FollowsAt before after None
unfolding fnv spans
follows = record {
  number = refl;
  not_last = refl;
  fits = fits;
  rise = omega arith;
  within = omega arith;
  enough = (omega arith, tt);
  emitted = refl;
  table = counted_is ∙ ap (add_all Count empty) (sym took_all);
  flight = left_none;
  goes = to_end;
}

-- so it is a chain of one from the start
pub first_row : Chain its_job its_lines None (start_image its_job) (image_at after ∷ [])
first_row = (follows_at before after None follows, tt)

-- and its table is the tally
pub first_tally : join Count (counted ∷ []) ≡ tally its_job its_lines
first_tally = chain_ends_in_tally its_job its_lines None (start_image its_job) (image_at after ∷ []) is_job (start_image_is_start its_job) first_row refl
