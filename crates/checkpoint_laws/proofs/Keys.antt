-- The keys of a table that counts records are no longer than these.
use Rattle.std.proofs.Common.{ℕ, suc, ◌≤◌, true, false, List, [], ◌∷◌, length, Some, None, sym, subst, arith}
use Rattle.std.specs.Prelude.{◌==◌, if◌then◌else◌, All}
use Rattle.std.specs.Option.{option_map_or}
use Rattle.std.specs.List.{AllByRecursion}
use Rattle.std.specs.FinMap.{entries, insert, entries-insert}
use Rattle.std.specs.declared.cmp.Ordering.TheVariants.{Less, Equal, Greater}
use Rattle.std.specs.FinMap.Entries.{put as put_entry, by_order}
use Rattle.std.proofs.lemmas.Cmp.{nat_list_cmp_total}
use Rattle.std.proofs.lemmas.List.Elements.{All-from_recursion, recursion_from_All}
use Rattle.flow_defs.specs.declared.job.AggKind.{AggKind}
use Rattle.flow_defs.specs.declared.job.AggKind.TheVariants.{Count, Sum, Max}
use Rattle.flow_defs.specs.Aggregates.{parted, key_of}
use Rattle.flow_defs.specs.Records.{IsShort}
use Rattle.flow_defs.specs.Tables.{Values, key_cmp, add}
use Rattle.plain_machine.specs.Images.{HasShortKeys}

abbrev HasShortKey : List ℕ × ℕ → Type 0
HasShortKey row = IsShort row.0

put_short : (key : List ℕ) (value : ℕ) (rows : List (List ℕ × ℕ)) → IsShort key → AllByRecursion HasShortKey rows → AllByRecursion HasShortKey (put_entry key_cmp key value rows)
put_short key value [] short all = (short, tt)
put_short key value (row ∷ rows) short all =
    elim (key_cmp key row.0) as (λ o. AllByRecursion HasShortKey (by_order o ((key, value) ∷ row ∷ rows) ((row.0, value) ∷ rows) (row ∷ put_entry key_cmp key value rows))) [
      | Less ↦ (short, all)
      | Equal ↦ (all.0, all.1)
      | Greater ↦ (all.0, put_short key value rows short all.1)
    ]

insert_short : (table : Values) (key : List ℕ) (value : ℕ) → IsShort key → HasShortKeys table → HasShortKeys (insert table key value)
insert_short table key value short keys =
    subst (All HasShortKey) (sym (entries-insert nat_list_cmp_total table key value))
    (All-from_recursion HasShortKey _ (put_short key value (entries table) short (recursion_from_All HasShortKey (entries table) keys)))

-- A key is no longer than its record.
key_length : (r : List ℕ) → option_map_or (λ (parts : List ℕ × List ℕ). length parts.0) (parted r) 0 ≤ length r
key_length [] = omega arith
key_length (b ∷ r) = elim (parted r) as (λ p. option_map_or (λ (parts : List ℕ × List ℕ). length parts.0) p 0 ≤ length r → option_map_or (λ (parts : List ℕ × List ℕ). length parts.0) (option_map_or (λ (parts : List ℕ × List ℕ). Some (b ∷ parts.0, parts.1)) p (if b == 61 then Some ([], r) else None)) 0 ≤ suc (length r)) [
  | Some parts ↦ λ rest. omega (arith, rest)
  | None ↦ λ rest. elim (b == 61) as (λ t. option_map_or (λ (parts : List ℕ × List ℕ). length parts.0) (if t then Some ([], r) else None) 0 ≤ suc (length r)) [
    | true ↦ omega arith
    | false ↦ omega arith
  ]
] (key_length r)

parted_short : (r : List ℕ) → IsShort r → IsShort (option_map_or (λ parts. parts.0) (parted r) r)
parted_short r short = elim (parted r) as (λ p. option_map_or (λ (parts : List ℕ × List ℕ). length parts.0) p 0 ≤ length r → IsShort (option_map_or (λ (parts : List ℕ × List ℕ). parts.0) p r)) [
  | Some parts ↦ λ within. omega (arith, within, short)
  | None ↦ λ within. short
] (key_length r)

key_short : (agg : AggKind) (r : List ℕ) → IsShort r → IsShort (key_of agg r)
key_short Count r short = short
key_short Sum r short = parted_short r short
key_short Max r short = parted_short r short

pub added_keys : (agg : AggKind) (table : Values) (r : List ℕ) → HasShortKeys table → IsShort r → HasShortKeys (add agg table r)
added_keys agg table r keys short = insert_short table (key_of agg r) _ (key_short agg r short) keys
