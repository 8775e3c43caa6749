use Rattle.std.proofs.Common.{◌≡◌, ℕ, List, ap, ◌∙◌, sym, Option, Some, unwrap_or}
use Rattle.std.specs.Map.{lookup}
use Rattle.std.specs.FinMap.{get, insert}
use Rattle.flow_defs.specs.Aggregates.{key_of, value_of, folded}
use Rattle.job_plan.specs.Entries.{entry_values}
use Rattle.job_plan.proofs.CountLemmas.{has_bytes, set_in, get-entries}
use Rattle.job_plan.proofs.counts.add_known.Goals as goal

pub returns-in-Some-clause-known : goal.returns-in-Some-clause-known
returns-in-Some-clause-known g c _ =
    let entries = c.args.numbers.now.entries in
    let agg = c.args.agg in
    let r = c.args.record.now in
    let key = c.args.key.now.items in
    let old = c.in-Some.number.now in
    let next = c.answer.result.1 in
    let found : lookup (has_bytes key) entries ≡ Some old = sym c.in-Some.ensures.value in
    let had : get (entry_values entries) (key_of agg r) ≡ Some old = ap (get (entry_values entries)) (sym c.requires.key) ∙ get-entries entries key ∙ found in
    ap entry_values (c.get_mut.follows.holds next).0
    ∙ set_in entries key old next found
    ∙ ap (λ (k : List ℕ). insert (entry_values entries) k next) c.requires.key
    ∙ ap (insert (entry_values entries) (key_of agg r)) (c.answer.ensures.value ∙ ap (λ (o : Option ℕ). folded agg (unwrap_or o 0) (value_of agg r)) (sym had))

pub returns-in-None-clause-new : goal.returns-in-None-clause-new
returns-in-None-clause-new g c _ = get-entries c.args.numbers.now.entries c.args.key.now.items ∙ sym c.in-None.ensures.value
