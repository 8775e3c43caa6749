use Rattle.std.proofs.Common.{◌≡◌, true, subst, arith}
use Rattle.std.specs.Prelude.{option_map}
use Rattle.channel_state.specs.Reading.{piece}
use Rattle.channel_state.specs.ImageFaults.{is_key}
use Rattle.channel_state.specs.Building.{AreRows}
use Rattle.channel_state.proofs.FieldLemmas.{tested_ok}
use Rattle.channel_state.proofs.BuildLemmas.{first_rows, first_above, next_row, next_above}
use Rattle.channel_state.proofs.read.read_rows.Goals as goal

pub loop-i-init : goal.loop-i-init
loop-i-init c = record {
  read = λ fits. first_rows c.args.cursor.now.rest.now c.new-table.result c.new-table.ensures fits;
  above = λ key may. first_above c.new-table.result key c.new-table.ensures;
}

pub loop-i-preserved : goal.loop-i-preserved
loop-i-preserved c =
    let before = option_map (λ key. key.now) c.loop-i.before in
    let key = c.in_ok-key.key.now in
    let rest = c.loop-i.cursor.rest.now in
    let mid = c.key.new.self.rest.now in
    let inv = c.loop-i.invariant in
    let may : is_key before key ≡ true = (tested_ok (is_key before) piece rest (key, mid) c.in_ok-key.ensures).1 in
    record {
      read = λ fits. next_row c.loop-i.table c.set.new.self before key c.in_ok-value.value c.in_ok-set.ensures.ok inv.above c.loop-i._i c.args.cursor.now.rest.now rest mid c.u64.new.self.rest.now (inv.read fits) c.in_ok-key.ensures c.in_ok-value.ensures;
      above = next_above c.loop-i.table c.set.new.self before key c.in_ok-value.value c.in_ok-set.ensures.ok inv.above may;
    }

pub returns : goal.returns
returns c = λ fits. let all : c.loop-i._i ≡ c.args.many = omega arith in subst (λ k. AreRows k c.args.cursor.now.rest.now c.loop-i.cursor.rest.now c.loop-i.table) all (c.loop-i.invariant.read fits)
